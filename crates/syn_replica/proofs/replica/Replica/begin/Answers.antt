use Rattle.std.proofs.Common.{◌≡◌, ◌≢◌, ◌<◌, ◌≤◌, Some, length, sym, ap, ◌∙◌, refl, subst}
use Rattle.std.proofs.Common.{None, arith}
use Rattle.std.proofs.lemmas.Bool.{eq-eqb, false≢true, ne_eqb}
use Rattle.std.specs.Prelude.{IfOk}
use Rattle.syn_replica.specs.Refusals.{begin_refusals, check_begin_refusals}
use Rattle.syn_replica.specs.ErrorRefusals.{refusal_of}
use Rattle.syn_replica.specs.Steps.{begin_refusal_at}
use Rattle.syn_model.specs.Event.{Began}
use Rattle.syn_model.specs.History.{History, last_session}
use Rattle.syn_replica.specs.Replica.{IsHalted, Stands, pair_of, room_shown, standing_shown}
use Rattle.syn_replica.proofs.RoomLemmas.{added_refusals, begun_among, room_at}
use Rattle.syn_replica.proofs.RoomLemmas.{room_passed}
use Rattle.syn_replica.proofs.SessionLemmas.{any_room, begin_cause, begin_refused, begins_again}
use Rattle.syn_replica.proofs.SessionLemmas.{begun_size, event_free, not_begun, one_longer}
use Rattle.syn_replica.proofs.SessionLemmas.{own_pair, rest_at}
use Rattle.syn_replica.proofs.StandLemmas.{kept_unwritten}
use Rattle.syn_model.specs.Refusal as why
use Rattle.syn_replica.proofs.RefusalLemmas.{inner_refusals, never, inner_among}
use Rattle.syn_replica.proofs.RefusalLemmas.{or_outside, not_full_device, not_full_halted}
use Rattle.syn_replica.proofs.CallLemmas.{done_before, exits_early, exits_halted, not_refused}
use Rattle.syn_replica.proofs.MachineLemmas.{exits_so}
use Rattle.syn_replica.specs.Machines.{WritesUnlessDone}
use Rattle.syn_replica.specs.Calls.{Writes, unless}
use Rattle.syn_journal.specs.Endings.{ended}
use Rattle.std.proofs.lemmas.Option.{none-some}
use Rattle.syn_replica.proofs.replica.Replica.begin.Given.{Over}
use Rattle.syn_replica.proofs.replica.Replica.begin.Goals as goal
use Rattle.syn_replica.proofs.replica.Replica.begin.Goals.{In_ok-check_begin, In_err-check_begin}
use Rattle.syn_replica.proofs.replica.Replica.begin.Goals.{In_err-check_room}

-- ---- what the check tells

runs : (g : Over) (c : In_ok-check_begin g) → ¬ IsHalted c.args.self.now
runs g c halted = not_refused _ _ (c.in_ok-check_begin.ensures.halted.1 halted)

allowed : (g : Over) (c : In_ok-check_begin g) →
    begin_refusal_at 9 (pair_of c.args.self.now) (standing_shown c.args.self.now) c.args.pair
    c.args.session ≡ None
allowed g c =
    sym (c.in_ok-check_begin.ensures.refusal 9 (omega (arith, begun_size c.args.session))
    (runs g c))

pub returns-clause-acknowledged : goal.returns-clause-acknowledged
returns-clause-acknowledged g c history stands =
    let session = c.args.session in
    let last : c.last_session.result ≡ last_session history = c.last_session.ensures
    ∙ ap (λ s. s.session) stands.remembers.standing in
    let other : session ≢ last_session history =
    λ same. c.if-session-last_session.false (same ∙ sym last) in
    subst (λ (h : History). IfOk c.commit.result (λ position. (position ≡ length h)
    × Stands c.commit.new.self h)) (sym (not_begun history session other))
    (one_longer c.commit.result history (Began session) _ (c.commit.ensures.acknowledged history
    (Began session) stands c.in_ok-payload.ensures.adds))

pub returns-clause-any_moment : goal.returns-clause-any_moment
returns-clause-any_moment g c history stands =
    c.commit.ensures.any_moment history (Began c.args.session) stands c.in_ok-payload.ensures.adds

pub returns-in_err-check_begin-clause-any_moment :
    goal.returns-in_err-check_begin-clause-any_moment
returns-in_err-check_begin-clause-any_moment g c history stands =
    kept_unwritten g.met.D.Disk.only_now c.args.self.now history stands _

pub returns-in_err-check_room-clause-any_moment : goal.returns-in_err-check_room-clause-any_moment
returns-in_err-check_room-clause-any_moment g c history stands =
    kept_unwritten g.met.D.Disk.only_now c.args.self.now history stands _

-- ---- the check refuses it

pub returns-in_err-check_begin-clause-again : goal.returns-in_err-check_begin-clause-again
returns-in_err-check_begin-clause-again g c same last running =
    let replica = c.args.self.now in
    absurd (none-some _ (sym (c.in_err-check_begin.ensures.refusal 9
    (omega (arith, begun_size c.args.session)) running
    ∙ begins_again 9 (pair_of replica) (standing_shown replica) c.args.pair c.args.session same
    last)))

told : (g : Over) (c : In_err-check_begin g) (history : History) → Stands c.args.self.now history →
    begin_refusal_at (room_shown c.args.self.now) (pair_of c.args.self.now)
    (standing_shown c.args.self.now) c.args.pair c.args.session
    ≡ Some (refusal_of c.in_err-check_begin.field-0.0)
told g c history stands =
    let replica = c.args.self.now in
    any_room (pair_of replica) (standing_shown replica) c.args.pair c.args.session
    (room_shown replica) _ (sym (c.in_err-check_begin.ensures.refusal 9
    (omega (arith, begun_size c.args.session))
    (λ halted. false≢true (sym stands.runs.running ∙ halted))))

pub returns-in_err-check_begin-clause-cause : goal.returns-in_err-check_begin-clause-cause
returns-in_err-check_begin-clause-cause g c history stands =
    let k = (goal.at.returns-in_err-check_begin-clause-cause g c).In_err-check_begin in
    begin_cause (room_shown c.args.self.now) (pair_of c.args.self.now)
    (standing_shown c.args.self.now) c.args.pair c.args.session c.from_residual.result _ history
    c.from_residual.ensures.1 stands.remembers.standing (told g k history stands)

pub returns-in_err-check_begin-clause-refused : goal.returns-in_err-check_begin-clause-refused
returns-in_err-check_begin-clause-refused g c history why stands =
    let k = (goal.at.returns-in_err-check_begin-clause-refused g c).In_err-check_begin in
    begin_refused (room_shown c.args.self.now) (pair_of c.args.self.now)
    (standing_shown c.args.self.now) c.args.pair c.args.session c.from_residual.result _ history
    c.from_residual.ensures.1 stands.remembers.standing (told g k history stands) why

-- ---- there is no room

long : (g : Over) (c : In_err-check_room g) →
    begin_refusal_at (room_shown c.args.self.now) (pair_of c.args.self.now)
    (standing_shown c.args.self.now) c.args.pair c.args.session
    ≡ Some (refusal_of c.in_err-check_room.field-0.0)
long g c =
    let replica = c.args.self.now in
    let standing = standing_shown replica in
    let none = allowed g (goal.at.In_err-check_room g c).In_ok-check_begin in
    let other = λ (same : c.args.session ≡ standing.session).
    c.if-session-last_session.false (same ∙ sym c.last_session.ensures) in
    rest_at (room_shown replica) (pair_of replica) standing c.args.pair c.args.session
    (own_pair (pair_of replica) standing c.args.pair c.args.session none) other
    ∙ (room_at (room_shown replica) standing (Began c.args.session)
    (event_free (pair_of replica) standing c.args.pair c.args.session none other)
    (subst (λ n. room_shown replica < n) (sym (begun_size c.args.session))
    c.in_err-check_room.ensures.refused.1)
    ∙ sym (ap (λ e. Some (refusal_of e)) c.in_err-check_room.ensures.refused.0))

pub returns-in_err-check_room-clause-cause : goal.returns-in_err-check_room-clause-cause
returns-in_err-check_room-clause-cause g c history stands =
    let k = (goal.at.returns-in_err-check_room-clause-cause g c).In_err-check_room in
    begin_cause (room_shown c.args.self.now) (pair_of c.args.self.now)
    (standing_shown c.args.self.now) c.args.pair c.args.session
    c.from_residual-in_err-check_room.result _ history
    c.from_residual-in_err-check_room.ensures.1 stands.remembers.standing (long g k)

pub returns-in_err-check_room-clause-refused : goal.returns-in_err-check_room-clause-refused
returns-in_err-check_room-clause-refused g c history why stands =
    let k = (goal.at.returns-in_err-check_room-clause-refused g c).In_err-check_room in
    begin_refused (room_shown c.args.self.now) (pair_of c.args.self.now)
    (standing_shown c.args.self.now) c.args.pair c.args.session
    c.from_residual-in_err-check_room.result _ history
    c.from_residual-in_err-check_room.ensures.1 stands.remembers.standing (long g k) why

-- ---- nothing stands against it

pub prepare-requires-clause-checked : goal.prepare-requires-clause-checked
prepare-requires-clause-checked g c =
    let k = (goal.at.prepare-requires-clause-checked g c).In_ok-check_begin in
    let replica = c.args.self.now in
    event_free (pair_of replica) (standing_shown replica) c.args.pair c.args.session (allowed g k)
    (λ same. c.if-session-last_session.false (same ∙ sym c.last_session.ensures))

pub commit-requires-clause-running : goal.commit-requires-clause-running
commit-requires-clause-running g c =
    runs g (goal.at.commit-requires-clause-running g c).In_ok-check_begin

pub returns-clause-cause : goal.returns-clause-cause
returns-clause-cause g c history stands =
    or_outside _ c.commit.result c.commit.ensures.refusals

pub returns-clause-refused : goal.returns-clause-refused
returns-clause-refused g c history why stands e =
    let k = (goal.at.returns-clause-refused g c).In_ok-check_begin in
    let replica = c.args.self.now in
    let standing = standing_shown replica in
    let none = allowed g k in
    let other = λ (same : c.args.session ≡ standing.session).
    c.if-session-last_session.false (same ∙ sym c.last_session.ensures) in
    let free = event_free (pair_of replica) standing c.args.pair c.args.session none other in
    let passed = rest_at (room_shown replica) (pair_of replica) standing c.args.pair
    c.args.session (own_pair (pair_of replica) standing c.args.pair c.args.session none) other
    ∙ room_passed (room_shown replica) standing (Began c.args.session) free
    (subst (λ n. n ≤ room_shown replica) (sym (begun_size c.args.session))
    c.in_ok-check_room.ensures.room) in
    absurd (none-some _ (sym passed ∙ (ap (λ s. begin_refusal_at (room_shown replica)
    (pair_of replica) s c.args.pair c.args.session) stands.remembers.standing ∙ e)))

pub returns-clause-refusals : goal.returns-clause-refusals
returns-clause-refusals g c =
    added_refusals begin_refusals refl refl _ (begun_among (room_shown c.args.self.now)
    (standing_shown c.args.self.now) c.args.session) c.commit.result
    (or_outside _ c.commit.result c.commit.ensures.refusals)

-- ---- the machine

pub returns-in_err-check_begin-clause-machine : goal.returns-in_err-check_begin-clause-machine
returns-in_err-check_begin-clause-machine g c =
    exits_halted c.args.self.now c.from_residual.result _ _ c.from_residual.ensures.1
    (never check_begin_refusals why.Device refl _ c.in_err-check_begin.ensures.refusals)
    c.in_err-check_begin.ensures.halted

pub returns-then-session-last_session-clause-machine :
    goal.returns-then-session-last_session-clause-machine
returns-then-session-last_session-clause-machine g c =
    let old = c.args.self.now in
    let last = c.if-session-last_session.true ∙ c.last_session.ensures in
    subst (λ b. Writes old old (unless b (Began c.args.session)) None)
    (sym (eq-eqb c.args.session _ last))
    (done_before old (λ h. not_refused _ _ (c.in_ok-check_begin.ensures.halted.1 h)))

pub returns-in_err-check_room-clause-machine : goal.returns-in_err-check_room-clause-machine
returns-in_err-check_room-clause-machine g c =
    let full = ap refusal_of c.in_err-check_room.ensures.refused.0 in
    exits_early c.args.self.now c.from_residual-in_err-check_room.result _ _
    c.from_residual-in_err-check_room.ensures.1
    (λ h. not_refused _ _ (c.in_ok-check_begin.ensures.halted.1 h))
    (λ halted. not_full_halted (sym full ∙ halted)) (λ device. not_full_device (sym full ∙ device))

pub returns-in_err-payload-clause-machine : goal.returns-in_err-payload-clause-machine
returns-in_err-payload-clause-machine g c =
    let among = inner_among (standing_shown c.args.self.now) (Began c.args.session) _
    c.in_err-payload.ensures.refused in
    exits_early c.args.self.now c.from_residual-in_err-payload.result _ _
    c.from_residual-in_err-payload.ensures.1
    (λ h. not_refused _ _ (c.in_ok-check_begin.ensures.halted.1 h))
    (never inner_refusals why.Halted refl _ among) (never inner_refusals why.Device refl _ among)

pub returns-clause-machine : goal.returns-clause-machine
returns-clause-machine g c =
    subst (λ b. Writes c.args.self.now c.commit.new.self (unless b (Began c.args.session))
    (ended refusal_of c.commit.result))
    (sym (ne_eqb c.args.session _
    (λ same. c.if-session-last_session.false (same ∙ sym c.last_session.ensures))))
    (c.commit.ensures.machine (Began c.args.session) c.in_ok-payload.ensures.adds)

-- ---- what it is to the model's machine

pub returns-in_err-check_begin-clause-world : goal.returns-in_err-check_begin-clause-world
returns-in_err-check_begin-clause-world g c number machine is =
    exits_so c.args.self.now number machine is c.from_residual.result _ _
    c.from_residual.ensures.1
    (never check_begin_refusals why.Device refl _ c.in_err-check_begin.ensures.refusals)

pub returns-then-session-last_session-clause-world :
    goal.returns-then-session-last_session-clause-world
returns-then-session-last_session-clause-world g c number machine is =
    let last = c.if-session-last_session.true ∙ c.last_session.ensures in
    subst (λ b. WritesUnlessDone c.args.self.now number machine
    (unless b (Began c.args.session)) None) (sym (eq-eqb c.args.session _ last)) is

pub returns-in_err-check_room-clause-world : goal.returns-in_err-check_room-clause-world
returns-in_err-check_room-clause-world g c number machine is =
    exits_so c.args.self.now number machine is c.from_residual-in_err-check_room.result _ _
    c.from_residual-in_err-check_room.ensures.1 (λ device. not_full_device
    (sym (ap refusal_of c.in_err-check_room.ensures.refused.0) ∙ device))

pub returns-in_err-payload-clause-world : goal.returns-in_err-payload-clause-world
returns-in_err-payload-clause-world g c number machine is =
    exits_so c.args.self.now number machine is c.from_residual-in_err-payload.result _ _
    c.from_residual-in_err-payload.ensures.1 (never inner_refusals why.Device refl _
    (inner_among (standing_shown c.args.self.now) (Began c.args.session) _
    c.in_err-payload.ensures.refused))

pub returns-clause-world : goal.returns-clause-world
returns-clause-world g c number machine is =
    subst (λ b. WritesUnlessDone c.commit.new.self number machine
    (unless b (Began c.args.session)) (ended refusal_of c.commit.result))
    (sym (ne_eqb c.args.session _
    (λ same. c.if-session-last_session.false (same ∙ sym c.last_session.ensures))))
    (c.commit.ensures.world number machine (Began c.args.session) is
    c.in_ok-payload.ensures.adds)
