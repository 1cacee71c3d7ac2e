use Rattle.std.proofs.Common.{◌≡◌, ◌⊎◌, ◌<◌, ◌++◌, ◌∷◌, [], Some, None, inl, inr, length}
use Rattle.std.proofs.Common.{refl, true≢false, sym, ap, ◌∙◌, subst}
use Rattle.std.specs.Prelude.{IfOk, IfErr}
use Rattle.syn_disk.specs.Stops.{LeavesOnly}
use Rattle.syn_model.specs.Event.{Replaced}
use Rattle.syn_model.specs.History.{History}
use Rattle.syn_model.specs.Refusal.{Device}
use Rattle.syn_model.specs.Refusal as refusal
use Rattle.syn_history.specs.Events.{token_of}
use Rattle.syn_tree.specs.Nodes.{part_of}
use Rattle.syn_replica.specs.Refusals.{IsOneOf, outside_refusals, replace_refusals}
use Rattle.syn_replica.specs.ErrorRefusals.{refusal_of}
use Rattle.syn_replica.specs.Replica.{Stands, KeepsBeforeOrAfter, room_shown}
use Rattle.syn_replica.specs.Replica.{standing_shown, disk_of}
use Rattle.syn_replica.specs.Steps.{is_done_at, replace_refusal}
use Rattle.syn_replica.specs.inner.Additions.{add_refusal_at, checking_refusals}
use Rattle.syn_replica.proofs.RoomLemmas.{added_refusals, refused_at, replaced_among, room_at}
use Rattle.syn_replica.proofs.RoomLemmas.{update_refused}
use Rattle.syn_replica.proofs.RefusalLemmas.{inner_among, inner_refusals, never, not_full_device}
use Rattle.syn_replica.proofs.RefusalLemmas.{not_full_halted, or_outside, same_refusal}
use Rattle.syn_model.proofs.ExitLemmas.{if_err_of_exit, is_err_of_exit}
use Rattle.syn_replica.proofs.CallLemmas.{done_before, exits_early, exits_halted, not_refused}
use Rattle.syn_replica.proofs.MachineLemmas.{exits_so}
use Rattle.syn_replica.specs.Machines.{WritesRecord, WritesUnlessDone}
use Rattle.syn_replica.specs.declared.error.ReplicaError.TheVariants.{Memory}
use Rattle.syn_replica.specs.Calls.{Writes, unless}
use Rattle.syn_journal.specs.Endings.{ended}
use Rattle.syn_replica.proofs.SessionLemmas.{not_done, one_longer, replaced_as}
use Rattle.syn_replica.proofs.StandLemmas.{kept_unwritten}
use Rattle.syn_replica.proofs.replica.Replica.replace.Given.{Over}
use Rattle.syn_replica.proofs.replica.Replica.replace.Goals as goal
use Rattle.syn_replica.proofs.replica.Replica.replace.Goals.{In_ok-path, In_err-check_room}

pub returns-clause-acknowledged : goal.returns-clause-acknowledged
returns-clause-acknowledged g c history stands =
    let token = token_of c.args.token in
    let since = c.args.since in
    let new = part_of c.args.new in
    let may = c.in_ok-may_replace.ensures.allowed c.if-not-branch.false in
    let done = ap (λ s. is_done_at s token) (sym stands.remembers.standing) ∙ may.not_done in
    let after = ap (λ q. history ++ Replaced token q since new ∷ []) c.in_ok-path.ensures
    ∙ sym (not_done history token c.args.path.now since new done) in
    let event = Replaced token c.in_ok-path.path since new in
    subst (λ (h : History). IfOk c.commit.result
    (λ position. (position ≡ length h) × Stands c.commit.new.self h)) after
    (one_longer c.commit.result history event _
    (c.commit.ensures.acknowledged history event stands c.in_ok-payload.ensures.adds))

pub returns-clause-any_moment : goal.returns-clause-any_moment
returns-clause-any_moment g c history stands =
    let token = token_of c.args.token in
    let may = c.in_ok-may_replace.ensures.allowed c.if-not-branch.false in
    subst (λ q. LeavesOnly g.D.Disk.moment g.D.Disk.left_since (disk_of c.args.self.now)
    (disk_of c.commit.new.self) (KeepsBeforeOrAfter c.args.self.now history
    (Replaced token q c.args.since (part_of c.args.new))))
    c.in_ok-path.ensures (c.commit.ensures.any_moment history
    (Replaced token c.in_ok-path.path c.args.since (part_of c.args.new)) stands
    c.in_ok-payload.ensures.adds)

-- ---- it was not made ready

-- once the place is checked, the cause is the one by the room and the standing
rest : (g : Over) (c : In_ok-path g) (history : History) → Stands c.args.self.now history →
    add_refusal_at (room_shown c.args.self.now) (standing_shown c.args.self.now)
    (Replaced (token_of c.args.token) c.in_ok-path.path c.args.since (part_of c.args.new))
    ≡ replace_refusal (room_shown c.args.self.now) history (token_of c.args.token) c.args.path.now
    c.args.since (part_of c.args.new)
rest g c history stands =
    let same = stands.remembers.standing in
    let may = c.in_ok-may_replace.ensures.allowed c.if-not-branch.false in
    replaced_as (room_shown c.args.self.now) history (token_of c.args.token) c.args.path.now
    c.args.since (part_of c.args.new) (standing_shown c.args.self.now) c.in_ok-path.path same
    c.in_ok-path.ensures may.not_old
    (c.in_ok-may_replace.ensures.untouched history same c.if-not-branch.false)

pub returns-in_err-payload-clause-cause : goal.returns-in_err-payload-clause-cause
returns-in_err-payload-clause-cause g c history stands =
    let event =
    Replaced (token_of c.args.token) c.in_ok-path.path c.args.since (part_of c.args.new) in
    subst (λ r. IfErr c.from_residual-in_err-payload.result
    (λ e. IsOneOf outside_refusals e ⊎ (r ≡ Some (refusal_of e))))
    (rest g (goal.at.returns-in_err-payload-clause-cause g c).In_ok-path history stands)
    (update_refused (room_shown c.args.self.now) (standing_shown c.args.self.now) event
    c.from_residual-in_err-payload.result _ c.from_residual-in_err-payload.ensures.1
    c.in_err-payload.ensures.refused)

pub returns-in_err-payload-clause-refused : goal.returns-in_err-payload-clause-refused
returns-in_err-payload-clause-refused g c history why stands done e =
    let k = (goal.at.returns-in_err-payload-clause-refused g c).In_ok-path in
    let event =
    Replaced (token_of c.args.token) c.in_ok-path.path c.args.since (part_of c.args.new) in
    let error = c.in_err-payload.field-0.0 in
    is_err_of_exit c.from_residual-in_err-payload.result error
    (λ x. (refusal_of x ≡ why) ⊎ (refusal_of x ≡ refusal.Memory))
    c.from_residual-in_err-payload.ensures.1 (elim c.in_err-payload.ensures.refused
    as (λ _. (refusal_of error ≡ why) ⊎ (refusal_of error ≡ refusal.Memory)) [
      | inl memory ↦ inr memory
      | inr cause ↦ inl (same_refusal error why _ (sym (rest g k history stands) ∙ refused_at
          (room_shown c.args.self.now) (standing_shown c.args.self.now) event _ cause) e)
    ])

pub returns-in_err-payload-clause-refusals : goal.returns-in_err-payload-clause-refusals
returns-in_err-payload-clause-refusals g c =
    let room = room_shown c.args.self.now in
    let standing = standing_shown c.args.self.now in
    let new = part_of c.args.new in
    added_refusals replace_refusals refl refl _ (replaced_among room standing
    (token_of c.args.token) c.in_ok-path.path c.args.since new)
    c.from_residual-in_err-payload.result (update_refused room standing
    (Replaced (token_of c.args.token) c.in_ok-path.path c.args.since new)
    c.from_residual-in_err-payload.result _ c.from_residual-in_err-payload.ensures.1
    c.in_err-payload.ensures.refused)

pub returns-in_err-payload-clause-machine : goal.returns-in_err-payload-clause-machine
returns-in_err-payload-clause-machine g c =
    let event = Replaced (token_of c.args.token) c.in_ok-path.path c.args.since
    (part_of c.args.new) in
    let among = inner_among (standing_shown c.args.self.now) event _
    c.in_err-payload.ensures.refused in
    exits_early c.args.self.now c.from_residual-in_err-payload.result _ _
    c.from_residual-in_err-payload.ensures.1
    (λ h. not_refused _ _ (c.in_ok-may_replace.ensures.halted.1 h))
    (never inner_refusals refusal.Halted refl _ among)
    (never inner_refusals refusal.Device refl _ among)

-- ---- there was no room

pub returns-in_err-check_room-clause-any_moment : goal.returns-in_err-check_room-clause-any_moment
returns-in_err-check_room-clause-any_moment g c history stands =
    kept_unwritten g.met.D.Disk.only_now c.args.self.now history stands _

full : (g : Over) (c : In_err-check_room g) (history : History) → Stands c.args.self.now history →
    replace_refusal (room_shown c.args.self.now) history (token_of c.args.token) c.args.path.now
    c.args.since (part_of c.args.new) ≡ Some (refusal_of c.in_err-check_room.field-0.0)
full g c history stands =
    let room = room_shown c.args.self.now in
    let event =
    Replaced (token_of c.args.token) c.in_ok-path.path c.args.since (part_of c.args.new) in
    let adds = c.in_ok-payload.ensures.adds in
    let told = c.in_err-check_room.ensures.refused in
    let long = subst (λ n. room < n) (c.len.ensures ∙ (c.in_ok-payload.payload.ok.0
    ∙ ap length adds.spelled)) told.1 in
    sym (rest g (goal.at.In_err-check_room g c).In_ok-path history stands)
    ∙ (room_at room (standing_shown c.args.self.now) event adds.allowed.not_refused long
    ∙ sym (ap (λ x. Some (refusal_of x)) told.0))

pub returns-in_err-check_room-clause-cause : goal.returns-in_err-check_room-clause-cause
returns-in_err-check_room-clause-cause g c history stands =
    let k = (goal.at.returns-in_err-check_room-clause-cause g c).In_err-check_room in
    if_err_of_exit c.from_residual-in_err-check_room.result c.in_err-check_room.field-0.0 _
    c.from_residual-in_err-check_room.ensures.1 (inr (full g k history stands))

pub returns-in_err-check_room-clause-refused : goal.returns-in_err-check_room-clause-refused
returns-in_err-check_room-clause-refused g c history why stands done e =
    let k = (goal.at.returns-in_err-check_room-clause-refused g c).In_err-check_room in
    let error = c.in_err-check_room.field-0.0 in
    is_err_of_exit c.from_residual-in_err-check_room.result error
    (λ x. (refusal_of x ≡ why) ⊎ (refusal_of x ≡ refusal.Memory))
    c.from_residual-in_err-check_room.ensures.1
    (inl (same_refusal error why _ (full g k history stands) e))

pub returns-in_err-check_room-clause-machine : goal.returns-in_err-check_room-clause-machine
returns-in_err-check_room-clause-machine g c =
    let full = ap refusal_of c.in_err-check_room.ensures.refused.0 in
    exits_early c.args.self.now c.from_residual-in_err-check_room.result _ _
    c.from_residual-in_err-check_room.ensures.1
    (λ h. not_refused _ _ (c.in_ok-may_replace.ensures.halted.1 h))
    (λ halted. not_full_halted (sym full ∙ halted)) (λ device. not_full_device (sym full ∙ device))

-- ---- it was sent to the disk

pub returns-clause-cause : goal.returns-clause-cause
returns-clause-cause g c history stands =
    or_outside _ c.commit.result c.commit.ensures.refusals

pub returns-then-not-branch-clause-any_moment : goal.returns-then-not-branch-clause-any_moment
returns-then-not-branch-clause-any_moment g c history stands =
    kept_unwritten g.met.D.Disk.only_now c.args.self.now history stands _

pub returns-in_err-may_replace-clause-any_moment : goal.returns-in_err-may_replace-clause-any_moment
returns-in_err-may_replace-clause-any_moment g c history stands =
    kept_unwritten g.met.D.Disk.only_now c.args.self.now history stands _

pub returns-in_err-path-clause-any_moment : goal.returns-in_err-path-clause-any_moment
returns-in_err-path-clause-any_moment g c history stands =
    kept_unwritten g.met.D.Disk.only_now c.args.self.now history stands _

pub returns-in_err-path-clause-machine : goal.returns-in_err-path-clause-machine
returns-in_err-path-clause-machine g c =
    exits_early c.args.self.now c.from_residual-in_err-path.result Memory _
    c.from_residual-in_err-path.ensures.1
    (λ h. not_refused _ _ (c.in_ok-may_replace.ensures.halted.1 h)) (λ is. cc is) (λ is. cc is)

pub returns-in_err-path-clause-world : goal.returns-in_err-path-clause-world
returns-in_err-path-clause-world g c number machine is =
    exits_so c.args.self.now number machine is c.from_residual-in_err-path.result Memory _
    c.from_residual-in_err-path.ensures.1 (λ is. cc is)

pub returns-clause-again : goal.returns-clause-again
returns-clause-again g c history stands again =
    let token = token_of c.args.token in
    let may = c.in_ok-may_replace.ensures.allowed c.if-not-branch.false in
    absurd (true≢false (sym again
    ∙ (ap (λ s. is_done_at s token) (sym stands.remembers.standing) ∙ may.not_done)))

pub returns-clause-refusals : goal.returns-clause-refusals
returns-clause-refusals g c =
    added_refusals replace_refusals refl refl _ (replaced_among (room_shown c.args.self.now)
    (standing_shown c.args.self.now) (token_of c.args.token) c.in_ok-path.path c.args.since
    (part_of c.args.new)) c.commit.result
    (or_outside _ c.commit.result c.commit.ensures.refusals)

-- ---- the machine

pub returns-then-not-branch-clause-machine : goal.returns-then-not-branch-clause-machine
returns-then-not-branch-clause-machine g c =
    let old = c.args.self.now in
    let token = token_of c.args.token in
    subst (λ b. Writes old old
    (unless b (Replaced token c.args.path.now c.args.since (part_of c.args.new))) None)
    (sym (c.in_ok-may_replace.ensures.done c.if-not-branch.true))
    (done_before old (λ h. not_refused _ _ (c.in_ok-may_replace.ensures.halted.1 h)))

pub returns-in_err-may_replace-clause-machine : goal.returns-in_err-may_replace-clause-machine
returns-in_err-may_replace-clause-machine g c =
    exits_halted c.args.self.now c.from_residual.result _ _ c.from_residual.ensures.1
    (never checking_refusals refusal.Device refl _ c.in_err-may_replace.ensures.refusals)
    c.in_err-may_replace.ensures.halted

pub returns-clause-machine : goal.returns-clause-machine
returns-clause-machine g c =
    let token = token_of c.args.token in
    let new = part_of c.args.new in
    let may = c.in_ok-may_replace.ensures.allowed c.if-not-branch.false in
    subst (λ b. Writes c.args.self.now c.commit.new.self
    (unless b (Replaced token c.args.path.now c.args.since new)) (ended refusal_of c.commit.result))
    (sym may.not_done)
    (subst (λ q. Writes c.args.self.now c.commit.new.self
    (Some (Replaced token q c.args.since new)) (ended refusal_of c.commit.result))
    c.in_ok-path.ensures
    (c.commit.ensures.machine (Replaced token c.in_ok-path.path c.args.since new)
    c.in_ok-payload.ensures.adds))

-- ---- what it is to the model's machine

pub returns-in_err-may_replace-clause-world : goal.returns-in_err-may_replace-clause-world
returns-in_err-may_replace-clause-world g c number machine is =
    exits_so c.args.self.now number machine is c.from_residual.result _ _
    c.from_residual.ensures.1
    (never checking_refusals refusal.Device refl _ c.in_err-may_replace.ensures.refusals)

pub returns-then-not-branch-clause-world : goal.returns-then-not-branch-clause-world
returns-then-not-branch-clause-world g c number machine is =
    subst (λ b. WritesUnlessDone c.args.self.now number machine (unless b
    (Replaced (token_of c.args.token) c.args.path.now c.args.since (part_of c.args.new))) None)
    (sym (c.in_ok-may_replace.ensures.done c.if-not-branch.true)) is

pub returns-in_err-payload-clause-world : goal.returns-in_err-payload-clause-world
returns-in_err-payload-clause-world g c number machine is =
    let event = Replaced (token_of c.args.token) c.in_ok-path.path c.args.since
    (part_of c.args.new) in
    exits_so c.args.self.now number machine is c.from_residual-in_err-payload.result _ _
    c.from_residual-in_err-payload.ensures.1 (never inner_refusals refusal.Device refl _
    (inner_among (standing_shown c.args.self.now) event _ c.in_err-payload.ensures.refused))

pub returns-in_err-check_room-clause-world : goal.returns-in_err-check_room-clause-world
returns-in_err-check_room-clause-world g c number machine is =
    exits_so c.args.self.now number machine is c.from_residual-in_err-check_room.result _ _
    c.from_residual-in_err-check_room.ensures.1 (λ device. not_full_device
    (sym (ap refusal_of c.in_err-check_room.ensures.refused.0) ∙ device))

pub returns-clause-world : goal.returns-clause-world
returns-clause-world g c number machine is =
    let token = token_of c.args.token in
    let new = part_of c.args.new in
    let may = c.in_ok-may_replace.ensures.allowed c.if-not-branch.false in
    subst (λ b. WritesUnlessDone c.commit.new.self number machine
    (unless b (Replaced token c.args.path.now c.args.since new)) (ended refusal_of c.commit.result))
    (sym may.not_done)
    (subst (λ q. WritesRecord c.commit.new.self number machine
    (Replaced token q c.args.since new) (ended refusal_of c.commit.result)) c.in_ok-path.ensures
    (c.commit.ensures.world number machine (Replaced token c.in_ok-path.path c.args.since new) is
    c.in_ok-payload.ensures.adds))
