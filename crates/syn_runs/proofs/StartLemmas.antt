-- A start and an opening of the coordinator in the picture, and what its session then
-- remembers.
use Rattle.std.proofs.Common.{◌≡◌, ◌≢◌, ◌<◌, ◌+◌, ℕ, zero, suc, Bool, true, false, not, ◌==◌}
use Rattle.std.proofs.Common.{nat_le, true≢false, List, ◌∷◌, ◌++◌, filter_map, fold, refl, sym, ap}
use Rattle.std.proofs.Common.{ap₂, ◌∙◌, subst, Option, Some, None, option_map, is_some, append-nil}
use Rattle.std.proofs.Common.{arith, inl, inr, []}
use Rattle.std.specs.Prelude.{Contains, IfSome, IsSome, IsSomeAnd, All}
use Rattle.std.proofs.lemmas.Bool.Decides.{nat_tests}
use Rattle.std.proofs.lemmas.List.Sums.{fold-append}
use Rattle.std.proofs.lemmas.List.Elements.{All-nil, All-cons, All-contains_itself}
use Rattle.std.proofs.lemmas.List.Elements.{filter_map-append}
use Rattle.syn_model.specs.Limits.{greatest}
use Rattle.syn_model.specs.Refusal.{Full, BadMessage, first_cause}
use Rattle.syn_model.specs.Archive.{Archive, Kept, Session, CanKeep}
use Rattle.syn_machine.specs.Machine.{Up, Journaled}
use Rattle.syn_machine.specs.Side.{Request, Begin, ListAt, IsLawfulRequest}
use Rattle.syn_model.specs.Path.{Path}
use Rattle.syn_machine.specs.Network.{Which, Left, Right, Message, Asks, Sent, NumbersTell}
use Rattle.syn_machine.specs.Network.{AsksNothingTwice}
use Rattle.syn_runs.specs.Acknowledged.{Ack, Kept_by, kept_in, since_start}
use Rattle.syn_machine.specs.Planning.{Log}
use Rattle.syn_machine.specs.Report.{Report}
use Rattle.syn_machine.specs.Coordinator.{IsShown, Outstanding, Running, CoordinatorMachine, Call}
use Rattle.syn_machine.specs.Coordinator.{WasAsked, AsksOnce, Keeps, new_session, begins, asking}
use Rattle.syn_machine.specs.Coordinator.{sent_now, asked_count, CoordinatorStarts, AreRising}
use Rattle.syn_machine.specs.Coordinator as fine
use Rattle.syn_runs.specs.World as fine_world
use Rattle.syn_runs.specs.World.{coordinator_goes, Start}
use Rattle.syn_machine.specs.MachineSteps.{refused_by}
use Rattle.syn_runs.specs.Picture.{Picture, Follows, RunsOver, IsNext, StartsFrom, IsOfSession}
use Rattle.syn_runs.specs.Picture as picture
use Rattle.syn_runs.proofs.Invariant.{Plans, histories_of, IsHarmless, IsKept}
use Rattle.syn_runs.proofs.SideSteps.{if_some}
use Rattle.syn_runs.proofs.StepLemmas.{next_fresh}
use Rattle.syn_runs.specs.Runs.{picture_of, session_picture, coordinator_picture}
use Rattle.syn_runs.proofs.Walks.{IsLeft, writes_left, keeps_due, IsSettledBy}
use Rattle.syn_runs.proofs.Remembers.{Remembers, asking_remembers, asking_tells, asking_once}
use Rattle.syn_runs.proofs.InOrder.{asking_in_order, nothing_in_order, for_side}
use Rattle.syn_runs.proofs.Tells.{Tells}
use Rattle.syn_runs.proofs.Sessions.{IsHeard, GoesBeside, heard_beside}

-- a call that gives nothing
pub nothing_given : (old : fine_world.World) →
    picture_of (coordinator_goes old old.coordinator fine.no_call) ≡ picture_of old
nothing_given old =
    let one : Sent → List Ack → Picture = λ sent acks. record (picture_of old)
    { sent = sent; acknowledged = acks; reports = old.reports ++ []; log = old.log ++ [] } in
    let two : List (Report × ℕ) → Log →
    Picture = λ reports log. record (picture_of old) { reports = reports; log = log } in
    ap₂ one (append-nil old.sent) (append-nil old.acknowledged)
    ∙ ap₂ two (append-nil old.reports) (append-nil old.log)

given_beside : (old : fine_world.World) →
    GoesBeside old (coordinator_goes old old.coordinator fine.no_call)
given_beside old =
    record {
      more = [];
      acks = [];
      sent = refl;
      no_request = λ side session n q c. absurd (omega (arith, c.1));
      says =
          λ side session n reply path later above position entries c. absurd (omega (arith, c.1));
      log = append-nil old.log;
      archive = refl;
      acknowledged = refl;
      nothing_kept = refl;
    }

pub heard_still : (old : fine_world.World) → IfSome old.coordinator.running (IsHeard old) →
    IfSome old.coordinator.running (IsHeard (coordinator_goes old old.coordinator fine.no_call))
heard_still old h =
    if_some old.coordinator.running (IsHeard old)
    (IsHeard (coordinator_goes old old.coordinator fine.no_call)) h (λ r _ h. heard_beside old
    (coordinator_goes old old.coordinator fine.no_call) r (given_beside old) h)

-- nothing is being written where a machine is up
up_unwritten : (plans : Plans) (old : fine_world.World) → IsKept plans (picture_of old) →
    old.coordinator.journal.status ≡ Up → old.coordinator.journal.writing ≡ None
up_unwritten plans old k up = by old.coordinator.journal.writing refl
  where
    by : (o : Option Kept) → old.coordinator.journal.writing ≡ o → o ≡ None
    by None at = refl
    by (Some what) at =
        let h = subst (λ o. IfSome o (λ kept. (old.coordinator.journal.status ≢ Up)
        × ((picture_of old).coordinator.running ≡ None) × CanKeep old.coordinator.journal.value kept
        × IsHarmless plans (histories_of (picture_of old)) kept)) at k.coordinator.writing in
        absurd (h.0 up)

-- A start

not_begin : {pair : ℕ} (path : Path) → Contains (Begin pair ∷ []) (ListAt path) → ⊥
not_begin {pair} path (zero, h, e) = let x : Begin pair ≡ ListAt path = e in cc
not_begin path (suc i, h, e) = omega (arith, h)

next_can : (archive : Archive) (session : ℕ) → nat_le greatest archive.last_session ≡ false →
    session ≡ archive.last_session + 1 → CanKeep archive (Session session)
next_can archive session smaller next =
    record {
      lawful = tt;
      not_refused = by (nat_le greatest archive.last_session)
          (session == archive.last_session + 1) smaller
          (same session (archive.last_session + 1) next);
    }
  where
    same : (m n : ℕ) → m ≡ n → (m == n) ≡ true
    same m n e = grind (arith, nat_tests)

    by : (a b : Bool) → a ≡ false → b ≡ true →
        first_cause ((a, Full) ∷ (not b, BadMessage) ∷ []) ≡ None
    by false true e f = refl
    by true b e f = absurd (true≢false e)
    by false false e f = absurd (true≢false (sym f))

module _ (preference : Option Which) (plans : Plans) (old : fine_world.World)
    (k : IsKept plans (picture_of old)) (up : old.coordinator.journal.status ≡ Up)
    (idle : old.coordinator.running ≡ None)
    (smaller : nat_le greatest old.coordinator.journal.value.last_session ≡ false) where
  new_remembers : (session : ℕ) → session ≡ old.coordinator.journal.value.last_session + 1 →
      Remembers old.sent (new_session preference session)
  new_remembers session next = record {
    taken = λ e c. absurd (omega (arith, c.1));
    waiting = λ side one c. none_waits side one c;
    asked =
        λ side n q c. let kept = (k.sound.asked side session n q c).session_kept in
        absurd (omega (arith, kept, next));
    below = λ side n q w. none_asked side n q w;
    rising = none_rise;
  }
    where
      none_rise : (side : Which) → AreRising (fine.outstanding (new_session preference session)
          side)
      none_rise Left i j d before less = absurd (omega (arith, less))
      none_rise Right i j d before less = absurd (omega (arith, less))

      none_waits : (side : Which) (one : Outstanding) →
          Contains (fine.outstanding (new_session preference session) side) one →
          Contains old.sent (Asks side session one.number one.request)
      none_waits Left one c = absurd (omega (arith, c.1))
      none_waits Right one c = absurd (omega (arith, c.1))

      none_asked : (side : Which) (n : ℕ) (q : Request) → WasAsked (new_session preference session)
          side n q →
          n < asked_count (new_session preference session) side
      none_asked side n q (inl taken) = absurd (let c = taken.1 in omega (arith, c.1))
      none_asked Left n q (inr waits) = absurd (let c = waits.1 in omega (arith, c.1))
      none_asked Right n q (inr waits) = absurd (let c = waits.1 in omega (arith, c.1))

  first_number : (session n : ℕ) (q : Request) (side : Which) →
      WasAsked (asking (new_session preference session) (begins old.pair) (begins old.pair)) side n
      q → n ≡ 0
  first_number session n q side (inl taken) = absurd (let c = taken.1 in omega (arith, c.1))
  first_number session n q Left (inr (resent, (zero, h, e))) = sym (ap (λ o. o.number) e)
  first_number session n q Left (inr (resent, (suc i, h, e))) = absurd (omega (arith, h))
  first_number session n q Right (inr (resent, (zero, h, e))) = sym (ap (λ o. o.number) e)
  first_number session n q Right (inr (resent, (suc i, h, e))) = absurd (omega (arith, h))

  begins_once : (session : ℕ) →
      AsksOnce (asking (new_session preference session) (begins old.pair) (begins old.pair))
  begins_once session side m n a b c d again =
      first_number session m a side c ∙ sym (first_number session n b side d)

  module _ (session : ℕ) (next : session ≡ old.coordinator.journal.value.last_session + 1) where
    can : CanKeep old.coordinator.journal.value (Session session)
    can = next_can old.coordinator.journal.value session smaller next

    is_next : IsNext old.coordinator.journal.value (Session session)
    is_next = ap Session next

    left_so : (journal : Journaled Archive Kept) (kept : List Kept) →
        Keeps old.pair old.coordinator.journal (Session session) journal kept →
        IsLeft old.coordinator.journal journal kept (IsNext old.coordinator.journal.value)
    left_so journal kept keeps =
        writes_left old.pair old.coordinator.journal journal (Session session) kept
        (IsNext old.coordinator.journal.value) up (up_unwritten plans old k up) can is_next keeps

    begins_goes : (journal : Journaled Archive Kept) (kept : List Kept) (running : Option Running)
        (messages : List Message) →
        Keeps old.pair old.coordinator.journal (Session session) journal kept →
        StartsFrom preference old.coordinator.journal.value (option_map session_picture running) →
        RunsOver (old.sent ++ messages) journal.value (option_map session_picture running) →
        NumbersTell (old.sent ++ messages) → AsksNothingTwice (old.sent ++ messages) →
        picture.AllOfSession old.pair old.sent (option_map session_picture running) messages →
        (IsSome journal.writing → (messages ≡ []) × (option_map session_picture running ≡ None)) →
        (journal.status ≡ Up →
        IsSomeAnd (option_map session_picture running) (picture.BeginsBoth old.pair)) →
        Follows (picture_of old) (picture_of (coordinator_goes old (record {
          journal = journal;
          running = running;
        }) (record fine.no_call { kept = kept; messages = messages })))
        (Start preference) (refused_by journal.status)
    begins_goes journal kept running messages keeps on over numbers repeats of_session silent
        some =
        let left = left_so journal kept keeps in
        picture.starts_session preference up (ap (option_map session_picture) idle) (record {
          machine = coordinator_picture (record { journal = journal; running = running });
          kept = kept;
          messages = messages;
          reports = [];
          keeps =
              record {
                due = keeps_due old.pair old.coordinator.journal journal
                    (Session session) kept (IsNext old.coordinator.journal.value) is_next keeps;
                can = left.can;
                archive = left.value;
                writing = left.writing;
              };
          unless_up = left.up;
          rises_not = λ other. absurd (other up);
          runs_on = on;
          runs_over = over;
          numbers = numbers;
          repeats = repeats;
          of_session = of_session;
          silent_when_writing = silent;
          result = refl;
        }) some (append-nil old.reports)

    breaks_so : (journal : Journaled Archive Kept) (kept : List Kept) →
        Keeps old.pair old.coordinator.journal (Session session) journal kept →
        journal.status ≢ Up → Follows (picture_of old) (picture_of (coordinator_goes old
        (record { journal = journal; running = None }) (record fine.no_call { kept = kept })))
        (Start preference) (refused_by journal.status)
    breaks_so journal kept keeps broken =
        begins_goes journal kept None
        [] keeps tt tt (subst NumbersTell (sym (append-nil old.sent)) k.sound.numbers)
        (subst AsksNothingTwice (sym (append-nil old.sent)) k.sound.repeats) refl
        (λ _. (refl, refl)) (λ now_up. absurd (broken now_up))

    module _ (lawful : IsLawfulRequest session (Begin old.pair)) (journal : Journaled Archive Kept)
        (keeps : Keeps old.pair old.coordinator.journal (Session session) journal
        (Session session ∷ [])) (then_up : journal.status ≡ Up) where
      abbrev on : Running
      on = asking (new_session preference session) (begins old.pair) (begins old.pair)

      remembers_on : Remembers
          (old.sent ++ sent_now (new_session preference session) (begins old.pair)
          (begins old.pair)) on
      remembers_on =
          asking_remembers old.sent (new_session preference session) k.sound.numbers
          (new_remembers session next) (begins old.pair) (begins old.pair)

      begins_so : Follows (picture_of old) (picture_of (coordinator_goes old (record
          { journal = journal; running = Some on }) (record fine.no_call {
            kept = Session session
                ∷ [];
            messages = sent_now (new_session preference session) (begins old.pair)
                (begins old.pair);
          }))) (Start preference) (refused_by journal.status)
      begins_so =
          let left = left_so journal (Session session ∷ []) keeps in
          begins_goes journal (Session session ∷ []) (Some on)
          (sent_now (new_session preference session) (begins old.pair) (begins old.pair)) keeps
          (next, refl, refl) (
            sym (ap (λ a. a.last_session) left.value),
            all_sent,
            (omega arith, inl (omega arith), inl (omega arith)),
          )
          (asking_tells old.sent (new_session preference session) k.sound.numbers
          (new_remembers session next)
          (begins old.pair) (begins old.pair))
          (asking_once old.sent (new_session preference session) k.sound.numbers
          (new_remembers session next)
          (begins old.pair) (begins old.pair) k.sound.repeats (begins_once session))
          (All-cons (IsOfSession old.pair old.sent (session_picture on)) (Asks Left session 0
          (Begin old.pair)) (Asks Right session 0 (Begin old.pair) ∷ []) (refl, lawful, tt)
          (All-cons (IsOfSession old.pair old.sent (session_picture on))
          (Asks Right session 0 (Begin old.pair))
          [] (refl, lawful, tt) (All-nil (IsOfSession old.pair old.sent (session_picture on)))))
          (λ some. absurd (true≢false (sym some ∙ ap is_some (left.up then_up))))
          (λ _. (refl, refl))
        where
          all_sent : picture.WasSent (old.sent ++ sent_now (new_session preference session)
              (begins old.pair)
              (begins old.pair)) (session_picture on)
          all_sent Left i d within =
              remembers_on.waiting Left _ (All-contains_itself on.left i d within)
          all_sent Right i d within =
              remembers_on.waiting Right _ (All-contains_itself on.right i d within)

      only_begins : (side : Which) (path : Path) →
          Contains (for_side (begins old.pair) (begins old.pair) side) (ListAt path) →
          IsShown [] side path
      only_begins Left path c = absurd (not_begin path c)
      only_begins Right path c = absurd (not_begin path c)

      heard_on : IsHeard (coordinator_goes old (record { journal = journal; running = Some on })
          (record fine.no_call {
            kept = Session session ∷ [];
            messages = sent_now (new_session preference session) (begins old.pair)
                (begins old.pair);
          })) on
      heard_on = record {
        remembers = remembers_on;
        in_order =
            asking_in_order old.sent (new_session preference session)
            (nothing_in_order old.sent (new_session preference session) refl refl refl)
            (new_remembers session next) k.sound.known (begins old.pair)
            (begins old.pair) only_begins;
        unplanned =
            λ _. (
              subst (All (λ made. made.session ≢ session)) (sym (append-nil old.log ∙ k.logged))
                  (next_fresh plans (histories_of (picture_of old)) old.coordinator.journal.value
                  old.sent
                  k.sound session next).0,
              refl,
              refl,
              refl,
            );
        planned = λ some. absurd (true≢false (sym some));
        logged = tt;
        kept =
            ap (fold since_start [])
            (filter_map-append kept_in old.acknowledged (Kept_by (Session session) ∷ []))
            ∙ fold-append since_start
            [] (filter_map kept_in old.acknowledged) (Session session ∷ []);
        settled = All-nil (IsSettledBy [] []);
      }

  pub starts_follow : (new : CoordinatorMachine) (call : Call) →
      CoordinatorStarts old.pair preference old.coordinator new call →
      Follows (picture_of old) (picture_of (coordinator_goes old new call))
      (Start preference) (refused_by new.journal.status)
      × IfSome new.running (IsHeard (coordinator_goes old new call))
      × Tells old (coordinator_goes old new call)
  starts_follow _ _ (fine.starts session journal next lawful keeps then_up) = (
    begins_so session next lawful journal keeps then_up,
    heard_on session next lawful journal keeps then_up,
    inl (append-nil old.reports),
  )
  starts_follow _ _ (fine.start_breaks session journal kept next keeps down) =
      (breaks_so session next journal kept keeps down, tt, inl (append-nil old.reports))
