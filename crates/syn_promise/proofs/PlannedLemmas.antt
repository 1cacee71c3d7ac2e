-- Each session makes its plan of what it found, before it records anything.
use Rattle.std.proofs.Common.{◌≡◌, ◌≢◌, ◌≤◌, ◌+◌, ◌∙◌, ℕ, List, [], ◌++◌, map, take, length}
use Rattle.std.proofs.Common.{Option, Some, None, refl, sym, ap, subst, inl, inr, arith, append-nil}
use Rattle.std.specs.Prelude.{All, Any, IfSome, IsSome, option_map}
use Rattle.std.proofs.lemmas.List.{length-append, take-append-le}
use Rattle.std.proofs.lemmas.List.Elements.{All-nil, All-cons, All-append, All-weaker}
use Rattle.std.proofs.Math.Seq.{take-length}
use Rattle.syn_model.specs.Path.{Path, Name}
use Rattle.syn_model.specs.Tree.{Content}
use Rattle.syn_model.specs.History.{last_session}
use Rattle.syn_model.specs.Archive.{Kept}
use Rattle.syn_machine.specs.Side.{Begin, Begun, ListAt, Listed, NotDir}
use Rattle.syn_machine.specs.Network.{Which, WasAnswered}
use Rattle.syn_runs.specs.Acknowledged.{Ack, Kept_by, Stores, history_of, stores_after}
use Rattle.syn_runs.specs.Acknowledged.{kept_in_session}
use Rattle.syn_machine.specs.Coordinator.{Running}
use Rattle.syn_machine.specs.Planning.{Planned, SessionPlan, Log}
use Rattle.syn_runs.specs.Picture.{Picture, SessionPicture, CoordinatorGoes, HasPlan, MakesPlan}
use Rattle.syn_runs.specs.Picture.{IsExpected, RunsOver, stores_of}
use Rattle.syn_runs.specs.Headline.{StandsFor}
use Rattle.syn_runs.specs.World.{World}
use Rattle.syn_runs.specs.Runs.{picture_of, session_picture}
use Rattle.syn_runs.proofs.CourseLemmas.{Course, beside, starts, ticks, takes}
use Rattle.syn_runs.proofs.Invariant.{Plans, IsKept, IsTrueListing, IsTrueNotDir, histories_of}
use Rattle.syn_runs.proofs.Sessions.{IsHeard}
use Rattle.syn_promise.specs.Sessions.{PlansFrom, WasNoDirectory}
use Rattle.syn_promise.proofs.LeaveLemmas.{history_in}
use Rattle.syn_promise.proofs.SaidLemmas.{AllSaid, IsSaid}
use Rattle.syn_promise.proofs.SessionLemmas.{stands_as, scanned_so}

-- the session made its plan so, once so much was acknowledged
pub record WasPlanned (before : Stores) (acknowledged : List Ack) (made : SessionPlan) : Type 0
  where
    pub moment : ℕ
    pub within : moment ≤ length acknowledged
    pub unrecorded : kept_in_session (take moment acknowledged) ≡ []
    pub planned : PlansFrom (stores_after before (take moment acknowledged)) made

-- a session that has not planned has recorded nothing
abbrev pub IsUnrecorded : Picture → SessionPicture → Type 0
IsUnrecorded world r = All (λ made. made.session ≢ r.session) world.log →
    kept_in_session world.acknowledged ≡ []

pub unrecorded_in : (world : World) → (o : Option Running) → world.coordinator.running ≡ o →
    IfSome o (IsHeard world) →
    IfSome (picture_of world).coordinator.running (IsUnrecorded (picture_of world))
unrecorded_in world None is heard =
    subst (λ o. IfSome (option_map session_picture o) (IsUnrecorded (picture_of world))) (sym is) tt
unrecorded_in world (Some running) is heard =
    subst (λ o. IfSome (option_map session_picture o) (IsUnrecorded (picture_of world))) (sym is)
    (λ others. heard.kept ∙ by running.plan refl others)
  where
    none_such : (log : Log) → All (λ made. made.session ≢ running.session) log →
        Any (λ made. made.session ≡ running.session) log → ⊥
    none_such log others any = subst (λ made. made.session ≢ running.session) any.3
        (others any.0 _ any.2) any.4

    by : (plan : Option (List Planned)) → running.plan ≡ plan →
        All (λ made. made.session ≢ running.session) world.log → running.kept ≡ []
    by None none others = (heard.unplanned none).2
    by (Some plan) some others =
        let any = heard.planned (subst (λ o. IsSome o) (sym some) refl) in
        absurd (none_such world.log others any)

module _ (before : Stores) (plans : Plans) (old : Picture) (k : IsKept plans old)
    (said : AllSaid old) (stands : StandsFor before old) where
  abbrev found : Stores
  found = stores_after before old.acknowledged

  now_is : stores_of old ≡ found
  now_is = stands_as before old stands

  history_now : (side : Which) → histories_of old side ≡ history_of found side
  history_now side = sym (history_in old side) ∙ ap (λ s. history_of s side) now_is

  answered : (side : Which) (session : ℕ) (path : Path) (position : ℕ)
      (entries : List (Name × Content)) →
      WasAnswered old.sent side session (ListAt path) (Listed position entries) →
      IsTrueListing (history_of found side) session path position entries
  answered side session path position entries was =
      subst (λ h. IsTrueListing h session path position entries) (history_now side)
      (k.sound.answered side session was.number (Listed position entries) (ListAt path)
      was.answered was.asked)

  pub denied_then : (side : Which) (session : ℕ) (path : Path) (position : ℕ) →
      WasAnswered old.sent side session (ListAt path) (NotDir position) →
      WasNoDirectory (history_of found side) session path position
  denied_then side session path position was =
      let is_true : IsTrueNotDir (histories_of old side) path position =
      k.sound.answered side session was.number (NotDir position) (ListAt path) was.answered
      was.asked in
      let begun : IsSaid (histories_of old side) session (NotDir position) (ListAt path) =
      said side session was.number (ListAt path) (NotDir position) was.answered was.asked in
      subst (λ h. WasNoDirectory h session path position) (history_now side) (record {
        after_begin = record { reached = is_true.reached; begun = begun.1 };
        none = is_true.no_directory;
      })

  plan_was : IfSome old.coordinator.running (IsUnrecorded old) → (r : SessionPicture) →
      old.coordinator.running ≡ Some r → (made : SessionPlan) →
      MakesPlan old.sent old.coordinator.archive old.log r.session r.preference made →
      WasPlanned before old.acknowledged made
  plan_was unrecorded r running made makes =
      let over = (subst (RunsOver old.sent old.coordinator.archive) running
      k.coordinator.runs_over).0 in
      let last : old.coordinator.archive.last_session ≡ made.session =
      sym over ∙ sym makes.of_session in
      let begun : (side : Which) → last_session (histories_of old side) ≡ made.session =
      λ side.
      let was = makes.is.begun side in
      let at_least : made.session ≤ last_session (histories_of old side) =
      k.sound.answered side made.session was.begun.number (Begun was.position) (Begin was.pair)
      was.begun.answered was.begun.asked in
      let at_most = k.sound.begun side in
      omega (arith, at_least, at_most, last) in
      let all : take (length old.acknowledged) old.acknowledged ≡ old.acknowledged =
      take-length old.acknowledged in
      record {
        moment = length old.acknowledged;
        within = omega arith;
        unrecorded = ap kept_in_session all
            ∙ subst (λ o. IfSome o (IsUnrecorded old)) running unrecorded makes.once;
        planned = subst (λ acks. PlansFrom (stores_after before acks) made) (sym all) (record {
          last = ap (λ s. s.archive.last_session) (sym now_is) ∙ last;
          begun = λ side. ap last_session (sym (history_now side)) ∙ begun side;
          scanned = λ side. scanned_so before old.acknowledged old.sent answered denied_then
              side made.session (made.scan side) (made.since side) (makes.is.scanned side);
          archive = makes.archive_is ∙ ap (λ s. s.archive.marks) now_is;
          items = makes.is.items;
          seen = makes.is.seen;
        });
      }

-- so were all of a log
abbrev pub AllPlanned : Stores → Picture → Log → Type 0
AllPlanned before world log = All (WasPlanned before world.acknowledged) log

module _ (before : Stores) (plans : Plans) (old : Picture) (k : IsKept plans old)
    (said : AllSaid old) (stands : StandsFor before old)
    (unrecorded : IfSome old.coordinator.running (IsUnrecorded old)) (new : Picture) where
  planned_still : (acks : List Ack) → new.acknowledged ≡ old.acknowledged ++ acks →
      (made : SessionPlan) → WasPlanned before old.acknowledged made →
      WasPlanned before new.acknowledged made
  planned_still acks e made was =
      let within = was.within in
      let longer : length new.acknowledged ≡ length old.acknowledged + length acks = ap length e
      ∙ length-append old.acknowledged acks in
      let front : take was.moment old.acknowledged ≡ take was.moment new.acknowledged =
      sym (ap (take was.moment) e ∙ take-append-le was.moment old.acknowledged acks was.within) in
      record {
        moment = was.moment;
        within = omega (arith, within, longer);
        unrecorded = ap kept_in_session (sym front) ∙ was.unrecorded;
        planned = subst (λ acks. PlansFrom (stores_after before acks) made) front was.planned;
      }

  more_planned : (acks : List Ack) → new.acknowledged ≡ old.acknowledged ++ acks →
      (logged : Log) → AllPlanned before old logged → new.log ≡ old.log ++ logged →
      AllPlanned before old old.log → AllPlanned before new new.log
  more_planned acks e logged now logs was =
      All-weaker (WasPlanned before old.acknowledged) (WasPlanned before new.acknowledged)
      (planned_still acks e) new.log (subst (AllPlanned before old) (sym logs)
      (All-append (WasPlanned before old.acknowledged) old.log logged was now))

  none_planned : AllPlanned before old []
  none_planned = All-nil (WasPlanned before old.acknowledged)

  plan_planned : (running : Option SessionPicture) → old.coordinator.running ≡ running →
      (from : Which) (session number : ℕ) (plan : List Planned) (logged : Log) →
      IsExpected running from session number →
      HasPlan old.sent old.coordinator.archive old.log running plan logged →
      AllPlanned before old logged
  plan_planned None is from session number plan logged expected has = absurd expected
  plan_planned (Some r) is from session number plan logged expected (inl (same, none)) =
      subst (AllPlanned before old) (sym none) none_planned
  plan_planned (Some r) is from session number plan logged expected
      (inr (made, makes, plan_is, one)) =
      subst (AllPlanned before old) (sym one) (All-cons (WasPlanned before old.acknowledged) made []
      (plan_was before plans old k said stands unrecorded r is made makes) none_planned)

  goes_planned : (logged : Log) (D : Kept → Type 0) (R : Option SessionPicture → Type 0) →
      CoordinatorGoes old logged D R new → AllPlanned before old logged →
      AllPlanned before old old.log → AllPlanned before new new.log
  goes_planned logged D R g now was = more_planned (map Kept_by g.kept)
      (ap (λ w. w.acknowledged) g.result) logged now (ap (λ w. w.log) g.result) was

  pub course_planned : Course old new → AllPlanned before old old.log →
      AllPlanned before new new.log
  course_planned (beside acks added can runs reports logs) was =
      more_planned acks added [] none_planned (logs ∙ sym (append-nil old.log)) was
  course_planned (starts preference g reports) was = goes_planned [] _ _ g none_planned was
  course_planned (ticks g reports) was = goes_planned [] _ _ g none_planned was
  course_planned (takes from session number reply plan logged heard expected made g reports) was =
      goes_planned logged _ _ g
      (plan_planned old.coordinator.running refl from session number plan logged expected made) was
