-- What the archive records is due.
use Rattle.std.proofs.Common.{◌≡◌, ◌⊎◌, ◌∙◌, ◌==◌, ℕ, true, false, List, [], ◌∷◌, ◌++◌, map}
use Rattle.std.proofs.Common.{filter_map, Option, Some, None, refl, sym, ap, ap₂, subst, inl, inr}
use Rattle.std.proofs.Common.{append-nil, slice_get, zero, arith}
use Rattle.std.specs.Prelude.{All, Bool, Contains, IfSome, if◌then◌else◌}
use Rattle.std.proofs.lemmas.Bool.Decides.{nat_tests}
use Rattle.std.proofs.lemmas.List.Elements.{All-head, All-tail, Contains-append_left, Contains-push}
use Rattle.std.proofs.lemmas.List.Elements.{All-nil, All-cons}
use Rattle.std.proofs.lemmas.List.Elements.{All-weaker, Contains-append_right, filter_map-append}
use Rattle.std.proofs.lemmas.List.Sums.{fold-append}
use Rattle.std.proofs.lemmas.Option.{none-some, same_Some}
use Rattle.syn_model.specs.Refusal.{Refusal}
use Rattle.syn_model.specs.Event.{Event}
use Rattle.syn_model.specs.History.{History}
use Rattle.syn_model.specs.Path.{Path}
use Rattle.syn_model.specs.Tree.{is_directory, replace, empty_directory}
use Rattle.syn_model.specs.Decision.{Item, ToLeft, ToRight, MarkSame, MarkDir, Conflict}
use Rattle.syn_model.specs.Archive.{Archive, Kept, Session, Recorded, RecordedDir, CanKeep}
use Rattle.syn_model.specs.Archive.{after_kept, archive_of}
use Rattle.syn_machine.specs.Side.{Request, Reply, Done, Replace, token_of}
use Rattle.syn_machine.specs.Network.{Which, Left, Right, other, Answers, Sent}
use Rattle.syn_machine.specs.Session.{record_for}
use Rattle.syn_machine.specs.Planning.{Planned, SessionPlan, Log, WritesTo, seen_on}
use Rattle.syn_runs.specs.Acknowledged.{Ack, Happened, Kept_by, Stores, kept_in, history_of}
use Rattle.syn_runs.specs.Acknowledged.{event_at, stores_after}
use Rattle.syn_runs.specs.World.{Step}
use Rattle.syn_runs.specs.Picture.{Picture, SidePicture, SessionPicture, CoordinatorPicture}
use Rattle.syn_runs.specs.Picture.{set_side, side_of, CoordinatorGoes, Follows, stores_of}
use Rattle.syn_runs.specs.Picture.{FollowsAll, HasPlan, IsDueAfter, IsExpected, IsNext}
use Rattle.syn_runs.specs.Picture.{IsNothing, TakesRequest, nothing_more, one_more, RunsOver}
use Rattle.syn_runs.specs.Picture as picture
use Rattle.syn_runs.specs.Headline.{IsStart, StandsFor}
use Rattle.syn_runs.proofs.Invariant.{Plans, IsKept, plan_in, histories_of}
use Rattle.syn_machine.proofs.Heard.{sent_at, split_at}
use Rattle.syn_runs.proofs.SideSteps.{if_some}
use Rattle.syn_runs.proofs.AdvanceLemmas.{step_advances}
use Rattle.syn_runs.proofs.CoordinatorRuns.{waits_for}
use Rattle.syn_runs.proofs.WorldLemmas.{kept_kept, run_stands, step_stands}
use Rattle.syn_runs.proofs.WholeRuns.{no_plans, start_kept, start_stands}
use Rattle.syn_promise.specs.Records.{HasPut, IsOfItem, KeepsToPlan, RecordsKeepToPlan}
use Rattle.syn_promise.proofs.SaidLemmas.{AllSaid, grows_by, put_more, step_said, start_said}
use Rattle.syn_promise.proofs.LeaveLemmas.{history_in}
use Rattle.syn_promise.proofs.SessionLemmas.{history_more, stands_as}

-- A record that is due is so also as more sessions are known, and as the sides go on

-- each side has this, and more
abbrev IsMore : Stores → Stores → Type 0
IsMore old new = (side : Which) → (more : History)
    × (history_of new side ≡ history_of old side ++ more)

module _ (sessions more : Log) (old new : Stores) (grows : IsMore old new)
    (same : new.archive.last_session ≡ old.archive.last_session) where
  item_more : (kept : Kept) → IsOfItem sessions old kept → IsOfItem (sessions ++ more) new kept
  item_more kept is = record {
    made = is.made;
    of_session = (
      Contains-append_left sessions more is.made is.of_session.0,
      is.of_session.1 ∙ sym same,
    );
    item = is.item;
    planned = is.planned;
    at = is.at;
    record_is = is.record_is;
    put = λ side path writes. let later = grows side in
        subst (λ h. HasPut h (token_of is.made.session is.item)) (sym later.1)
        (put_more (history_of old side) later.0 (token_of is.made.session is.item)
        (is.put side path writes));
  }

  due_more : (kept : Kept) → KeepsToPlan sessions old (Kept_by kept) →
      KeepsToPlan (sessions ++ more) new (Kept_by kept)
  due_more (Session session) is = tt
  due_more (Recorded path marks) is = item_more (Recorded path marks) is
  due_more (RecordedDir path) is = item_more (RecordedDir path) is

-- What a call records

number_due : (sessions : Log) (stands : Stores) (archive : Archive) (kept : Kept) →
    IsNext archive kept → KeepsToPlan sessions stands (Kept_by kept)
number_due sessions stands archive kept next =
    subst (λ kept. KeepsToPlan sessions stands (Kept_by kept)) (sym next) tt

done_record : (planned : Planned) (item : Item) (side : Which) (path : Path) →
    WritesTo item side path →
    record_for planned item ≡ Some (Recorded path (seen_on planned (other side)).marks)
done_record planned (ToLeft at) Left path same =
    ap (λ p. Some (Recorded p planned.right.marks)) same
done_record planned (ToRight at) Right path same =
    ap (λ p. Some (Recorded p planned.left.marks)) same
done_record planned (ToLeft at) Right path never = absurd never
done_record planned (ToRight at) Left path never = absurd never
done_record planned (MarkSame at) side path never = absurd never
done_record planned (MarkDir at) side path never = absurd never
done_record planned (Conflict at) side path never = absurd never

-- an item writes one side
one_side : (item : Item) (one two : Which) (path at : Path) → WritesTo item one path →
    WritesTo item two at → one ≡ two
one_side (ToLeft at) Left Left path to a b = refl
one_side (ToLeft at) Left Right path to a b = absurd b
one_side (ToLeft at) Right two path to a b = absurd a
one_side (ToRight at) Right Right path to a b = refl
one_side (ToRight at) Right Left path to a b = absurd b
one_side (ToRight at) Left two path to a b = absurd a
one_side (MarkSame at) one two path to a b = absurd a
one_side (MarkDir at) one two path to a b = absurd a
one_side (Conflict at) one two path to a b = absurd a

-- what an answer makes due leaves the number of the last session
module _ (r : SessionPicture) (plan : List Planned) (from : Which) (number : ℕ)
    (reply : Reply) where
  abbrev Due : Kept → Type 0
  Due = picture.IsDue r plan from number reply

  abbrev last_in : Archive → ℕ
  last_in archive = archive.last_session

  dir_last : (a : Archive) (path : Path) →
      (after_kept a (RecordedDir path)).last_session ≡ a.last_session
  dir_last a path = by (is_directory a.marks path)
    where
      by : (b : Bool) →
          last_in (if b then a else record a { marks = replace a.marks path empty_directory })
          ≡ a.last_session
      by true = refl
      by false = refl

  last_still : (a : Archive) (kept : Kept) → Due kept →
      (after_kept a kept).last_session ≡ a.last_session
  last_still a _ (picture.done item path since size planned is asked at writes) = refl
  last_still a _ (picture.same item path planned at is same) = refl
  last_still a _ (picture.directory item path planned at is) = dir_last a path

  pub last_after : (a : Archive) (kept : List Kept) → All Due kept →
      (archive_of a kept).last_session ≡ a.last_session
  last_after a [] all = refl
  last_after a (one ∷ kept) all = last_after (after_kept a one) kept (All-tail Due one kept all)
      ∙ last_still a one (All-head Due one kept all)

-- what an answer of the session makes due
module _ (sessions : Log) (histories : Which → History) (r : SessionPicture) (plan : List Planned)
    (from : Which) (number : ℕ) (reply : Reply)
    (made : (item : ℕ) (planned : Planned) → slice_get plan item ≡ Some planned →
    (made : SessionPlan) × (Contains sessions made × (made.session ≡ r.session))
    × (made.plan ≡ plan))
    (put : (item : ℕ) (path : Path) (since size : ℕ) → reply ≡ Done →
    picture.asked_of r from number ≡ Some (Replace item path since size) →
    HasPut (histories from) (token_of r.session item)) where
  abbrev DueNow : Kept → Type 0
  DueNow = picture.IsDue r plan from number reply

  module _ (stands : Stores) (last : stands.archive.last_session ≡ r.session)
      (are : (side : Which) → history_of stands side ≡ histories side) where
    of_item : (item : ℕ) (planned : Planned) (kept : Kept) → slice_get plan item ≡ Some planned →
        record_for planned planned.item ≡ Some kept → ((side : Which) (path : Path) →
        WritesTo planned.item side path → HasPut (histories side) (token_of r.session item)) →
        IsOfItem sessions stands kept
    of_item item planned kept at is was_put =
        let it = made item planned at in record {
          made = it.0;
          of_session = (it.1.0, it.1.1 ∙ sym last);
          item = item;
          planned = planned;
          at = ap (λ p. slice_get p item) it.2 ∙ at;
          record_is = is;
          put = λ side path writes. subst (λ h. HasPut h (token_of it.0.session item))
              (sym (are side)) (subst (λ n. HasPut (histories side) (token_of n item))
              (sym it.1.1) (was_put side path writes));
        }

    due_item : (kept : Kept) → DueNow kept → IsOfItem sessions stands kept
    due_item _ (picture.done item path since size planned is asked at writes) =
        of_item item planned _ at (done_record planned planned.item from path writes)
        (λ side other onto. subst (λ s. HasPut (histories s) (token_of r.session item))
        (one_side planned.item from side path other writes onto)
        (put item path since size is asked))
    due_item _ (picture.same item path planned at is same) =
        of_item item planned _ at (ap (record_for planned) is) (λ side other onto. absurd
        (subst (λ i. WritesTo i side other) is onto))
    due_item _ (picture.directory item path planned at is) =
        of_item item planned _ at (ap (record_for planned) is) (λ side other onto. absurd
        (subst (λ i. WritesTo i side other) is onto))

    now_due : (kept : Kept) → DueNow kept → KeepsToPlan sessions stands (Kept_by kept)
    now_due (Session session) due = tt
    now_due (Recorded path marks) due = due_item (Recorded path marks) due
    now_due (RecordedDir path) due = due_item (RecordedDir path) due

-- a session's plan that has items is that of its entry in the log
pub entry_in : (log : Log) (session item : ℕ) (planned : Planned) →
    slice_get (plan_in log session) item ≡ Some planned →
    (made : SessionPlan) × (Contains log made × (made.session ≡ session))
    × (made.plan ≡ plan_in log session)
entry_in [] session item planned e = absurd (none-some _ e)
entry_in (first ∷ log) session item planned e =
    by (λ e. entry_in log session item planned e) (first.session == session) refl e
  where
    by : (slice_get (plan_in log session) item ≡ Some planned → (made : SessionPlan)
        × (Contains log made × (made.session ≡ session)) × (made.plan ≡ plan_in log session)) →
        (b : Bool) → (first.session == session) ≡ b →
        slice_get (if b then first.plan else plan_in log session) item ≡ Some planned →
        (made : SessionPlan) × (Contains (first ∷ log) made × (made.session ≡ session))
        × (made.plan ≡ (if b then first.plan else plan_in log session))
    by onward true same e = (first, ((zero, omega arith, refl), grind (arith, nat_tests)), refl)
    by onward false same e =
        let rest = onward e in (
          rest.0,
          (Contains-append_right (first ∷ []) log rest.0 rest.1.0, rest.1.1),
          rest.2,
        )

-- Lists of what was acknowledged

-- a side keeps nothing
no_record : (which : Which) (events : List Event) (earlier later : List Ack) (kept : Kept) →
    map (λ event. Happened which event) events ≡ earlier ++ Kept_by kept ∷ later → ⊥
no_record which [] [] later kept e = cc
no_record which [] (one ∷ earlier) later kept e = cc
no_record which (event ∷ events) [] later kept e = cc
no_record which (event ∷ events) (one ∷ earlier) later kept e =
    no_record which events earlier later kept (let rest :
    map (λ event. Happened which event) events ≡ earlier ++ Kept_by kept ∷ later = cc in rest)

no_ack : (earlier later : List Ack) (ack : Ack) → [] ≡ earlier ++ ack ∷ later → ⊥
no_ack [] later ack e = cc
no_ack (one ∷ earlier) later ack e = cc

-- one of several records, after the first of them
record IsAmong (kept : List Kept) (earlier : List Ack) (one : Kept) : Type 0 where
  first : List Kept
  rest : List Kept
  are : kept ≡ first ++ one ∷ rest
  before : earlier ≡ map Kept_by first

among : (kept : List Kept) (earlier later : List Ack) (one : Kept) →
    map Kept_by kept ≡ earlier ++ Kept_by one ∷ later → IsAmong kept earlier one
among [] earlier later one e = absurd (no_ack earlier later (Kept_by one) e)
among (first ∷ kept) [] later one e =
    let same : first ≡ one = cc in
    record { first = []; rest = kept; are = ap (λ k. k ∷ kept) same; before = refl }
among (first ∷ kept) (ack ∷ earlier) later one e =
    let is : ack ≡ Kept_by first = cc in
    let more = among kept earlier later one
    (let rest : map Kept_by kept ≡ earlier ++ Kept_by one ∷ later = cc in rest) in
    record {
      first = first ∷ more.first;
      rest = more.rest;
      are = ap (λ k. first ∷ k) more.are;
      before = ap₂ (λ a b. a ∷ b) is more.before;
    }

-- what the archive recorded leaves the sides alone
no_events : (which : Which) (kept : List Kept) →
    filter_map (event_at which) (map Kept_by kept) ≡ []
no_events Left [] = refl
no_events Right [] = refl
no_events Left (one ∷ kept) = no_events Left kept
no_events Right (one ∷ kept) = no_events Right kept

history_beside : (before : Stores) (acks : List Ack) (kept : List Kept) (side : Which) →
    history_of (stores_after before (acks ++ map Kept_by kept)) side
    ≡ history_of (stores_after before acks) side
history_beside before acks kept side = history_more before acks (map Kept_by kept) side
    ∙ (ap (λ events. history_of (stores_after before acks) side ++ events) (no_events side kept)
    ∙ append-nil (history_of (stores_after before acks) side))

pub archive_after : (before : Stores) (acks : List Ack) (kept : List Kept) →
    (stores_after before (acks ++ map Kept_by kept)).archive
    ≡ archive_of (stores_after before acks).archive kept
archive_after before acks kept =
    ap (archive_of before.archive) (filter_map-append kept_in acks (map Kept_by kept)
    ∙ ap (λ all. filter_map kept_in acks ++ all) (kept_kept kept))
    ∙ fold-append after_kept before.archive (filter_map kept_in acks) kept

-- One step

-- all that was recorded was due, and so is what is being recorded
pub record AllRecorded (before : Stores) (world : Picture) : Type 0 where
  pub acks : (earlier later : List Ack) (kept : Kept) →
      world.acknowledged ≡ earlier ++ Kept_by kept ∷ later →
      KeepsToPlan world.log (stores_after before earlier) (Kept_by kept)
  pub writing : IfSome world.coordinator.writing
      (λ kept. KeepsToPlan world.log (stores_of world) (Kept_by kept))

module _ (before : Stores) (plans : Plans) (old : Picture) (k : IsKept plans old)
    (said : AllSaid old) (stands : StandsFor before old) (h : AllRecorded before old)
    (new : Picture) (grow : (side : Which) → (more : History)
    × (histories_of new side ≡ histories_of old side ++ more)) where
  stores_grow : IsMore (stores_of old) (stores_of new)
  stores_grow side = let more = grow side in (
    more.0,
    history_in new side ∙ (more.1 ∙ ap (λ h. h ++ more.0) (sym (history_in old side))),
  )

  itself : (stores : Stores) → IsMore stores stores
  itself stores side = ([], sym (append-nil (history_of stores side)))

  now_is : stores_of old ≡ stores_after before old.acknowledged
  now_is = stands_as before old stands

  grows : (logged : Log) (acks : List Ack) → new.log ≡ old.log ++ logged →
      new.acknowledged ≡ old.acknowledged ++ acks → ((earlier later : List Ack) (kept : Kept) →
      acks ≡ earlier ++ Kept_by kept ∷ later →
      KeepsToPlan (old.log ++ logged) (stores_after before (old.acknowledged ++ earlier))
      (Kept_by kept))
      → IfSome new.coordinator.writing
      (λ kept. KeepsToPlan (old.log ++ logged) (stores_of new) (Kept_by kept)) →
      AllRecorded before new
  grows logged acks log added due writing = record {
    acks = λ earlier later kept is.
        subst (λ l. KeepsToPlan l (stores_after before earlier) (Kept_by kept)) (sym log)
        (by earlier later kept (split_at old.acknowledged acks earlier (Kept_by kept) later
        (sym added ∙ is)));
    writing = subst (λ l. IfSome new.coordinator.writing
        (λ kept. KeepsToPlan l (stores_of new) (Kept_by kept))) (sym log) writing;
  }
    where
      by : (earlier later : List Ack) (kept : Kept) →
          ((rest : List Ack) × (old.acknowledged ≡ earlier ++ Kept_by kept ∷ rest))
          ⊎ ((rest : List Ack) × (earlier ≡ old.acknowledged ++ rest)
          × (acks ≡ rest ++ Kept_by kept ∷ later)) →
          KeepsToPlan (old.log ++ logged) (stores_after before earlier) (Kept_by kept)
      by earlier later kept (inl was) = due_more old.log logged (stores_after before earlier)
          (stores_after before earlier) (itself (stores_after before earlier)) refl kept
          (h.acks earlier was.0 kept was.1)
      by earlier later kept (inr is) = subst (λ front. KeepsToPlan (old.log ++ logged)
          (stores_after before front) (Kept_by kept)) (sym is.1) (due is.0 later kept is.2)

  -- what was being recorded still is
  writing_still : (logged : Log) → new.coordinator.archive ≡ old.coordinator.archive →
      new.coordinator.writing ≡ old.coordinator.writing → IfSome new.coordinator.writing
      (λ kept. KeepsToPlan (old.log ++ logged) (stores_of new) (Kept_by kept))
  writing_still logged same is =
      subst (λ o. IfSome o (λ kept. KeepsToPlan (old.log ++ logged) (stores_of new) (Kept_by kept)))
      (sym is) (if_some old.coordinator.writing
      (λ kept. KeepsToPlan old.log (stores_of old) (Kept_by kept))
      (λ kept. KeepsToPlan (old.log ++ logged) (stores_of new) (Kept_by kept)) h.writing
      (λ kept _ due. due_more old.log logged (stores_of old) (stores_of new) stores_grow
      (ap (λ a. a.last_session) same) kept due))

  -- nothing is recorded
  aside : (acks : List Ack) → new.log ≡ old.log → new.acknowledged ≡ old.acknowledged ++ acks →
      ((earlier later : List Ack) (kept : Kept) → acks ≡ earlier ++ Kept_by kept ∷ later → ⊥) →
      new.coordinator.archive ≡ old.coordinator.archive →
      new.coordinator.writing ≡ old.coordinator.writing → AllRecorded before new
  aside acks log added none archive writing =
      grows [] acks (log ∙ sym (append-nil old.log)) added
      (λ earlier later kept e. absurd (none earlier later kept e))
      (writing_still [] archive writing)

  silent : new.log ≡ old.log → new.acknowledged ≡ old.acknowledged →
      new.coordinator.archive ≡ old.coordinator.archive →
      new.coordinator.writing ≡ old.coordinator.writing → AllRecorded before new
  silent log same archive writing = aside [] log (same ∙ sym (append-nil old.acknowledged))
      (λ earlier later kept e. no_ack earlier later (Kept_by kept) e) archive writing

  side_goes : (which : Which) (machine : SidePicture) (sent : Sent) (events : List Event) →
      new ≡ record (set_side old which machine) {
        sent = sent;
        acknowledged = old.acknowledged ++ map (λ event. Happened which event) events;
      } → AllRecorded before new
  side_goes Left machine sent events e =
      aside (map (λ event. Happened Left event) events) (ap (λ w. w.log) e)
      (ap (λ w. w.acknowledged) e) (no_record Left events) (ap (λ w. w.coordinator.archive) e)
      (ap (λ w. w.coordinator.writing) e)
  side_goes Right machine sent events e =
      aside (map (λ event. Happened Right event) events) (ap (λ w. w.log) e)
      (ap (λ w. w.acknowledged) e) (no_record Right events) (ap (λ w. w.coordinator.archive) e)
      (ap (λ w. w.coordinator.writing) e)

  side_says : (which : Which) (machine : SidePicture) (sent : Sent) →
      new ≡ record (set_side old which machine) { sent = sent } → AllRecorded before new
  side_says Left machine sent e = silent (ap (λ w. w.log) e) (ap (λ w. w.acknowledged) e)
      (ap (λ w. w.coordinator.archive) e) (ap (λ w. w.coordinator.writing) e)
  side_says Right machine sent e = silent (ap (λ w. w.log) e) (ap (λ w. w.acknowledged) e)
      (ap (λ w. w.coordinator.archive) e) (ap (λ w. w.coordinator.writing) e)

  side_is : (which : Which) (machine : SidePicture) → new ≡ set_side old which machine →
      AllRecorded before new
  side_is Left machine e = silent (ap (λ w. w.log) e) (ap (λ w. w.acknowledged) e)
      (ap (λ w. w.coordinator.archive) e) (ap (λ w. w.coordinator.writing) e)
  side_is Right machine e = silent (ap (λ w. w.log) e) (ap (λ w. w.acknowledged) e)
      (ap (λ w. w.coordinator.archive) e) (ap (λ w. w.coordinator.writing) e)

  request_recorded : (which : Which) (session number : ℕ) (request : Request) →
      TakesRequest old which session number request new → AllRecorded before new
  request_recorded which session number request (picture.answered a) =
      side_goes which _ _ a.events a.result
  request_recorded which session number request (picture.request_failed event would e) =
      side_says which _ _ e
  request_recorded which session number request (picture.request_cut event would e) =
      side_is which _ e

  -- a call of the coordinator records what is due
  module _ (logged : Log) (Due : Kept → Type 0) (RunsOn : Option SessionPicture → Type 0)
      (g : CoordinatorGoes old logged Due RunsOn new)
      (due : (first rest : List Kept) (kept : Kept) → g.kept ≡ first ++ kept ∷ rest →
      KeepsToPlan (old.log ++ logged) (stores_after before (old.acknowledged ++ map Kept_by first))
      (Kept_by kept)) where
    goes : ((kept : Kept) → Due kept →
        KeepsToPlan (old.log ++ logged) (stores_of new) (Kept_by kept)) → AllRecorded before new
    goes writing = grows logged (map Kept_by g.kept) (ap (λ w. w.log) g.result)
        (ap (λ w. w.acknowledged) g.result) (λ earlier later kept e.
        let is = among g.kept earlier later kept e in
        subst (λ front. KeepsToPlan (old.log ++ logged)
        (stores_after before (old.acknowledged ++ front)) (Kept_by kept)) (sym is.before)
        (due is.first is.rest kept is.are))
        (subst (λ o. IfSome o
        (λ kept. KeepsToPlan (old.log ++ logged) (stores_of new) (Kept_by kept)))
        (sym (ap (λ w. w.coordinator.writing) g.result)) (if_some g.machine.writing
        (λ more. Due more × CanKeep g.machine.archive more)
        (λ kept. KeepsToPlan (old.log ++ logged) (stores_of new) (Kept_by kept)) g.keeps.writing
        (λ kept _ is. writing kept is.0)))

  -- each of a list has it
  each_of : (P : Kept → Type 0) (first rest all : List Kept) (kept : Kept) → All P all →
      all ≡ first ++ kept ∷ rest → P kept
  each_of P [] rest all kept have e = All-head P kept rest (subst (All P) e have)
  each_of P (one ∷ first) rest all kept have e =
      each_of P first rest (first ++ kept ∷ rest) kept
      (All-tail P one (first ++ kept ∷ rest) (subst (All P) e have)) refl

  first_of : (P : Kept → Type 0) (first rest all : List Kept) → All P all →
      all ≡ first ++ rest → All P first
  first_of P [] rest all have e = All-nil P
  first_of P (one ∷ first) rest all have e =
      let is = subst (All P) e have in
      All-cons P one first (All-head P one (first ++ rest) is)
      (first_of P first rest (first ++ rest) (All-tail P one (first ++ rest) is) refl)

  starts_recorded : (preference : Option Which) (R : Option SessionPicture → Type 0) →
      CoordinatorGoes old [] (IsNext old.coordinator.archive) R new → AllRecorded before new
  starts_recorded preference R g = goes [] (IsNext old.coordinator.archive) R g
      (λ first rest kept e. number_due (old.log ++ [])
      (stores_after before (old.acknowledged ++ map Kept_by first)) old.coordinator.archive kept
      (each_of (IsNext old.coordinator.archive) first rest g.kept kept g.keeps.due e))
      (λ kept next. number_due (old.log ++ []) (stores_of new) old.coordinator.archive kept next)

  ticks_recorded : (R : Option SessionPicture → Type 0) → CoordinatorGoes old [] IsNothing R new →
      AllRecorded before new
  ticks_recorded R g = goes [] IsNothing R g (λ first rest kept e.
      absurd (each_of IsNothing first rest g.kept kept g.keeps.due e))
      (λ kept none. absurd none)

  -- the plan of the session that runs stands in the log, where it has items
  module _ (logged : Log) (plan : List Planned) where
    logged_plan : (o : Option SessionPicture) → o ≡ old.coordinator.running →
        (r : SessionPicture) → o ≡ Some r →
        HasPlan old.sent old.coordinator.archive old.log o plan logged → (item : ℕ)
        (planned : Planned) → slice_get plan item ≡ Some planned →
        (made : SessionPlan) × (Contains (old.log ++ logged) made × (made.session ≡ r.session))
        × (made.plan ≡ plan)
    logged_plan None is r some has item planned at = absurd (none-some _ some)
    logged_plan (Some q) is r some (inl (same, none)) item planned at =
        let q_is : q ≡ r = same_Some q r some in
        let running : plan_in plans q.session ≡ q.plan =
        subst (λ o. IfSome o (λ r. plan_in plans r.session ≡ r.plan)) (sym is)
        (if_some old.coordinator.running _ (λ r. plan_in plans r.session ≡ r.plan)
        k.coordinator.running (λ r _ both. both.0)) in
        let it = entry_in plans q.session item planned
        (ap (λ p. slice_get p item) (running ∙ sym same) ∙ at) in (
          it.0,
          (
            Contains-append_left old.log logged it.0
                (subst (λ l. Contains l it.0) (sym k.logged) it.1.0),
            it.1.1 ∙ ap (λ r. r.session) q_is,
          ),
          it.2 ∙ (running ∙ sym same),
        )
    logged_plan (Some q) is r some (inr (made, makes, plan_is, one)) item planned at = (
      made,
      (
        subst (λ l. Contains (old.log ++ l) made) (sym one) (Contains-push old.log made),
        makes.of_session ∙ ap (λ r. r.session) (same_Some q r some),
      ),
      sym plan_is,
    )

  coordinator_sides : (logged : Log) (D : Kept → Type 0) (R : Option SessionPicture → Type 0) →
      CoordinatorGoes old logged D R new → (side : Which) →
      histories_of new side ≡ histories_of old side
  coordinator_sides logged D R g Left = ap (λ w. w.left.side.history) g.result
  coordinator_sides logged D R g Right = ap (λ w. w.right.side.history) g.result

  takes_recorded : (from : Which) (session number : ℕ) (reply : Reply) (plan : List Planned)
      (logged : Log) → Contains old.sent (Answers from session number reply) →
      IsExpected old.coordinator.running from session number →
      HasPlan old.sent old.coordinator.archive old.log old.coordinator.running plan logged →
      (RunsOn : Option SessionPicture → Type 0) →
      CoordinatorGoes old logged (IsDueAfter old.coordinator.running plan from number reply) RunsOn
      new → AllRecorded before new
  takes_recorded from session number reply plan logged answered expected has RunsOn g =
      by old.coordinator.running refl expected
    where
      by : (o : Option SessionPicture) → o ≡ old.coordinator.running →
          IsExpected o from session number → AllRecorded before new
      by None is expected = absurd expected
      by (Some r) is expected =
          let made = logged_plan logged plan (Some r) is r refl (subst
          (λ o. HasPlan old.sent old.coordinator.archive old.log o plan logged) (sym is) has) in
          let runs : r.session ≡ old.coordinator.archive.last_session =
          (subst (λ o. RunsOver old.sent old.coordinator.archive o) (sym is)
          k.coordinator.runs_over).0 in
          let Due = picture.IsDue r plan from number reply in
          let now : (kept : Kept) → IsDueAfter old.coordinator.running plan from number reply kept →
          Due kept =
          λ kept. subst (λ o. IsDueAfter o plan from number reply kept) (sym is) in
          let all = All-weaker _ _ now g.kept g.keeps.due in
          let was_put : (item : ℕ) (path : Path) (since size : ℕ) → reply ≡ Done →
          picture.asked_of r from number ≡ Some (Replace item path since size) →
          HasPut (histories_of old from) (token_of r.session item) =
          λ item path since size done asked. said from r.session number
          (Replace item path since size) Done
          (subst (λ n. Contains old.sent (Answers from n number Done)) expected.0
          (subst (λ reply. Contains old.sent (Answers from session number reply)) done answered))
          (waits_for plans old k new r (sym is) from number (Replace item path since size) asked) in
          let sides : (first : List Kept) (side : Which) →
          history_of (stores_after before (old.acknowledged ++ map Kept_by first)) side
          ≡ histories_of old side =
          λ first side. history_beside before old.acknowledged first side
          ∙ (ap (λ s. history_of s side) (sym now_is) ∙ history_in old side) in
          let last : (first : List Kept) → All Due first →
          (archive_of old.coordinator.archive first).last_session ≡ r.session =
          λ first have. last_after r plan from number reply old.coordinator.archive first have
          ∙ sym runs in
          let last_in : (first : List Kept) → All Due first →
          (stores_after before (old.acknowledged ++ map Kept_by first)).archive.last_session
          ≡ r.session =
          λ first have. ap (λ a. a.last_session) (archive_after before old.acknowledged first
          ∙ ap (λ s. archive_of s.archive first) (sym now_is)) ∙ last first have in
          let sides_now : (side : Which) → history_of (stores_of new) side ≡ histories_of old side =
          λ side. history_in new side ∙ coordinator_sides logged _ RunsOn g side in
          goes logged _ RunsOn g
          (λ first rest kept e. now_due (old.log ++ logged) (histories_of old) r plan from number
          reply made was_put (stores_after before (old.acknowledged ++ map Kept_by first))
          (last_in first (first_of Due first (kept ∷ rest) g.kept all e)) (sides first) kept
          (each_of Due first rest g.kept kept all e))
          (λ kept due. now_due (old.log ++ logged) (histories_of old) r plan from number
          reply made was_put (stores_of new)
          (ap (λ w. w.coordinator.archive.last_session) g.result
          ∙ (ap (λ a. a.last_session) g.keeps.archive ∙ last g.kept all)) sides_now kept
          (now kept due))

  step_recorded : {step : Step} {told : List Refusal} → Follows old new step told →
      AllRecorded before new
  step_recorded (picture.same step told idle e) =
      silent (ap (λ w. w.log) e) (ap (λ w. w.acknowledged) e)
      (ap (λ w. w.coordinator.archive) e) (ap (λ w. w.coordinator.writing) e)
  step_recorded (picture.edits which user edit machine events allowed up w e) =
      side_goes which machine _ events e
  step_recorded (picture.opens which step machine events by opens e) =
      side_goes which machine _ events e
  step_recorded (picture.changes which step status told settles e) = side_is which _ e
  step_recorded (picture.serves message which session number request at takes) =
      request_recorded which session number request takes
  step_recorded (picture.starts_session preference up none g some reports) =
      starts_recorded preference _ g
  step_recorded (picture.ticks_once running is g reports status again) = ticks_recorded _ g
  step_recorded
      (picture.takes_answer message from session number reply plan logged at expected made g reports
      heard) =
      takes_recorded from session number reply plan logged (sent_at old.sent message _ at) expected
      made _ g
  step_recorded (picture.archive_changes step status told settles e) =
      silent (ap (λ w. w.log) e) (ap (λ w. w.acknowledged) e)
      (ap (λ w. w.coordinator.archive) e) (ap (λ w. w.coordinator.writing) e)
  step_recorded (picture.archive_opens step by e) =
      grows [] [] (ap (λ w. w.log) e ∙ sym (append-nil old.log))
      (ap (λ w. w.acknowledged) e ∙ sym (append-nil old.acknowledged))
      (λ earlier later kept none. absurd (no_ack earlier later (Kept_by kept) none))
      (subst (λ o. IfSome o (λ kept. KeepsToPlan (old.log ++ []) (stores_of new) (Kept_by kept)))
      (sym (ap (λ w. w.coordinator.writing) e)) tt)
  step_recorded (picture.archive_recovers step kept by writing can e) =
      let due = subst (λ o. IfSome o (λ kept. KeepsToPlan old.log (stores_of old) (Kept_by kept)))
      writing h.writing in
      grows [] (Kept_by kept ∷ []) (ap (λ w. w.log) e ∙ sym (append-nil old.log))
      (ap (λ w. w.acknowledged) e)
      (λ earlier later one is. back kept due earlier later one is)
      (subst (λ o. IfSome o (λ kept. KeepsToPlan (old.log ++ []) (stores_of new) (Kept_by kept)))
      (sym (ap (λ w. w.coordinator.writing) e)) tt)
    where
      back : (kept : Kept) → KeepsToPlan old.log (stores_of old) (Kept_by kept) →
          (earlier later : List Ack) (one : Kept) →
          Kept_by kept ∷ [] ≡ earlier ++ Kept_by one ∷ later →
          KeepsToPlan (old.log ++ []) (stores_after before (old.acknowledged ++ earlier))
          (Kept_by one)
      back kept due [] later one is =
          let same : kept ≡ one = cc in
          subst (λ k. KeepsToPlan (old.log ++ []) (stores_after before (old.acknowledged ++ []))
          (Kept_by k)) same
          (subst (λ s. KeepsToPlan (old.log ++ []) s (Kept_by kept)) (now_is
          ∙ ap (stores_after before) (sym (append-nil old.acknowledged)))
          (due_more old.log [] (stores_of old) (stores_of old) (itself (stores_of old)) refl kept
          due))
      back kept due (ack ∷ earlier) later one is =
          absurd (no_ack earlier later (Kept_by one)
          (let none : [] ≡ earlier ++ Kept_by one ∷ later = cc in none))

-- A whole run

run_recorded : (before : Stores) (plans : Plans) (old new : Picture) → IsKept plans old →
    AllSaid old → StandsFor before old → AllRecorded before old → {steps : List Step}
    {told : List Refusal} → FollowsAll old steps told new → AllRecorded before new
run_recorded before plans old _ k put stands h (nothing_more _) = h
run_recorded before plans old _ k put stands h (one_more _ between new step steps _ _ g more) =
    let a = step_advances plans old k between g in
    run_recorded before a.later between new a.kept (step_said plans old k put between g)
    (step_stands before old between stands g) (step_recorded before plans old k put stands h between
    (grows_by plans old between a.which a.moves) g) more

start_recorded : (before : Stores) (old : Picture) → IsStart old → AllRecorded before old
start_recorded before old s = record {
  acks = λ earlier later kept e. absurd (no_ack earlier later (Kept_by kept)
      (sym s.nothing_yet.1 ∙ e));
  writing = subst (λ o. IfSome o (λ kept. KeepsToPlan old.log (stores_of old) (Kept_by kept)))
      (sym s.coordinator.1) tt;
}

pub runs_record : (old new : Picture) → IsStart old → {steps : List Step} {told : List Refusal} →
    FollowsAll old steps told new → AllRecorded (stores_of old) new
runs_record old new s g =
    run_recorded (stores_of old) no_plans old new (start_kept old s) (start_said old s)
    (start_stands old s.nothing_yet.1) (start_recorded (stores_of old) old s) g

pub records_keep_to_plan : RecordsKeepToPlan
records_keep_to_plan before steps told world run =
    let h = subst (λ b. AllRecorded b world) run.stands
    (runs_record run.start world run.is_start run.follows) in
    let stands = subst (λ b. StandsFor b world) run.stands (run_stands (stores_of run.start)
    run.start world run.follows (start_stands run.start run.is_start.nothing_yet.1)) in (
      h.acks,
      subst (λ s. IfSome world.coordinator.writing (λ kept. KeepsToPlan world.log s (Kept_by kept)))
          (stands_as before world stands) h.writing,
    )
