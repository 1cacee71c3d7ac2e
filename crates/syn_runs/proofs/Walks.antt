-- What a call of the coordinator keeps as it goes through the plan, and which items it settles.
use Rattle.std.proofs.Common.{◌≡◌, ℕ, zero, suc, Bool, true, false, if◌then◌else◌, ◌||◌, List, []}
use Rattle.std.proofs.Common.{◌∷◌, ◌++◌, take, refl, sym, ap, ◌∙◌, subst, Some, None, append_assoc}
use Rattle.std.proofs.Common.{slice_get, ◌≢◌}
use Rattle.std.specs.Prelude.{IfSome, All}
use Rattle.std.specs.List.{list_any}
use Rattle.std.specs.Ordering.{eq_by_cmp}
use Rattle.std.proofs.lemmas.List.Elements.{All-nil, All-cons, All-head, All-tail, All-push}
use Rattle.std.proofs.lemmas.List.Elements.{All-weaker, Contains-push, Contains-append_left}
use Rattle.std.proofs.lemmas.List.Folds.{list_any-append}
use Rattle.std.proofs.lemmas.Bool.{or_right}
use Rattle.syn_model.specs.Tree.{Tree, empty_directory, is_directory, replace}
use Rattle.syn_model.proofs.PathLemmas.{path_itself}
use Rattle.std.proofs.lemmas.Option.{none-some, same_Some}
use Rattle.syn_model.specs.Path.{Path, path_cmp}
use Rattle.syn_model.specs.Refusal.{Refusal, Full}
use Rattle.syn_model.specs.Archive.{Archive, Kept, Recorded, RecordedDir, CanKeep, after_kept}
use Rattle.syn_model.specs.Archive.{archive_of}
use Rattle.syn_model.specs.Decision.{Item, ToLeft, ToRight, MarkSame, MarkDir, Conflict, path_of}
use Rattle.syn_machine.specs.Machine.{Up, Journaled, idle, written, unwritten, Compacts, compacted}
use Rattle.syn_machine.specs.Machine.{not_compacted}
use Rattle.syn_machine.specs.Network.{Which, Left, Right}
use Rattle.syn_machine.specs.Planning.{Planned, WritesTo}
use Rattle.syn_machine.specs.Report.{is_kept, is_record_of}
use Rattle.syn_machine.specs.Coordinator.{Exchange, Walk, past, refusing, making_room}
use Rattle.syn_machine.specs.Coordinator.{archive_layout, IsDue, done, same, directory, Keeps}
use Rattle.syn_machine.specs.Coordinator.{writes, cut_after, Advances, stands, conflicts}
use Rattle.syn_machine.specs.Coordinator.{side_refuses, archive_refuses, no_checkpoint}
use Rattle.syn_machine.specs.Coordinator.{checkpoints, checkpoint_breaks, keeps, record_breaks}
use Rattle.syn_runs.specs.Picture.{AllCanKeep}
use Rattle.syn_runs.proofs.View.{not_up}
pub use Rattle.syn_runs.specs.Reported.{IsSettledBy, as_conflict, as_kept, as_refused}

-- a record of an item of the plan
pub data IsItems (plan : List Planned) (taken : Exchange) (kept : Kept) : Type 0 where
  of_item : (item : ℕ) (planned : Planned) → slice_get plan item ≡ Some planned →
      IsDue item planned taken kept → IsItems plan taken kept

-- what a record leaves of an archive's journal
pub record IsLeft (old new : Journaled Archive Kept) (kept : List Kept)
    (IsPending : Kept → Type 0) : Type 0 where
  pub value : new.value ≡ archive_of old.value kept
  pub can : AllCanKeep old.value kept
  pub writing : IfSome new.writing (λ more. IsPending more × CanKeep new.value more)
  pub whole : new.status ≡ old.status → new.writing ≡ None
  pub up : new.status ≡ Up → new.writing ≡ None

-- what a call writes
pub writes_left : (pair : ℕ) (old new : Journaled Archive Kept) (what : Kept) (kept : List Kept)
    (P : Kept → Type 0) → old.status ≡ Up → old.writing ≡ None → CanKeep old.value what → P what →
    Keeps pair old what new kept → IsLeft old new kept P
writes_left pair old _ what _ P up none can p (writes _ _ (idle is)) =
    record {
      value = refl;
      can = (can, tt);
      writing = subst
          (λ o. IfSome o (λ more. P more × CanKeep (after_kept old.value what) more)) (sym none) tt;
      whole = λ _. none;
      up = λ _. none;
    }
writes_left pair old _ what _ P up none can p (writes _ _ (written arms is meets)) =
    record {
      value = refl;
      can = (can, tt);
      writing = subst
          (λ o. IfSome o (λ more. P more × CanKeep (after_kept old.value what) more)) (sym none) tt;
      whole = λ _. none;
      up = λ _. none;
    }
writes_left pair old _ what _ P up none can p
    (writes _ _ (unwritten status arms failed is down meets)) =
    record {
      value = refl;
      can = tt;
      writing = (p, can);
      whole = λ e. absurd (not_up status down (e ∙ up));
      up = λ e. absurd (not_up status down e);
    }
writes_left pair old _ what _ P up none can p (cut_after is fail stop) =
    record {
      value = refl;
      can = (can, tt);
      writing = subst
          (λ o. IfSome o (λ more. P more × CanKeep (after_kept old.value what) more)) (sym none) tt;
      whole = λ _. none;
      up = λ _. none;
    }

pub compacts_left : (pair : ℕ) (old new : Journaled Archive Kept) →
    Compacts (archive_layout pair) old new → (new.value ≡ old.value) × (new.writing ≡ old.writing)
compacts_left pair old _ (compacted arms meets) = (refl, refl)
compacts_left pair old _ (not_compacted status arms failed down meets) = (refl, refl)

-- the rest of a call after its first record, or after a checkpoint
after_one : (old between new : Journaled Archive Kept) (what : Kept) (kept : List Kept)
    (P : Kept → Type 0) → CanKeep old.value what → between.value ≡ after_kept old.value what →
    between.status ≡ old.status → IsLeft between new kept P → IsLeft old new (what ∷ kept) P
after_one old between new what kept P can value status l = record {
  value = l.value ∙ ap (λ a. archive_of a kept) value;
  can = (can, subst (λ a. AllCanKeep a kept) value l.can);
  writing = l.writing;
  whole = λ e. l.whole (e ∙ sym status);
  up = l.up;
}

after_none : (old between new : Journaled Archive Kept) (kept : List Kept) (P : Kept → Type 0) →
    between.value ≡ old.value → between.status ≡ old.status → IsLeft between new kept P →
    IsLeft old new kept P
after_none old between new kept P value status l = record {
  value = l.value ∙ ap (λ a. archive_of a kept) value;
  can = subst (λ a. AllCanKeep a kept) value l.can;
  writing = l.writing;
  whole = λ e. l.whole (e ∙ sym status);
  up = l.up;
}

pub kept_both : (pair : ℕ) (old new : Journaled Archive Kept) (what : Kept) (kept : List Kept) →
    Keeps pair old what new kept → new.status ≡ Up →
    (new.value ≡ after_kept old.value what) × (new.writing ≡ old.writing)
kept_both pair old _ what _ (writes _ _ (idle is)) up = (refl, refl)
kept_both pair old _ what _ (writes _ _ (written arms is meets)) up = (refl, refl)
kept_both pair old _ what _ (writes _ _ (unwritten status arms failed is down meets)) up =
    absurd (not_up status down up)
kept_both pair old _ what _ (cut_after is fail stop) up = (refl, refl)

module _ (pair : ℕ) (plan : List Planned) (taken : Exchange) where
  -- what a call leaves of the archive's journal
  pub advances_left : (walk later : Walk) (kept : List Kept) → walk.journal.writing ≡ None →
      Advances pair plan taken walk kept later →
      IsLeft walk.journal later.journal kept (IsItems plan taken)
  advances_left walk _ _ none (stands _) =
      record {
        value = refl;
        can = tt;
        writing =
            subst
            (λ o. IfSome o (λ more. IsItems plan taken more × CanKeep walk.journal.value more))
            (sym none) tt;
        whole = λ _. none;
        up = λ _. none;
      }
  advances_left walk later kept none (conflicts _ _ _ planned path first at is more) =
      advances_left (past walk walk.journal) later kept none more
  advances_left walk later kept none (side_refuses _ _ _ planned why first at is for more) =
      advances_left (refusing walk why planned) later kept none more
  advances_left walk later kept none
      (archive_refuses _ _ _ planned what why first at is may refused more) =
      advances_left (refusing walk why planned) later kept none more
  advances_left walk later kept none (no_checkpoint _ _ _ what first full greatest more) =
      advances_left (refusing walk Full full.to_keep.planned) later kept none more
  advances_left walk later kept none
      (checkpoints _ _ _ what journal first full smaller compacts up more) =
      let both = compacts_left pair walk.journal journal compacts in
      after_none walk.journal journal later.journal kept (IsItems plan taken) both.0
      (up ∙ sym full.to_keep.up)
      (advances_left (making_room walk journal) later kept (both.1 ∙ none) more)
  advances_left walk _ _ none (checkpoint_breaks _ what journal first full smaller compacts down) =
      let both = compacts_left pair walk.journal journal compacts in
      let still = both.1 ∙ none in
      record {
        value = both.0;
        can = tt;
        writing =
            subst (λ o. IfSome o (λ more. IsItems plan taken more × CanKeep journal.value more))
            (sym still) tt;
        whole = λ _. still;
        up = λ _. still;
      }
  advances_left walk later _ none (keeps _ _ what kept journal to_keep room kept_so up more) =
      after_one walk.journal journal later.journal what kept (IsItems plan taken) to_keep.can
      (kept_both pair walk.journal journal what (what ∷ []) kept_so up).0 (up ∙ sym to_keep.up)
      (advances_left (past walk journal) later kept
      ((kept_both pair walk.journal journal what (what ∷ []) kept_so up).1 ∙ none) more)
  advances_left walk _ kept none (record_breaks _ what _ journal to_keep room kept_so down) =
      writes_left pair walk.journal journal what kept (IsItems plan taken) to_keep.up none
      to_keep.can (of_item walk.cursor to_keep.planned to_keep.at to_keep.due) kept_so

-- Which items are settled

more_kept : (kept more : List Kept) (refused : List (Refusal × Path)) (planned : Planned) →
    IsSettledBy kept refused planned → IsSettledBy (kept ++ more) refused planned
more_kept kept more refused planned (as_conflict path is) = as_conflict path is
more_kept kept more refused planned (as_kept is) =
    as_kept (list_any-append (is_record_of planned.item) kept more
    ∙ ap (λ b. b || list_any (is_record_of planned.item) more) is)
more_kept kept more refused planned (as_refused why c) = as_refused why c

more_refused : (kept : List Kept) (refused more : List (Refusal × Path)) (planned : Planned) →
    IsSettledBy kept refused planned → IsSettledBy kept (refused ++ more) planned
more_refused kept refused more planned (as_conflict path is) = as_conflict path is
more_refused kept refused more planned (as_kept is) = as_kept is
more_refused kept refused more planned (as_refused why c) =
    as_refused why (Contains-append_left refused more _ c)

-- the item of a record that is due
kept_last : (kept : List Kept) (what : Kept) (item : Item) → is_record_of item what ≡ true →
    is_kept (kept ++ what ∷ []) item ≡ true
kept_last kept what item is =
    list_any-append (is_record_of item) kept (what ∷ [])
    ∙ or_right (list_any (is_record_of item) kept) (is_record_of item what || false)
    (ap (λ b. b || false) is)

writes_record : (item : Item) (side : Which) (path : Path) (marks : Tree) →
    WritesTo item side path → is_record_of item (Recorded path marks) ≡ true
writes_record (ToLeft at) Left path marks w =
    ap (λ p. eq_by_cmp path_cmp path p) w ∙ path_itself path
writes_record (ToRight at) Right path marks w =
    ap (λ p. eq_by_cmp path_cmp path p) w ∙ path_itself path
writes_record (ToLeft at) Right path marks w = absurd w
writes_record (ToRight at) Left path marks w = absurd w
writes_record (MarkSame at) side path marks w = absurd w
writes_record (MarkDir at) side path marks w = absurd w
writes_record (Conflict at) side path marks w = absurd w

due_record : (item : ℕ) (planned : Planned) (taken : Exchange) (what : Kept) →
    IsDue item planned taken what → is_record_of planned.item what ≡ true
due_record item planned taken _ (done path since size is asked w) =
    writes_record planned.item taken.side path _ w
due_record item planned taken _ (same path is alike) =
    ap (λ i. is_record_of i (Recorded path planned.left.marks)) is ∙ path_itself path
due_record item planned taken _ (directory path is) =
    ap (λ i. is_record_of i (RecordedDir path)) is ∙ path_itself path

pub take_next : {X : Type 0} (xs : List X) (n : ℕ) (x : X) → slice_get xs n ≡ Some x →
    take (suc n) xs ≡ take n xs ++ x ∷ []
take_next [] n x e = absurd (none-some _ e)
take_next (y ∷ xs) zero x e = ap (λ z. z ∷ []) (same_Some _ _ e)
take_next (y ∷ xs) (suc n) x e = ap (λ zs. y ∷ zs) (take_next xs n x e)

pub take_whole : {X : Type 0} (xs : List X) (n : ℕ) → slice_get xs n ≡ None → take n xs ≡ xs
take_whole [] zero e = refl
take_whole [] (suc n) e = refl
take_whole (y ∷ xs) zero e = absurd (none-some _ (sym e))
take_whole (y ∷ xs) (suc n) e = ap (λ zs. y ∷ zs) (take_whole xs n e)

-- each item up to the cursor is settled
abbrev pub AllSettled : List Planned → List Kept → Walk → Type 0
AllSettled plan kept walk = All (IsSettledBy kept walk.refused) (take walk.cursor plan)

module _ (pair : ℕ) (plan : List Planned) (taken : Exchange) where
  one_more : (kept : List Kept) (cursor : ℕ) (refused : List (Refusal × Path)) (planned : Planned) →
      slice_get plan cursor ≡ Some planned → All (IsSettledBy kept refused) (take cursor plan) →
      IsSettledBy kept refused planned → All (IsSettledBy kept refused) (take (suc cursor) plan)
  one_more kept cursor refused planned at all one =
      subst (All (IsSettledBy kept refused)) (sym (take_next plan cursor planned at))
      (All-push (IsSettledBy kept refused) (take cursor plan) planned all one)

  refuse_one : (kept : List Kept) (walk : Walk) (why : Refusal) (planned : Planned) →
      slice_get plan walk.cursor ≡ Some planned → AllSettled plan kept walk →
      AllSettled plan kept (refusing walk why planned)
  refuse_one kept walk why planned at all =
      let refusal : Refusal × Path = (why, path_of planned.item) in
      let refused = walk.refused ++ refusal ∷ [] in
      one_more kept walk.cursor refused planned at
      (All-weaker (IsSettledBy kept walk.refused) (IsSettledBy kept refused)
      (more_refused kept walk.refused (refusal ∷ [])) (take walk.cursor plan) all)
      (as_refused why (Contains-push walk.refused refusal))

  keep_more : (kept more : List Kept) (walk : Walk) → AllSettled plan kept walk →
      AllSettled plan (kept ++ more) walk
  keep_more kept more walk all =
      All-weaker (IsSettledBy kept walk.refused) (IsSettledBy (kept ++ more) walk.refused)
      (more_kept kept more walk.refused) (take walk.cursor plan) all

  -- a call settles each item that it passes
  pub advances_settled : (walk later : Walk) (had kept : List Kept) → AllSettled plan had walk →
      Advances pair plan taken walk kept later → AllSettled plan (had ++ kept) later
  advances_settled walk _ had _ all (stands _) = keep_more had [] walk all
  advances_settled walk later had kept all (conflicts _ _ _ planned path first at is more) =
      advances_settled (past walk walk.journal) later had kept
      (one_more had walk.cursor walk.refused planned at all (as_conflict path is)) more
  advances_settled walk later had kept all (side_refuses _ _ _ planned why first at is for more) =
      advances_settled (refusing walk why planned) later had kept
      (refuse_one had walk why planned at all) more
  advances_settled walk later had kept all
      (archive_refuses _ _ _ planned what why first at is may refused more) =
      advances_settled (refusing walk why planned) later had kept
      (refuse_one had walk why planned at all) more
  advances_settled walk later had kept all (no_checkpoint _ _ _ what first full greatest more) =
      advances_settled (refusing walk Full full.to_keep.planned) later had kept
      (refuse_one had walk Full full.to_keep.planned full.to_keep.at all) more
  advances_settled walk later had kept all
      (checkpoints _ _ _ what journal first full smaller compacts up more) =
      advances_settled (making_room walk journal) later had kept all more
  advances_settled walk _ had _ all
      (checkpoint_breaks _ what journal first full smaller compacts down) =
      keep_more had [] walk all
  advances_settled walk later had _ all (keeps _ _ what kept journal to_keep room kept_so up more) =
      subst (λ ks. AllSettled plan ks later) (append_assoc had (what ∷ []) kept)
      (advances_settled (past walk journal) later (had ++ what ∷ []) kept
      (one_more (had ++ what ∷ []) walk.cursor walk.refused to_keep.planned to_keep.at
      (keep_more had (what ∷ []) walk all)
      (as_kept (kept_last had what to_keep.planned.item
      (due_record walk.cursor to_keep.planned taken what to_keep.due)))) more)
  advances_settled walk _ had kept all (record_breaks _ what _ journal to_keep room kept_so down) =
      keep_more had kept walk all

-- No record of an item is a session's number, so the last session stays
no_session : (plan : List Planned) (taken : Exchange) (archive : Archive) (what : Kept) →
    IsItems plan taken what → (after_kept archive what).last_session ≡ archive.last_session
no_session plan taken archive what (of_item item planned at due) = by_due item planned what due
  where
    directory_stays : (b : Bool) (path : Path) → (if b then archive else record archive
        { marks = replace archive.marks path empty_directory }).last_session ≡ archive.last_session
    directory_stays true path = refl
    directory_stays false path = refl

    by_due : (item : ℕ) (planned : Planned) (what : Kept) → IsDue item planned taken what →
        (after_kept archive what).last_session ≡ archive.last_session
    by_due item planned _ (done path since size is asked w) = refl
    by_due item planned _ (same path is alike) = refl
    by_due item planned _ (directory path is) =
        directory_stays (is_directory archive.marks path) path

pub last_stays : (plan : List Planned) (taken : Exchange) (archive : Archive) (kept : List Kept) →
    All (IsItems plan taken) kept → (archive_of archive kept).last_session ≡ archive.last_session
last_stays plan taken archive [] all = refl
last_stays plan taken archive (what ∷ kept) all =
    last_stays plan taken (after_kept archive what) kept
    (All-tail (IsItems plan taken) what kept all)
    ∙ no_session plan taken archive what (All-head (IsItems plan taken) what kept all)

pub keeps_due : (pair : ℕ) (old new : Journaled Archive Kept) (what : Kept) (kept : List Kept)
    (P : Kept → Type 0) → P what → Keeps pair old what new kept → All P kept
keeps_due pair old _ what _ P p (writes _ _ (idle is)) = All-cons P what [] p (All-nil P)
keeps_due pair old _ what _ P p (writes _ _ (written arms is meets)) =
    All-cons P what [] p (All-nil P)
keeps_due pair old _ what _ P p (writes _ _ (unwritten status arms failed is broken meets)) =
    All-nil P
keeps_due pair old _ what _ P p (cut_after is fail stop) = All-cons P what [] p (All-nil P)

-- what is kept is of items of the plan
pub advances_due : (pair : ℕ) (plan : List Planned) (taken : Exchange) (walk later : Walk)
    (kept : List Kept) → Advances pair plan taken walk kept later → All (IsItems plan taken) kept
advances_due pair plan taken walk _ _ (stands _) = All-nil (IsItems plan taken)
advances_due pair plan taken walk later kept (conflicts _ _ _ planned path first at is more) =
    advances_due pair plan taken (past walk walk.journal) later kept more
advances_due pair plan taken walk later kept (side_refuses _ _ _ planned why first at is for more) =
    advances_due pair plan taken (refusing walk why planned) later kept more
advances_due pair plan taken walk later kept
    (archive_refuses _ _ _ planned what why first at is may refused more) =
    advances_due pair plan taken (refusing walk why planned) later kept more
advances_due pair plan taken walk later kept (no_checkpoint _ _ _ what first full greatest more) =
    advances_due pair plan taken (refusing walk Full full.to_keep.planned) later kept more
advances_due pair plan taken walk later kept
    (checkpoints _ _ _ what journal first full smaller compacts up more) =
    advances_due pair plan taken (making_room walk journal) later kept more
advances_due pair plan taken walk _ _
    (checkpoint_breaks _ what journal first full smaller compacts down) =
    All-nil (IsItems plan taken)
advances_due pair plan taken walk later _
    (keeps _ _ what kept journal to_keep room kept_so up more) =
    All-cons (IsItems plan taken) what kept
    (of_item walk.cursor to_keep.planned to_keep.at to_keep.due)
    (advances_due pair plan taken (past walk journal) later kept more)
advances_due pair plan taken walk _ kept
    (record_breaks _ what _ journal to_keep room kept_so down) =
    keeps_due pair walk.journal journal what kept (IsItems plan taken)
    (of_item walk.cursor to_keep.planned to_keep.at to_keep.due) kept_so

-- an archive that is not up is not written, and stays so
pub advances_status : (pair : ℕ) (plan : List Planned) (taken : Exchange) (walk later : Walk)
    (kept : List Kept) → Advances pair plan taken walk kept later → walk.journal.status ≢ Up →
    later.journal.status ≡ walk.journal.status
advances_status pair plan taken walk _ _ (stands _) other = refl
advances_status pair plan taken walk later kept (conflicts _ _ _ planned path first at is more)
    other =
    advances_status pair plan taken (past walk walk.journal) later kept more other
advances_status pair plan taken walk later kept
    (side_refuses _ _ _ planned why first at is for more) other =
    advances_status pair plan taken (refusing walk why planned) later kept more other
advances_status pair plan taken walk later kept
    (archive_refuses _ _ _ planned what why first at is may refused more) other =
    advances_status pair plan taken (refusing walk why planned) later kept more other
advances_status pair plan taken walk later kept
    (no_checkpoint _ _ _ what first full greatest more) other =
    absurd (other full.to_keep.up)
advances_status pair plan taken walk later kept
    (checkpoints _ _ _ what journal first full smaller compacts up more) other =
    absurd (other full.to_keep.up)
advances_status pair plan taken walk _ _
    (checkpoint_breaks _ what journal first full smaller compacts down) other =
    absurd (other full.to_keep.up)
advances_status pair plan taken walk later _
    (keeps _ _ what kept journal to_keep room kept_so up more) other =
    absurd (other to_keep.up)
advances_status pair plan taken walk _ kept
    (record_breaks _ what _ journal to_keep room kept_so down) other =
    absurd (other to_keep.up)
