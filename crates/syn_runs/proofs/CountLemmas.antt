-- What is recorded of a plan's items, and of how many.
use Rattle.std.proofs.Common.{◌≡◌, ◌+◌, Bool, true, false, ◌&&◌, List, [], ◌∷◌, map, cond, refl}
use Rattle.std.proofs.Common.{sym, ap, ap₂, ◌∙◌, subst, true≢false}
use Rattle.std.specs.Prelude.{Contains, All, Any}
use Rattle.std.specs.List.{count_by}
use Rattle.std.proofs.lemmas.List.Elements.{All-head, All-tail}
use Rattle.std.proofs.lemmas.List.Sums.{sum_by-cons}
use Rattle.std.proofs.lemmas.List.Folds.{Any-from_list_any}
use Rattle.syn_model.specs.Path.{Path}
use Rattle.syn_model.specs.Archive.{Kept, Session, Recorded, RecordedDir}
use Rattle.syn_model.specs.Decision.{Item, ToLeft, ToRight, MarkSame, MarkDir, Conflict, path_of}
use Rattle.syn_model.proofs.PathLemmas.{same_path}
use Rattle.syn_machine.specs.Planning.{Planned}
use Rattle.syn_machine.specs.Report.{is_record_of, is_kept}
use Rattle.syn_runs.proofs.CarriedOut.{is_recorded}

abbrev pub IsRecordOf : Path → Kept → Type 0
IsRecordOf path (Recorded at marks) = at ≡ path
IsRecordOf path (RecordedDir at) = ⊥
IsRecordOf path (Session session) = ⊥

record_is : (x : Item) (made : Kept) → is_recorded x ≡ true → is_record_of x made ≡ true →
    IsRecordOf (path_of x) made
record_is (ToLeft path) (Recorded at marks) on h = same_path at path h
record_is (ToRight path) (Recorded at marks) on h = same_path at path h
record_is (MarkSame path) (Recorded at marks) on h = same_path at path h
record_is (ToLeft path) (RecordedDir at) on h = absurd (true≢false (sym h))
record_is (ToRight path) (RecordedDir at) on h = absurd (true≢false (sym h))
record_is (MarkSame path) (RecordedDir at) on h = absurd (true≢false (sym h))
record_is (ToLeft path) (Session session) on h = absurd (true≢false (sym h))
record_is (ToRight path) (Session session) on h = absurd (true≢false (sym h))
record_is (MarkSame path) (Session session) on h = absurd (true≢false (sym h))
record_is (MarkDir path) made on h = absurd (true≢false (sym on))
record_is (Conflict path) made on h = absurd (true≢false (sym on))

directory_is : (path : Path) (made : Kept) → is_record_of (MarkDir path) made ≡ true →
    made ≡ RecordedDir path
directory_is path (RecordedDir at) h = ap RecordedDir (same_path at path h)
directory_is path (Recorded at marks) h = absurd (true≢false (sym h))
directory_is path (Session session) h = absurd (true≢false (sym h))

-- what is kept for an item
pub kept_any : (kept : List Kept) (x : Item) → is_recorded x ≡ true → is_kept kept x ≡ true →
    Any (IsRecordOf (path_of x)) kept
kept_any kept x on h =
    let any = Any-from_list_any (is_record_of x) kept h in
    (any.0, any.1, any.2, any.3, record_is x any.1 on any.4)

pub kept_directory : (kept : List Kept) (path : Path) → is_kept kept (MarkDir path) ≡ true →
    Contains kept (RecordedDir path)
kept_directory kept path h =
    let any = Any-from_list_any (is_record_of (MarkDir path)) kept h in
    subst (Contains kept) (directory_is path any.1 any.4) (any.0, any.2, any.3)

and_only : (a b : Bool) → (a ≡ true → b ≡ true) → (a && b) ≡ a
and_only true b h = h refl
and_only false b h = refl

-- where each item of a kind passes a test, as many pass it as there are
pub count_all : (of_kind passes : Item → Bool) (plan : List Planned) →
    All (λ planned. of_kind planned.item ≡ true → passes planned.item ≡ true) plan →
    count_by (λ planned. of_kind planned.item && passes planned.item) plan
    ≡ count_by of_kind (map (λ planned. planned.item) plan)
count_all of_kind passes [] all = refl
count_all of_kind passes (planned ∷ plan) all =
    let P = λ (planned : Planned). of_kind planned.item ≡ true → passes planned.item ≡ true in
    let both = λ (planned : Planned). of_kind planned.item && passes planned.item in
    sum_by-cons (λ planned. cond (both planned) 1 0) planned plan
    ∙ (ap₂ (λ b n. cond b 1 0 + n) (and_only (of_kind planned.item) (passes planned.item)
    (All-head P planned plan all)) (count_all of_kind passes plan (All-tail P planned plan all))
    ∙ sym (sum_by-cons (λ item. cond (of_kind item) 1 0) planned.item
    (map (λ planned. planned.item) plan)))
