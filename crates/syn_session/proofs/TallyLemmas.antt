-- What is recorded for the items of a plan, and how many conflicts it came to.
use Rattle.std.proofs.Common.{◌≡◌, ◌≢◌, ◌≤◌, ◌<◌, ◌+◌, ℕ, zero, suc, Bool, true, false, cond, ◌&&◌}
use Rattle.std.proofs.Common.{◌||◌, if◌then◌else◌, List, [], ◌∷◌, ◌++◌, Option, Some, None, length}
use Rattle.std.proofs.Common.{take, refl, sym, ap, ap₂, ◌∙◌, inl, inr, arith}
use Rattle.std.specs.List.{list_any, count_by, filter_map, slice_get, AllPairs, All, cons_option}
use Rattle.std.proofs.lemmas.Bool.{cases_lt, false≢true}
use Rattle.std.proofs.lemmas.List.{append-nil}
use Rattle.std.proofs.lemmas.List.Elements.{All-nil, All-push, All-weaker, All-head, All-tail}
use Rattle.std.proofs.lemmas.List.Sums.{sum_by-cons, count_by-le-length}
use Rattle.std.proofs.lemmas.Option.{none-some, same_Some, slice_get_within, get_or_from_slice_get}
use Rattle.syn_machine.specs.Planning.{Planned}
use Rattle.syn_machine.specs.Report.{is_kept, is_record_of, conflict_at}
use Rattle.syn_model.specs.Archive.{Kept, Session, Recorded, RecordedDir}
use Rattle.syn_model.specs.Decision.{Item, ToLeft, ToRight, MarkSame, MarkDir, Conflict, path_of}
use Rattle.syn_model.specs.Path.{Path}
use Rattle.syn_model.proofs.PathLemmas.{same_path}
use Rattle.syn_session.specs.Plans.{Plan, AreRecordedBefore, recorded_count}
use Rattle.syn_model.proofs.BaseLemmas.{and_false, and_true, or_false}

-- ---- tests that change at one place

-- a count stays where each element answers as before
same_count : {X : Type 0} (p q : X → Bool) (xs : List X) →
    ((j : ℕ) (y : X) → slice_get xs j ≡ Some y → q y ≡ p y) → count_by q xs ≡ count_by p xs
same_count p q [] same = refl
same_count p q (x ∷ xs) same =
    sum_by-cons (λ x. cond (q x) 1 0) x xs
    ∙ (ap₂ (λ b n. cond b 1 0 + n) (same 0 x refl) (same_count p q xs (λ j y. same (suc j) y))
    ∙ sym (sum_by-cons (λ x. cond (p x) 1 0) x xs))

one_more : (a b c : ℕ) → a + (b + c) ≡ a + b + c
one_more a b c = omega arith

zero_and : (n b : ℕ) → b + n ≡ 0 + n + b
zero_and n b = omega arith

-- and it grows by what one element answers now that did not pass
count_grows : {X : Type 0} (p q : X → Bool) (xs : List X) (i : ℕ) (x : X) →
    slice_get xs i ≡ Some x → ((j : ℕ) (y : X) → slice_get xs j ≡ Some y → j ≢ i → q y ≡ p y) →
    p x ≡ false → count_by q xs ≡ count_by p xs + cond (q x) 1 0
count_grows p q [] i x at same before = absurd (none-some _ at)
count_grows p q (y ∷ ys) zero x at same before =
    let is : y ≡ x = same_Some y x at in
    sum_by-cons (λ x. cond (q x) 1 0) y ys
    ∙ (ap₂ (λ z n. cond (q z) 1 0 + n) is
    (same_count p q ys (λ j z e. same (suc j) z e (λ s. omega (arith, s))))
    ∙ (zero_and (count_by p ys) (cond (q x) 1 0)
    ∙ (ap (λ b. cond b 1 0 + count_by p ys + cond (q x) 1 0) (sym (ap p is ∙ before))
    ∙ ap (λ n. n + cond (q x) 1 0) (sym (sum_by-cons (λ x. cond (p x) 1 0) y ys)))))
count_grows p q (y ∷ ys) (suc i) x at same before =
    sum_by-cons (λ x. cond (q x) 1 0) y ys
    ∙ (ap₂ (λ b n. cond b 1 0 + n) (same 0 y refl (λ s. omega (arith, s))) (count_grows p q ys i x
    at (λ j z e other. same (suc j) z e (λ s. other (omega (arith, s)))) before)
    ∙ (one_more (cond (p y) 1 0) (count_by p ys) (cond (q x) 1 0)
    ∙ ap (λ n. n + cond (q x) 1 0) (sym (sum_by-cons (λ x. cond (p x) 1 0) y ys))))

-- one more to look at
any_push : {X : Type 0} (p : X → Bool) (xs : List X) (x : X) →
    list_any p (xs ++ x ∷ []) ≡ (list_any p xs || p x)
any_push p [] x = by (p x)
  where
    by : (b : Bool) → (b || false) ≡ b
    by true = refl
    by false = refl
any_push p (y ∷ ys) x = ap (λ b. p y || b) (any_push p ys x) ∙ by (p y) (list_any p ys) (p x)
  where
    by : (a b c : Bool) → (a || (b || c)) ≡ ((a || b) || c)
    by true b c = refl
    by false b c = refl

-- none passes where each that does leads to nothing
none_passes : {X : Type 0} (p : X → Bool) (P : X → Type 0) (xs : List X) →
    All P xs → ((x : X) → P x → p x ≡ true → ⊥) → list_any p xs ≡ false
none_passes p P [] all never = refl
none_passes p P (x ∷ xs) all never = by (p x) refl (none_passes p P xs (All-tail P x xs all) never)
  where
    by : (b : Bool) → p x ≡ b → list_any p xs ≡ false → (p x || list_any p xs) ≡ false
    by true e rest = absurd (never x (All-head P x xs all) e)
    by false e rest = ap (λ b. b || list_any p xs) e ∙ rest

-- ---- whose record it is

path_in : Kept → Path → Path
path_in (Session session) other = other
path_in (Recorded path marks) other = path
path_in (RecordedDir path) other = path

record_at : (item : Item) (one : Kept) → is_record_of item one ≡ true →
    path_in one (path_of item) ≡ path_of item
unfolding path_in
record_at (ToLeft path) (Recorded at marks) e = same_path at path e
record_at (ToRight path) (Recorded at marks) e = same_path at path e
record_at (MarkSame path) (Recorded at marks) e = same_path at path e
record_at (MarkDir path) (RecordedDir at) e = same_path at path e
record_at (ToLeft path) (Session session) e = absurd (false≢true e)
record_at (ToLeft path) (RecordedDir at) e = absurd (false≢true e)
record_at (ToRight path) (Session session) e = absurd (false≢true e)
record_at (ToRight path) (RecordedDir at) e = absurd (false≢true e)
record_at (MarkSame path) (Session session) e = absurd (false≢true e)
record_at (MarkSame path) (RecordedDir at) e = absurd (false≢true e)
record_at (MarkDir path) (Session session) e = absurd (false≢true e)
record_at (MarkDir path) (Recorded at marks) e = absurd (false≢true e)
record_at (Conflict path) one e = absurd (false≢true e)

-- one record is for items of one path
one_path : (a b : Item) (one : Kept) → is_record_of a one ≡ true → is_record_of b one ≡ true →
    path_of a ≡ path_of b
unfolding path_in
one_path a b (Session session) first second = absurd (no_session a session first)
  where
    no_session : (item : Item) (session : ℕ) → is_record_of item (Session session) ≡ true → ⊥
    no_session (ToLeft path) session e = false≢true e
    no_session (ToRight path) session e = false≢true e
    no_session (MarkSame path) session e = false≢true e
    no_session (MarkDir path) session e = false≢true e
    no_session (Conflict path) session e = false≢true e
one_path a b (Recorded path marks) first second =
    sym (record_at a (Recorded path marks) first) ∙ record_at b (Recorded path marks) second
one_path a b (RecordedDir path) first second =
    sym (record_at a (RecordedDir path) first) ∙ record_at b (RecordedDir path) second

-- ---- a plan whose items are named once

abbrev pub NamedOnce : Plan → Type 0
NamedOnce plan = AllPairs (λ earlier later. path_of earlier.item ≢ path_of later.item) plan

-- two places have two paths
pub paths_apart : (plan : Plan) → NamedOnce plan → (i j : ℕ) (a b : Planned) →
    slice_get plan i ≡ Some a → slice_get plan j ≡ Some b → i < j → path_of a.item ≢ path_of b.item
paths_apart plan once i j a b first second less e =
    once i j a less (slice_get_within plan j b second)
    (ap (λ p. path_of p.item) (get_or_from_slice_get plan i a a first)
    ∙ (e ∙ sym (ap (λ p. path_of p.item) (get_or_from_slice_get plan j b a second))))

pub other_paths : (plan : Plan) → NamedOnce plan → (i j : ℕ) (a b : Planned) →
    slice_get plan i ≡ Some a → slice_get plan j ≡ Some b → j ≢ i → path_of b.item ≢ path_of a.item
other_paths plan once i j a b first second other e = elim (cases_lt i j) [
  | inl less ↦ paths_apart plan once i j a b first second less (sym e)
  | inr more ↦ paths_apart plan once j i b a second first (omega (arith, more, other)) e
]

-- what is recorded for items before one is so before the next
pub recorded_past : (plan : Plan) (cursor : ℕ) (kept : List Kept) →
    AreRecordedBefore plan cursor kept → AreRecordedBefore plan (suc cursor) kept
recorded_past plan cursor kept before =
    All-weaker (λ one. (at : ℕ) × (planned : Planned) × (at < cursor)
    × (slice_get plan at ≡ Some planned) × (is_record_of planned.item one ≡ true))
    (λ one. (at : ℕ) × (planned : Planned) × (at < suc cursor) × (slice_get plan at ≡ Some planned)
    × (is_record_of planned.item one ≡ true))
    (λ one was. (was.0, was.1, omega (arith, was.2), was.3, was.4)) kept before

pub none_recorded : (plan : Plan) (cursor : ℕ) → AreRecordedBefore plan cursor []
none_recorded plan cursor =
    All-nil (λ one. (at : ℕ) × (planned : Planned) × (at < cursor)
    × (slice_get plan at ≡ Some planned) × (is_record_of planned.item one ≡ true))

none_counts : {X : Type 0} (p : X → Bool) (xs : List X) → ((x : X) → p x ≡ false) →
    count_by p xs ≡ 0
none_counts p [] never = refl
none_counts p (x ∷ xs) never =
    sum_by-cons (λ x. cond (p x) 1 0) x xs
    ∙ ap₂ (λ b n. cond b 1 0 + n) (never x) (none_counts p xs never)

-- nothing counts where nothing was recorded, and never more than the plan has
pub nothing_counted : (is_of : Item → Bool) (plan : Plan) → recorded_count is_of plan [] ≡ 0
nothing_counted is_of plan =
    none_counts (λ planned. is_of planned.item && is_kept [] planned.item) plan
    (λ planned. and_false (is_of planned.item))

pub counted_within : (is_of : Item → Bool) (plan : Plan) (kept : List Kept) →
    recorded_count is_of plan kept ≤ length plan
counted_within is_of plan kept =
    count_by-le-length (λ planned. is_of planned.item && is_kept kept planned.item) plan

module _ (plan : Plan) (once : NamedOnce plan) (cursor : ℕ) (kept : List Kept)
    (before : AreRecordedBefore plan cursor kept) (planned : Planned)
    (at : slice_get plan cursor ≡ Some planned) where
  -- no record of the item at the cursor is among those before it
  pub not_kept_yet : is_kept kept planned.item ≡ false
  not_kept_yet =
      none_passes (is_record_of planned.item) (λ one. (at : ℕ) × (planned : Planned) × (at < cursor)
      × (slice_get plan at ≡ Some planned) × (is_record_of planned.item one ≡ true)) kept before
      (λ one was e. paths_apart plan once was.0 cursor was.1 planned was.3 at was.2
      (one_path was.1.item planned.item one was.4 e))

  module _ (one : Kept) (is : is_record_of planned.item one ≡ true) where
    -- it is no record of another item
    of_no_other : (j : ℕ) (other : Planned) → slice_get plan j ≡ Some other → j ≢ cursor →
        is_record_of other.item one ≡ false
    of_no_other j other there apart = by (is_record_of other.item one) refl
      where
        by : (b : Bool) → is_record_of other.item one ≡ b → is_record_of other.item one ≡ false
        by false e = e
        by true e =
            absurd (other_paths plan once cursor j planned other at there apart
            (one_path other.item planned.item one e is))

    -- one more is recorded, of the kind of its item
    pub record_counts : (is_of : Item → Bool) → recorded_count is_of plan (kept ++ one ∷ [])
        ≡ recorded_count is_of plan kept + (if is_of planned.item then 1 else 0)
    record_counts is_of =
        count_grows (λ planned. is_of planned.item && is_kept kept planned.item) (λ planned.
        is_of planned.item && is_kept (kept ++ one ∷ []) planned.item) plan cursor planned at
        (λ j other there apart. ap (λ b. is_of other.item && b)
        (any_push (is_record_of other.item) kept one ∙ (ap (λ b. is_kept kept other.item || b)
        (of_no_other j other there apart) ∙ or_false (is_kept kept other.item))))
        (ap (λ b. is_of planned.item && b) not_kept_yet ∙ and_false (is_of planned.item))
        ∙ ap (λ b. recorded_count is_of plan kept + cond b 1 0)
        (ap (λ b. is_of planned.item && b) (any_push (is_record_of planned.item) kept one
        ∙ ap₂ (λ a b. a || b) not_kept_yet is) ∙ and_true (is_of planned.item))

    pub recorded_more : AreRecordedBefore plan (suc cursor) (kept ++ one ∷ [])
    recorded_more =
        All-push (λ one. (at : ℕ) × (planned : Planned) × (at < suc cursor)
        × (slice_get plan at ≡ Some planned) × (is_record_of planned.item one ≡ true)) kept one
        (recorded_past plan cursor kept before)
        (cursor, planned, omega arith, at, is)

-- ---- the conflicts that the plan came to

listed : {Y : Type 0} → Option Y → List Y
listed None = []
listed (Some y) = y ∷ []

found_more : {X Y : Type 0} (h : X → Option Y) (xs : List X) (i : ℕ) (x : X) →
    slice_get xs i ≡ Some x →
    filter_map h (take (suc i) xs) ≡ filter_map h (take i xs) ++ listed (h x)
unfolding listed
found_more h [] i x at = absurd (none-some _ at)
found_more {X} {Y} h (y ∷ ys) zero x at = by (h y) ∙ ap (λ z. listed (h z)) (same_Some y x at)
  where
    by : (o : Option Y) → cons_option o [] ≡ listed o
    by None = refl
    by (Some z) = refl
found_more {X} {Y} h (y ∷ ys) (suc i) x at =
    ap (cons_option (h y)) (found_more h ys i x at)
    ∙ by (h y) (filter_map h (take i ys)) (listed (h x))
  where
    by : (o : Option Y) (front back : List Y) →
        cons_option o (front ++ back) ≡ cons_option o front ++ back
    by None front back = refl
    by (Some z) front back = refl

abbrev pub conflicts_to : ℕ → Plan → List Path
conflicts_to cursor plan = filter_map (λ planned. conflict_at planned.item) (take cursor plan)

module _ (plan : Plan) (cursor : ℕ) (planned : Planned)
    (at : slice_get plan cursor ≡ Some planned) where
  -- past a conflict its path is after those before it
  pub conflict_past : (path : Path) → planned.item ≡ Conflict path →
      conflicts_to (suc cursor) plan ≡ conflicts_to cursor plan ++ path ∷ []
  unfolding listed
  conflict_past path is =
      found_more (λ planned. conflict_at planned.item) plan cursor planned at
      ∙ ap (λ item. conflicts_to cursor plan ++ listed (conflict_at item)) is

  -- past another item there is none more
  pub other_past : conflict_at planned.item ≡ None →
      conflicts_to (suc cursor) plan ≡ conflicts_to cursor plan
  unfolding listed
  other_past none =
      found_more (λ planned. conflict_at planned.item) plan cursor planned at
      ∙ (ap (λ o. conflicts_to cursor plan ++ listed o) none
      ∙ append-nil (conflicts_to cursor plan))
