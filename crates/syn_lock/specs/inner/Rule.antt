-- The rule of the lock's table, and what each step tells its seat.
use Rattle.std.specs.Prelude.{◌≡◌, ◌≢◌, ℕ, ◌+◌, ◌/◌, ◌%◌, ◌<◌, ◌≤◌, ◌==◌, ◌⊎◌, cond, Bool, true}
use Rattle.std.specs.Prelude.{false, List, [], ◌∷◌, length, slice_index, Option, Some}
use Rattle.std.specs.Global.{Box}
use mathlib.Core.Option.{some}
use mathlib.Core.List.{IsPrefix}
use lib.ListN.{get_elem?}
use Rattle.atomic_table.specs.Table.{State, Me, Step}
use Rattle.syn_lock.specs.declared.view.Hold.{Hold}
use Rattle.syn_lock.specs.declared.view.View.{View}
use Rattle.syn_lock.specs.declared.view.Known.{Known}
use Rattle.syn_lock.specs.History.{end_of, IsHistory, IsWordHistory, holds_by}
use Rattle.syn_lock.specs.Views.{view, newcomer, seeing, entered, refused, outside, published, Sees}

-- positions from this on stand in the first word
abbrev pub far : ℕ
far = 9223372036854775808

-- The two words that tell the position. While it is near, the first is 0 and half of the second is
-- the position
abbrev pub Tells : ℕ → ℕ → ℕ → Type 0
Tells first second position = (first ≡ 0 → (second / 2 ≡ position) × (position < far))
    × (first ≢ 0 → (first ≡ position) × (far ≤ first))

abbrev pub Sat : Type 0 → Type 0
Sat S = Me (Option (Box S)) (Known S)

module _ {S : Type 0} where
  abbrev pub known : View S → List (Hold S) → List (Hold ℕ) → Bool → ℕ → Known S
  known v told watched inside passes = record
      { view = v; told = told; watched = watched; inside = inside; passes = passes }

  -- the seat has this state out of the lock
  abbrev pub HasOut : Sat S → S → Type 0
  HasOut m state = (home : Box S) × (home.value ≡ state) × (m.1 ≡ (0, Some home) ∷ [])

  -- a seat that is no pass, and has seen these holds
  abbrev pub witness : Option S → List (Hold S) → Known S
  witness origin seen = known (view 0 origin seen [] []) [] [] false 0

  -- a seat whose view became v, and which has now seen at least what it was told
  abbrev pub caught_up : Known S → View S → Bool → Known S
  caught_up k v inside = known v [] k.watched inside k.passes

  abbrev pub turned_away : Known S → Known S
  turned_away k = known (refused k.view) k.told k.watched k.inside k.passes

  abbrev pub counting : Known S → ℕ → Known S
  counting k passes = known k.view k.told k.watched k.inside passes

  -- another seat told what it has seen
  abbrev pub hearing : Known S → Known S → Known S
  hearing k l = known k.view l.view.seen k.watched k.inside k.passes

  abbrev pub agreeing : Known S → Known S → Known S
  agreeing k l = caught_up k (seeing k.view l.view.seen) k.inside

  -- a take finds an even number and wins, or finds an odd one and loses
  abbrev pub takes_lock : (S → S → Type 0) → Step (Option (Box S)) → Sat S → ℕ → Sat S → Type 0
  takes_lock grows st m r n =
      (r % 2 ≡ 0 → (origin : S) → m.0.view.origin ≡ Some origin
      → (seen : List (Hold S)) × Sees grows origin m.0.view seen
      × (home : Box S) × (home.value ≡ end_of origin seen)
      × (n ≡ (caught_up m.0 (entered m.0.view seen) true, (0, Some home) ∷ m.1)))
      × (r % 2 ≢ 0 → n ≡ (turned_away m.0, m.1))

  abbrev pub publishes : Step (Option (Box S)) → Sat S → ℕ → Sat S → Type 0
  publishes st m r n = (origin : S) (left : Box S) → m.0.view.origin ≡ Some origin
      → m.1 ≡ (0, Some left) ∷ []
      → n ≡ (caught_up m.0 (published origin m.0.view left.value) m.0.inside, m.1)

  -- who gives the lock back has watched the word up to that step
  abbrev pub gives_lock : Step (Option (Box S)) → Sat S → ℕ → Sat S → Type 0
  gives_lock st m r n = (watched : List (Hold ℕ))
      × (n ≡ (known (outside m.0.view) m.0.told watched false m.0.passes, []))

  -- both at once
  abbrev pub leaves : Step (Option (Box S)) → Sat S → ℕ → Sat S → Type 0
  leaves st m r n =
      (origin : S) (left : Box S) → m.0.view.origin ≡ Some origin → m.1 ≡ (0, Some left) ∷ []
      → (watched : List (Hold ℕ)) × (n ≡
      (known (outside (published origin m.0.view left.value)) [] watched false m.0.passes, []))

  abbrev pub looks : (S → ℕ) → (S → S → Type 0) → Step (Option (Box S)) → Sat S → ℕ → Sat S → Type 0
  looks position grows st m r n =
      (origin : S) → m.0.view.origin ≡ Some origin
      → (seen : List (Hold S)) × Sees grows origin m.0.view seen × IsPrefix m.0.told seen
      × (n ≡ (caught_up m.0 (seeing m.0.view seen) m.0.inside, m.1))
      × (position (end_of origin seen) < far → r / 2 ≡ position (end_of origin seen))

  -- a look at the first word finds 0, so that the position was near up to now, or it finds the
  -- position
  abbrev pub looks_far : (S → ℕ) → (S → S → Type 0) → Step (Option (Box S)) → Sat S → ℕ → Sat S
      → Type 0
  looks_far position grows st m r n =
      (origin : S) → m.0.view.origin ≡ Some origin
      → (r ≡ 0 → (position (end_of origin m.0.view.seen) < far) × (n ≡ m))
      × (r ≢ 0 → (seen : List (Hold S)) × Sees grows origin m.0.view seen
      × (n ≡ (caught_up m.0 (seeing m.0.view seen) m.0.inside, m.1))
      × (r ≡ position (end_of origin seen)))

  -- what the pass has seen has its own holds and no others under its number
  abbrev pub confirms : Step (Option (Box S)) → Sat S → ℕ → Sat S → Type 0
  confirms st m r n = (holds_by m.0.view.number m.0.view.seen ≡ m.0.view.own) × (n ≡ m)

  -- a new seat counts the passes that are out
  abbrev pub arrives : Step (Option (Box S)) → Sat S → ℕ → Sat S → Type 0
  arrives st m r n = (r ≤ 63) × (n ≡ (counting m.0 r, m.1))

  -- an exchange of the count finds the number that it wants, and its seat becomes a pass; or it
  -- finds another
  abbrev pub admits : (S → S → Type 0) → Step (Option (Box S)) → Sat S → ℕ → Sat S → Type 0
  admits grows st m r n =
      (m.0.passes ≤ r) × (r ≤ 63)
      × (r ≡ st.first → (origin : S) → m.0.view.origin ≡ Some origin
      → (number : ℕ) × (seen : List (Hold S)) × (0 < number)
      × Sees grows origin (newcomer number origin []) seen
      × (n ≡ (known (newcomer number origin seen) [] [] false r, [])))
      × (r ≢ st.first → n ≡ (counting m.0 r, m.1))

  -- no seat has this number
  abbrev pub IsUnused : List (Known S) → ℕ → Type 0
  IsUnused seats number = (number ≡ 0)
      ⊎ ((seat : ℕ) (k : Known S) → get_elem? seats seat ≡ some k → k.view.number ≢ number)

  pub record Fits (origin : S) (log : List (Hold S)) (seat : ℕ) (k : Known S) : Type 0 where
    pub origin_is : (o : S) → k.view.origin ≡ Some o → o ≡ origin
    pub prefix : IsPrefix k.view.seen log
    pub told : IsPrefix k.told log
    pub own_all : holds_by k.view.number log ≡ k.view.own
    pub own_seen : holds_by k.view.number k.view.seen ≡ k.view.own
    pub numbered : (k.view.number ≡ 0) ⊎ (k.view.number ≡ seat + 1)

  -- the pass has the lock, and has seen all
  pub record Holds (log : List (Hold S)) (lock holder seat : ℕ) (k : Known S) : Type 0 where
    pub is_holder : seat ≡ holder
    pub seen_all : k.view.seen ≡ log
    pub taken : lock ≢ 0
    pub number_is : k.view.number ≡ seat + 1

  -- There is one history of the state. The first two words tell its last position. While the lock
  -- is free its last state is at home
  pub record Kept (position : S → ℕ) (grows : S → S → Type 0) (origin : S)
      (s : State (Option (Box S)) (Known S)) : Type 0 where
    pub log : List (Hold S)
    pub holder : ℕ
    pub words : length s.words ≡ 3
    pub slots : length s.homes ≡ 1
    pub legal : IsHistory grows origin log
    pub position_is : Tells (slice_index s.words 0) (slice_index s.words 1)
        (position (end_of origin log))
    pub fits : (seat : ℕ) (k : Known S) → get_elem? s.views seat ≡ some k → Fits origin log seat k
    pub home : slice_index s.words 1 % 2 ≡ 0 → (home : Box S) × (home.value ≡ end_of origin log)
        × (get_elem? s.homes 0 ≡ some (some (Some home)))
    pub inside : (seat : ℕ) (k : Known S) → get_elem? s.views seat ≡ some k → k.inside ≡ true
        → Holds log (slice_index s.words 1 % 2) holder seat k
    pub unused : (number : ℕ) → IsUnused s.views number → holds_by number log ≡ []

  -- There is one history of the lowest bit of the lock's word, of which each pass knows its own
  -- steps, and who gave the lock back all up to then
  pub record Turned (words : List ℕ) (seats : List (Known S)) : Type 0 where
    pub turns : List (Hold ℕ)
    pub chained : IsWordHistory turns
    pub word_is : slice_index words 1 % 2 ≡ end_of 0 turns
    pub watched : (seat : ℕ) (k : Known S) → get_elem? seats seat ≡ some k
        → IsPrefix k.watched turns
    pub own : (seat : ℕ) (k : Known S) → get_elem? seats seat ≡ some k
        → holds_by k.view.number turns ≡ k.view.turns
    pub unused : (number : ℕ) → IsUnused seats number → holds_by number turns ≡ []

  abbrev pub is_pass : Known S → ℕ
  is_pass k = cond (k.view.number == 0) 0 1

  -- how many seats are passes
  abbrev pub passes_of : List (Known S) → ℕ
  passes_of [] = 0
  passes_of (k ∷ ks) = is_pass k + passes_of ks

  -- The third word is the number of passes
  pub record Counted (words : List ℕ) (seats : List (Known S)) : Type 0 where
    pub few : slice_index words 2 ≤ 63
    pub count_is : slice_index words 2 ≡ passes_of seats
    pub seen : (seat : ℕ) (k : Known S) → get_elem? seats seat ≡ some k
        → k.passes ≤ slice_index words 2

  abbrev pub Lawful : (S → ℕ) → (S → S → Type 0) → S → State (Option (Box S)) (Known S) → Type 0
  Lawful position grows origin s = Kept position grows origin s × Turned s.words s.views
      × Counted s.words s.views
