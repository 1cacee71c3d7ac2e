-- A walk over the paths in path order gives the items from the root down.
use Rattle.std.proofs.Common.{◌≡◌, ◌≤◌, ◌<◌, ◌+◌, ℕ, zero, suc, Bool, true, false, if◌then◌else◌}
use Rattle.std.proofs.Common.{List, [], ◌∷◌, ◌++◌, map, flat_map, length, length-append, refl, sym}
use Rattle.std.proofs.Common.{ap, ap₂, ◌∙◌, subst, Option, Some, None, is_some, Less, is_lt}
use Rattle.std.proofs.Common.{true≢false, append-nil, append_assoc, arith}
use Rattle.std.specs.List.{AllByRecursion, list_any}
use Rattle.std.specs.Ordering.{eq_by_cmp, is_eq}
use Rattle.std.specs.Cmp.{tied_itself}
use Rattle.std.specs.FinMap.{find}
use Rattle.std.proofs.lemmas.Bool.{or_parts}
use Rattle.syn_model.specs.Path.{Path, Name, name_cmp, path_cmp, child, is_prefix}
use Rattle.syn_model.specs.Tree.{Directory, Pair}
use Rattle.syn_model.specs.Decision.{Item, Decision, Clean, Do, DoAndGoOn, GoOn}
use Rattle.syn_model.specs.Plan.{items_from, with_items_below}
use Rattle.syn_model.proofs.PathLemmas.{path_total, is_prefix-is}
use Rattle.syn_model.proofs.PlanOrder.{siblings, apart_below}
use Rattle.syn_placed.specs.Pairs.{Pairs, is_within, within}
use Rattle.syn_placed.proofs.RisingLemmas.{Rising, After, Each, each-filter}
use Rattle.syn_placed.proofs.RisingLemmas.{rising-filter}
use Rattle.syn_recon.specs.inner.Walks.{Row, Rows, is_settled, settled_by, item_in}
use Rattle.syn_recon.specs.inner.Decided.{walk}
use Rattle.syn_recon.proofs.PartLemmas.{RisingNames, BelowOne, Headed, head_of, rest_within}
use Rattle.syn_recon.proofs.PartLemmas.{by_names, flat_map-same, every-filter, every_x}
use Rattle.syn_model.proofs.BaseLemmas.{each_append, each_with}

-- the walk, where the decision is by the path alone
abbrev pub walk_on : (Path → Decision) → Pairs → Option Path → List Item
walk_on decide [] settled = []
walk_on decide (e ∷ es) settled = (if is_settled settled e.0 then [] else item_in (decide e.0))
    ++ walk_on decide es
    (if is_settled settled e.0 then settled else settled_by (decide e.0) e.0 settled)

abbrev pub pairs_in : Rows → Pairs
pairs_in rows = map (λ row. (row.0, Directory)) rows

pub same_walk : (decide : Row → Decision) (at : Path → Decision) (rows : Rows)
    (settled : Option Path) → AllByRecursion (λ row. decide row ≡ at row.0) rows →
    walk decide rows settled ≡ walk_on at (pairs_in rows) settled
same_walk decide at [] settled h = refl
same_walk decide at (row ∷ rows) settled h =
    let later = if is_settled settled row.0 then settled
    else settled_by (decide row) row.0 settled in
    ap₂ (λ d xs. (if is_settled settled row.0 then [] else item_in d) ++ xs) h.0
    (same_walk decide at rows later h.1 ∙ ap (λ d. walk_on at (pairs_in rows)
    (if is_settled settled row.0 then settled else settled_by d row.0 settled)) h.0)

-- ---- what is settled

all_settled : (decide : Path → Decision) (p : Path) (es : Pairs) → Each (is_within p) es →
    walk_on decide es (Some p) ≡ []
all_settled decide p [] h = refl
all_settled decide p (e ∷ es) h =
    ap (λ b. (if b then [] else item_in (decide e.0))
    ++ walk_on decide es (if b then Some p else settled_by (decide e.0) e.0 (Some p))) h.0
    ∙ all_settled decide p es h.1

abbrev NoneSettled : Option Path → Pairs → Type 0
NoneSettled settled es = AllByRecursion (λ e. is_settled settled e.0 ≡ false) es

unsettled : (decide : Path → Decision) (settled : Option Path) (es : Pairs) →
    NoneSettled settled es → walk_on decide es settled ≡ walk_on decide es None
unsettled decide settled [] h = refl
unsettled decide settled (e ∷ es) h =
    let rest = unsettled decide settled es h.1 in
    ap (λ b. (if b then [] else item_in (decide e.0))
    ++ walk_on decide es (if b then settled else settled_by (decide e.0) e.0 settled)) h.0
    ∙ elim (decide e.0) as (λ d. item_in d ++ walk_on decide es (settled_by d e.0 settled)
    ≡ item_in d ++ walk_on decide es (settled_by d e.0 None)) [
      | Clean ↦ refl
      | Do item ↦ refl
      | DoAndGoOn item ↦ ap (λ xs. item ∷ xs) rest
      | GoOn ↦ rest
    ]

-- no later element stands at or below an earlier one
abbrev Apart : Pairs → Pairs → Type 0
Apart xs ys =
    AllByRecursion (λ (x : Pair). AllByRecursion (λ (y : Pair). is_prefix x.0 y.0 ≡ false) ys) xs

later_unsettled : (decide : Path → Decision) (settled : Option Path) (x : Pair) (ys : Pairs) →
    NoneSettled settled ys → AllByRecursion (λ (y : Pair). is_prefix x.0 y.0 ≡ false) ys →
    NoneSettled (if is_settled settled x.0 then settled else settled_by (decide x.0) x.0 settled) ys
later_unsettled decide settled x ys h k =
    elim (is_settled settled x.0)
    as (λ b. NoneSettled (if b then settled else settled_by (decide x.0) x.0 settled) ys) [
      | true ↦ h
      | false ↦ elim (decide x.0) as (λ d. NoneSettled (settled_by d x.0 settled) ys) [
        | Clean ↦ k
        | Do item ↦ k
        | DoAndGoOn item ↦ h
        | GoOn ↦ h
      ]
    ]

walk-append : (decide : Path → Decision) (xs ys : Pairs) (settled : Option Path) →
    NoneSettled settled ys → Apart xs ys →
    walk_on decide (xs ++ ys) settled ≡ walk_on decide xs settled ++ walk_on decide ys None
walk-append decide [] ys settled h k = unsettled decide settled ys h
walk-append decide (x ∷ xs) ys settled h k =
    let later = if is_settled settled x.0 then settled else settled_by (decide x.0) x.0 settled in
    let first = if is_settled settled x.0 then [] else item_in (decide x.0) in
    ap (λ zs. first ++ zs)
    (walk-append decide xs ys later (later_unsettled decide settled x ys h k.0) k.1)
    ∙ sym (append_assoc first (walk_on decide xs later) (walk_on decide ys None))

-- ---- name by name

each_flat : {X : Type 0} (P : Pair → Type 0) (f : X → Pairs) (xs : List X) →
    AllByRecursion (λ x. AllByRecursion P (f x)) xs → AllByRecursion P (flat_map f xs)
each_flat P f [] h = tt
each_flat P f (x ∷ xs) h = each_append P (f x) (flat_map f xs) h.0 (each_flat P f xs h.1)

apart_names : (p : Path) (n m : Name) → name_cmp n m ≡ Less → (x y : Pair) →
    is_within (child p n) x ≡ true → is_within (child p m) y ≡ true → is_prefix x.0 y.0 ≡ false
apart_names p n m less x y h k =
    (or_parts (is_prefix x.0 y.0) (is_prefix y.0 x.0)
    (apart_below (child p n) (child p m) x.0 y.0 (siblings p n m (ap is_eq less)) h k)).0

names_apart : (p : Path) (n : Name) (es : Pairs) (x : Pair) → is_within (child p n) x ≡ true →
    (ms : List Name) → AllByRecursion (λ m. name_cmp n m ≡ Less) ms → AllByRecursion
    (λ m. AllByRecursion (λ (y : Pair). is_prefix x.0 y.0 ≡ false) (within (child p m) es)) ms
names_apart p n es x h [] less = tt
names_apart p n es x h (m ∷ ms) less = (
  each_with (λ (y : Pair). is_within (child p m) y ≡ true) (λ (y : Pair). is_prefix x.0 y.0 ≡ false)
      (λ y k. apart_names p n m less.0 x y h k) (within (child p m) es)
      (each-filter (is_within (child p m)) es),
  names_apart p n es x h ms less.1,
)

walk_names : (decide : Path → Decision) (p : Path) (es : Pairs) (names : List Name) →
    RisingNames names → walk_on decide (flat_map (λ n. within (child p n) es) names) None
    ≡ flat_map (λ n. walk_on decide (within (child p n) es) None) names
walk_names decide p es [] sorted = refl
walk_names decide p es (n ∷ ns) sorted =
    let xs = within (child p n) es in
    let ys = flat_map (λ m. within (child p m) es) ns in
    let apart = each_with (λ (x : Pair). is_within (child p n) x ≡ true)
    (λ (x : Pair). AllByRecursion (λ (y : Pair). is_prefix x.0 y.0 ≡ false) ys)
    (λ x h. each_flat (λ (y : Pair). is_prefix x.0 y.0 ≡ false) (λ m. within (child p m) es) ns
    (names_apart p n es x h ns sorted.0))
    xs (each-filter (is_within (child p n)) es) in
    walk-append decide xs ys None (every_x (λ y. refl) ys) apart
    ∙ ap (λ zs. walk_on decide xs None ++ zs) (walk_names decide p es ns sorted.1)

not_itself : (p q : Path) → q ≡ p → path_cmp p q ≡ Less → ⊥
not_itself p q same less =
    true≢false (sym (ap is_lt (ap (path_cmp p) (sym same) ∙ less))
    ∙ ap is_lt (tied_itself path_total p))

-- ---- the items from a path down

-- each path of the list stands below its parents at one of their names, and with all above it in
-- the list
pub record Placed (names : Path → List Name) (es : Pairs) (path : Path) : Type 0 where
  pub named : (above : Path) (name : Name) (rest : Path) → path ≡ above ++ name ∷ rest →
      list_any (eq_by_cmp name_cmp name) (names above) ≡ true
  pub closed : (above : Path) → is_prefix above path ≡ true →
      is_some (find path_cmp above es) ≡ true
  pub shallow : length path ≤ 16

module _ (decide : Path → Decision) (names : Path → List Name) (es : Pairs) (up : Rising es)
    (sorted : (p : Path) → RisingNames (names p))
    (placed : AllByRecursion (λ (e : Pair). Placed names es e.0) es)
    (clean : (p : Path) → is_some (find path_cmp p es) ≡ false → decide p ≡ Clean) where
  nothing_within : (p : Path) (b : Pairs) → AllByRecursion (λ (e : Pair). Placed names es e.0) b →
      Each (is_within p) b → is_some (find path_cmp p es) ≡ false → b ≡ []
  nothing_within p [] h k out = refl
  nothing_within p (e ∷ b) h k out = absurd (true≢false (sym ((h.0).closed p k.0) ∙ out))

  too_deep : (p : Path) (b : Pairs) → AllByRecursion (λ (e : Pair). Placed names es e.0) b →
      Each (is_within p) b → 16 < length p → b ≡ []
  too_deep p [] h k deep = refl
  too_deep p (e ∷ b) h k deep =
      let r = is_prefix-is p e.0 k.0 in
      absurd (omega (arith, (h.0).shallow, ap length r.1, length-append p r.0, deep))

  within_placed : (p : Path) → AllByRecursion (λ (e : Pair). Placed names es e.0) (within p es)
  within_placed p = every-filter (λ (e : Pair). Placed names es e.0) (is_within p) es placed

  -- what stands below the head stands at its names
  below_head : (p : Path) (rest : Pairs) → AllByRecursion (λ (e : Pair). Placed names es e.0) rest →
      After p rest → Each (is_within p) rest → AllByRecursion (BelowOne p (names p)) rest
  below_head p [] h a k = tt
  below_head p (e ∷ rest) h a k = (one (is_prefix-is p e.0 k.0), below_head p rest h.1 a.1 k.1)
    where
      one : (r : Path) × (e.0 ≡ p ++ r) → BelowOne p (names p) e
      one ([], is) = absurd (not_itself p e.0 (is ∙ append-nil p) a.0)
      one (n ∷ r, is) = record { name = n; rest = r; is = is; among = (h.0).named p n r is }

  -- from a path that is in the list, by what is decided there
  from_head : (levels : ℕ) (p : Path) → ((n : Name) →
      walk_on decide (within (child p n) es) None ≡ items_from decide names levels (child p n)) →
      Headed p (within p es) →
      walk_on decide (within p es) None ≡ items_from decide names (suc levels) p
  from_head levels p one h =
      let all = flat_map (λ n. items_from decide names levels (child p n)) (names p) in
      let rest_placed =
      (subst (AllByRecursion (λ (e : Pair). Placed names es e.0)) h.whole (within_placed p)).1 in
      let rest_up = (subst Rising h.whole (rising-filter (is_within p) es up)).1 in
      let parts = by_names p (names p) h.rest (sorted p) rest_up
      (below_head p h.rest rest_placed h.after h.inside)
      ∙ flat_map-same (λ n. within (child p n) h.rest) (λ n. within (child p n) es) (names p)
      (every_x (λ n. rest_within p n es h) (names p)) in
      let below : walk_on decide h.rest None ≡ all =
      ap (λ b. walk_on decide b None) parts ∙ (walk_names decide p es (names p) (sorted p)
      ∙ flat_map-same (λ n. walk_on decide (within (child p n) es) None)
      (λ n. items_from decide names levels (child p n)) (names p) (every_x one (names p))) in
      let settled = all_settled decide p h.rest h.inside in
      ap (λ b. walk_on decide b None) h.whole
      ∙ (ap (λ q. item_in (decide q) ++ walk_on decide h.rest (settled_by (decide q) q None)) h.is
      ∙ elim (decide p) as (λ d. item_in d ++ walk_on decide h.rest (settled_by d p None)
      ≡ with_items_below d all) [
        | Clean ↦ settled
        | Do item ↦ ap (λ xs. item ∷ xs) settled
        | DoAndGoOn item ↦ ap (λ xs. item ∷ xs) below
        | GoOn ↦ below
      ])

  by_place : (levels : ℕ) (p : Path) → ((n : Name) →
      walk_on decide (within (child p n) es) None ≡ items_from decide names levels (child p n)) →
      (b : Bool) → is_some (find path_cmp p es) ≡ b →
      walk_on decide (within p es) None ≡ items_from decide names (suc levels) p
  by_place levels p one true e = from_head levels p one (head_of p es up e)
  by_place levels p one false e =
      ap (λ b. walk_on decide b None)
      (nothing_within p (within p es) (within_placed p) (each-filter (is_within p) es) e)
      ∙ sym (ap (λ d. with_items_below d
      (flat_map (λ n. items_from decide names levels (child p n)) (names p))) (clean p e))

  pub items_walk : (levels : ℕ) (p : Path) → 16 < length p + levels →
      walk_on decide (within p es) None ≡ items_from decide names levels p
  items_walk zero p deep =
      ap (λ b. walk_on decide b None) (too_deep p (within p es) (within_placed p)
      (each-filter (is_within p) es) (omega (arith, deep)))
  items_walk (suc levels) p deep =
      let deeper : (n : Name) → 16 < length (child p n) + levels =
      λ n. omega (arith, deep, length-append p (n ∷ [])) in
      let one = λ (n : Name). items_walk levels (child p n) (deeper n) in
      by_place levels p one (is_some (find path_cmp p es)) refl
