-- What an item of a plan finds when its turn comes, and which items there are.
use Rattle.std.proofs.Common.{◌≡◌, ◌⊎◌, true, false, if◌then◌else◌, ◌||◌, List, [], ◌∷◌, ◌++◌, refl}
use Rattle.std.proofs.Common.{sym, ap, ap₂, ◌∙◌, subst, inl, inr, true≢false, append-nil, is_some}
use Rattle.std.proofs.Common.{Some, None}
use Rattle.std.specs.List.{AllByRecursion}
use Rattle.std.specs.FinMap.{get}
use Rattle.syn_model.specs.Path.{Path, Name, is_prefix, comparable, strip_prefix}
use Rattle.syn_model.specs.Tree.{Tree, HasParents, subtree, replace, is_directory, empty_directory}
use Rattle.syn_model.specs.Decision.{Item, ToLeft, ToRight, MarkSame, MarkDir, Conflict, path_of}
use Rattle.syn_model.specs.Plan.{StandsBefore, with_directory, IsRecordedFor, IsRecordedForEach}
use Rattle.syn_model.specs.Plan.{ItemFindsArchive, Trees, after_item, carried_out, SidesStay}
use Rattle.syn_model.specs.Plan.{ItemFindsSides}
use Rattle.syn_model.proofs.PathLemmas.{is_prefix-is, prefix-append}
use Rattle.syn_model.proofs.TreeLemmas.{subtree-replace_other, beside}
use Rattle.syn_model.proofs.DirtyLemmas.{prefix_chain}
use Rattle.syn_model.proofs.PlanOrder.{Ordered, plan_before}
use Rattle.syn_model.proofs.DirectoryLemmas.{moved-directory, below_new_directory}
use Rattle.syn_model.proofs.BaseLemmas.{each_of_both}

-- at the item's path the archive is as it was when the plan was made
abbrev Finds : Tree → Tree → Item → Type 0
Finds archive now item = subtree now (path_of item) ≡ subtree archive (path_of item)

either_elsewhere : (p q : Path) (old new : Tree) → comparable p q ≡ false →
    (new ≡ old) ⊎ ((marks : Tree) × (new ≡ replace old p marks)) → subtree new q ≡ subtree old q
either_elsewhere p q old new h (inl same) = ap (λ t. subtree t q) same
either_elsewhere p q old new h (inr recorded) =
    ap (λ t. subtree t q) recorded.1 ∙ subtree-replace_other old p recorded.0 q h

directory_apart : (old : Tree) (p q : Path) → comparable p q ≡ false →
    subtree (with_directory old p) q ≡ subtree old q
directory_apart old p q h =
    elim (is_directory old p)
    as (λ b. subtree (if b then old else replace old p empty_directory) q ≡ subtree old q)
    [ true ↦ refl | false ↦ subtree-replace_other old p empty_directory q h ]

-- a record for an item leaves what is not comparable to its path
recorded_elsewhere : (item : Item) (q : Path) (old new : Tree) →
    comparable (path_of item) q ≡ false → IsRecordedFor item old new → subtree new q ≡ subtree old q
recorded_elsewhere (ToLeft p) q old new h r = either_elsewhere p q old new h r
recorded_elsewhere (ToRight p) q old new h r = either_elsewhere p q old new h r
recorded_elsewhere (MarkSame p) q old new h r = either_elsewhere p q old new h r
recorded_elsewhere (MarkDir p) q old new h (inl same) = ap (λ t. subtree t q) same
recorded_elsewhere (MarkDir p) q old new h (inr recorded) =
    ap (λ t. subtree t q) recorded ∙ directory_apart old p q h
recorded_elsewhere (Conflict p) q old new h r = ap (λ t. subtree t q) r

-- a directory that is recorded leaves what is below, since there is nothing where there was none
directory_above : (archive old : Tree) (p : Path) (n : Name) (q : Path) → HasParents archive →
    subtree old p ≡ subtree archive p → subtree old (p ++ n ∷ q) ≡ subtree archive (p ++ n ∷ q) →
    subtree (with_directory old p) (p ++ n ∷ q) ≡ subtree archive (p ++ n ∷ q)
directory_above archive old p n q parents here there =
    elim (is_directory old p) as (λ b. is_directory old p ≡ b → subtree (if b then old
    else replace old p empty_directory) (p ++ n ∷ q) ≡ subtree archive (p ++ n ∷ q)) [
      | true ↦ λ _. there
      | false ↦ λ is. below_new_directory old archive p n q parents
          (sym (moved-directory old archive p here) ∙ is)
    ] refl

finds_after : (archive old new : Tree) (earlier item : Item) → HasParents archive →
    StandsBefore earlier item → Finds archive old earlier → Finds archive old item →
    IsRecordedFor earlier old new → Finds archive new item
finds_after archive old new earlier item parents order there here recorded =
    let p = path_of earlier in
    elim (is_prefix p (path_of item))
    as (λ b. is_prefix p (path_of item) ≡ b → Finds archive new item) [
      | false ↦ λ e. recorded_elsewhere earlier (path_of item) old new
          (ap₂ (λ x y. x || y) e order.not_above) recorded ∙ here
      | true ↦ λ e. below p (path_of item) (is_prefix-is p (path_of item) e) order.not_above there
          here (subst (λ i. IsRecordedFor i old new) (order.below_directory e) recorded)
    ] refl
  where
    below : (p q : Path) → (rest : Path) × (q ≡ p ++ rest) → is_prefix q p ≡ false →
        subtree old p ≡ subtree archive p → subtree old q ≡ subtree archive q →
        (new ≡ old) ⊎ (new ≡ with_directory old p) → subtree new q ≡ subtree archive q
    below p q rest longer at_p at_q (inl same) = ap (λ t. subtree t q) same ∙ at_q
    below p q ([], is) longer at_p at_q (inr new_is) =
        absurd (true≢false (sym (prefix-append (p ++ []) []) ∙ (ap (λ w. is_prefix (p ++ []) w)
        (append-nil (p ++ []) ∙ append-nil p) ∙ (ap (λ w. is_prefix w p) (sym is) ∙ longer))))
    below p q (n ∷ rest, is) longer at_p at_q (inr new_is) =
        ap (λ t. subtree t q) new_is ∙ (ap (subtree (with_directory old p)) is
        ∙ (directory_above archive old p n rest parents at_p (ap (subtree old) (sym is)
        ∙ (at_q ∙ ap (subtree archive) is)) ∙ ap (subtree archive) (sym is)))

finds_after_all : (archive : Tree) → HasParents archive → (items : List Item) (old new : Tree)
    (item : Item) → Ordered items → AllByRecursion (λ earlier. StandsBefore earlier item) items →
    AllByRecursion (Finds archive old) items → Finds archive old item →
    IsRecordedForEach items old new → Finds archive new item
finds_after_all archive parents [] old new item order before there here same =
    ap (λ t. subtree t (path_of item)) same ∙ here
finds_after_all archive parents (x ∷ xs) old new item order before there here recorded =
    let next = recorded.0 in
    finds_after_all archive parents xs next new item order.1 before.1
    (each_of_both (StandsBefore x) (Finds archive old) (Finds archive next) (λ y stands at.
    finds_after archive old next x y parents stands there.0 at recorded.1) xs order.0 there.1)
    (finds_after archive old next x item parents before.0 there.0 here recorded.1) recorded.2

finds_itself : (archive : Tree) (items : List Item) → AllByRecursion (Finds archive archive) items
finds_itself archive [] = tt
finds_itself archive (x ∷ xs) = (refl, finds_itself archive xs)

-- whatever was recorded before, an item finds in the archive what was there when it was planned
pub item_finds_archive : ItemFindsArchive
item_finds_archive preference left right archive before after item now parents e recorded =
    let order = plan_before preference left right archive before after item e in
    finds_after_all archive parents before archive now item order.0 order.1
    (finds_itself archive before) refl recorded

-- ---- the sides

-- a replacement at a path that is not comparable leaves a subtree, and what is above it
pub replaced_beside : (t : Tree) (p : Path) (u : Tree) (path : Path) → comparable p path ≡ false →
    (subtree (replace t p u) path ≡ subtree t path)
    × ((above rest : Path) → path ≡ above ++ rest → get (replace t p u) above ≡ get t above)
replaced_beside t p u path h = (
  subtree-replace_other t p u path h,
  λ above rest e. elim (strip_prefix p above)
      as (λ o. strip_prefix p above ≡ o → get (replace t p u) above ≡ get t above) [
        | None ↦ λ y. beside t p u above y
        | Some r ↦ λ y. absurd (true≢false (sym (ap (λ w. w || is_prefix path p) (ap (is_prefix p) e
            ∙ prefix_chain p above (above ++ rest) (ap is_some y) (prefix-append above rest))) ∙ h))
      ] refl,
)

stay_itself : (s : Trees) (path : Path) → SidesStay s s path
stay_itself s path =
    record { left = refl; right = refl; left_above = λ _ _ _. refl; right_above = λ _ _ _. refl }

stay_then : (s t u : Trees) (path : Path) → SidesStay s t path → SidesStay t u path →
    SidesStay s u path
stay_then s t u path h k = record {
  left = k.left ∙ h.left;
  right = k.right ∙ h.right;
  left_above = λ above rest e. k.left_above above rest e ∙ h.left_above above rest e;
  right_above = λ above rest e. k.right_above above rest e ∙ h.right_above above rest e;
}

item_stays : (s : Trees) (item : Item) (path : Path) → comparable (path_of item) path ≡ false →
    SidesStay s (after_item s item) path
item_stays s (ToLeft p) path h =
    let both = replaced_beside s.left p (subtree s.right p) path h in
    record { left = both.0; right = refl; left_above = both.1; right_above = λ _ _ _. refl }
item_stays s (ToRight p) path h =
    let both = replaced_beside s.right p (subtree s.left p) path h in
    record { left = refl; right = both.0; left_above = λ _ _ _. refl; right_above = both.1 }
item_stays s (MarkSame p) path h =
    record { left = refl; right = refl; left_above = λ _ _ _. refl; right_above = λ _ _ _. refl }
item_stays s (MarkDir p) path h =
    record { left = refl; right = refl; left_above = λ _ _ _. refl; right_above = λ _ _ _. refl }
item_stays s (Conflict p) path h =
    record { left = refl; right = refl; left_above = λ _ _ _. refl; right_above = λ _ _ _. refl }

stays_after : (s : Trees) (earlier item : Item) → StandsBefore earlier item →
    SidesStay s (after_item s earlier) (path_of item)
stays_after s earlier item order =
    let p = path_of earlier in
    elim (is_prefix p (path_of item))
    as (λ b. is_prefix p (path_of item) ≡ b → SidesStay s (after_item s earlier) (path_of item)) [
      | false ↦ λ e. item_stays s earlier (path_of item) (ap₂ (λ x y. x || y) e order.not_above)
      | true ↦ λ e. subst (λ i. SidesStay s (after_item s i) (path_of item))
          (sym (order.below_directory e))
          (record {
            left = refl;
            right = refl;
            left_above = λ _ _ _. refl;
            right_above = λ _ _ _. refl;
          })
    ] refl

stays_after_all : (s : Trees) (items : List Item) (item : Item) →
    AllByRecursion (λ earlier. StandsBefore earlier item) items →
    SidesStay s (carried_out s items) (path_of item)
stays_after_all s [] item h = stay_itself s (path_of item)
stays_after_all s (x ∷ xs) item h =
    stay_then s (after_item s x) (carried_out (after_item s x) xs) (path_of item)
    (stays_after s x item h.0) (stays_after_all (after_item s x) xs item h.1)

pub item_finds_sides : ItemFindsSides
item_finds_sides preference left right archive before after item trees e =
    stays_after_all trees before item (plan_before preference left right archive before after item
    e).1
