-- Pairs of a tree in path order: each is found at its path, and its directory among those before.
use Rattle.std.proofs.Common.{◌≡◌, ◌∙◌, ◌++◌, ◌∷◌, [], Bool, true, false, cond, Some, None, refl}
use Rattle.std.proofs.Common.{sym, ap, subst, is_eq}
use Rattle.std.proofs.lemmas.Option.{none-some}
use Rattle.std.specs.FinMap.{get, find, entries, get-entries}
use Rattle.std.specs.Ordering.{eq_by_cmp, ordering_reverse}
use Rattle.syn_model.specs.Path.{Path, path_cmp, root}
use Rattle.syn_model.specs.Tree.{Tree, Content, Directory, Pair}
use Rattle.syn_model.proofs.PathLemmas.{path_total, same_path, path_itself}
use Rattle.syn_placed.specs.Pairs.{Pairs, rooted}
use Rattle.syn_placed.proofs.RisingLemmas.{Rising, After}
use Rattle.syn_placed.proofs.FindLemmas.{find_after}
use Rattle.syn_placed.proofs.TreeLemmas.{rising-entries}

-- nothing is found at the path of a pair among those before it
pub none_in_front : (front : Pairs) (pair : Pair) (others : Pairs) →
    Rising (front ++ pair ∷ others) → find path_cmp pair.0 front ≡ None
none_in_front [] pair others rising = refl
none_in_front (x ∷ front) pair others rising =
    ap (λ b. cond b (Some x.1) (find path_cmp pair.0 front))
    (later front rising.0) ∙ none_in_front front pair others rising.1
  where
    later : (es : Pairs) → After x.0 (es ++ pair ∷ others) → eq_by_cmp path_cmp pair.0 x.0 ≡ false
    later [] after =
        ap is_eq (path_total.antisymm pair.0 x.0 ∙ ap ordering_reverse after.0)
    later (e ∷ es) after = later es after.1

-- what is found in two lists is found in the first, where all of the second comes later
pub found_in_front : (q : Path) (c : Content) (front others : Pairs) → After q others →
    find path_cmp q (front ++ others) ≡ Some c → find path_cmp q front ≡ Some c
found_in_front q c [] others after is =
    absurd (none-some _ (sym (find_after q others after) ∙ is))
found_in_front q c (x ∷ front) others after is =
    at (eq_by_cmp path_cmp q x.0) is (found_in_front q c front others after)
  where
    at : (b : Bool) → cond b (Some x.1) (find path_cmp q (front ++ others)) ≡ Some c →
        (find path_cmp q (front ++ others) ≡ Some c → find path_cmp q front ≡ Some c) →
        cond b (Some x.1) (find path_cmp q front) ≡ Some c
    at true is rest = is
    at false is rest = rest is

-- the list of a tree without its root rises
pub rising_below : (tree : Tree) (list : Pairs) → rooted list ≡ entries tree →
    Rising (rooted list)
rising_below tree list all = subst Rising (sym all) (rising-entries tree)

-- a pair of a list that rises is found at its path
found_in : (front : Pairs) (pair : Pair) (others : Pairs) → Rising (front ++ pair ∷ others) →
    find path_cmp pair.0 (front ++ pair ∷ others) ≡ Some pair.1
found_in [] pair others rising =
    ap (λ b. cond b (Some pair.1) (find path_cmp pair.0 others)) (path_itself pair.0)
found_in (x ∷ front) pair others rising =
    go (eq_by_cmp path_cmp pair.0 x.0) refl (found_in front pair others rising.1)
  where
    go : (b : Bool) → eq_by_cmp path_cmp pair.0 x.0 ≡ b →
        find path_cmp pair.0 (front ++ pair ∷ others) ≡ Some pair.1 →
        cond b (Some x.1) (find path_cmp pair.0 (front ++ pair ∷ others)) ≡ Some pair.1
    go true is later =
        absurd (none-some _ (sym (find_after x.0 (front ++ pair ∷ others) rising.0)
        ∙ (sym (ap (λ p. find path_cmp p (front ++ pair ∷ others)) (same_path _ x.0 is)) ∙ later)))
    go false is later = later

-- so each pair of a tree stands in it
pub pair_stands : (tree : Tree) (front : Pairs) (pair : Pair) (others : Pairs) →
    rooted (front ++ pair ∷ others) ≡ entries tree → get tree pair.0 ≡ Some pair.1
pair_stands tree front pair others all =
    get-entries tree pair.0
    ∙ (sym (ap (find path_cmp pair.0) all)
    ∙ found_in ((root, Directory) ∷ front) pair others (rising_below tree _ all))

-- the next pair of a tree's list: it stands in the tree, and none before it is at its path
pub next_of : (tree : Tree) (front : Pairs) (pair : Pair) (others rest : Pairs) →
    rest ≡ pair ∷ others → rooted (front ++ rest) ≡ entries tree →
    (rooted (front ++ pair ∷ others) ≡ entries tree)
    × (find path_cmp pair.0 front ≡ None) × (get tree pair.0 ≡ Some pair.1)
next_of tree front pair others rest next whole =
    let all : rooted (front ++ pair ∷ others) ≡ entries tree =
    ap (λ xs. rooted (front ++ xs)) (sym next) ∙ whole in (
      all,
      none_in_front front pair others (rising_below tree _ all).1,
      pair_stands tree front pair others all,
    )
