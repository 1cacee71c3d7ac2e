-- What stands in a folder.
use Rattle.std.proofs.Common.{◌≡◌, ◌++◌, ◌∷◌, [], List, Result, Ok, Err, OnOk, Some, None}
use Rattle.std.proofs.Common.{inl, inr, sym, ap, ◌∙◌, zero, suc, arith}
use Rattle.std.specs.FinMap.{entries, get}
use Rattle.std.proofs.lemmas.List.Elements.{Contains-append_cases}
use Rattle.syn_model.specs.Path.{Path}
use Rattle.syn_model.specs.Tree.{Tree, empty_directory}
use Rattle.syn_placed.specs.Pairs.{Pairs, rooted}
use Rattle.syn_placed.proofs.TreeLemmas.{from_entries-same}
use Rattle.std.specs.FinMap.{from_sorted}
use Rattle.syn_tree.proofs.EmptyLemmas.{empty_with}
use Rattle.syn_folder.specs.Strangers.{IsApart}
use Rattle.syn_folder.specs.declared.stranger.Stranger.{Stranger}

pub anyway : {X E P : Type 0} (result : Result X E) → P → OnOk result P
anyway (Ok x) p = p
anyway (Err e) p = tt

-- a tree with nothing below its root
pub is_empty : (tree : Tree) (pairs : Pairs) → rooted pairs ≡ entries tree → pairs ≡ []
    → tree ≡ empty_directory
is_empty tree pairs all none =
    sym (from_entries-same tree) ∙ (ap from_sorted (sym all) ∙ empty_with pairs none)

-- what something was pushed to is not empty
pub pushed : {A : Type 0} (xs : List A) (x : A) → xs ++ x ∷ [] ≡ [] → ⊥
pushed [] x is = absurd cc
pushed (y ∷ xs) x is = absurd cc

-- one more stranger that is not in the way
pub apart_more : (strangers : List Stranger) (one : Stranger) (wanted : Tree)
    → IsApart strangers wanted
    → ((path : Path) → one.path ≡ Some path → get wanted path ≡ None)
    → IsApart (strangers ++ one ∷ []) wanted
apart_more strangers one wanted before free stranger path within at =
    elim (Contains-append_cases strangers (one ∷ []) stranger within) [
      | inl c ↦ before stranger path c at
      | inr (zero, _, is) ↦ free path (ap (λ (s : Stranger). s.path) is ∙ at)
      | inr (suc i, short, _) ↦ absurd (omega (arith, short))
    ]
