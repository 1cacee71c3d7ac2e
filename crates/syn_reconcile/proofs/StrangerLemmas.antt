-- Which items leave strangers alone.
use Rattle.std.proofs.Common.{◌++◌, ◌∷◌, [], List, arith, inl, inr, subst, suc, zero}
use Rattle.std.proofs.lemmas.List.Elements.{Contains-append_cases}
use Rattle.syn_folder.specs.declared.stranger.Stranger.{Stranger}
use Rattle.syn_model.specs.Decision.{Item}
use Rattle.syn_model.specs.Tree.{Tree}
use Rattle.syn_reconcile.specs.Strangers.{LeavesAlone, LeavesOneAlone}

-- one stranger more
pub alone_more : (strangers : List Stranger) (one : Stranger) (replica : Tree) (item : Item)
    → LeavesAlone strangers replica item → LeavesOneAlone one replica item
    → LeavesAlone (strangers ++ one ∷ []) replica item
alone_more strangers one replica item before this stranger within =
    elim (Contains-append_cases strangers (one ∷ []) stranger within)
    as (λ _. LeavesOneAlone stranger replica item) [
      | inl c ↦ before stranger c
      | inr (zero, _, is) ↦ subst (λ s. LeavesOneAlone s replica item) is this
      | inr (suc i, short, _) ↦ absurd (omega (arith, short))
    ]
