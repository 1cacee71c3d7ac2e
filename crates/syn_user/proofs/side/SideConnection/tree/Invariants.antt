use Rattle.std.proofs.Common.{ℕ}
use Rattle.syn_model.specs.Tree.{Tree}
use Rattle.syn_user.specs.Sides.{NoTree, ShowsTree, SideState, side_state}
use Rattle.syn_user.specs.declared.error.UserError.{UserError}
use Rattle.syn_user.proofs.side.SideConnection.tree.Given as goal

-- what is shown, or is not, from here on was so from the beginning on
abbrev pub invariant-loop-tried : goal.invariant-loop-tried
invariant-loop-tried g l =
    let state = side_state g.R.Read.remaining g.W.Write.contents in
    record {
      shows : (position : ℕ) (tree : Tree) (new : SideState) →
          ShowsTree position tree new (state l.self) →
          ShowsTree position tree new (state l.initial.self);
      fails : (error : UserError) (new : SideState) → NoTree new error l._tried (state l.self) →
          NoTree new error 0 (state l.initial.self);
    }
