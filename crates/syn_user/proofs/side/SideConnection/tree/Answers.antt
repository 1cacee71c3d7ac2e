use Rattle.std.proofs.Common.{arith, refl}
use Rattle.syn_model.proofs.ExitLemmas.{if_err_of_exit}
use Rattle.syn_user.specs.Sides.{NoTree, again, once_more, side_state, too_often, unfetched}
use Rattle.syn_user.specs.Sides.{unlisted, whole}
use Rattle.syn_user.proofs.side.SideConnection.tree.Goals as goal

pub loop-tried-init : goal.loop-tried-init
loop-tried-init g c = record {
  shows = λ position tree new shown. shown;
  fails = λ error new none. none;
}

pub loop-tried-preserved : goal.loop-tried-preserved
loop-tried-preserved g c =
    let state = side_state g.R.Read.remaining g.W.Write.contents in
    let told = c.in_ok-position.ensures.told in
    let touched = rw c.in_default.is at c.in_ok-tree.ensures.none in
    record {
      shows = λ position tree new shown. c.loop-tried.invariant.shows position tree new
          (again c.in_ok-position.position (state c.loop-tried.self) (state c.position.new.self)
          (state c.tree_at.new.self) told touched shown);
      fails = λ error new none. c.loop-tried.invariant.fails error new
          (once_more c.loop-tried._tried c.in_ok-position.position (state c.loop-tried.self)
          (state c.position.new.self) (state c.tree_at.new.self) told touched none);
    }

pub returns-in-Some : goal.returns-in-Some
returns-in-Some g c =
    let state = side_state g.R.Read.remaining g.W.Write.contents in
    record {
      shown = c.loop-tried.invariant.shows c.in_ok-position.position c.in-Some.tree
          (state c.tree_at.new.self)
          (whole (state c.loop-tried.self) (state c.position.new.self) c.in_ok-position.ensures.told
          (rw c.in-Some.is at c.in_ok-tree.ensures.tree));
      refused = tt;
    }

-- ---- no tree came

pub returns-in_err-position-clause-refused : goal.returns-in_err-position-clause-refused
returns-in_err-position-clause-refused g c =
    let state = side_state g.R.Read.remaining g.W.Write.contents in
    let error = c.in_err-position.field-0.0 in
    if_err_of_exit c.from_residual.result error
    (λ e. NoTree (state c.position.new.self) e 0 (state c.args.self.now)) c.from_residual.ensures.1
    (c.loop-tried.invariant.fails error (state c.position.new.self)
    (unlisted c.loop-tried._tried (state c.loop-tried.self) c.in_err-position.ensures.refused))

pub returns-in_err-tree-clause-refused : goal.returns-in_err-tree-clause-refused
returns-in_err-tree-clause-refused g c =
    let state = side_state g.R.Read.remaining g.W.Write.contents in
    let error = c.in_err-tree.field-0.0 in
    if_err_of_exit c.from_residual-in_err-tree.result error
    (λ e. NoTree (state c.tree_at.new.self) e 0 (state c.args.self.now))
    c.from_residual-in_err-tree.ensures.1
    (c.loop-tried.invariant.fails error (state c.tree_at.new.self)
    (unfetched c.loop-tried._tried c.in_ok-position.position (state c.loop-tried.self)
    (state c.position.new.self) c.in_ok-position.ensures.told c.in_err-tree.ensures.refused))

pub returns-clause-refused : goal.returns-clause-refused
returns-clause-refused g c =
    let state = side_state g.R.Read.remaining g.W.Write.contents in
    let ended = c.loop-tried-test.false in
    c.loop-tried.invariant.fails _ (state c.loop-tried.self)
    (too_often c.loop-tried._tried (omega (arith, ended)) refl)
