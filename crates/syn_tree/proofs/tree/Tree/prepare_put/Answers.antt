use Rattle.std.proofs.Common.{◌≡◌, None, Ok, Err, Result, IfOk, List, ℕ, subst}
use Rattle.syn_model.specs.Path.{Path}
use Rattle.syn_model.specs.Contents.{contents_with}
use Rattle.syn_model.specs.Tree.{Tree, File, at_root}
use Rattle.syn_model.specs.Event.{Put, part_after}
use Rattle.syn_model.specs.Standing.{edit_refusal}
use Rattle.syn_tree.specs.Change.{Replacement, IsPreparedFor}
use Rattle.syn_tree.specs.declared.error.TreeError.{TreeError}
use Rattle.syn_tree.proofs.CheckLemmas.{put_prepared}
use Rattle.syn_tree.proofs.tree.Tree.prepare_put.Goals as goal

ready : (t : Tree) (p : Path) (bytes : List ℕ) (r : Result Replacement TreeError) →
    edit_refusal t (Put p bytes) ≡ None → IfOk r (λ change. change.at ≡ p) →
    IfOk r (λ change. change.new ≡ part_after t (Put p bytes)) → IfOk r (IsPreparedFor t)
ready t p bytes (Ok change) none at new = put_prepared t p bytes change none at new
ready t p bytes (Err e) none at new = tt

pub returns-clause-ready : goal.returns-clause-ready
returns-clause-ready c =
    ready c.args.self.now c.args.path.now c.args.bytes.items c.one.result c.requires
    (subst (λ k. IfOk c.one.result (λ change. change.at ≡ k)) c.key.ensures c.one.ensures.at)
    (subst (λ mode. IfOk c.one.result (λ change. change.new
    ≡ at_root (File (contents_with mode c.args.bytes.items)))) c.mode_after_put-mode.ensures
    c.one.ensures.new)
