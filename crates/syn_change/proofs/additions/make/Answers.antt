use Rattle.std.proofs.Common.{sym}
use Rattle.std.proofs.lemmas.Result.{on_ok_weaker}
use Rattle.syn_tree.specs.Edits.{edit_of}
use Rattle.syn_change.proofs.GoingLemmas.{goes_one}
use Rattle.syn_change.proofs.additions.make.Goals as goal

pub returns-clause-edits : goal.returns-clause-edits
returns-clause-edits c =
    on_ok_weaker c.apply.result
    (λ done. goes_one c.args.work.now c.args.edits.now.items c.apply.new.self c.push.new.self.items
    (edit_of c.args.edit) c.in_ok-copy.field-0 c.in_ok-copy.ensures c.in_ok-push.ensures.items
    (sym done)) c.apply.ensures.done
