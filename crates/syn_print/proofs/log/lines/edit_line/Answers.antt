use Rattle.std.proofs.lemmas.Result.{IfOk-weaker}
use Rattle.syn_print.proofs.log.lines.edit_line.Goals as goal

pub returns-in-Chmod : goal.returns-in-Chmod
returns-in-Chmod c =
    IfOk-weaker c.format-in-Chmod.result _ _ (λ line told. rw c.in-Chmod.is told)
    c.format-in-Chmod.ensures.ok
