use Rattle.std.proofs.Common.{◌∷◌, [], ◌∙◌}
use Rattle.syn_model.proofs.ExitLemmas.{on_ok_of_exit}
use Rattle.syn_wire.proofs.ByteLemmas.{begins_more, begins_further}
use Rattle.syn_wire.proofs.marks.write_mark.Goals as goal

pub returns-in_err-write_last_name-clause-added : goal.returns-in_err-write_last_name-clause-added
returns-in_err-write_last_name-clause-added c =
    on_ok_of_exit c.from_residual.result _ _ c.from_residual.ensures.1

pub returns-in_err-write_last_name-clause-kept : goal.returns-in_err-write_last_name-clause-kept
returns-in_err-write_last_name-clause-kept c = c.write_last_name.ensures.kept

pub returns-in_err-push-in-File-clause-added : goal.returns-in_err-push-in-File-clause-added
returns-in_err-push-in-File-clause-added c =
    on_ok_of_exit c.from_residual-in_err-push-in-File.result _ _
    c.from_residual-in_err-push-in-File.ensures.1

pub returns-in_err-push-in-File-clause-kept : goal.returns-in_err-push-in-File-clause-kept
returns-in_err-push-in-File-clause-kept c = (
  c.write_last_name.ensures.kept.0,
  c.in_err-push-in-File.ensures.items
      ∙ c.write_last_name.ensures.kept.1,
)

pub returns-in_ok-push-in-File-clause-kept : goal.returns-in_ok-push-in-File-clause-kept
returns-in_ok-push-in-File-clause-kept c =
    let out = c.args.out.now.items in
    begins_further out c.push.new.self.items c.write_digest.new.out.items
    (begins_more out c.write_last_name.new.out.items c.push.new.self.items (1 ∷ [])
    c.write_last_name.ensures.kept c.in_ok-push-in-File.ensures.items) c.write_digest.ensures.kept

pub returns-in-Dir-clause-kept : goal.returns-in-Dir-clause-kept
returns-in-Dir-clause-kept c =
    begins_further c.args.out.now.items c.write_last_name.new.out.items c.write_count.new.out.items
    c.write_last_name.ensures.kept c.write_count.ensures.kept
