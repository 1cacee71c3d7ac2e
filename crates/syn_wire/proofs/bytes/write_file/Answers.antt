use Rattle.std.proofs.Common.{◌∙◌}
use Rattle.syn_model.proofs.ExitLemmas.{on_ok_of_exit}
use Rattle.syn_wire.proofs.ByteLemmas.{of_slice, file_added, begins_more}
use Rattle.syn_wire.proofs.bytes.write_file.Goals as goal

pub returns-clause-added : goal.returns-clause-added
returns-clause-added c =
    file_added c.args.out.now.items c.args.file.now c.write_u32.new.out.items
    c.extend_from_slice.new.self.items c.in_ok-write_u32.ensures.added
    c.in_ok-extend_from_slice.ensures.items

pub returns-clause-kept : goal.returns-clause-kept
returns-clause-kept c =
    begins_more c.args.out.now.items c.write_u32.new.out.items c.extend_from_slice.new.self.items
    c.args.file.now c.write_u32.ensures.kept c.in_ok-extend_from_slice.ensures.items

pub returns-clause-lawful : goal.returns-clause-lawful
returns-clause-lawful c = of_slice c.args.file.now c.type_inv.file

pub returns-in_err-write_u32-clause-added : goal.returns-in_err-write_u32-clause-added
returns-in_err-write_u32-clause-added c =
    on_ok_of_exit c.from_residual.result _ _ c.from_residual.ensures.1

pub returns-in_err-write_u32-clause-kept : goal.returns-in_err-write_u32-clause-kept
returns-in_err-write_u32-clause-kept c = c.write_u32.ensures.kept

pub returns-in_err-write_u32-clause-lawful : goal.returns-in_err-write_u32-clause-lawful
returns-in_err-write_u32-clause-lawful c = of_slice c.args.file.now c.type_inv.file

pub returns-in_err-extend_from_slice-clause-added :
    goal.returns-in_err-extend_from_slice-clause-added
returns-in_err-extend_from_slice-clause-added c =
    on_ok_of_exit c.from_residual-in_err-extend_from_slice.result _ _
    c.from_residual-in_err-extend_from_slice.ensures.1

pub returns-in_err-extend_from_slice-clause-kept : goal.returns-in_err-extend_from_slice-clause-kept
returns-in_err-extend_from_slice-clause-kept c = (
  c.write_u32.ensures.kept.0,
  c.in_err-extend_from_slice.ensures.items
      ∙ c.write_u32.ensures.kept.1,
)

pub returns-in_err-extend_from_slice-clause-lawful :
    goal.returns-in_err-extend_from_slice-clause-lawful
returns-in_err-extend_from_slice-clause-lawful c = of_slice c.args.file.now c.type_inv.file
