use Rattle.std.proofs.Common.{◌++◌, ap, ◌∙◌, append_assoc}
use Rattle.std.specs.Int.{to_be_bytes, w32, w64}
use Rattle.syn_model.proofs.ExitLemmas.{on_ok_of_exit}
use Rattle.syn_wire.proofs.event.write_token.Goals as goal

pub returns-clause-added : goal.returns-clause-added
returns-clause-added c =
    let token = c.args.token.now in
    c.in_ok-write_u32.ensures.added
    ∙ (ap (λ b. b ++ to_be_bytes w32 token.item) c.in_ok-write_u64.ensures.added ∙ append_assoc
    c.args.out.now.items (to_be_bytes w64 token.session) (to_be_bytes w32 token.item))

pub returns-in_err-write_u64-clause-added : goal.returns-in_err-write_u64-clause-added
returns-in_err-write_u64-clause-added c =
    on_ok_of_exit c.from_residual.result _ _ c.from_residual.ensures.1

pub returns-in_err-write_u32-clause-added : goal.returns-in_err-write_u32-clause-added
returns-in_err-write_u32-clause-added c =
    on_ok_of_exit c.from_residual-in_err-write_u32.result _ _
    c.from_residual-in_err-write_u32.ensures.1

pub returns-in_err-write_u64-clause-lawful : goal.returns-in_err-write_u64-clause-lawful
returns-in_err-write_u64-clause-lawful c =
    on_ok_of_exit c.from_residual.result _ _ c.from_residual.ensures.1

pub returns-in_err-write_u32-clause-lawful : goal.returns-in_err-write_u32-clause-lawful
returns-in_err-write_u32-clause-lawful c =
    on_ok_of_exit c.from_residual-in_err-write_u32.result _ _
    c.from_residual-in_err-write_u32.ensures.1
