use Rattle.syn_wire.specs.Events.{number64_spelling}
use Rattle.syn_model.proofs.ExitLemmas.{on_ok_of_exit}
use Rattle.syn_image.proofs.ImageLemmas.{one_after}
use Rattle.syn_image.proofs.image.write_two.Goals as goal

pub returns : goal.returns
returns c =
    one_after c.args.out.now.items c.write_u64.new.out.items c.write_u64-2.new.out.items
    (number64_spelling c.args.first) (number64_spelling c.args.second)
    c.in_ok-write_u64.ensures.added c.in_ok-write_u64-2.ensures.added

pub returns-in_err-write_u64 : goal.returns-in_err-write_u64
returns-in_err-write_u64 c = on_ok_of_exit c.from_residual.result _ _ c.from_residual.ensures.1

pub returns-in_err-write_u64-2 : goal.returns-in_err-write_u64-2
returns-in_err-write_u64-2 c =
    on_ok_of_exit c.from_residual-in_err-write_u64-2.result _ _
    c.from_residual-in_err-write_u64-2.ensures.1
