use Rattle.syn_command.proofs.InputLemmas.{taken}
use Rattle.syn_command.proofs.edit.read_input.Goals as goal

pub returns-clause-bytes : goal.returns-clause-bytes
returns-clause-bytes g c =
    taken c.take.result (λ reader. g.I.Read.remaining reader.now) _ _ c.read_to_end.new.buf.items
    c.new-bytes.result.items c.take.ensures.limit c.take.ensures.inner c.new-bytes.ensures.items
    c.in_ok-read_to_end.ensures.bytes
