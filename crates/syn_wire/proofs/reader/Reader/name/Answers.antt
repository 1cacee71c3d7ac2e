use Rattle.std.proofs.Common.{◌∙◌}
use Rattle.syn_wire.proofs.NameLemmas.{front_lawful}
use Rattle.syn_wire.proofs.Sequences.{failed}
use Rattle.syn_wire.proofs.reader.Reader.name.Goals as goal

pub returns-in_err-from_bytes : goal.returns-in_err-from_bytes
returns-in_err-from_bytes c =
    failed _ _ _ _ _ c.from_residual-in_err-from_bytes.result _
    c.from_residual-in_err-from_bytes.ensures.1
    (λ e bad malformed value rest begins. c.in_err-from_bytes.ensures.bad (bad malformed)
    (front_lawful c.in_ok-length.length c.args.self.now c.byte.new.self c.in_ok-bytes.bytes.now
    c.bytes.new.self c.in_ok-length.ensures.read c.in_ok-bytes.ensures.read
    (c.in_ok-bytes.ensures.length ∙ c.from.ensures) value rest begins))
