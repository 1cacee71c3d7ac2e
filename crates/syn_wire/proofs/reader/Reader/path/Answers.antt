use Rattle.syn_wire.proofs.NameLemmas.{path_of_names}
use Rattle.syn_model.specs.Path.{IsPath, path_spelling}
use Rattle.std.proofs.Common.{subst}
use Rattle.syn_wire.specs.Reads.{BeginsWith}
use Rattle.syn_wire.proofs.Sequences.{failed}
use Rattle.syn_wire.proofs.reader.Reader.path.Goals as goal

pub returns-in_err-from_names : goal.returns-in_err-from_names
returns-in_err-from_names c =
    failed _ _ _ _ _ c.from_residual-in_err-from_names.result _
    c.from_residual-in_err-from_names.ensures.1
    (λ e bad malformed value rest begins. c.in_err-from_names.ensures.bad.1
    (path_of_names c.in_ok-count.count c.in_ok-names.names.items c.byte.new.self c.names.new.self
    value rest c.in_ok-names.ensures (subst (λ xs. BeginsWith IsPath path_spelling xs value rest)
    c.in_ok-count.ensures.read begins)))
