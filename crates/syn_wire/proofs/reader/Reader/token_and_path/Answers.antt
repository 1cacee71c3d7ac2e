use Rattle.syn_model.specs.Event.{IsLawfulToken}
use Rattle.syn_model.specs.Path.{IsPath, path_spelling}
use Rattle.syn_model.specs.Spelling.{token_spelling}
use Rattle.syn_wire.proofs.Sequences.{failed, first_none}
use Rattle.syn_wire.proofs.reader.Reader.token_and_path.Goals as goal

pub returns-in_err-token : goal.returns-in_err-token
returns-in_err-token c =
    failed _ _ _ _ _ c.from_residual.result _ c.from_residual.ensures.1 (λ e same malformed.
    first_none IsLawfulToken IsPath token_spelling path_spelling c.args.self.now
    (c.in_err-token.ensures (rw (← same) malformed)))
