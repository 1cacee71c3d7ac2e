use Rattle.syn_history.specs.Events.{token_of}
use Rattle.syn_model.specs.Spelling.{spelling_in}
use Rattle.syn_wire.specs.Trees.{IsOptionalTreeIn}
use Rattle.syn_wire.specs.Versions.{version_of}
use Rattle.syn_wire.proofs.EventLemmas.{IsSince, since_spelling, since_tells, replaced_none}
use Rattle.syn_wire.proofs.Sequences.{failed, first_none, second_none}
use Rattle.syn_wire.proofs.reader.Reader.replaced.Goals as goal

pub returns-in_err-token : goal.returns-in_err-token
returns-in_err-token c =
    failed _ _ _ _ _ c.from_residual.result _ c.from_residual.ensures.1 (λ e same malformed.
    replaced_none (version_of c.args.version) c.args.self.now (first_none IsSince (IsOptionalTreeIn
    (version_of c.args.version)) since_spelling (spelling_in (version_of c.args.version))
    c.args.self.now
    (c.in_err-token.ensures (rw (← same) malformed))))

pub returns-in_err-new : goal.returns-in_err-new
returns-in_err-new c =
    failed _ _ _ _ _ c.from_residual-in_err-new.result _ c.from_residual-in_err-new.ensures.1
    (λ e same malformed.
    replaced_none (version_of c.args.version) c.args.self.now (second_none IsSince (IsOptionalTreeIn
    (version_of c.args.version)) since_spelling (spelling_in (version_of c.args.version))
    since_tells c.args.self.now
    c.token_path_and_since.new.self (
      (token_of c.in_ok-token.token, c.in_ok-token.path),
      c.in_ok-token.since,
    )
    c.in_ok-token.ensures
    (c.in_err-new.ensures (rw (← same) malformed))))
