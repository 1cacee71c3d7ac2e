use Rattle.syn_model.specs.Contents.{IsMode}
use Rattle.syn_wire.specs.Events.{mode_spelling}
use Rattle.syn_wire.specs.Versions.{version_of}
use Rattle.syn_wire.proofs.EventLemmas.{IsPlace, place_spelling, place_tells, chmod_none}
use Rattle.syn_wire.proofs.Sequences.{failed, first_none, second_none}
use Rattle.syn_wire.proofs.reader.Reader.chmod.Goals as goal

pub returns-in_err-user : goal.returns-in_err-user
returns-in_err-user c =
    failed _ _ _ _ _ c.from_residual.result _ c.from_residual.ensures.1 (λ e same malformed.
    chmod_none (version_of c.args.version) c.args.self.now (first_none IsPlace IsMode place_spelling
    mode_spelling c.args.self.now
    (c.in_err-user.ensures (rw (← same) malformed))))

pub returns-in_err-mode : goal.returns-in_err-mode
returns-in_err-mode c =
    failed _ _ _ _ _ c.from_residual-in_err-mode.result _ c.from_residual-in_err-mode.ensures.1
    (λ e same malformed.
    chmod_none (version_of c.args.version) c.args.self.now (second_none IsPlace IsMode
    place_spelling mode_spelling place_tells c.args.self.now
    c.user_and_path.new.self (c.in_ok-user.user, c.in_ok-user.path) c.in_ok-user.ensures
    (c.in_err-mode.ensures.read (rw (← same) malformed))))
