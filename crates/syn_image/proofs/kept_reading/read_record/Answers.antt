use Rattle.syn_model.specs.MarkSpelling.{mark_spelling_in}
use Rattle.syn_model.specs.Path.{IsPath, path_spelling}
use Rattle.syn_wire.specs.Marks.{IsOptionalMarkTreeIn}
use Rattle.syn_wire.specs.Versions.{version_of}
use Rattle.syn_wire.proofs.NameLemmas.{paths_tell}
use Rattle.syn_wire.proofs.Sequences.{failed, first_none, second_none}
use Rattle.syn_image.proofs.KeptLemmas.{no_record}
use Rattle.syn_image.proofs.kept_reading.read_record.Goals as goal

pub returns-in_err-path : goal.returns-in_err-path
returns-in_err-path c =
    let version = version_of c.args.version in
    failed _ _ _ _ _ c.from_residual.result _ c.from_residual.ensures.1
    (λ e same malformed. no_record version c.args.reader.now
    (first_none IsPath (IsOptionalMarkTreeIn version) path_spelling (mark_spelling_in version)
    c.args.reader.now (c.in_err-path.ensures (rw (← same) malformed))))

pub returns-in_err-marks : goal.returns-in_err-marks
returns-in_err-marks c =
    let version = version_of c.args.version in
    failed _ _ _ _ _ c.from_residual-in_err-marks.result _ c.from_residual-in_err-marks.ensures.1
    (λ e same malformed. no_record version c.args.reader.now
    (second_none IsPath (IsOptionalMarkTreeIn version) path_spelling (mark_spelling_in version)
    paths_tell c.args.reader.now c.path.new.self c.in_ok-path.path c.in_ok-path.ensures
    (c.in_err-marks.ensures (rw (← same) malformed))))
