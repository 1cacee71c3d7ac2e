use Rattle.std.proofs.Common.{◌≢◌, ◌++◌, ℕ, ap, subst, sym, ◌∙◌}
use Rattle.std.proofs.lemmas.Option.{same_Some}
use Rattle.syn_model.specs.Path.{Bytes}
use Rattle.syn_model.proofs.HistoryLemmas.{no_file}
use Rattle.syn_wire.specs.Versions.{version_of}
use Rattle.syn_wire.proofs.Sequences.{failed}
use Rattle.syn_image.proofs.KeptLemmas.{marks_of_file, no_front, no_marks, no_numbers}
use Rattle.syn_image.proofs.kept_reading.read_archive.Goals as goal

pub returns-in_err-expect : goal.returns-in_err-expect
returns-in_err-expect c =
    failed _ _ _ _ _ c.from_residual.result _ c.from_residual.ensures.1 (λ e same malformed.
    no_front (version_of c.args.version) c.args.reader.now
    (subst (λ f. (rest : Bytes) → c.args.reader.now ≢ f ++ rest) c.front.ensures
    c.in_err-expect.ensures.other))

pub returns-in_err-pair : goal.returns-in_err-pair
returns-in_err-pair c =
    failed _ _ _ _ _ c.from_residual-in_err-pair.result _ c.from_residual-in_err-pair.ensures.1
    (λ e same malformed value rest begins.
    no_numbers (version_of c.args.version) c.args.reader.now c.expect.new.self
    (c.in_ok-expect.ensures.passed ∙ ap (λ f. f ++ c.expect.new.self) c.front.ensures) value rest
    begins (c.in_err-pair.ensures (rw (← same) malformed)))

pub returns-in_err-marks : goal.returns-in_err-marks
returns-in_err-marks c =
    let two : ℕ × ℕ = (c.in_ok-pair.pair, c.in_ok-pair.last_session) in
    failed _ _ _ _ _ c.from_residual-in_err-marks.result _ c.from_residual-in_err-marks.ensures.1
    (λ e same malformed value rest begins.
    no_marks (version_of c.args.version) c.args.reader.now c.expect.new.self
    (c.in_ok-expect.ensures.passed ∙ ap (λ f. f ++ c.expect.new.self) c.front.ensures) value rest
    begins two c.read_two.new.reader c.in_ok-pair.ensures
    (c.in_err-marks.ensures (rw (← same) malformed)))

pub returns-in-File : goal.returns-in-File
returns-in-File c =
    let two : ℕ × ℕ = (c.in_ok-pair.pair, c.in_ok-pair.last_session) in
    λ malformed value rest begins.
    marks_of_file (version_of c.args.version) c.args.reader.now c.expect.new.self
    (c.in_ok-expect.ensures.passed ∙ ap (λ f. f ++ c.expect.new.self) c.front.ensures) value rest
    begins two c.read_two.new.reader c.in_ok-pair.ensures c.spelling_laws.ensures.marks
    c.in_ok-marks.marks c.mark_tree.new.self c.in_ok-marks.ensures
    (λ directory. no_file _ (same_Some _ _ (sym directory ∙ c.in-File.ensures)))
