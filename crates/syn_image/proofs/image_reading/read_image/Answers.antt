use Rattle.std.proofs.Common.{◌≡◌, ◌≢◌, ◌++◌, ap, refl, sym, ◌∙◌, subst}
use Rattle.syn_history.specs.Trails.{past_from}
use Rattle.syn_model.specs.Path.{Bytes}
use Rattle.syn_wire.specs.Reads.{BeginsWith}
use Rattle.syn_wire.specs.Versions.{version_of}
use Rattle.syn_wire.proofs.Sequences.{failed}
use Rattle.syn_image.specs.inner.Pasts.{IsPast, past_spelling}
use Rattle.syn_image.proofs.ImageLemmas.{no_front, no_past, no_tree, no_trail, image_found}
use Rattle.syn_image.proofs.ImageLemmas.{past_value}
use Rattle.syn_image.proofs.image_reading.read_image.Goals as goal

pub returns-in_err-expect : goal.returns-in_err-expect
returns-in_err-expect c =
    failed _ _ _ _ _ c.from_residual.result _ c.from_residual.ensures.1 (λ e same malformed.
    no_front (version_of c.args.version) c.args.reader.now
    (subst (λ f. (rest : Bytes) → c.args.reader.now ≢ f ++ rest) c.front.ensures
    c.in_err-expect.ensures.other))

pub returns-in_err-pair : goal.returns-in_err-pair
returns-in_err-pair c =
    failed _ _ _ _ _ c.from_residual-in_err-pair.result _ c.from_residual-in_err-pair.ensures.1
    (λ e same malformed. no_past (version_of c.args.version) c.args.reader.now c.expect.new.self
    (c.in_ok-expect.ensures.passed ∙ ap (λ f. f ++ c.expect.new.self) c.front.ensures)
    (c.in_err-pair.ensures (rw (← same) malformed)))

pub returns-in_err-tree : goal.returns-in_err-tree
returns-in_err-tree c =
    failed _ _ _ _ _ c.from_residual-in_err-tree.result _ c.from_residual-in_err-tree.ensures.1
    (λ e same malformed value rest begins.
    no_tree (version_of c.args.version) c.args.reader.now c.expect.new.self c.read_past.new.reader
    (past_value c.in_ok-pair.pair (past_from c.in_ok-pair.parts))
    (c.in_ok-expect.ensures.passed ∙ ap (λ f. f ++ c.expect.new.self) c.front.ensures)
    c.in_ok-pair.ensures value rest begins (c.in_err-tree.ensures (rw (← same) malformed)))

pub returns-in_err-trail : goal.returns-in_err-trail
returns-in_err-trail c =
    let past = past_from c.in_ok-pair.parts in
    failed _ _ _ _ _ c.from_residual-in_err-trail.result _ c.from_residual-in_err-trail.ensures.1
    (λ e same malformed value rest begins.
    no_trail (version_of c.args.version) c.args.reader.now c.expect.new.self
    c.read_past.new.reader (past_value c.in_ok-pair.pair past)
    (c.in_ok-expect.ensures.passed ∙ ap (λ f. f ++ c.expect.new.self) c.front.ensures)
    c.in_ok-pair.ensures value rest begins past refl
    (c.in_err-trail.ensures.malformed (rw (← same) malformed)))

pub returns : goal.returns
returns c =
    let same = c.in_ok-trail.ensures.parts in
    image_found (version_of c.args.version) c.args.reader.now c.expect.new.self
    c.read_past.new.reader c.read_tree.new.reader c.in_ok-pair.pair c.in_ok-trail.trail
    c.in_ok-tree.tree
    (c.in_ok-expect.ensures.passed ∙ ap (λ f. f ++ c.expect.new.self) c.front.ensures)
    (subst (λ p. BeginsWith IsPast past_spelling c.expect.new.self
    (past_value c.in_ok-pair.pair p) c.read_past.new.reader) (sym same) c.in_ok-pair.ensures)
    c.in_ok-tree.ensures c.in_ok-trail.ensures.lawful
