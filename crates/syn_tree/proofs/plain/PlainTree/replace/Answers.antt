use Rattle.std.proofs.Common.{◌≡◌, ◌<◌, Some, None, if◌then◌else◌, refl, sym, ap, ◌∙◌}
use Rattle.std.proofs.Common.{subst, arith}
use Rattle.std.proofs.lemmas.Result.{err_from_is_err_and}
use Rattle.syn_model.specs.Tree.{replace}
use Rattle.syn_model.specs.Limits.{fits_replica}
use Rattle.syn_model.specs.Refusal.{Full}
use Rattle.syn_placed.specs.Pairs.{spelling_length}
use Rattle.syn_tree.specs.Change.{ArePlaced, taken_from}
use Rattle.syn_tree.specs.Lists.{IsPlaceable, replace_refusal}
use Rattle.syn_tree.specs.Nodes.{part_of}
use Rattle.syn_tree.specs.Refusals.{refusal_in, refusal_of}
use Rattle.syn_tree.proofs.CheckLemmas.{replace_answer}
use Rattle.syn_tree.proofs.PlaceableLemmas.{placeable_measured, placeable_placed, placeable_new}
use Rattle.syn_tree.proofs.PlaceableLemmas.{nowhere_size}
use Rattle.syn_tree.proofs.plain.PlainTree.replace.Goals as goal
use Rattle.syn_tree.proofs.plain.PlainTree.replace.Goals.{After-fits}

pub returns-in_err-added-clause-refused : goal.returns-in_err-added-clause-refused
returns-in_err-added-clause-refused c =
    let p = err_from_is_err_and c.from_residual-in_err-added.result
    c.from_residual-in_err-added.ensures.1 in
    let t = c.args.self.now in
    let place = sym c.check_place.ensures ∙ ap refusal_in c.in_ok-check_place.was in
    rw (p.1, p.2) (λ other. let full = c.in_err-added.ensures.full other in
    replace_answer t c.args.path.now (part_of c.args.new) place ∙ (ap
    (λ b. if b then None else Some Full)
    (ap (λ p. fits_replica (replace t p (part_of c.args.new))) (sym c.key.ensures) ∙ full.1 t)
    ∙ sym (ap (λ e. Some (refusal_of e)) full.0)))

pub returns-in_default-clause-refused : goal.returns-in_default-clause-refused
returns-in_default-clause-refused c other =
    let t = c.args.self.now in
    let u = part_of c.args.new in
    let place = sym c.check_place.ensures ∙ ap refusal_in c.in_ok-check_place.was in
    let large : 526336 < spelling_length c.in_ok-added.added.items =
    subst (λ xs. 526336 < spelling_length xs) c.deref.ensures.value c.in_default.ensures.none in
    replace_answer t c.args.path.now u place ∙ ap (λ b. if b then None else Some Full)
    (ap (λ p. fits_replica (replace t p u)) (sym c.key.ensures)
    ∙ nowhere_size c.key.result u c.in_ok-added.added.items
    c.in_ok-added.ensures.ok.placed large t)

-- what is put may stand at the path, and whether it fits is the answer
placeable : (c : After-fits) →
    IsPlaceable c.args.path.now (part_of c.args.new) c.in_ok-added.added.items
placeable c =
    subst (λ p. IsPlaceable p (part_of c.args.new) c.in_ok-added.added.items) c.key.ensures
    c.in_ok-added.ensures.ok

fits_so : (c : After-fits) →
    fits_replica (replace c.args.self.now c.args.path.now (part_of c.args.new)) ≡ c.fits.result
fits_so c =
    sym (c.fits.ensures (part_of c.args.new) (placeable_measured c.args.path.now
    (part_of c.args.new) c.in_ok-added.added.items c.len.result c.in-Some.size (placeable c)
    (omega (arith, c.len.ensures, c.in_ok-added.added.ok))
    (c.in-Some.ensures.some.0 ∙ ap spelling_length c.deref.ensures.value)))

answer : (c : After-fits) → replace_refusal c.args.self.now c.args.path.now (part_of c.args.new)
    ≡ (if c.fits.result then None else Some Full)
answer c =
    replace_answer c.args.self.now c.args.path.now (part_of c.args.new)
    (sym c.check_place.ensures ∙ ap refusal_in c.in_ok-check_place.was)
    ∙ ap (λ b. if b then None else Some Full) (fits_so c)

pub returns-then-not-fits-clause-refused : goal.returns-then-not-fits-clause-refused
returns-then-not-fits-clause-refused c other =
    answer (goal.at.returns-then-not-fits-clause-refused c).After-fits
    ∙ ap (λ b. if b then None else Some Full) c.if-not-fits.true

pub put-requires-clause-placed : goal.put-requires-clause-placed
put-requires-clause-placed c =
    let at = c.args.path.now in
    let k = (goal.at.put-requires-clause-placed c).After-fits in
    subst (λ xs. ArePlaced at xs c.in-Some.size) (sym c.in_ok-entries.ensures)
    (placeable_placed at at (part_of c.args.new) c.in_ok-added.added.items c.in-Some.size
    (placeable k) refl (c.in-Some.ensures.some.0 ∙ ap spelling_length c.deref.ensures.value))

pub put-requires-clause-fits : goal.put-requires-clause-fits
put-requires-clause-fits c =
    let at = c.args.path.now in
    let k = (goal.at.put-requires-clause-fits c).After-fits in
    ap (λ w. fits_replica (replace c.args.self.now at w))
    (ap (taken_from at) c.in_ok-entries.ensures
    ∙ placeable_new at at (part_of c.args.new) c.in_ok-added.added.items (placeable k) refl)
    ∙ (fits_so k ∙ c.if-not-fits.false)

pub returns-clause-done : goal.returns-clause-done
returns-clause-done c =
    let at = c.args.path.now in
    let k = (goal.at.returns-clause-done c).After-fits in
    c.put.ensures ∙ ap (replace c.args.self.now at) (ap (taken_from at) c.in_ok-entries.ensures
    ∙ placeable_new at at (part_of c.args.new) c.in_ok-added.added.items (placeable k) refl)

pub returns-clause-allowed : goal.returns-clause-allowed
returns-clause-allowed c =
    answer (goal.at.returns-clause-allowed c).After-fits
    ∙ ap (λ b. if b then None else Some Full) c.if-not-fits.false
