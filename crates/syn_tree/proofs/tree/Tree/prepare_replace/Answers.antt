use Rattle.std.proofs.Common.{◌≡◌, ◌<◌, Some, None, if◌then◌else◌, refl, sym, ap, ap₂, ◌∙◌}
use Rattle.std.proofs.Common.{subst, arith}
use Rattle.std.proofs.lemmas.Result.{err_from_is_err_and}
use Rattle.syn_model.specs.Path.{parent, is_root}
use Rattle.syn_model.specs.Tree.{replace, is_directory}
use Rattle.syn_model.specs.Limits.{fits_replica}
use Rattle.syn_model.specs.Refusal.{Full}
use Rattle.syn_tree.specs.Lists.{IsPlaceable, replace_refusal}
use Rattle.syn_tree.specs.Nodes.{part_of}
use Rattle.syn_placed.specs.Pairs.{spelling_length}
use Rattle.syn_tree.specs.Refusals.{refusal_in, refusal_of}
use Rattle.syn_tree.proofs.CheckLemmas.{replace_answer}
use Rattle.syn_placed.proofs.ParentLemmas.{place_free}
use Rattle.syn_tree.proofs.PlaceableLemmas.{placeable_measured, placeable_placed, placeable_new}
use Rattle.syn_tree.proofs.PlaceableLemmas.{nowhere_size}
use Rattle.syn_tree.proofs.tree.Tree.prepare_replace.Goals as goal
use Rattle.syn_tree.proofs.tree.Tree.prepare_replace.Goals.{After-fits}

pub returns-in_err-added-clause-refused : goal.returns-in_err-added-clause-refused
returns-in_err-added-clause-refused c =
    let p = err_from_is_err_and c.from_residual-in_err-added.result
    c.from_residual-in_err-added.ensures.1 in
    let t = c.args.self.now in
    let place = sym c.check_place.ensures ∙ ap refusal_in c.in_ok-check_place.was in
    rw (p.1, p.2) (λ other. let full = c.in_err-added.ensures.full other in
    replace_answer t c.args.path.now (part_of c.args.new) place ∙ (ap
    (λ b. if b then None else Some Full)
    (ap (λ p. fits_replica (replace t p (part_of c.args.new))) (sym c.key-at.ensures) ∙ full.1 t)
    ∙ sym (ap (λ e. Some (refusal_of e)) full.0)))

pub returns-in_default-clause-refused : goal.returns-in_default-clause-refused
returns-in_default-clause-refused c other =
    let t = c.args.self.now in
    let u = part_of c.args.new in
    let place = sym c.check_place.ensures ∙ ap refusal_in c.in_ok-check_place.was in
    let large : 526336 < spelling_length c.in_ok-added.added.items =
    subst (λ xs. 526336 < spelling_length xs) c.deref.ensures.value c.in_default.ensures.none in
    replace_answer t c.args.path.now u place ∙ ap (λ b. if b then None else Some Full)
    (ap (λ p. fits_replica (replace t p u)) (sym c.key-at.ensures)
    ∙ nowhere_size c.key-at.result u c.in_ok-added.added.items
    c.in_ok-added.ensures.ok.placed large t)

pub placed-requires-then-fits : goal.placed-requires-then-fits
placed-requires-then-fits c =
    let size = c.in-Some.ensures.some.0 ∙ ap spelling_length c.deref.ensures.value in
    placeable_placed c.key-at.result c.key-at.result (part_of c.args.new)
    c.in_ok-added.added.items c.in-Some.size c.in_ok-added.ensures.ok refl size

pub returns-then-fits-clause-new : goal.returns-then-fits-clause-new
returns-then-fits-clause-new c =
    c.placed-then-fits.ensures.new ∙ placeable_new c.key-at.result c.key-at.result
    (part_of c.args.new) c.in_ok-added.added.items c.in_ok-added.ensures.ok refl

-- what is put may stand at the path, and whether it fits is the answer
placeable : (c : After-fits) →
    IsPlaceable c.args.path.now (part_of c.args.new) c.in_ok-added.added.items
placeable c =
    subst (λ p. IsPlaceable p (part_of c.args.new) c.in_ok-added.added.items) c.key-at.ensures
    c.in_ok-added.ensures.ok

fits_so : (c : After-fits) →
    fits_replica (replace c.args.self.now c.args.path.now (part_of c.args.new)) ≡ c.fits.result
fits_so c =
    sym (c.fits.ensures (part_of c.args.new) (placeable_measured c.args.path.now
    (part_of c.args.new) c.in_ok-added.added.items c.len.result c.in-Some.size (placeable c)
    (omega (arith, c.len.ensures, c.in_ok-added.added.ok))
    (c.in-Some.ensures.some.0 ∙ ap spelling_length c.deref.ensures.value)))

answer : (c : After-fits) → replace_refusal c.args.self.now c.args.path.now (part_of c.args.new)
    ≡ (if c.fits.result then None else Some Full)
answer c =
    replace_answer c.args.self.now c.args.path.now (part_of c.args.new)
    (sym c.check_place.ensures ∙ ap refusal_in c.in_ok-check_place.was)
    ∙ ap (λ b. if b then None else Some Full) (fits_so c)

pub returns-then-fits-clause-ready : goal.returns-then-fits-clause-ready
returns-then-fits-clause-ready c =
    let t = c.args.self.now in
    let free = place_free t c.args.path.now
    (sym c.check_place.ensures ∙ ap refusal_in c.in_ok-check_place.was) in
    let fits = fits_so (goal.at.returns-then-fits-clause-ready c).After-fits in
    let at = c.placed-then-fits.ensures.at ∙ c.key-at.ensures in
    let new = returns-then-fits-clause-new c in
    record {
      below = ap is_root at ∙ free.0;
      parent = ap (λ p. is_directory t (parent p)) at ∙ free.1;
      fits = ap₂ (λ p w. fits_replica (replace t p w)) at new ∙ (fits ∙ c.if-fits.true);
    }

pub returns-then-fits-clause-allowed : goal.returns-then-fits-clause-allowed
returns-then-fits-clause-allowed c =
    answer (goal.at.returns-then-fits-clause-allowed c).After-fits
    ∙ ap (λ b. if b then None else Some Full) c.if-fits.true

pub returns-else-fits-clause-refused : goal.returns-else-fits-clause-refused
returns-else-fits-clause-refused c other =
    answer (goal.at.returns-else-fits-clause-refused c).After-fits
    ∙ ap (λ b. if b then None else Some Full) c.if-fits.false
