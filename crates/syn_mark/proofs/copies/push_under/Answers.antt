use Rattle.std.proofs.Common.{◌≡◌, ◌≢◌, ◌++◌, ◌∷◌, [], refl, sym, ap, ap₂, ◌∙◌, subst}
use Rattle.std.proofs.Common.{append-nil, append_assoc, arith}
use Rattle.std.proofs.lemmas.Result.{err_from_is_err_and}
use Rattle.syn_model.specs.Path.{Path, IsPath}
use Rattle.syn_model.specs.Limits.{fits_path}
use Rattle.syn_placed.specs.Pairs.{Pairs, under}
use Rattle.syn_model.specs.Tree.{Pair, Content}
use Rattle.syn_tree.proofs.PlaceableLemmas.{paths_fit, under-append, paths-more, paths-fail}
use Rattle.syn_tree.proofs.PlaceableLemmas.{no_path}
use Rattle.syn_path.specs.declared.error.PathError.{PathError}
use Rattle.syn_path.specs.declared.error.PathError.TheVariants.{BadPath}
use Rattle.syn_path.specs.declared.error.PathError.TheVariants as path
use Rattle.syn_tree.specs.declared.error.TreeError.TheVariants.{Full, Memory}
use Rattle.syn_tree.specs.Refusals.{of_path}
use Rattle.syn_tree.proofs.CheckLemmas.{path_fits}
use Rattle.syn_mark.proofs.copies.push_under.Goals as goal
use Rattle.syn_model.proofs.BaseLemmas.{empty_of}

pub loop-entry-init : goal.loop-entry-init
loop-entry-init g c = record {
  whole = sym c.into_iter-entry-iterator.ensures.into_iter_gives.0;
  pushed = sym (append-nil c.args.list.now.items);
  paths = refl;
}

-- a path beyond the limits is refused, and so is lack of memory
refused : (e : PathError) {P : Type 0} → (e ≡ BadPath → P) → of_path e ≢ Memory →
    (of_path e ≡ Full) × P
refused BadPath h k = (refl, h refl)
refused (path.Memory) h k = absurd (k refl)

-- the item of this turn within the source
turned : (all yielded rest more : Pairs) (x : Pair) → all ≡ yielded ++ rest → rest ≡ x ∷ more →
    all ≡ (yielded ++ x ∷ []) ++ more
turned all yielded rest more x whole is =
    whole ∙ (ap (λ xs. yielded ++ xs) is ∙ sym (append_assoc yielded (x ∷ []) more))

-- the path of the item, with the place before it
put_below : (at q a b : Path) (path : Path) (x : Pair) → a ≡ at → b ≡ q → q ≡ x.0 → path ≡ a ++ b →
    path ≡ at ++ x.0
put_below at q a b path x e f g h = h ∙ ap₂ (λ y z. y ++ z) e (f ∙ g)

pub returns-in_err-path-clause-full : goal.returns-in_err-path-clause-full
returns-in_err-path-clause-full g c =
    let p = err_from_is_err_and c.from_residual.result c.from_residual.ensures.1 in
    let at = c.args.at.now in
    let x = c.in-Some.entry in
    let moved : c.into_parts-path.result.0 ≡ x.0 =
    ap (λ (y : Pair). y.0) c.into_parts-path.ensures in
    let below : c.names-in-loop-entry.result.now ≡ x.0 = c.names-in-loop-entry.ensures.names
    ∙ moved in
    let lawful : IsPath x.0 = subst IsPath moved c.names-in-loop-entry.ensures.lawful in
    let parts = c.loop-entry.invariant.whole
    ∙ ap (λ xs. c.loop-entry.yielded ++ xs) c.in-Some.ensures.steps.0 in
    rw (p.1, p.2) (refused c.in_err-path.field-0.0 (λ bad.
    ap (λ xs. paths_fit (under at xs)) parts
    ∙ paths-fail at c.loop-entry.yielded x _
    (no_path at x.0 c.names.ensures.lawful.names lawful.names
    (subst (λ q. ¬ IsPath q) (ap₂ (λ y z. y ++ z) c.names.ensures.names below)
    (c.in_err-path.ensures.bad bad)) _ refl)))

pub loop-entry-preserved : goal.loop-entry-preserved
loop-entry-preserved g c =
    let at = c.args.at.now in
    let x = c.in-Some.entry in
    let moved : c.into_parts-path.result.0 ≡ x.0 =
    ap (λ (y : Pair). y.0) c.into_parts-path.ensures in
    let path : c.in_ok-path.path ≡ at ++ x.0 = c.in_ok-path.ensures.ok.0
    ∙ ap₂ (λ y z. y ++ z) c.names.ensures.names (c.names-in-loop-entry.ensures.names ∙ moved) in
    let entry : c.new.result ≡ (at ++ x.0, x.1) = c.new.ensures
    ∙ ap₂ (λ (y : Path) (z : Content). (y, z)) path
    (ap (λ (y : Pair). y.1) c.into_parts-path.ensures) in
    record {
      whole =
          turned c.args.source.items c.loop-entry.yielded c.loop-entry.entry-iterator.rest.items
          c.next.new.self.rest.items x c.loop-entry.invariant.whole c.in-Some.ensures.steps.0;
      pushed =
          c.in_ok-push.ensures.items
          ∙ (ap₂ (λ xs y. xs ++ y ∷ []) c.loop-entry.invariant.pushed entry
          ∙ (append_assoc c.args.list.now.items (under at c.loop-entry.yielded)
          ((at ++ x.0, x.1) ∷ []) ∙ ap (λ xs. c.args.list.now.items ++ xs)
          (sym (under-append at c.loop-entry.yielded (x ∷ [])))));
      paths =
          paths-more at c.loop-entry.yielded x c.loop-entry.invariant.paths
          (ap fits_path (sym path) ∙ path_fits c.in_ok-path.path c.in_ok-path.ensures.ok.1);
    }

pub returns-clause-ok : goal.returns-clause-ok
returns-clause-ok g c =
    let none : c.loop-entry.entry-iterator.rest.items ≡ [] =
    empty_of c.loop-entry.entry-iterator.rest.items
    (omega (arith, c.in-None.ensures.steps.0, c.loop-entry.entry-iterator.rest.ok)) in
    let all = c.loop-entry.invariant.whole
    ∙ (ap (λ xs. c.loop-entry.yielded ++ xs) none ∙ append-nil c.loop-entry.yielded) in
    c.loop-entry.invariant.pushed
    ∙ ap (λ xs. c.args.list.now.items ++ under c.args.at.now xs) (sym all)

pub returns-clause-paths : goal.returns-clause-paths
returns-clause-paths g c =
    let none : c.loop-entry.entry-iterator.rest.items ≡ [] =
    empty_of c.loop-entry.entry-iterator.rest.items
    (omega (arith, c.in-None.ensures.steps.0, c.loop-entry.entry-iterator.rest.ok)) in
    let all = c.loop-entry.invariant.whole
    ∙ (ap (λ xs. c.loop-entry.yielded ++ xs) none ∙ append-nil c.loop-entry.yielded) in
    ap (λ xs. paths_fit (under c.args.at.now xs)) all ∙ c.loop-entry.invariant.paths
