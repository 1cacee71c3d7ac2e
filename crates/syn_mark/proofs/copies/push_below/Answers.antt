use Rattle.std.proofs.Common.{◌≡◌, ◌==◌, ◌++◌, ◌∷◌, [], drop, length, sym, subst, ap, ap₂}
use Rattle.std.proofs.Common.{◌∙◌, append-nil, true}
use Rattle.syn_model.specs.Path.{Path, is_prefix}
use Rattle.syn_model.specs.Tree.{Pair, Content}
use Rattle.syn_model.specs.Path.{IsPath}
use Rattle.syn_tree.proofs.StripLemmas.{strip_itself, strip_below, prefix_whole, rest_lawful}
use Rattle.syn_mark.proofs.copies.push_below.Given.{Over}
use Rattle.syn_mark.proofs.copies.push_below.Goals as goal
use Rattle.syn_mark.proofs.copies.push_below.Goals.{After-split_at}

-- the entry is at or below the path, and these names are left of its own
left : (g : Over) (c : After-split_at g) → (is_prefix c.args.at.now c.args.entry.now.0 ≡ true)
    × (c.split_at.result.1.now ≡ drop (length c.args.at.now) c.args.entry.now.0)
left g c = (
  ap (is_prefix c.args.at.now) (sym c.path.ensures)
      ∙ (sym c.is_prefix.ensures.value ∙ c.if-not-is_prefix.false),
  c.split_at.ensures.back
      ∙ ap₂ drop (ap length c.names-2.ensures.names) (c.names.ensures.names ∙ c.path-2.ensures),
)

pub returns-then-is_empty : goal.returns-then-is_empty
returns-then-is_empty g c =
    let is = left g (goal.at.returns-then-is_empty g c).After-split_at in
    let empty = ap (λ q. length q == 0) (sym is.1)
    ∙ (sym c.is_empty.ensures ∙ c.if-is_empty.true) in
    sym (ap (λ xs. c.args.copies.now.items ++ xs)
    (strip_itself c.args.at.now c.args.entry.now is.0 empty)
    ∙ append-nil c.args.copies.now.items)

pub returns : goal.returns
returns g c =
    let at = c.args.at.now in
    let x = c.args.entry.now in
    let is = left g (goal.at.returns g c).After-split_at in
    let some = ap (λ q. length q == 0) (sym is.1)
    ∙ (sym c.is_empty.ensures ∙ c.if-is_empty.false) in
    let names = c.in_ok-push_names.ensures
    ∙ ap (λ xs. xs ++ c.split_at.result.1.now) c.new-names.ensures.items in
    let path : c.in-Ok.path ≡ drop (length at) x.0 = c.in-Ok.ensures.ok.0 ∙ (names ∙ is.1) in
    let content = c.in_ok-content.ensures ∙ c.content.ensures in
    let entry : c.new.result ≡ (drop (length at) x.0, x.1) = c.new.ensures
    ∙ ap₂ (λ (p : Path) (d : Content). (p, d)) path content in
    c.in_ok-push.ensures.items ∙ ap (λ xs. c.args.copies.now.items ++ xs)
    (ap (λ (y : Pair). y ∷ []) entry ∙ sym (strip_below at x is.0 some))

pub unreachable-requires : goal.unreachable-requires
unreachable-requires g c =
    let at = c.args.at.now in
    let x = c.args.entry.now in
    let is = left g (goal.at.unreachable-requires g c).After-split_at in
    let whole = subst IsPath
    (c.path-2.ensures ∙ prefix_whole at x.0 is.0) c.names.ensures.lawful in
    let names = c.in_ok-push_names.ensures
    ∙ ap (λ xs. xs ++ c.split_at.result.1.now) c.new-names.ensures.items in
    c.in_default.ensures.bad.1 (subst IsPath (sym (names ∙ is.1))
    (rest_lawful at (drop (length at) x.0) whole))
