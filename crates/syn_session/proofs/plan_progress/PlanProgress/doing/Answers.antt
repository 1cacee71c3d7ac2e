use Rattle.std.proofs.Common.{ap, sym, refl, ◌∙◌}
use Rattle.std.specs.Prelude.{option_map, slice_get}
use Rattle.std.proofs.lemmas.Option.{slice_get-map, slice_get_past, slice_get_read}
use Rattle.syn_recon.specs.Items.{item_of}
use Rattle.syn_session.proofs.DoingLemmas.{nothing_left, if_doing}
use Rattle.syn_session.proofs.plan_progress.PlanProgress.doing.Goals as goal

pub returns-clause-ok : goal.returns-clause-ok
returns-clause-ok c reached is =
    if_doing c.args.self.now c.args.left.now c.args.right.now reached is c.plan_laws.ensures.decided
    (item_of c.in-Some.item.now)
    (slice_get-map item_of c.args.self.now.items.items c.args.self.now.cursor ∙ ap
    (option_map item_of) (ap (λ l. slice_get l c.args.self.now.cursor) (sym c.deref.ensures.value)
    ∙ slice_get_read _ _ _ _ refl c.in-Some.ensures.lookup.3.0 c.in-Some.ensures.lookup.1))
    c.args.self.now.cursor refl c.doing_for.result c.doing_for.ensures.ok

pub returns-in_default-clause-ok : goal.returns-in_default-clause-ok
returns-in_default-clause-ok c reached is =
    nothing_left c.args.self.now c.args.left.now c.args.right.now reached is
    (slice_get-map item_of c.args.self.now.items.items c.args.self.now.cursor ∙ ap
    (option_map item_of) (ap (λ l. slice_get l c.args.self.now.cursor) (sym c.deref.ensures.value)
    ∙ slice_get_past _ _ c.in_default.ensures.lookup.3))
