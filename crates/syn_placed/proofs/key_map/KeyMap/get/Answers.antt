use Rattle.std.proofs.Common.{ap, ◌∙◌, sym, subst, Some}
use Rattle.std.specs.FinMap as map
use Rattle.syn_model.specs.Path.{path_cmp}
use Rattle.syn_placed.specs.Keyed.{StandsAt, WouldStandAt}
use Rattle.syn_placed.proofs.KeyedLemmas.{found_at}
use Rattle.syn_placed.proofs.key_map.KeyMap.get.Goals as goal
use Rattle.syn_model.proofs.BaseLemmas.{holds}

pub returns-in-Ok : goal.returns-in-Ok
returns-in-Ok g c =
    let at = c.args.at.now in
    let es = c.self.inside.slots.items in
    let n = c.in-Ok.place in
    let rising = c.self.invariant.rising in
    let stands = subst (StandsAt at n) c.deref.ensures.value c.in-Ok.ensures.there in
    ap Some c.value.ensures
    ∙ (ap (λ (x : _ × _). Some x.1) c.index.ensures
    ∙ sym (ap (λ m. map.get m at) (sym c.self.view_is)
    ∙ (map.get-from_sorted path_cmp es at (holds _ rising)
    ∙ found_at at n es c.index.result.now rising stands)))

pub returns-in-Err : goal.returns-in-Err
returns-in-Err g c =
    let at = c.args.at.now in
    let es = c.self.inside.slots.items in
    let stands = subst (WouldStandAt at c.in-Err.field-0) c.deref.ensures.value
    c.in-Err.ensures.absent in
    sym (ap (λ m. map.get m at) (sym c.self.view_is)
    ∙ (map.get-from_sorted path_cmp es at (holds _ c.self.invariant.rising) ∙ stands.absent))
