use Rattle.std.proofs.Common.{◌≡◌, sym, ap, ◌∙◌}
use Rattle.std.specs.FinMap.{insert}
use Rattle.syn_history.proofs.index.index_after.Goals as goal

pub returns : goal.returns
returns c x e =
    let entry = c.in-Some-slot.slot in
    let same : c.insert.new.self ≡ x = cc in
    record {
      was = c.in-Some.index;
      entry = entry;
      old_is = c.in-Some.is;
      slot_is = c.in-Some-slot.is;
      new_is = sym same ∙ (c.insert.ensures
          ∙ ap (λ m. insert m entry.0 entry.1) c.forget_dropped.ensures);
    }
