use Rattle.std.proofs.Common.{◌∙◌, sym, ap, ltb-true, ltb-false}
use Rattle.std.proofs.lemmas.List.{get_or_default}
use Rattle.syn_model.proofs.PathLemmas.{same_path}
use Rattle.syn_placed.proofs.KeyedLemmas.{absent_at, absent_past}
use Rattle.syn_placed.proofs.key_map.find.Goals as goal

pub returns-then-is_at-clause-there : goal.returns-then-is_at-clause-there
returns-then-is_at-clause-there g c =
    let es = c.args.slots.now in
    let n = c.index_of-place.result in
    let x = c.in-Some.slot.now in
    let l = ltb-true _ _ (sym c.in-Some.ensures.lookup.0) in
    record {
      before = c.index_of-place.ensures;
      within = l;
      same = λ d. ap (λ (y : _ × _). y.0)
          (get_or_default es n d x l ∙ sym c.in-Some.ensures.lookup.1)
          ∙ sym (same_path c.args.at.now x.0 (sym c.is_at.ensures ∙ c.if-is_at.true));
    }

pub returns-else-is_at-clause-absent : goal.returns-else-is_at-clause-absent
returns-else-is_at-clause-absent g c = record {
  before = c.index_of-place.ensures;
  absent =
      absent_at c.args.at.now c.index_of-place.result c.args.slots.now c.in-Some.slot.now
      c.requires c.index_of-place.ensures (ltb-true _ _ (sym c.in-Some.ensures.lookup.0))
      c.in-Some.ensures.lookup.1 (sym c.is_at.ensures ∙ c.if-is_at.false);
}

pub returns-in_default-clause-absent : goal.returns-in_default-clause-absent
returns-in_default-clause-absent g c = record {
  before = c.index_of-place.ensures;
  absent =
      absent_past c.args.at.now c.index_of-place.result c.args.slots.now c.requires
      c.index_of-place.ensures (ltb-false _ _ (sym c.in_default.ensures.lookup.0));
}
