use Rattle.std.proofs.Common.{◌∙◌, ◌≡◌, ap, ap₂, length, arith}
use Rattle.std.specs.FinMap.{get, insert, put, is_sorted}
use Rattle.syn_model.specs.Path.{path_cmp}
use Rattle.syn_scan.specs.inner.Kept.{earlier}
use Rattle.syn_scan.proofs.PositionLemmas.{put_there, put_sorted, few_earlier}
use Rattle.syn_scan.proofs.positions.Positions.insert.Goals as goal
use Rattle.syn_scan.proofs.positions.Positions.insert.Goals.{In_ok-insert}

pub insert-requires : goal.insert-requires
insert-requires c =
    let q = c.names.result.now in
    let es = c.deref.result.now in
    omega (
      arith,
      c.count_before-at.ensures,
      few_earlier q es (ap (λ xs. is_sorted path_cmp xs) c.deref.ensures.value ∙ c.self.invariant),
      ap length c.deref.ensures.value,
      c.self.inside.list.ok,
    )

placed : (c : In_ok-insert) →
    c.insert.new.self.items ≡ put path_cmp c.args.path c.args.position c.self.inside.list.items
placed c =
    let q = c.args.path in
    let es = c.self.inside.list.items in
    let counted = c.count_before-at.ensures
    ∙ ap₂ (λ p xs. length (earlier p xs)) c.names.ensures.names c.deref.ensures.value in
    put_there q es c.count_before-at.result c.self.invariant counted c.args.position
    (ap (λ m. get m q) c.self.view_is ∙ c.requires) c.insert.new.self.items
    c.in_ok-insert.ensures.items

pub invariant_of-self-2 : goal.invariant_of-self-2
invariant_of-self-2 c =
    (put_sorted c.args.path c.args.position c.self.inside.list.items c.insert.new.self.items
    c.self.invariant (placed c)).0

pub returns-clause-ok : goal.returns-clause-ok
returns-clause-ok c =
    (put_sorted c.args.path c.args.position c.self.inside.list.items c.insert.new.self.items
    c.self.invariant (placed c)).1 ∙ ap (λ m. insert m c.args.path c.args.position) c.self.view_is
