use Rattle.std.proofs.Common.{◌≡◌, ◌<◌, ◌∙◌, Some, ap, sym, subst, length, ltb-true, slice_index_or}
use Rattle.std.specs.List.{slice_get}
use Rattle.syn_machine.specs.Planning.{Planned}
use Rattle.syn_machine.specs.Report.{is_carrying}
use Rattle.syn_scan.specs.Found.{Found}
use Rattle.syn_session.specs.Stages.{plan_in}
use Rattle.syn_session.proofs.PlanLemmas.{stands_at}
use Rattle.syn_session.proofs.plan_progress.PlanProgress.pass_kept.Goals as goal
use Rattle.syn_session.proofs.plan_progress.PlanProgress.pass_kept.Goals.{After-is_carried}

-- whether what is planned at the cursor is carried
is_carried_at : (c : After-is_carried) (left right : Found) (planned : Planned) →
    slice_get (plan_in c.args.self.now left right) c.args.self.now.cursor ≡ Some planned →
    is_carrying planned.item ≡ c.is_carried.result
is_carried_at c left right planned at =
    let cursor = c.args.self.now.cursor in
    let less = subst (λ l. cursor < length l) c.deref.ensures.value
    (ltb-true _ _ (sym c.in-Some.ensures.lookup.0)) in
    let there = c.in-Some.ensures.lookup.1
    ∙ ap (λ l. slice_index_or l cursor c.in-Some.item.now) c.deref.ensures.value in
    ap is_carrying (stands_at left right c.args.self.now.items.items cursor planned at
    c.in-Some.item.now less there) ∙ sym c.is_carried.ensures

pub returns-then-is_carried : goal.returns-then-is_carried
returns-then-is_carried c = record {
  passes = λ left right reached planned what is at due.
      let k = (goal.at.returns-then-is_carried c).After-is_carried in
      c.pass_carried.ensures.passes left right reached planned what is at due
      (is_carried_at k left right planned at ∙ c.if-is_carried.true);
}

pub returns-else-is_carried : goal.returns-else-is_carried
returns-else-is_carried c = record {
  passes = λ left right reached planned what is at due.
      let k = (goal.at.returns-else-is_carried c).After-is_carried in
      c.pass_marked.ensures.passes left right reached planned what is at due
      (is_carried_at k left right planned at ∙ c.if-is_carried.false);
}
