use Rattle.std.proofs.Common.{◌≤◌, ◌∙◌, sym, ap, arith}
use Rattle.std.specs.FinMap as map
use Rattle.std.specs.List.{list_any}
use Rattle.syn_model.specs.History.{floor}
use Rattle.syn_history.specs.Past.{tells}
use Rattle.syn_history.specs.Index.{entry_tells}
use Rattle.syn_history.proofs.IndexLemmas.{index_tells}
use Rattle.syn_history.proofs.trail.Trail.touched.Goals as goal

pub returns-in-Some-clause-kept : goal.returns-in-Some-clause-kept
returns-in-Some-clause-kept c =
    let since = c.args.since in
    let path = c.args.path.now in
    let kept = c.self.invariant.1 in
    c.is_touched.ensures
    ∙ (ap (λ m. list_any (entry_tells since path) (map.entries m)) (kept.last _ c.in-Some.is)
    ∙ (index_tells since path c.self.inside.touches.items kept.rising
    ∙ ap (λ past. list_any (tells since path) past.touches) c.self.view_is))

pub returns-in-Some-clause-quiet : goal.returns-in-Some-clause-quiet
returns-in-Some-clause-quiet c history same =
    let since = c.args.since in
    let path = c.args.path.now in
    let late : floor history ≤ since =
    omega (arith, c.if-since-self.false, ap (λ p. p.floor) (c.self.view_is ∙ same)) in
    returns-in-Some-clause-kept c ∙ (ap (λ past. list_any (tells since path) past.touches) same
    ∙ sym (c.history_laws.ensures.touches history since path late))
