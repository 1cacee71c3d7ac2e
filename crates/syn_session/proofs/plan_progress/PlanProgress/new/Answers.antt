use Rattle.std.proofs.Common.{ap, refl, sym, arith, option_map}
use Rattle.syn_machine.specs.Report.{is_carrying, is_marking}
use Rattle.syn_session.specs.Plans.{planned_all}
use Rattle.syn_recon.specs.Items.{items_of}
use Rattle.syn_session.proofs.TallyLemmas.{none_recorded, nothing_counted}
use Rattle.syn_session.proofs.plan_progress.PlanProgress.new.Goals as goal
use Rattle.syn_path.specs.Sides.{which_of}

pub returns-clause-begun : goal.returns-clause-begun
returns-clause-begun c =
    let plan = planned_all c.args.left.now c.args.right.now (items_of c.in-Ok.items.items) in
    record {
      plan = refl;
      made = (
        option_map which_of c.args.preference,
        c.args.archive.now,
        c.in-Ok.ensures.ok,
      );
      short = omega (arith, c.len.ensures, c.if-len-gt-MOST_ITEMS.false);
      cursor = refl;
      recorded = none_recorded plan 0;
      done = nothing_counted is_carrying plan;
      marked = nothing_counted is_marking plan;
      conflicts = sym c.new.ensures.items;
      refused = ap (Rattle.std.specs.Prelude.map _) (sym c.new-2.ensures.items);
    }
