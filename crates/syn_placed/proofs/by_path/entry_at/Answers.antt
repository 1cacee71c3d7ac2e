use Rattle.std.proofs.Common.{◌∙◌, sym, ltb-true, ltb-false}
use Rattle.syn_placed.proofs.RisingLemmas.{rising_of}
use Rattle.syn_placed.proofs.FindLemmas.{there, not_there, ended}
use Rattle.syn_placed.proofs.by_path.entry_at.Goals as goal

pub returns-in_default : goal.returns-in_default
returns-in_default g c =
    sym (ended c.args.names.now c.args.list.now c.count_before-at.result (rising_of c.args.list.now
    c.requires) c.count_before-at.ensures (ltb-false _ _ (sym c.in_default.ensures.lookup.0)))

pub returns-then-is_at : goal.returns-then-is_at
returns-then-is_at g c =
    there c.args.names.now c.args.list.now c.count_before-at.result c.in-Some.entry.now
    (rising_of c.args.list.now c.requires) c.count_before-at.ensures
    (ltb-true _ _ (sym c.in-Some.ensures.lookup.0)) c.in-Some.ensures.lookup.1
    (sym c.is_at.ensures ∙ c.if-is_at.true)

pub returns-else-is_at : goal.returns-else-is_at
returns-else-is_at g c =
    sym (not_there c.args.names.now c.args.list.now c.count_before-at.result c.in-Some.entry.now
    (rising_of c.args.list.now c.requires) c.count_before-at.ensures c.in-Some.ensures.lookup.1
    (sym c.is_at.ensures ∙ c.if-is_at.false))
