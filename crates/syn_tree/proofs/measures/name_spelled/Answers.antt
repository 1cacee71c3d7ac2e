use Rattle.std.proofs.Common.{◌∙◌, sym, ap, arith, option_map}
use Rattle.syn_tree.proofs.MeasureLemmas.{spelled_some, spelled_none}
use Rattle.syn_tree.proofs.measures.name_spelled.Goals as goal

pub returns-in-Some-clause-length : goal.returns-in-Some-clause-length
returns-in-Some-clause-length c =
    spelled_some c.args.key.now c.in-Some.name.now
    (sym (ap (option_map (λ name. name.now)) c.in-Some.is) ∙ c.last_name.ensures.name)

pub returns-in-Some-clause-short : goal.returns-in-Some-clause-short
returns-in-Some-clause-short c = omega (arith, c.in-Some.ensures.lawful.not_long)

pub returns-in-None-clause-length : goal.returns-in-None-clause-length
returns-in-None-clause-length c =
    spelled_none c.args.key.now
    (sym (ap (option_map (λ name. name.now)) c.in-None.is) ∙ c.last_name.ensures.name)
