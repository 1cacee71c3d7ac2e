use Rattle.std.proofs.Common.{rules, ◌-◌, take, length, eqb}
use Rattle.std.proofs.lemmas.Iterator.{items_from_drains}
use Rattle.std.proofs.lemmas.Iterator.Splits.{YieldsList-from_slice_split}
use Rattle.syn_path.proofs.DerivedKeyLemmas.{last_start}
use Rattle.syn_path.proofs.key.Key.above_start.Goals as goal

pub returns-in-Some : goal.returns-in-Some
returns-in-Some c =
    let ran = c.in-Some.ensures.ran in
    let names = take (length c.above.result.now - 1) c.above.result.now in
    let cut = items_from_drains ran.0
    (ran.1.1.0, ran.1.1.1, λ _. (ran.1.0, ran.1.1.2))
    (YieldsList-from_slice_split _ (λ b. eqb b 0) names
    c.split.ensures.rest c.split.ensures.done c.split.ensures.closure
    (λ a r q k. search rules)) in
    last_start _ c.above.result.now ran.0 c.in-Some.last c.above.ensures.lawful
    c.above.ensures.bytes c.in-len1-up.len_at_least cut ran.2
