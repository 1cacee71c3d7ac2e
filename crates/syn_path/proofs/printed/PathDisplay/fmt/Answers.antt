use Rattle.std.proofs.Common.{rules, ◌≡◌, ◌∷◌, ◌++◌, ◌-◌, [], length, take, drop, refl, sym, ap}
use Rattle.std.proofs.Common.{◌∙◌, arith}
use Rattle.std.specs.List.{flat_map}
use Rattle.std.proofs.Math.Seq.{take-length}
use Rattle.std.proofs.lemmas.Grind.{put_two}
use Rattle.std.proofs.lemmas.List.{take_more, flat_map_more}
use Rattle.syn_model.specs.Path.{Bytes}
use Rattle.syn_path.specs.Paths.{printed_name, printed_form}
use Rattle.syn_path.proofs.PathLemmas.{printed-split}
use Rattle.syn_path.proofs.printed.PathDisplay.fmt.Goals as goal

pub loop-name-preserved : goal.loop-name-preserved
loop-name-preserved g c = λ plain.
    let others = take (length c.names.result.now - 1) (drop 1 c.names.result.now) in
    let i = c.loop-name.name-index in
    let after = λ (other : Bytes). 47 ∷ printed_name other in
    let read = take_more others i c.name-item.result c.loop-name-test.true in
    put_two g.W.Write.write_str_gives c.write-in-len1-up.new.self c.loop-name.f
    c.write-in-loop-name.new.self (flat_map after (take i others)) (after c.name-item.result) _
    (c.loop-name.invariant plain) (search rules)
    (flat_map_more after [] (take i others) c.name-item.result
    ∙ (ap (λ x. flat_map after (take i others ++ x ∷ [])) c.name-item.is
    ∙ ap (flat_map after) (sym read)))

pub returns-after-loop-name-clause-writes : goal.returns-after-loop-name-clause-writes
returns-after-loop-name-clause-writes g c = λ plain done.
    let names = c.names.result.now in
    let others = take (length names - 1) (drop 1 names) in
    let after = λ (other : Bytes). 47 ∷ printed_name other in
    let ended : c.loop-name.name-index ≡ length others =
    omega (arith, c.loop-name-test.false, c.loop-name.auto.name-index-end) in
    let all = ap (λ n. take n others) ended ∙ take-length others in
    let first = c.in_ok-write-in-len1-up.ensures.writes plain refl in
    put_two g.W.Write.write_str_gives c.args.f.now c.write-in-len1-up.new.self c.loop-name.f
    (printed_name c.first-item.result) (flat_map after (take c.loop-name.name-index others)) _
    (search rules) (c.loop-name.invariant first.plain)
    (ap (λ xs. printed_name c.first-item.result ++ flat_map after xs) all
    ∙ (printed-split names c.first-item.result (omega (arith, c.in-len1-up.len_at_least))
    c.first-item.is ∙ ap printed_form c.names.ensures.names))
