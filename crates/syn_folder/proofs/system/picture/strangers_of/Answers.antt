use Rattle.std.proofs.Common.{◌≡◌, List, [], ◌∷◌, ◌++◌, map, take, length, sym, ap, ◌∙◌, subst}
use Rattle.std.proofs.Common.{arith}
use Rattle.std.proofs.Math.Seq.{take-length}
use Rattle.std.proofs.lemmas.List.{map-append, take_more}
use Rattle.syn_folder.specs.Looks.{AreShown, ShowsStranger, told}
use Rattle.syn_folder.specs.declared.system.looks.Seen.{Seen}
use Rattle.syn_folder.proofs.LookLemmas.{shown_more}
use Rattle.syn_folder.proofs.system.picture.strangers_of.Goals as goal

pub loop-seen-preserved : goal.loop-seen-preserved
loop-seen-preserved c =
    let Shows = ShowsStranger c.args.at.now in
    let looks = c.args.looks.now in
    let at = c.loop-seen.seen-index in
    let before = map told c.loop-seen.strangers.items in
    let more = map told c.in_ok-more.more.items in
    let all = take_more looks at c.seen-item.result c.loop-seen-test.true in
    let is : map told c.append.new.self.items ≡ before ++ more =
    ap (map told) c.in_ok-append.ensures.items
    ∙ map-append told c.loop-seen.strangers.items c.in_ok-more.more.items in
    subst (λ xs. AreShown Shows xs (map told c.append.new.self.items))
    (ap (λ x. take at looks ++ x ∷ []) c.seen-item.is ∙ sym all)
    (subst (λ found. AreShown Shows (take at looks ++ c.seen-item.result ∷ []) found) (sym is)
    (shown_more Shows (take at looks) c.seen-item.result before more c.loop-seen.invariant
    c.in_ok-more.ensures))

pub returns : goal.returns
returns c =
    let looks = c.args.looks.now in
    let ended : c.loop-seen.seen-index ≡ length looks =
    omega (arith, c.loop-seen-test.false, c.loop-seen.auto.seen-index-end) in
    subst (λ (xs : List Seen). AreShown (ShowsStranger c.args.at.now) xs (map told
    c.loop-seen.strangers.items))
    (ap (λ n. take n looks) ended ∙ take-length looks) c.loop-seen.invariant
