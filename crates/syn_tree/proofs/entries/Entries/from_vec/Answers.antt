use Rattle.std.proofs.Common.{◌≡◌, ◌≤◌, ◌<◌, ℕ, [], nat_le, true, false, true≢false, sym, ap, ap₂}
use Rattle.std.proofs.Common.{◌∙◌, subst, arith}
use Rattle.std.specs.List.{list_all}
use Rattle.std.proofs.lemmas.Bool.Decides.{nat_tests}
use Rattle.syn_placed.specs.Pairs.{AreRising, rooted}
use Rattle.syn_tree.specs.Entries.{AreLawful, stands_in}
use Rattle.syn_placed.proofs.TreeLemmas.{entries-with}
use Rattle.syn_placed.proofs.CountLemmas.{kids}
use Rattle.syn_tree.proofs.LawfulLemmas.{are_entries, entries_stand}
use Rattle.syn_tree.proofs.entries.Entries.from_vec.Goals as goal

few : (n : ℕ) → n ≤ 256 → nat_le n 256 ≡ true
few n h = grind (arith, nat_tests)

many : (n : ℕ) → 256 < n → nat_le n 256 ≡ false
many n h = grind (arith, nat_tests)

pub returns-then-not-all_stand-clause-none : goal.returns-then-not-all_stand-clause-none
returns-then-not-all_stand-clause-none c is =
    let ds = c.args.list.items in
    absurd (true≢false (sym (entries_stand ds is).0 ∙ (ap (λ xs. list_all (stands_in xs) xs)
    (sym c.deref-2.ensures.value) ∙ (sym c.all_stand.ensures.value ∙ c.if-not-all_stand.true))))

pub returns-then-count_children-gt-MOST_CHILDREN-clause-none :
    goal.returns-then-count_children-gt-MOST_CHILDREN-clause-none
returns-then-count_children-gt-MOST_CHILDREN-clause-none c is =
    let ds = c.args.list.items in
    let count : c.count_children.result ≡ kids [] ds = c.count_children.ensures
    ∙ ap₂ kids c.root.ensures c.deref-3.ensures.value in
    absurd (true≢false (sym (entries_stand ds is).1 ∙ (ap (λ n. nat_le n 256) (sym count)
    ∙ many c.count_children.result c.if-count_children-gt-MOST_CHILDREN.true)))

pub invariant_of-result : goal.invariant_of-result
invariant_of-result c =
    let ds = c.args.list.items in
    let count : c.count_children.result ≡ kids [] ds = c.count_children.ensures
    ∙ ap₂ kids c.root.ensures c.deref-3.ensures.value in
    let rising = subst (λ xs. AreRising (rooted xs)) c.deref.ensures.value
    (c.are_rising.ensures.0 c.if-not-are_rising.false) in
    let stand = ap (λ xs. list_all (stands_in xs) xs) (sym c.deref-2.ensures.value)
    ∙ (sym c.all_stand.ensures.value ∙ c.if-not-all_stand.false) in
    are_entries ds rising (subst AreLawful c.deref-2.ensures.value
    (c.all_stand.ensures.lawful c.if-not-all_stand.false)) stand (ap (λ n. nat_le n 256)
    (sym count) ∙ few c.count_children.result c.if-count_children-gt-MOST_CHILDREN.false)

pub returns-clause-some : goal.returns-clause-some
returns-clause-some c =
    sym (entries-with c.args.list.items (subst (λ xs. AreRising (rooted xs)) c.deref.ensures.value
    (c.are_rising.ensures.0 c.if-not-are_rising.false)))
