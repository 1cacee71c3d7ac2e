use Rattle.std.proofs.Common.{◌+◌, ◌++◌, length, take, drop, ap, ap₂, ◌∙◌, arith}
use Rattle.syn_placed.specs.Pairs.{before, within}
use Rattle.syn_placed.proofs.RisingLemmas.{rising_of, counted}
use Rattle.syn_placed.proofs.SpliceLemmas.{front_is, back_is}
use Rattle.syn_placed.proofs.by_key.replace_part.Goals as goal

pub replace_run-requires-clause-bounds : goal.replace_run-requires-clause-bounds
replace_run-requires-clause-bounds g c =
    let at = c.args.at.now in
    let start = c.range_of-start.ensures.start
    ∙ ap (λ xs. length (before at xs)) c.deref.ensures.value in
    let count = c.range_of-start.ensures.count
    ∙ ap (λ xs. length (within at xs)) c.deref.ensures.value in
    let whole = counted c.args.at.now c.args.list.now.items
    (rising_of c.args.list.now.items c.requires.rising) in
    omega (arith, whole, start, count, c.args.list.now.ok)

pub replace_run-requires-clause-room : goal.replace_run-requires-clause-room
replace_run-requires-clause-room g c =
    let at = c.args.at.now in
    let count = c.range_of-start.ensures.count
    ∙ ap (λ xs. length (within at xs)) c.deref.ensures.value in
    let whole = counted c.args.at.now c.args.list.now.items
    (rising_of c.args.list.now.items c.requires.rising) in
    omega (arith, whole, count, c.requires.room, c.args.list.now.ok)

pub returns-clause-items : goal.returns-clause-items
returns-clause-items g c =
    let at = c.args.at.now in
    let es = c.args.list.now.items in
    let rising = rising_of es c.requires.rising in
    let start = c.range_of-start.ensures.start
    ∙ ap (λ xs. length (before at xs)) c.deref.ensures.value in
    let count = c.range_of-start.ensures.count
    ∙ ap (λ xs. length (within at xs)) c.deref.ensures.value in
    c.replace_run.ensures.items
    ∙ (ap₂ (λ n k. take n es ++ (c.args.added.items ++ drop (n + k) es)) start count
    ∙ ap₂ (λ xs ys. xs ++ (c.args.added.items ++ ys)) (front_is at es rising)
    (back_is at es rising))
