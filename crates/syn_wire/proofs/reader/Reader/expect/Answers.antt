use Rattle.std.proofs.Common.{ap, not, sym, true≢false, ◌∙◌}
use Rattle.std.proofs.lemmas.Slice.Eq.{bytes_eq-Decides}
use Rattle.syn_wire.proofs.reader.Reader.expect.Goals as goal
use Rattle.syn_model.proofs.SpellingLemmas.{split}

pub returns-then-ne-clause-other : goal.returns-then-ne-clause-other
returns-then-ne-clause-other c rest is =
    let next = c.in_ok-next.next.now in
    let front = c.args.front.now in
    let same = split next front c.bytes.new.self rest c.in_ok-next.ensures.length
    (sym c.in_ok-next.ensures.read ∙ is) in
    true≢false (c.if-ne.ensures ∙ ap not ((bytes_eq-Decides next front).1 same.0))
