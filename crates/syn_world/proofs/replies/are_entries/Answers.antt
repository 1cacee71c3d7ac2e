use Rattle.std.proofs.Common.{subst}
use Rattle.std.proofs.lemmas.List.{take_all}
use Rattle.std.proofs.lemmas.List.Elements.{All-more}
use Rattle.std.specs.Prelude.{All}
use Rattle.syn_message.specs.Listings.{IsEntry, entry_of}
use Rattle.syn_world.proofs.replies.are_entries.Goals as goal

pub loop-name-preserved : goal.loop-name-preserved
loop-name-preserved c =
    All-more (λ entry. IsEntry (entry_of entry)) c.args.entries.now c.loop-name.name-index
    c.loop-name-item.result c.loop-name-test.true c.loop-name.invariant
    (subst (λ entry. IsEntry (entry_of entry)) c.loop-name-item.is c.is_entry.ensures)

pub returns : goal.returns
returns c =
    subst (All (λ entry. IsEntry (entry_of entry)))
    (take_all c.loop-name.name-index c.args.entries.now c.loop-name-test.false)
    c.loop-name.invariant
