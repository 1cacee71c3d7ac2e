use Rattle.std.proofs.Common.{◌≤◌, arith, length}
use Rattle.std.proofs.lemmas.List.{length-map}
use Rattle.std.proofs.lemmas.List.Elements.{All-map}
use Rattle.syn_message.specs.Listings.{IsEntry, entries_of, entry_of}
use Rattle.syn_world.proofs.replies.is_listing.Goals as goal

pub returns-then-entries-le-MOST_CHILDREN : goal.returns-then-entries-le-MOST_CHILDREN
returns-then-entries-le-MOST_CHILDREN c =
    let entries = c.args.entries.now in
    let few : length (entries_of entries) ≤ 256 = omega (arith, length-map entries entry_of) in (
      (λ yes. record {
        few = few;
        each = All-map IsEntry entry_of entries c.are_entries.ensures;
        rising = c.are_rising.ensures.0 yes;
      }),
      (λ listing. c.are_rising.ensures.1 listing.rising),
    )
