use Rattle.std.proofs.Common.{◌++◌, ◌∷◌, ◌∙◌, [], ap, subst, sym}
use Rattle.std.proofs.lemmas.List.{map-append}
use Rattle.syn_message.proofs.ListingLemmas.{entry_tells}
use Rattle.syn_message.proofs.listing.read_each.Goals as goal
use Rattle.syn_message.specs.Listings.{IsEntry, entries_of, entry_of, entry_spelling}
use Rattle.syn_message.specs.inner.Listed.{AreEntries, each_spelling}
use Rattle.syn_wire.proofs.ManyLemmas.{next_one, one_more}
use Rattle.syn_wire.proofs.Sequences.{failed}

pub returns-in_err-read_entry : goal.returns-in_err-read_entry
returns-in_err-read_entry c =
    failed _ _ _ _ _ c.from_residual.result _ c.from_residual.ensures.1
    (λ e same malformed value rest begins.
    let next = next_one IsEntry entry_spelling entry_tells c.loop-read._read c.args.count
    (entries_of c.loop-read.entries.items) c.loop-read.reader c.args.reader.now value rest
    c.loop-read.invariant.so_far
    c.loop-read.invariant.spelled c.loop-read-test.true begins in
    c.in_err-read_entry.ensures (rw (← same) malformed) next.0 next.1 next.2)

pub loop-read-preserved : goal.loop-read-preserved
loop-read-preserved c =
    let entry = c.in_ok-read_entry.field-0 in
    let more = one_more IsEntry entry_spelling entry_tells c.loop-read._read
    (entries_of c.loop-read.entries.items) (entry_of entry) c.args.reader.now c.loop-read.reader
    c.read_entry.new.reader
    c.loop-read.invariant.so_far c.loop-read.invariant.spelled c.in_ok-read_entry.ensures in
    let pushed = ap entries_of c.in_ok-push.ensures.items
    ∙ map-append entry_of c.loop-read.entries.items (entry ∷ []) in
    record {
      so_far = subst (AreEntries _) (sym pushed) more.0;
      spelled = more.1 ∙ ap (λ xs. each_spelling xs ++ c.read_entry.new.reader) (sym pushed);
    }
