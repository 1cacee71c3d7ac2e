use Rattle.std.proofs.Common.{◌∙◌, [], subst, sym}
use Rattle.std.proofs.lemmas.Bool.{false≢true}
use Rattle.syn_message.proofs.ListingLemmas.{counted, one_reading}
use Rattle.syn_message.proofs.WholeLemmas.{failed_whole}
use Rattle.syn_message.proofs.listing.read_entries.Goals as goal
use Rattle.syn_message.specs.Listings.{AreRising, entries_of}

pub returns-in_err-entries : goal.returns-in_err-entries
returns-in_err-entries c =
    failed_whole _ _ _ _ c.from_residual-in_err-entries.result _
    c.from_residual-in_err-entries.ensures.1 (λ e same malformed entries lawful is.
    c.in_err-entries.ensures (rw (← same) malformed) entries []
    (counted c.spelling_laws.ensures.u16 c.args.reader.now c.u16.new.self c.in_ok-count.count
    c.in_ok-count.ensures.read entries lawful is))

pub returns-in_err-end : goal.returns-in_err-end
returns-in_err-end c =
    failed_whole _ _ _ _ c.from_residual-in_err-end.result _
    c.from_residual-in_err-end.ensures.1 (λ e same malformed entries lawful is.
    let whole = counted c.spelling_laws.ensures.u16 c.args.reader.now c.u16.new.self
    c.in_ok-count.count c.in_ok-count.ensures.read entries lawful is in
    c.in_err-end.ensures.more (one_reading c.in_ok-count.count c.u16.new.self
    c.read_each.new.reader [] (entries_of c.in_ok-entries.entries.items) entries
    c.in_ok-entries.ensures whole).1)

pub returns-then-not-are_rising : goal.returns-then-not-are_rising
returns-then-not-are_rising c =
    λ malformed entries lawful is.
    let whole = counted c.spelling_laws.ensures.u16 c.args.reader.now c.u16.new.self
    c.in_ok-count.count c.in_ok-count.ensures.read entries lawful is in
    let same = (one_reading c.in_ok-count.count c.u16.new.self c.read_each.new.reader []
    (entries_of c.in_ok-entries.entries.items) entries c.in_ok-entries.ensures whole).0 in
    let rising = subst AreRising (sym same) lawful.rising in
    let yes = c.are_rising.ensures.1
    (subst (λ xs. AreRising (entries_of xs)) (sym c.deref.ensures.value) rising) in
    false≢true (sym c.if-not-are_rising.true ∙ yes)
