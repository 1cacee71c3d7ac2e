use Rattle.std.proofs.Common.{◌≢◌, true≢false, ◌≡◌, ◌∙◌, ◌<◌, ◌+◌, length, true, false, ap, ap₂}
use Rattle.std.proofs.Common.{sym, subst, arith}
use Rattle.std.specs.Prelude.{All}
use Rattle.std.specs.FinMap.{len}
use Rattle.std.proofs.lemmas.Result.{err_from_is_err_and}
use Rattle.syn_model.specs.Tree.{replace}
use Rattle.syn_model.specs.Limits.{fits_archive}
use Rattle.syn_scan.specs.declared.error.ScanError.{ScanError}
use Rattle.syn_scan.specs.declared.error.ScanError.TheVariants.{Memory, BadMessage}
use Rattle.syn_scan.specs.Found.{Found, is_open, WasListedIn}
use Rattle.syn_scan.specs.Asked.{Asked, is_out, contents_in, with_listing, is_too_large, fit_below}
use Rattle.syn_scan.specs.Asked.{ListsOnly, without}
use Rattle.syn_scan.specs.inner.Kept.{IsFlat, with_tree}
use Rattle.std.specs.FinMap.{entries}
use Rattle.syn_scan.specs.inner.Kept.{NoneNext}
use Rattle.syn_scan.proofs.ListingLemmas.{passed_then}
use Rattle.syn_scan.proofs.FoundLemmas.{opened as opened_so, out_is_open, open_then}
use Rattle.syn_scan.proofs.NamesLemmas.{has_node}
use Rattle.syn_scan.proofs.ListingLemmas.{new_len, out_then, listing_is_flat, listing_len}
use Rattle.syn_scan.proofs.ListingLemmas.{length_contents, not_too_large, fits_then, listed_so}
use Rattle.syn_scan.proofs.ListingLemmas.{lists_only}
use Rattle.syn_scan.proofs.scanner.Scanner.take.Goals as goal
use Rattle.syn_scan.proofs.scanner.Scanner.take.Goals.{After-directory_of, In_ok-listing}
use Rattle.syn_scan.proofs.scanner.Scanner.take.Goals.{In_ok-take}

-- what is known of the path and of the number of entries
opened : (c : After-directory_of) → is_open c.self.inside.scan c.args.path.now ≡ true
opened c =
    out_is_open (record { found = c.self.inside.scan; out = c.self.inside.out.items })
    c.args.path.now c.self.invariant.out_open (ap (λ ps. is_out ps c.args.path.now)
    (sym c.deref.ensures.value) ∙ (sym c.is_among.ensures ∙ c.if-not-is_among.false))

small : (c : After-directory_of) →
    is_too_large c.self.inside.scan (contents_in c.args.entries.items) ≡ false
small c = not_too_large c.self.inside.scan (contents_in c.args.entries.items)
    (omega (
      arith,
      length_contents c.args.entries.items,
      c.if-node_count-len-gt-MOST_NODES.false,
      c.node_count.ensures,
      ap len c.tree.ensures.marks,
      c.len.ensures,
      c.args.entries.ok,
    ))

same_found : (c : After-directory_of) → c.self.inside.scan ≡ c.args.self.now.found
same_found c = ap (λ (a : Asked). a.found) c.self.view_is

pub take-requires-clause-open : goal.take-requires-clause-open
take-requires-clause-open c = opened (goal.at.take-requires-clause-open c).After-directory_of

pub take-requires-clause-flat : goal.take-requires-clause-flat
take-requires-clause-flat c =
    subst IsFlat (sym c.in_ok-listing.ensures.ok)
    (listing_is_flat (contents_in c.args.entries.items) c.in_ok-listing.ensures.marks)

pub take-requires-clause-small : goal.take-requires-clause-small
take-requires-clause-small c =
    omega (
      arith,
      ap len c.in_ok-listing.ensures.ok,
      listing_len (contents_in c.args.entries.items) c.in_ok-listing.ensures.marks,
      length_contents c.args.entries.items,
      c.if-node_count-len-gt-MOST_NODES.false,
      c.node_count.ensures,
      ap len c.tree.ensures.marks,
      c.len.ensures,
      c.args.entries.ok,
    )

-- what is known once the listing is a directory's marks
fits_so : (c : In_ok-listing) →
    fits_archive (replace c.self.inside.scan.marks c.args.path.now c.in_ok-listing.listing)
    ≡ fit_below c.args.path.now (contents_in c.args.entries.items)
fits_so c =
    let k = (goal.at.In_ok-listing c).After-directory_of in
    ap (λ u. fits_archive (replace c.self.inside.scan.marks c.args.path.now u))
    c.in_ok-listing.ensures.ok
    ∙ fits_then c.self.inside.scan c.args.path.now (contents_in c.args.entries.items)
    c.tree.ensures.found (opened k) c.in_ok-listing.ensures.marks (small k)

taken : (c : In_ok-take) → c.take.new.self
    ≡ with_listing c.self.inside.scan c.args.path.now c.args.position
    (contents_in c.args.entries.items)
taken c =
    c.in_ok-take.ensures.ok
    ∙ ap (λ t. with_tree c.self.inside.scan c.args.path.now c.args.position t)
    c.in_ok-listing.ensures.ok

no_memory : (e : ScanError) → e ≡ BadMessage → e ≢ Memory
no_memory e bad memory = let x : BadMessage ≡ Memory = sym bad ∙ memory in cc

pub returns-in_err-listing-clause-bad : goal.returns-in_err-listing-clause-bad
returns-in_err-listing-clause-bad c =
    let k = (goal.at.returns-in_err-listing-clause-bad c).After-directory_of in
    let p = err_from_is_err_and c.from_residual.result c.from_residual.ensures.1 in
    let e = c.in_err-listing.field-0.0 in
    let old = c.self.inside.scan in
    let count : length c.args.entries.items < 4096 =
    omega (
      arith,
      has_node old.marks c.args.path.now (opened_so old c.args.path.now (opened k)).directory,
      c.if-node_count-len-gt-MOST_NODES.false,
      c.node_count.ensures,
      ap len c.tree.ensures.marks,
      c.len.ensures,
      c.args.entries.ok,
    ) in
    rw (p.1, p.2) (λ bad. (
      sym (ap (λ f. is_too_large f (contents_in c.args.entries.items)) (same_found k)) ∙ small k,
      λ b. true≢false (sym b.rising ∙ (c.in_err-listing.ensures.bad (no_memory e bad)).1 count),
    ))

pub returns-in_err-take-clause-bad : goal.returns-in_err-take-clause-bad
returns-in_err-take-clause-bad c =
    let at = goal.at.returns-in_err-take-clause-bad c in
    let k = at.After-directory_of in
    let p = err_from_is_err_and c.from_residual-in_err-take.result
    c.from_residual-in_err-take.ensures.1 in
    let e = c.in_err-take.field-0.0 in
    let es = contents_in c.args.entries.items in
    rw (p.1, p.2) (λ bad. (
      sym (ap (λ f. is_too_large f es) (same_found k)) ∙ small k,
      λ b. true≢false
          (sym b.fits ∙ (sym (fits_so at.In_ok-listing)
          ∙ (c.in_err-take.ensures.bad (no_memory e bad)).1)),
    ))

pub invariant_of-self-2 : goal.invariant_of-self-2
invariant_of-self-2 c =
    let k = goal.at.invariant_of-self-2 c in
    let old = c.self.inside.scan in
    let p = c.args.path.now in
    let u = c.in_ok-listing.listing in
    let flat : IsFlat u = subst IsFlat (sym c.in_ok-listing.ensures.ok)
    (listing_is_flat (contents_in c.args.entries.items) c.in_ok-listing.ensures.marks) in
    let es = contents_in c.args.entries.items in
    let n = c.min-self-inside.result in
    let least = c.min-self-inside.ensures in
    let place = c.index_of-place.ensures in
    record {
      out_open = subst (All (λ q. is_open c.take.new.self q ≡ true)) (sym c.take_back.ensures)
          (out_then old c.take.new.self c.self.inside.out.items p
          (λ q other was. ap (λ f. is_open f q) c.in_ok-take.ensures.ok ∙ open_then old p
          c.args.position u c.tree.ensures.found (opened k.After-directory_of) flat q other was)
          c.self.invariant.out_open);
      none_next = subst (λ ps. NoneNext c.take.new.self ps (entries c.take.new.self.marks) n)
          (sym c.take_back.ensures)
          (subst (λ f. NoneNext f (without c.self.inside.out.items p) (entries f.marks) n)
          (sym (taken k.In_ok-take))
          (passed_then old c.self.inside.out.items p es c.args.position n c.tree.ensures.found
          (opened k.After-directory_of) c.in_ok-listing.ensures.marks
          (omega (arith, place, least))
          (λ i d l. c.self.invariant.none_next i d (omega (arith, l, least)))));
    }

pub returns-clause-belongs : goal.returns-clause-belongs
returns-clause-belongs c =
    let k = (goal.at.returns-clause-belongs c).In_ok-listing in
    record {
      is_out =
          ap (λ (a : Asked). is_out a.out c.args.path.now) (sym c.self.view_is)
          ∙ (ap (λ ps. is_out ps c.args.path.now) (sym c.deref.ensures.value)
          ∙ (sym c.is_among.ensures ∙ c.if-not-is_among.false));
      rising = c.in_ok-listing.ensures.rising;
      fits = sym (fits_so k) ∙ c.in_ok-take.ensures.fits;
    }

pub returns-clause-listed : goal.returns-clause-listed
returns-clause-listed c =
    let k = goal.at.returns-clause-listed c in
    let old = c.self.inside.scan in
    let p = c.args.path.now in
    let es = contents_in c.args.entries.items in
    subst (λ f. WasListedIn f p c.args.position es) (sym (taken k.In_ok-take))
    (listed_so old p es c.tree.ensures.found (opened k.After-directory_of)
    c.in_ok-listing.ensures.marks c.args.position)

pub returns-clause-only : goal.returns-clause-only
returns-clause-only c =
    let k = goal.at.returns-clause-only c in
    let old = c.self.inside.scan in
    let p = c.args.path.now in
    let es = contents_in c.args.entries.items in
    let P : Found → Type 0 = λ f. ListsOnly f p c.args.position es c.take.new.self in
    subst P (same_found k.After-directory_of)
    (subst (ListsOnly old p c.args.position es) (sym (taken k.In_ok-take))
    (lists_only old p es c.tree.ensures.found (opened k.After-directory_of)
    c.in_ok-listing.ensures.marks c.args.position))

pub returns-clause-nodes : goal.returns-clause-nodes
returns-clause-nodes c =
    let k = goal.at.returns-clause-nodes c in
    let old = c.self.inside.scan in
    let p = c.args.path.now in
    let es = contents_in c.args.entries.items in
    ap (λ (f : Found). len f.marks) (taken k.In_ok-take)
    ∙ (new_len old p es c.tree.ensures.found (opened k.After-directory_of)
    c.in_ok-listing.ensures.marks ∙ ap₂ (λ m n. m + n)
    (ap (λ (f : Found). len f.marks) (same_found k.After-directory_of))
    (length_contents c.args.entries.items))
