use Rattle.std.proofs.Common.{◌≡◌, ◌∙◌, ◌<◌, ◌++◌, ◌∷◌, [], ap, ap₂, refl, sym, subst}
use Rattle.std.specs.FinMap.{entries, from_sorted}
use Rattle.syn_model.specs.Path.{path_cmp, root}
use Rattle.syn_model.specs.Tree.{Directory}
use Rattle.syn_placed.proofs.TreeLemmas.{from_entries-same}
use Rattle.syn_mark.specs.Marks.{AreMarks}
use Rattle.syn_mark.proofs.MarkLemmas.{are_marks}
use Rattle.syn_scan.specs.Asked.{named, contents_in, listing_pairs}
use Rattle.syn_scan.proofs.ListingLemmas.{length_contents}
use Rattle.syn_scan.proofs.NamesLemmas.{rise_of, do_not_rise}
use Rattle.syn_scan.proofs.scanner.directory_of.Goals as goal
use Rattle.syn_scan.proofs.scanner.directory_of.Goals.{After-as_slice}

all_pairs : (c : After-as_slice) →
    listing_pairs (contents_in c.args.entries.items) ≡ entries c.in-Some.marks
all_pairs c =
    let first : c.push.new.self.items ≡ (root, Directory) ∷ [] = c.in_ok-push.ensures.items
    ∙ ap₂ (λ xs x. xs ++ x ∷ []) c.new-list.ensures.items
    (c.new.ensures ∙ ap (λ p. (p, Directory)) c.root.ensures) in
    sym (c.in_ok-push_entries.ensures.ok
    ∙ ap (λ xs. xs ++ named (contents_in c.args.entries.items)) first) ∙ c.in-Some.ensures.some

pub returns-in-Some-clause-ok : goal.returns-in-Some-clause-ok
returns-in-Some-clause-ok c =
    sym (ap (λ es. from_sorted {R = path_cmp} es) (all_pairs c) ∙ from_entries-same c.in-Some.marks)

pub returns-in-Some-clause-marks : goal.returns-in-Some-clause-marks
returns-in-Some-clause-marks c =
    are_marks c.in-Some.marks (listing_pairs (contents_in c.args.entries.items))
    (all_pairs c) c.as_slice.ensures.present c.as_slice.ensures.marks c.as_slice.ensures.fits

pub returns-in-Some-clause-rising : goal.returns-in-Some-clause-rising
returns-in-Some-clause-rising c =
    rise_of (contents_in c.args.entries.items)
    (are_marks c.in-Some.marks (listing_pairs (contents_in c.args.entries.items))
    (all_pairs c) c.as_slice.ensures.present c.as_slice.ensures.marks c.as_slice.ensures.fits)

pub returns-in-None-clause-bad : goal.returns-in-None-clause-bad
returns-in-None-clause-bad c _ =
    let es = contents_in c.args.entries.items in
    let first : c.push.new.self.items ≡ (root, Directory) ∷ [] = c.in_ok-push.ensures.items
    ∙ ap₂ (λ xs x. xs ++ x ∷ []) c.new-list.ensures.items
    (c.new.ensures ∙ ap (λ p. (p, Directory)) c.root.ensures) in
    let all : c.push_entries.new.list.items ≡ listing_pairs es = c.in_ok-push_entries.ensures.ok
    ∙ ap (λ xs. xs ++ named es) first in (
      refl,
      λ count. do_not_rise es c.in_ok-push_entries.ensures.lawful
          (subst (λ ds. ¬ AreMarks ds) all c.in-None.ensures.none)
          (subst (λ n. n < 4096) (sym (length_contents c.args.entries.items)) count),
    )
