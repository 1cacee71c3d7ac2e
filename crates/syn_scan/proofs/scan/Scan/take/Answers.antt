use Rattle.std.proofs.Common.{[], ◌≡◌, ◌≢◌, ap, ap₂, ◌∙◌, refl, subst, sym, length, ◌==◌}
use Rattle.std.proofs.lemmas.Result.{err_from_is_err_and}
use Rattle.std.specs.FinMap.{insert}
use Rattle.syn_model.specs.Tree.{replace}
use Rattle.syn_model.specs.Limits.{fits_archive}
use Rattle.syn_model.specs.Mark.{IsMarks}
use Rattle.syn_tree.specs.declared.error.TreeError.{TreeError}
use Rattle.syn_tree.specs.declared.error.TreeError.TheVariants as tree
use Rattle.syn_scan.specs.declared.error.ScanError.TheVariants.{Memory, BadMessage}
use Rattle.syn_scan.specs.Refusals.{of_tree}
use Rattle.syn_scan.specs.Found.{Found, IsFound, is_open}
use Rattle.syn_scan.specs.inner.Kept.{with_tree}
use Rattle.syn_scan.proofs.FoundLemmas.{empty_path, found_of, listing_is_found, taken_is}
use Rattle.syn_scan.proofs.FoundLemmas.{replace-root, refused_for_limits}
use Rattle.syn_scan.proofs.scan.Scan.take.Goals as goal
use Rattle.syn_scan.proofs.scan.Scan.take.Goals.{In_ok-insert}
use Rattle.syn_model.proofs.PathLemmas.{not_root}

-- the listing of the root takes the place of all that was
at_root : (c : In_ok-insert) → c.args.path.now ≡ []
at_root c =
    empty_path c.args.path.now (sym (ap (λ q. length q == 0) c.names.ensures.names)
    ∙ (sym c.is_empty.ensures ∙ c.if-is_empty.true))

all_marks : (c : In_ok-insert) →
    c.args.listing ≡ replace c.self.inside.marks c.args.path.now c.args.listing
all_marks c =
    sym (ap (λ q. replace c.self.inside.marks q c.args.listing) (at_root c)
    ∙ replace-root c.self.inside.marks c.args.listing)

taken : (c : In_ok-insert) → ◌≡◌ {A = Found} (record {
  marks = c.args.listing;
  listed = c.insert.new.self;
  not_dirs = c.self.inside.not_dirs;
}) (with_tree (found_of c.self.inside) c.args.path.now c.args.position c.args.listing)
taken c =
    taken_is (found_of c.self.inside) c.args.path.now c.args.position c.args.listing
    c.args.listing c.insert.new.self c.self.inside.not_dirs (all_marks c)
    (c.in_ok-insert.ensures.ok
    ∙ ap (λ q. insert c.self.inside.listed q c.args.position) c.in_ok-copy.ensures) refl

pub invariant_of-self-then-is_empty : goal.invariant_of-self-then-is_empty
invariant_of-self-then-is_empty c =
    let k = (goal.at.invariant_of-self-then-is_empty c).In_ok-insert in
    let p = c.args.path.now in
    subst IsFound (sym (taken k)) (listing_is_found (found_of c.self.inside) p c.args.position
    c.args.listing c.self.invariant (ap (λ f. is_open f p) c.self.view_is ∙ c.requires.open)
    c.requires.flat (subst IsMarks (all_marks k) c.is_marks.ensures.marks)
    (ap fits_archive (sym (all_marks k)) ∙ c.is_marks.ensures.fits))

pub returns-then-is_empty-clause-ok : goal.returns-then-is_empty-clause-ok
returns-then-is_empty-clause-ok c =
    taken (goal.at.returns-then-is_empty-clause-ok c).In_ok-insert
    ∙ ap (λ f. with_tree f c.args.path.now c.args.position c.args.listing) c.self.view_is

pub returns-then-is_empty-clause-fits : goal.returns-then-is_empty-clause-fits
returns-then-is_empty-clause-fits c =
    let root = at_root (goal.at.returns-then-is_empty-clause-fits c).In_ok-insert in
    ap fits_archive (ap (λ q. replace c.args.self.now.marks q c.args.listing) root
    ∙ replace-root c.args.self.now.marks c.args.listing) ∙ c.is_marks.ensures.fits

-- what is refused for another cause than memory does not belong
refused : (e : TreeError) {P : Type 0} → (e ≢ tree.Memory → P) → of_tree e ≢ Memory →
    (of_tree e ≡ BadMessage) × P
refused tree.NoParent h k = (refl, h (λ bad. let x : tree.NoParent ≡ tree.Memory = bad in cc))
refused tree.IsDirectory h k = (refl, h (λ bad. let x : tree.IsDirectory ≡ tree.Memory = bad in cc))
refused tree.Exists h k = (refl, h (λ bad. let x : tree.Exists ≡ tree.Memory = bad in cc))
refused tree.Absent h k = (refl, h (λ bad. let x : tree.Absent ≡ tree.Memory = bad in cc))
refused tree.Root h k = (refl, h (λ bad. let x : tree.Root ≡ tree.Memory = bad in cc))
refused tree.Full h k = (refl, h (λ bad. let x : tree.Full ≡ tree.Memory = bad in cc))
refused tree.Memory h k = absurd (k refl)

pub returns-in_err-change-clause-bad : goal.returns-in_err-change-clause-bad
returns-in_err-change-clause-bad c =
    let p = err_from_is_err_and c.from_residual-in_err-change.result
    c.from_residual-in_err-change.ensures.1 in
    let old = found_of c.self.inside in
    let path = c.args.path.now in
    let below = not_root path (sym (ap (λ q. length q == 0) c.names.ensures.names)
    ∙ (sym c.is_empty.ensures ∙ c.if-is_empty.false)) in
    rw (p.1, p.2) (refused c.in_err-change.field-0.0 (λ other.
    sym (ap (λ (f : Found). fits_archive (replace f.marks path c.args.listing)) c.self.view_is)
    ∙ refused_for_limits old path c.args.listing _ c.self.invariant (ap (λ f. is_open f path)
    c.self.view_is ∙ c.requires.open) below (c.in_err-change.ensures.refused other)))

pub invariant_of-self-2 : goal.invariant_of-self-2
invariant_of-self-2 c =
    let old = found_of c.self.inside in
    let p = c.args.path.now in
    let u = c.args.listing in
    let marks : c.make.new.self ≡ replace old.marks p u = c.make.ensures
    ∙ ap₂ (replace old.marks) c.in_ok-change.ensures.at c.in_ok-change.ensures.new in
    let listed = c.in_ok-insert-2.ensures.ok
    ∙ ap (λ q. insert old.listed q c.args.position) c.in_ok-copy-2.ensures in
    let same = taken_is old p c.args.position u c.make.new.self c.insert-2.new.self old.not_dirs
    marks listed refl in
    subst IsFound (sym same) (listing_is_found old p c.args.position u c.self.invariant
    (ap (λ f. is_open f p) c.self.view_is ∙ c.requires.open) c.requires.flat (subst IsMarks marks
    c.is_marks-2.ensures.marks) (ap fits_archive (sym marks) ∙ c.is_marks-2.ensures.fits))
