-- What is read of trees of marks.
use Rattle.std.proofs.Common.{◌≡◌, ◌≢◌, ◌<◌, ℕ, true, [], ◌∷◌, ◌++◌, length, refl, sym, ap, ap₂}
use Rattle.std.proofs.Common.{◌∙◌, subst, Option, Some, None, is_some, arith}
use Rattle.std.specs.FinMap.{entries, entries_sorted, from_sorted, get, get-empty}
use Rattle.std.specs.FinMap.{get-entries, len-entries}
use Rattle.std.proofs.lemmas.Option.{none-some}
use Rattle.syn_model.specs.Path.{Bytes, Path, path_cmp, root}
use Rattle.syn_model.specs.Tree.{Tree, Content, Directory, File, absent, is_present}
use Rattle.syn_model.specs.Limits.{fits_archive}
use Rattle.syn_model.specs.Mark.{IsMarks, IsMarksIn}
use Rattle.syn_model.specs.MarkSpelling.{NoMarkSpellingBeginsAnother, mark_spelling_in}
use Rattle.syn_mark.specs.Marks.{AreMarks, marks_with}
use Rattle.syn_placed.specs.Pairs.{Pairs, AreRising, under}
use Rattle.syn_placed.proofs.TreeLemmas.{entries-absent, from_entries-same}
use Rattle.syn_model.proofs.VersionLemmas.{marks_now}
use Rattle.syn_model.specs.Version.{Version}
use Rattle.syn_tree.proofs.LawfulLemmas.{each-find}
use Rattle.syn_model.specs.Contents.{digest_spelling_in}
use Rattle.syn_wire.specs.Marks.{IsMarkTree, IsMarkTreeIn, IsOptionalMarkTreeIn, NoMarksBeginOthers}
use Rattle.syn_wire.specs.Reads.{BeginsWith, NothingStands}
use Rattle.syn_wire.specs.inner.Kinds.{IsContentOf, OfMarks}
use Rattle.syn_wire.specs.inner.Parts.{AreContentsOf, PartIsRead, ReadsPart, StandsAt}
use Rattle.syn_wire.proofs.MadeLemmas.{absent_lawful, paths_stand, under_root}
use Rattle.syn_wire.proofs.MarkLemmas.{few_nodes, few_paths, mark_unfolds}
use Rattle.syn_wire.proofs.NameLemmas.{first_or}
use Rattle.syn_model.specs.Spelling.{content_spelling}
use Rattle.syn_model.proofs.BaseLemmas.{is_true}

marks_at_root : (version : Version) (t : Tree) → IsMarkTreeIn version t → StandsAt (OfMarks version)
    root t
marks_at_root version t h = record {
  part = (h.optional.marks, few_nodes t h.optional.fits);
  present = h.present;
  paths = paths_stand t h.optional.marks.part (few_paths t h.optional.fits);
}

-- marks whose digests were read in a version are marks of it
marks_in : (version : Version) (t : Tree) → IsMarks t →
    AreContentsOf (OfMarks version) (entries t) →
    IsMarksIn version t
marks_in version t marks files = record {
  part = record {
    parents = marks.part.parents;
    names = marks.part.names;
    lawful = λ p c found. (each-find (λ q content. IsContentOf (OfMarks version) content) p (File c)
        (entries t) files (sym (get-entries t p) ∙ found)).0;
  };
  digests = marks.digests;
}

module _ (version : Version) (bytes : Bytes) (at : Path) (old list : Pairs) (is_root : at ≡ root)
    (empty : old ≡ []) where
  -- what begins the bytes is what was read
  the_marks : (left : Option Bytes) →
      ReadsPart (OfMarks version) at bytes old list left → (t : Tree) (rest : Bytes) →
      BeginsWith (IsMarkTreeIn version) (mark_spelling_in version) bytes t rest →
      (left ≡ Some rest) × (list ≡ entries t)
  the_marks left read t rest begins =
      let both = subst (λ p. ReadsPart (OfMarks version) p bytes old list left) is_root read t rest
      (marks_at_root version t begins.lawful) begins.spelled in
      (both.0, both.1 ∙ (ap (λ es. es ++ under root (entries t)) empty ∙ under_root (entries t)))

  pub no_part_read : ReadsPart (OfMarks version) at bytes old list None →
      NothingStands (IsMarkTreeIn version) (mark_spelling_in version) bytes
  no_part_read none t rest begins = none-some _ (the_marks None none t rest begins).0

  -- so that no other list is that of marks
  pub not_marks : (left : Bytes) → ReadsPart (OfMarks version) at bytes old list (Some left) →
      ¬ AreMarks list → NothingStands (IsMarkTreeIn version) (mark_spelling_in version) bytes
  not_marks left read none t rest begins =
      let same : t ≡ marks_with (entries t) = sym (from_entries-same t) in
      none (subst AreMarks (sym (the_marks (Some left) read t rest begins).1) (record {
        rising = is_true _ (entries_sorted t);
        present = subst (λ u. is_present u root ≡ true) same begins.lawful.present;
        marks = subst IsMarks same (marks_now version t begins.lawful.optional.marks);
        fits = subst (λ u. fits_archive u ≡ true) same begins.lawful.optional.fits;
      }))

  -- what was read is the tree that it makes
  pub marks_made : (left : Bytes) (t : Tree) → PartIsRead (OfMarks version) at bytes old list
      left → list ≡ entries t → IsMarkTree t →
      BeginsWith (IsMarkTreeIn version) (mark_spelling_in version) bytes t left
  marks_made left t read all h =
      let pairs : list ≡ read.0 = read.1
      ∙ (ap₂ (λ es p. es ++ under p read.0) empty is_root ∙ under_root read.0) in
      let whole : read.0 ≡ entries t = sym pairs ∙ all in
      let rising : AreRising read.0 =
      subst AreRising (sym whole) (is_true _ (entries_sorted t)) in
      let same : from_sorted read.0 ≡ t = ap (λ es. from_sorted {R = path_cmp} es) whole
      ∙ from_entries-same t in
      record {
        lawful = record {
          optional = record {
            marks = marks_in version t h.optional.marks
                (subst (AreContentsOf (OfMarks version)) whole read.2.files);
            fits = h.optional.fits;
          };
          present = h.present;
        };
        spelled = read.2.spelled rising
            ∙ ap (λ u. mark_spelling_in version u ++ left) same;
      }

-- something stands at the root of what no zero spells
pub no_marks_there : (version : Version) (bytes : Bytes) → ((rest : Bytes) → bytes ≢ 0 ∷ rest) →
    NothingStands (IsMarkTreeIn version) (mark_spelling_in version) bytes →
    NothingStands (IsOptionalMarkTreeIn version) (mark_spelling_in version) bytes
no_marks_there version bytes other none t rest begins = by_content (get t root) refl
  where
    by_content : (o : Option Content) → get t root ≡ o → ⊥
    by_content None e =
        other rest (begins.spelled ∙ ap (λ b. b ++ rest) (mark_unfolds version t
        ∙ ap (content_spelling (digest_spelling_in version) (mark_spelling_in version) t) e))
    by_content (Some c) e =
        none t rest (record {
          lawful = record { optional = begins.lawful; present = ap is_some e };
          spelled = begins.spelled;
        })

-- nothing is marks
nothing_fits : fits_archive absent ≡ true
nothing_fits = rw (len-entries, entries-absent)

pub nothing_lawful : {version : Version} → IsOptionalMarkTreeIn version absent
nothing_lawful = record {
  marks =
      record {
        part = absent_lawful.part;
        digests = λ path contents e. absurd (none-some _ (sym (get-empty path_cmp path) ∙ e));
      };
  fits = nothing_fits;
}

pub marks_tell : NoMarkSpellingBeginsAnother → NoMarksBeginOthers
marks_tell tells version t u r s ht hu e =
    tells version t u r s ht.marks hu.marks (few_nodes t ht.fits) (few_nodes u hu.fits) e
