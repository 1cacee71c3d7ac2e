-- Marks as the model has them: contents whose files hold digests.
use Rattle.std.specs.Prelude.{◌≡◌, true, List, map, Option, Some, None}
use Rattle.std.specs.List.{AllByRecursion}
use Rattle.std.specs.FinMap.{from_sorted}
use Rattle.syn_model.specs.Path.{Name, root, path_cmp, IsPath}
use Rattle.syn_model.specs.Contents.{contents_with, IsDigest}
use Rattle.syn_model.specs.Tree.{Tree, Pair, Directory, File, absent, is_present}
use Rattle.syn_model.specs.Tree as model
use Rattle.syn_model.specs.Mark.{IsMarks}
use Rattle.syn_model.specs.Limits.{fits_archive}
use Rattle.syn_placed.specs.Pairs.{Pairs, AreRising}
use Rattle.syn_tree.specs.Modes.{mode_of}
use Rattle.syn_mark.specs.declared.mark.Mark.{Mark}
use Rattle.syn_mark.specs.declared.mark.Mark.TheVariants as mark

abbrev pub content_of : Mark → model.Content
content_of (mark.File mode digest) = File (contents_with (mode_of mode) digest)
content_of mark.Dir = Directory

-- names with marks, as the model has them
abbrev pub contents_in : List (Name × Mark) → List (Name × model.Content)
contents_in listed = map (λ entry. (entry.0, content_of entry.1)) listed

-- nothing where there are no marks
abbrev pub or_absent : Option Tree → Tree
or_absent None = absent
or_absent (Some marks) = marks

-- a directory, or a file with a mode and a digest of 32 bytes
abbrev pub IsDigestOrDirectory : model.Content → Type 0
IsDigestOrDirectory Directory = Unit {0}
IsDigestOrDirectory (File digest) = IsDigest digest

-- a lawful path with a mark
abbrev pub IsMarkPair : Pair → Type 0
IsMarkPair pair = IsPath pair.0 × IsDigestOrDirectory pair.1

abbrev pub AreMarkPairs : Pairs → Type 0
AreMarkPairs pairs = AllByRecursion IsMarkPair pairs

abbrev pub marks_with : Pairs → Tree
marks_with pairs = from_sorted {R = path_cmp} pairs

-- in path order they are the marks of a file or of a directory with all below it, within the limits
pub record AreMarks (pairs : Pairs) : Type 0 where
  pub rising : AreRising pairs
  pub present : is_present (marks_with pairs) root ≡ true
  pub marks : IsMarks (marks_with pairs)
  pub fits : fits_archive (marks_with pairs) ≡ true
