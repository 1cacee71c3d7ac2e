-- What is added at a place, as pairs.
use Rattle.std.proofs.Common.{◌≡◌, ◌+◌, ℕ, Bool, true, false, true≢false, [], ◌∷◌, ◌++◌, refl, sym}
use Rattle.std.proofs.Common.{ap, ◌∙◌, subst, Option, Some, None, is_some, append-nil, arith}
use Rattle.std.specs.FinMap.{entries, get, get-empty}
use Rattle.std.proofs.lemmas.List.Sums.{sum_by-cons}
use Rattle.std.proofs.lemmas.Option.{none-some}
use Rattle.syn_model.specs.Path.{Path, path_cmp, IsPath}
use Rattle.syn_model.specs.Contents.{Contents, AreLawfulContents}
use Rattle.syn_model.specs.Tree.{Tree, Content, Directory, File, IsPart, at_root, absent}
use Rattle.syn_model.proofs.HistoryLemmas.{at_root-is_part, same_file}
use Rattle.syn_tree.specs.Contents.{IsLawful}
use Rattle.syn_placed.specs.Pairs.{Pairs, under, spelling_length, pair_spelling_length}
use Rattle.syn_tree.specs.Change.{taken_from, ArePlaced}
use Rattle.syn_placed.proofs.TreeLemmas.{part-under, entries-absent}
use Rattle.syn_model.proofs.RowLemmas.{entries-at_root}

-- the pairs of a part, each with the path before its own
pub taken_same : (at : Path) (u : Tree) (pairs : Pairs) → pairs ≡ under at (entries u) →
    taken_from at pairs ≡ u
taken_same at u pairs e = ap (taken_from at) e ∙ part-under at u

pub placed_part : (at : Path) (u : Tree) (pairs : Pairs) (size : ℕ) → pairs ≡ under at (entries u) →
    IsPath at → IsPart u → size ≡ spelling_length pairs → ArePlaced at pairs size
placed_part at u pairs size e path part sizes = record {
  path = path;
  part = subst IsPart (sym (taken_same at u pairs e)) part;
  placed = e ∙ ap (λ w. under at (entries w)) (sym (taken_same at u pairs e));
  spelled = sizes;
}

-- one content, and nothing
pub under_one : (at : Path) (content : Content) (pairs : Pairs) → pairs ≡ (at, content) ∷ [] →
    pairs ≡ under at (entries (at_root content))
under_one at content pairs e =
    e ∙ (ap (λ p. (p, content) ∷ []) (sym (append-nil at))
    ∙ ap (under at) (sym (entries-at_root content)))

pub under_none : (at : Path) (pairs : Pairs) → pairs ≡ [] → pairs ≡ under at (entries absent)
under_none at pairs e = e ∙ ap (under at) (sym entries-absent)

content_or : Option Content → Content
content_or None = Directory
content_or (Some c) = c

is_some_some : (o : Option Content) → is_some o ≡ true → o ≡ Some (content_or o)
unfolding content_or
is_some_some None h = absurd (true≢false (sym h))
is_some_some (Some c) h = refl

pub nothing_part : IsPart absent
nothing_part = record {
  parents =
      λ p n r h. absurd (none-some _
      (sym (get-empty path_cmp (p ++ n ∷ r)) ∙ is_some_some (get absent (p ++ n ∷ r)) h));
  names = λ p h. absurd (none-some _ (sym (get-empty path_cmp p) ∙ is_some_some (get absent p) h));
  lawful = λ p contents h. absurd (none-some _ (sym (get-empty path_cmp p) ∙ h));
}

abbrev is_dir : Content → Bool
is_dir Directory = true
is_dir (File c) = false

pub lawful_part : (content : Content) → IsLawful content → IsPart (at_root content)
lawful_part Directory h = at_root-is_part Directory (λ contents e. absurd (no_file contents e))
  where
    no_file : (contents : Contents) → ◌≡◌ {A = Content} Directory (File contents) → ⊥
    no_file contents e = true≢false (ap is_dir e)
lawful_part (File c) h =
    at_root-is_part (File c) (λ contents e. subst AreLawfulContents (same_file c contents e) h)

pub size_one : (at : Path) (content : Content) (pairs : Pairs) → pairs ≡ (at, content) ∷ [] →
    pair_spelling_length (at, content) ≡ spelling_length pairs
size_one at content pairs e =
    sym (ap spelling_length e ∙ (sum_by-cons pair_spelling_length (at, content) []
    ∙ plus_zero (pair_spelling_length (at, content))))
  where
    plus_zero : (n : ℕ) → n + 0 ≡ n
    plus_zero n = omega arith
