-- The spelling of what a replica has somewhere tells it.
use Rattle.std.proofs.Common.{◌≡◌, ◌&&◌, nat_le, true, [], ◌++◌, ap, sym, ◌∙◌, subst}
use Rattle.std.specs.FinMap.{len}
use Rattle.std.proofs.lemmas.Bool.{and_parts}
use Rattle.syn_model.specs.Version.{current_version}
use Rattle.syn_model.specs.Tree.{Tree, IsPart}
use Rattle.syn_model.specs.Limits.{fits_part, fits_paths, tree_spelling_length, greatest_spelling}
use Rattle.syn_model.specs.Spelling.{spelling}
use Rattle.syn_runs.proofs.Invariant.{IsOfReplica}
use Rattle.syn_model.proofs.SubtreeLemmas.{subtree-fits, subtree-is_part}
use Rattle.syn_model.proofs.ToldSpellings.{spelling_tells}

pub spellings_tell : (t u : Tree) → IsPart t → fits_part t ≡ true → IsOfReplica u →
    spelling t ≡ spelling u → t ≡ u
spellings_tell t u ht ft of e =
    let limits = and_parts (nat_le (len of.whole) 1024 && nat_le (tree_spelling_length of.whole)
    greatest_spelling && fits_part of.whole) (fits_paths of.whole) of.fits in
    let fits = (and_parts (nat_le (len of.whole) 1024 && nat_le
    (tree_spelling_length of.whole) greatest_spelling) (fits_part of.whole) limits.0).1 in
    let part = subst IsPart (sym of.part_is) (subtree-is_part of.whole of.path of.tree.part) in
    (spelling_tells current_version t u [] [] ht part ft
    (ap fits_part of.part_is ∙ subtree-fits of.whole of.path fits) (ap (λ b. b ++ []) e)).0
