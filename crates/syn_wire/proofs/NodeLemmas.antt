-- Nothing, and a file alone.
use Rattle.std.proofs.Common.{◌≡◌, ◌≤◌, true, ◌&&◌, nat_le, [], ◌∷◌, length, sym, ap, ◌∙◌}
use Rattle.std.specs.List.{list_all}
use Rattle.std.specs.FinMap.{get-empty}
use Rattle.std.proofs.lemmas.Bool.{and_parts, leb-true}
use Rattle.syn_model.specs.Path.{root, path_cmp}
use Rattle.syn_model.specs.Version.{Version}
use Rattle.syn_model.specs.Contents.{Contents, contents_spelling_in}
use Rattle.syn_model.specs.Tree.{File, absent, at_root}
use Rattle.syn_model.specs.Limits.{children, fits_content, fits_part}
use Rattle.syn_model.specs.Spelling.{spelling_in, content_spelling}
use Rattle.syn_model.proofs.HistoryLemmas.{get-at_root}
use Rattle.syn_model.proofs.SpellingLemmas.{spelling_unfolds}
use Rattle.syn_model.proofs.RowLemmas.{entries-at_root}

pub absent_spelled : (version : Version) → spelling_in version absent ≡ 0 ∷ []
absent_spelled version =
    spelling_unfolds (contents_spelling_in version) absent
    ∙ ap (content_spelling (contents_spelling_in version) (spelling_in version) absent)
    (get-empty path_cmp root)

pub file_spelled : (version : Version) (contents : Contents) →
    spelling_in version (at_root (File contents)) ≡ 1 ∷ contents_spelling_in version contents
file_spelled version contents =
    spelling_unfolds (contents_spelling_in version) (at_root (File contents))
    ∙ ap (content_spelling (contents_spelling_in version) (spelling_in version)
    (at_root (File contents))) (get-at_root (File contents) root)

pub file_brief : (contents : Contents) → fits_part (at_root (File contents)) ≡ true →
    length contents.bytes ≤ 16384
file_brief contents h =
    let bytes = contents.bytes in
    let t = at_root (File contents) in
    let one = ap (list_all (λ pair. fits_content pair.1 && nat_le (length (children t pair.0)) 256))
    (sym (entries-at_root (File contents))) ∙ h in
    leb-true (length bytes) 16384
    (and_parts (nat_le (length bytes) 16384) (nat_le (length (children t root)) 256) (and_parts
    (nat_le (length bytes) 16384 && nat_le (length (children t root)) 256) true one).0).0
