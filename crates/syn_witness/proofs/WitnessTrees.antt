-- The trees of the witness runs, by their entries.
use Rattle.std.specs.Prelude.{sum_by, option_map, option_and_then}
use Rattle.std.specs.List.{list_all}
use Rattle.std.specs.FinMap.{entries, from_entries, get, get-entries, find, put, entries-insert}
use Rattle.std.specs.FinMap.{len-entries, len-empty}
use Rattle.std.proofs.Common.{◌≡◌, ℕ, ◌+◌, Bool, not, ◌&&◌, nat_le, List, [], ◌∷◌, ◌++◌, map}
use Rattle.std.proofs.Common.{filter, filter_map, length, refl, sym, ap, ap₂, ◌∙◌, arith}
use Rattle.syn_model.specs.Path.{Path, Name, root, path_cmp, strip_prefix, is_prefix}
use Rattle.syn_model.specs.Tree.{Tree, Pair, Content, absent, replace, subtree, taken_off}
use Rattle.syn_model.specs.Tree.{is_directory, is_directory_content}
use Rattle.syn_model.specs.Limits.{children, only_name, fits_content, fits_path, fits_replica}
use Rattle.syn_model.specs.Limits.{fits_archive, last_name_spelling_length, content_spelling_length}
use Rattle.syn_model.specs.Mark.{mark, mark_of}
use Rattle.syn_model.specs.Dirty.{is_same_tree, are_same_pairs}
use Rattle.syn_model.proofs.PathLemmas.{path_total}
use Rattle.syn_model.proofs.SubtreeLemmas.{subtree_entries}

no_length : (es : List Pair) → length es ≡ 0 → es ≡ []
no_length [] e = refl
no_length (x ∷ es) e = absurd (omega arith)

pub absent-entries : entries absent ≡ []
absent-entries = no_length (entries absent) (sym (len-entries absent) ∙ len-empty path_cmp Content)

-- the entries of a list of pairs
abbrev pub settled : List Pair → List Pair
settled [] = []
settled (e ∷ es) = put path_cmp e.0 e.1 (settled es)

made-entries : (es : List Pair) → entries (from_entries {R = path_cmp} es) ≡ settled es
made-entries [] = absent-entries
made-entries (e ∷ es) =
    entries-insert path_total (from_entries es) e.0 e.1
    ∙ ap (put path_cmp e.0 e.1) (made-entries es)

abbrev pub put_in : Path → List Pair → List Pair → List Pair
put_in path old new =
    settled (filter (λ pair. not (is_prefix path pair.0)) old
    ++ map (λ pair. (path ++ pair.0, pair.1)) new)

pub replace-entries : (t : Tree) (p : Path) (u : Tree) (ts us : List Pair) → entries t ≡ ts →
    entries u ≡ us → entries (replace t p u) ≡ put_in p ts us
unfolding replace
replace-entries t p u ts us e f = made-entries _ ∙ ap₂ (put_in p) e f

pub mark-entries : (t : Tree) (ts : List Pair) → entries t ≡ ts →
    entries (mark t) ≡ settled (map (λ pair. (pair.0, mark_of pair.1)) ts)
unfolding mark
mark-entries t ts e =
    made-entries _ ∙ ap (λ es. settled (map (λ pair. (pair.0, mark_of pair.1)) es)) e

pub get_by : (t : Tree) (ts : List Pair) (q : Path) → entries t ≡ ts → get t q ≡ find path_cmp q ts
get_by t ts q e = get-entries t q ∙ ap (find path_cmp q) e

-- the limits, by the entries
abbrev pub children_in : List Pair → Path → List (Name × Content)
children_in ts path =
    filter_map (λ pair. option_map (λ name. (name, pair.1))
    (option_and_then only_name (strip_prefix path pair.0))) ts

abbrev pub fits_in : ℕ → List Pair → Bool
fits_in count ts =
    nat_le count 1024 && nat_le
    (sum_by (λ pair. last_name_spelling_length pair.0 + content_spelling_length pair.1) ts) 526336
    && list_all (λ pair. fits_content pair.1 && nat_le (length (children_in ts pair.0)) 256) ts
    && list_all (λ pair. fits_path pair.0) ts

pub fits_by : (t : Tree) (ts : List Pair) → entries t ≡ ts → fits_replica t ≡ fits_in (length ts) ts
fits_by t ts e = ap₂ fits_in (len-entries t ∙ ap length e) e

pub fits_archive_by : (t : Tree) (ts : List Pair) → entries t ≡ ts →
    fits_archive t ≡ (nat_le (length ts) 4096 && list_all (λ pair. fits_path pair.0) ts)
fits_archive_by t ts e =
    ap₂ (λ n es. nat_le n 4096 && list_all (λ pair. fits_path pair.0) es)
    (len-entries t ∙ ap length e) e

pub same_by : (t u : Tree) (ts us : List Pair) → entries t ≡ ts → entries u ≡ us →
    is_same_tree t u ≡ are_same_pairs ts us
unfolding is_same_tree
same_by t u ts us e f = ap₂ are_same_pairs e f

pub part-entries : (t : Tree) (ts : List Pair) (path : Path) → entries t ≡ ts →
    entries (subtree t path) ≡ filter_map (taken_off path) ts
part-entries t ts path e = subtree_entries t path ∙ ap (filter_map (taken_off path)) e

pub directory_by : (t : Tree) (ts : List Pair) (path : Path) → entries t ≡ ts →
    is_directory t path ≡ is_directory_content (find path_cmp path ts)
directory_by t ts path e = ap is_directory_content (get_by t ts path e)

pub children_by : (t : Tree) (ts : List Pair) → entries t ≡ ts →
    children t root ≡ children_in ts root
children_by t ts e = ap (λ es. children_in es root) e
