-- The one file of the witness session, and its marks.
use Rattle.std.specs.Prelude.{flat_map, Contains, get_or, option_map}
use Rattle.std.specs.List.{list_all}
use Rattle.std.specs.Ordering.{eq_by_cmp}
use Rattle.std.specs.FinMap.{entries, get, len}
use Rattle.std.specs.Int.{to_be_bytes, w16}
use Rattle.std.specs.Str.{IsAscii}
use Rattle.std.proofs.Common.{◌+◌, ◌≡◌, ◌≢◌, ℕ, suc, zero, ◌<◌, Bool, true, false, true≢false, cond}
use Rattle.std.proofs.Common.{◌&&◌, nat_le, List, [], ◌∷◌, ◌++◌, length, refl, sym, ap, ◌∙◌, subst}
use Rattle.std.proofs.Common.{Some, None, arith}
use Rattle.std.proofs.lemmas.List.Elements.{All-nil, All-cons}
use Rattle.std.proofs.lemmas.Str.{IsUtf8-from_ascii}
use Rattle.sha2.specs.Sha256.{sha256}
use Rattle.sha2.proofs.Facts256.{length-sha256}
use Rattle.syn_model.specs.Path.{Bytes, Path, IsName, IsPath, root, path_cmp}
use Rattle.syn_model.specs.Tree.{subtree, Tree, Pair, Content, IsPart, IsTree, Directory, File}
use Rattle.syn_model.specs.Tree.{empty_directory, replace, is_directory, is_directory_content}
use Rattle.syn_model.specs.Tree.{at_root}
use Rattle.syn_model.specs.Contents.{Contents, AreLawfulContents, contents_of, contents_spelling}
use Rattle.syn_model.specs.Contents.{digest_spelling}
use Rattle.syn_model.specs.Limits.{fits_replica, fits_part, fits_paths, fits_content, fits_path}
use Rattle.syn_model.specs.Event.{AreBytes, Edited, after_edit, put_contents}
use Rattle.syn_model.specs.History.{tree_of, IsAllowed}
use Rattle.syn_model.specs.Mark.{mark, IsMarks, mark_of}
use Rattle.syn_model.specs.Archive.{Recorded}
use Rattle.syn_model.specs.MarkSpelling.{mark_spelling, kept_spelling}
use Rattle.syn_model.specs.Spelling.{spelling, spelling_within, content_spelling}
use Rattle.syn_model.specs.Rows.{a_name}
use Rattle.syn_model.proofs.MarkLemmas.{mark-digests, mark-is_part, get-mark}
use Rattle.syn_model.proofs.PathLemmas.{same_path}
use Rattle.syn_model.proofs.HistoryLemmas.{at_root-is_part, same_file}
use Rattle.syn_model.proofs.ContentsLemmas.{new_are_lawful}
use Rattle.syn_model.proofs.RowLemmas.{entries-at_root}
use Rattle.syn_machine.specs.Machine.{record_size}
use Rattle.syn_witness.specs.Witness.{a_path, one, put_one}
use Rattle.syn_witness.specs.Rows.{file_bytes}
use Rattle.syn_witness.proofs.WitnessTrees.{children_by, replace-entries, mark-entries, get_by}
use Rattle.syn_witness.proofs.WitnessTrees.{children_in, fits_by}

-- Its name

not_in_name : (b : ℕ) → 97 ≢ b → ¬ Contains a_name b
not_in_name b h (zero, k, e) = h e
not_in_name b h (suc n, k, e) = omega arith

name_is_ascii : IsAscii a_name
name_is_ascii zero = omega arith
name_is_ascii (suc i) = omega arith

not_dot : (b : ℕ) → b ≡ 46 → 97 ≢ b
not_dot b is e = omega (arith, is, e)

a_is_name : IsName a_name
a_is_name = record {
  is_text = IsUtf8-from_ascii a_name name_is_ascii;
  not_empty = omega arith;
  not_long = omega arith;
  no_slash = not_in_name 47 (λ e. omega (arith, e));
  no_zero = not_in_name 0 (λ e. omega (arith, e));
  not_here = λ e. not_dot 46 refl (ap (λ name. get_or name 0 0) e);
  not_up = λ e. not_dot 46 refl (ap (λ name. get_or name 0 0) e);
}

pub a_is_path : IsPath a_path
a_is_path = record {
  names = All-cons IsName a_name [] a_is_name (All-nil IsName);
  not_deep = omega arith;
  not_long = omega arith;
}

-- The file, and its mark

abbrev one_bytes : Bytes
one_bytes = 49 ∷ []

abbrev pub one_content : Content
one_content = File (contents_of one_bytes)

abbrev pub one_digest : Content
one_digest = File (contents_of (sha256 one_bytes))

are_bytes : AreBytes one_bytes
are_bytes = All-cons (λ byte. byte < 256) 49 [] (omega arith) (All-nil (λ byte. byte < 256))

pub one_is_part : IsPart one
one_is_part =
    at_root-is_part one_content
    (λ contents e. subst AreLawfulContents (same_file (contents_of one_bytes) contents e)
    (new_are_lawful one_bytes are_bytes))

pub one-entries : entries one ≡ (root, one_content) ∷ []
one-entries = entries-at_root one_content

pub one_mark-entries : entries (mark one) ≡ (root, one_digest) ∷ []
one_mark-entries = mark-entries one ((root, one_content) ∷ []) one-entries

pub are_marks : IsMarks (mark one)
are_marks = record { part = mark-is_part one one_is_part; digests = mark-digests one }

pub one_spelling : spelling one ≡ file_bytes
unfolding spelling_within
one_spelling =
    ap (content_spelling contents_spelling
    (spelling_within contents_spelling (len one)) one)
    (get_by one ((root, one_content) ∷ []) root one-entries)

pub fits_as_part : fits_part one ≡ true
fits_as_part =
    ap (λ es. list_all (λ pair. fits_content pair.1 && nat_le (length (children_in es pair.0)) 256)
    es) one-entries

pub fits_by_paths : fits_paths one ≡ true
fits_by_paths = ap (list_all (λ pair. fits_path pair.0)) one-entries

-- The root alone, and with what stands at `a`

abbrev pub alone : List Pair
alone = (root, Directory) ∷ []

pub alone-entries : entries empty_directory ≡ alone
alone-entries = entries-at_root Directory

abbrev pub with_file : Content → List Pair
with_file content = (root, Directory) ∷ (a_path, content) ∷ []

pub with_one-entries : entries (replace empty_directory a_path one) ≡ with_file one_content
with_one-entries =
    replace-entries empty_directory a_path one alone ((root, one_content) ∷ []) alone-entries
    one-entries

pub with_mark-entries : entries (replace empty_directory a_path (mark one)) ≡ with_file one_digest
with_mark-entries =
    replace-entries empty_directory a_path (mark one) alone ((root, one_digest) ∷ [])
    alone-entries one_mark-entries

pub fits_with_one : fits_replica (replace empty_directory a_path one) ≡ true
fits_with_one =
    fits_by (replace empty_directory a_path one) (with_file one_content) with_one-entries

-- what is put where nothing is makes a new file
pub put_first : after_edit empty_directory put_one ≡ replace empty_directory a_path one
put_first =
    ap (λ before. replace empty_directory a_path (at_root (File (put_contents before one_bytes))))
    (get_by empty_directory alone a_path alone-entries)

pub edit_allowed : IsAllowed [] (Edited 1 put_one)
unfolding tree_of
edit_allowed = record {
  lawful = (omega arith, (a_is_path, are_bytes));
  not_refused =
      rw (
        get_by empty_directory alone root alone-entries,
        get_by empty_directory alone a_path alone-entries,
        fits_with_one,
      ) refl;
}

pub marks_are_tree : (t : Tree) → IsTree t → IsTree (mark t)
marks_are_tree t h = record {
  rooted = get-mark t root ∙ ap (option_map mark_of) h.rooted;
  part = mark-is_part t h.part;
}

-- The root is the one directory

root_or_file : (b c : Bool) (contents : Contents) →
    is_directory_content (cond b (Some Directory) (cond c (Some (File contents)) None)) ≡ true →
    b ≡ true
root_or_file true c contents h = refl
root_or_file false true contents h = absurd (true≢false (sym h))
root_or_file false false contents h = absurd (true≢false (sym h))

root_or_none : (b : Bool) → is_directory_content (cond b (Some Directory) None) ≡ true → b ≡ true
root_or_none true h = refl
root_or_none false h = absurd (true≢false (sym h))

pub root_only : (t : Tree) → entries t ≡ with_file one_digest → (path : Path) →
    is_directory t path ≡ true → path ≡ root
root_only t e path h =
    same_path path root (root_or_file (eq_by_cmp path_cmp path root)
    (eq_by_cmp path_cmp path a_path) (contents_of (sha256 one_bytes))
    (ap is_directory_content (sym (get_by t (with_file one_digest) path e)) ∙ h))

pub root_alone : (t : Tree) → entries t ≡ alone → (path : Path) → is_directory t path ≡ true →
    path ≡ root
root_alone t e path h =
    same_path path root (root_or_none (eq_by_cmp path_cmp path root)
    (ap is_directory_content (sym (get_by t alone path e)) ∙ h))

-- The record of the mark has 44 bytes

pub mark_size : record_size (kept_spelling (Recorded a_path (mark one))) ≡ 44
unfolding spelling_within
mark_size =
    let marks = mark one in
    let at : get marks root ≡ Some one_digest =
    get_by marks ((root, one_digest) ∷ []) root one_mark-entries in
    ap (λ content. record_size
    (2 ∷ 1 ∷ 1 ∷ 97 ∷ content_spelling digest_spelling
    (spelling_within digest_spelling (len marks)) marks content)) at
    ∙ ap (λ n. 5 + suc (suc (suc (suc (suc (suc (suc n))))))) (length-sha256 one_bytes)

-- an archive of no marks
pub no_marks : mark_spelling empty_directory ≡ 2 ∷ 0 ∷ 0 ∷ []
unfolding spelling_within
no_marks =
    let spell = spelling_within digest_spelling (len empty_directory) in
    ap (content_spelling digest_spelling spell empty_directory)
    (get_by empty_directory alone root alone-entries)
    ∙ ap (λ found. 2 ∷ to_be_bytes w16 (length found) ++ flat_map
    (λ entry. length entry.0 ∷ entry.0 ++ spell (subtree empty_directory (entry.0 ∷ []))) found)
    (children_by empty_directory alone alone-entries)
