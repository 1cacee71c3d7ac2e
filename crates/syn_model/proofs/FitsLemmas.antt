-- Histories leave trees within the limits.
use Rattle.std.proofs.Common.{◌≡◌, ◌≤◌, Bool, true, false, cond, not, ◌&&◌, nat_le, List, [], ◌∷◌}
use Rattle.std.proofs.Common.{◌++◌, length, refl, sym, ap, ap₂, ◌∙◌, Some, None, append_assoc}
use Rattle.std.proofs.Common.{append-nil}
use Rattle.std.specs.Ordering.{eq_by_cmp}
use Rattle.std.specs.List.{list_all}
use Rattle.std.specs.FinMap.{find, entries, get, get-entries, len}
use Rattle.std.proofs.lemmas.Bool.{leb-true, and_parts, not-false}
use Rattle.syn_model.specs.Path.{Path, path_cmp, path_spelling, root}
use Rattle.syn_model.specs.Contents.{Contents}
use Rattle.syn_model.specs.Tree.{Tree, Content, Pair, File, replace, at_root}
use Rattle.syn_model.specs.Limits.{children, fits_path, fits_content, fits_part, fits_paths}
use Rattle.syn_model.specs.Limits.{fits_replica, tree_spelling_length, greatest_spelling}
use Rattle.syn_model.specs.Refusal.{Cause, first_cause, OldSession}
use Rattle.syn_model.specs.Event.{Event, Edited, Began, Replaced, after_edit, after_event}
use Rattle.syn_model.specs.Event.{put_contents}
use Rattle.syn_model.specs.History.{History, tree_of, position_causes, is_old_token, IsAllowed}
use Rattle.syn_model.specs.History.{AllAllowed}
use Rattle.syn_model.specs.Standing.{place_causes, edit_causes, full_causes}
use Rattle.syn_model.specs.Plan.{HasDepth, most_names}
use Rattle.syn_model.specs.Laws.{HistoryFits, PutFits}
use native.Mathlib.Omega.{arith}
use Rattle.std.proofs.lemmas.Option.{none-some, same_Some}
use Rattle.syn_model.proofs.PathLemmas.{same_path}
use Rattle.syn_model.proofs.TreeLemmas.{get-subtree, subtree-replace}
use Rattle.syn_model.proofs.ImageLemmas.{empty_fits}
use Rattle.syn_model.proofs.HistoryLemmas.{get-at_root, first_cause-none, none-append}
use Rattle.syn_model.proofs.HistoryLemmas.{tree_of-append}

-- what no cause of fullness refuses fits
full_none : (t : Tree) (more : List Cause) → first_cause (full_causes t ++ more) ≡ None →
    fits_replica t ≡ true
full_none t more e =
    not-false (fits_replica t) (first_cause-none (not (fits_replica t), _) more e).0

event_fits : (history : History) (event : Event) → fits_replica (tree_of history) ≡ true →
    IsAllowed history event → fits_replica (after_event (tree_of history) event) ≡ true
event_fits history (Edited user edit) f h =
    full_none (after_edit (tree_of history) edit) (position_causes history)
    (none-append (edit_causes (tree_of history) edit)
    (full_causes (after_edit (tree_of history) edit) ++ position_causes history) h.not_refused).1
event_fits history (Began session) f h = f
event_fits history (Replaced token p since new) f h =
    let rest = full_causes (replace (tree_of history) p new) ++ position_causes history in
    let place = (first_cause-none (is_old_token history token, OldSession)
    (place_causes (tree_of history) p ++ rest) h.not_refused).1 in
    full_none (replace (tree_of history) p new) (position_causes history)
    (none-append (place_causes (tree_of history) p) rest place).1

start_fits : fits_replica (tree_of []) ≡ true
unfolding tree_of
start_fits = empty_fits

more_fits : (done : History) (events : List Event) → fits_replica (tree_of done) ≡ true →
    AllAllowed done events → fits_replica (tree_of (done ++ events)) ≡ true
more_fits done [] f h = ap (λ w. fits_replica (tree_of w)) (append-nil done) ∙ f
more_fits done (event ∷ events) f h =
    let next = ap fits_replica (tree_of-append done (event ∷ [])) ∙ event_fits done event f h.0 in
    ap (λ w. fits_replica (tree_of w)) (sym (append_assoc done (event ∷ []) events))
    ∙ more_fits (done ++ event ∷ []) events next h.1

-- a history leaves a tree within the limits
pub history_fits : HistoryFits
history_fits history h = more_fits [] history start_fits h

-- where a test holds of all pairs, it holds of what is found
pub all_found : (f : Pair → Bool) (p : Path) (es : List Pair) (c : Content) → list_all f es ≡ true →
    find path_cmp p es ≡ Some c → f (p, c) ≡ true
all_found f p [] c h e = absurd (none-some _ e)
all_found f p (x ∷ es) c h e =
    let parts = and_parts (f x) (list_all f es) h in
    elim (eq_by_cmp path_cmp p x.0) as (λ b. eq_by_cmp path_cmp p x.0 ≡ b →
    cond b (Some x.1) (find path_cmp p es) ≡ Some c → f (p, c) ≡ true) [
      | true ↦ λ here same. ap₂ (λ q d. f (q, d)) (same_path p x.0 here) (sym (same_Some _ _ same))
          ∙ parts.0
      | false ↦ λ _ rest. all_found f p es c parts.1 rest
    ] refl e

-- a tree that fits has no file that is longer than a file may be
files_fit : (tree : Tree) (path : Path) (contents : Contents) → fits_replica tree ≡ true →
    get tree path ≡ Some (File contents) → length contents.bytes ≤ 16384
files_fit tree path contents fits has =
    let part =
    (and_parts (nat_le (len tree) 1024 && nat_le (tree_spelling_length tree) greatest_spelling)
    (fits_part tree) (and_parts _ (fits_paths tree) fits).0).1 in
    let found = all_found
    (λ pair. fits_content pair.1 && nat_le (length (children tree pair.0)) 256) path
    (entries tree) (File contents) part (sym (get-entries tree path) ∙ has) in
    leb-true (length contents.bytes) 16384 (and_parts (nat_le (length contents.bytes) 16384)
    (nat_le (length (children tree path)) 256) found).0

-- and so no longer file was put into it
pub put_fits : PutFits
put_fits tree path bytes fits =
    let put = put_contents (get tree path) bytes in
    let new = replace tree path (at_root (File put)) in
    files_fit new path put fits (ap (λ p. get new p) (sym (append-nil path))
    ∙ (sym (get-subtree new path root) ∙ (ap (λ t. get t root)
    (subtree-replace tree path (at_root (File put))) ∙ get-at_root (File put) root)))

-- nor has what fits a path that is longer than a path may be
pub paths_depth : (tree : Tree) → fits_paths tree ≡ true → HasDepth most_names tree
paths_depth tree fits path deep = elim (get tree path) as (λ o. get tree path ≡ o → o ≡ None) [
  | None ↦ λ _. refl
  | Some content ↦ λ has.
      let found = all_found (λ pair. fits_path pair.0) path (entries tree) content fits
      (sym (get-entries tree path) ∙ has) in
      let within : length path ≤ 16 = leb-true (length path) 16
      (and_parts (nat_le (length path) 16) (nat_le (length (path_spelling path)) 255) found).0 in
      absurd (omega (arith, deep, within))
] refl

pub replica_depth : (tree : Tree) → fits_replica tree ≡ true → HasDepth most_names tree
replica_depth tree fits = paths_depth tree (and_parts _ (fits_paths tree) fits).1
