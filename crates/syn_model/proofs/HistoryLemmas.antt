-- Histories leave whole trees.
use Rattle.std.proofs.Common.{◌≡◌, ℕ, Option, Bool, true, false, cond, not, if◌then◌else◌, List, []}
use Rattle.std.proofs.Common.{◌∷◌, ◌++◌}
use Rattle.std.proofs.Common.{refl, sym, ap, ◌∙◌, subst, Some, None, is_some, IsSome, true≢false}
use Rattle.std.proofs.Common.{◌≢◌, append_assoc, append-nil, fold, inr, All}
use Rattle.std.specs.Ordering.{eq_by_cmp}
use Rattle.std.specs.FinMap.{get, get-insert, get-empty, empty}
use Rattle.std.proofs.lemmas.List.Elements.{All-nil}
use Rattle.std.proofs.lemmas.Option.{none-some, same_Some}
use Rattle.std.proofs.lemmas.Bool.{not-false}
use Rattle.syn_model.specs.Path.{Name, Path, path_cmp, root, is_root, parent, IsName}
use Rattle.syn_model.specs.Contents.{Contents, AreLawfulContents, AreLawfulContentsIn, IsMode}
use Rattle.syn_model.specs.Contents.{contents_with}
use Rattle.syn_model.specs.Version.{Version}
use Rattle.syn_model.specs.Tree.{Tree, Content, Directory, File, IsPart, IsPartIn, IsTree, StandsIn}
use Rattle.syn_model.specs.Tree.{at_root, empty_directory, absent, replace, is_directory}
use Rattle.syn_model.specs.Tree.{is_present}
use Rattle.syn_model.specs.Refusal.{Refusal, Cause, first_cause, NoParent, Root, IsDirectory}
use Rattle.syn_model.specs.Refusal.{Exists, Absent, OldSession}
use Rattle.syn_model.specs.Event.{Edit, Put, MakeDir, Remove, Chmod, Event, Edited, Began}
use Rattle.syn_model.specs.Event.{Replaced, AreBytes, put_mode, with_mode}
use Rattle.syn_model.specs.Event.{after_edit, after_event, IsLawfulEdit, put_contents}
use Rattle.syn_model.specs.History.{History, tree_of, position_causes, is_old_token, IsAllowed}
use Rattle.syn_model.specs.History.{AllAllowed, IsHistory}
use Rattle.syn_model.specs.Standing.{place_causes, edit_causes, full_causes}
use Rattle.syn_model.specs.Laws.{AllowedGoesOn}
use Rattle.syn_model.proofs.PathLemmas.{path_total}
use Rattle.syn_model.proofs.TreeLemmas.{replace-is_part, beside}
use Rattle.syn_model.proofs.SyncLemmas.{directory_is}
use Rattle.syn_model.proofs.ContentsLemmas.{with_are_lawful, put_mode-is_mode}

pub first_cause-none : (cause : Cause) (causes : List Cause) → first_cause (cause ∷ causes) ≡ None →
    (cause.0 ≡ false) × (first_cause causes ≡ None)
first_cause-none cause causes e =
    elim (cause.0) as (λ b. cause.0 ≡ b → (if b then Some cause.1 else first_cause causes) ≡ None →
    (cause.0 ≡ false) × (first_cause causes ≡ None)) [
      | true ↦ λ _ some. absurd (none-some _ (sym some))
      | false ↦ λ y rest. (y, rest)
    ] refl e

-- no cause of a list stands where none stands in either part
pub none-append : (xs ys : List Cause) → first_cause (xs ++ ys) ≡ None →
    (first_cause xs ≡ None) × (first_cause ys ≡ None)
none-append [] ys e = (refl, e)
none-append (x ∷ xs) ys e =
    let first = first_cause-none x (xs ++ ys) e in
    let rest = none-append xs ys first.1 in
    (ap (λ b. if b then Some x.1 else first_cause xs) first.0 ∙ rest.0, rest.1)

-- causes that do not stand are passed over
pub first_skips : (xs ys : List Cause) → first_cause xs ≡ None →
    first_cause (xs ++ ys) ≡ first_cause ys
first_skips [] ys e = refl
first_skips ((true, why) ∷ xs) ys e = absurd (none-some _ (sym e))
first_skips ((false, why) ∷ xs) ys e = first_skips xs ys e

-- and the first of some causes is the first of them before others
pub first_stays : (xs ys : List Cause) (why : Refusal) → first_cause xs ≡ Some why →
    first_cause (xs ++ ys) ≡ Some why
first_stays [] ys why e = absurd (none-some _ e)
first_stays ((true, other) ∷ xs) ys why e = e
first_stays ((false, other) ∷ xs) ys why e = first_stays xs ys why e

pub append-none : (xs ys : List Cause) → first_cause xs ≡ None → first_cause ys ≡ None →
    first_cause (xs ++ ys) ≡ None
append-none [] ys e f = f
append-none (x ∷ xs) ys e f =
    let first = first_cause-none x xs e in
    ap (λ b. if b then Some x.1 else first_cause (xs ++ ys)) first.0 ∙ append-none xs ys first.1 f

-- a place that no cause refuses is no root, and stands in a directory
pub place-stands : (t : Tree) (p : Path) (more : List Cause) →
    first_cause (place_causes t p ++ more) ≡ None → (is_root p ≡ false) × StandsIn t p
place-stands t p more e =
    let first = first_cause-none (is_root p, Root)
    ((not (is_directory t (parent p)), NoParent) ∷ more) e in
    let second = first_cause-none (not (is_directory t (parent p)), NoParent) more first.1 in (
      first.0,
      inr (directory_is (get t (parent p)) (not-false (is_directory t (parent p)) second.0)),
    )

pub get-at_root : (x : Content) (p : Path) →
    get (at_root x) p ≡ cond (eq_by_cmp path_cmp p root) (Some x) None
get-at_root x p =
    get-insert path_total empty root x p
    ∙ ap (cond (eq_by_cmp path_cmp p root) (Some x)) (get-empty path_cmp p)

-- what stands at the root alone has nothing below it
pub get-below_root : (x : Content) (p : Path) (n : Name) (r : Path) →
    get (at_root x) (p ++ n ∷ r) ≡ None
get-below_root x [] n r = get-at_root x (n ∷ r)
get-below_root x (m ∷ p) n r = get-at_root x (m ∷ (p ++ n ∷ r))

names : (x : Content) (p : Path) → IsSome (get (at_root x) p) → All IsName p
names x [] h = All-nil IsName
names x (n ∷ p) h = absurd (true≢false (sym h ∙ ap is_some (get-at_root x (n ∷ p))))

pub only : (x : Content) (p : Path) (contents : Contents) →
    get (at_root x) p ≡ Some (File contents) → x ≡ File contents
only x [] contents h = same_Some _ _ (sym (get-at_root x root) ∙ h)
only x (n ∷ p) contents h = absurd (none-some _ (sym (get-at_root x (n ∷ p)) ∙ h))

pub at_root-is_part : {version : Version} (x : Content) →
    ((contents : Contents) → x ≡ File contents → AreLawfulContentsIn version contents) →
    IsPartIn version (at_root x)
at_root-is_part x lawful = record {
  parents = λ p n r h. absurd (true≢false (sym h ∙ ap is_some (get-below_root x p n r)));
  names = names x;
  lawful = λ p contents h. lawful contents (only x p contents h);
}

pub absent-is_part : {version : Version} → IsPartIn version absent
absent-is_part = record {
  parents = λ p n r h. absurd (true≢false (sym h ∙ ap is_some (get-empty path_cmp (p ++ n ∷ r))));
  names = λ p h. absurd (true≢false (sym h ∙ ap is_some (get-empty path_cmp p)));
  lawful = λ p contents h. absurd (none-some _ (sym (get-empty path_cmp p) ∙ h));
}

-- what is put below the root leaves a whole tree
pub replace-is_tree : (t : Tree) (p : Path) (u : Tree) → IsTree t → IsPart u → is_root p ≡ false →
    StandsIn t p → All IsName p → IsTree (replace t p u)
replace-is_tree t [] u ht hu r place lawful = absurd (true≢false r)
replace-is_tree t (n ∷ p) u ht hu r place lawful = record {
  rooted = beside t (n ∷ p) u root refl ∙ ht.rooted;
  part = replace-is_part t (n ∷ p) u ht.part hu place lawful;
}

abbrev contents_or : Content → Contents → Contents
contents_or Directory d = d
contents_or (File contents) d = contents

pub same_file : (a b : Contents) → File a ≡ File b → a ≡ b
same_file a b e = ap (λ x. contents_or x a) e

abbrev is_file : Content → Bool
is_file Directory = false
is_file (File contents) = true

pub no_file : (contents : Contents) → Directory ≢ File contents
no_file contents e = true≢false (sym (ap is_file e))

-- a file with another mode is a part
with_mode-is_part : (before : Option Content) (mode : ℕ) →
    ((was : Contents) → before ≡ Some (File was) → AreBytes was.bytes) → IsMode mode →
    IsPart (with_mode before mode)
with_mode-is_part None mode bytes is = absent-is_part
with_mode-is_part (Some Directory) mode bytes is =
    at_root-is_part Directory (λ b x. absurd (no_file b x))
with_mode-is_part (Some (File was)) mode bytes is =
    at_root-is_part (File (contents_with mode was.bytes)) (λ b x. subst AreLawfulContents
    (same_file (contents_with mode was.bytes) b x)
    (with_are_lawful mode was.bytes is (bytes was refl)))

edit-is_tree : (t : Tree) (edit : Edit) (more : List Cause) → IsTree t → IsLawfulEdit edit →
    first_cause (edit_causes t edit ++ more) ≡ None → IsTree (after_edit t edit)
edit-is_tree t (Put p bytes) more ht h e =
    let place = place-stands t p ((is_directory t p, IsDirectory) ∷ more) e in
    let put = put_contents (get t p) bytes in
    replace-is_tree t p (at_root (File put)) ht (at_root-is_part (File put)
    (λ b x. subst AreLawfulContents (same_file put b x)
    (with_are_lawful (put_mode (get t p)) bytes (put_mode-is_mode (get t p)
    (λ was found. (ht.part.lawful p was found).mode)) h.1)))
    place.0 place.1 h.0.names
edit-is_tree t (MakeDir p) more ht h e =
    let place = place-stands t p ((is_present t p, Exists) ∷ more) e in
    replace-is_tree t p empty_directory ht
    (at_root-is_part Directory (λ b x. absurd (no_file b x))) place.0 place.1 h.names
edit-is_tree t (Remove p) more ht h e =
    let place = place-stands t p ((not (is_present t p), Absent) ∷ more) e in
    replace-is_tree t p absent ht absent-is_part place.0 place.1 h.names
edit-is_tree t (Chmod p mode) more ht h e =
    let place = place-stands t p ((is_directory t p, IsDirectory) ∷ (not (is_present t p), Absent)
    ∷ more) e in
    replace-is_tree t p (with_mode (get t p) mode) ht (with_mode-is_part (get t p) mode
    (λ was found. (ht.part.lawful p was found).bytes) h.1) place.0 place.1 h.0.names

-- an allowed event leaves a whole tree
pub event-is_tree : (history : History) (event : Event) → IsTree (tree_of history) →
    IsAllowed history event → IsTree (after_event (tree_of history) event)
event-is_tree history (Edited user edit) ht h =
    edit-is_tree (tree_of history) edit (full_causes (after_edit (tree_of history) edit)
    ++ position_causes history) ht h.lawful.1 h.not_refused
event-is_tree history (Began session) ht h = ht
event-is_tree history (Replaced token p since new) ht h =
    let rest = full_causes (replace (tree_of history) p new) ++ position_causes history in
    let place = place-stands (tree_of history) p rest (first_cause-none (
      is_old_token history token,
      OldSession,
    ) (place_causes (tree_of history) p ++ rest) h.not_refused).1 in
    replace-is_tree (tree_of history) p new ht h.lawful.3 place.0 place.1 h.lawful.1.names

fold-append : (t : Tree) (xs ys : List Event) →
    fold after_event t (xs ++ ys) ≡ fold after_event (fold after_event t xs) ys
fold-append t [] ys = refl
fold-append t (x ∷ xs) ys = fold-append (after_event t x) xs ys

pub tree_of-append : (xs ys : List Event) → tree_of (xs ++ ys) ≡ fold after_event (tree_of xs) ys
unfolding tree_of
tree_of-append xs ys = fold-append empty_directory xs ys

pub empty-is_tree : IsTree (tree_of [])
unfolding tree_of
empty-is_tree =
    record {
      rooted = get-at_root Directory root;
      part = at_root-is_part Directory (λ b x. absurd (no_file b x));
    }

more-is_tree : (done : History) (events : List Event) → IsTree (tree_of done) →
    AllAllowed done events → IsTree (tree_of (done ++ events))
more-is_tree done [] ht h = subst (λ w. IsTree (tree_of w)) (sym (append-nil done)) ht
more-is_tree done (event ∷ events) ht h =
    let next : IsTree (tree_of (done ++ event ∷ [])) =
    subst IsTree (sym (tree_of-append done (event ∷ []))) (event-is_tree done event ht h.0) in
    subst (λ w. IsTree (tree_of w)) (append_assoc done (event ∷ []) events)
    (more-is_tree (done ++ event ∷ []) events next h.1)

-- a history leaves a whole tree
pub history-is_tree : (history : History) → IsHistory history → IsTree (tree_of history)
history-is_tree history h = more-is_tree [] history empty-is_tree h

allowed_after : (done : History) (events : List Event) (event : Event) → AllAllowed done events →
    IsAllowed (done ++ events) event → AllAllowed done (events ++ event ∷ [])
allowed_after done [] event all a = (subst (λ h. IsAllowed h event) (append-nil done) a, tt)
allowed_after done (e ∷ events) event all a = (
  all.0,
  allowed_after (done ++ e ∷ []) events event all.1
      (subst (λ h. IsAllowed h event) (sym (append_assoc done (e ∷ []) events)) a),
)

-- an allowed event goes on a history
pub allowed_goes_on : AllowedGoesOn
allowed_goes_on history event h a = allowed_after [] history event h a
