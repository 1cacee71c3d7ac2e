-- What a scanner keeps, from answer to answer.
use Rattle.std.proofs.Common.{◌≡◌, ℕ, Bool, true, false, cond, not, ◌&&◌, ◌||◌, if◌then◌else◌, ◌==◌}
use Rattle.std.proofs.Common.{suc, length, arith, List, [], ◌∷◌, ◌++◌, refl, sym, ap, ap₂, ◌∙◌}
use Rattle.std.proofs.Common.{Option, Some, None, is_some, true≢false, append-nil, inl, inr, ◌⊎◌}
use Rattle.std.specs.Prelude.{Contains, unwrap_or}
use Rattle.std.specs.Option.{option_or}
use Rattle.std.specs.List.{list_any}
use Rattle.std.specs.Ordering.{eq_by_cmp}
use Rattle.std.specs.Cmp.{eq_by_cmp_equiv}
use Rattle.std.specs.FinMap.{get, insert, contains_key, keys, get-insert, get-empty}
use Rattle.std.specs.FinMap.{contains_key-keys}
use Rattle.std.proofs.lemmas.Bool.{and_parts}
use Rattle.std.proofs.lemmas.Option.{none-some}
use Rattle.std.proofs.lemmas.Map.Views.{list_any-from_Contains, Contains-from_any}
use Rattle.syn_model.specs.Path.{Path, Name, path_cmp, name_cmp, root, child, parent, is_root}
use Rattle.syn_model.specs.Path.{strip_prefix, is_prefix}
use Rattle.syn_model.specs.Tree.{Tree, Directory, HasParents, replace, is_directory}
use Rattle.syn_model.specs.Tree.{is_directory_content}
use Rattle.syn_model.specs.Limits.{children, fits_archive}
use Rattle.syn_model.specs.Mark.{IsMarks}
use Rattle.syn_model.specs.Refusal.{Refusal, Root, NoParent, Full}
use Rattle.syn_mark.specs.Changes.{replace_refusal}
use Rattle.std.proofs.lemmas.Bool.Decides.{nat_tests}
use Rattle.syn_model.specs.Dirty.{is_unstable, IsScanBy}
use Rattle.syn_model.proofs.PathLemmas.{first_or, same_name, name_itself, path_total, path_itself}
use Rattle.syn_model.proofs.PathLemmas.{same_path, strip_prefix-append, strip_prefix-is, not_root}
use Rattle.syn_model.proofs.PathLemmas.{parent-append, is_prefix-is, prefix_itself, mutual_prefix}
use Rattle.syn_model.proofs.TreeLemmas.{same_tree, get-replace, within, beside}
use Rattle.syn_model.proofs.SyncLemmas.{directory_is}
use Rattle.syn_model.proofs.HistoryLemmas.{get-at_root, get-below_root}
use Rattle.syn_scan.specs.Found.{Found, Positions, scan_of, was_listed, was_no_directory, is_open}
use Rattle.syn_scan.specs.Found.{IsWhole, WasListedIn, WasNoDirectoryIn, position_of, IsFound}
use Rattle.syn_scan.specs.Found.{IsShownIn}
use Rattle.syn_model.proofs.QuietLemmas.{get-children}
use Rattle.syn_model.specs.Tree.{Content}
use Rattle.std.specs.FinMap.Entries.{find}
use Rattle.std.proofs.lemmas.Option.{same_Some}
use Rattle.std.proofs.Common.{inl, inr}
use Rattle.syn_scan.specs.Asked.{Asked, nothing_found, with_no_directory, is_out}
use Rattle.syn_scan.specs.inner.Kept.{IsFlat, with_tree, AreOpen}
use Rattle.syn_scan.specs.declared.scan.Scan.TheInside.{Inside}
use Rattle.syn_scan.proofs.ShownLemmas.{deeper, no_children}
use Rattle.syn_model.proofs.PathLemmas.{last_of}

-- ---- keys

pub record Opened (found : Found) (path : Path) : Type 0 where
  pub directory : is_directory found.marks path ≡ true
  pub not_listed : was_listed found path ≡ false
  pub not_refused : was_no_directory found path ≡ false

pub opened : (found : Found) (path : Path) → is_open found path ≡ true → Opened found path
opened found path h =
    let first = and_parts (is_directory found.marks path && not (was_listed found path))
    (not (was_no_directory found path)) h in
    let second = and_parts (is_directory found.marks path) (not (was_listed found path)) first.0 in
    record {
      directory = second.0;
      not_listed = off (was_listed found path) second.1;
      not_refused = off (was_no_directory found path) first.1;
    }
  where
    off : (b : Bool) → not b ≡ true → b ≡ false
    off true e = absurd (true≢false (sym e))
    off false e = refl

pub is_opened : (found : Found) (path : Path) → Opened found path → is_open found path ≡ true
is_opened found path o =
    ap₂ (λ a b. a && b) (ap₂ (λ a b. a && not b) o.directory o.not_listed) (ap not o.not_refused)

key_now : (m : Positions) (p : Path) (k : ℕ) (q : Path) →
    contains_key (insert m p k) q ≡ is_some (cond (eq_by_cmp path_cmp q p) (Some k) (get m q))
key_now m p k q = ap is_some (get-insert path_total m p k q)

pub key_itself : (m : Positions) (p : Path) (k : ℕ) → contains_key (insert m p k) p ≡ true
key_itself m p k = key_now m p k p ∙ ap (λ b. is_some (cond b (Some k) (get m p))) (path_itself p)

pub key_other : (m : Positions) (p : Path) (k : ℕ) (q : Path) → eq_by_cmp path_cmp q p ≡ false →
    contains_key (insert m p k) q ≡ contains_key m q
key_other m p k q other = key_now m p k q ∙ ap (λ b. is_some (cond b (Some k) (get m q))) other

-- a path is one of two, or another
pub alike_or : (q p : Path) → (q ≡ p) ⊎ (eq_by_cmp path_cmp q p ≡ false)
alike_or q p = by_case (eq_by_cmp path_cmp q p) refl
  where
    by_case : (b : Bool) → eq_by_cmp path_cmp q p ≡ b → (q ≡ p) ⊎ (eq_by_cmp path_cmp q p ≡ false)
    by_case true e = inl (same_path q p e)
    by_case false e = inr e

pub replace-root : (t u : Tree) → replace t root u ≡ u
replace-root t u = same_tree (replace t root u) u (λ q. get-replace t root u q)

-- ---- nothing found

pub nothing_is_found : (found : Found) → found ≡ nothing_found → IsMarks found.marks →
    fits_archive found.marks ≡ true → IsFound found
nothing_is_found found is marks fits = record {
  rooted = ap (λ f. get f.marks root) is ∙ get-at_root Directory root;
  marks = marks;
  fits = fits;
  listed =
      λ p h. absurd
      (true≢false (sym h ∙ (ap (λ f. was_listed f p) is ∙ ap is_some (get-empty path_cmp p))));
  not_dir =
      λ p h. absurd (true≢false
      (sym h ∙ (ap (λ f. was_no_directory f p) is ∙ ap is_some (get-empty path_cmp p))));
  one_answer = λ p h. ap (λ f. was_listed f p) is ∙ ap is_some (get-empty path_cmp p);
  nothing_below = λ p n h. ap (λ f. get f.marks (child p n)) is ∙ get-below_root Directory p n [];
}

-- ---- an answer that no directory is there

pub refused_is_found : (found : Found) (p : Path) (k : ℕ) → IsFound found → is_open found p ≡ true →
    IsFound (with_no_directory found p k)
refused_is_found found p k f o = record {
  rooted = f.rooted;
  marks = f.marks;
  fits = f.fits;
  listed = f.listed;
  not_dir = λ q h. not_dir q h (alike_or q p);
  one_answer = λ q h. one q h (alike_or q p);
  nothing_below = f.nothing_below;
}
  where
    not_dir : (q : Path) → contains_key (insert found.not_dirs p k) q ≡ true →
        (q ≡ p) ⊎ (eq_by_cmp path_cmp q p ≡ false) → is_directory found.marks q ≡ true
    not_dir q h (inl same) = ap (is_directory found.marks) same ∙ (opened found p o).directory
    not_dir q h (inr other) = f.not_dir q (sym (key_other found.not_dirs p k q other) ∙ h)

    one : (q : Path) → contains_key (insert found.not_dirs p k) q ≡ true →
        (q ≡ p) ⊎ (eq_by_cmp path_cmp q p ≡ false) → was_listed found q ≡ false
    one q h (inl same) = ap (was_listed found) same ∙ (opened found p o).not_listed
    one q h (inr other) = f.one_answer q (sym (key_other found.not_dirs p k q other) ∙ h)

-- ---- a listing

pub child_in : (q p : Path) (n m : Name) → child q n ≡ child p m → q ≡ p
child_in q p n m e =
    sym (append-nil q)
    ∙ (sym (parent-append q n []) ∙ (ap parent e ∙ (parent-append p m [] ∙ append-nil p)))

module _ (found : Found) (p : Path) (k : ℕ) (u : Tree) (f : IsFound found)
    (o : is_open found p ≡ true) (flat : IsFlat u) where
  abbrev after : Found
  after = with_tree found p k u

  nothing : (n : Name) → get found.marks (child p n) ≡ None
  nothing n = f.nothing_below p n (opened found p o).not_listed

  here : get found.marks p ≡ Some Directory
  here = directory_is (get found.marks p) (opened found p o).directory

  -- what stands at a path by its place to the directory
  pub itself_then : get after.marks p ≡ Some Directory
  itself_then =
      within found.marks p u p root
      (ap (strip_prefix p) (sym (append-nil p)) ∙ strip_prefix-append p []) ∙ flat.rooted

  -- directories stay
  pub directory_then : (q : Path) → is_directory found.marks q ≡ true →
      is_directory after.marks q ≡ true
  directory_then q h = by_place (strip_prefix p q) refl
    where
      by_place : (r : Option Path) → strip_prefix p q ≡ r → is_directory after.marks q ≡ true
      by_place None e = ap is_directory_content (beside found.marks p u q e) ∙ h
      by_place (Some []) e = ap is_directory_content (within found.marks p u q [] e ∙ flat.rooted)
      by_place (Some (n ∷ r)) e =
          absurd (true≢false (sym h ∙ ap is_directory_content (ap (get found.marks) (strip_prefix-is
          p q (n ∷ r) e) ∙ deeper found.marks p n r f.marks.part.parents nothing)))

  listed_then : (q : Path) → was_listed after q ≡ true →
      (q ≡ p) ⊎ (eq_by_cmp path_cmp q p ≡ false) → is_directory after.marks q ≡ true
  listed_then q h (inl same) = ap is_directory_content (ap (get after.marks) same ∙ itself_then)
  listed_then q h (inr other) =
      directory_then q (f.listed q (sym (key_other found.listed p k q other) ∙ h))

  one_then : (q : Path) → was_no_directory found q ≡ true →
      (q ≡ p) ⊎ (eq_by_cmp path_cmp q p ≡ false) → was_listed after q ≡ false
  one_then q h (inl same) =
      absurd
      (true≢false (sym h ∙ (ap (was_no_directory found) same ∙ (opened found p o).not_refused)))
  one_then q h (inr other) = key_other found.listed p k q other ∙ f.one_answer q h

  below_then : (q : Path) (n : Name) → was_listed after q ≡ false →
      (q ≡ p) ⊎ (eq_by_cmp path_cmp q p ≡ false) → get after.marks (child q n) ≡ None
  below_then q n h (inl same) =
      absurd
      (true≢false (sym (key_itself found.listed p k) ∙ (ap (was_listed after) (sym same) ∙ h)))
  below_then q n h (inr other) = by_place (strip_prefix p (child q n)) refl
    where
      by_place : (r : Option Path) → strip_prefix p (child q n) ≡ r →
          get after.marks (child q n) ≡ None
      by_place None e =
          beside found.marks p u (child q n) e
          ∙ f.nothing_below q n (sym (key_other found.listed p k q other) ∙ h)
      by_place (Some []) e =
          absurd
          (none-some _ (sym (f.nothing_below q n (sym (key_other found.listed p k q other) ∙ h))
          ∙ (ap (get found.marks) (strip_prefix-is p (child q n) [] e ∙ append-nil p) ∙ here)))
      by_place (Some (m ∷ [])) e =
          absurd (true≢false (sym (path_itself p) ∙ (ap (λ w. eq_by_cmp path_cmp w p)
          (sym (child_in q p n m (strip_prefix-is p (child q n) (m ∷ []) e))) ∙ other)))
      by_place (Some (m ∷ x ∷ r)) e =
          within found.marks p u (child q n) (m ∷ x ∷ r) e ∙ flat.nothing_below m x r

  rooted_then : (q : Path) → q ≡ p → get after.marks root ≡ Some Directory
  rooted_then [] same =
      ap (λ w. get (replace found.marks w u) root) (sym same)
      ∙ (ap (λ t. get t root) (replace-root found.marks u) ∙ flat.rooted)
  rooted_then (x ∷ q) same =
      ap (λ w. get (replace found.marks w u) root) (sym same)
      ∙ (beside found.marks (x ∷ q) u root refl ∙ f.rooted)

  pub listing_is_found : IsMarks after.marks → fits_archive after.marks ≡ true → IsFound after
  listing_is_found marks fits = record {
    rooted = rooted_then p refl;
    marks = marks;
    fits = fits;
    listed = λ q h. listed_then q h (alike_or q p);
    not_dir = λ q h. directory_then q (f.not_dir q h);
    one_answer = λ q h. one_then q h (alike_or q p);
    nothing_below = λ q n h. below_then q n h (alike_or q p);
  }

  -- another path that was open stays so
  pub open_then : (q : Path) → eq_by_cmp path_cmp q p ≡ false → is_open found q ≡ true →
      is_open after q ≡ true
  open_then q other h =
      let at = opened found q h in
      is_opened after q (record {
        directory = directory_then q at.directory;
        not_listed =
            key_other found.listed p k q other ∙ at.not_listed;
        not_refused = at.not_refused;
      })

pub open_after_refusal : (found : Found) (p : Path) (k : ℕ) (q : Path) →
    eq_by_cmp path_cmp q p ≡ false → is_open found q ≡ true →
    is_open (with_no_directory found p k) q ≡ true
open_after_refusal found p k q other h =
    let at = opened found q h in
    is_opened (with_no_directory found p k) q (record {
      directory = at.directory;
      not_listed =
          at.not_listed;
      not_refused = key_other found.not_dirs p k q other ∙ at.not_refused;
    })

-- ---- which paths are out

every : {X : Type 0} (P : X → Type 0) → List X → Type 0
every P [] = Unit {0}
every P (x ∷ xs) = P x × every P xs

-- a path that is out is open
pub out_is_open : (asked : Asked) (p : Path) → AreOpen asked → is_out asked.out p ≡ true →
    is_open asked.found p ≡ true
out_is_open asked p all out =
    let c : Contains asked.out p = Contains-from_any (λ x y e. same_path x y e) p asked.out out in
    ap (is_open asked.found) (sym c.2) ∙ all c.0 p c.1

-- ---- unstable paths

both_ways : (p q : Path) → (is_prefix p q && is_prefix q p) ≡ eq_by_cmp path_cmp p q
both_ways p q = by_case (eq_by_cmp path_cmp p q) refl (is_prefix p q && is_prefix q p) refl
  where
    by_case : (b : Bool) → eq_by_cmp path_cmp p q ≡ b → (a : Bool) →
        (is_prefix p q && is_prefix q p) ≡ a → a ≡ b
    by_case true e true h = refl
    by_case true e false h =
        absurd (true≢false
        (sym (ap₂ (λ a b. a && b) (ap (is_prefix p) (sym (same_path p q e)) ∙ prefix_itself p)
        (ap (λ w. is_prefix w p) (sym (same_path p q e)) ∙ prefix_itself p)) ∙ h))
    by_case false e true h =
        let both = and_parts (is_prefix p q) (is_prefix q p) h in
        absurd (true≢false
        (sym (path_itself p) ∙ (ap (eq_by_cmp path_cmp p) (mutual_prefix p q both.0 both.1) ∙ e)))
    by_case false e false h = refl

any_alike : (p : Path) (ps : List Path) → list_any
    (λ other. is_prefix p other && is_prefix other p) ps ≡ list_any (eq_by_cmp path_cmp p) ps
any_alike p [] = refl
any_alike p (q ∷ ps) = ap₂ (λ a b. a || b) (both_ways p q) (any_alike p ps)

pub unstable_key : (found : Found) (p : Path) →
    is_unstable (scan_of found) p ≡ was_no_directory found p
unstable_key found p = any_alike p (keys found.not_dirs) ∙ sym (contains_key-keys found.not_dirs p)

-- ---- a scan that is whole

pub known : (m : Positions) (p : Path) → contains_key m p ≡ true → (k : ℕ) × (get m p ≡ Some k)
known m p h = by_case (get m p) refl h
  where
    by_case : (o : Option ℕ) → get m p ≡ o → is_some (get m p) ≡ true → (k : ℕ) × (get m p ≡ Some k)
    by_case None e some = absurd (true≢false (sym some ∙ ap is_some e))
    by_case (Some k) e some = (k, e)

unknown : (m : Positions) (p : Path) → contains_key m p ≡ false → get m p ≡ None
unknown m p h = by_case (get m p) refl h
  where
    by_case : (o : Option ℕ) → get m p ≡ o → is_some (get m p) ≡ false → get m p ≡ None
    by_case None e some = e
    by_case (Some k) e some = absurd (true≢false (sym (ap is_some e) ∙ some))

pub unstable_is : (found : Found) (p : Path) → Contains (keys found.not_dirs) p →
    was_no_directory found p ≡ true
unstable_is found p c =
    contains_key-keys found.not_dirs p
    ∙ list_any-from_Contains (eq_by_cmp_equiv path_total) p (keys found.not_dirs) c

pub scan_is : (found : Found) → IsFound found → IsWhole found →
    IsScanBy (WasListedIn found) (WasNoDirectoryIn found) (scan_of found) (position_of found)
scan_is found f whole = record {
  tree = record { rooted = f.rooted; part = f.marks.part };
  fits = f.fits;
  listed =
      λ p dir stable. listed p dir (sym (unstable_key found p) ∙ stable) (was_listed found p) refl;
  not_dir = λ p c. not_dir p (unstable_is found p c);
  nothing_below =
      λ p c. no_children found.marks p
      (λ n. f.nothing_below p n (f.one_answer p (unstable_is found p c)));
}
  where
    listed : (p : Path) → is_directory found.marks p ≡ true →
        was_no_directory found p ≡ false → (b : Bool) → was_listed found p ≡ b →
        WasListedIn found p (position_of found p) (children found.marks p)
    listed p dir stable true e =
        let k = known found.listed p e in
        record {
          answered = k.1 ∙ ap (λ n. Some n)
              (sym (ap (λ o. unwrap_or (option_or o (get found.not_dirs p)) 0) k.1));
          shows = refl;
        }
    listed p dir stable false e =
        absurd (true≢false (sym (is_opened found p
        (record { directory = dir; not_listed = e; not_refused = stable })) ∙ whole p))

    not_dir : (p : Path) → was_no_directory found p ≡ true →
        (is_directory found.marks p ≡ true) × WasNoDirectoryIn found p (position_of found p)
    not_dir p h =
        let k = known found.not_dirs p h in (
          f.not_dir p h,
          k.1 ∙ ap (λ n. Some n) (sym (ap₂ (λ o u. unwrap_or (option_or o u) 0)
              (unknown found.listed p (f.one_answer p h)) k.1)),
        )

-- ---- what a listing leaves

abbrev pub found_of : Inside → Found
found_of scan = record { marks = scan.marks; listed = scan.listed; not_dirs = scan.not_dirs }

pub taken_is : (old : Found) (p : Path) (k : ℕ) (u : Tree) (marks : Tree)
    (listed not_dirs : Positions) → marks ≡ replace old.marks p u → listed ≡ insert old.listed p k →
    not_dirs ≡ old.not_dirs → ◌≡◌ {A = Found}
    (record { marks = marks; listed = listed; not_dirs = not_dirs }) (with_tree old p k u)
taken_is old p k u marks listed not_dirs a b c =
    λ i. record { marks = a i; listed = b i; not_dirs = c i }

pub empty_path : (p : Path) → (length p == 0) ≡ true → p ≡ []
empty_path [] h = refl
empty_path (n ∷ p) h = absurd (true≢false (sym h ∙ suc_not (length p)))
  where
    suc_not : (n : ℕ) → (suc n == 0) ≡ false
    suc_not n = grind (arith, nat_tests)

parent_is_directory : (t : Tree) (p : Path) → HasParents t → is_root p ≡ false →
    is_directory t p ≡ true → is_directory t (parent p) ≡ true
parent_is_directory t [] parents r h = absurd (true≢false r)
parent_is_directory t (n ∷ p) parents r h =
    let s = last_of n p in
    ap is_directory_content (parents (parent (n ∷ p)) s.0
    [] (ap is_some (ap (get t) (sym s.1) ∙ directory_is (get t (n ∷ p)) h)))

-- a directory that is not the root refuses a replacement only for the limits
pub refused_for_limits : (found : Found) (p : Path) (u : Tree) (why : Refusal) → IsFound found →
    is_open found p ≡ true → is_root p ≡ false → replace_refusal found.marks p u ≡ Some why →
    fits_archive (replace found.marks p u) ≡ false
refused_for_limits found p u why f o r h = by_case (fits_archive (replace found.marks p u)) refl
  where
    above : is_directory found.marks (parent p) ≡ true
    above = parent_is_directory found.marks p f.marks.part.parents r (opened found p o).directory

    by_case : (b : Bool) → fits_archive (replace found.marks p u) ≡ b → b ≡ false
    by_case true e =
        absurd (none-some _ (sym (ap₂ (λ a b. if a then Some Root else (if not b then Some NoParent
        else (if not (fits_archive (replace found.marks p u)) then Some Full else None))) r above
        ∙ ap (λ b. if not b then Some Full else None) e) ∙ h))
    by_case false e = refl

-- ---- what is shown

directory_found : (n : Name) (es : List (Name × Content)) → find name_cmp n es ≡ Some Directory →
    Contains es (n, Directory)
directory_found n [] e = absurd (none-some _ e)
directory_found n (x ∷ es) e = by_case (eq_by_cmp name_cmp n x.0) refl (directory_found n es)
  where
    by_case : (b : Bool) → eq_by_cmp name_cmp n x.0 ≡ b →
        (find name_cmp n es ≡ Some Directory → Contains es (n, Directory)) →
        Contains (x ∷ es) (n, Directory)
    by_case true same rest =
        let content : x.1 ≡ Directory =
        same_Some _ _ (sym (ap (λ b. cond b (Some x.1) (find name_cmp n es)) same) ∙ e) in
        let name : x.0 ≡ n = sym (same_name n x.0 same) in
        (0, omega arith, λ i. (name i, content i))
    by_case false other rest =
        let more = rest (sym (ap (λ b. cond b (Some x.1) (find name_cmp n es)) other) ∙ e) in
        (suc more.0, omega (arith, more.1), more.2)

-- a directory that is shown is the root, or stands in a listing
pub shown_in : (found : Found) (p : Path) → IsFound found → is_directory found.marks p ≡ true →
    IsShownIn found p
shown_in found [] f d = inl refl
shown_in found (n ∷ q) f d = inr (by_case (was_listed found (parent (n ∷ q))) refl)
  where
    by_case : (b : Bool) → was_listed found (parent (n ∷ q)) ≡ b → (above : Path) × (name : Name)
        × (position : ℕ) × (entries : List (Name × Content)) × (n ∷ q ≡ child above name)
        × WasListedIn found above position entries × Contains entries (name, Directory)
    by_case false never =
        let last = last_of n q in
        let nothing = f.nothing_below (parent (n ∷ q)) last.0 never in
        absurd
        (true≢false (sym d ∙ ap is_directory_content (ap (get found.marks) last.1 ∙ nothing)))
    by_case true was =
        let last = last_of n q in
        let at = known found.listed (parent (n ∷ q)) was in
        let here : get found.marks (child (parent (n ∷ q)) last.0) ≡ Some Directory =
        ap (get found.marks) (sym last.1) ∙ directory_is (get found.marks (n ∷ q)) d in (
          parent (n ∷ q),
          last.0,
          at.0,
          children found.marks (parent (n ∷ q)),
          last.1,
          record { answered = at.1; shows = refl },
          directory_found last.0 (children found.marks (parent (n ∷ q)))
              (sym (get-children found.marks (parent (n ∷ q)) last.0) ∙ here),
        )
