-- What is put into a tree stands there, and the rest stays.
use Rattle.std.proofs.Common.{◌≡◌, ◌∙◌, ℕ, Bool, true, false, cond, not, List, [], ◌∷◌, ◌++◌}
use Rattle.std.proofs.Common.{fold, refl, sym, ap, subst, Option, Some, None, is_some, append-nil}
use Rattle.std.proofs.Common.{true≢false}
use Rattle.std.specs.Ordering.{eq_by_cmp}
use Rattle.std.proofs.lemmas.Bool.{not-false}
use Rattle.std.proofs.lemmas.Option.{none-some, same_Some}
use Rattle.std.specs.FinMap.{get, find, entries, get-entries}
use Rattle.syn_model.specs.Path.{Bytes, Path, Name, path_cmp, root, strip_prefix, is_root, parent}
use Rattle.syn_model.specs.Contents.{contents_with}
use Rattle.syn_model.specs.Tree.{Tree, Content, Directory, File, Pair, HasParents, at_root, replace}
use Rattle.syn_model.specs.Tree.{is_directory, is_directory_content, is_present}
use Rattle.syn_model.specs.Event.{Put, MakeDir, Chmod, after_edit, put_contents, with_mode}
use Rattle.syn_model.specs.Refusal.{Refusal, Cause, first_cause, Root, NoParent, IsDirectory}
use Rattle.syn_model.specs.Refusal.{Absent, Exists}
use Rattle.syn_model.specs.Standing.{edit_refusal, full_causes}
use Rattle.syn_model.proofs.PathLemmas.{same_path, path_itself, strip_prefix-is}
use Rattle.syn_model.proofs.HistoryLemmas.{get-below_root, same_file}
use Rattle.syn_model.proofs.TreeLemmas.{within, beside}
use Rattle.syn_placed.specs.Pairs.{Pairs, rooted}
use Rattle.syn_placed.proofs.RisingLemmas.{Rising}
use Rattle.syn_placed.proofs.FindLemmas.{find_after}
use Rattle.syn_placed.proofs.TreeLemmas.{rising-entries}
use Rattle.syn_change.specs.Changes.{HasBytes, HasMode, IsOverlaid, IsPlaced, StaysElsewhere}
use Rattle.syn_tree.proofs.CheckLemmas.{put_there}

-- ---- one edit

third : (a b c : Bool) (u v w : Refusal) (rest : List Cause) →
    first_cause ((a, u) ∷ (b, v) ∷ (c, w) ∷ rest) ≡ None → c ≡ false
third true b c u v w rest none = absurd (none-some _ (sym none))
third false true c u v w rest none = absurd (none-some _ (sym none))
third false false true u v w rest none = absurd (none-some _ (sym none))
third false false false u v w rest none = refl

fourth : (a b c d : Bool) (u v w x : Refusal) (rest : List Cause) →
    first_cause ((a, u) ∷ (b, v) ∷ (c, w) ∷ (d, x) ∷ rest) ≡ None → d ≡ false
fourth true b c d u v w x rest none = absurd (none-some _ (sym none))
fourth false true c d u v w x rest none = absurd (none-some _ (sym none))
fourth false false true d u v w x rest none = absurd (none-some _ (sym none))
fourth false false false true u v w x rest none = absurd (none-some _ (sym none))
fourth false false false false u v w x rest none = refl

-- what is put where no directory is, changes nothing elsewhere
module _ (t : Tree) (p : Path) (c : Content) (parents : HasParents t)
    (free : is_directory t p ≡ false) where
  nothing_below : (n : Name) (r : Path) → get t (p ++ n ∷ r) ≡ None
  nothing_below n r = go (get t (p ++ n ∷ r)) refl
    where
      go : (o : Option Content) → get t (p ++ n ∷ r) ≡ o → get t (p ++ n ∷ r) ≡ None
      go None is = is
      go (Some x) is =
          absurd (true≢false (sym (ap is_directory_content (parents p n r (ap is_some is))) ∙ free))

  stays_elsewhere : StaysElsewhere t p (replace t p (at_root c))
  stays_elsewhere q other = replaced (strip_prefix p q) refl
    where
      below : (r : Path) → strip_prefix p q ≡ Some r → get (at_root c) r ≡ get t q
      below [] is = absurd (other (strip_prefix-is p q [] is ∙ append-nil p))
      below (n ∷ r) is =
          get-below_root c [] n r
          ∙ sym (ap (get t) (strip_prefix-is p q (n ∷ r) is) ∙ nothing_below n r)

      replaced : (o : Option Path) → strip_prefix p q ≡ o →
          get (replace t p (at_root c)) q ≡ get t q
      replaced None is = beside t p (at_root c) q is
      replaced (Some r) is = within t p (at_root c) q r is ∙ below r is

absent_is_free : (o : Option Content) → is_some o ≡ false → is_directory_content o ≡ false
absent_is_free None is = refl
absent_is_free (Some x) is = absurd (true≢false is)

-- a directory that is made stands there
pub dir_placed : (t : Tree) (p : Path) (new : Tree) → HasParents t →
    edit_refusal t (MakeDir p) ≡ None → new ≡ after_edit t (MakeDir p) →
    IsPlaced t (p, Directory) new
dir_placed t p new parents none is =
    let free = absent_is_free (get t p) (third (is_root p) (not (is_directory t (parent p)))
    (is_present t p) Root NoParent Exists (full_causes (after_edit t (MakeDir p))) none) in
    subst (IsPlaced t (p, Directory)) (sym is) record {
      there = put_there t p Directory;
      elsewhere = stays_elsewhere t p Directory parents free;
    }

-- a file that is put has its bytes and the mode that a put leaves, and all else stays
pub put_placed : (t : Tree) (p : Path) (b : Bytes) (new : Tree) → HasParents t →
    edit_refusal t (Put p b) ≡ None → new ≡ after_edit t (Put p b) →
    (get new p ≡ Some (File (put_contents (get t p) b))) × StaysElsewhere t p new
put_placed t p b new parents none is =
    let free = third (is_root p) (not (is_directory t (parent p))) (is_directory t p) Root NoParent
    IsDirectory (full_causes (after_edit t (Put p b))) none in
    let put = File (put_contents (get t p) b) in
    subst (λ u. (get u p ≡ Some put) × StaysElsewhere t p u) (sym is)
    (put_there t p put, stays_elsewhere t p put parents free)

-- a mode that is set is there, over the same bytes, and all else stays
module _ (t : Tree) (p : Path) (mode : ℕ) (new : Tree) (parents : HasParents t)
    (none : edit_refusal t (Chmod p mode) ≡ None) (is : new ≡ after_edit t (Chmod p mode)) where
  abbrev IsThere : Option Content → Type 0
  IsThere there = (get t p ≡ there) → is_directory_content there ≡ false → is_some there ≡ true →
      ((b : Bytes) → HasBytes t p b → get new p ≡ Some (File (contents_with mode b)))
      × StaysElsewhere t p new

  by_there : (there : Option Content) → IsThere there
  by_there None found free some = absurd (true≢false (sym some))
  by_there (Some Directory) found free some = absurd (true≢false free)
  by_there (Some (File was)) found free some =
      let part = File (contents_with mode was.bytes) in
      let made : new ≡ replace t p (at_root part) =
      is ∙ ap (λ o. replace t p (with_mode o mode)) found in (
        λ b has. ap (λ u. get u p) made ∙ (put_there t p part ∙ ap (λ c. Some (File
            (contents_with mode c.bytes))) (same_file was (contents_with has.0 b)
            (same_Some _ _ (sym found ∙ has.1)))),
        subst (StaysElsewhere t p) (sym made)
            (stays_elsewhere t p part parents (ap is_directory_content found)),
      )

  pub mode_placed : ((b : Bytes) → HasBytes t p b → get new p ≡ Some (File (contents_with mode b)))
      × StaysElsewhere t p new
  mode_placed =
      let full = full_causes (after_edit t (Chmod p mode)) in
      let rest = (not (is_present t p), Absent) ∷ full in
      by_there (get t p) refl
      (third (is_root p) (not (is_directory t (parent p))) (is_directory t p) Root NoParent
      IsDirectory rest none)
      (not-false (is_present t p) (fourth (is_root p) (not (is_directory t (parent p)))
      (is_directory t p) (not (is_present t p)) Root NoParent IsDirectory Absent full none))

-- a file of a mode that has these bytes is that of both
pub same_mode : (t : Tree) (p : Path) (mode : ℕ) (b : Bytes) → HasMode t p mode → HasBytes t p b →
    get t p ≡ Some (File (contents_with mode b))
same_mode t p mode b there has =
    there.1 ∙ ap (λ c. Some (File (contents_with mode c.bytes)))
    (same_file (contents_with mode there.0) (contents_with has.0 b)
    (same_Some _ _ (sym there.1 ∙ has.1)))

-- a file whose bytes are put, and whose mode is set then, is placed
pub file_placed : (t between new : Tree) (p : Path) (c : Content) (pair : Pair) → (p, c) ≡ pair →
    StaysElsewhere t p between → get new p ≡ Some c → StaysElsewhere between p new →
    IsPlaced t pair new
file_placed t between new p c pair same first there second =
    subst (λ pair. IsPlaced t pair new) same record {
      there = there;
      elsewhere = λ q other. second q other ∙ first q other;
    }

-- ---- all of them

-- what stands at a path after a pair is placed
abbrev pub placing : Path → Option Content → Pair → Option Content
placing q there pair = cond (eq_by_cmp path_cmp q pair.0) (Some pair.1) there

pub placed_more : (q : Path) (old : Tree) (pair : Pair) (new : Tree) → IsPlaced old pair new →
    get new q ≡ placing q (get old q) pair
placed_more q old pair new placed = go (eq_by_cmp path_cmp q pair.0) refl
  where
    go : (b : Bool) → eq_by_cmp path_cmp q pair.0 ≡ b →
        get new q ≡ placing q (get old q) pair
    go true is =
        ap (get new) (same_path q pair.0 is) ∙ placed.there
        ∙ sym (ap (λ b. cond b (Some pair.1) (get old q)) is)
    go false is =
        placed.elsewhere q
        (λ e. true≢false (sym (ap (eq_by_cmp path_cmp q) (sym e) ∙ path_itself q) ∙ is))
        ∙ sym (ap (λ b. cond b (Some pair.1) (get old q)) is)

settled : Option Content → Option Content → Option Content
settled None there = there
settled (Some c) there = Some c

pub kept : (q : Path) (there : Option Content) (es : Pairs) → find path_cmp q es ≡ None →
    fold (placing q) there es ≡ there
kept q there [] none = refl
kept q there (x ∷ es) none = go (eq_by_cmp path_cmp q x.0) none (kept q there es)
  where
    go : (b : Bool) → cond b (Some x.1) (find path_cmp q es) ≡ None →
        (find path_cmp q es ≡ None → fold (placing q) there es ≡ there) →
        fold (placing q) (cond b (Some x.1) there) es ≡ there
    go true none rest = absurd (none-some _ (sym none))
    go false none rest = rest none

settles : (q : Path) (there : Option Content) (es : Pairs) → Rising es →
    fold (placing q) there es ≡ settled (find path_cmp q es) there
unfolding settled
settles q there [] rising = refl
settles q there (x ∷ es) rising =
    go (eq_by_cmp path_cmp q x.0) refl (settles q there es rising.1)
  where
    go : (b : Bool) → eq_by_cmp path_cmp q x.0 ≡ b →
        fold (placing q) there es ≡ settled (find path_cmp q es) there →
        fold (placing q) (cond b (Some x.1) there) es
        ≡ settled (cond b (Some x.1) (find path_cmp q es)) there
    go true is rest =
        kept q (Some x.1) es
        (ap (λ p. find path_cmp p es) (same_path q x.0 is) ∙ find_after x.0 es rising.0)
    go false is rest = rest

pub overlaid : (old wanted new : Tree) (list : Pairs) → rooted list ≡ entries wanted →
    get old root ≡ Some Directory →
    ((q : Path) → get new q ≡ fold (placing q) (get old q) list) → IsOverlaid old wanted new
unfolding settled
overlaid old wanted new list all top placed = record {
  there = λ q c is. there q c (eq_by_cmp path_cmp q root) refl (by_list q ∙ is);
  elsewhere = λ q none. elsewhere q (eq_by_cmp path_cmp q root) (by_list q ∙ none);
}
  where
    rising : Rising (rooted list)
    rising = subst Rising (sym all) (rising-entries wanted)

    by_list : (q : Path) → find path_cmp q (rooted list) ≡ get wanted q
    by_list q = ap (find path_cmp q) all ∙ sym (get-entries wanted q)

    there : (q : Path) (c : Content) (b : Bool) → eq_by_cmp path_cmp q root ≡ b →
        cond b (Some Directory) (find path_cmp q list) ≡ Some c → get new q ≡ Some c
    there q c true same is =
        let Q : Path → Type 0 = λ p. get new p ≡ Some c in
        subst Q (sym (same_path q root same))
        (placed root ∙ (kept root (get old root) list (find_after root list rising.0)
        ∙ (top ∙ is)))
    there q c false same is =
        placed q ∙ (settles q (get old q) list rising.1 ∙ ap (λ o. settled o (get old q)) is)

    elsewhere : (q : Path) (b : Bool) →
        cond b (Some Directory) (find path_cmp q list) ≡ None → get new q ≡ get old q
    elsewhere q true none = absurd (none-some _ (sym none))
    elsewhere q false none = placed q ∙ kept q (get old q) list none
