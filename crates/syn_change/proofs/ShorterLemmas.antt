-- What becomes shorter is put first, and what is needed then was needed before.
use Rattle.std.proofs.Common.{◌≡◌, ◌∙◌, ℕ, Bool, true, false, cond, if◌then◌else◌, [], ◌∷◌}
use Rattle.std.proofs.Common.{◌++◌, nat_lt, length, refl, sym, ap, subst, Option, Some, None, arith}
use Rattle.std.proofs.Common.{true≢false, List}
use Rattle.std.proofs.lemmas.Bool.Decides.{nat_tests}
use Rattle.std.proofs.lemmas.Option.{same_Some}
use Rattle.std.specs.FinMap.{get, find, entries, get-entries}
use Rattle.std.specs.FinMap.Entries.{find-append}
use Rattle.std.specs.Ordering.{eq_by_cmp}
use Rattle.syn_model.specs.Contents.{contents_with}
use Rattle.syn_model.specs.Event.{Edit, Put, MakeDir, Remove, Chmod, edited_path, put_contents}
use Rattle.syn_model.specs.Event.{put_mode}
use Rattle.syn_model.specs.Path.{Bytes, Path, path_cmp, root}
use Rattle.syn_model.specs.Tree.{Tree, Content, Directory, File, Pair}
use Rattle.syn_model.proofs.HistoryLemmas.{same_file}
use Rattle.syn_model.proofs.PathLemmas.{path_itself, path_total, same_path}
use Rattle.syn_placed.specs.Pairs.{Pairs, rooted}
use Rattle.syn_placed.proofs.FindLemmas.{find_after}
use Rattle.syn_tree.specs.declared.edit.Edit.{Edit as Planned}
use Rattle.syn_change.specs.Changes.{GoesOn, HasBytes, IsAddition, IsOverlaid, are_alike}
use Rattle.syn_change.specs.inner.Shorter.{AreShortened, IsShortenedAt, IsShorterFirst, Shortens}
use Rattle.syn_change.specs.inner.Shorter.{ShortensTo, is_longer, shortened}
use Rattle.syn_change.proofs.NeedLemmas.{IsAmong}
use Rattle.syn_change.proofs.StandingLemmas.{rising_below}
use Rattle.syn_model.proofs.BaseLemmas.{each_with}

-- ---- one pair after the other

pub shortened_more : (q : Path) (old work : Tree) (front : Pairs) (pair : Pair) (new : Tree) →
    find path_cmp pair.0 front ≡ None →
    ((p : Path) → get work p ≡ shortened (get old p) (find path_cmp p front)) →
    IsShortenedAt work pair new →
    get new q ≡ shortened (get old q) (find path_cmp q (front ++ pair ∷ []))
shortened_more q old work front pair new none so_far step =
    go (eq_by_cmp path_cmp q pair.0) refl
    ∙ sym (ap (shortened (get old q)) (find-append path_cmp path_total front pair.0 pair.1 q none))
  where
    here : get new pair.0 ≡ shortened (get old pair.0) (Some pair.1)
    here =
        step.there
        ∙ ap (λ o. shortened o (Some pair.1)) (so_far pair.0
        ∙ ap (shortened (get old pair.0)) none)

    go : (b : Bool) → eq_by_cmp path_cmp q pair.0 ≡ b →
        get new q ≡ shortened (get old q) (cond b (Some pair.1) (find path_cmp q front))
    go true is =
        subst (λ p. get new p ≡ shortened (get old p) (Some pair.1)) (sym (same_path q pair.0 is))
        here
    go false is =
        step.elsewhere q
        (λ e. true≢false (sym (ap (eq_by_cmp path_cmp q) (sym e) ∙ path_itself q) ∙ is))
        ∙ so_far q

-- the root is a directory, and stays
pub shortened_all : (old wanted new : Tree) (list : Pairs) → rooted list ≡ entries wanted →
    ((q : Path) → get new q ≡ shortened (get old q) (find path_cmp q list)) →
    AreShortened old wanted new
shortened_all old wanted new list all placed q =
    go (eq_by_cmp path_cmp q root) refl
    (ap (find path_cmp q) all ∙ sym (get-entries wanted q))
  where
    go : (b : Bool) → eq_by_cmp path_cmp q root ≡ b →
        cond b (Some Directory) (find path_cmp q list) ≡ get wanted q →
        get new q ≡ shortened (get old q) (get wanted q)
    go true same is =
        placed q
        ∙ (ap (shortened (get old q)) (ap (λ p. find path_cmp p list) (same_path q root same)
        ∙ find_after root list (rising_below wanted list all).0)
        ∙ ap (shortened (get old q)) is)
    go false same is = placed q ∙ ap (shortened (get old q)) is

-- what shortens the pair's file shortens one of the wanted tree
pub shortens_to : (work old wanted : Tree) (pair : Pair) (e : Edit) →
    get work pair.0 ≡ get old pair.0 → get wanted pair.0 ≡ Some pair.1 → ShortensTo work pair e →
    Shortens old wanted e × (edited_path e ≡ pair.0)
shortens_to work old wanted (p, Directory) e same there is = absurd is
shortens_to work old wanted (p, File c) e same there is =
    subst (λ e. Shortens old wanted e × (edited_path e ≡ p)) (sym is.0)
    (((c.mode, there), ap (λ o. is_longer o c.bytes) (sym same) ∙ is.1), refl)

-- an edit shortens a file at the path of one of the pairs
abbrev pub ShortensIn : Tree → Tree → Pairs → Edit → Type 0
ShortensIn old wanted front edit = Shortens old wanted edit × IsAmong front (edited_path edit)

-- ---- what is put then

none_longer : (n : ℕ) → nat_lt n n ≡ false
none_longer n = grind (arith, nat_tests)

-- a file is not longer than one with the same bytes
same_bytes : (t : Tree) (p : Path) (b : Bytes) → HasBytes t p b → is_longer (get t p) b ≡ false
same_bytes t p b has = ap (λ o. is_longer o b) has.1 ∙ none_longer (length b)

mode_kept : (there wanted : Option Content) → put_mode (shortened there wanted) ≡ put_mode there
mode_kept there None = refl
mode_kept there (Some Directory) = refl
mode_kept there (Some (File c)) = at (is_longer there c.bytes)
  where
    at : (b : Bool) →
        put_mode (if b then Some (File (put_contents there c.bytes)) else there) ≡ put_mode there
    at true = refl
    at false = refl

pub shortens_adds : (old wanted : Tree) (e : Edit) → Shortens old wanted e →
    IsAddition old wanted e
shortens_adds old wanted (Put p b) is =
    ((is.0, λ has. true≢false (sym is.1 ∙ same_bytes old p b has)), refl)
shortens_adds old wanted (MakeDir p) is = absurd is
shortens_adds old wanted (Remove p) is = absurd is
shortens_adds old wanted (Chmod p m) is = absurd is

module _ (old wanted work : Tree) (short : AreShortened old wanted work) where
  stays : (p : Path) (b : Bytes) → HasBytes wanted p b → HasBytes old p b → HasBytes work p b
  stays p b over has = (
    has.0,
    short p ∙ (ap (shortened (get old p)) over.1
        ∙ (ap (λ c. if c then Some (File (put_contents (get old p) b)) else get old p)
        (same_bytes old p b has) ∙ has.1)),
  )

  comes : (p : Path) (b : Bytes) → HasBytes wanted p b → is_longer (get old p) b ≡ true →
      HasBytes work p b
  comes p b over longer = (
    put_mode (get old p),
    short p ∙ (ap (shortened (get old p)) over.1
        ∙ ap (λ c. if c then Some (File (put_contents (get old p) b)) else get old p) longer),
  )

  -- an addition that is needed afterwards is needed before, too
  pub added_before : (e : Edit) → IsAddition work wanted e → IsAddition old wanted e
  added_before (Put p b) is =
      ((is.0.0, λ has. is.0.1 (stays p b is.0.0 has)), refl)
  added_before (MakeDir p) is =
      ((is.0.0, λ has. is.0.1 (short p ∙ (ap (shortened (get old p)) is.0.0 ∙ has))), refl)
  added_before (Remove p) is = absurd (true≢false is.1)
  added_before (Chmod p m) is = (
    (
      is.0.0,
      λ has. is.0.1 (ap put_mode (short p) ∙ (mode_kept (get old p) (get wanted p) ∙ has)),
    ),
    refl,
  )

  wanted_once : (p : Path) (b d : Bytes) → HasBytes wanted p b → HasBytes wanted p d → b ≡ d
  wanted_once p b d one two =
      ap (λ c. c.bytes) (same_file (contents_with one.0 b) (contents_with two.0 d)
      (same_Some _ _ (sym one.1 ∙ two.1)))

  -- what was put stands, and is not put again
  pub shortens_apart : (x y : Edit) → Shortens old wanted x → IsAddition work wanted y →
      are_alike x y ≡ false
  shortens_apart (MakeDir p) y is adds = absurd is
  shortens_apart (Remove p) y is adds = absurd is
  shortens_apart (Chmod p m) y is adds = absurd is
  shortens_apart (Put p b) (MakeDir q) is adds = refl
  shortens_apart (Put p b) (Remove q) is adds = refl
  shortens_apart (Put p b) (Chmod q m) is adds = refl
  shortens_apart (Put p b) (Put q d) is adds = go (eq_by_cmp path_cmp p q) refl
    where
      go : (c : Bool) → eq_by_cmp path_cmp p q ≡ c → are_alike (Put p b) (Put q d) ≡ false
      go false other = other
      go true same =
          let at = same_path p q same in
          let over = subst (λ r. HasBytes wanted r b) at is.0 in
          let longer = subst (λ r. is_longer (get old r) b ≡ true) at is.1 in
          absurd (adds.0.1 (subst (HasBytes work q) (wanted_once q b d over adds.0.0)
          (comes q b over longer)))

  added_no_shorter : (e : Edit) → IsAddition work wanted e → ¬ Shortens old wanted e
  added_no_shorter (Put p b) adds is = adds.0.1 (comes p b is.0 is.1)
  added_no_shorter (MakeDir p) adds is = is
  added_no_shorter (Remove p) adds is = is
  added_no_shorter (Chmod p m) adds is = is

  pub shorter_first : (new : Tree) (es fs gs : List Planned) →
      GoesOn (Shortens old wanted) old es work fs → GoesOn (IsAddition work wanted) work fs new gs →
      IsShorterFirst old wanted es gs
  shorter_first new es fs gs one two = record {
    first = one.added;
    rest = two.added;
    are = two.are ∙ ap (λ xs. xs ++ two.added) one.are;
    shorten = one.each;
    others =
        each_with (IsAddition work wanted) (λ e. ¬ Shortens old wanted e) added_no_shorter two.added
        two.each;
  }

  pub overlaid_before : (new : Tree) → IsOverlaid work wanted new → IsOverlaid old wanted new
  overlaid_before new over = record {
    there = over.there;
    elsewhere = λ q none. over.elsewhere q none ∙ (short q ∙ ap (shortened (get old q)) none);
  }
