-- Which edits are needed.
use Rattle.std.proofs.Common.{◌≡◌, ◌≢◌, ◌⊎◌, ◌∙◌, ℕ, List, map, length, arith, Bool, true, false}
use Rattle.std.proofs.Common.{cond, ◌&&◌, [], ◌∷◌, ◌++◌}
use Rattle.std.proofs.Common.{refl, sym, ap, ap₂, subst, Option, Some, None, IsSome, is_some, inl}
use Rattle.std.proofs.Common.{inr, true≢false}
use Rattle.std.specs.List.{AllByRecursion, IsDistinct}
use Rattle.std.specs.FinMap.{get, find}
use Rattle.std.specs.Ordering.{eq_by_cmp}
use Rattle.syn_model.specs.Contents.{Contents, contents_with}
use Rattle.syn_model.specs.Event.{Edit, Put, MakeDir, Remove, Chmod, edited_path, put_mode}
use Rattle.syn_model.specs.Path.{Bytes, Path, path_cmp}
use Rattle.syn_model.specs.Tree.{Tree, Content, Directory, File, Pair}
use Rattle.syn_model.proofs.PathLemmas.{same_path, path_itself}
use Rattle.syn_placed.specs.Pairs.{Pairs}
use Rattle.syn_tree.specs.Edits.{edit_of}
use Rattle.syn_tree.specs.declared.edit.Edit.{Edit as Planned}
use Rattle.syn_change.specs.Changes.{AreChanges, ChangesMode, GoesOn, HasBytes, HasMode, IsAddition}
use Rattle.syn_change.specs.Changes.{IsLess, IsNeeded, IsNeededFor, PutsBytes, after_edits}
use Rattle.syn_change.specs.Changes.{are_alike, are_of_one_kind, can_stay, is_removal}
use Rattle.syn_change.proofs.GoingLemmas.{goes_twice}
use Rattle.syn_model.proofs.BaseLemmas.{and_false}

-- a mode that is set after a put is one that the put does not leave
pub mode_needed : (t between : Tree) (p : Path) (b : Bytes) (mode : ℕ) (e : Edit) →
    HasBytes between p b → put_mode (get between p) ≡ put_mode (get t p) →
    ChangesMode between p mode e → (e ≡ Chmod p mode) × (put_mode (get t p) ≢ mode)
mode_needed t between p b mode e has kept changes = (
  changes.0,
  λ is. changes.1 (
    b,
    has.1 ∙ ap (λ m. Some (File (contents_with m b)))
        (sym (ap put_mode has.1) ∙ (kept ∙ is)),
  ),
)

-- a put and a change of a mode are not of one kind
pub put_and_mode : (t u : Tree) (p q : Path) (b : Bytes) (mode : ℕ) (x y : Edit) →
    PutsBytes t p b x → ChangesMode u q mode y → are_alike x y ≡ false
put_and_mode t u p q b mode x y puts changes = ap₂ are_alike puts.0 changes.0

-- edits at two paths are not alike
pub apart : (x y : Edit) → edited_path x ≢ edited_path y → are_alike x y ≡ false
apart x y other =
    ap (λ b. are_of_one_kind x y && b) (differ (eq_by_cmp path_cmp (edited_path x) (edited_path y))
    refl) ∙ and_false (are_of_one_kind x y)
  where
    differ : (b : Bool) → eq_by_cmp path_cmp (edited_path x) (edited_path y) ≡ b → b ≡ false
    differ true is = absurd (other (same_path (edited_path x) (edited_path y) is))
    differ false is = refl

-- what a pair of the wanted tree needs is needed, where the old tree has what is there
pub needed_for : (work old wanted : Tree) (pair : Pair) (e : Edit) →
    get work pair.0 ≡ get old pair.0 → get wanted pair.0 ≡ Some pair.1 → IsNeededFor work pair e →
    IsAddition old wanted e × (edited_path e ≡ pair.0)
needed_for work old wanted (p, Directory) e same there needs =
    subst (λ e. IsAddition old wanted e × (edited_path e ≡ p)) (sym needs.0)
    (((there, λ is. needs.1 (same ∙ is)), refl), refl)
needed_for work old wanted (p, File c) e same there (inl puts) =
    subst (λ e. IsAddition old wanted e × (edited_path e ≡ p)) (sym puts.0)
    ((((c.mode, there), λ has. puts.1 (has.0, same ∙ has.1)), refl), refl)
needed_for work old wanted (p, File c) e same there (inr changes) =
    subst (λ e. IsAddition old wanted e × (edited_path e ≡ p)) (sym changes.0)
    ((((c.bytes, there), λ is. changes.1 (ap put_mode same ∙ is)), refl), refl)

-- ---- the paths of edits among those of pairs

-- the path is that of one of the pairs
abbrev pub IsAmong : Pairs → Path → Type 0
IsAmong pairs path = IsSome (find path_cmp path pairs)

pub still_among : (front others : Pairs) (path : Path) → IsAmong front path →
    IsAmong (front ++ others) path
still_among [] others path among = absurd (true≢false (sym among))
still_among (x ∷ front) others path among =
    at (eq_by_cmp path_cmp path x.0) among (still_among front others path)
  where
    at : (b : Bool) → IsSome (cond b (Some x.1) (find path_cmp path front)) →
        (IsAmong front path → IsAmong (front ++ others) path) →
        IsSome (cond b (Some x.1) (find path_cmp path (front ++ others)))
    at true among rest = among
    at false among rest = rest among

pub last_among : (front : Pairs) (pair : Pair) (path : Path) → path ≡ pair.0 →
    IsAmong (front ++ pair ∷ []) path
last_among [] pair path is =
    ap (λ b. is_some (cond b (Some pair.1) None))
    (ap (λ p. eq_by_cmp path_cmp p pair.0) is ∙ path_itself pair.0)
last_among (x ∷ front) pair path is =
    at (eq_by_cmp path_cmp path x.0) (last_among front pair path is)
  where
    at : (b : Bool) → IsAmong (front ++ pair ∷ []) path →
        IsSome (cond b (Some x.1) (find path_cmp path (front ++ pair ∷ [])))
    at true rest = refl
    at false rest = rest

-- an edit at the path of one of the pairs is not alike with one at another path
pub apart_from : (front : Pairs) (path : Path) (x y : Edit) → find path_cmp path front ≡ None →
    IsAmong front (edited_path x) → edited_path y ≡ path → are_alike x y ≡ false
apart_from front path x y none among is =
    apart x y (λ same. true≢false (sym among
    ∙ (ap (λ p. is_some (find path_cmp p front)) (same ∙ is) ∙ ap is_some none)))

-- what is planned for one pair more goes on from what was planned for those before it
pub goes_in_turn : (P Q : Edit → Type 0) (front : Pairs) (pair : Pair) (a b c : Tree)
    (es fs gs : List Planned) → find path_cmp pair.0 front ≡ None →
    ((e : Edit) → Q e → P e × (edited_path e ≡ pair.0)) →
    GoesOn (λ e. P e × IsAmong front (edited_path e)) a es b fs → GoesOn Q b fs c gs →
    GoesOn (λ e. P e × IsAmong (front ++ pair ∷ []) (edited_path e)) a es c gs
goes_in_turn P Q front pair a b c es fs gs none needs =
    goes_twice (λ e. P e × IsAmong front (edited_path e)) Q
    (λ e. P e × IsAmong (front ++ pair ∷ []) (edited_path e)) a b c es fs gs
    (λ e is. (is.0, still_among front (pair ∷ []) (edited_path e) is.1))
    (λ e is. let need = needs e is in (need.0, last_among front pair (edited_path e) need.1))
    (λ x y in_front is. apart_from front pair.0 x y none in_front.1 (needs y is).1)

-- an edit is an addition at the path of one of the pairs
abbrev pub IsAdditionIn : Tree → Tree → Pairs → Edit → Type 0
IsAdditionIn old wanted front edit = IsAddition old wanted edit × IsAmong front (edited_path edit)

-- ---- of whole lists

stays_itself : (o : Option Content) → IsSome o → can_stay o o ≡ true
stays_itself None some = absurd (true≢false (sym some))
stays_itself (Some Directory) some = refl
stays_itself (Some (File c)) some = refl

-- where the trees are equal no edit is needed
none_idle : (t : Tree) (e : Edit) → IsNeeded t t e → ⊥
none_idle t (Put p b) needed = needed.1 needed.0
none_idle t (MakeDir p) needed = needed.1 needed.0
none_idle t (Remove p) needed =
    true≢false (sym (stays_itself (get t p) needed.0) ∙ needed.1)
none_idle t (Chmod p m) needed = needed.1 (ap put_mode needed.0.1)

no_map : {A B : Type 0} (f : A → B) (xs : List A) → map f xs ≡ [] → xs ≡ []
no_map f [] is = refl
no_map f (x ∷ xs) is = absurd (omega (arith, ap length is))

none_of : (t : Tree) (es : List Edit) → AllByRecursion (IsNeeded t t) es → es ≡ []
none_of t [] needed = refl
none_of t (e ∷ es) needed = absurd (none_idle t e needed.0)

pub none_needed : (old wanted : Tree) (edits : List Planned) → old ≡ wanted →
    AreChanges old wanted (map edit_of edits) → edits ≡ []
none_needed old wanted edits same changes =
    no_map edit_of edits (none_of wanted (map edit_of edits)
    (subst (λ t. AllByRecursion (IsNeeded t wanted) (map edit_of edits)) same changes.needed))

-- an addition that is needed after the removals is needed before them, too
module _ (old wanted work : Tree) (less : IsLess old wanted work) where
  put_before : (p : Path) (b : Bytes) →
      (get work p ≡ get old p) ⊎ ((get work p ≡ None)
      × (can_stay (get old p) (get wanted p) ≡ false)) → HasBytes wanted p b →
      ¬ HasBytes work p b → ¬ HasBytes old p b
  put_before p b (inl same) over not has = not (has.0, same ∙ has.1)
  put_before p b (inr gone) over not has =
      true≢false (sym (ap (λ o. can_stay o (get wanted p)) has.1
      ∙ ap (can_stay (Some (File (contents_with has.0 b)))) over.1) ∙ gone.1)

  dir_before : (p : Path) →
      (get work p ≡ get old p) ⊎ ((get work p ≡ None)
      × (can_stay (get old p) (get wanted p) ≡ false)) → get wanted p ≡ Some Directory →
      get work p ≢ Some Directory → get old p ≢ Some Directory
  dir_before p (inl same) over not has = not (same ∙ has)
  dir_before p (inr gone) over not has =
      true≢false (sym (ap (λ o. can_stay o (get wanted p)) has
      ∙ ap (can_stay (Some Directory)) over) ∙ gone.1)

  left_mode : (o : Option Content) (c : Contents) → can_stay o (Some (File c)) ≡ false →
      put_mode o ≡ put_mode None
  left_mode None c gone = refl
  left_mode (Some Directory) c gone = refl
  left_mode (Some (File x)) c gone = absurd (true≢false gone)

  mode_before : (p : Path) (m : ℕ) →
      (get work p ≡ get old p) ⊎ ((get work p ≡ None)
      × (can_stay (get old p) (get wanted p) ≡ false)) → HasMode wanted p m →
      put_mode (get work p) ≢ m → put_mode (get old p) ≢ m
  mode_before p m (inl same) over not is = not (ap put_mode same ∙ is)
  mode_before p m (inr gone) over not is =
      not (ap put_mode gone.0 ∙ (sym (left_mode (get old p) (contents_with m over.0)
      (sym (ap (can_stay (get old p)) over.1) ∙ gone.1)) ∙ is))

  pub needed_before : (e : Edit) → IsAddition work wanted e → IsNeeded old wanted e
  needed_before (Put p b) is = (is.0.0, put_before p b (less p) is.0.0 is.0.1)
  needed_before (MakeDir p) is = (is.0.0, dir_before p (less p) is.0.0 is.0.1)
  needed_before (Remove p) is = absurd (true≢false is.1)
  needed_before (Chmod p m) is = (is.0.0, mode_before p m (less p) is.0.0 is.0.1)

-- a removal and an addition are not alike
pub kinds_apart : (x y : Edit) → is_removal x ≡ true → is_removal y ≡ false →
    are_alike x y ≡ false
kinds_apart (Put p b) y is other = absurd (true≢false (sym is))
kinds_apart (MakeDir p) y is other = absurd (true≢false (sym is))
kinds_apart (Chmod p m) y is other = absurd (true≢false (sym is))
kinds_apart (Remove p) (Put q b) is other = refl
kinds_apart (Remove p) (MakeDir q) is other = refl
kinds_apart (Remove p) (Remove q) is other = absurd (true≢false other)
kinds_apart (Remove p) (Chmod q m) is other = refl

-- all edits were added where there were none
pub added_all : (P : Edit → Type 0) (old : Tree) (es : List Planned) (new : Tree)
    (fs : List Planned) → es ≡ [] → (on : GoesOn P old es new fs) → on.added ≡ map edit_of fs
added_all P old es new fs none on =
    sym (on.are ∙ ap (λ xs. map edit_of xs ++ on.added) none)

pub changes_of : (old wanted new : Tree) (es fs : List Planned) → es ≡ [] → new ≡ wanted →
    GoesOn (IsNeeded old wanted) old es new fs → AreChanges old wanted (map edit_of fs)
changes_of old wanted new es fs none is on =
    let all = added_all (IsNeeded old wanted) old es new fs none on in
    record {
      make = ap (after_edits old) (sym all) ∙ (on.make ∙ is);
      needed = subst (AllByRecursion (IsNeeded old wanted)) all on.each;
      once = subst (IsDistinct are_alike) all on.once;
    }
