-- What is removed is gone, and what can stay is there.
use Rattle.std.proofs.Common.{◌≡◌, ◌≢◌, ◌⊎◌, ◌∙◌, Bool, true, false, cond, if◌then◌else◌, [], ◌∷◌}
use Rattle.std.proofs.Common.{◌++◌, refl, sym, ap, subst, Option, Some, None, IsSome, is_some}
use Rattle.std.proofs.Common.{append-nil, not, inl, inr, true≢false, Less}
use Rattle.std.proofs.lemmas.Option.{none-some}
use Rattle.std.specs.List.{AllByRecursion}
use Rattle.std.specs.Ordering.{eq_by_cmp}
use Rattle.std.specs.FinMap.{get, find, entries, get-empty, get-entries}
use Rattle.syn_model.specs.Event.{Edit, Remove, edited_path}
use Rattle.syn_model.specs.Limits.{fits_replica}
use Rattle.syn_model.specs.Path.{Name, Path, path_cmp, root, strip_prefix, is_root, parent}
use Rattle.syn_model.specs.Refusal.{Refusal, Full}
use Rattle.syn_model.specs.Standing.{edit_refusal}
use Rattle.syn_model.specs.Tree.{Tree, Content, Directory, File, HasParents, IsTree, Pair, absent}
use Rattle.syn_model.specs.Tree.{is_directory_content, replace}
use Rattle.syn_model.proofs.PathLemmas.{same_path, strip_prefix-append, strip_prefix-is, last_of}
use Rattle.syn_model.proofs.TreeLemmas.{within, beside, same_tree}
use Rattle.syn_placed.specs.Pairs.{Pairs, rooted}
use Rattle.syn_placed.proofs.ParentLemmas.{place_allowed}
use Rattle.syn_placed.proofs.OrderLemmas.{first_of_all}
use Rattle.syn_placed.proofs.RisingLemmas.{After, Rising}
use Rattle.syn_tree.proofs.CheckLemmas.{remove_answer, rest_fits}
use Rattle.syn_tree.proofs.LawfulLemmas.{each-find}
use Rattle.syn_placed.proofs.FindLemmas.{after_more}
use Rattle.syn_tree.specs.Refusals.{refusal_of}
use Rattle.syn_tree.specs.declared.error.TreeError.{TreeError}
use Rattle.syn_tree.specs.declared.error.TreeError.TheVariants as error
use Rattle.syn_change.specs.Changes.{IsLess, IsOverlaid, IsRemoval, IsTrimmed, IsWithout, Removes}
use Rattle.syn_change.specs.Changes.{can_stay}
use Rattle.syn_change.proofs.NeedLemmas.{IsAmong}
use Rattle.syn_change.proofs.StandingLemmas.{found_in_front, rising_below}
use Rattle.syn_model.proofs.BaseLemmas.{each_append, each_with}

none_some : (o : Option Content) → o ≡ None → IsSome o → ⊥
none_some o none some = true≢false (sym some ∙ ap is_some none)

-- ---- what can stay

stays_some : (there wanted : Option Content) → can_stay there wanted ≡ true → IsSome wanted
stays_some None wanted h = absurd (true≢false (sym h))
stays_some (Some Directory) None h = absurd (true≢false (sym h))
stays_some (Some Directory) (Some wanted) h = refl
stays_some (Some (File c)) None h = absurd (true≢false (sym h))
stays_some (Some (File c)) (Some wanted) h = refl

pub stays_directory : (wanted : Option Content) → can_stay (Some Directory) wanted ≡ true →
    wanted ≡ Some Directory
stays_directory None h = absurd (true≢false (sym h))
stays_directory (Some Directory) h = refl
stays_directory (Some (File c)) h = absurd (true≢false (sym h))

none_stays : (there : Option Content) → can_stay there None ≡ false
none_stays None = refl
none_stays (Some Directory) = refl
none_stays (Some (File c)) = refl

-- ---- one removal

-- what cannot stay is not the root, and stands in a directory
pub stands_below : (t wanted : Tree) (p : Path) → IsTree t → IsTree wanted →
    IsSome (get t p) → can_stay (get t p) (get wanted p) ≡ false →
    (is_root p ≡ false) × (get t (parent p) ≡ Some Directory)
stands_below t wanted [] is_t is_wanted some gone =
    absurd (true≢false (sym (ap (λ o. can_stay o (get wanted root)) is_t.rooted
    ∙ ap (can_stay (Some Directory)) is_wanted.rooted) ∙ gone))
stands_below t wanted (n ∷ p) is_t is_wanted some gone =
    let last = last_of n p in (
      refl,
      is_t.part.parents (parent (n ∷ p)) last.0 []
          (subst (λ q. IsSome (get t q)) last.1 some),
    )

pub removed : (t wanted : Tree) (p : Path) (new : Tree) → HasParents t → HasParents wanted →
    can_stay (get t p) (get wanted p) ≡ false → new ≡ replace t p absent →
    IsWithout t wanted p new
removed t wanted p new above over gone is =
    let Q : Tree → Type 0 = λ u. IsWithout t wanted p u in
    subst Q (sym is) record {
      trimmed = λ some. absurd (none_some _
          (within t p absent p [] (ap (strip_prefix p) (sym (append-nil p))
          ∙ strip_prefix-append p []) ∙ get-empty path_cmp []) some);
      less = λ q. at q (strip_prefix p q) refl;
    }
  where
    -- what stands below what cannot stay cannot stay
    below : (n : Name) (r : Path) (o w : Option Content) → get t (p ++ n ∷ r) ≡ o →
        get wanted (p ++ n ∷ r) ≡ w → can_stay o w ≡ false
    below n r None w is is' = refl
    below n r (Some c) None is is' = none_stays (Some c)
    below n r (Some c) (Some d) is is' =
        let dir : get t p ≡ Some Directory = above p n r (ap is_some is) in
        let dir' : get wanted p ≡ Some Directory = over p n r (ap is_some is') in
        absurd (true≢false (sym (ap (λ o. can_stay o (get wanted p)) dir
        ∙ ap (can_stay (Some Directory)) dir') ∙ gone))

    goes : (q r : Path) → q ≡ p ++ r → can_stay (get t q) (get wanted q) ≡ false
    goes q [] is =
        subst (λ x. can_stay (get t x) (get wanted x) ≡ false) (sym (is ∙ append-nil p)) gone
    goes q (n ∷ r) is =
        subst (λ x. can_stay (get t x) (get wanted x) ≡ false) (sym is)
        (below n r (get t (p ++ n ∷ r)) (get wanted (p ++ n ∷ r)) refl refl)

    at : (q : Path) (o : Option Path) → strip_prefix p q ≡ o →
        (get (replace t p absent) q ≡ get t q)
        ⊎ ((get (replace t p absent) q ≡ None) × (can_stay (get t q) (get wanted q) ≡ false))
    at q None is = inl (beside t p absent q is)
    at q (Some r) is =
        inr (within t p absent q r is ∙ get-empty path_cmp r, goes q r (strip_prefix-is p q r is))

-- it is not refused
pub removable : (t : Tree) (p : Path) → fits_replica t ≡ true → is_root p ≡ false →
    get t (parent p) ≡ Some Directory → IsSome (get t p) → edit_refusal t (Remove p) ≡ None
removable t p fits below dir some =
    let place = place_allowed t p below (ap is_directory_content dir) in
    remove_answer t p place some
    ∙ ap (λ b. if not b then Some Full else None) (rest_fits t p fits place)

is_memory : TreeError → Bool
is_memory error.Memory = true
is_memory _ = false

-- what is refused otherwise for no cause is refused for lack of memory
pub only_memory : (e : TreeError) (o : Option Refusal) → o ≡ None →
    (e ≢ error.Memory → o ≡ Some (refusal_of e)) → e ≡ error.Memory
unfolding is_memory
only_memory error.NoParent o none refused = absurd (none-some _ (sym none
    ∙ refused (λ is. true≢false (sym (ap is_memory is)))))
only_memory error.IsDirectory o none refused = absurd (none-some _ (sym none
    ∙ refused (λ is. true≢false (sym (ap is_memory is)))))
only_memory error.Exists o none refused = absurd (none-some _ (sym none
    ∙ refused (λ is. true≢false (sym (ap is_memory is)))))
only_memory error.Absent o none refused = absurd (none-some _ (sym none
    ∙ refused (λ is. true≢false (sym (ap is_memory is)))))
only_memory error.Root o none refused = absurd (none-some _ (sym none
    ∙ refused (λ is. true≢false (sym (ap is_memory is)))))
only_memory error.Full o none refused = absurd (none-some _ (sym none
    ∙ refused (λ is. true≢false (sym (ap is_memory is)))))
only_memory error.Memory o none refused = refl

-- ---- all of them

-- nothing is at the path of the pair that cannot stay
abbrev pub IsFine : Tree → Tree → Pair → Type 0
IsFine wanted tree pair = IsSome (get tree pair.0)
    → can_stay (get tree pair.0) (get wanted pair.0) ≡ true

-- what came of the removals so far
pub record AreRemoved (old wanted : Tree) (front : Pairs) (new : Tree) : Type 0 where
  pub fine : AllByRecursion (IsFine wanted new) front
  pub less : IsLess old wanted new

pub none_removed : (old wanted : Tree) → AreRemoved old wanted [] old
none_removed old wanted = record { fine = tt; less = λ q. inl refl }

-- what only went can stay as before
still : (before after wanted : Option Content) →
    (after ≡ before) ⊎ ((after ≡ None) × (can_stay before wanted ≡ false)) →
    (IsSome before → can_stay before wanted ≡ true) → IsSome after → can_stay after wanted ≡ true
still before after wanted (inl same) fine some =
    ap (λ o. can_stay o wanted) same ∙ fine (subst IsSome same some)
still before after wanted (inr none) fine some = absurd (none_some after none.0 some)

pub removed_more : (old wanted : Tree) (front : Pairs) (work : Tree) (pair : Pair) (new : Tree) →
    AreRemoved old wanted front work → IsWithout work wanted pair.0 new →
    AreRemoved old wanted (front ++ pair ∷ []) new
removed_more old wanted front work pair new so_far step = record {
  fine = each_append (IsFine wanted new) front (pair ∷ [])
      (each_with (IsFine wanted work) (IsFine wanted new)
      (λ e fine. still _ _ (get wanted e.0) (step.less e.0) fine) front so_far.fine)
      (step.trimmed, tt);
  less = λ q. both (get wanted q) (step.less q) (so_far.less q);
}
  where
    both : {a b c : Option Content} (w : Option Content) →
        (a ≡ b) ⊎ ((a ≡ None) × (can_stay b w ≡ false)) →
        (b ≡ c) ⊎ ((b ≡ None) × (can_stay c w ≡ false)) →
        (a ≡ c) ⊎ ((a ≡ None) × (can_stay c w ≡ false))
    both w (inl same) (inl before) = inl (same ∙ before)
    both w (inl same) (inr none) = inr (same ∙ none.0, none.1)
    both w (inr none) (inl before) = inr (none.0, subst (λ o. can_stay o w ≡ false) before none.1)
    both w (inr none) (inr before) = inr (none.0, before.1)

still_there : (before after wanted : Option Content) →
    (after ≡ before) ⊎ ((after ≡ None) × (can_stay before wanted ≡ false)) →
    IsSome after → after ≡ before
still_there before after wanted (inl same) some = same
still_there before after wanted (inr none) some = absurd (none_some after none.0 some)

-- what is left stands in the old tree, too
pub was_there : (old wanted new : Tree) (q : Path) → IsLess old wanted new → IsSome (get new q) →
    get new q ≡ get old q
was_there old wanted new q less some = still_there _ _ (get wanted q) (less q) some

-- all that stands at a path of the list is fine
pub fine_in : (list : Pairs) (wanted new : Tree) (q : Path) (c : Content) →
    AllByRecursion (IsFine wanted new) list → find path_cmp q list ≡ Some c → IsSome (get new q) →
    can_stay (get new q) (get wanted q) ≡ true
fine_in list wanted new q c fine is =
    each-find (λ p c. IsSome (get new p) → can_stay (get new p) (get wanted p) ≡ true) q c list fine
    is

pub trimmed : (old wanted new : Tree) (list : Pairs) → rooted list ≡ entries old →
    get old root ≡ Some Directory → get wanted root ≡ Some Directory →
    AreRemoved old wanted list new → IsTrimmed wanted new
trimmed old wanted new list all top over done q some =
    found (get old q) refl (ap is_some (sym (was_there old wanted new q done.less some)) ∙ some)
  where
    found : (o : Option Content) → get old q ≡ o → IsSome (get old q) →
        can_stay (get new q) (get wanted q) ≡ true
    found None is h = absurd (none_some _ is h)
    found (Some c) is h =
        at (eq_by_cmp path_cmp q root) refl (ap (find path_cmp q) all
        ∙ (sym (get-entries old q) ∙ is))
      where
        at : (b : Bool) → eq_by_cmp path_cmp q root ≡ b →
            cond b (Some Directory) (find path_cmp q list) ≡ Some c →
            can_stay (get new q) (get wanted q) ≡ true
        at true same is =
            let here = subst (λ p. IsSome (get new p)) (same_path q root same) some in
            subst (λ p. can_stay (get new p) (get wanted p) ≡ true) (sym (same_path q root same))
            (ap (λ o. can_stay o (get wanted root)) (was_there old wanted new root done.less here
            ∙ top) ∙ ap (can_stay (Some Directory)) over)
        at false same is = fine_in list wanted new q c done.fine is some

-- a tree that has nothing but what is wanted, and all of it
pub is_wanted : (old wanted new : Tree) → IsTrimmed wanted old → IsOverlaid old wanted new →
    new ≡ wanted
is_wanted old wanted new trimmed overlaid =
    same_tree new wanted (λ q. at q (get wanted q) refl)
  where
    nothing : (q : Path) → get wanted q ≡ None → (o : Option Content) → get old q ≡ o →
        get old q ≡ None
    nothing q none None is = is
    nothing q none (Some c) is =
        absurd (none_some _ none (stays_some _ _ (trimmed q (ap is_some is))))

    at : (q : Path) (o : Option Content) → get wanted q ≡ o → get new q ≡ get wanted q
    at q (Some c) is = overlaid.there q c is ∙ sym is
    at q None is = overlaid.elsewhere q is ∙ (nothing q is (get old q) refl ∙ sym is)

-- ---- which removals are needed

later_than : (front : Pairs) (pair : Pair) (others : Pairs) → Rising (front ++ pair ∷ others) →
    After pair.0 others
later_than [] pair others rising = rising.0
later_than (x ∷ front) pair others rising = later_than front pair others rising.1

-- in path order a directory comes before what stands in it
pub directory_stays : (old wanted work : Tree) (front : Pairs) (n : Name) (p : Path) (c : Content)
    (others : Pairs) → rooted (front ++ (n ∷ p, c) ∷ others) ≡ entries old →
    get wanted root ≡ Some Directory → AreRemoved old wanted front work →
    get work (parent (n ∷ p)) ≡ Some Directory → get wanted (parent (n ∷ p)) ≡ Some Directory
directory_stays old wanted work front n p c others all over done dir =
    at (eq_by_cmp path_cmp q root) refl
    (ap (find path_cmp q) all ∙ (sym (get-entries old q) ∙ stood))
  where
    q : Path
    q = parent (n ∷ p)

    stood : get old q ≡ Some Directory
    stood = sym (was_there old wanted work q done.less (ap is_some dir)) ∙ dir

    last : (m : Name) × (n ∷ p ≡ q ++ m ∷ [])
    last = last_of n p

    less : path_cmp q (n ∷ p) ≡ Less
    less = ap (path_cmp q) last.1 ∙ first_of_all q last.0 []

    after : After q ((n ∷ p, c) ∷ others)
    after = (
      less,
      after_more q (n ∷ p) others less
          (later_than front (n ∷ p, c) others (rising_below old _ all).1),
    )

    at : (b : Bool) → eq_by_cmp path_cmp q root ≡ b →
        cond b (Some Directory) (find path_cmp q (front ++ (n ∷ p, c) ∷ others)) ≡ Some Directory →
        get wanted q ≡ Some Directory
    at true same is = ap (get wanted) (same_path q root same) ∙ over
    at false same is =
        stays_directory (get wanted q) (ap (λ o. can_stay o (get wanted q)) (sym dir)
        ∙ fine_in front wanted work q Directory done.fine (found_in_front q Directory front
        ((n ∷ p, c) ∷ others) after is) (ap is_some dir))

pub removal_needed : (old wanted work : Tree) (front : Pairs) (pair : Pair) (others : Pairs)
    (e : Edit) → rooted (front ++ pair ∷ others) ≡ entries old →
    get wanted root ≡ Some Directory → AreRemoved old wanted front work →
    Removes work wanted pair.0 e → IsRemoval old wanted e × (edited_path e ≡ pair.0)
removal_needed old wanted work front ([], c) others e all over done removes =
    absurd (true≢false (sym (ap (λ o. can_stay o (get wanted root)) removes.3
    ∙ ap (can_stay (Some Directory)) over) ∙ removes.2))
removal_needed old wanted work front (n ∷ p, c) others e all over done removes =
    let same = was_there old wanted work (n ∷ p) done.less removes.1 in
    subst (λ e. IsRemoval old wanted e × (edited_path e ≡ n ∷ p)) (sym removes.0) (
      (
        (
          subst IsSome same removes.1,
          ap (λ o. can_stay o (get wanted (n ∷ p))) (sym same) ∙ removes.2,
          directory_stays old wanted work front n p c others all over done removes.3,
        ),
        refl,
      ),
      refl,
    )

-- an edit is a removal at the path of one of the pairs
abbrev pub IsRemovalIn : Tree → Tree → Pairs → Edit → Type 0
IsRemovalIn old wanted front edit = IsRemoval old wanted edit × IsAmong front (edited_path edit)
