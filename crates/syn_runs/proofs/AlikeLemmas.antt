-- What a plan that is carried out records where both sides had the same.
use Rattle.std.proofs.Common.{◌≡◌, true, false, List, [], ◌∷◌, ◌++◌, refl, sym, ap, ◌∙◌, subst}
use Rattle.std.proofs.Common.{Some, true≢false, append_assoc, append-nil, inl, inr, ◌⊎◌, Option}
use Rattle.std.specs.Prelude.{Contains}
use Rattle.std.specs.FinMap.{get}
use Rattle.std.proofs.lemmas.List.Elements.{All-contains}
use Rattle.std.proofs.lemmas.Bool.{and_parts}
use Rattle.syn_model.specs.Path.{Name, Path, child}
use Rattle.syn_model.specs.Tree.{Tree, Directory, subtree, is_directory}
use Rattle.syn_model.specs.Mark.{mark}
use Rattle.syn_model.specs.Dirty.{dirty, is_same_tree}
use Rattle.syn_model.specs.Reconcile.{is_directory_in_both, is_relevant, is_alike}
use Rattle.syn_model.specs.Decision.{Item, MarkSame, MarkDir, Decision, Clean, Do, DoAndGoOn, GoOn}
use Rattle.syn_model.specs.Decision.{GoesOn, IsReached, decision, path_of}
use Rattle.syn_model.specs.Plan.{plan, IsDecided, is_mark_dir, scan_of, CanBePlanned, Trees}
use Rattle.syn_model.proofs.DirtyLemmas.{dirty-safe, tree_itself}
use Rattle.syn_model.proofs.MarkLemmas.{mark-subtree}
use Rattle.syn_model.proofs.TreeLemmas.{get-subtree, same_tree, subtree-append}
use Rattle.syn_model.proofs.SyncLemmas.{directory_is}
use Rattle.syn_model.proofs.PlanOrder.{plan_is_decided, reached_below}
use Rattle.syn_model.proofs.PlanCover.{plan_has_decided, not_clean}
use Rattle.syn_model.proofs.QuietLemmas.{directory_of_mark}
use Rattle.syn_model.proofs.DecisionLemmas.{by_decision, nothing_relevant}
use Rattle.syn_machine.specs.Network.{Which, Left, Right, other}
use Rattle.syn_runs.proofs.AnyOrder.{not_below, two_above}
use Rattle.syn_runs.proofs.CarriedOut.{recorded_file, HasCarriedOut, items_of, alone_of}
use Rattle.syn_runs.proofs.CarriedOut.{tree_on}

module _ (preference : Option Which) (found : Which → Tree) (o : Tree)
    (plannable : (side : Which) → CanBePlanned (found side))
    (recorded_plannable : CanBePlanned o) (s : Trees)
    (h : HasCarriedOut found o (items_of preference found o recorded_plannable.parents)
    (alone_of preference found o recorded_plannable.parents) (items_of preference found o
    recorded_plannable.parents) s)
  where
    abbrev a : Tree
    a = found Left

    abbrev b : Tree
    b = found Right

    abbrev items : List Item
    items = plan preference (scan_of a) (scan_of b) o

    abbrev decided_at : Path → Decision
    decided_at p = decision preference (scan_of a) (scan_of b) o p

    abbrev Reached : Path → Type 0
    Reached = IsReached decided_at

    decided : (x : Item) → Contains items x → IsDecided decided_at x
    decided x c =
        All-contains (IsDecided decided_at) items x (plan_is_decided preference (scan_of a)
        (scan_of b) o) c

    -- what both sides had stays on both
    pub alike_stays : (side : Which) (p : Path) → subtree a p ≡ subtree b p →
        subtree (tree_on s side) p ≡ subtree a p
    alike_stays side p same =
        same_tree (subtree (tree_on s side) p) (subtree a p) (λ rest.
        get-subtree (tree_on s side) p rest ∙ (stays rest ∙ sym (get-subtree a p rest)))
      where
        had : (which : Which) (rest : Path) → get (found which) (p ++ rest) ≡ get a (p ++ rest)
        had Left rest = refl
        had Right rest =
            sym (get-subtree b p rest)
            ∙ (ap (λ t. get t rest) (sym same) ∙ get-subtree a p rest)

        stays : (rest : Path) → get (tree_on s side) (p ++ rest) ≡ get a (p ++ rest)
        stays rest =
            elim (h.sides side (p ++ rest))
            as (λ _. get (tree_on s side) (p ++ rest) ≡ get a (p ++ rest)) [
              | inl put ↦ put.5 ∙ had (other side) rest
              | inr old ↦ old ∙ had side rest
            ]

    -- no part is put above a path that is reached
    none_above : (p : Path) (x : Item) (n : Name) (r : Path) → Reached p → Contains items x →
        is_mark_dir x ≡ false → p ≡ path_of x ++ n ∷ r → ⊥
    none_above p x n r reached in_x file e =
        not_below preference (scan_of a) (scan_of b) o x (decided x in_x) file
        (reached (path_of x) n r e)

    -- nor is there an item at or below one that is clean
    none_at : (p : Path) (x : Item) (rest : Path) → decided_at p ≡ Clean → Contains items x →
        path_of x ≡ p ++ rest → ⊥
    none_at p x [] clean in_x e =
        not_clean (decided_at (path_of x)) x (ap decided_at (e ∙ append-nil p) ∙ clean)
        (decided x in_x).decided
    none_at p x (n ∷ r) clean in_x e = subst GoesOn clean ((decided x in_x).reached p n r e)

    clean_stays : (p rest : Path) → Reached p → decided_at p ≡ Clean →
        get s.archive (p ++ rest) ≡ get o (p ++ rest)
    clean_stays p rest reached clean =
        elim (h.archive (p ++ rest)) as (λ _. get s.archive (p ++ rest) ≡ get o (p ++ rest)) [
          | inl was ↦ absurd (covered was.0 was.1 was.2 (recorded_file was.0 was.3) was.4)
          | inr (inl marked) ↦ absurd (none_at p (MarkDir (p ++ rest)) rest clean marked.0 refl)
          | inr (inr same) ↦ same
        ]
      where
        above : (x : Item) (r : Path) → Contains items x → is_mark_dir x ≡ false →
            p ≡ path_of x ++ r → ⊥
        above x [] in_x file e =
            none_at p x [] clean in_x (sym (e ∙ append-nil (path_of x)) ∙ sym (append-nil p))
        above x (n ∷ r) in_x file e = none_above p x n r reached in_x file e

        covered : (x : Item) (r : Path) → Contains items x → is_mark_dir x ≡ false →
            p ++ rest ≡ path_of x ++ r → ⊥
        covered x r in_x file e = elim (two_above p (path_of x) rest r e) as (λ _. ⊥) [
          | inl under ↦ none_at p x under.0 clean in_x under.1
          | inr over ↦ above x over.0 in_x file over.1
        ]

    clean_same : (p rest : Path) → dirty (scan_of a) o p ≡ false →
        get o (p ++ rest) ≡ get (mark a) (p ++ rest)
    clean_same p rest clean =
        sym (get-subtree o p rest) ∙ (ap (λ t. get t rest) (sym (dirty-safe (scan_of a) o p clean))
        ∙ get-subtree (mark a) p rest)

    marked_directory : (p : Path) → is_directory_in_both a b p ≡ true →
        get (mark a) p ≡ Some Directory
    marked_directory p z =
        directory_is (get (mark a) p)
        (directory_of_mark a p ∙ (and_parts (is_directory a p) (is_directory b p) z).0)

    not_decided : (d : Decision) (x : Item) → d ≡ GoOn → (d ≡ Do x) ⊎ (d ≡ DoAndGoOn x) → ⊥
    not_decided d x e (inl y) = cc
    not_decided d x e (inr y) = cc

    -- a directory that was recorded is one still
    directory_stays : (p : Path) → Reached p → decided_at p ≡ GoOn → is_directory o p ≡ true →
        get s.archive p ≡ Some Directory
    directory_stays p reached on is =
        elim (h.archive p) as (λ _. get s.archive p ≡ Some Directory) [
          | inl was ↦ absurd (above was.0 was.1 was.2 (recorded_file was.0 was.3) was.4)
          | inr (inl marked) ↦ marked.1
          | inr (inr same) ↦ same ∙ directory_is (get o p) is
        ]
      where
        above : (x : Item) (r : Path) → Contains items x → is_mark_dir x ≡ false →
            p ≡ path_of x ++ r → ⊥
        above x [] in_x file e =
            not_decided (decided_at (path_of x)) x
            (ap decided_at (sym (e ∙ append-nil (path_of x))) ∙ on) (decided x in_x).decided
        above x (n ∷ r) in_x file e = none_above p x n r reached in_x file e

    -- both are directories there, or have the same
    abbrev SameOrBoth : Path → Type 0
    SameOrBoth p = (is_directory_in_both a b p ≡ true) ⊎ (subtree a p ≡ subtree b p)

    abbrev AllTheWay : Path → Path → Type 0
    AllTheWay p rest = (front back : Path) → rest ≡ front ++ back → SameOrBoth (p ++ front)

    alike_is : (p : Path) → subtree a p ≡ subtree b p → is_alike a b p ≡ true
    alike_is p e =
        let same : subtree (mark a) p ≡ subtree (mark b) p = sym (mark-subtree a p)
        ∙ (ap mark e ∙ mark-subtree b p) in
        ap (is_same_tree (subtree (mark a) p)) (sym same) ∙ tree_itself (subtree (mark a) p)

    unlike : (p : Path) → SameOrBoth p → is_directory_in_both a b p ≡ false →
        is_alike a b p ≡ false → ⊥
    unlike p (inl both) z v = true≢false (sym both ∙ z)
    unlike p (inr same) z v = true≢false (sym (alike_is p same) ∙ v)

    here : (p : Path) → SameOrBoth (p ++ []) → SameOrBoth p
    here p way = subst SameOrBoth (append-nil p) way

    marked_here : (rest p : Path) → Reached p → AllTheWay p rest →
        get s.archive (p ++ rest) ≡ get (mark a) (p ++ rest)
    marked_here [] p reached way =
        by_decision a b o preference (λ d. decided_at p ≡ d → get s.archive (p ++ []) ≡ get (mark a)
        (p ++ []))
        p
        (λ x y e. clean_stays p [] reached e ∙ clean_same p [] x)
        (λ z w e. subst (λ q. get s.archive q ≡ get (mark a) q) (sym (append-nil p))
        (directory_stays p reached e w ∙ sym (marked_directory p z)))
        (λ z w e. subst (λ q. get s.archive q ≡ get (mark a) q) (sym (append-nil p))
        (h.directories p
        (plan_has_decided preference a b o (plannable Left) (plannable Right) recorded_plannable
        (MarkDir p) (record { reached = reached; decided = inr e })) ∙ sym (marked_directory p z)))
        (λ z v e. h.recorded (MarkSame p) (plan_has_decided preference a b o (plannable Left)
        (plannable Right)
        recorded_plannable (MarkSame p) (record { reached = reached; decided = inl e })) refl [])
        (λ z v x y e. absurd (unlike p (here p (way [] [] refl)) z v))
        (λ z v x y e. absurd (unlike p (here p (way [] [] refl)) z v))
        (λ z v x y e. absurd (unlike p (here p (way [] [] refl)) z v)) refl
    marked_here (n ∷ r) p reached way =
        let at : child p n ++ r ≡ p ++ n ∷ r = append_assoc p (n ∷ []) r in
        let deeper : GoesOn (decided_at p) →
        get s.archive (p ++ n ∷ r) ≡ get (mark a) (p ++ n ∷ r) = λ on.
        subst (λ q. get s.archive q ≡ get (mark a) q) at
        (marked_here r (child p n) (reached_below decided_at p n reached on)
        (λ front back e. subst SameOrBoth (sym (append_assoc p (n ∷ []) front))
        (way (n ∷ front) back (ap (λ w. n ∷ w) e)))) in
        by_decision a b o preference
        (λ d. decided_at p ≡ d → get s.archive (p ++ n ∷ r) ≡ get (mark a) (p ++ n ∷ r)) p
        (λ x y e. clean_stays p (n ∷ r) reached e ∙ clean_same p (n ∷ r) x)
        (λ z w e. deeper (subst GoesOn (sym e) tt))
        (λ z w e. deeper (subst GoesOn (sym e) tt))
        (λ z v e. h.recorded (MarkSame p)
        (plan_has_decided preference a b o (plannable Left) (plannable Right) recorded_plannable
        (MarkSame p)
        (record { reached = reached; decided = inl e })) refl (n ∷ r))
        (λ z v x y e. absurd (unlike p (here p (way [] (n ∷ r) refl)) z v))
        (λ z v x y e. absurd (unlike p (here p (way [] (n ∷ r) refl)) z v))
        (λ z v x y e. absurd (unlike p (here p (way [] (n ∷ r) refl)) z v)) refl

    at_root : Reached []
    at_root [] n rest e = cc
    at_root (m ∷ above) n rest e = cc

    -- above a relevant path both are directories, and below one where they are the same they are so
    -- too
    way_to : (p : Path) → is_relevant a b p ≡ true → subtree a p ≡ subtree b p →
        (rest front back : Path) → p ++ rest ≡ front ++ back → SameOrBoth front
    way_to p relevant same rest front back e =
        elim (two_above p front rest back e) as (λ _. SameOrBoth front) [
          | inl under ↦ inr (ap (subtree a) under.1 ∙ (sym (subtree-append a p under.0) ∙ (ap
              (λ t. subtree t under.0) same
              ∙ (subtree-append b p under.0 ∙ ap (subtree b) (sym under.1)))))
          | inr over ↦ above over.0 over.1
        ]
      where
        above : (r : Path) → p ≡ front ++ r → SameOrBoth front
        above [] at =
            let here : p ≡ front = at ∙ append-nil front in
            inr (ap (subtree a) (sym here) ∙ (same ∙ ap (subtree b) here))
        above (n ∷ r) at =
            elim (is_directory_in_both a b front) as (λ z. is_directory_in_both a b front ≡ z →
            (z ≡ true) ⊎ (subtree a front ≡ subtree b front)) [
              | true ↦ λ _. inl refl
              | false ↦ λ z. absurd (nothing_relevant a b (plannable Left).parents
                  (plannable Right).parents front n r z (ap (is_relevant a b) (sym at) ∙ relevant))
            ] refl

    -- a relevant path where both sides had the same is recorded so
    pub alike_recorded : (p : Path) → is_relevant a b p ≡ true → subtree a p ≡ subtree b p →
        subtree s.archive p ≡ mark (subtree a p)
    alike_recorded p relevant same =
        same_tree (subtree s.archive p) (subtree (mark a) p) (λ rest.
        get-subtree s.archive p rest ∙ (marked_here (p ++ rest) [] at_root (λ front back e.
        way_to p relevant same rest front back e) ∙ sym (get-subtree (mark a) p rest)))
        ∙ sym (mark-subtree a p)
