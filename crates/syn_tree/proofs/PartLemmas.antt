-- What is at a path, and what is below it.
use Rattle.std.proofs.Common.{◌≡◌, ◌≤◌, ◌+◌, ℕ, zero, suc, true, false, cond, not, ◌==◌, nat_le}
use Rattle.std.proofs.Common.{nat_lt, [], ◌∷◌, ◌++◌, length, length-append, refl, sym, ap, ◌∙◌}
use Rattle.std.proofs.Common.{subst, Some, None, is_some, IsSome, true≢false, append_assoc, arith}
use Rattle.std.specs.Cmp.{both_ways}
use Rattle.std.specs.FinMap.{find, entries, get, get-entries}
use Rattle.std.proofs.lemmas.Bool.Decides.{nat_tests}
use Rattle.std.proofs.lemmas.List.Sums.{sum_by-append}
use Rattle.syn_model.specs.Path.{Path, root, is_root, path_cmp}
use Rattle.syn_model.specs.Tree.{Tree, Content, Directory, HasParents, subtree, is_present}
use Rattle.syn_model.proofs.PathLemmas.{path_itself}
use Rattle.syn_model.proofs.TreeLemmas.{get-subtree}
use Rattle.syn_placed.specs.Pairs.{Pairs, rooted, within, before, beyond, under, spelling_length}
use Rattle.syn_placed.specs.Pairs.{pair_spelling_length}
use Rattle.syn_placed.proofs.RisingLemmas.{Rising, replaced, three_parts, counted}
use Rattle.syn_placed.proofs.TreeLemmas.{taken, within-taken, entries-subtree, rising-entries}
use Rattle.syn_placed.proofs.CountLemmas.{no_root, present_taken, kids, kids-cons}
use Rattle.syn_placed.proofs.ParentLemmas.{no_child}

pub length_under : (at : Path) (us : Pairs) → length (under at us) ≡ length us
length_under at [] = refl
length_under at (u ∷ us) = ap suc (length_under at us)

found_first : (q : Path) (c : Content) (es : Pairs) → find path_cmp q ((q, c) ∷ es) ≡ Some c
found_first q c es = ap (λ b. cond b (Some c) (find path_cmp q es)) (path_itself q)

positive : (n : ℕ) → nat_lt 0 (suc n) ≡ true
positive n = grind (arith, nat_tests)

-- where each path has its parent, something is there where the root is
pub present_root : (u : Tree) → HasParents u → is_present u root ≡ nat_lt 0 (length (entries u))
present_root u h = by_list (entries u) refl (rising-entries u)
  where
    by_list : (es : Pairs) → entries u ≡ es → Rising (entries u) →
        is_present u root ≡ nat_lt 0 (length (entries u))
    by_list [] is rising =
        ap is_some (get-entries u root ∙ ap (find path_cmp root) is)
        ∙ sym (ap (λ es. nat_lt 0 (length es)) is)
    by_list (([], c) ∷ es) is rising =
        ap is_some (get-entries u root ∙ (ap (find path_cmp root) is ∙ found_first root c es))
        ∙ sym (ap (λ es. nat_lt 0 (length es)) is ∙ positive (length es))
    by_list ((n ∷ r, c) ∷ es) is rising =
        let there : IsSome (get u (n ∷ r)) = ap is_some
        (get-entries u (n ∷ r) ∙ (ap (find path_cmp (n ∷ r)) is ∙ found_first (n ∷ r) c es)) in
        let none : get u root ≡ None = get-entries u root
        ∙ (ap (find path_cmp root) is ∙ no_root n r es (subst Rising is rising).0) in
        absurd (true≢false (sym (ap is_some (h root n r there)) ∙ ap is_some none))

pub subtree-parents : (t : Tree) (at : Path) → HasParents t → HasParents (subtree t at)
subtree-parents t at h p n r is =
    get-subtree t at p ∙ h (at ++ p) n r (subst IsSome
    (get-subtree t at (p ++ n ∷ r) ∙ ap (get t) (sym (append_assoc at p (n ∷ r)))) is)

pub present_within : (t : Tree) (at : Path) → HasParents t →
    is_present t at ≡ nat_lt 0 (length (within at (entries t)))
present_within t at h =
    sym (present_taken t at)
    ∙ (ap (λ es. is_some (find path_cmp root es)) (sym (entries-subtree t at))
    ∙ (ap is_some (sym (get-entries (subtree t at) root))
    ∙ (present_root (subtree t at) (subtree-parents t at h)
    ∙ ap (nat_lt 0) (ap length (entries-subtree t at) ∙ (sym
    (length_under at (taken at (entries t))) ∙ sym (ap length (within-taken at (entries t))))))))

-- the root is before each place below it, and no child
pub within_rooted : (at : Path) (ds : Pairs) → is_root at ≡ false →
    within at (rooted ds) ≡ within at ds
within_rooted [] ds h = absurd (true≢false h)
within_rooted (n ∷ at) ds h = refl

pub before_rooted : (at : Path) (ds : Pairs) → is_root at ≡ false →
    before at (rooted ds) ≡ rooted (before at ds)
before_rooted [] ds h = absurd (true≢false h)
before_rooted (n ∷ at) ds h = refl

pub after_rooted : (at : Path) (ds : Pairs) → is_root at ≡ false →
    beyond at (rooted ds) ≡ beyond at ds
after_rooted [] ds h = absurd (true≢false h)
after_rooted (n ∷ at) ds h = refl

pub kids_rooted : (p : Path) (ds : Pairs) → kids p (rooted ds) ≡ kids p ds
kids_rooted p ds =
    kids-cons p (root, Directory) ds
    ∙ (ap (λ b. cond b 1 0 + kids p ds) (no_child p [] (omega arith)) ∙ plus (kids p ds))
  where
    plus : (n : ℕ) → 0 + n ≡ n
    plus n = omega arith

-- the numbers of a list with a part replaced
pub length_replaced : (at : Path) (es us : Pairs) → Rising es →
    length (replaced at es us) + length (within at es) ≡ length es + length us
length_replaced at es us h =
    omega (
      arith,
      counted at es h,
      length-append (before at es) (under at us ++ beyond at es),
      length-append (under at us) (beyond at es),
      length_under at us,
    )

pub spelling_replaced : (at : Path) (es us : Pairs) → Rising es →
    spelling_length (replaced at es us) + spelling_length (within at es)
    ≡ spelling_length es + spelling_length (under at us)
spelling_replaced at es us h =
    omega (
      arith,
      ap spelling_length (three_parts at es h),
      sum_by-append pair_spelling_length (before at es) (within at es ++ beyond at es),
      sum_by-append pair_spelling_length (within at es) (beyond at es),
      sum_by-append pair_spelling_length (before at es) (under at us ++ beyond at es),
      sum_by-append pair_spelling_length (under at us) (beyond at es),
    )

pub spelling_within : (at : Path) (es : Pairs) → Rising es →
    spelling_length (within at es) ≤ spelling_length es
spelling_within at es h =
    omega (
      arith,
      ap spelling_length (three_parts at es h),
      sum_by-append pair_spelling_length (before at es) (within at es ++ beyond at es),
      sum_by-append pair_spelling_length (within at es) (beyond at es),
    )

down : (n : ℕ) → nat_le (suc n) 1024 ≡ true → nat_le n 1023 ≡ true
down n h = grind (arith, nat_tests)

up : (n : ℕ) → nat_le n 1023 ≡ true → nat_le (suc n) 1024 ≡ true
up n h = grind (arith, nat_tests)

positive_not : (n : ℕ) → not (suc n == 0) ≡ true
positive_not n = grind (arith, nat_tests)

some : (n : ℕ) → not (n == 0) ≡ true → nat_lt 0 n ≡ true
some zero h = absurd (true≢false (sym h))
some (suc n) h = grind (arith, nat_tests)

there : (n : ℕ) → nat_lt 0 n ≡ true → not (n == 0) ≡ true
there zero h = absurd (true≢false (sym h))
there (suc n) h = positive_not n

pub one_less : (n : ℕ) → nat_le (suc n) 1024 ≡ nat_le n 1023
one_less n = both_ways (nat_le (suc n) 1024) (nat_le n 1023) (λ h. down n h) (λ h. up n h)

pub some_there : (n : ℕ) → not (n == 0) ≡ nat_lt 0 n
some_there n = both_ways (not (n == 0)) (nat_lt 0 n) (λ h. some n h) (λ h. there n h)
