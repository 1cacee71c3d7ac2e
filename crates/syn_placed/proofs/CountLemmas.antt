-- How many children stand in each directory before and after a part is replaced.
use Rattle.std.proofs.Common.{◌≡◌, ◌+◌, ℕ, Bool, true, false, cond, if◌then◌else◌, [], ◌∷◌, ◌++◌}
use Rattle.std.proofs.Common.{filter_map, length, refl, sym, ap, ap₂, ◌∙◌, Option, Some, None}
use Rattle.std.proofs.Common.{is_some, Less, is_lt, append_assoc, append-nil, true≢false, arith}
use Rattle.std.specs.Prelude.{option_map, option_and_then, count_by}
use Rattle.std.specs.List.{cons_option}
use Rattle.std.specs.FinMap.{find, entries, get, get-entries}
use Rattle.std.proofs.lemmas.List.Sums.{sum_by-append, sum_by-cons}
use Rattle.syn_model.specs.Path.{Name, Path, path_cmp, strip_prefix, is_prefix, root, parent}
use Rattle.syn_model.specs.Path.{is_root}
use Rattle.syn_model.specs.Tree.{Tree, Content, Pair, subtree, is_present}
use Rattle.syn_model.specs.Limits.{only_name, children}
use Rattle.syn_model.proofs.PathLemmas.{name_itself, strip_prefix-is, parent-append, prefix-append}
use Rattle.syn_model.proofs.TreeLemmas.{get-subtree}
use Rattle.syn_placed.specs.Pairs.{Pairs, is_within, before, within, beyond, under, is_child}
use Rattle.syn_placed.proofs.RisingLemmas.{NoneOf, Rising, After, replaced, three_parts}
use Rattle.syn_placed.proofs.RisingLemmas.{before_out, after_out}
use Rattle.syn_placed.proofs.TreeLemmas.{taken, within-taken, rising-taken, entries-subtree}
use Rattle.syn_placed.proofs.TreeLemmas.{rising-entries}
use Rattle.syn_model.proofs.BaseLemmas.{each_with}

-- how many of the pairs are children of a path
abbrev pub kids : Path → Pairs → ℕ
kids p es = count_by (λ e. is_child p e.0) es

pub kids-cons : (p : Path) (e : Pair) (es : Pairs) →
    kids p (e ∷ es) ≡ cond (is_child p e.0) 1 0 + kids p es
kids-cons p e es = sum_by-cons (λ (x : Pair). cond (is_child p x.0) 1 0) e es

listed : (p : Path) (es : Pairs) → length (filter_map {Y = Name × Content} (λ pair. option_map
    (λ name. (name, pair.1)) (option_and_then only_name (strip_prefix p pair.0))) es) ≡ kids p es
listed p [] = refl
listed p (e ∷ es) =
    let rest = listed p es in
    one (option_and_then only_name (strip_prefix p e.0)) rest ∙ sym (kids-cons p e es)
  where
    one : (o : Option Name) →
        length (filter_map {Y = Name × Content} (λ pair. option_map (λ name. (name, pair.1))
        (option_and_then only_name (strip_prefix p pair.0))) es) ≡ kids p es →
        length (cons_option (option_map (λ name. (name, e.1)) o)
        (filter_map {Y = Name × Content} (λ pair. option_map (λ name. (name, pair.1))
        (option_and_then only_name (strip_prefix p pair.0))) es)) ≡ cond (is_some o) 1 0 + kids p es
    one None rest = omega (arith, rest)
    one (Some x) rest = omega (arith, rest)

pub length-children : (t : Tree) (p : Path) → length (children t p) ≡ kids p (entries t)
length-children t p = listed p (entries t)

pub kids-append : (p : Path) (xs ys : Pairs) → kids p (xs ++ ys) ≡ kids p xs + kids p ys
kids-append p xs ys = sum_by-append (λ (x : Pair). cond (is_child p x.0) 1 0) xs ys

pub kids-none : (p : Path) (xs : Pairs) → NoneOf (λ e. is_child p e.0) xs → kids p xs ≡ 0
kids-none p [] h = refl
kids-none p (x ∷ xs) h = kids-cons p x xs ∙ ap₂ (λ b n. cond b 1 0 + n) h.0 (kids-none p xs h.1)

strip-under : (at q r : Path) → strip_prefix (at ++ q) (at ++ r) ≡ strip_prefix q r
strip-under [] q r = refl
strip-under (n ∷ at) q r =
    ap (λ b. if b then strip_prefix (at ++ q) (at ++ r) else None) (name_itself n)
    ∙ strip-under at q r

-- the children of a path below a place are those of the part there
pub kids-under : (at q : Path) (us : Pairs) → kids (at ++ q) (under at us) ≡ kids q us
kids-under at q [] = refl
kids-under at q (u ∷ us) =
    kids-cons (at ++ q) (at ++ u.0, u.1) (under at us)
    ∙ (ap₂ (λ o n. cond (is_some (option_and_then only_name o)) 1 0 + n) (strip-under at q u.0)
    (kids-under at q us) ∙ sym (kids-cons q u us))

-- a child is its parent with one name more
pub child_is : (p x : Path) → is_child p x ≡ true → (name : Name) × (x ≡ p ++ name ∷ [])
child_is p x h = by_rest (strip_prefix p x) refl h
  where
    by_rest : (o : Option Path) → strip_prefix p x ≡ o →
        is_some (option_and_then only_name o) ≡ true → (name : Name) × (x ≡ p ++ name ∷ [])
    by_rest None is k = absurd (true≢false (sym k))
    by_rest (Some []) is k = absurd (true≢false (sym k))
    by_rest (Some (n ∷ [])) is k = (n, strip_prefix-is p x (n ∷ []) is)
    by_rest (Some (n ∷ m ∷ r)) is k = absurd (true≢false (sym k))

pub child_parent : (p x : Path) → is_child p x ≡ true → parent x ≡ p
child_parent p x h =
    let c = child_is p x h in
    ap parent c.1 ∙ (parent-append p c.0 [] ∙ append-nil p)

pub child_of_parent : (x : Path) → is_root x ≡ false → is_child (parent x) x ≡ true
child_of_parent [] h = absurd (true≢false h)
child_of_parent (n ∷ []) h = refl
child_of_parent (n ∷ m ∷ x) h =
    ap (λ b. is_some
    (option_and_then only_name (if b then strip_prefix (parent (m ∷ x)) (m ∷ x) else None)))
    (name_itself n) ∙ child_of_parent (m ∷ x) refl

-- nothing beside a place is a child of what stands there
child_inside : (at q x : Path) → is_prefix at x ≡ false → (b : Bool) → is_child (at ++ q) x ≡ b →
    b ≡ false
child_inside at q x out true is =
    let c = child_is (at ++ q) x is in
    absurd (true≢false (sym (prefix-append at (q ++ c.0 ∷ []))
    ∙ (ap (is_prefix at) (sym (c.1 ∙ append_assoc at q (c.0 ∷ []))) ∙ out)))
child_inside at q x out false is = refl

pub kids-outside : (at q : Path) (xs : Pairs) → NoneOf (is_within at) xs → kids (at ++ q) xs ≡ 0
kids-outside at q xs h =
    kids-none (at ++ q) xs (each_with (λ e. is_within at e ≡ false) (λ e. is_child (at ++ q) e.0
    ≡ false) (λ e out. child_inside at q e.0 out (is_child (at ++ q) e.0) refl) xs h)

-- what stands deeper below a place is no child of a path beside it
child_deeper : (at p : Path) (n : Name) (r : Path) → is_prefix at p ≡ false → (b : Bool) →
    is_child p (at ++ n ∷ r) ≡ b → b ≡ false
child_deeper at p n r out true is =
    absurd (true≢false (sym (prefix-append at (parent (n ∷ r)))
    ∙ (ap (is_prefix at) (sym (parent-append at n r) ∙ child_parent p (at ++ n ∷ r) is) ∙ out)))
child_deeper at p n r out false is = refl

-- paths after another are not the root
below_root : (at p q : Path) (us : Pairs) → is_prefix at p ≡ false → After q us →
    kids p (under at us) ≡ 0
below_root at p q [] out h = refl
below_root at p q (([], c) ∷ us) out h = absurd (none_first q h.0)
  where
    none_first : (q : Path) → path_cmp q [] ≡ Less → ⊥
    none_first [] e = true≢false (sym (ap is_lt e))
    none_first (m ∷ q) e = true≢false (sym (ap is_lt e))
below_root at p q ((n ∷ r, c) ∷ us) out h =
    kids-cons p (at ++ n ∷ r, c) (under at us) ∙ ap₂ (λ b k. cond b 1 0 + k)
    (child_deeper at p n r out (is_child p (at ++ n ∷ r)) refl) (below_root at p q us out h.1)

-- of what stands below a place only the place itself can be a child of a path beside it
abbrev pub top_of : Bool → Path → Path → ℕ
top_of present p at = cond present (cond (is_child p at) 1 0) 0

pub no_root : (n : Name) (r : Path) (us : Pairs) → After (n ∷ r) us → find path_cmp root us ≡ None
no_root n r [] h = refl
no_root n r (([], c) ∷ us) h = absurd (true≢false (sym (ap is_lt h.0)))
no_root n r ((m ∷ s, c) ∷ us) h = no_root n r us h.1

pub kids-placed : (at p : Path) (us : Pairs) → is_prefix at p ≡ false → Rising us →
    kids p (under at us) ≡ top_of (is_some (find path_cmp root us)) p at
kids-placed at p [] out h = refl
kids-placed at p (([], c) ∷ us) out h =
    kids-cons p (at ++ [], c) (under at us) ∙ (ap₂ (λ x n. cond (is_child p x) 1 0 + n)
    (append-nil at) (below_root at p [] us out h.0) ∙ plus_zero (cond (is_child p at) 1 0))
  where
    plus_zero : (n : ℕ) → n + 0 ≡ n
    plus_zero n = omega arith
kids-placed at p ((n ∷ r, c) ∷ us) out h =
    kids-cons p (at ++ n ∷ r, c) (under at us)
    ∙ (ap₂ (λ b k. cond b 1 0 + k) (child_deeper at p n r out (is_child p (at ++ n ∷ r)) refl)
    (below_root at p (n ∷ r) us out h.0)
    ∙ sym (ap (λ o. top_of (is_some o) p at) (no_root n r us h.0)))

pub present_taken : (t : Tree) (at : Path) →
    is_some (find path_cmp root (taken at (entries t))) ≡ is_present t at
present_taken t at =
    ap is_some (ap (find path_cmp root) (sym (entries-subtree t at)) ∙ (sym
    (get-entries (subtree t at) root) ∙ (get-subtree t at root ∙ ap (get t) (append-nil at))))

-- the children of a path beside the place, before and after
pub kids-beside : (t : Tree) (at p : Path) → is_prefix at p ≡ false → kids p (entries t) ≡ kids p
    (before at (entries t)) + (top_of (is_present t at) p at + kids p (beyond at (entries t)))
kids-beside t at p out =
    let es = entries t in
    ap (kids p) (three_parts at es (rising-entries t))
    ∙ (kids-append p (before at es) (within at es ++ beyond at es)
    ∙ ap (λ n. kids p (before at es) + n) (kids-append p (within at es) (beyond at es)
    ∙ ap (λ n. n + kids p (beyond at es))
    (ap (kids p) (within-taken at es) ∙ (kids-placed at p (taken at es) out
    (rising-taken at es (rising-entries t)) ∙ ap (λ b. top_of b p at) (present_taken t at)))))

pub kids-after : (t : Tree) (at p : Path) (u : Tree) → is_prefix at p ≡ false →
    kids p (replaced at (entries t) (entries u)) ≡ kids p (before at (entries t))
    + (top_of (is_present u root) p at + kids p (beyond at (entries t)))
kids-after t at p u out =
    let es = entries t in
    kids-append p (before at es) (under at (entries u) ++ beyond at es)
    ∙ ap (λ n. kids p (before at es) + n) (kids-append p (under at (entries u)) (beyond at es)
    ∙ ap (λ n. n + kids p (beyond at es)) (kids-placed at p (entries u) out (rising-entries u)
    ∙ ap (λ o. top_of (is_some o) p at) (sym (get-entries u root))))

-- and those of a path at or below it
pub kids-inside : (t : Tree) (at q : Path) (u : Tree) →
    kids (at ++ q) (replaced at (entries t) (entries u)) ≡ kids q (entries u)
kids-inside t at q u =
    let es = entries t in
    kids-append (at ++ q) (before at es) (under at (entries u) ++ beyond at es)
    ∙ (ap₂ (λ m n. m + n) (kids-outside at q (before at es) (before_out at es))
    (kids-append (at ++ q) (under at (entries u)) (beyond at es)
    ∙ ap₂ (λ m n. m + n) (kids-under at q (entries u))
    (kids-outside at q (beyond at es) (after_out at es)))
    ∙ plus_zero (kids q (entries u)))
  where
    plus_zero : (n : ℕ) → 0 + (n + 0) ≡ n
    plus_zero n = omega arith

-- the children of a path stand below it
outside_child : (p : Path) (e : Pair) → is_within p e ≡ false → is_child p e.0 ≡ false
outside_child p e out = by_rest (strip_prefix p e.0) refl out
  where
    by_rest : (o : Option Path) → strip_prefix p e.0 ≡ o → is_some o ≡ false →
        is_some (option_and_then only_name (strip_prefix p e.0)) ≡ false
    by_rest None is k = ap (λ o. is_some (option_and_then only_name o)) is
    by_rest (Some r) is k = absurd (true≢false k)

pub kids-within : (p : Path) (es : Pairs) → kids p (within p es) ≡ kids p es
kids-within p [] = refl
kids-within p (e ∷ es) =
    let rest = kids-within p es in
    elim (is_within p e) as (λ b. is_within p e ≡ b →
    kids p (cond b (e ∷ within p es) (within p es)) ≡ kids p (e ∷ es)) [
      | true ↦ λ _. kids-cons p e (within p es)
          ∙ (ap (λ n. cond (is_child p e.0) 1 0 + n) rest ∙ sym (kids-cons p e es))
      | false ↦ λ out. omega
          (arith, rest, kids-cons p e es, ap {B = ℕ} (λ b. cond b 1 0) (outside_child p e out))
    ] refl
