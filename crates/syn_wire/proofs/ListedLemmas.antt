-- Pairs that were read name by name, and stand in path order, are those of the tree that was
-- spelled.
use Rattle.std.proofs.Common.{◌≡◌, ◌<◌, ◌+◌, ◌^◌, ℕ, suc, Bool, true, false, if◌then◌else◌, List}
use Rattle.std.proofs.Common.{[], ◌∷◌, ◌++◌, flat_map, length, length-append, refl, sym, ap, ap₂}
use Rattle.std.proofs.Common.{◌∙◌, subst, Option, Some, None, Less, is_lt, is_eq, append_assoc}
use Rattle.std.proofs.Common.{append-nil, true≢false}
use Rattle.std.specs.Prelude.{option_map, option_and_then}
use Rattle.std.specs.Int.{to_be_bytes, w16}
use Rattle.std.specs.Ordering.{eq_by_cmp}
use Rattle.std.specs.Cmp.{eq_by_cmp_equiv}
use Rattle.std.specs.List.{AllByRecursion, cons_option}
use Rattle.std.specs.FinMap.{find, from_sorted, get, get-entries, same_entries_map}
use Rattle.std.proofs.lemmas.Grind.{flat_map-append}
use Rattle.std.proofs.lemmas.List.{map-append}
use Rattle.std.proofs.lemmas.List.Elements.{filter_map-append}
use Rattle.syn_model.specs.Path.{Bytes, Name, Path, name_cmp, path_cmp, root, strip_prefix}
use Rattle.syn_model.specs.Contents.{Contents}
use Rattle.syn_model.specs.Tree.{Tree, Content, Pair, Directory, File, subtree, taken_off}
use Rattle.syn_model.specs.Limits.{children, only_name}
use Rattle.syn_model.proofs.PathLemmas.{name_total, path_itself, same_name, strip_prefix-append}
use Rattle.syn_placed.specs.Pairs.{Pairs, rooted, under}
use Rattle.syn_placed.proofs.RisingLemmas.{Rising, After, are_rising}
use Rattle.syn_placed.proofs.RisingLemmas.{rising_of, each-both}
use Rattle.syn_placed.proofs.TreeLemmas.{entries-rising, entries-subtree, get-rising, taken}
use Rattle.syn_wire.specs.inner.Kinds.{Kind, IsContentOf, IsFileOf, file_spelling_of, spelling_of}
use Rattle.syn_wire.specs.Reads.{BeginsWith}
use Rattle.syn_wire.specs.Trees.{last_name_spelling}
use Rattle.syn_wire.specs.inner.Parts.{AreContentsOf, IsChildOf, PartIsRead, PartsAreRead}
use Rattle.syn_wire.proofs.GroupLemmas.{tops}
use Rattle.syn_wire.proofs.KindLemmas.{unfolds}
use Rattle.syn_wire.proofs.PartsLemmas.{child_name, own_pair}
use Rattle.syn_model.specs.Spelling.{content_spelling}
use Rattle.syn_model.proofs.BaseLemmas.{each_append, each_with}
use Rattle.syn_model.proofs.SubtreeLemmas.{under_cmp}

abbrev pub Listed : Type 0
Listed = List (Name × Pairs)

abbrev pub listed_pairs : Listed → Pairs
listed_pairs listed = flat_map (λ (l : Name × Pairs). under (l.0 ∷ []) l.1) listed

-- the pairs of a part begin with its root
pub record BeginAtRoot (pairs : Pairs) : Type 0 where
  pub content : Content
  pub below : Pairs
  pub whole : pairs ≡ (root, content) ∷ below

abbrev pub AllBegin : Listed → Type 0
AllBegin listed = AllByRecursion (λ l. BeginAtRoot l.1) listed

-- ---- order

after_front : (p : Path) (xs ys : Pairs) → After p (xs ++ ys) → After p xs × After p ys
after_front p [] ys h = (tt, h)
after_front p (x ∷ xs) ys h = let rest = after_front p xs ys h.1 in ((h.0, rest.0), rest.1)

rising_parts : (xs ys : Pairs) → Rising (xs ++ ys) → Rising xs × Rising ys
rising_parts [] ys h = (tt, h)
rising_parts (x ∷ xs) ys h =
    let rest = rising_parts xs ys h.1 in
    (((after_front x.0 xs ys h.0).0, rest.0), rest.1)

after_off : (at p : Path) (es : Pairs) → After (at ++ p) (under at es) → After p es
after_off at p [] h = tt
after_off at p (e ∷ es) h = (sym (under_cmp at p e.0) ∙ h.0, after_off at p es h.1)

rising_off : (at : Path) (es : Pairs) → Rising (under at es) → Rising es
rising_off at [] h = tt
rising_off at (e ∷ es) h = (after_off at e.0 es h.0, rising_off at es h.1)

-- the parts rise where all do
pub parts_rise : (listed : Listed) → Rising (listed_pairs listed) →
    AllByRecursion (λ l. Rising l.1) listed
parts_rise [] h = tt
parts_rise (l ∷ listed) h =
    let both = rising_parts (under (l.0 ∷ []) l.1) (listed_pairs listed) h in
    (rising_off (l.0 ∷ []) l.1 both.0, parts_rise listed both.1)

-- two names differ
abbrev Differ : Name → Name → Type 0
Differ n m = eq_by_cmp name_cmp n m ≡ false

differ_back : (n m : Name) → Differ n m → Differ m n
differ_back n m h = (eq_by_cmp_equiv name_total).symm m n ∙ h

less_differ : (n m : Name) → path_cmp (n ∷ []) (m ∷ []) ≡ Less → Differ n m
less_differ n m less = by_name (eq_by_cmp name_cmp n m) refl
  where
    by_name : (b : Bool) → eq_by_cmp name_cmp n m ≡ b → b ≡ false
    by_name true same =
        absurd (true≢false (sym (path_itself (m ∷ [])) ∙ (ap
        (λ x. eq_by_cmp path_cmp (x ∷ []) (m ∷ [])) (sym (same_name n m same)) ∙ ap is_eq less)))
    by_name false other = refl

-- later names differ from one before
later_differ : (n : Name) (listed : Listed) → AllBegin listed →
    After (n ∷ []) (listed_pairs listed) → AllByRecursion (λ l. Differ n l.0) listed
later_differ n [] b h = tt
later_differ n (l ∷ listed) b h =
    let both = after_front (n ∷ []) (under (l.0 ∷ []) l.1) (listed_pairs listed) h in (
      less_differ n l.0 (subst (λ ps. After (n ∷ []) (under (l.0 ∷ []) ps)) b.0.whole both.0).0,
      later_differ n listed b.1 both.1,
    )

-- ---- parts taken off

own_taken : (at : Path) (es : Pairs) → taken at (under at es) ≡ es
own_taken at [] = refl
own_taken at (e ∷ es) =
    ap₂ (λ o (xs : Pairs). cons_option (option_map (λ rest. (rest, e.1)) o) xs)
    (strip_prefix-append at e.0) (own_taken at es)

other_taken : (n m : Name) (es : Pairs) → Differ n m → taken (n ∷ []) (under (m ∷ []) es) ≡ []
other_taken n m [] h = refl
other_taken n m (e ∷ es) h =
    ap₂ (λ b (xs : Pairs). cons_option
    (option_map (λ rest. (rest, e.1)) (if b then Some e.0 else None)) xs) h (other_taken n m es h)

none_taken : (n : Name) (listed : Listed) → AllByRecursion (λ l. Differ n l.0) listed →
    taken (n ∷ []) (listed_pairs listed) ≡ []
none_taken n [] h = refl
none_taken n (l ∷ listed) h =
    filter_map-append (taken_off (n ∷ [])) (under (l.0 ∷ []) l.1) (listed_pairs listed)
    ∙ ap₂ (λ xs ys. xs ++ ys) (other_taken n l.0 l.1 h.0) (none_taken n listed h.1)

-- at each name is what was read there
all_taken : (listed : Listed) → AllBegin listed → Rising (listed_pairs listed) →
    AllByRecursion (λ l. taken (l.0 ∷ []) (listed_pairs listed) ≡ l.1) listed
all_taken [] b h = tt
all_taken (l ∷ listed) b h =
    let both = rising_parts (under (l.0 ∷ []) l.1) (listed_pairs listed) h in
    let first : After (l.0 ∷ []) (listed_pairs listed) =
    (after_front (l.0 ∷ []) (under (l.0 ∷ []) b.0.below) (listed_pairs listed)
    (subst (λ ps. Rising (under (l.0 ∷ []) ps ++ listed_pairs listed)) b.0.whole h).0).1 in
    let others = later_differ l.0 listed b.1 first in (
      filter_map-append (taken_off (l.0 ∷ [])) (under (l.0 ∷ []) l.1) (listed_pairs listed)
          ∙ (ap₂ (λ xs ys. xs ++ ys) (own_taken (l.0 ∷ []) l.1) (none_taken l.0 listed others)
          ∙ append-nil l.1),
      each_with (λ k. Differ l.0 k.0 × (taken (k.0 ∷ []) (listed_pairs listed) ≡ k.1))
          (λ k. taken (k.0 ∷ []) (listed_pairs (l ∷ listed)) ≡ k.1)
          (λ k two. filter_map-append (taken_off (k.0 ∷ [])) (under (l.0 ∷ []) l.1)
          (listed_pairs listed)
          ∙ ap₂ (λ xs ys. xs ++ ys) (other_taken k.0 l.0 l.1 (differ_back l.0 k.0 two.0)) two.1)
          listed (each-both (λ k. Differ l.0 k.0) (λ k. taken (k.0 ∷ []) (listed_pairs listed)
          ≡ k.1) listed others (all_taken listed b.1 both.1)),
    )

-- ---- the names

none_below : (n : Name) (es : Pairs) → After root es → tops (under (n ∷ []) es) ≡ []
none_below n [] h = refl
none_below n (([], c) ∷ es) h = absurd (true≢false (sym (ap is_lt h.0)))
none_below n ((m ∷ q, c) ∷ es) h = none_below n es h.1

one_top : (l : Name × Pairs) (b : BeginAtRoot l.1) → Rising l.1 →
    tops (under (l.0 ∷ []) l.1) ≡ (l.0, b.content) ∷ []
one_top l b h =
    let after = (subst Rising b.whole h).0 in
    ap (λ ps. tops (under (l.0 ∷ []) ps)) b.whole
    ∙ ap (λ xs. (l.0, b.content) ∷ xs) (none_below l.0 b.below after)

-- ---- spellings

abbrev pub listed_spelling : Kind → Listed → Bytes
listed_spelling kind listed =
    flat_map (λ (l : Name × Pairs). length l.0 ∷ l.0 ++ spelling_of kind (from_sorted l.1)) listed

-- so many names were read
pub record ListedSoFar (kind : Kind) (at : Path) (count : ℕ) (bytes left : Bytes)
    (old new : Pairs) : Type 0 where
  pub listed : Listed
  pub counted : length listed ≡ count
  pub begin : AllBegin listed
  pub added : new ≡ old ++ under at (listed_pairs listed)
  pub spelled : AllByRecursion (λ l. Rising l.1) listed →
      bytes ≡ listed_spelling kind listed ++ left
  pub files : AreContentsOf kind (listed_pairs listed)

each-front : {X : Type 0} (P : X → Type 0) (xs ys : List X) → AllByRecursion P (xs ++ ys) →
    AllByRecursion P xs × AllByRecursion P ys
each-front P [] ys h = (tt, h)
each-front P (x ∷ xs) ys h = let rest = each-front P xs ys h.1 in ((h.0, rest.0), rest.1)

under_under : (at at' : Path) (es : Pairs) → under at (under at' es) ≡ under (at ++ at') es
under_under at at' [] = refl
under_under at at' (e ∷ es) =
    ap₂ (λ (p : Path) xs. (p, e.1) ∷ xs) (sym (append_assoc at at' e.0)) (under_under at at' es)

module _ (kind : Kind) where
  abbrev named : Tree → Name × Content → Bytes
  named t x = length x.0 ∷ x.0 ++ spelling_of kind (subtree t (x.0 ∷ []))

  spelled_names : (t : Tree) (listed : Listed) → AllBegin listed →
      AllByRecursion (λ l. Rising l.1) listed →
      AllByRecursion (λ l. subtree t (l.0 ∷ []) ≡ from_sorted l.1) listed →
      (length (tops (listed_pairs listed)) ≡ length listed)
      × (flat_map (named t) (tops (listed_pairs listed)) ≡ listed_spelling kind listed)
  spelled_names t [] b r s = (refl, refl)
  spelled_names t (l ∷ listed) b r s =
      let rest = spelled_names t listed b.1 r.1 s.1 in
      let split : tops (listed_pairs (l ∷ listed))
      ≡ (l.0, b.0.content) ∷ tops (listed_pairs listed) =
      filter_map-append (λ pair. option_map (λ name. (name, pair.1))
      (option_and_then only_name (strip_prefix root pair.0))) (under (l.0 ∷ []) l.1)
      (listed_pairs listed)
      ∙ ap (λ xs. xs ++ tops (listed_pairs listed)) (one_top l b.0 r.0) in (
        ap length split ∙ ap suc rest.0,
        ap (flat_map (named t)) split
            ∙ ap₂ (λ u more. (length l.0 ∷ l.0 ++ spelling_of kind u) ++ more) s.0 rest.1,
      )

  -- the tree of pairs that rise, name by name
  pub listed_spelled : (listed : Listed) → AllBegin listed → Rising (rooted (listed_pairs listed)) →
      spelling_of kind (from_sorted (rooted (listed_pairs listed)))
      ≡ 2 ∷ to_be_bytes w16 (length listed) ++ listed_spelling kind listed
  listed_spelled listed b h =
      let t : Tree = from_sorted (rooted (listed_pairs listed)) in
      let all = entries-rising (rooted (listed_pairs listed)) h in
      let parts = parts_rise listed h.1 in
      let below = each_with (λ l. Rising l.1 × (taken (l.0 ∷ []) (listed_pairs listed) ≡ l.1))
      (λ l. subtree t (l.0 ∷ []) ≡ from_sorted l.1)
      (λ l two. same_entries_map (subtree t (l.0 ∷ [])) (from_sorted l.1) (entries-subtree t
      (l.0 ∷ []) ∙ (ap (taken (l.0 ∷ [])) all ∙ (two.1 ∙ sym (entries-rising l.1 two.0)))))
      listed (each-both (λ l. Rising l.1) (λ l. taken (l.0 ∷ []) (listed_pairs listed) ≡ l.1) listed
      parts (all_taken listed b h.1)) in
      let names = spelled_names t listed b parts below in
      let kids : children t root ≡ tops (listed_pairs listed) = ap tops all in
      let here : get t root ≡ Some Directory = get-entries t root ∙ ap (find path_cmp root) all in
      unfolds kind t ∙ (ap (content_spelling (file_spelling_of kind) (spelling_of kind) t) here
      ∙ ap₂ (λ n more. 2 ∷ to_be_bytes w16 n ++ more) (ap length kids ∙ names.0)
      (ap (flat_map (named t)) kids ∙ names.1))

  -- ---- what was read, name by name

  file_of_pair : (contents : Contents) → spelling_of kind (from_sorted ((root, File contents) ∷ []))
      ≡ 1 ∷ file_spelling_of kind contents
  file_of_pair contents =
      let t : Tree = from_sorted ((root, File contents) ∷ []) in
      unfolds kind t ∙ ap (content_spelling (file_spelling_of kind) (spelling_of kind) t)
      (get-rising ((root, File contents) ∷ []) root (tt, tt))

  pub file_spelled : (at : Path) (fields : Bytes) (file : Contents) (left : Bytes)
      (old new : Pairs) (entry : Pair) →
      BeginsWith (IsFileOf kind) (file_spelling_of kind) fields file left →
      entry ≡ (at, File file) → new ≡ old ++ entry ∷ [] →
      PartIsRead kind at (1 ∷ fields) old new left
  file_spelled at fields file left old new entry found is added = (
    (root, File file) ∷ [],
    added ∙ ap (λ x. old ++ x ∷ []) (is ∙ sym (own_pair at (File file))),
    record {
      content = File file;
      below = [];
      whole = refl;
      spelled =
          λ _. ap (λ b. 1 ∷ b) found.spelled
          ∙ ap (λ b. b ++ left) (sym (file_of_pair file));
      files = (found.lawful, tt);
    },
  )

  pub directory_spelled : (at above : Path) (fields below : Bytes) (count : ℕ) (left : Bytes)
      (old mid new : Pairs) (entry : Pair) →
      BeginsWith (λ n. n < 2 ^ 16) (to_be_bytes w16) fields count below → above ≡ at →
      entry ≡ (at, Directory) → mid ≡ old ++ entry ∷ [] →
      PartsAreRead kind above count below mid new left →
      PartIsRead kind at (2 ∷ fields) old new left
  directory_spelled at above fields below count left old mid new entry found copy is added read = (
    rooted read.0,
    read.1 ∙ (ap₂ (λ es p. es ++ under p read.0)
        (added ∙ ap (λ x. old ++ x ∷ []) (is ∙ sym (own_pair at Directory))) copy
        ∙ append_assoc old ((at ++ root, Directory) ∷ []) (under at read.0)),
    record {
      content = Directory;
      below = read.0;
      whole = refl;
      spelled = λ rising. ap (λ b. 2 ∷ b) found.spelled ∙ read.2 rising;
      files = (tt, read.3);
    },
  )

  files_under : (at : Path) (es : Pairs) → AreContentsOf kind es → AreContentsOf kind (under at es)
  files_under at [] h = tt
  files_under at (e ∷ es) h = (h.0, files_under at es h.1)

  pub none_listed : (at : Path) (bytes : Bytes) (old : Pairs) →
      ListedSoFar kind at 0 bytes bytes old old
  none_listed at bytes old =
      record {
        listed = [];
        counted = refl;
        begin = tt;
        added = sym (append-nil old);
        spelled = λ _. refl;
        files = tt;
      }

  pub one_listed : (at : Path) (count : ℕ) (bytes left after left' : Bytes) (path : Path)
      (old new new' : Pairs) → ListedSoFar kind at count bytes left old new →
      BeginsWith (IsChildOf at) last_name_spelling left path after →
      PartIsRead kind path after new new' left' →
      ListedSoFar kind at (count + 1) bytes left' old new'
  one_listed at count bytes left after left' path old new new' h child part =
      let name = child.lawful.name in
      let one : Name × Pairs = (name, part.0) in
      let listed = h.listed in record {
        listed = listed ++ one ∷ [];
        counted = length-append listed (one ∷ []) ∙ ap (λ k. k + 1) h.counted;
        begin =
            each_append (λ l. BeginAtRoot l.1) listed (one ∷ []) h.begin
            (record { content = part.2.content; below = part.2.below; whole = part.2.whole }, tt);
        added =
            part.1 ∙ (ap₂ (λ es p. es ++ under p part.0) h.added child.lawful.below
            ∙ (append_assoc old (under at (listed_pairs listed)) (under (at ++ name ∷ []) part.0)
            ∙ ap (λ es. old ++ es) (ap (λ es. under at (listed_pairs listed) ++ es)
            (sym (under_under at (name ∷ []) part.0))
            ∙ (sym (map-append (λ (e : Pair). (at ++ e.0, e.1)) (listed_pairs listed)
            (under (name ∷ []) part.0))
            ∙ ap (under at) (ap (λ es. listed_pairs listed ++ es)
            (sym (append-nil (under (name ∷ []) part.0))) ∙ sym
            (flat_map-append (λ (l : Name × Pairs). under (l.0 ∷ []) l.1) listed (one ∷ [])))))));
        spelled = λ rise.
            let both = each-front (λ l. Rising l.1) listed (one ∷ []) rise in
            let own = length name ∷ name ++ spelling_of kind (from_sorted part.0) in
            h.spelled both.0 ∙ (ap (λ b. listed_spelling kind listed ++ b)
            (child.spelled ∙ (ap₂ (λ a b. a ++ b) (child_name at path child.lawful).1
            (part.2.spelled (are_rising part.0 both.1.0))
            ∙ sym
            (append_assoc (length name ∷ name) (spelling_of kind (from_sorted part.0)) left')))
            ∙ (sym (append_assoc (listed_spelling kind listed) own left')
            ∙ ap (λ b. b ++ left') (ap (λ b. listed_spelling kind listed ++ b)
            (sym (append-nil own)) ∙ sym (flat_map-append (λ (l : Name × Pairs). length l.0 ∷ l.0
            ++ spelling_of kind (from_sorted l.1)) listed (one ∷ [])))));
        files = subst (AreContentsOf kind)
            (sym (flat_map-append (λ (l : Name × Pairs). under (l.0 ∷ []) l.1) listed (one ∷ [])))
            (each_append (λ e. IsContentOf kind e.1) (listed_pairs listed)
            (under (name ∷ []) part.0 ++ []) h.files
            (subst (AreContentsOf kind) (sym (append-nil (under (name ∷ []) part.0)))
            (files_under (name ∷ []) part.0 part.2.files)));
      }

  pub all_listed : (at : Path) (wanted count : ℕ) (bytes left : Bytes) (old new : Pairs) →
      count ≡ wanted → ListedSoFar kind at count bytes left old new →
      PartsAreRead kind at wanted bytes old new left
  all_listed at wanted count bytes left old new ended h = (
    listed_pairs h.listed,
    h.added,
    λ rise.
        let rising = rising_of (rooted (listed_pairs h.listed)) rise in
        ap₂ (λ n b. 2 ∷ to_be_bytes w16 n ++ b) (sym (h.counted ∙ ended))
        (h.spelled (parts_rise h.listed rising.1))
        ∙ (sym (append_assoc (2 ∷ to_be_bytes w16 (length h.listed)) (listed_spelling kind h.listed)
        left) ∙ ap (λ b. b ++ left) (sym (listed_spelled h.listed h.begin rising))),
    h.files,
  )
