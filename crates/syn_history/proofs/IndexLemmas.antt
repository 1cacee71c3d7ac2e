-- The last positions of the paths: how they go on by a touch, and that they tell what all touches
-- do.
use Rattle.std.proofs.Common.{◌≡◌, ◌≤◌, ◌<◌, ◌+◌, ◌-◌, ◌==◌, ℕ, suc, Bool, true, false, cond}
use Rattle.std.proofs.Common.{◌&&◌, ◌||◌, inl, inr, nat_le, nat_lt, List, [], ◌∷◌, ◌++◌, length}
use Rattle.std.proofs.Common.{take, drop, filter, All, Option, Some, None, refl, sym, ap, ap₂, ◌∙◌}
use Rattle.std.proofs.Common.{subst}
use Rattle.std.proofs.Common.{length-append, append-nil, is_some, true≢false, arith, slice_get}
use Rattle.std.proofs.Common.{IsTrue, ◌↔◌}
use Rattle.std.specs.List.{AllByRecursion, AllPairs, list_any}
use Rattle.std.specs.Option.{option_map_or}
use Rattle.std.specs.Ordering.{eq_by_cmp}
use Rattle.std.specs.FinMap as map
use Rattle.std.specs.FinMap.{FinMap, find}
use Rattle.std.specs.FinMap.Entries.{find-append}
use Rattle.std.proofs.Math.Bool.{or_comm}
use Rattle.std.proofs.lemmas.Bool.{and_parts, and_from, or_left, or_right, or_cases, eq-eqb, ne_eqb}
use Rattle.std.proofs.lemmas.Bool.{false_from_ne_true, leb-true, le-leb, ltb-true, ltb-false}
use Rattle.std.proofs.lemmas.List.{take-append-drop}
use Rattle.std.proofs.Math.Seq.{take-append_seam}
use Rattle.std.proofs.lemmas.List.Elements.{recursion_from_All}
use Rattle.std.proofs.lemmas.List.Folds.{list_any-append}
use Rattle.std.proofs.lemmas.List.Quantifiers.{all_pairs_push}
use Rattle.circular_buffer.specs.Buffer.{keep_last}
use Rattle.syn_model.specs.Path.{Path, path_cmp, is_prefix, comparable}
use Rattle.syn_model.specs.Standing.{Touch}
use Rattle.syn_model.proofs.PathLemmas.{path_total, path_exact, same_path, path_itself}
use Rattle.syn_path.proofs.PathLemmas.{prefix_from_test}
use Rattle.syn_placed.proofs.KeyedLemmas.{rises}
use Rattle.syn_placed.proofs.KeyedParts.{IsFoundBy, found_any, any_found}
use Rattle.syn_history.specs.Past.{tells}
use Rattle.syn_history.specs.Index.{newest_first, last_positions, IsEarlier, forgotten, without}
use Rattle.syn_history.specs.Index.{entry_tells, is_touched_at}
use Rattle.syn_model.proofs.BaseLemmas.{is_true, each_append}
use Rattle.syn_model.proofs.PathLemmas.{prefix-append}

abbrev pair_of : Touch → Path × ℕ
pair_of touch = (touch.path, touch.position)

-- ---- the newest first

-- each entry comes at a lower position than those before it
abbrev pub Falling : List (Path × ℕ) → Type 0
Falling [] = Unit {0}
Falling (e ∷ es) = AllByRecursion (λ f. f.1 < e.1) es × Falling es

falling_snoc : (es : List (Path × ℕ)) (x : Path × ℕ) → Falling es →
    AllByRecursion (λ e. x.1 < e.1) es → Falling (es ++ x ∷ [])
falling_snoc [] x h low = (tt, tt)
falling_snoc (e ∷ es) x h low = (
  each_append (λ f. f.1 < e.1) es (x ∷ []) h.0 (low.0, tt),
  falling_snoc es x h.1 low.1,
)

each_newest : (P : Path × ℕ → Type 0) (touches : List Touch) →
    AllByRecursion (λ touch. P (pair_of touch)) touches → AllByRecursion P (newest_first touches)
each_newest P [] h = tt
each_newest P (t ∷ ts) h =
    each_append P (newest_first ts) (pair_of t ∷ []) (each_newest P ts h.1) (h.0, tt)

later_all : (t : Touch) (ts : List Touch) → AllPairs IsEarlier (t ∷ ts) →
    AllByRecursion (λ touch. t.position < touch.position) ts
later_all t ts h =
    recursion_from_All (λ touch. t.position < touch.position) ts
    (λ k d l. h 0 (suc k) d (omega arith) (omega (arith, l)))

pub later_pairs : (t : Touch) (ts : List Touch) → AllPairs IsEarlier (t ∷ ts) →
    AllPairs IsEarlier ts
later_pairs t ts h i j d less l = h (suc i) (suc j) d (omega (arith, less)) (omega (arith, l))

falling_of : (touches : List Touch) → AllPairs IsEarlier touches → Falling (newest_first touches)
falling_of [] h = tt
falling_of (t ∷ ts) h =
    falling_snoc (newest_first ts) (pair_of t) (falling_of ts (later_pairs t ts h))
    (each_newest (λ e. t.position < e.1) ts (later_all t ts h))

newest_push : (ts : List Touch) (t : Touch) →
    newest_first (ts ++ t ∷ []) ≡ pair_of t ∷ newest_first ts
newest_push [] t = refl
newest_push (x ∷ ts) t = ap (λ es. es ++ pair_of x ∷ []) (newest_push ts t)

length-newest : (ts : List Touch) → length (newest_first ts) ≡ length ts
length-newest [] = refl
length-newest (t ∷ ts) =
    omega (arith, length-newest ts, length-append (newest_first ts) (pair_of t ∷ []))

-- ---- one touch more

pub last-push : (ts : List Touch) (t : Touch) →
    last_positions (ts ++ t ∷ []) ≡ map.insert (last_positions ts) t.path t.position
last-push ts t = ap map.from_entries (newest_push ts t)

-- one path more at most
pub len-insert-le : (positions : FinMap path_cmp ℕ) (k : Path) (v : ℕ) →
    map.len (map.insert positions k v) ≤ map.len positions + 1
len-insert-le positions k v =
    omega (
      arith,
      map.len-insert path_total positions k v,
      one_at_most (is_some (map.get positions k)) (map.len positions),
    )
  where
    one_at_most : (b : Bool) (n : ℕ) → cond b n (n + 1) ≤ n + 1
    one_at_most true n = omega arith
    one_at_most false n = omega arith

few_entries : (es : List (Path × ℕ)) → map.len (map.from_entries {R = path_cmp} es) ≤ length es
few_entries [] = omega (arith, map.len-empty path_cmp ℕ)
few_entries (e ∷ es) =
    omega (arith, few_entries es, len-insert-le (map.from_entries es) e.0 e.1)

-- no more paths than touches
pub len-last : (ts : List Touch) → map.len (last_positions ts) ≤ length ts
len-last ts = omega (arith, few_entries (newest_first ts), length-newest ts)

-- ---- the oldest touch goes

found_position : (es : List (Path × ℕ)) (v : ℕ) (k : Path) (w : ℕ) →
    AllByRecursion (λ e. v < e.1) es → find path_cmp k es ≡ Some w → v < w
found_position [] v k w h is = absurd (true≢false (sym (ap is_some is)))
found_position (e ∷ es) v k w h is =
    elim (eq_by_cmp path_cmp k e.0) as (λ b. cond b (Some e.1) (find path_cmp k es) ≡ Some w →
    v < w) [
      | true ↦ λ same. subst (λ o. v < option_map_or (λ x. x) o w) same h.0
      | false ↦ λ rest. found_position es v k w h.1 rest
    ] is

find_front : (q : Path) (es : List (Path × ℕ)) (x : Path × ℕ) (w : ℕ) →
    find path_cmp q es ≡ Some w → find path_cmp q (es ++ x ∷ []) ≡ Some w
find_front q [] x w is = absurd (true≢false (sym (ap is_some is)))
find_front q (e ∷ es) x w is =
    elim (eq_by_cmp path_cmp q e.0) as (λ b. cond b (Some e.1) (find path_cmp q es) ≡ Some w →
    cond b (Some e.1) (find path_cmp q (es ++ x ∷ [])) ≡ Some w)
    [ true ↦ λ same. same | false ↦ λ rest. find_front q es x w rest ] is

find_other : (q : Path) (es : List (Path × ℕ)) (x : Path × ℕ) → eq_by_cmp path_cmp q x.0 ≡ false →
    find path_cmp q (es ++ x ∷ []) ≡ find path_cmp q es
find_other q [] x h = ap (λ b. cond b (Some x.1) None) h
find_other q (e ∷ es) x h = ap (cond (eq_by_cmp path_cmp q e.0) (Some e.1)) (find_other q es x h)

-- what is found nearer hides the last
hidden : (es : List (Path × ℕ)) (x : Path × ℕ) (w : ℕ) → find path_cmp x.0 es ≡ Some w →
    (q : Path) → find path_cmp q (es ++ x ∷ []) ≡ find path_cmp q es
hidden es x w is q =
    elim (eq_by_cmp path_cmp q x.0) as (λ b. eq_by_cmp path_cmp q x.0 ≡ b →
    find path_cmp q (es ++ x ∷ []) ≡ find path_cmp q es) [
      | true ↦ λ tie.
          let there = ap (λ p. find path_cmp p es) (same_path q x.0 tie) ∙ is in
          find_front q es x w there ∙ sym there
      | false ↦ λ other. find_other q es x other
    ] refl

get_last : (ts : List Touch) (q : Path) →
    map.get (last_positions ts) q ≡ find path_cmp q (newest_first ts)
get_last ts q = map.get-from_entries path_total (newest_first ts) q

-- the map without the last entry, where no other is at its path
removed_last : (es : List (Path × ℕ)) (k : Path) (v : ℕ) → find path_cmp k es ≡ None →
    map.remove (map.from_entries {R = path_cmp} (es ++ (k, v) ∷ [])) k ≡ map.from_entries es
removed_last es k v none =
    map.same_map path_total path_exact _ _ (λ q.
    map.get-remove path_total (map.from_entries (es ++ (k, v) ∷ [])) k q
    ∙ (ap (cond (eq_by_cmp path_cmp q k) None)
    (map.get-from_entries path_total (es ++ (k, v) ∷ []) q
    ∙ find-append path_cmp path_total es k v q none)
    ∙ (elim (eq_by_cmp path_cmp q k) as (λ b. eq_by_cmp path_cmp q k ≡ b →
    cond b None (cond b (Some v) (find path_cmp q es)) ≡ find path_cmp q es) [
      | true ↦ λ tie. sym (ap (λ p. find path_cmp p es) (same_path q k tie) ∙ none)
      | false ↦ λ _. refl
    ] refl ∙ sym (map.get-from_entries path_total es q))))

-- without the oldest, which is the last of its path or not
pub forget_first : (t : Touch) (ts : List Touch) → AllPairs IsEarlier (t ∷ ts) →
    forgotten (last_positions (t ∷ ts)) t ≡ last_positions ts
forget_first t ts h = by_last (find path_cmp t.path (newest_first ts)) refl
  where
    by_last : (o : Option ℕ) → find path_cmp t.path (newest_first ts) ≡ o →
        forgotten (last_positions (t ∷ ts)) t ≡ last_positions ts
    by_last None none =
        let was : FinMap path_cmp ℕ = last_positions (t ∷ ts) in
        let there : map.get was t.path ≡ Some t.position =
        get_last (t ∷ ts) t.path
        ∙ (find-append path_cmp path_total (newest_first ts) t.path t.position t.path none
        ∙ ap (λ b. cond b (Some t.position) (find path_cmp t.path (newest_first ts)))
        (path_itself t.path)) in
        ap (λ o. cond (option_map_or (λ at. at == t.position) o false)
        (map.remove was t.path) was) there
        ∙ (ap (λ b. cond b (map.remove was t.path) was) (eq-eqb t.position t.position refl)
        ∙ removed_last (newest_first ts) t.path t.position none)
    by_last (Some w) found =
        let was : FinMap path_cmp ℕ = last_positions (t ∷ ts) in
        let later : t.position < w =
        found_position (newest_first ts) t.position t.path w
        (each_newest (λ e. t.position < e.1) ts (later_all t ts h)) found in
        let there : map.get was t.path ≡ Some w =
        get_last (t ∷ ts) t.path ∙ find_front t.path (newest_first ts) (pair_of t) w found in
        ap (λ o. cond (option_map_or (λ at. at == t.position) o false)
        (map.remove was t.path) was) there
        ∙ (ap (λ b. cond b (map.remove was t.path) was)
        (ne_eqb w t.position (λ e. omega (arith, e, later)))
        ∙ map.same_map path_total path_exact _ _ (λ q. get_last (t ∷ ts) q
        ∙ (hidden (newest_first ts) (pair_of t) w found q ∙ sym (get_last ts q))))

-- ---- a touch in a list that keeps the last so many

-- what of the older touches stays beside a new one
pub record StaysOf (capacity : ℕ) (older : List Touch) (touch : Touch) (dropped : Option Touch)
    : Type 0 where
  pub stays : List Touch
  pub kept : keep_last capacity (older ++ touch ∷ []) ≡ stays ++ touch ∷ []
  pub index : without (last_positions older) dropped ≡ last_positions stays
  pub rising : AllPairs IsEarlier stays
  pub later : All (λ older. older.position < touch.position) stays
  pub few : length stays < capacity

-- where there is room, all stay
stays_all : (capacity : ℕ) (older : List Touch) (touch : Touch) (dropped : Option Touch) →
    length older < capacity → AllPairs IsEarlier older →
    All (λ older. older.position < touch.position) older → dropped ≡ None →
    StaysOf capacity older touch dropped
stays_all capacity older touch dropped room rising later none =
    let count : length (older ++ touch ∷ []) - capacity ≡ 0 =
    omega (arith, room, length-append older (touch ∷ [])) in
    record {
      stays = older;
      kept = ap (λ n. drop n (older ++ touch ∷ [])) count;
      index = ap (λ o. option_map_or (λ oldest. forgotten (last_positions older) oldest) o
          (last_positions older)) none;
      rising = rising;
      later = later;
      few = room;
    }

-- where there is none, the oldest goes
stays_rest : (capacity : ℕ) (older : List Touch) (touch : Touch) (dropped : Option Touch) →
    0 < capacity → length older ≡ capacity → AllPairs IsEarlier older →
    All (λ older. older.position < touch.position) older →
    dropped ≡ slice_get (older ++ touch ∷ []) 0 → StaysOf capacity older touch dropped
stays_rest capacity [] touch dropped some full rising later oldest =
    absurd (omega (arith, some, full))
stays_rest capacity (x ∷ rest) touch dropped some full rising later oldest =
    let count : length (x ∷ (rest ++ touch ∷ [])) - capacity ≡ 1 =
    omega (arith, full, length-append rest (touch ∷ [])) in
    record {
      stays = rest;
      kept = ap (λ n. drop n (x ∷ (rest ++ touch ∷ []))) count;
      index = ap (λ o. option_map_or (λ oldest. forgotten (last_positions (x ∷ rest)) oldest) o
          (last_positions (x ∷ rest))) oldest ∙ forget_first x rest rising;
      rising = later_pairs x rest rising;
      later = λ k d l. later (suc k) d (omega (arith, l));
      few = omega (arith, full);
    }

pub stays_of : (capacity : ℕ) (older : List Touch) (touch : Touch) (dropped : Option Touch) →
    0 < capacity → length older ≤ capacity → AllPairs IsEarlier older →
    All (λ older. older.position < touch.position) older →
    dropped ≡ cond (nat_lt (length older) capacity) None (slice_get (older ++ touch ∷ []) 0) →
    StaysOf capacity older touch dropped
stays_of capacity older touch dropped some few rising later is =
    elim (nat_lt (length older) capacity) as (λ b. nat_lt (length older) capacity ≡ b →
    dropped ≡ cond b None (slice_get (older ++ touch ∷ []) 0) →
    StaysOf capacity older touch dropped) [
      | true ↦ λ room none. stays_all capacity older touch dropped
          (ltb-true (length older) capacity room) rising later none
      | false ↦ λ full oldest.
          let above = ltb-false (length older) capacity full in
          let same : length older ≡ capacity = omega (arith, few, above) in
          stays_rest capacity older touch dropped some same rising later oldest
    ] refl is

-- the rest with the new one
pub rising_more : (stays : List Touch) (touch : Touch) → AllPairs IsEarlier stays →
    All (λ older. older.position < touch.position) stays →
    AllPairs IsEarlier (stays ++ touch ∷ [])
rising_more stays touch rising later = all_pairs_push IsEarlier stays touch rising later

-- ---- what the index tells

any_newest : (p : Path × ℕ → Bool) (ts : List Touch) →
    list_any p (newest_first ts) ≡ list_any (λ t. p (pair_of t)) ts
any_newest p [] = refl
any_newest p (t ∷ ts) =
    list_any-append p (newest_first ts) (pair_of t ∷ [])
    ∙ (or_comm (list_any p (newest_first ts)) (p (pair_of t) || false)
    ∙ ap₂ (λ a b. a || b) (or_false (p (pair_of t))) (any_newest p ts))
  where
    or_false : (b : Bool) → (b || false) ≡ b
    or_false true = refl
    or_false false = refl

-- where a later position passes too, what is found at a path of one that passes does
found_newest : (p : Path × ℕ → Bool) → ((k : Path) (v w : ℕ) → v < w → p (k, v) ≡ true →
    p (k, w) ≡ true) → (es : List (Path × ℕ)) → Falling es → list_any p es ≡ true → IsFoundBy p es
found_newest p more [] h some = absurd (true≢false (sym some))
found_newest p more (e ∷ es) h some =
    elim (or_cases (p e) (list_any p es) some) [
      | inl here ↦ record {
        entry = e;
        found = ap (λ b. cond b (Some e.1) (find path_cmp e.0 es)) (path_itself e.0);
        passes = here;
      }
      | inr rest ↦ nearer (found_newest p more es h.1 rest)
    ]
  where
    above : (k : Path) (v : ℕ) (fs : List (Path × ℕ)) → AllByRecursion (λ f. f.1 < e.1) fs →
        find path_cmp k fs ≡ Some v → v < e.1
    above k v [] low is = absurd (true≢false (sym (ap is_some is)))
    above k v (f ∷ fs) low is =
        elim (eq_by_cmp path_cmp k f.0) as (λ b. cond b (Some f.1) (find path_cmp k fs) ≡ Some v →
        v < e.1) [
          | true ↦ λ same. subst (λ o. option_map_or (λ x. x) o 0 < e.1) same low.0
          | false ↦ λ rest. above k v fs low.1 rest
        ] is

    nearer : IsFoundBy p es → IsFoundBy p (e ∷ es)
    nearer was =
        let k = was.entry.0 in
        let low = above k was.entry.1 es h.0 was.found in
        elim (eq_by_cmp path_cmp k e.0) as (λ b. eq_by_cmp path_cmp k e.0 ≡ b →
        IsFoundBy p (e ∷ es)) [
          | true ↦ λ tie. record {
            entry = e;
            found = ap (λ b. cond b (Some e.1) (find path_cmp e.0 es)) (path_itself e.0);
            passes = subst (λ q. p (q, e.1) ≡ true) (same_path k e.0 tie)
                (more k was.entry.1 e.1 low was.passes);
          }
          | false ↦ λ other. record {
            entry = was.entry;
            found = ap (λ b. cond b (Some e.1) (find path_cmp k es)) other ∙ was.found;
            passes = was.passes;
          }
        ] refl

bool_same : (a b : Bool) → (a ≡ true → b ≡ true) → (b ≡ true → a ≡ true) → a ≡ b
bool_same true b f g = sym (f refl)
bool_same false true f g = g refl
bool_same false false f g = refl

still_tells : (since : ℕ) (path k : Path) (v w : ℕ) → v < w → entry_tells since path (k, v) ≡ true →
    entry_tells since path (k, w) ≡ true
still_tells since path k v w less h =
    let both = and_parts (nat_le since v) (comparable k path) h in
    and_from (nat_le since w) (comparable k path)
    (le-leb since w (omega (arith, less, leb-true since v both.0))) both.1

-- what the last positions tell is what all touches tell
pub index_tells : (since : ℕ) (path : Path) (ts : List Touch) → AllPairs IsEarlier ts →
    list_any (entry_tells since path) (map.entries (last_positions ts))
    ≡ list_any (tells since path) ts
index_tells since path ts h =
    let p = entry_tells since path in
    let m : FinMap path_cmp ℕ = last_positions ts in
    let es = map.entries m in
    bool_same (list_any p es) (list_any (tells since path) ts)
    (λ some.
    let f = any_found p es (rises es (is_true _ (map.entries_sorted m))) some in
    sym (any_newest p ts) ∙ found_any p f.entry.0 f.entry.1 (newest_first ts)
    (sym (get_last ts f.entry.0) ∙ (map.get-entries m f.entry.0 ∙ f.found)) f.passes)
    (λ some.
    let f = found_newest p (still_tells since path) (newest_first ts) (falling_of ts h)
    (any_newest p ts ∙ some) in
    found_any p f.entry.0 f.entry.1 es
    (sym (map.get-entries m f.entry.0) ∙ (get_last ts f.entry.0 ∙ f.found)) f.passes)

-- ---- above and below a path

any_more : {X : Type 0} (p q : X → Bool) → ((x : X) → p x ≡ true → q x ≡ true) → (xs : List X) →
    list_any p xs ≡ true → list_any q xs ≡ true
any_more p q f [] h = absurd (true≢false (sym h))
any_more p q f (x ∷ xs) h =
    elim (or_cases (p x) (list_any p xs) h) [
      | inl here ↦ or_left (q x) (list_any q xs) (f x here)
      | inr rest ↦ or_right (q x) (list_any q xs) (any_more p q f xs rest)
    ]

-- the entry tells of the path or of what is below it
abbrev pub tells_below : ℕ → Path → Path × ℕ → Bool
tells_below since path entry = nat_le since entry.1 && is_prefix path entry.0

pub below_tells : (since : ℕ) (path : Path) (es : List (Path × ℕ)) →
    list_any (tells_below since path) es ≡ true → list_any (entry_tells since path) es ≡ true
below_tells since path es h =
    any_more (tells_below since path) (entry_tells since path)
    (λ e k. let both = and_parts (nat_le since e.1) (is_prefix path e.0) k in
    and_from (nat_le since e.1) (comparable e.0 path) both.0
    (or_right (is_prefix e.0 path) (is_prefix path e.0) both.1)) es h

told_by : (since : ℕ) (o : Option ℕ) → option_map_or (λ at. nat_le since at) o false ≡ true →
    (v : ℕ) × (o ≡ Some v) × (nat_le since v ≡ true)
told_by since None h = absurd (true≢false (sym h))
told_by since (Some v) h = (v, refl, h)

pub above_tells : (since : ℕ) (path : Path) (m : FinMap path_cmp ℕ) (depth : ℕ) →
    is_touched_at since m (take depth path) ≡ true →
    list_any (entry_tells since path) (map.entries m) ≡ true
above_tells since path m depth h =
    let k = take depth path in
    let told = told_by since (map.get m k) h in
    let over : is_prefix k path ≡ true =
    ap (is_prefix k) (sym (take-append-drop depth path)) ∙ prefix-append k (drop depth path) in
    found_any (entry_tells since path) k told.0 (map.entries m)
    (sym (map.get-entries m k) ∙ told.1)
    (and_from (nat_le since told.0) (comparable k path) told.2
    (or_left (is_prefix k path) (is_prefix path k) over))

-- where neither the part below nor a path above tells anything, nothing does
pub none_tells : (since : ℕ) (path : Path) (m : FinMap path_cmp ℕ) →
    list_any (tells_below since path) (map.entries m) ≡ false →
    ((depth : ℕ) → depth < length path → is_touched_at since m (take depth path) ≡ true → ⊥) →
    list_any (entry_tells since path) (map.entries m) ≡ false
none_tells since path m below above =
    false_from_ne_true (list_any p es) (λ some.
    told (any_found p es (rises es (is_true _ (map.entries_sorted m))) some))
  where
    p : Path × ℕ → Bool
    p = entry_tells since path

    es : List (Path × ℕ)
    es = map.entries m

    no_below : (e : Path × ℕ) → find path_cmp e.0 (map.entries m) ≡ Some e.1 →
        nat_le since e.1 ≡ true → is_prefix path e.0 ≡ true → ⊥
    no_below e found late within =
        true≢false (sym (found_any (tells_below since path) e.0 e.1 (map.entries m) found
        (and_from (nat_le since e.1) (is_prefix path e.0) late within)) ∙ below)

    by_rest : (e : Path × ℕ) (rest : Path) → find path_cmp e.0 (map.entries m) ≡ Some e.1 →
        nat_le since e.1 ≡ true → e.0 ++ rest ≡ path → ⊥
    by_rest e [] found late is =
        let same : path ≡ e.0 = sym is ∙ append-nil e.0 in
        no_below e found late (ap (λ q. is_prefix q e.0) same
        ∙ (ap (is_prefix e.0) (sym (append-nil e.0)) ∙ prefix-append e.0 []))
    by_rest e (n ∷ r) found late is =
        let short : length e.0 < length path =
        omega (arith, ap length is, length-append e.0 (n ∷ r)) in
        let own : take (length e.0) path ≡ e.0 =
        ap (take (length e.0)) (sym is) ∙ take-append_seam e.0 (n ∷ r) in
        above (length e.0) short (ap (is_touched_at since m) own
        ∙ (ap (λ o. option_map_or (λ at. nat_le since at) o false)
        (map.get-entries m e.0 ∙ found) ∙ late))

    told : IsFoundBy (entry_tells since path) (map.entries m) → ⊥
    told f =
        let e = f.entry in
        let both = and_parts (nat_le since e.1) (comparable e.0 path) f.passes in
        elim (or_cases (is_prefix e.0 path) (is_prefix path e.0) both.1) [
          | inl over ↦
              let rest = prefix_from_test e.0 path over in
              by_rest e rest.0 f.found both.0 rest.1
          | inr within ↦ no_below e f.found both.0 within
        ]

pub any-filter : {X : Type 0} (p q : X → Bool) (xs : List X) →
    list_any p (filter q xs) ≡ list_any (λ x. p x && q x) xs
any-filter p q [] = refl
any-filter p q (x ∷ xs) =
    elim (q x) as (λ b. list_any p (cond b (x ∷ filter q xs) (filter q xs))
    ≡ ((p x && b) || list_any (λ x. p x && q x) xs)) [
      | true ↦ ap₂ (λ a b. a || b) (sym (and_true (p x))) (any-filter p q xs)
      | false ↦ any-filter p q xs
          ∙ ap (λ a. a || list_any (λ x. p x && q x) xs) (sym (and_false (p x)))
    ]
  where
    and_true : (b : Bool) → (b && true) ≡ b
    and_true true = refl
    and_true false = refl

    and_false : (b : Bool) → (b && false) ≡ false
    and_false true = refl
    and_false false = refl

-- what is found neither below nor above is not there
pub above_or_not : (since : ℕ) (path : Path) (m : FinMap path_cmp ℕ) (r : Bool) →
    list_any (tells_below since path) (map.entries m) ≡ false →
    (IsTrue r ↔ ((depth : ℕ) × (depth < length path)
    × (is_touched_at since m (take depth path) ≡ true))) →
    r ≡ list_any (entry_tells since path) (map.entries m)
above_or_not since path m true below means =
    let above = means.0 refl in
    sym (above_tells since path m above.0 above.2)
above_or_not since path m false below means =
    sym (none_tells since path m below (λ depth l h. true≢false (sym (means.1 (depth, l, h)))))
