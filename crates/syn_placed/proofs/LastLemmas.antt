-- Pairs that are looked at one by one rise as long as each stands after the last.
use Rattle.std.proofs.Common.{◌≡◌, ◌<◌, ◌+◌, ℕ, [], ◌∷◌, ◌++◌, length, take, sym, ap, ◌∙◌, subst}
use Rattle.std.proofs.Common.{slice_index_or, Less, drop}
use Rattle.std.specs.List.{AllByRecursion}
use Rattle.std.proofs.lemmas.List.{take_more, take-append-drop}
use Rattle.syn_model.specs.Path.{Path, path_cmp}
use Rattle.syn_model.specs.Tree.{Content, Pair}
use Rattle.syn_model.proofs.PathLemmas.{path_total}
use Rattle.syn_placed.specs.Pairs.{Pairs, rooted, AreRising}
use Rattle.syn_placed.proofs.RisingLemmas.{Rising, After, rising_of, rising-append}
use Rattle.syn_model.proofs.BaseLemmas.{each_with}

-- the last of the pairs
pub record IsLast (pairs : Pairs) (last : Path) : Type 0 where
  pub front : Pairs
  pub content : Content
  pub parts : pairs ≡ front ++ (last, content) ∷ []

after_last : (p : Path) (front : Pairs) (last : Path) (c : Content) →
    After p (front ++ (last, c) ∷ []) → path_cmp p last ≡ Less
after_last p [] last c h = h.0
after_last p (e ∷ front) last c h = after_last p front last c h.1

all_before : (q last : Path) (c : Content) (front : Pairs) → Rising (front ++ (last, c) ∷ []) →
    path_cmp last q ≡ Less → AllByRecursion (λ e. path_cmp e.0 q ≡ Less) (front ++ (last, c) ∷ [])
all_before q last c [] h k = (k, tt)
all_before q last c (e ∷ front) h k = (
  path_total.trans e.0 last q (after_last e.0 front last c h.0) k,
  all_before q last c front h.1 k,
)

pub rising-more : (es : Pairs) (last : Path) (x : Pair) → Rising es → IsLast es last →
    path_cmp last x.0 ≡ Less → Rising (es ++ x ∷ [])
rising-more es last x h is k =
    rising-append es (x ∷ []) h (tt, tt)
    (each_with (λ e. path_cmp e.0 x.0 ≡ Less) (λ e. After e.0 (x ∷ [])) (λ e l. (l, tt)) es
    (subst (AllByRecursion (λ e. path_cmp e.0 x.0 ≡ Less)) (sym is.parts)
    (all_before x.0 last is.content is.front (subst Rising is.parts h) k)))

rising_front : (xs ys : Pairs) → Rising (xs ++ ys) → Rising xs
rising_front [] ys h = tt
rising_front (x ∷ xs) ys h = (after_front x.0 xs ys h.0, rising_front xs ys h.1)
  where
    after_front : (p : Path) (xs ys : Pairs) → After p (xs ++ ys) → After p xs
    after_front p [] ys h = tt
    after_front p (x ∷ xs) ys h = (h.0, after_front p xs ys h.1)

next_less : (front : Pairs) (last : Path) (c : Content) (x : Pair) →
    Rising ((front ++ (last, c) ∷ []) ++ x ∷ []) → path_cmp last x.0 ≡ Less
next_less [] last c x h = h.0.0
next_less (e ∷ front) last c x h = next_less front last c x h.1

-- a pair after the last of those before it
pub rising-next : (list : Pairs) (i : ℕ) (x : Pair) (last : Path) → i < length list →
    x ≡ slice_index_or list i x → IsLast (rooted (take i list)) last → AreRising (rooted list) →
    path_cmp last x.0 ≡ Less
rising-next list i x last l is before rising =
    let parts : list ≡ (take i list ++ x ∷ []) ++ drop (i + 1) list =
    sym (take-append-drop (i + 1) list) ∙ ap (λ xs. xs ++ drop (i + 1) list)
    (take_more list i x l ∙ ap (λ y. take i list ++ y ∷ []) (sym is)) in
    next_less before.front last before.content x
    (subst Rising (ap (λ xs. xs ++ x ∷ []) before.parts) (rising_front (rooted (take i list) ++ x
    ∷ []) (drop (i + 1) list) (subst Rising (ap rooted parts) (rising_of (rooted list) rising))))
