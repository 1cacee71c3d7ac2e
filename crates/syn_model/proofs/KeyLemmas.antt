-- The order of lawful paths is that of their keys.
use Rattle.std.proofs.Common.{◌≡◌, ◌<◌, [], ◌∷◌, ◌++◌, refl, sym, ap, ap₂, ◌∙◌, subst, append_assoc}
use Rattle.std.proofs.Common.{All, Ordering, Less, Equal, Greater}
use Rattle.std.specs.Ordering.{nat_cmp, ordering_then}
use Rattle.std.specs.Cmp.{nat_cmp_is}
use Rattle.std.proofs.Math.Nat.{pos_of_ne-zero}
use Rattle.std.specs.Prelude.{Contains}
use Rattle.std.proofs.lemmas.List.Elements.{All-tail, All-head, Contains-get_or}
use Rattle.syn_model.specs.Path.{Bytes, Name, Path, name_cmp, path_cmp, path_key, key_cmp, IsName}
use Rattle.syn_model.specs.Laws.{PathsGoByKey}

then_assoc : (a b c : Ordering) →
    ordering_then (ordering_then a b) c ≡ ordering_then a (ordering_then b c)
then_assoc Less b c = refl
then_assoc Equal b c = refl
then_assoc Greater b c = refl

abbrev pub NoZero : Bytes → Type 0
NoZero name = All (λ b. 0 < b) name

-- names that are ended by a zero byte compare first, and then what follows
ended : (n m a b : Bytes) → NoZero n → NoZero m →
    key_cmp (n ++ 0 ∷ a) (m ++ 0 ∷ b) ≡ ordering_then (name_cmp n m) (key_cmp a b)
ended [] [] a b hn hm = refl
ended [] (y ∷ m) a b hn hm =
    let p : 0 < y = All-head (λ b. 0 < b) y m hm in
    ap (λ o. ordering_then o (key_cmp a (m ++ 0 ∷ b))) (sym (nat_cmp_is 0 y Less p))
ended (x ∷ n) [] a b hn hm =
    let p : 0 < x = All-head (λ b. 0 < b) x n hn in
    ap (λ o. ordering_then o (key_cmp (n ++ 0 ∷ a) b)) (sym (nat_cmp_is x 0 Greater p))
ended (x ∷ n) (y ∷ m) a b hn hm =
    ap (ordering_then (nat_cmp x y))
    (ended n m a b (All-tail (λ b. 0 < b) x n hn) (All-tail (λ b. 0 < b) y m hm))
    ∙ sym (then_assoc (nat_cmp x y) (name_cmp n m) (key_cmp a b))

below_ended : (m rest : Bytes) → key_cmp [] (m ++ 0 ∷ rest) ≡ Less
below_ended [] rest = refl
below_ended (y ∷ m) rest = refl

above_ended : (n rest : Bytes) → key_cmp (n ++ 0 ∷ rest) [] ≡ Greater
above_ended [] rest = refl
above_ended (x ∷ n) rest = refl

by_names : (p q : Path) → All NoZero p → All NoZero q →
    path_cmp p q ≡ key_cmp (path_key p) (path_key q)
by_names [] [] hp hq = refl
by_names [] (m ∷ q) hp hq =
    sym (ap (key_cmp []) (append_assoc m (0 ∷ []) (path_key q)) ∙ below_ended m (path_key q))
by_names (n ∷ p) [] hp hq =
    sym (ap (λ k. key_cmp k []) (append_assoc n (0 ∷ []) (path_key p)) ∙ above_ended n (path_key p))
by_names (n ∷ p) (m ∷ q) hp hq =
    ap (ordering_then (name_cmp n m))
    (by_names p q (All-tail NoZero n p hp) (All-tail NoZero m q hq))
    ∙ (sym (ended n m (path_key p) (path_key q) (All-head NoZero n p hp) (All-head NoZero m q hq))
    ∙ sym
    (ap₂ key_cmp (append_assoc n (0 ∷ []) (path_key p)) (append_assoc m (0 ∷ []) (path_key q))))

pub no_zero : (name : Name) → IsName name → NoZero name
no_zero name lawful k d below =
    pos_of_ne-zero (λ e. lawful.no_zero (subst (Contains name) e (Contains-get_or name k d below)))

pub paths_go_by_key : PathsGoByKey
paths_go_by_key p q hp hq =
    by_names p q (λ k d below. no_zero _ (hp.names k d below))
    (λ k d below. no_zero _ (hq.names k d below))
