-- Histories that grow by one hold, and the holds of one pass in them.
use Rattle.std.proofs.Common.{◌≡◌, ◌≢◌, ℕ, zero, suc, ◌<◌, Bool, true, false, cond, eqb, List, []}
use Rattle.std.proofs.Common.{◌∷◌, ◌++◌, length, get_or, refl, ap, sym, ◌∙◌, subst, arith}
use Rattle.std.proofs.Common.{append_assoc, eq-eqb, ne_eqb}
use mathlib.Core.Option.{some, some-injective, some-ne-none}
use mathlib.Core.List.{IsPrefix, append-nil}
use lib.ListN.{get_elem?}
use Rattle.syn_lock.specs.declared.view.Hold.{Hold}
use Rattle.syn_lock.specs.History.{hold, end_of, IsHistory, holds_by}

pub at_below : {A : Type 0} (l : List A) (i : ℕ) (a : A) → get_elem? l i ≡ some a → i < length l
at_below [] i a e = absurd (some-ne-none a (sym e))
at_below (x ∷ xs) zero a e = omega arith
at_below (x ∷ xs) (suc i) a e = let h = at_below xs i a e in omega arith

pub index_of : {A : Type 0} (l : List A) (i : ℕ) (a d : A) → get_elem? l i ≡ some a →
    get_or l i d ≡ a
index_of [] i a d e = absurd (some-ne-none a (sym e))
index_of (x ∷ xs) zero a d e = some-injective x a e
index_of (x ∷ xs) (suc i) a d e = index_of xs i a d e

pub prefix_more : {A : Type 0} (xs ys zs : List A) → IsPrefix xs ys → IsPrefix xs (ys ++ zs)
prefix_more xs ys zs p = (p.0 ++ zs, sym (append_assoc xs p.0 zs) ∙ ap (λ w. w ++ zs) p.1)

pub nothing_told : {A : Type 0} (log : List A) → IsPrefix [] log
nothing_told log = (log, refl)

module _ {S : Type 0} where
  pub end_of-append : (s : S) (xs : List (Hold S)) (h : Hold S) → end_of s (xs ++ h ∷ []) ≡ h.left
  end_of-append s [] h = refl
  end_of-append s (x ∷ xs) h = end_of-append x.left xs h

  pub history-append : (grows : S → S → Type 0) (s : S) (xs : List (Hold S)) (p : ℕ) (left : S) →
      IsHistory grows s xs → grows (end_of s xs) left →
      IsHistory grows s (xs ++ hold p (end_of s xs) left ∷ [])
  history-append grows s [] p left h up = (refl, up, tt)
  history-append grows s (x ∷ xs) p left h up =
      (h.0, h.1, history-append grows x.left xs p left h.2 up)

  pub holds_by-append : (p : ℕ) (xs ys : List (Hold S)) →
      holds_by p (xs ++ ys) ≡ holds_by p xs ++ holds_by p ys
  holds_by-append p [] ys = refl
  holds_by-append p (x ∷ xs) ys = go (eqb x.pass p) (holds_by-append p xs ys)
    where
      go : (b : Bool) → holds_by p (xs ++ ys) ≡ holds_by p xs ++ holds_by p ys →
          cond b (x ∷ holds_by p (xs ++ ys)) (holds_by p (xs ++ ys))
          ≡ cond b (x ∷ holds_by p xs) (holds_by p xs) ++ holds_by p ys
      go true e = ap (λ w. x ∷ w) e
      go false e = e

  pub holds_by-own : (p : ℕ) (found left : S) →
      holds_by p (hold p found left ∷ []) ≡ hold p found left ∷ []
  holds_by-own p found left = ap (λ b. cond b (hold p found left ∷ []) []) (eq-eqb p p refl)

  pub holds_by-other : (p q : ℕ) (found left : S) → q ≢ p → holds_by p (hold q found left ∷ []) ≡ []
  holds_by-other p q found left ne = ap (λ b. cond b (hold q found left ∷ []) []) (ne_eqb q p ne)

  -- a further hold of the pass itself, and of another
  pub own_more : (p : ℕ) (xs own : List (Hold S)) (found left : S) → holds_by p xs ≡ own →
      holds_by p (xs ++ hold p found left ∷ []) ≡ own ++ hold p found left ∷ []
  own_more p xs own found left e =
      holds_by-append p xs (hold p found left ∷ [])
      ∙ (ap (λ w. w ++ holds_by p (hold p found left ∷ [])) e
      ∙ ap (λ w. own ++ w) (holds_by-own p found left))

  pub other_more : (p q : ℕ) (xs own : List (Hold S)) (found left : S) → q ≢ p →
      holds_by p xs ≡ own → holds_by p (xs ++ hold q found left ∷ []) ≡ own
  other_more p q xs own found left ne e =
      holds_by-append p xs (hold q found left ∷ [])
      ∙ (ap (λ w. w ++ holds_by p (hold q found left ∷ [])) e
      ∙ (ap (λ w. own ++ w) (holds_by-other p q found left ne) ∙ append-nil own))

  nothing_added : (xs ys : List (Hold S)) → xs ++ ys ≡ xs → ys ≡ []
  nothing_added [] ys e = e
  nothing_added (x ∷ xs) ys e = nothing_added xs ys cc

  no_first : (xs ys : List (Hold S)) → xs ++ ys ≡ [] → xs ≡ []
  no_first [] ys e = refl
  no_first (x ∷ xs) ys e = absurd cc

  pub none_in_prefix : (p : ℕ) (xs ys : List (Hold S)) → IsPrefix xs ys → holds_by p ys ≡ [] →
      holds_by p xs ≡ []
  none_in_prefix p xs ys pre e =
      no_first (holds_by p xs) (holds_by p pre.0)
      (sym (holds_by-append p xs pre.0) ∙ (ap (holds_by p) pre.1 ∙ e))

  -- between two histories with the same holds of a pass there is no other hold of it
  pub own_between : (p : ℕ) (xs ys zs own : List (Hold S)) → IsPrefix xs ys → IsPrefix ys zs →
      holds_by p xs ≡ own → holds_by p zs ≡ own → holds_by p ys ≡ own
  own_between p xs ys zs own a b ex ez =
      let first : holds_by p ys ≡ own ++ holds_by p a.0 = sym (ap (holds_by p) a.1)
      ∙ (holds_by-append p xs a.0 ∙ ap (λ w. w ++ holds_by p a.0) ex) in
      let whole : own ++ (holds_by p a.0 ++ holds_by p b.0) ≡ own =
      sym (append_assoc own (holds_by p a.0) (holds_by p b.0)) ∙ (ap (λ w. w ++ holds_by p b.0)
      (sym first) ∙ (sym (holds_by-append p ys b.0) ∙ (ap (holds_by p) b.1 ∙ ez))) in
      let none = no_first (holds_by p a.0) (holds_by p b.0)
      (nothing_added own (holds_by p a.0 ++ holds_by p b.0) whole) in
      first ∙ (ap (λ w. own ++ w) none ∙ append-nil own)

  end_of-both : (s : S) (xs ys : List (Hold S)) → end_of s (xs ++ ys) ≡ end_of (end_of s xs) ys
  end_of-both s [] ys = refl
  end_of-both s (x ∷ xs) ys = end_of-both x.left xs ys

  history_rest : (grows : S → S → Type 0) (s : S) (xs ys : List (Hold S)) →
      IsHistory grows s (xs ++ ys) → IsHistory grows (end_of s xs) ys
  history_rest grows s [] ys h = h
  history_rest grows s (x ∷ xs) ys h = history_rest grows x.left xs ys h.2

  module _ (grows : S → S → Type 0) (reflexive : (a : S) → grows a a)
      (transitive : (a b c : S) → grows a b → grows b c → grows a c) where
    history_grows : (s : S) (xs : List (Hold S)) → IsHistory grows s xs → grows s (end_of s xs)
    history_grows s [] h = reflexive s
    history_grows s (x ∷ xs) h =
        transitive s x.left (end_of x.left xs) h.1 (history_grows x.left xs h.2)

    -- the state at the end of a longer history is grown from that at the end of a beginning
    pub prefix_grows : (s : S) (xs ys : List (Hold S)) → IsPrefix xs ys → IsHistory grows s ys →
        grows (end_of s xs) (end_of s ys)
    prefix_grows s xs ys p h = subst (λ (zs : List (Hold S)). grows (end_of s xs) (end_of s zs)) p.1
        (subst (grows (end_of s xs)) (sym (end_of-both s xs p.0)) (history_grows (end_of s xs) p.0
        (history_rest grows s xs p.0 (subst (IsHistory grows s) (sym p.1) h))))
