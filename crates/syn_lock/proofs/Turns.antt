-- The history of the lock's word, and the count of passes, over each kind of step.
use Rattle.std.proofs.Common.{◌≡◌, ◌≢◌, ℕ, ◌+◌, ◌%◌, ◌≤◌, ◌<◌, List, [], ◌∷◌, ◌++◌, get_or, set}
use Rattle.std.proofs.Common.{refl, ap, sym, ◌∙◌, subst, inl, arith}
use mathlib.Core.Option.{some}
use mathlib.Core.List.{IsPrefix}
use lib.ListN.{get_elem?}
use Rattle.syn_lock.specs.declared.view.Hold.{Hold}
use Rattle.syn_lock.specs.declared.view.Known.{Known}
use Rattle.syn_lock.specs.History.{hold, end_of, IsWordHistory, holds_by}
use Rattle.syn_lock.specs.inner.Rule.{Turned, Counted, is_pass}
use Rattle.syn_lock.proofs.Histories.{prefix_more, end_of-append, history-append, own_more}
use Rattle.syn_lock.proofs.Histories.{other_more}
use Rattle.syn_lock.proofs.Seats.{newest, others, unused_set, unused_more, number_used}
use Rattle.syn_lock.proofs.Seats.{passes_of-set, passes_of-more, same_kind}

module _ {S : Type 0} where
  -- a step that leaves the lock's word as it was
  pub turned_same : (ws ws' : List ℕ) (l : List (Known S)) (id : ℕ) (v w : Known S) →
      get_elem? l id ≡ some v → get_or ws' 1 0 % 2 ≡ get_or ws 1 0 % 2 →
      w.view.number ≡ v.view.number → w.view.turns ≡ v.view.turns → (t : Turned ws l) →
      IsPrefix w.watched t.turns → Turned ws' (set l id w)
  turned_same ws ws' l id v w at same number turns t watched = record {
    turns = t.turns;
    chained = t.chained;
    word_is = same ∙ t.word_is;
    watched =
        others (λ _ u. IsPrefix u.watched t.turns) l id w watched (λ j u _ e. t.watched j u e);
    own =
        others (λ _ u. holds_by u.view.number t.turns ≡ u.view.turns) l id w
        (ap (λ p. holds_by p t.turns) number ∙ (t.own id v at ∙ sym turns))
        (λ j u _ e. t.own j u e);
    unused = λ p e. t.unused p (unused_set l id v w at number p e);
  }

  -- a step of a pass on the lock's word
  pub turned_on : (ws ws' : List ℕ) (l : List (Known S)) (id : ℕ) (v w : Known S) (found left : ℕ) →
      get_elem? l id ≡ some v → found ≡ get_or ws 1 0 % 2 → get_or ws' 1 0 % 2 ≡ left →
      w.view.number ≡ v.view.number → v.view.number ≢ 0 →
      w.view.turns ≡ v.view.turns ++ hold v.view.number found left ∷ [] →
      ((j : ℕ) (u : Known S) → j ≢ id → get_elem? l j ≡ some u → v.view.number ≢ u.view.number) →
      (t : Turned ws l) → IsPrefix w.watched (t.turns ++ hold v.view.number found left ∷ []) →
      Turned ws' (set l id w)
  turned_on ws ws' l id v w found left at was now number some_number turns apart t watched =
      let p = v.view.number in
      let turns' : List (Hold ℕ) = t.turns ++ hold p found left ∷ [] in
      let last : found ≡ end_of 0 t.turns = was ∙ t.word_is in record {
        turns = turns';
        chained =
            subst (λ (x : ℕ). IsWordHistory (t.turns ++ hold p x left ∷ [])) (sym last)
            (history-append (λ _ _. Unit {0}) 0 t.turns p left t.chained tt);
        word_is = now ∙ sym (end_of-append 0 t.turns (hold p found left));
        watched =
            others (λ _ u. IsPrefix u.watched turns') l id w watched
            (λ j u _ e. prefix_more u.watched t.turns (hold p found left ∷ []) (t.watched j u e));
        own = others (λ _ u. holds_by u.view.number turns' ≡ u.view.turns) l id w
            (ap (λ q. holds_by q turns') number
            ∙ (own_more p t.turns v.view.turns found left (t.own id v at) ∙ sym turns))
            (λ j u ne e. other_more u.view.number p t.turns u.view.turns found left (apart j u ne e)
            (t.own j u e));
        unused = λ q e. let was' = unused_set l id v w at number q e in
            other_more q p t.turns
            [] found left (number_used l id v q at some_number was') (t.unused q was');
      }

  -- a seat that is no pass comes
  pub turned_more : (ws : List ℕ) (l : List (Known S)) (w : Known S) → w.view.number ≡ 0 →
      w.view.turns ≡ [] → w.watched ≡ [] → Turned ws l → Turned ws (l ++ w ∷ [])
  turned_more ws l w number turns watched t = record {
    turns = t.turns;
    chained = t.chained;
    word_is = t.word_is;
    watched =
        newest (λ _ u. IsPrefix u.watched t.turns) l w
        (subst (λ x. IsPrefix x t.turns) (sym watched) (t.turns, refl))
        (λ j u e. t.watched j u e);
    own =
        newest (λ _ u. holds_by u.view.number t.turns ≡ u.view.turns) l w
        (ap (λ p. holds_by p t.turns) number ∙ (t.unused 0 (inl refl) ∙ sym turns))
        (λ j u e. t.own j u e);
    unused = λ p e. t.unused p (unused_more l w p e);
  }

  -- a step that leaves the count of passes as it was
  pub counted_same : (ws ws' : List ℕ) (l : List (Known S)) (id : ℕ) (v w : Known S) →
      get_elem? l id ≡ some v → get_or ws' 2 0 ≡ get_or ws 2 0 → w.view.number ≡ v.view.number →
      w.passes ≤ get_or ws 2 0 → Counted ws l → Counted ws' (set l id w)
  counted_same ws ws' l id v w at same number passes c =
      let kind = same_kind v w number in
      let sum = passes_of-set l id v w at in
      record {
        few = subst (λ n. n ≤ 63) (sym same) c.few;
        count_is = same ∙ (c.count_is ∙ omega (arith, kind, sum));
        seen =
            subst (λ (n : ℕ). (j : ℕ) (u : Known S) →
            get_elem? (set l id w) j ≡ some u → u.passes ≤ n) (sym same)
            (others (λ _ u. u.passes ≤ get_or ws 2 0) l id w passes (λ j u _ e. c.seen j u e));
      }

  -- a seat with no number becomes a pass
  pub counted_on : (ws ws' : List ℕ) (l : List (Known S)) (id : ℕ) (v w : Known S) (old : ℕ) →
      get_elem? l id ≡ some v → get_or ws 2 0 ≡ old → get_or ws' 2 0 ≡ old + 1 → old < 63 →
      is_pass v ≡ 0 → is_pass w ≡ 1 → w.passes ≤ old + 1 → Counted ws l → Counted ws' (set l id w)
  counted_on ws ws' l id v w old at was now room nobody somebody passes c =
      let sum = passes_of-set l id v w at in
      record {
        few = subst (λ n. n ≤ 63) (sym now) (omega arith);
        count_is =
            let before = sym was ∙ c.count_is in
            now ∙ omega (arith, sum, before, nobody, somebody);
        seen =
            subst (λ (n : ℕ). (j : ℕ) (u : Known S) → get_elem? (set l id w) j ≡ some u →
            u.passes ≤ n)
            (sym now)
            (others (λ _ u. u.passes ≤ old + 1) l id w passes
            (λ j u _ e. let h = subst (λ n. u.passes ≤ n) was (c.seen j u e) in omega arith));
      }

  pub counted_more : (ws : List ℕ) (l : List (Known S)) (w : Known S) → w.view.number ≡ 0 →
      w.passes ≤ get_or ws 2 0 → Counted ws l → Counted ws (l ++ w ∷ [])
  counted_more ws l w number passes c = record {
    few = c.few;
    count_is = c.count_is ∙ sym (passes_of-more l w number);
    seen = newest (λ _ u. u.passes ≤ get_or ws 2 0) l w passes (λ j u e. c.seen j u e);
  }
