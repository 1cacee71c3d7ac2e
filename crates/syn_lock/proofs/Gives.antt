-- Publishing a state, and giving the lock back, keep its rule.
use Rattle.std.proofs.Common.{◌≡◌, ℕ, ◌+◌, ◌/◌, ◌%◌, ◌<◌, ◌≤◌, true, false, List, ◌∷◌, ◌++◌, length}
use Rattle.std.proofs.Common.{get_or, set, Option, Some, refl, ap, sym, ◌∙◌, subst, arith}
use Rattle.std.proofs.Common.{length-set, get_or-set_other, get_or-set_same, ◌*◌, []}
use Rattle.std.specs.Global.{Box}
use mathlib.Core.Option.{some, none}
use mathlib.Core.List.{IsPrefix}
use lib.ListN.{get_elem?}
use lib.Seq.{set-set}
use Rattle.atomic_table.specs.Table.{State, step, keeps, stepped, Allows, gives}
use Rattle.syn_lock.specs.declared.view.Hold.{Hold}
use Rattle.syn_lock.specs.declared.view.Known.{Known}
use Rattle.syn_lock.specs.History.{hold, end_of, IsHistory, holds_by}
use Rattle.syn_lock.specs.Views.{published, outside, own_hold}
use Rattle.syn_lock.specs.inner.Rule.{Sat, caught_up, far, Tells, Fits, Holds, Kept, Lawful, known}
use Rattle.syn_lock.specs.inner.Rule.{publishes, gives_lock, leaves}
use Rattle.syn_lock.specs.Prefixes.{prefix_self}
use Rattle.syn_lock.proofs.Histories.{nothing_told, prefix_more, at_below, end_of-append}
use Rattle.syn_lock.proofs.Histories.{history-append, own_more, other_more}
use Rattle.syn_lock.proofs.Seats.{others, unused_set, number_used}
use Rattle.syn_lock.proofs.Turns.{turned_same, counted_same}
use Rattle.atomic_table.proofs.Lists.{set_here}
use Rattle.syn_lock.proofs.Keeps.{fits_same, apart, word_turned, word_counted, taken_is, none_far}
use Rattle.syn_lock.proofs.Keeps.{same_state, same_origin}

module _ {S : Type 0} (position : S → ℕ) (grows : S → S → Type 0) (origin : S) where
  abbrev St : Type 0
  St = State (Option (Box S)) (Known S)

  abbrev Rule : St → Type 0
  Rule = Lawful position grows origin

  abbrev History : St → Type 0
  History = Kept position grows origin

  abbrev lock : St → ℕ
  lock s = get_or s.words 1 0 % 2

  -- the pass that has the lock adds its hold, and the words tell its position
  published_rule : (s : St) (k : History s) (ws : List ℕ) (id : ℕ) (v w : Known S) (o left : S) →
      get_elem? s.views id ≡ some v → v.inside ≡ true → v.view.origin ≡ Some o →
      grows (end_of o v.view.seen) left → length ws ≡ 3 → get_or ws 1 0 % 2 ≡ lock s →
      Tells (get_or ws 0 0) (get_or ws 1 0) (position left) →
      w ≡ caught_up v (published o v.view left) v.inside →
      History record { words = ws; homes = s.homes; views = set s.views id w }
  published_rule s k ws id v w o left at is from up long same here w_is =
      let f = k.fits id v at in
      let h = k.inside id v at is in
      let all = h.seen_all in
      let o_is = f.origin_is o from in
      let p = v.view.number in
      let added : List (Hold S) = own_hold o v.view left ∷ [] in
      let log' : List (Hold S) = v.view.seen ++ added in
      let old : IsHistory grows o v.view.seen =
      subst (λ (x : S × List (Hold S)). IsHistory grows x.0 x.1)
      (λ i. (sym o_is i, sym all i)) k.legal in
      let mine = own_more p v.view.seen v.view.own (end_of o v.view.seen) left f.own_seen in
      let number : w.view.number ≡ p = ap (λ x. x.view.number) w_is in record {
        log = log';
        holder = k.holder;
        words = long;
        slots = k.slots;
        legal =
            subst (λ x. IsHistory grows x log') o_is
            (history-append grows o v.view.seen p left old up);
        position_is =
            subst (λ x. Tells (get_or ws 0 0) (get_or ws 1 0) (position x))
            (sym (end_of-append origin v.view.seen (own_hold o v.view left))) here;
        fits = others (Fits origin log') s.views id w
            (subst (Fits origin log' id)
            (sym w_is) record {
              origin_is = f.origin_is;
              prefix = prefix_self log';
              told = nothing_told log';
              own_all = mine;
              own_seen = mine;
              numbered = f.numbered;
            })
            (λ j u ne e. let g = k.fits j u e in record {
              origin_is = g.origin_is;
              prefix =
                  prefix_more u.view.seen v.view.seen added
                  (subst (IsPrefix u.view.seen) (sym all) g.prefix);
              told =
                  prefix_more u.told v.view.seen added (subst (IsPrefix u.told) (sym all) g.told);
              own_all =
                  other_more u.view.number p v.view.seen u.view.own (end_of o v.view.seen) left
                  (apart position grows origin id j p u ne g.numbered h.number_is)
                  (ap (holds_by u.view.number) all ∙ g.own_all);
              own_seen = g.own_seen;
              numbered = g.numbered;
            });
        home = λ e. absurd (h.taken (sym same ∙ e));
        inside =
            subst (λ (z : ℕ). (j : ℕ) (u : Known S) → get_elem? (set s.views id w) j ≡ some u →
            u.inside ≡ true → Holds log' z k.holder j u) (sym same)
            (others (λ j u. u.inside ≡ true → Holds log' (lock s) k.holder j u) s.views id w
            (λ _. record {
              is_holder = h.is_holder;
              seen_all = ap (λ x. x.view.seen) w_is;
              taken = h.taken;
              number_is = number ∙ h.number_is;
            })
            (λ j u ne e on. absurd (ne ((k.inside j u e on).is_holder ∙ sym h.is_holder))));
        unused =
            λ q e. let was = unused_set s.views id v w at number q e in let mine_is = h.number_is in
            other_more q p v.view.seen
            [] (end_of o v.view.seen) left (number_used s.views id v q at (λ z. omega arith) was)
            (ap (holds_by q) all ∙ k.unused q was);
      }

  published_at : (s : St) (r : Rule s) (i id new : ℕ) (v : Known S) (o left : S) →
      get_elem? s.views id ≡ some v → v.inside ≡ true → v.view.origin ≡ Some o →
      grows (end_of o v.view.seen) left → get_or (set s.words i new) 1 0 % 2 ≡ lock s →
      get_or (set s.words i new) 2 0 ≡ get_or s.words 2 0 →
      Tells (get_or (set s.words i new) 0 0) (get_or (set s.words i new) 1 0) (position left) →
      Rule (stepped s i new id [] (caught_up v (published o v.view left) v.inside) keeps)
  published_at s r i id new v o left at is from up same count here =
      let w = caught_up v (published o v.view left) v.inside in
      let ws = set s.words i new in (
        published_rule s r.0 ws id v w o left at is from up
            (length-set s.words i new ∙ r.0.words) same here refl,
        turned_same s.words ws s.views id v w at same refl refl r.1 (r.1.watched id v at),
        counted_same s.words ws s.views id v w at count refl (r.2.seen id v at) r.2,
      )

  pub publish_keeps : (id n new : ℕ) (m : Sat S) (o : S) (left : Box S) →
      m.1 ≡ (0, Some left) ∷ [] → m.0.inside ≡ true → m.0.view.origin ≡ Some o →
      grows (end_of o m.0.view.seen) left.value → new ≡ position left.value → far ≤ new →
      Allows Rule n id m 0 (λ _. new) (λ _. publishes (step n 0 new 0 none) m new)
  publish_keeps id n new m o left has is from up here distant s r wide at _ =
      let long = r.0.words in (
        caught_up m.0 (published o m.0.view left.value) m.0.inside,
        keeps,
        tt,
        published_at s r 0 id new m.0 o left.value at is from up
            (ap (λ x. x % 2) (get_or-set_other s.words 0 1 new 0 (λ e. omega arith)))
            (get_or-set_other s.words 0 2 new 0 (λ e. omega arith))
            (subst (λ x. Tells x (get_or (set s.words 0 new) 1 0) (position left.value))
            (sym (get_or-set_same s.words 0 new 0 (omega arith)))
            ((λ zero. absurd (omega (arith, zero, distant))), (λ _. (here, distant)))),
        λ o' left' from' has'. let l = same_state left left' (sym has ∙ has') in
            let e = same_origin o o' (sym from ∙ from') in
            (λ i. (caught_up m.0 (published (e i) m.0.view (l i).value) m.0.inside, m.1)),
      )

  given : (s : St) (k : History s) (id new : ℕ) (v w : Known S) (o : S) (home : Box S) →
      home.value ≡ end_of o v.view.seen → get_elem? s.views id ≡ some v → v.inside ≡ true →
      v.view.origin ≡ Some o → Tells (get_or (set s.words 1 new) 0 0)
      (get_or (set s.words 1 new) 1 0) (position (end_of origin k.log)) →
      w.view.number ≡ v.view.number → w.view.origin ≡ v.view.origin → w.view.own ≡ v.view.own →
      w.view.seen ≡ v.view.seen → w.told ≡ v.told → w.inside ≡ false →
      History (stepped s 1 new id ((0, Some home) ∷ []) w gives)
  given s k id new v w o home last at is from tells number origin_same own seen told off =
      let f = k.fits id v at in
      let h = k.inside id v at is in
      let long = k.words in
      let slots = k.slots in
      let o_is = f.origin_is o from in
      record {
        log = k.log;
        holder = id;
        words = length-set s.words 1 new ∙ k.words;
        slots = length-set s.homes 0 (some (Some home)) ∙ k.slots;
        legal = k.legal;
        position_is = tells;
        fits =
            others (Fits origin k.log) s.views id w
            (fits_same position grows origin k.log id v w f number origin_same own seen told)
            (λ j u _ e. k.fits j u e);
        home =
            λ _. (
              home,
              last ∙ (λ i. end_of (o_is i) (h.seen_all i)),
              set_here s.homes 0 (some (Some home)) (omega arith),
            );
        inside =
            others (λ j u. u.inside ≡ true →
            Holds k.log (get_or (set s.words 1 new) 1 0 % 2) id j u)
            s.views id w (λ e. absurd (cc (e, off)))
            (λ j u ne e on. absurd (ne ((k.inside j u e on).is_holder ∙ sym h.is_holder)));
        unused = λ p e. k.unused p (unused_set s.views id v w at number p e);
      }

  given_at : (s : St) (r : Rule s) (id new : ℕ) (v : Known S) (o : S) (home : Box S) →
      home.value ≡ end_of o v.view.seen → get_elem? s.views id ≡ some v → v.inside ≡ true →
      v.view.origin ≡ Some o → new % 2 ≡ 0 → Tells (get_or (set s.words 1 new) 0 0)
      (get_or (set s.words 1 new) 1 0) (position (end_of o v.view.seen)) →
      Rule (stepped s 1 new id ((0, Some home) ∷ []) (known (outside v.view) v.told
      (r.1.turns ++ hold v.view.number 1 0 ∷ []) false v.passes) gives)
  given_at s r id new v o home last at is from even tells =
      let h = r.0.inside id v at is in
      let watched : List (Hold ℕ) = r.1.turns ++ hold v.view.number 1 0 ∷ [] in
      let w = known (outside v.view) v.told watched false v.passes in (
        given s r.0 id new v w o home last at is from
            (subst (λ x. Tells (get_or (set s.words 1 new) 0 0) (get_or (set s.words 1 new) 1 0) x)
            (λ i. position (end_of ((r.0.fits id v at).origin_is o from i) (h.seen_all i))) tells)
            refl refl refl refl refl refl,
        word_turned position grows origin s r id new v w 1 0 at h.number_is
            (taken_is position grows origin s h.taken) even refl refl (prefix_self watched),
        word_counted position grows origin s r id new v w at refl refl,
      )

  give_inside : (id n : ℕ) (v : Known S) (o : S) (home : Box S) →
      home.value ≡ end_of o v.view.seen → v.inside ≡ true → v.view.origin ≡ Some o →
      far ≤ position (end_of o v.view.seen) → Allows Rule n id (v, (0, Some home) ∷ []) 1 (λ _. 0)
      (λ _. gives_lock (step n 1 0 0 none) (v, (0, Some home) ∷ []) 0)
  give_inside id n v o home ends is from distant s r wide at _ =
      let k : History s = r.0 in
      let watched : List (Hold ℕ) = r.1.turns ++ hold v.view.number 1 0 ∷ [] in
      let last : position (end_of o v.view.seen) ≡ position (end_of origin k.log) = (λ i. position
      (end_of ((k.fits id v at).origin_is o from i) ((k.inside id v at is).seen_all i))) in
      let other : get_or (set s.words 1 0) 0 0 ≡ get_or s.words 0 0 =
      get_or-set_other s.words 1 0 0 0 (λ e. omega arith) in
      let tells : Tells (get_or (set s.words 1 0) 0 0) (get_or (set s.words 1 0) 1 0)
      (position (end_of o v.view.seen)) = subst
      (λ x. Tells x (get_or (set s.words 1 0) 1 0) (position (end_of o v.view.seen))) (sym other) (
        (λ zero. let near = (k.position_is.0 zero).1 in
            absurd (omega (arith, near, last, distant))),
        (λ ne. let there = k.position_is.1 ne in (there.0 ∙ sym last, there.1)),
      ) in (
        known (outside v.view) v.told watched false v.passes,
        gives,
        tt,
        given_at s r id 0 v o home ends at is from refl tells,
        (watched, refl),
      )

  pub give_keeps : (id n : ℕ) (m : Sat S) (o : S) (home : Box S) →
      home.value ≡ end_of o m.0.view.seen → m.1 ≡ (0, Some home) ∷ [] → m.0.inside ≡ true →
      m.0.view.origin ≡ Some o → far ≤ position (end_of o m.0.view.seen) →
      Allows Rule n id m 1 (λ _. 0) (λ _. gives_lock (step n 1 0 0 none) m 0)
  give_keeps id n m o home ends has is from distant =
      subst (λ (x : Sat S). Allows Rule n id x 1 (λ _. 0) (λ _. gives_lock (step n 1 0 0 none) x 0))
      (λ i. (m.0, sym has i)) (give_inside id n m.0 o home ends is from distant)

  -- The word becomes new, which is even: it tells the position, and the lock is free. It is as if
  -- the word became new + 1 before, which tells the position while the lock is taken
  leave_inside : (id n new : ℕ) (v : Known S) (o : S) (home : Box S) → v.inside ≡ true →
      v.view.origin ≡ Some o → grows (end_of o v.view.seen) home.value →
      position (end_of o v.view.seen) ≤ position home.value → new ≡ 2 * position home.value →
      position home.value < far → Allows Rule n id (v, (0, Some home) ∷ []) 1 (λ _. new)
      (λ _. leaves (step n 1 new 0 none) (v, (0, Some home) ∷ []) new)
  leave_inside id n new v o home is from up later twice near s r wide at _ =
      let left : S = home.value in
      let k : History s = r.0 in
      let long = k.words in
      let h = k.inside id v at is in
      let w = caught_up v (published o v.view left) v.inside in
      let last : position (end_of o v.view.seen) ≡ position (end_of origin k.log) =
      (λ i. position (end_of ((k.fits id v at).origin_is o from i) (h.seen_all i))) in
      let zero : get_or s.words 0 0 ≡ 0 =
      none_far position grows origin s k (omega (arith, last, later, near)) in
      let tells : (x : ℕ) → x / 2 ≡ position left → Tells (get_or (set s.words 1 x) 0 0)
      (get_or (set s.words 1 x) 1 0) (position left) = (λ x half.
      subst (λ (y : ℕ × ℕ). Tells y.0 y.1 (position left))
      (λ i. (
        sym (get_or-set_other s.words 1 0 x 0 (λ e. omega arith)) i,
        sym (get_or-set_same s.words 1 x 0 (omega arith)) i,
      ))
      ((λ _. (half, near)), (λ ne. absurd (ne zero)))) in
      let odd : get_or (set s.words 1 (new + 1)) 1 0 % 2 ≡ lock s =
      ap (λ x. x % 2) (get_or-set_same s.words 1 (new + 1) 0 (omega arith))
      ∙ (omega (arith, twice) ∙ taken_is position grows origin s h.taken) in
      let mid = published_at s r 1 id (new + 1) v o left at is from up odd
      (get_or-set_other s.words 1 2 (new + 1) 0 (λ e. omega arith))
      (tells (new + 1) (omega (arith, twice))) in
      let watched : List (Hold ℕ) = mid.1.turns ++ hold v.view.number 1 0 ∷ [] in
      let u : Known S = known (outside (published o v.view left)) [] watched false v.passes in
      let told : Tells (get_or (set (set s.words 1 (new + 1)) 1 new) 0 0)
      (get_or (set (set s.words 1 (new + 1)) 1 new) 1 0) (position (end_of o w.view.seen)) =
      subst (λ (y : List ℕ × S). Tells (get_or y.0 0 0) (get_or y.0 1 0) (position y.1))
      (λ i. (
        sym (set-set s.words 1 (new + 1) new) i,
        sym (end_of-append o v.view.seen (own_hold o v.view left)) i,
      ))
      (tells new (omega (arith, twice))) in
      let after = given_at (stepped s 1 (new + 1) id [] w keeps) mid id new w o home
      (sym (end_of-append o v.view.seen (own_hold o v.view left)))
      (set_here s.views id w (at_below s.views id v at)) is from (omega (arith, twice)) told in (
        u,
        gives,
        tt,
        subst (λ (x : List ℕ × List (Known S)).
            Rule record { words = x.0; homes = set s.homes 0 (some (Some home)); views = x.1 })
            (λ i. (set-set s.words 1 (new + 1) new i, set-set s.views id w u i)) after,
        λ o' left' from' has'. let l = same_state home left' has' in
            let e = same_origin o o' (sym from ∙ from') in (
              watched,
              (λ i. (
                known (outside (published (e i) v.view (l i).value)) [] watched false v.passes,
                [],
              )),
            ),
      )

  pub leave_keeps : (id n new : ℕ) (m : Sat S) (o : S) (left : Box S) → m.1 ≡ (0, Some left) ∷ [] →
      m.0.inside ≡ true → m.0.view.origin ≡ Some o → grows (end_of o m.0.view.seen) left.value →
      position (end_of o m.0.view.seen) ≤ position left.value → new ≡ 2 * position left.value →
      position left.value < far →
      Allows Rule n id m 1 (λ _. new) (λ _. leaves (step n 1 new 0 none) m new)
  leave_keeps id n new m o left has is from up later twice near =
      subst
      (λ (x : Sat S). Allows Rule n id x 1 (λ _. new) (λ _. leaves (step n 1 new 0 none) x new))
      (λ i. (m.0, sym has i)) (leave_inside id n new m.0 o left is from up later twice near)
