-- A look, a watch and a taking of the lock keep its rule.
use Rattle.std.proofs.Common.{◌≡◌, ◌≢◌, ℕ, ◌+◌, ◌/◌, ◌%◌, ◌<◌, ◌≤◌, ◌⊎◌, true, false, List, ◌∷◌}
use Rattle.std.proofs.Common.{◌++◌, length, get_or, set, Option, Some, refl, ap, sym, ◌∙◌, subst}
use Rattle.std.proofs.Common.{⊎_elim, arith, length-set, get_or-set_other, get_or-set_same, []}
use Rattle.std.specs.Global.{Box}
use mathlib.Core.Option.{some, none}
use mathlib.Core.List.{IsPrefix}
use mathlib.Core.Logic.{dite}
use native.Mathlib.Decide.{ℕ_discrete}
use lib.ListN.{get_elem?}
use lib.Seq.{set-get_or}
use Rattle.std.specs.Option.{unwrap_or}
use Rattle.std.specs.Int.Bits.{bit_or}
use Rattle.atomic_table.specs.Table.{State, step, keeps, takes, stepped, Allows}
use Rattle.syn_lock.specs.declared.view.Hold.{Hold}
use Rattle.syn_lock.specs.declared.view.Known.{Known}
use Rattle.syn_lock.specs.History.{hold, end_of, IsHistory, holds_by}
use Rattle.syn_lock.specs.Views.{seeing, entered, Sees}
use Rattle.syn_lock.specs.inner.Rule.{Sat, caught_up, turned_away, takes_lock, looks, looks_far}
use Rattle.syn_lock.specs.inner.Rule.{far, Tells, confirms, Fits, Holds, Kept, Turned, Counted}
use Rattle.syn_lock.specs.inner.Rule.{Lawful}
use Rattle.syn_lock.specs.Prefixes.{prefix_self}
use Rattle.syn_lock.proofs.Histories.{nothing_told, prefix_more, prefix_grows}
use Rattle.syn_lock.proofs.Bits.{with_bit, bit_there}
use Rattle.syn_lock.proofs.Seats.{others, still, unused_set}
use Rattle.syn_lock.proofs.Turns.{turned_same, turned_on, counted_same}

module _ {S : Type 0} where
  -- the value in the slot that was taken last, or d
  abbrev carried : S → List (ℕ × Option S) → S
  carried d [] = d
  carried d (x ∷ xs) = unwrap_or x.1 d

  pub same_state : (a b : S) → ◌≡◌ {A = List (ℕ × Option S)} ((0, Some a) ∷ []) ((0, Some b) ∷ []) →
      a ≡ b
  same_state a b e = ap (λ l. carried a l) e

  pub same_origin : (a b : S) → ◌≡◌ {A = Option S} (Some a) (Some b) → a ≡ b
  same_origin a b e = ap (λ x. unwrap_or x a) e

module _ {S : Type 0} (position : S → ℕ) (grows : S → S → Type 0) (origin : S) where
  abbrev St : Type 0
  St = State (Option (Box S)) (Known S)

  abbrev Rule : St → Type 0
  Rule = Lawful position grows origin

  abbrev History : St → Type 0
  History = Kept position grows origin

  abbrev lock : St → ℕ
  lock s = get_or s.words 1 0 % 2

  -- the pass sees all there is
  sees_all : (s : St) (k : History s) (id : ℕ) (v : Known S) →
      get_elem? s.views id ≡ some v → (o : S) → v.view.origin ≡ Some o → Sees grows o v.view k.log
  sees_all s k id v at o is =
      let f = k.fits id v at in
      (f.prefix, subst (λ x. IsHistory grows x k.log) (sym (f.origin_is o is)) k.legal, f.own_all)

  -- a pass that has seen all still fits
  fits_all : (log : List (Hold S)) (id : ℕ) (v w : Known S) → Fits origin log id v →
      w.view.number ≡ v.view.number → w.view.origin ≡ v.view.origin → w.view.own ≡ v.view.own →
      w.view.seen ≡ log → IsPrefix w.told log → Fits origin log id w
  fits_all log id v w f number from own seen told =
      let mine : holds_by w.view.number log ≡ w.view.own = ap (λ p. holds_by p log) number
      ∙ (f.own_all ∙ sym own) in
      record {
        origin_is = λ o e. f.origin_is o (sym from ∙ e);
        prefix = subst (λ x. IsPrefix x log) (sym seen) (prefix_self log);
        told = told;
        own_all = mine;
        own_seen = ap (holds_by w.view.number) seen ∙ mine;
        numbered = subst (λ x. (x ≡ 0) ⊎ (x ≡ id + 1)) (sym number) f.numbered;
      }

  -- what a pass has seen is the same, and so is what it was told
  pub fits_same : (log : List (Hold S)) (id : ℕ) (v w : Known S) → Fits origin log id v →
      w.view.number ≡ v.view.number → w.view.origin ≡ v.view.origin → w.view.own ≡ v.view.own →
      w.view.seen ≡ v.view.seen → w.told ≡ v.told → Fits origin log id w
  fits_same log id v w f number from own seen told = record {
    origin_is = λ o e. f.origin_is o (sym from ∙ e);
    prefix = subst (λ x. IsPrefix x log) (sym seen) f.prefix;
    told = subst (λ x. IsPrefix x log) (sym told) f.told;
    own_all = ap (λ p. holds_by p log) number ∙ (f.own_all ∙ sym own);
    own_seen =
        ap (λ p. holds_by p w.view.seen) number
        ∙ (ap (holds_by v.view.number) seen ∙ (f.own_seen ∙ sym own));
    numbered = subst (λ x. (x ≡ 0) ⊎ (x ≡ id + 1)) (sym number) f.numbered;
  }

  -- a step that changes no word and moves no slot keeps the history of the state
  pub unmoved : (s : St) (k : History s) (i id : ℕ) (cs : List (ℕ × Option (Box S)))
      (v w : Known S) → get_elem? s.views id ≡ some v → w.view.number ≡ v.view.number →
      Fits origin k.log id w → (w.inside ≡ true → Holds k.log (lock s) k.holder id w) →
      History (stepped s i (get_or s.words i 0) id cs w keeps)
  unmoved s k i id cs v w at number fit held =
      subst (λ (ws : List ℕ). History record {
        words = ws;
        homes = s.homes;
        views = set s.views id w;
      }) (sym (set-get_or s.words i 0)) record {
        log = k.log;
        holder = k.holder;
        words = k.words;
        slots = k.slots;
        legal = k.legal;
        position_is = k.position_is;
        fits = others (Fits origin k.log) s.views id w fit (λ j u _ e. k.fits j u e);
        home = k.home;
        inside =
            others (λ j u. u.inside ≡ true → Holds k.log (lock s) k.holder j u) s.views id w held
            (λ j u _ e. k.inside j u e);
        unused = λ p e. k.unused p (unused_set s.views id v w at number p e);
      }

  -- the same for the whole rule, where it is no step on the lock's word, and the seat counts no
  -- further passes
  quiet : (s : St) (r : Rule s) (i id : ℕ) (cs : List (ℕ × Option (Box S))) (v w : Known S) →
      get_elem? s.views id ≡ some v → w.view.number ≡ v.view.number → w.view.turns ≡ v.view.turns →
      w.watched ≡ v.watched → w.passes ≡ v.passes → Fits origin r.0.log id w →
      (w.inside ≡ true → Holds r.0.log (lock s) r.0.holder id w) →
      Rule (stepped s i (get_or s.words i 0) id cs w keeps)
  quiet s r i id cs v w at number turns watched passes fit held = (
    unmoved s r.0 i id cs v w at number fit held,
    turned_same s.words (set s.words i (get_or s.words i 0)) s.views id v w at
        (ap (λ n. n % 2) (still s.words i 1)) number turns r.1
        (subst (λ x. IsPrefix x r.1.turns) (sym watched) (r.1.watched id v at)),
    counted_same s.words (set s.words i (get_or s.words i 0)) s.views id v w at (still s.words i 2)
        number (subst (λ n. n ≤ get_or s.words 2 0) (sym passes) (r.2.seen id v at)) r.2,
  )

  -- while the position is near, the first word is 0
  pub none_far : (s : St) (k : History s) → position (end_of origin k.log) < far →
      get_or s.words 0 0 ≡ 0
  none_far s k near =
      dite (ℕ_discrete (get_or s.words 0 0) 0) (λ e. e)
      (λ ne. let there = k.position_is.1 ne in absurd (omega (arith, there.0, there.1, near)))

  -- and half of the lock's word is the position
  near_of : (s : St) (k : History s) → position (end_of origin k.log) < far →
      get_or s.words 1 0 / 2 ≡ position (end_of origin k.log)
  near_of s k near = (k.position_is.0 (none_far s k near)).0

  pub look_keeps : (id n : ℕ) (m : Sat S) →
      Allows Rule n id m 1 (λ r. r) (looks position grows (step n 1 0 0 none) m)
  look_keeps id n m s r wide at _ =
      let k : History s = r.0 in
      let f = k.fits id m.0 at in
      let w = caught_up m.0 (seeing m.0.view k.log) m.0.inside in (
        w,
        keeps,
        tt,
        quiet s r 1 id m.1 m.0 w at refl refl refl refl
            (fits_all k.log id m.0 w f refl refl refl refl (nothing_told k.log))
            (λ e. let h = k.inside id m.0 at e in record {
              is_holder = h.is_holder;
              seen_all = refl;
              taken = h.taken;
              number_is = h.number_is;
            }),
        λ o e. (
          k.log,
          sees_all s k id m.0 at o e,
          f.told,
          refl,
          subst
              (λ x. position (end_of x k.log) < far →
              get_or s.words 1 0 / 2 ≡ position (end_of x k.log))
              (sym (f.origin_is o e)) (near_of s k),
        ),
      )

  module _ (reflexive : (a : S) → grows a a) (transitive : (a b c : S) → grows a b → grows b c →
      grows a c) (advances : (a b : S) → grows a b → position a ≤ position b) where
    not_before : (s : St) (k : History s) (id : ℕ) (v : Known S) (o : S) →
        get_elem? s.views id ≡ some v → v.view.origin ≡ Some o →
        position (end_of o v.view.seen) ≤ position (end_of o k.log)
    not_before s k id v o at is =
        let sees = sees_all s k id v at o is in
        advances (end_of o v.view.seen) (end_of o k.log)
        (prefix_grows grows reflexive transitive o v.view.seen k.log sees.0 sees.1)

    pub look_far_keeps : (id n : ℕ) (m : Sat S) →
        Allows Rule n id m 0 (λ r. r) (looks_far position grows (step n 0 0 0 none) m)
    look_far_keeps id n m s r wide at _ = let k : History s = r.0 in let f = k.fits id m.0 at in
        dite (ℕ_discrete (get_or s.words 0 0) 0)
        (λ zero. (
          m.0,
          keeps,
          tt,
          quiet s r 0 id m.1 m.0 m.0 at refl refl refl refl f (λ e. k.inside id m.0 at e),
          λ o e. (
            (λ _. let near = (k.position_is.0 zero).1 in
                let here = subst (λ x. position (end_of x k.log) < far)
                (sym (f.origin_is o e)) near in
                let up = not_before s k id m.0 o at e in (omega (arith, here, up), refl)),
            (λ ne. absurd (ne zero)),
          ),
        ))
        (λ some_position. let w = caught_up m.0 (seeing m.0.view k.log) m.0.inside in (
          w,
          keeps,
          tt,
          quiet s r 0 id m.1 m.0 w at refl refl refl refl
              (fits_all k.log id m.0 w f refl refl refl refl (nothing_told k.log))
              (λ e. let h = k.inside id m.0 at e in record {
                is_holder = h.is_holder;
                seen_all = refl;
                taken = h.taken;
                number_is = h.number_is;
              }),
          λ o e. (
            (λ zero. absurd (some_position zero)),
            (λ _. (
              k.log,
              sees_all s k id m.0 at o e,
              refl,
              (k.position_is.1 some_position).0
                  ∙ ap (λ x. position (end_of x k.log)) (sym (f.origin_is o e)),
            )),
          ),
        ))

  pub confirm_keeps : (id n : ℕ) (m : Sat S) →
      Allows Rule n id m 0 (λ r. r) (confirms (step n 0 0 0 none) m)
  confirm_keeps id n m s r wide at _ =
      let f = r.0.fits id m.0 at in (
        m.0,
        keeps,
        tt,
        quiet s r 0 id m.1 m.0 m.0 at refl refl refl refl f
            (λ e. r.0.inside id m.0 at e),
        (f.own_seen, refl),
      )

  -- the number of a pass that may enter
  its_number : (v : Known S) (id : ℕ) → 0 < v.view.number →
      (v.view.number ≡ 0) ⊎ (v.view.number ≡ id + 1) → v.view.number ≡ id + 1
  its_number v id some_number e =
      ⊎_elim (λ (z : v.view.number ≡ 0). absurd (omega arith)) (λ (z : v.view.number ≡ id + 1). z) e

  -- a number of one seat is none of another's
  pub apart : (id j p : ℕ) (v : Known S) → j ≢ id → (v.view.number ≡ 0) ⊎ (v.view.number ≡ j + 1) →
      p ≡ id + 1 → p ≢ v.view.number
  apart id j p v ne e is same =
      ⊎_elim (λ (z : v.view.number ≡ 0). omega arith)
      (λ (z : v.view.number ≡ j + 1). ne (omega arith)) e

  -- a pass's step on the lock's word, which becomes new
  pub word_turned : (s : St) (r : Rule s) (id new : ℕ) (v w : Known S) (found left : ℕ) →
      get_elem? s.views id ≡ some v → v.view.number ≡ id + 1 → found ≡ lock s → new % 2 ≡ left →
      w.view.number ≡ v.view.number →
      w.view.turns ≡ v.view.turns ++ hold v.view.number found left ∷ [] →
      IsPrefix w.watched (r.1.turns ++ hold v.view.number found left ∷ []) →
      Turned (set s.words 1 new) (set s.views id w)
  word_turned s r id new v w found left at is was now number turns watched = let long = r.0.words in
      turned_on s.words (set s.words 1 new) s.views id v w found left at was
      (ap (λ n. n % 2) (get_or-set_same s.words 1 new 0 (omega arith)) ∙ now) number
      (λ z. omega arith) turns
      (λ j u ne e. apart id j v.view.number u ne ((r.0.fits j u e).numbered) is) r.1 watched

  pub word_counted : (s : St) (r : Rule s) (id new : ℕ) (v w : Known S) →
      get_elem? s.views id ≡ some v → w.view.number ≡ v.view.number → w.passes ≡ v.passes →
      Counted (set s.words 1 new) (set s.views id w)
  word_counted s r id new v w at number passes =
      counted_same s.words (set s.words 1 new) s.views id v w at
      (get_or-set_other s.words 1 2 new 0 (λ e. omega arith)) number
      (subst (λ n. n ≤ get_or s.words 2 0) (sym passes) (r.2.seen id v at)) r.2

  -- what an old watcher watched is a beginning of a longer history
  watched_on : (s : St) (r : Rule s) (id found left : ℕ) (v : Known S) →
      get_elem? s.views id ≡ some v →
      IsPrefix v.watched (r.1.turns ++ hold v.view.number found left ∷ [])
  watched_on s r id found left v at =
      prefix_more v.watched r.1.turns (hold v.view.number found left ∷ []) (r.1.watched id v at)

  -- the first two words tell the same position, where the second has the same half
  tells_same : (s : St) (new p : ℕ) → length s.words ≡ 3 → new / 2 ≡ get_or s.words 1 0 / 2 →
      Tells (get_or s.words 0 0) (get_or s.words 1 0) p →
      Tells (get_or (set s.words 1 new) 0 0) (get_or (set s.words 1 new) 1 0) p
  tells_same s new p long half t =
      subst (λ (x : ℕ × ℕ). Tells x.0 x.1 p)
      (λ i. (
        sym (get_or-set_other s.words 1 0 new 0 (λ e. omega arith)) i,
        sym (get_or-set_same s.words 1 new 0 (omega arith)) i,
      ))
      ((λ e. let near = t.0 e in (half ∙ near.0, near.1)), (λ ne. t.1 ne))

  -- the lock's word where it is taken
  pub taken_is : (s : St) → lock s ≢ 0 → 1 ≡ lock s
  taken_is s taken = omega (arith, taken)

  won : (s : St) (k : History s) (id new : ℕ) (v w : Known S) (home : Box S) →
      get_elem? s.views id ≡ some v → v.view.number ≡ id + 1 → lock s ≡ 0 → new % 2 ≡ 1 →
      new / 2 ≡ get_or s.words 1 0 / 2 → w ≡ caught_up v (entered v.view k.log) true →
      History (stepped s 1 new id [] w (takes 0 (Some home)))
  won s k id new v w home at number free odd half w_is =
      let f = k.fits id v at in
      let long = k.words in
      let one : get_or (set s.words 1 new) 1 0 % 2 ≡ 1 =
      ap (λ n. n % 2) (get_or-set_same s.words 1 new 0 (omega arith)) ∙ odd in
      record {
        log = k.log;
        holder = id;
        words = length-set s.words 1 new ∙ k.words;
        slots = length-set s.homes 0 none ∙ k.slots;
        legal = k.legal;
        position_is = tells_same s new (position (end_of origin k.log)) k.words half k.position_is;
        fits = others (Fits origin k.log) s.views id w
            (fits_all k.log id v w f (ap (λ x. x.view.number) w_is) (ap (λ x. x.view.origin) w_is)
            (ap (λ x. x.view.own) w_is) (ap (λ x. x.view.seen) w_is)
            (subst (λ x. IsPrefix x k.log) (sym (ap (λ x. x.told) w_is)) (nothing_told k.log)))
            (λ j u _ e. k.fits j u e);
        home = λ e. absurd (omega (arith, e, one));
        inside =
            others (λ j u. u.inside ≡ true →
            Holds k.log (get_or (set s.words 1 new) 1 0 % 2) id j u)
            s.views id w
            (λ _. record {
              is_holder = refl;
              seen_all = ap (λ x. x.view.seen) w_is;
              taken = λ e. omega (arith, e, one);
              number_is = ap (λ x. x.view.number) w_is ∙ number;
            })
            (λ j u _ e on. absurd ((k.inside j u e on).taken free));
        unused =
            λ p e. k.unused p (unused_set s.views id v w at (ap (λ x. x.view.number) w_is) p e);
      }

  take_idle : (id n : ℕ) (v : Known S) (o : S) → 0 < v.view.number →
      v.inside ≡ false → v.view.origin ≡ Some o →
      Allows Rule n id (v, []) 1 (λ r. bit_or r 1) (takes_lock grows (step n 1 1 0 none) (v, []))
  take_idle id n v o some_number out is s r wide at _ =
      let k : History s = r.0 in
      let f = k.fits id v at in
      let number = its_number v id some_number f.numbered in
      let was : ℕ = get_or s.words 1 0 in
      dite (ℕ_discrete (lock s) 0)
      (λ free. let w = caught_up v (entered v.view k.log) true in let home = k.home free in (
        w,
        takes 0 (Some home.0),
        home.2,
        (
          won s k id (bit_or was 1) v w home.0 at number free (with_bit was).0
              (with_bit was).1 refl,
          word_turned s r id (bit_or was 1) v w 0 1 at number (sym free) (with_bit was).0 refl refl
              (watched_on s r id 0 1 v at),
          word_counted s r id (bit_or was 1) v w at refl refl,
        ),
        (
          (λ _ o' is'. (
            k.log,
            sees_all s k id v at o' is',
            home.0,
            home.1 ∙ ap (λ x. end_of x k.log)
                (sym (f.origin_is o' is')),
            refl,
          )),
          (λ taken. absurd (taken free)),
        ),
      ))
      (λ taken. let w = turned_away v in let one = taken_is s taken in (
        w,
        keeps,
        tt,
        subst (λ (x : ℕ). Rule (stepped s 1 x id [] w keeps)) (sym (bit_there was (sym one))) (
          unmoved s k 1 id [] v w at refl (fits_same k.log id v w f refl refl refl refl refl)
              (λ e. absurd (cc (out, e))),
          word_turned s r id was v w 1 1 at number one
              (sym one) refl refl (watched_on s r id 1 1 v at),
          word_counted s r id was v w at refl refl,
        ),
        ((λ free. absurd (taken free)), (λ _. refl)),
      ))

  pub take_keeps : (id n : ℕ) (m : Sat S) (o : S) → m.1 ≡ [] → 0 < m.0.view.number →
      m.0.inside ≡ false → m.0.view.origin ≡ Some o →
      Allows Rule n id m 1 (λ r. bit_or r 1) (takes_lock grows (step n 1 1 0 none) m)
  take_keeps id n m o bare some_number out is =
      subst (λ (x : Sat S). Allows Rule n id x 1 (λ r. bit_or r 1)
      (takes_lock grows (step n 1 1 0 none) x)) (λ i. (m.0, sym bare i))
      (take_idle id n m.0 o some_number out is)
