-- Seats that come, tell each other and become passes keep the rule, and so does the lock at the
-- start.
use Rattle.std.proofs.Common.{◌≡◌, ◌≢◌, ℕ, ◌+◌, ◌%◌, ◌<◌, ◌≤◌, true, false, eqb, cond, List, []}
use Rattle.std.proofs.Common.{◌∷◌, ◌++◌, length, get_or, set, Option, Some, None, refl, ap, sym}
use Rattle.std.proofs.Common.{◌∙◌, subst, ⊎_elim, inl, inr, arith, le_refl, length-set}
use Rattle.std.proofs.Common.{get_or-set_other, get_or-set_same, ne_eqb}
use Rattle.std.specs.Global.{Box}
use mathlib.Core.Option.{some, none, some-injective, some-ne-none}
use mathlib.Core.List.{IsPrefix}
use lib.ListN.{get_elem?}
use prog.Atomic.{either}
use Rattle.atomic_table.specs.Table.{State, step, keeps, Act, Valid, carried_after, stepped, Allows}
use Rattle.atomic_table.specs.Table.{Enters, Splits, Joins, opening}
use Rattle.atomic_table.proofs.Lists.{at_set, set_again, exchanged}
use Rattle.syn_lock.specs.declared.view.Hold.{Hold}
use Rattle.syn_lock.specs.declared.view.Known.{Known}
use Rattle.syn_lock.specs.History.{end_of, IsHistory, holds_by}
use Rattle.syn_lock.specs.Views.{newcomer}
use Rattle.syn_lock.specs.inner.Rule.{known, witness, counting, hearing, agreeing, Tells, arrives}
use Rattle.syn_lock.specs.inner.Rule.{admits, IsUnused, Fits, Holds, Kept, Turned, Counted, Lawful}
use Rattle.syn_lock.specs.Prefixes.{prefix_self}
use Rattle.syn_lock.proofs.Histories.{nothing_told, none_in_prefix, own_between}
use Rattle.syn_lock.proofs.Seats.{newest, others, still, unused_set, unused_numbered, unused_more}
use Rattle.syn_lock.proofs.Turns.{turned_same, turned_more, counted_same, counted_on, counted_more}
use Rattle.syn_lock.proofs.Keeps.{same_origin, fits_same, unmoved}

module _ {S : Type 0} (position : S → ℕ) (grows : S → S → Type 0) (origin : S) where
  abbrev St : Type 0
  St = State (Option (Box S)) (Known S)

  abbrev Rule : St → Type 0
  Rule = Lawful position grows origin

  abbrev History : St → Type 0
  History = Kept position grows origin

  abbrev lock : St → ℕ
  lock s = get_or s.words 1 0 % 2

  -- a new seat, which is no pass, comes with a view that fits
  arrived : (s : St) (r : Rule s) (w : Known S) → Fits origin r.0.log (length s.views) w →
      w.inside ≡ false → w.view.number ≡ 0 → w.view.turns ≡ [] → w.watched ≡ [] →
      w.passes ≤ get_or s.words 2 0 →
      Rule record { words = s.words; homes = s.homes; views = s.views ++ w ∷ [] }
  arrived s r w fit out number turns watched passes = let k : History s = r.0 in (
    record {
      log = k.log;
      holder = k.holder;
      words = k.words;
      slots = k.slots;
      legal = k.legal;
      position_is = k.position_is;
      fits = newest (Fits origin k.log) s.views w fit (λ i u at. k.fits i u at);
      home = k.home;
      inside =
          newest (λ i u. u.inside ≡ true → Holds k.log (lock s) k.holder i u) s.views w
          (λ on. absurd (cc (on, out))) (λ i u at. k.inside i u at);
      unused = λ p e. k.unused p (unused_more s.views w p e);
    },
    turned_more s.words s.views w number turns watched r.1,
    counted_more s.words s.views w number passes r.2,
  )

  -- a seat that is no pass, which has seen these holds, fits
  witness_fits : (s : St) (k : History s) (id : ℕ) (from : Option S) (seen : List (Hold S))
      (passes : ℕ) → ((o : S) → from ≡ Some o → o ≡ origin) → IsPrefix seen k.log →
      Fits origin k.log id (counting (witness from seen) passes)
  witness_fits s k id from seen passes is pre = record {
    origin_is = is;
    prefix = pre;
    told = nothing_told k.log;
    own_all = k.unused 0 (inl refl);
    own_seen = none_in_prefix 0 seen k.log pre (k.unused 0 (inl refl));
    numbered = inl refl;
  }

  pub arrive_keeps : (n : ℕ) →
      Enters Rule n 2 (λ r w. arrives (step n 2 0 0 none) (witness (Some origin) [], []) r (w, []))
  arrive_keeps n s r wide _ =
      let given_out = get_or s.words 2 0 in
      let w = counting (witness (Some origin) []) given_out in (
        w,
        arrived s r w (witness_fits s r.0 (length s.views) (Some origin)
            [] given_out (λ o e. same_origin o origin (sym e)) (nothing_told r.0.log))
            refl refl refl refl
            (le_refl given_out),
        (r.2.few, refl),
      )

  -- a further seat that is no pass, with what a pass has seen
  pub tell_keeps : (id : ℕ) (v : Known S) → Splits Rule id v v (witness v.view.origin v.view.seen)
  tell_keeps id v s r at = let f = r.0.fits id v at in
      subst (λ (vs : List (Known S)). Rule record {
        words = s.words;
        homes = s.homes;
        views = vs ++ witness v.view.origin v.view.seen ∷ [];
      }) (sym (set_again s.views id v at))
      (arrived s r (witness v.view.origin v.view.seen) (witness_fits s r.0 (length s.views)
      v.view.origin v.view.seen 0 f.origin_is f.prefix) refl refl refl refl (omega arith))

  -- two seats change, and the second, which is no pass, is spent
  joined : (s : St) (r : Rule s) (id other : ℕ) (v w both : Known S) →
      get_elem? s.views id ≡ some v → both.view.number ≡ v.view.number →
      both.view.turns ≡ v.view.turns → both.watched ≡ v.watched → both.passes ≡ v.passes →
      Fits origin r.0.log id both →
      (both.inside ≡ true → Holds r.0.log (lock s) r.0.holder id both) →
      get_elem? (set s.views id both) other ≡ some w → w.view.number ≡ 0 → Rule record {
        words =
            s.words;
        homes = s.homes;
        views = set (set s.views id both) other (witness None []);
      }
  joined s r id other v w both at number turns watched passes fit held seat nobody =
      let spent : Known S = witness None [] in
      let first = set s.views id both in
      let k : History s = r.0 in
      let t : Turned s.words first = turned_same s.words s.words s.views id v both at refl number
      turns r.1 (subst (λ x. IsPrefix x r.1.turns) (sym watched) (r.1.watched id v at)) in
      let c : Counted s.words first = counted_same s.words s.words s.views id v both at refl number
      (subst (λ n. n ≤ get_or s.words 2 0) (sym passes) (r.2.seen id v at)) r.2 in (
        record {
          log = k.log;
          holder = k.holder;
          words = k.words;
          slots = k.slots;
          legal = k.legal;
          position_is = k.position_is;
          fits =
              others (Fits origin k.log) first other spent (witness_fits s k other None
              [] 0 (λ o e. absurd cc) (nothing_told k.log)) (λ j u _ e. others
              (Fits origin k.log) s.views id both fit (λ i x _ a. k.fits i x a) j u e);
          home = k.home;
          inside =
              others (λ j u. u.inside ≡ true → Holds k.log (lock s) k.holder j u) first other spent
              (λ e. absurd cc)
              (λ j u _ e. others (λ i x. x.inside ≡ true → Holds k.log (lock s) k.holder i x)
              s.views id both held (λ i x _ a. k.inside i x a) j u e);
          unused =
              λ p e. k.unused p (unused_set s.views id v both at number p
              (unused_set first other w spent seat (sym nobody) p e));
        },
        (let own : [] ≡ w.view.turns = sym (t.unused 0 (inl refl))
            ∙ (ap (λ p. holds_by p t.turns) (sym nobody) ∙ t.own other w seat) in
            turned_same s.words s.words first other w spent seat refl (sym nobody) own t
            (t.turns, refl)),
        counted_same s.words s.words first other w spent seat refl (sym nobody) (omega arith) c,
      )

  seen_by_other : (s : St) (k : History s) (id other : ℕ) (both w : Known S) → ¬ (other ≡ id) →
      get_elem? (set s.views id both) other ≡ some w → IsPrefix w.view.seen k.log
  seen_by_other s k id other both w ne e =
      ⊎_elim (λ (t : (other ≡ id) × (both ≡ w)). absurd (ne t.0))
      (λ (t : (other ≢ id) × (get_elem? s.views other ≡ some w)). (k.fits other w t.1).prefix)
      (at_set s.views id other both w e)

  pub hear_keeps : (id other : ℕ) (v w : Known S) → w.view.number ≡ 0 →
      Joins Rule id v other w (hearing v w) (witness None [])
  hear_keeps id other v w nobody s r at ne seat = let f = r.0.fits id v at in
      joined s r id other v w (hearing v w) at refl refl refl refl
      record {
        origin_is = f.origin_is;
        prefix = f.prefix;
        told = seen_by_other s r.0 id other
            (hearing v w) w ne seat;
        own_all = f.own_all;
        own_seen = f.own_seen;
        numbered = f.numbered;
      }
      (λ e. let h = r.0.inside id v at e in record {
        is_holder = h.is_holder;
        seen_all = h.seen_all;
        taken = h.taken;
        number_is = h.number_is;
      })
      seat nobody

  pub agree_keeps : (id other : ℕ) (v w : Known S) → w.view.number ≡ 0 →
      IsPrefix v.view.seen w.view.seen → v.inside ≡ false →
      Joins Rule id v other w (agreeing v w) (witness None [])
  agree_keeps id other v w nobody more out s r at ne seat =
      let k : History s = r.0 in
      let f = k.fits id v at in
      let there = seen_by_other s k id other (agreeing v w) w ne seat in
      joined s r id other v w (agreeing v w) at refl refl refl refl
      record {
        origin_is = f.origin_is;
        prefix = there;
        told = nothing_told k.log;
        own_all = f.own_all;
        own_seen = own_between v.view.number v.view.seen w.view.seen k.log
            v.view.own more there f.own_seen f.own_all;
        numbered = f.numbered;
      }
      (λ e. absurd (cc (e, out)))
      seat nobody

  -- no seat has the number that a seat without one is to get
  free_number : (s : St) (k : History s) (id : ℕ) (v : Known S) → get_elem? s.views id ≡ some v →
      v.view.number ≡ 0 → IsUnused s.views (id + 1)
  free_number s k id v at nobody = inr (λ j u e is. ⊎_elim (λ (z : u.view.number ≡ 0). omega arith)
      (λ (z : u.view.number ≡ j + 1). let here : j ≡ id = omega arith in
      let same : u ≡ v = some-injective u v
      (sym (subst (λ x. get_elem? s.views x ≡ some u) here e) ∙ at) in
      let none : u.view.number ≡ 0 = ap (λ x. x.view.number) same ∙ nobody in omega arith)
      ((k.fits j u e).numbered))

  -- a seat with no number becomes a pass, which sees all
  come : (s : St) (k : History s) (id new : ℕ) (v w : Known S) → get_elem? s.views id ≡ some v →
      v.view.number ≡ 0 → Fits origin k.log id w → w.inside ≡ false →
      History (stepped s 2 new id [] w keeps)
  come s k id new v w at nobody fit out =
      let long = k.words in
      let word : get_or (set s.words 2 new) 1 0 ≡ get_or s.words 1 0 =
      get_or-set_other s.words 2 1 new 0 (λ e. omega arith) in
      let same : get_or (set s.words 2 new) 1 0 % 2 ≡ lock s = ap (λ n. n % 2) word in
      record {
        log = k.log;
        holder = k.holder;
        words = length-set s.words 2 new ∙ k.words;
        slots = k.slots;
        legal = k.legal;
        position_is =
            subst (λ (x : ℕ × ℕ). Tells x.0 x.1 (position (end_of origin k.log)))
            (λ i. (sym (get_or-set_other s.words 2 0 new 0 (λ e. omega arith)) i, sym word i))
            k.position_is;
        fits = others (Fits origin k.log) s.views id w fit (λ j u _ e. k.fits j u e);
        home = λ e. k.home (sym same ∙ e);
        inside =
            subst (λ (z : ℕ). (j : ℕ) (u : Known S) → get_elem? (set s.views id w) j ≡ some u →
            u.inside ≡ true → Holds k.log z k.holder j u) (sym same)
            (others (λ j u. u.inside ≡ true → Holds k.log (lock s) k.holder j u) s.views id w
            (λ on. absurd (cc (on, out))) (λ j u _ e. k.inside j u e));
        unused = λ p e. k.unused p (unused_numbered s.views id v w at nobody p e);
      }

  admitted_word : (s : St) (r : Rule s) (id new : ℕ) (v w : Known S) →
      get_elem? s.views id ≡ some v → v.view.number ≡ 0 → w.view.number ≡ id + 1 →
      IsUnused s.views (id + 1) → w.view.turns ≡ [] → w.watched ≡ [] →
      Turned (set s.words 2 new) (set s.views id w)
  admitted_word s r id new v w at nobody number free turns watched =
      let t = r.1 in
      let same : get_or (set s.words 2 new) 1 0 % 2 ≡ lock s =
      ap (λ n. n % 2) (get_or-set_other s.words 2 1 new 0 (λ e. omega arith)) in
      record {
        turns = t.turns;
        chained = t.chained;
        word_is = same ∙ t.word_is;
        watched =
            others (λ _ u. IsPrefix u.watched t.turns) s.views id w
            (subst (λ x. IsPrefix x t.turns) (sym watched) (t.turns, refl))
            (λ j u _ e. t.watched j u e);
        own =
            others (λ _ u. holds_by u.view.number t.turns ≡ u.view.turns) s.views id w
            (ap (λ p. holds_by p t.turns) number ∙ (t.unused (id + 1) free ∙ sym turns))
            (λ j u _ e. t.own j u e);
        unused = λ p e. t.unused p (unused_numbered s.views id v w at nobody p e);
      }

  pub admit_keeps : (id n old : ℕ) → old < 63 → Allows Rule n id
      (counting (witness (Some origin) []) old, []) 2 (λ r. either (eqb r old) (old + 1) r)
      (admits grows (step n 2 old (old + 1) none) (counting (witness (Some origin) []) old, []))
  admit_keeps id n old room s r wide at _ =
      let k : History s = r.0 in
      let v : Known S = counting (witness (Some origin) []) old in
      let found : ℕ = get_or s.words 2 0 in
      let long = k.words in
      exchanged found old (old + 1) (λ x. (w : Known S) × (a : Act (Option (Box S)))
      × Valid s.homes [] a × Rule (stepped s 2 x id [] w a)
      × admits grows (step n 2 old (old + 1) none) (v, []) found (w, carried_after [] a))
      (λ e.
      let free = free_number s k id v at refl in
      let fresh : holds_by (id + 1) k.log ≡ [] = k.unused (id + 1) free in
      let w : Known S = known (newcomer (id + 1) origin k.log) [] [] false found in
      let now : get_or (set s.words 2 (old + 1)) 2 0 ≡ old + 1 =
      get_or-set_same s.words 2 (old + 1) 0 (omega arith) in (
        w,
        keeps,
        tt,
        (
          come s k id (old + 1) v w at refl record {
            origin_is =
                λ o e'. same_origin o origin (sym e');
            prefix = prefix_self k.log;
            told =
                nothing_told k.log;
            own_all = fresh;
            own_seen = fresh;
            numbered = inr refl;
          } refl,
          admitted_word s r id (old + 1) v w at refl refl free refl refl,
          counted_on s.words (set s.words 2 (old + 1)) s.views id v w old at e now room refl
              (ap (λ b. cond b 0 1) (ne_eqb (id + 1) 0 (λ z. omega arith))) (omega arith) r.2,
        ),
        (
          r.2.seen id v at,
          r.2.few,
          (λ _ o is. let same = same_origin origin o is in (
            id + 1,
            k.log,
            omega arith,
            (nothing_told k.log, subst (λ x. IsHistory grows x k.log) same k.legal, fresh),
            (λ i. (known (newcomer (id + 1) (same i) k.log) [] [] false found, [])),
          )),
          (λ ne. absurd (ne e)),
        ),
      ))
      (λ ne. let w : Known S = counting v found in (
        w,
        keeps,
        tt,
        (
          unmoved position grows origin s k 2 id [] v w at refl
              (fits_same position grows origin k.log id v w
              (k.fits id v at) refl refl refl refl refl)
              (λ e. absurd cc),
          turned_same s.words (set s.words 2 found) s.views id v w at
              (ap (λ n. n % 2) (still s.words 2 1)) refl refl r.1 (r.1.watched id v at),
          counted_same s.words (set s.words 2 found) s.views id v w at
              (still s.words 2 2) refl (le_refl found) r.2,
        ),
        (r.2.seen id v at, r.2.few, (λ e. absurd (ne e)), (λ _. refl)),
      ))

  pub opens : (ws : List ℕ) (xs : List (Option (Box S))) (home : Box S) (p q : ℕ) →
      ws ≡ p ∷ q ∷ 0 ∷ [] → q % 2 ≡ 0 → Tells p q (position origin) → home.value ≡ origin →
      xs ≡ Some home ∷ [] → Rule (opening ws xs (witness (Some origin) []))
  opens ws xs home p q words even here is slots =
      subst (λ (z : List ℕ × List (Option (Box S))). Rule
      (opening z.0 z.1 (witness (Some origin) []))) (λ i. (sym words i, sym slots i)) (
        record {
          log = [];
          holder = 0;
          words = refl;
          slots = refl;
          legal = tt;
          position_is = here;
          fits = newest (Fits origin []) [] (witness (Some origin) [])
              record {
                origin_is = λ o e. same_origin o origin (sym e);
                prefix = prefix_self [];
                told = prefix_self [];
                own_all = refl;
                own_seen = refl;
                numbered = inl refl;
              }
              (λ i u at. absurd (some-ne-none u (sym at)));
          home = λ _. (home, is, refl);
          inside =
              newest (λ i u. u.inside ≡ true → Holds [] (q % 2) 0 i u) [] (witness (Some origin) [])
              (λ on. absurd cc) (λ i u at. absurd (some-ne-none u (sym at)));
          unused = λ p e. refl;
        },
        record {
          turns = [];
          chained = tt;
          word_is = even;
          watched =
              newest (λ _ u. IsPrefix u.watched []) [] (witness (Some origin) []) (prefix_self [])
              (λ i u at. absurd (some-ne-none u (sym at)));
          own =
              newest (λ _ u. holds_by u.view.number [] ≡ u.view.turns)
              [] (witness (Some origin) []) refl (λ i u at. absurd (some-ne-none u (sym at)));
          unused = λ p e. refl;
        },
        record {
          few = omega arith;
          count_is = refl;
          seen = newest (λ _ u. u.passes ≤ 0)
              [] (witness (Some origin) []) (omega arith)
              (λ i u at. absurd (some-ne-none u (sym at)));
        },
      )
