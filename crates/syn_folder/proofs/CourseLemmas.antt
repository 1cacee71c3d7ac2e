-- How a course goes on, act by act.
use Rattle.std.proofs.Common.{◌≡◌, ◌⊎◌, ℕ, Bool, true, false, List, [], ◌∷◌, refl, sym, ◌∙◌, ap}
use Rattle.std.proofs.Common.{subst, inl, inr, Some, None}
use Rattle.std.specs.Prelude.{IsSome}
use Rattle.syn_folder.specs.Moments.{Act, Moment, Spot, Free, Has, Edits, Happens, Does}
use Rattle.syn_folder.specs.Moments.{Tried, Took, Knew, Put, Met, Named, Returned}
use Rattle.syn_folder.specs.Moments.{Ended, Broke, IsFreeFor, StaysThere}
use Rattle.syn_folder.specs.Courses.{Course, rests, goes, IsSafe, IsOver, IsThere}
use Rattle.syn_folder.specs.Courses.{LosesNothing, IsReadyToPut, IsAtRest}
use Rattle.syn_folder.specs.Courses.{out, known, written, put}

pub edits_refl : (m : Moment) → Edits m m
edits_refl m = record { kept = refl; item = refl; noted = refl }

pub edits_trans : (a b c : Moment) → Edits a b → Edits b c → Edits a c
edits_trans a b c e f = record {
  kept = f.kept ∙ e.kept;
  item = f.item ∙ e.item;
  noted = f.noted ∙ e.noted;
}

pub safe_edits : (w : Bool) (done : List Act) (a b : Moment) → Edits a b → IsSafe w done a
    → IsSafe w done b
safe_edits w done a b e s = record {
  kept = e.kept ∙ s.kept;
  note = λ n. s.note (sym e.noted ∙ n);
  item = λ n y p. subst IsSome (sym e.item) (s.item (sym e.noted ∙ n) y p);
  placed = s.placed;
}

pub ready_edits : (w : Bool) (done : List Act) (a b : Moment) → Edits a b → IsReadyToPut w done a
    → IsReadyToPut w done b
ready_edits w done a b e r = record {
  unput = r.unput;
  written = λ y. let t = r.written y in (t.0, t.1, e.item ∙ t.2);
}

pub wait : (w : Bool) (earlier : List Act) (old : Moment) (done : List Act) (now next : Moment)
    → Course w earlier old done now → Edits now next → Course w earlier old done next
wait w earlier old done now next (rests _ e) f = rests next (edits_trans _ _ _ e f)
wait w earlier old done now next (goes act d m after _ c does l s e) f =
    goes act d m after next c does l s (edits_trans _ _ _ e f)

pub join : (w : Bool) (earlier : List Act) (old : Moment) (done : List Act) (mid : Moment)
    (more : List Act) (new : Moment) → Course w earlier old done mid → Course w done mid more new
    → Course w earlier old more new
join w earlier old done mid more new c (rests _ e) = wait w earlier old done mid new c e
join w earlier old done mid more new c (goes act d m after _ k does l s e) =
    goes act d m after new (join w earlier old done mid d m c k) does l s e

-- a course to a moment at which it is safe to stop
pub record Reached (w : Bool) (earlier : List Act) (old : Moment) (done : List Act) (now : Moment)
    : Type 0 where
  pub course : Course w earlier old done now
  pub safe : IsSafe w done now

pub begun : (w : Bool) (earlier : List Act) (now : Moment) → IsSafe w earlier now
    → Reached w earlier now earlier now
begun w earlier now s = record { course = rests now (edits_refl now); safe = s }

pub waited : (w : Bool) (earlier : List Act) (old : Moment) (done : List Act) (now next : Moment)
    → Reached w earlier old done now → Edits now next → Reached w earlier old done next
waited w earlier old done now next r e = record {
  course = wait w earlier old done now next r.course e;
  safe = safe_edits w done now next e r.safe;
}

-- one act more, of which it is known what it does to a safe moment
pub step : (w : Bool) (earlier : List Act) (old : Moment) (done : List Act) (now new : Moment)
    (act : Act) → Reached w earlier old done now → (h : Happens act now new)
    → LosesNothing h.now h.after → IsSafe w (act ∷ done) h.after
    → Reached w earlier old (act ∷ done) new
step w earlier old done now new act r h l s = record {
  course = goes act done h.now h.after new (wait w earlier old done now h.now r.course h.before)
      h.does l s h.since;
  safe = safe_edits w (act ∷ done) h.after new h.since s;
}

-- an act that leaves alone what stands there loses nothing
pub stays_loses : (a b : Moment) → StaysThere a b → LosesNothing a b
stays_loses a b stays x (inl at) = inl (stays.0 ∙ at)
stays_loses a b stays x (inr at) = inr (stays.1 ∙ at)

pub same_loses : (a b : Moment) → b ≡ a → LosesNothing a b
same_loses a b is x there = subst (λ (m : Moment). IsThere x m) (sym is) there

no_put : (done : List Act) → put done ≡ None → (x : ℕ) → put done ≡ Some x → ⊥
no_put done none x some = let k : None ≡ Some x = sym none ∙ some in cc

pub took_safe : (w : Bool) (done : List Act) (x : ℕ) (a b : Moment) → IsSafe w done a
    → Does (Took x) a b → IsReadyToPut w done a → a.noted ≡ true → IsSafe w (Took x ∷ done) b
took_safe w done x a b s d r n =
    subst (IsSafe w (Took x ∷ done)) (sym d.1) (record {
      kept = refl;
      note = λ none. absurd (let k : true ≡ false = sym n ∙ none in cc);
      item = λ t y p. let i = r.written y in subst IsSome (sym i.2) refl;
      placed = λ y p. absurd (no_put done r.unput y p);
    })

pub took_loses : (x : ℕ) (a b : Moment) → a.kept ≡ None → Does (Took x) a b → LosesNothing a b
took_loses x a b none d y (inl at) =
    inr (ap (λ (m : Moment). m.kept) d.1 ∙ let k : Has x ≡ Has y = sym d.0 ∙ at in cc)
took_loses x a b none d y (inr at) = absurd (let k : None ≡ Some y = sym none ∙ at in cc)

pub knew_safe : (w : Bool) (done : List Act) (x : ℕ) (a b : Moment) → IsSafe w done a
    → Does (Knew x) a b → IsReadyToPut w done a → a.noted ≡ true → IsSafe w (Knew x ∷ done) b
knew_safe w done x a b s d r n =
    subst (IsSafe w (Knew x ∷ done)) (sym d.1) (record {
      kept = s.kept;
      note = λ none. absurd (let k : true ≡ false = sym n ∙ none in cc);
      item = s.item;
      placed = λ y p. absurd (no_put done r.unput y p);
    })

pub met_safe : (w : Bool) (done : List Act) (a b : Moment) → IsSafe w done a → Does Met a b
    → IsSafe w (Met ∷ done) b
met_safe w done a b s d = subst (IsSafe w (Met ∷ done)) (sym d.1) (record {
  kept = s.kept;
  note = λ none. inr (inr refl);
  item = s.item;
  placed = s.placed;
})

pub returned_safe : (w : Bool) (done : List Act) (x : ℕ) (a b : Moment) → IsSafe w done a
    → Does (Returned x) a b → IsSafe w (Returned x ∷ done) b
returned_safe w done x a b s d = subst (IsSafe w (Returned x ∷ done)) (sym d.2) (record {
  kept = refl;
  note = λ none. inl refl;
  item = s.item;
  placed = λ y p. (refl, (s.placed y p).1);
})

-- what is at a path that is free for a thing is that thing
free_for : (x y : ℕ) (spot : Spot) → IsFreeFor x spot → spot ≡ Has y → Has x ≡ Has y
free_for x y spot (inl free) at = absurd (let k : Free ≡ Has y = sym free ∙ at in cc)
free_for x y spot (inr has) at = sym has ∙ at

pub returned_loses : (x : ℕ) (a b : Moment) → Does (Returned x) a b → LosesNothing a b
returned_loses x a b d y (inl at) =
    inl (ap (λ (m : Moment). m.spot) d.2 ∙ free_for x y a.spot d.1 at)
returned_loses x a b d y (inr at) =
    inl (ap (λ (m : Moment). m.spot) d.2 ∙ let k : Some x ≡ Some y = sym d.0 ∙ at in cc)

pub named_safe : (w : Bool) (done : List Act) (x : ℕ) (a b : Moment) → IsSafe w done a
    → Does (Named x) a b → (a.noted ≡ false → IsOver w (Named x ∷ done))
    → IsSafe w (Named x ∷ done) b
named_safe w done x a b s d over = subst (IsSafe w (Named x ∷ done)) (sym d.2) (record {
  kept = s.kept;
  note = over;
  item = s.item;
  placed = s.placed;
})

pub named_loses : (x : ℕ) (a b : Moment) → Does (Named x) a b → LosesNothing a b
named_loses x a b d y (inl at) =
    inl (ap (λ (m : Moment). m.spot) d.2 ∙ free_for x y a.spot d.1 at)
named_loses x a b d y (inr at) = inr (ap (λ (m : Moment). m.kept) d.2 ∙ at)

-- what is over stays so where the note goes, or should have gone
pub ended_over : (w : Bool) (done : List Act) → IsOver w done → IsOver w (Ended ∷ done)
ended_over w done (inl none) = inl none
ended_over w done (inr (inl made)) = inr (inl (record { kept = made.kept; placed = made.placed }))
ended_over w done (inr (inr met)) = inr (inr met)

pub broke_over : (w : Bool) (done : List Act) → IsOver w done → IsOver w (Broke ∷ done)
broke_over w done (inl none) = inl none
broke_over w done (inr (inl made)) = inr (inl (record { kept = made.kept; placed = made.placed }))
broke_over w done (inr (inr met)) = inr (inr met)

pub ended_safe : (w : Bool) (done : List Act) (a b : Moment) → IsSafe w done a → Does Ended a b
    → IsOver w done → IsSafe w (Ended ∷ done) b
ended_safe w done a b s d over = record {
  kept = d.0.1 ∙ s.kept;
  note = λ none. ended_over w done over;
  item = λ t y p. absurd (let k : true ≡ false = sym t ∙ d.1 in cc);
  placed = s.placed;
}

broke_item : (w : Bool) (done : List Act) (a b : Moment) → IsSafe w done a
    → (b.noted ≡ false) ⊎ ((b.noted ≡ a.noted) × (b.item ≡ a.item))
    → b.noted ≡ true → w ≡ true → put done ≡ None → IsSome b.item
broke_item w done a b s (inl none) t y p = absurd (let k : true ≡ false = sym t ∙ none in cc)
broke_item w done a b s (inr same) t y p =
    subst IsSome (sym same.1) (s.item (sym same.0 ∙ t) y p)

pub broke_safe : (w : Bool) (done : List Act) (a b : Moment) → IsSafe w done a → Does Broke a b
    → IsOver w done → IsSafe w (Broke ∷ done) b
broke_safe w done a b s d over = record {
  kept = d.0.1 ∙ s.kept;
  note = λ none. broke_over w done over;
  item = broke_item w done a b s d.1;
  placed = s.placed;
}

pub put_safe : (w : Bool) (done : List Act) (y : ℕ) (a b : Moment) → IsSafe w done a
    → Does (Put y) a b → known done ≡ out done → written done ≡ Some y → IsSafe w (Put y ∷ done) b
put_safe w done y a b s d is wrote = record {
  kept = d.3 ∙ s.kept;
  note = λ none. inr (inl (record { kept = is; placed = λ t. (y, wrote, refl) }));
  item = λ t k none. absurd (let e : Some y ≡ None = none in cc);
  placed = λ x at. (is, wrote ∙ at);
}

pub put_loses : (y : ℕ) (a b : Moment) → Does (Put y) a b → LosesNothing a b
put_loses y a b d x (inl at) = absurd (let k : Free ≡ Has x = sym d.0 ∙ at in cc)
put_loses y a b d x (inr at) = inr (d.3 ∙ at)

-- at the start

pub rest_safe : (w : Bool) (m : Moment) → IsAtRest m → IsSafe w [] m
rest_safe w m rest = record {
  kept = rest.kept;
  note = λ none. inl refl;
  item = λ t y p. absurd (let k : true ≡ false = sym t ∙ rest.noted in cc);
  placed = λ x at. absurd (let k : None ≡ Some x = at in cc);
}

pub tried_safe : (w : Bool) (m b : Moment) → IsAtRest m → Does Tried m b
    → IsSafe w (Tried ∷ []) b
tried_safe w m b rest d = record {
  kept = d.0.1 ∙ rest.kept;
  note = λ none. inl refl;
  item = λ t y p. absurd (let k : true ≡ false = sym t ∙ (d.1 ∙ rest.noted) in cc);
  placed = λ x at. absurd (let k : None ≡ Some x = at in cc);
}
