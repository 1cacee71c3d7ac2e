-- What each call of a replacement makes of a course, and how it ends.
use Rattle.std.proofs.Common.{◌≡◌, ◌≢◌, ◌⊎◌, ℕ, Bool, true, false, List, [], ◌∷◌, refl, sym}
use Rattle.std.proofs.Common.{◌∙◌, ap}
use Rattle.std.proofs.Common.{subst, inl, inr, Option, Some, None, Result, Ok, Err}
use Rattle.std.specs.Prelude.{IsSome}
use Rattle.std.specs.declared.io.Error.{Error}
use Rattle.syn_folder.specs.declared.error.FolderError.{FolderError}
use Rattle.syn_folder.specs.declared.error.FolderError.TheVariants as why
use Rattle.syn_folder.specs.declared.system.stage.Stage.{Stage}
use Rattle.syn_folder.specs.declared.system.stage.Stage.TheVariants.{Noted, Moved}
use Rattle.syn_folder.specs.declared.system.stage.Stage.TheVariants.{Vacant}
use Rattle.syn_folder.specs.Moments.{Act, Moment, Edits, Happens, Does}
use Rattle.syn_folder.specs.Moments.{Tried, Wrote, Began, Took, Knew, Put, Met, Named, Returned}
use Rattle.syn_folder.specs.Moments.{Ended, Broke, Writes, Prepares, Takes, Compares, Places}
use Rattle.syn_folder.specs.Moments.{Closes, MayName, Returns}
use Rattle.syn_folder.specs.Stages.{IsCutOff, IsUntouched, after_prepare}
use Rattle.syn_folder.specs.Courses.{Answers, IsSafe, IsMade, IsOver, Mends, Tells}
use Rattle.syn_folder.specs.Courses.{IsReadyToPut, IsAtRest, IsShown, LosesNothing, rests}
use Rattle.syn_folder.specs.Courses.{out, known, written, put, is_met}
use Rattle.syn_folder.proofs.CourseLemmas.{Reached, begun, waited, step, join, edits_refl}
use Rattle.syn_folder.proofs.CourseLemmas.{safe_edits, ready_edits, stays_loses, same_loses}
use Rattle.syn_folder.proofs.CourseLemmas.{took_safe, took_loses, knew_safe, met_safe}
use Rattle.syn_folder.proofs.CourseLemmas.{returned_safe, returned_loses, named_safe, named_loses}
use Rattle.syn_folder.proofs.CourseLemmas.{ended_safe, broke_safe, put_safe, put_loses}
use Rattle.syn_folder.proofs.CourseLemmas.{rest_safe, tried_safe, ended_over}

-- what an answer says of the folder
pub took_of : (b : Bool) (m n : Moment) → b ≡ true → Takes (Ok b) m n
    → (x : ℕ) × Happens (Took x) m n
took_of b m n is = subst (λ (r : Bool). Takes (Ok r) m n) is

pub took_none : (b : Bool) (m n : Moment) → b ≡ false → Takes (Ok b) m n → Edits m n
took_none b m n is = subst (λ (r : Bool). Takes (Ok r) m n) is

pub knew_of : (b : Bool) (m n : Moment) → b ≡ true → Compares (Ok b) m n
    → (x : ℕ) × Happens (Knew x) m n
knew_of b m n is = subst (λ (r : Bool). Compares (Ok r) m n) is

pub knew_none : (b : Bool) (m n : Moment) → b ≡ false → Compares (Ok b) m n → Edits m n
knew_none b m n is = subst (λ (r : Bool). Compares (Ok r) m n) is

pub put_of : (b : Bool) (m n : Moment) → b ≡ true → Places (Ok b) m n
    → (y : ℕ) × Happens (Put y) m n
put_of b m n is = subst (λ (r : Bool). Places (Ok r) m n) is

pub put_met : (b : Bool) (m n : Moment) → b ≡ false → Places (Ok b) m n → Happens Met m n
put_met b m n is = subst (λ (r : Bool). Places (Ok r) m n) is

pub returned_of : (b : Bool) (m n : Moment) → b ≡ true → Returns (Ok b) m n
    → (x : ℕ) × (k : Moment) × MayName x m k × Happens (Returned x) k n
returned_of b m n is = subst (λ (r : Bool). Returns (Ok r) m n) is

pub returned_met : (b : Bool) (m n : Moment) → b ≡ false → Returns (Ok b) m n → Happens Met m n
returned_met b m n is = subst (λ (r : Bool). Returns (Ok r) m n) is

-- what stays as it was
pub met_noted : (b : Bool) (m n : Moment) → Happens Met m n → m.noted ≡ b → n.noted ≡ b
met_noted b m n h noted =
    h.since.noted ∙ (ap (λ (k : Moment). k.noted) h.does.1 ∙ (h.before.noted ∙ noted))

pub took_noted : (b : Bool) (m n : Moment) (x : ℕ) → Happens (Took x) m n → m.noted ≡ b
    → n.noted ≡ b
took_noted b m n x h noted =
    h.since.noted ∙ (ap (λ (k : Moment). k.noted) h.does.1 ∙ (h.before.noted ∙ noted))

pub knew_noted : (b : Bool) (m n : Moment) (x : ℕ) → Happens (Knew x) m n → m.noted ≡ b
    → n.noted ≡ b
knew_noted b m n x h noted =
    h.since.noted ∙ (ap (λ (k : Moment). k.noted) h.does.1 ∙ (h.before.noted ∙ noted))

pub took_ready : (w : Bool) (done : List Act) (m n : Moment) (x : ℕ) → Happens (Took x) m n
    → IsReadyToPut w done m → IsReadyToPut w (Took x ∷ done) n
took_ready w done m n x h r = record {
  unput = r.unput;
  written = λ y. let t = r.written y in
      (t.0, t.1, h.since.item ∙ (ap (λ (k : Moment). k.item) h.does.1 ∙ (h.before.item ∙ t.2)));
}

pub knew_ready : (w : Bool) (done : List Act) (m n : Moment) (x : ℕ) → Happens (Knew x) m n
    → IsReadyToPut w done m → IsReadyToPut w (Knew x ∷ done) n
knew_ready w done m n x h r = record {
  unput = r.unput;
  written = λ y. let t = r.written y in
      (t.0, t.1, h.since.item ∙ (ap (λ (k : Moment). k.item) h.does.1 ∙ (h.before.item ∙ t.2)));
}

-- what was put is what was written
pub put_written : (w : Bool) (done : List Act) (m n : Moment) (y : ℕ) → Happens (Put y) m n
    → IsReadyToPut w done m → w ≡ true → written done ≡ Some y
put_written w done m n y h r is =
    let t = r.written is in t.1 ∙ (sym t.2 ∙ (sym h.before.item ∙ h.does.1))

module _ (w : Bool) (earlier : List Act) (old : Moment) where
  -- a further act
  pub took : (done : List Act) (m n : Moment) (x : ℕ) → Reached w earlier old done m
      → Happens (Took x) m n → m.kept ≡ None → IsReadyToPut w done m → m.noted ≡ true
      → Reached w earlier old (Took x ∷ done) n
  took done m n x r h none ready noted =
      step w earlier old done m n (Took x) r h
      (took_loses x h.now h.after (h.before.kept ∙ none) h.does)
      (took_safe w done x h.now h.after (safe_edits w done m h.now h.before r.safe) h.does
      (ready_edits w done m h.now h.before ready) (h.before.noted ∙ noted))

  pub knew : (done : List Act) (m n : Moment) (x : ℕ) → Reached w earlier old done m
      → Happens (Knew x) m n → IsReadyToPut w done m → m.noted ≡ true
      → Reached w earlier old (Knew x ∷ done) n
  knew done m n x r h ready noted =
      step w earlier old done m n (Knew x) r h (same_loses h.now h.after h.does.1)
      (knew_safe w done x h.now h.after (safe_edits w done m h.now h.before r.safe) h.does
      (ready_edits w done m h.now h.before ready) (h.before.noted ∙ noted))

  pub met : (done : List Act) (m n : Moment) → Reached w earlier old done m → Happens Met m n
      → Reached w earlier old (Met ∷ done) n
  met done m n r h =
      step w earlier old done m n Met r h (same_loses h.now h.after h.does.1)
      (met_safe w done h.now h.after (safe_edits w done m h.now h.before r.safe) h.does)

  pub returned : (done : List Act) (m n : Moment) (x : ℕ) → Reached w earlier old done m
      → Happens (Returned x) m n → Reached w earlier old (Returned x ∷ done) n
  returned done m n x r h =
      step w earlier old done m n (Returned x) r h (returned_loses x h.now h.after h.does)
      (returned_safe w done x h.now h.after (safe_edits w done m h.now h.before r.safe) h.does)

  pub named : (done : List Act) (m n : Moment) (x : ℕ) → Reached w earlier old done m
      → Happens (Named x) m n → m.noted ≡ true → Reached w earlier old (Named x ∷ done) n
  named done m n x r h noted =
      step w earlier old done m n (Named x) r h (named_loses x h.now h.after h.does)
      (named_safe w done x h.now h.after (safe_edits w done m h.now h.before r.safe) h.does
      (λ none. absurd (let k : true ≡ false = sym (h.before.noted ∙ noted) ∙ none in cc)))

  pub placed : (done : List Act) (m n : Moment) (y : ℕ) → Reached w earlier old done m
      → Happens (Put y) m n → known done ≡ out done → written done ≡ Some y
      → Reached w earlier old (Put y ∷ done) n
  placed done m n y r h is wrote =
      step w earlier old done m n (Put y) r h (put_loses y h.now h.after h.does)
      (put_safe w done y h.now h.after (safe_edits w done m h.now h.before r.safe) h.does is wrote)

  pub ended : (done : List Act) (m n : Moment) → Reached w earlier old done m → Happens Ended m n
      → IsOver w done → Reached w earlier old (Ended ∷ done) n
  ended done m n r h over =
      step w earlier old done m n Ended r h (stays_loses h.now h.after h.does.0)
      (ended_safe w done h.now h.after (safe_edits w done m h.now h.before r.safe) h.does over)

  pub broke : (done : List Act) (m n : Moment) → Reached w earlier old done m → Happens Broke m n
      → IsOver w done → Reached w earlier old (Broke ∷ done) n
  broke done m n r h over =
      step w earlier old done m n Broke r h (stays_loses h.now h.after h.does.0)
      (broke_safe w done h.now h.after (safe_edits w done m h.now h.before r.safe) h.does over)

  -- how it ends

  -- the system refused a call
  pub refused : (done : List Act) (m : Moment) (e : Error) → Reached w earlier old done m
      → Answers w earlier old m (Err (why.System e))
  refused done m e r = record { done = done; course = r.course; safe = r.safe; tells = tt }

  -- what was called went on from there
  pub goes_on : (v : Bool) → v ≡ w → (done : List Act) (m n : Moment)
      (result : Result Unit FolderError) → Reached w earlier old done m
      → (IsSafe v done m → Answers v done m n result) → Answers w earlier old n result
  goes_on v is done m n result r f =
      let a = subst (λ (x : Bool). IsSafe x done m → Answers x done m n result) is f r.safe in
      record {
        done = a.done;
        course = join w earlier old done m a.done n r.course a.course;
        safe = a.safe;
        tells = a.tells;
      }

  pub goes_ready : (v : Bool) → v ≡ w → (done : List Act) (m n : Moment)
      (result : Result Unit FolderError) → Reached w earlier old done m → IsReadyToPut w done m
      → (IsSafe v done m → IsReadyToPut v done m → Answers v done m n result)
      → Answers w earlier old n result
  goes_ready v is done m n result r ready f =
      goes_on v is done m n result r
      (λ safe. f safe (subst (λ (x : Bool). IsReadyToPut x done m) (sym is) ready))

  pub goes_made : (v : Bool) → v ≡ w → (done : List Act) (m n : Moment)
      (result : Result Unit FolderError) → Reached w earlier old done m → IsMade w done
      → (IsSafe v done m → IsMade v done → Answers v done m n result)
      → Answers w earlier old n result
  goes_made v is done m n result r made f =
      goes_on v is done m n result r
      (λ safe. f safe (subst (λ (x : Bool). IsMade x done) (sym is) made))

  pub made : (done : List Act) (m n : Moment) → Reached w earlier old done m → IsMade w done
      → Happens Ended m n → Answers w earlier old n (Ok tt)
  made done m n r is h =
      let e = ended done m n r h (inr (inl is)) in
      record {
        done = Ended ∷ done;
        course = e.course;
        safe = e.safe;
        tells = (record { kept = is.kept; placed = is.placed }, h.since.noted ∙ h.does.1);
      }

  pub tells_any : (done : List Act) (m : Moment) → put done ≡ None → m.noted ≡ false
      → (out done ≡ None) ⊎ (is_met done ≡ true) → (e : FolderError) → Tells w (Err e) done m
  tells_any done m unput noted whole (why.Changed paths) = (unput, noted, whole)
  tells_any done m unput noted whole _ = tt

  pub over_of : (done : List Act) → (out done ≡ None) ⊎ (is_met done ≡ true) → IsOver w done
  over_of done (inl none) = inl none
  over_of done (inr is) = inr (inr is)

  -- it was refused, and no note stood
  pub hindered : (done : List Act) (m : Moment) (e : FolderError) → Reached w earlier old done m
      → put done ≡ None → m.noted ≡ false → (out done ≡ None) ⊎ (is_met done ≡ true)
      → Answers w earlier old m (Err e)
  hindered done m e r unput noted whole = record {
    done = done;
    course = r.course;
    safe = r.safe;
    tells = tells_any done m unput noted whole e;
  }

  -- it was refused, and the note is gone
  pub undone : (done : List Act) (m n : Moment) (e : FolderError) → Reached w earlier old done m
      → put done ≡ None → (out done ≡ None) ⊎ (is_met done ≡ true) → Happens Ended m n
      → Answers w earlier old n (Err e)
  undone done m n e r unput whole h =
      let over : IsOver w done = over_of done whole in
      let k = ended done m n r h over in
      record {
        done = Ended ∷ done;
        course = k.course;
        safe = k.safe;
        tells = tells_any (Ended ∷ done) n unput (h.since.noted ∙ h.does.1) whole e;
      }

  -- what lies in `.syn/kept` may have both names
  pub half : (done : List Act) (m n : Moment) (x : ℕ) → Reached w earlier old done m
      → m.noted ≡ true → MayName x m n
      → (more : List Act) × Reached w earlier old more n × (put more ≡ put done)
  half done m n x r noted (inl e) = (done, waited w earlier old done m n r e, refl)
  half done m n x r noted (inr h) = (Named x ∷ done, named done m n x r h noted, refl)

-- what is wanted is written, and nothing else was done
pub record Written (w : Bool) (old now : Moment) : Type 0 where
  pub done : List Act
  pub reached : Reached w [] old done now
  pub ready : IsReadyToPut w done now
  pub same : known done ≡ out done
  pub rest : IsAtRest now

rest_edits : (m n : Moment) → Edits m n → IsAtRest m → IsAtRest n
rest_edits m n e rest = record { kept = e.kept ∙ rest.kept; noted = e.noted ∙ rest.noted }

wrote_safe : (w : Bool) (y : ℕ) (a b : Moment) → IsAtRest a → Does (Wrote y) a b
    → IsSafe w (Wrote y ∷ []) b
wrote_safe w y a b rest d = subst (IsSafe w (Wrote y ∷ [])) (sym d) (record {
  kept = rest.kept;
  note = λ none. inl refl;
  item = λ t k p. refl;
  placed = λ x at. absurd (let k : None ≡ Some x = at in cc);
})

wrote_loses : (y : ℕ) (a b : Moment) → Does (Wrote y) a b → LosesNothing a b
wrote_loses y a b d = stays_loses a b (ap (λ (m : Moment). m.spot) d, ap (λ (m : Moment). m.kept) d)

pub wrote : (w : Bool) (m n : Moment) → IsAtRest m → Writes w m n → Written w m n
wrote true m n rest (y, h) =
    let there = rest_edits m h.now h.before rest in
    record {
      done = Wrote y ∷ [];
      reached = step true [] m [] m n (Wrote y) (begun true [] m (rest_safe true m rest)) h
          (wrote_loses y h.now h.after h.does) (wrote_safe true y h.now h.after there h.does);
      ready = record {
        unput = refl;
        written = λ _. (y, refl, h.since.item ∙ ap (λ (k : Moment). k.item) h.does);
      };
      same = refl;
      rest = rest_edits h.after n h.since (record {
        kept = ap (λ (k : Moment). k.kept) h.does ∙ there.kept;
        noted = ap (λ (k : Moment). k.noted) h.does ∙ there.noted;
      });
    }
wrote false m n rest e = record {
  done = [];
  reached = waited false [] m [] m n (begun false [] m (rest_safe false m rest)) e;
  ready = record { unput = refl; written = λ y. absurd (let k : false ≡ true = y in cc) };
  same = refl;
  rest = rest_edits m n e rest;
}

-- the same, and a note stands
pub record Noting (w : Bool) (old now : Moment) : Type 0 where
  pub done : List Act
  pub reached : Reached w [] old done now
  pub ready : IsReadyToPut w done now
  pub kept : now.kept ≡ None
  pub noted : now.noted ≡ true

began_safe : (w : Bool) (done : List Act) (a b : Moment) → IsSafe w done a
    → IsReadyToPut w done a → Does Began a b → IsSafe w (Began ∷ done) b
began_safe w done a b s r d = subst (IsSafe w (Began ∷ done)) (sym d) (record {
  kept = s.kept;
  note = λ none. absurd (let k : true ≡ false = none in cc);
  item = λ t y p. let i = r.written y in subst IsSome (sym i.2) refl;
  placed = s.placed;
})

began : (w : Bool) (m k n : Moment) → Written w m k → Happens Began k n → Noting w m n
began w m k n wr h = record {
  done = Began ∷ wr.done;
  reached = step w [] m wr.done k n Began wr.reached h
      (stays_loses h.now h.after (
        ap (λ (x : Moment). x.spot) h.does,
        ap (λ (x : Moment). x.kept) h.does,
      ))
      (began_safe w wr.done h.now h.after (safe_edits w wr.done k h.now h.before wr.reached.safe)
      (ready_edits w wr.done k h.now h.before wr.ready) h.does);
  ready = record {
    unput = wr.ready.unput;
    written = λ y. let t = wr.ready.written y in (
      t.0,
      t.1,
      h.since.item ∙ (ap (λ (x : Moment). x.item) h.does ∙ (h.before.item ∙ t.2)),
    );
  };
  kept = h.since.kept ∙ (ap (λ (x : Moment). x.kept) h.does ∙ (h.before.kept ∙ wr.rest.kept));
  noted = h.since.noted ∙ ap (λ (x : Moment). x.noted) h.does;
}

pub noting : (w : Bool) (s : Stage) (m n : Moment) (u : Unit {0}) → IsUntouched s
    → after_prepare s (Ok u) ≡ Noted → IsAtRest m → Prepares w s (Ok u) m n → Noting w m n
noting w s m n u (inl vacant) is rest h =
    absurd (let k : Vacant ≡ Noted = subst (λ (x : Stage). after_prepare x (Ok u) ≡ Noted) vacant is
    in cc)
noting w s m n u (inr standing) is rest h =
    let p = subst (λ (x : Stage). Prepares w x (Ok u) m n) standing h in
    began w m p.0 n (wrote w m p.0 rest p.1) p.2

pub writing : (w : Bool) (s : Stage) (m n : Moment) (u : Unit {0}) → IsUntouched s
    → after_prepare s (Ok u) ≢ Noted → IsAtRest m → Prepares w s (Ok u) m n → Written w m n
writing w s m n u (inl vacant) not rest h =
    wrote w m n rest (subst (λ (x : Stage). Prepares w x (Ok u) m n) vacant h)
writing w s m n u (inr standing) not rest h =
    absurd (not (ap (λ (x : Stage). after_prepare x (Ok u)) standing))

-- the writing of it failed
pub tried : (w : Bool) (m n : Moment) (e : Error) → IsAtRest m → Happens Tried m n
    → Answers w [] m n (Err (why.System e))
tried w m n e rest h =
    refused w [] m (Tried ∷ []) n e
    (step w [] m [] m n Tried (begun w [] m (rest_safe w m rest)) h
    (stays_loses h.now h.after h.does.0)
    (tried_safe w h.now h.after (rest_edits m h.now h.before rest) h.does))

-- nothing was done
pub untouched : (w : Bool) (m : Moment) (e : FolderError) → IsAtRest m → Answers w [] m m (Err e)
untouched w m e rest = record {
  done = [];
  course = rests m (edits_refl m);
  safe = rest_safe w m rest;
  tells = tells_any w [] m [] m refl rest.noted (inl refl) e;
}

-- a start that ends so
pub closing : (w : Bool) (earlier : List Act) (old : Moment) (done : List Act) (m n : Moment)
    (result : Result Unit Error) → Reached w earlier old done m → IsOver w done
    → Closes result m n → Mends w earlier old n result
closing w earlier old done m n (Ok u) r over h =
    let e = ended w earlier old done m n r h over in
    record {
      done = Ended ∷ done;
      course = e.course;
      safe = e.safe;
      over = (ended_over w done over, h.since.noted ∙ h.does.1);
    }
closing w earlier old done m n (Err e) r over h =
    let b = broke w earlier old done m n r h over in
    record { done = Broke ∷ done; course = b.course; safe = b.safe; over = tt }

-- a start whose putting back the system refused
pub broken : (w : Bool) (earlier : List Act) (old : Moment) (done : List Act) (m : Moment)
    (e : Error) → Reached w earlier old done m → Mends w earlier old m (Err e)
broken w earlier old done m e r =
    record { done = done; course = r.course; safe = r.safe; over = tt }

-- what a start takes for placed was placed
placed_over : (w : Bool) (done : List Act) (m : Moment) (o : Option ℕ) → put done ≡ o
    → IsSafe w done m → m.noted ≡ true → w ≡ true → (m.item ≡ None) ⊎ IsSome (put done)
    → IsOver w done
placed_over w done m (Some y) is safe noted wanted there =
    let p = safe.placed y is in
    inr (inl (record { kept = p.0; placed = λ _. (y, p.1, is) }))
placed_over w done m None is safe noted wanted (inl gone) =
    let some = subst IsSome gone (safe.item noted wanted is) in
    absurd (let k : false ≡ true = some in cc)
placed_over w done m None is safe noted wanted (inr some) =
    let some = subst IsSome is some in absurd (let k : false ≡ true = some in cc)

pub shown_over : (w : Bool) (done : List Act) (m : Moment) (s : Stage) → IsCutOff s → s ≢ Moved
    → IsSafe w done m → IsShown w s done m → IsOver w done
shown_over w done m s (inl noted) not safe shown =
    let there = subst (λ (x : Stage). IsShown w x done m) noted shown in
    inl (sym safe.kept ∙ there.1)
shown_over w done m s (inr (inl moved)) not safe shown = absurd (not moved)
shown_over w done m s (inr (inr placed)) not safe shown =
    let there = subst (λ (x : Stage). IsShown w x done m) placed shown in
    placed_over w done m (put done) refl safe there.0 there.1 there.2

-- a note stands where a start takes it that something was moved
pub shown_noted : (w : Bool) (done : List Act) (m : Moment) (s : Stage) → s ≡ Moved
    → IsShown w s done m → m.noted ≡ true
shown_noted w done m s moved shown = (subst (λ (x : Stage). IsShown w x done m) moved shown).0
