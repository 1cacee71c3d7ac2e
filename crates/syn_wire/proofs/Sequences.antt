-- One value after another.
use Rattle.std.proofs.Common.{◌≡◌, ℕ, List, ◌∷◌, ◌++◌, sym, ap, ap₂, ◌∙◌, subst, append_assoc}
use Rattle.std.proofs.Common.{Result, Ok, Err}
use Rattle.std.proofs.Common.{Bor, Option, Some, None, option_map, refl}
use Rattle.std.specs.Prelude.{IfOk, IsErrAnd, MatchOption, MatchResult}
use Rattle.syn_wire.specs.Reads.{BeginsWith, IsReading, NoneBeginsAnother, NothingStands}
use Rattle.syn_wire.specs.Reads.{Reads}
use Rattle.syn_wire.specs.Events.{Both, both_spelling}
use Rattle.syn_wire.specs.declared.error.ReadError.{ReadError}
use Rattle.syn_wire.specs.declared.error.ReadError.TheVariants.{Malformed, Memory}
use Rattle.syn_wire.specs.declared.error.WireError.{WireError}

-- an error that a `?` hands on
pub failed : {V X : Type 0} (P : V → Type 0) (f : V → List ℕ) (view : X → V) (old new : List ℕ)
    (r : Result X ReadError) (Q : ReadError → Type 0) → IsErrAnd r Q →
    ((e : ReadError) → Q e → e ≡ Malformed → NothingStands P f old) → Reads P f view old new r
failed P f view old new (Err e) Q is none = none e is
failed P f view old new (Ok x) Q is none = absurd is

-- what a call that is made of bytes alone answers
pub at_border : {V X : Type 0} (P : V → Type 0) (f : V → List ℕ) (view : X → V)
    (bytes old new : List ℕ) (read : Result X ReadError)
    (answer : Result (Option (X × Bor (List ℕ))) WireError) → old ≡ bytes →
    Reads P f view old new read →
    MatchResult answer (λ found. MatchOption found (read ≡ Err Malformed)
    (λ front. (read ≡ Ok front.0) × (front.1.now ≡ new))) (λ _. read ≡ Err Memory) →
    IfOk answer (λ found.
    IsReading P f bytes (option_map (λ front. (view front.0, front.1.now)) found))
at_border P f view bytes old new read (Ok (Some front)) same h is =
    let found = subst (λ r. Reads P f view old new r) is.0 h in
    subst (λ b. BeginsWith P f b (view front.0) front.1.now) same
    (subst (λ b. BeginsWith P f old (view front.0) b) (sym is.1) found)
at_border P f view bytes old new read (Ok None) same h is =
    subst (λ b. NothingStands P f b) same (subst (λ r. Reads P f view old new r) is h refl)
at_border P f view bytes old new read (Err e) same h is = tt

-- what is read after a first byte
pub at_kind : {V X : Type 0} (P : V → Type 0) (f : V → List ℕ) (view : X → V)
    (bytes fields rest : List ℕ) (first kind : ℕ) (read : Result X ReadError) →
    bytes ≡ first ∷ fields → first ≡ kind → Reads P f view (kind ∷ fields) rest read →
    Reads P f view bytes rest read
at_kind P f view bytes fields rest first kind read whole is h =
    subst (λ b. Reads P f view b rest read) (sym (whole ∙ ap (λ k. k ∷ fields) is)) h

module _ {A B : Type 0} (P : A → Type 0) (Q : B → Type 0) (f : A → List ℕ) (g : B → List ℕ) where
  -- where no first value is, no two are
  pub first_none : (bytes : List ℕ) → NothingStands P f bytes →
      NothingStands (Both P Q) (both_spelling f g) bytes
  first_none bytes none pair rest begins =
      none pair.0 (g pair.1 ++ rest) (record {
        lawful = begins.lawful.0;
        spelled = begins.spelled
            ∙ append_assoc (f pair.0) (g pair.1) rest;
      })

  -- nor where no second one is after the first
  pub second_none : NoneBeginsAnother P f → (bytes after : List ℕ) (a : A) →
      BeginsWith P f bytes a after → NothingStands Q g after →
      NothingStands (Both P Q) (both_spelling f g) bytes
  second_none tells bytes after a found none pair rest begins =
      let same = tells a pair.0 after (g pair.1 ++ rest) found.lawful begins.lawful.0
      (sym found.spelled ∙ (begins.spelled ∙ append_assoc (f pair.0) (g pair.1) rest)) in
      none pair.1 rest (record { lawful = begins.lawful.1; spelled = same.1 })

  -- two that tell themselves tell the pair
  pub both_tell : NoneBeginsAnother P f → NoneBeginsAnother Q g →
      NoneBeginsAnother (Both P Q) (both_spelling f g)
  both_tell first second v w r s hv hw e =
      let a = first v.0 w.0 (g v.1 ++ r) (g w.1 ++ s) hv.0 hw.0
      (sym (append_assoc (f v.0) (g v.1) r) ∙ (e ∙ append_assoc (f w.0) (g w.1) s)) in
      let b = second v.1 w.1 r s hv.1 hw.1 a.1 in
      (ap₂ (λ x y. (x, y)) a.0 b.0, b.1)
