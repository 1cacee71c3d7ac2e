-- What a stop at any moment of a course leaves.
use Rattle.std.proofs.Common.{◌≡◌, ◌⊎◌, ℕ, Bool, true, false, List, [], ◌∷◌, refl, sym, ◌∙◌, ap}
use Rattle.std.proofs.Common.{subst, inl, inr, Option, Some, None}
use Rattle.std.specs.Prelude.{IsSome}
use Rattle.syn_folder.specs.declared.system.stage.Stage.{Stage}
use Rattle.syn_folder.specs.declared.system.stage.Stage.TheVariants.{Moved}
use Rattle.syn_folder.specs.declared.system.stage.Stage.TheVariants as stage
use Rattle.syn_folder.specs.Stages.{IsCutOff}
use Rattle.syn_folder.specs.Moments.{Act, Moment, Spot, Free, Has, Edits, Does}
use Rattle.syn_folder.specs.Moments.{Tried, Wrote, Began, Took, Knew, Put, Met, Named, Returned}
use Rattle.syn_folder.specs.Moments.{Ended, Broke}
use Rattle.syn_folder.specs.Courses.{Course, rests, goes, IsAmong, IsAtRest, IsSafe, IsShown}
use Rattle.syn_folder.specs.Courses.{IsMendedByStart, IsOverWithoutNote, KeepsWhatItTook}
use Rattle.syn_folder.specs.Courses.{LosesNothing, MayBeTakenUp}
use Rattle.syn_folder.proofs.CourseLemmas.{join, rest_safe, safe_edits, wait}

-- what lies in `.syn/kept` stays there, unless the act puts it back
stays : (act : Act) (a b : Moment) (x : ℕ) → Does act a b → LosesNothing a b → a.kept ≡ Some x
    → (b.kept ≡ Some x) ⊎ (act ≡ Returned x)
stays Tried a b x d l is = inl (d.0.1 ∙ is)
stays (Wrote y) a b x d l is = inl (ap (λ (m : Moment). m.kept) d ∙ is)
stays Began a b x d l is = inl (ap (λ (m : Moment). m.kept) d ∙ is)
stays (Took y) a b x d l is = inl (elim (l x (inr is)) [
  | inl at ↦ absurd (let k : Free ≡ Has x = sym (ap (λ (m : Moment). m.spot) d.1) ∙ at in cc)
  | inr kept ↦ kept
])
stays (Knew y) a b x d l is = inl (ap (λ (m : Moment). m.kept) d.1 ∙ is)
stays (Put y) a b x d l is = inl (d.3 ∙ is)
stays Met a b x d l is = inl (ap (λ (m : Moment). m.kept) d.1 ∙ is)
stays (Named y) a b x d l is = inl (ap (λ (m : Moment). m.kept) d.2 ∙ is)
stays (Returned y) a b x d l is = inr (let k : Some y ≡ Some x = sym d.0 ∙ is in cc)
stays Ended a b x d l is = inl (d.0.1 ∙ is)
stays Broke a b x d l is = inl (d.0.1 ∙ is)

took_kept : (x : ℕ) (act : Act) (a b : Moment) → act ≡ Took x → Does act a b → b.kept ≡ Some x
took_kept x act a b is d =
    ap (λ (m : Moment). m.kept) (subst (λ (t : Act). Does t a b) is d).1

after_act : (x : ℕ) (act : Act) (done : List Act) (after new : Moment) → Edits after new
    → (after.kept ≡ Some x) ⊎ (act ≡ Returned x)
    → (new.kept ≡ Some x) ⊎ IsAmong (Returned x) (act ∷ done)
after_act x act done after new e (inl kept) = inl (e.kept ∙ kept)
after_act x act done after new e (inr is) = inr (inl is)

keeps_from : (w : Bool) (earlier : List Act) (old : Moment) (done : List Act) (now : Moment) (x : ℕ)
    → (IsAmong (Took x) earlier → (old.kept ≡ Some x) ⊎ IsAmong (Returned x) earlier)
    → Course w earlier old done now → IsAmong (Took x) done
    → (now.kept ≡ Some x) ⊎ IsAmong (Returned x) done
keeps_from w earlier old done now x base (rests _ e) h = elim (base h) [
  | inl kept ↦ inl (e.kept ∙ kept)
  | inr returned ↦ inr returned
]
keeps_from w earlier old done now x base (goes act d m after _ c does l s e) (inl is) =
    inl (e.kept ∙ took_kept x act m after is does)
keeps_from w earlier old done now x base (goes act d m after _ c does l s e) (inr h) =
    elim (keeps_from w earlier old d m x base c h) [
      | inl kept ↦ after_act x act d after now e (stays act m after x does l kept)
      | inr returned ↦ inr (inr returned)
    ]

pub keeps : KeepsWhatItTook
keeps w first now done x rest c h = keeps_from w [] first done now x (λ none. absurd none) c h

safe_course : (w : Bool) (earlier : List Act) (old : Moment) (done : List Act) (now : Moment)
    → IsSafe w earlier old → Course w earlier old done now → IsSafe w done now
safe_course w earlier old done now safe (rests _ e) = safe_edits w earlier old now e safe
safe_course w earlier old done now safe (goes act d m after _ c does l s e) =
    safe_edits w (act ∷ d) after now e s

safe_begun : (w : Bool) (first stopped begun : Moment) (done : List Act) → IsAtRest first
    → Course w [] first done stopped → Edits stopped begun → IsSafe w done begun
safe_begun w first stopped begun done rest c e =
    safe_edits w done stopped begun e
    (safe_course w [] first done stopped (rest_safe w first rest) c)

shown : (w : Bool) (done : List Act) (begun : Moment) (o : Option ℕ) → begun.kept ≡ o
    → begun.noted ≡ true → (s : Stage) × IsCutOff s × IsShown w s done begun
shown w done begun None is noted = (stage.Noted, inl refl, (noted, is))
shown w done begun (Some x) is noted =
    (Moved, inr (inl refl), (noted, subst IsSome (sym is) refl))

pub taken_up : MayBeTakenUp
taken_up w first stopped begun done rest c e noted =
    (safe_begun w first stopped begun done rest c e, shown w done begun begun.kept refl noted)

pub is_over : IsOverWithoutNote
is_over w first stopped begun done rest c e none =
    let s = safe_begun w first stopped begun done rest c e in (s.note none, s.kept)

pub mended : IsMendedByStart
mended w first stopped begun ended done result c e m = record {
  done = m.done;
  course = join w [] first done begun m.done ended
      (wait w [] first done stopped begun c e) m.course;
  safe = m.safe;
  over = m.over;
}
