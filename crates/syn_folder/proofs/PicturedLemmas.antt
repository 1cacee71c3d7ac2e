-- What the calls of a system's place make of the moment that it knows.
use Rattle.std.proofs.Common.{◌≡◌, ◌≢◌, Bool, true, false, refl, sym, subst, inl, inr}
use Rattle.std.proofs.Common.{Result, Ok, Err}
use Rattle.std.specs.Prelude.{IsErr, IsSome}
use Rattle.std.specs.declared.io.Error.{Error}
use Rattle.syn_folder.specs.declared.system.stage.Stage.{Stage}
use Rattle.syn_folder.specs.declared.system.stage.Stage.TheVariants as stage
use Rattle.syn_folder.specs.Moments.{Act, Moment, Gone, Free, Has, Edits, Happens, Does}
use Rattle.syn_folder.specs.Moments.{Tried, Wrote, Began, Took, Knew, Put, Met, Returned}
use Rattle.syn_folder.specs.Moments.{Ended, Broke, pictured, Writes, Prepares, Takes, Compares}
use Rattle.syn_folder.specs.Moments.{Closes, Places, Returns}
use Rattle.syn_folder.proofs.CourseLemmas.{edits_refl}

-- an act at a moment that others made of the known one, and left as it is
at_once : (act : Act) (old now after new : Moment) → Edits old now → Does act now after
    → Edits after new → Happens act old new
at_once act old now after new before does since =
    record { now = now; after = after; before = before; does = does; since = since }

same_syn : (old new : Moment) → new.kept ≡ old.kept → new.item ≡ old.item
    → new.noted ≡ old.noted → Edits old new
same_syn old new k i n = record { kept = k; item = i; noted = n }

module _ (k w n : Bool) where
  abbrev known : Moment
  known = pictured k w n

  tried_then : Happens Tried known known
  tried_then =
      at_once Tried known known known known (edits_refl known) ((refl, refl), refl)
      (edits_refl known)

  broke_then : Happens Broke known known
  broke_then =
      at_once Broke known known known known (edits_refl known) ((refl, refl), inr (refl, refl))
      (edits_refl known)

  met_then : Happens Met known known
  met_then =
      let now : Moment = record known { spot = Gone } in
      at_once Met known now now known (same_syn known now refl refl refl)
      ((λ is. let e : Gone ≡ Free = is in cc), refl) (same_syn now known refl refl refl)

  pub prepares_err : (s : Stage) (r : Result Unit Error) → IsErr r → Prepares w s r known known
  prepares_err s (Err e) is = tried_then
  prepares_err s (Ok u) is = absurd (let e : false ≡ true = is in cc)

  pub prepares_tried : Happens Tried known known
  prepares_tried = tried_then

  pub closes_err : (r : Result Unit Error) → IsErr r → Closes r known known
  closes_err (Err e) is = broke_then
  closes_err (Ok u) is = absurd (let e : false ≡ true = is in cc)

  pub closes : Happens Ended known (pictured k w false)
  closes =
      at_once Ended known known (pictured k w false) (pictured k w false) (edits_refl known)
      ((refl, refl), refl) (edits_refl (pictured k w false))

  pub takes : (b : Bool) → b ≡ true → Takes (Ok b) known (pictured true w n)
  takes true is =
      let now : Moment = record known { spot = Has 0 } in (
        0,
        at_once (Took 0) known now (pictured true w n) (pictured true w n)
            (same_syn known now refl refl refl) (refl, refl) (edits_refl (pictured true w n)),
      )
  takes false is = absurd (let e : false ≡ true = is in cc)

  pub returns_err : (r : Result Bool Error) → IsErr r → Returns r known known
  returns_err (Err e) is = (0, inl (edits_refl known))
  returns_err (Ok b) is = absurd (let e : false ≡ true = is in cc)

  pub returns_met : (b : Bool) → b ≡ false → Returns (Ok b) known known
  returns_met false is = met_then
  returns_met true is = absurd (let e : true ≡ false = is in cc)

  began_then : Happens Began known (pictured k w true)
  began_then =
      at_once Began known known (pictured k w true) (pictured k w true) (edits_refl known) refl
      (edits_refl (pictured k w true))

pub compares : (b k w n : Bool) → IsSome (pictured k w n).kept
    → Compares (Ok b) (pictured k w n) (pictured k w n)
compares false k w n lies = edits_refl (pictured k w n)
compares true true w n lies = (
  0,
  at_once (Knew 0) (pictured true w n) (pictured true w n) (pictured true w n)
      (pictured true w n) (edits_refl (pictured true w n)) (refl, refl)
      (edits_refl (pictured true w n)),
)
compares true false w n lies = absurd (let e : false ≡ true = lies in cc)

pub places : (b k w n : Bool) → w ≡ true → Places (Ok b) (pictured k w n) (pictured k w n)
places false k w n is = met_then k w n
places true k true n is =
    let after : Moment = record (pictured k true n) { spot = Has 1 } in (
      1,
      at_once (Put 1) (pictured k true n) (pictured k true n) after (pictured k true n)
          (edits_refl (pictured k true n)) (refl, refl, refl, refl, refl)
          (same_syn after (pictured k true n) refl refl refl),
    )
places true k false n is = absurd (let e : false ≡ true = is in cc)

pub returns : (b k w n : Bool) → b ≡ true → IsSome (pictured k w n).kept
    → Returns (Ok b) (pictured k w n) (pictured false w n)
returns true true w n is lies =
    let after : Moment = record (pictured false w n) { spot = Has 0 } in (
      0,
      pictured true w n,
      inl (edits_refl (pictured true w n)),
      at_once (Returned 0) (pictured true w n) (pictured true w n) after (pictured false w n)
          (edits_refl (pictured true w n)) (refl, inl refl, refl)
          (same_syn after (pictured false w n) refl refl refl),
    )
returns true false w n is lies = absurd (let e : false ≡ true = lies in cc)
returns false k w n is lies = absurd (let e : false ≡ true = is in cc)

writes : (k w n : Bool) → Writes w (pictured k w n) (pictured k w n)
writes k true n = (
  1,
  at_once (Wrote 1) (pictured k true n) (pictured k true n) (pictured k true n)
      (pictured k true n) (edits_refl (pictured k true n)) refl (edits_refl (pictured k true n)),
)
writes k false n = edits_refl (pictured k false n)

pub prepares_noted : (k w n : Bool) (s : Stage) → s ≡ stage.Standing
    → Prepares w s (Ok tt) (pictured k w n) (pictured k w true)
prepares_noted k w n s is =
    subst (λ (x : Stage). Prepares w x (Ok tt) (pictured k w n) (pictured k w true)) (sym is)
    (pictured k w n, writes k w n, began_then k w n)

pub prepares_new : (k w n : Bool) (s : Stage) → s ≢ stage.Standing
    → Prepares w s (Ok tt) (pictured k w n) (pictured k w n)
prepares_new k w n stage.Standing not = absurd (not refl)
prepares_new k w n stage.Vacant not = writes k w n
prepares_new k w n stage.Noted not = writes k w n
prepares_new k w n stage.Moved not = writes k w n
prepares_new k w n stage.Kept not = writes k w n
prepares_new k w n stage.Strange not = writes k w n
prepares_new k w n stage.Placed not = writes k w n
prepares_new k w n stage.Done not = writes k w n
prepares_new k w n stage.Left not = writes k w n
