-- States that go by steps, one after another.
use Rattle.std.proofs.Common.{◌≡◌, ◌==◌, ◌||◌, ◌≤◌, ◌+◌, ℕ, zero, suc, Bool, true, false, cond}
use Rattle.std.proofs.Common.{List, [], ◌∷◌, ◌++◌, length, map, refl, sym, ap, ◌∙◌, subst, arith}
use Rattle.std.proofs.Math.Bool.{or-true}
use Rattle.std.proofs.lemmas.Bool.{le-ltb}
use Rattle.std.proofs.lemmas.Option.{slice_get_past}
use Rattle.std.specs.List.{range_with_len}
use Rattle.std.specs.Prelude.{nat_lt}
use Rattle.syn_runs.specs.World.{Step, Runs, Delivers, no_message}
use Rattle.syn_runs.specs.World.{Edits, Start, Deliver, Tick, Checkpoint, Fail, Stop, Open}
use Rattle.syn_runs.specs.World.{Reopen}
use Rattle.syn_simulate.specs.Drains.{DeliversLowest, IsLowest}
use Rattle.syn_simulate.specs.States.{Goes, Moves, State, noted}

-- a list of steps after another
pub moves_on : (old middle new : State) (made more : List Step)
    → Moves old made middle → Moves middle more new → Moves old (made ++ more) new
moves_on old middle new [] more same moves = subst (λ s. Moves s more new) same moves
moves_on old middle new (step ∷ made) more (between, goes, rest) moves =
    (between, goes, moves_on between middle new made more rest moves)

-- the world runs by the same steps
pub moves_run : (old new : State) (steps : List Step) → Moves old steps new
    → Runs old.world steps new.world
moves_run old new [] same = ap (λ s. s.world) same
moves_run old new (step ∷ steps) (between, goes, rest) =
    (between.world, goes.steps, moves_run between new steps rest)

-- one step alone
pub one_goes : (old new : State) (step : Step) → Moves old (step ∷ []) new → Goes old step new
one_goes old new step (between, goes, same) = subst (λ s. Goes old step s) (sym same) goes

pub lowest_moves : (old new : State) (steps : List Step) → DeliversLowest old steps new
    → Moves old steps new
lowest_moves old new [] same = same
lowest_moves old new (step ∷ steps) (number, between, is, low, goes, rest) =
    (between, goes, lowest_moves between new steps rest)

-- one message more
pub lowest_on : (old middle new : State) (made : List Step) (number : ℕ)
    → DeliversLowest old made middle → IsLowest middle number → Goes middle (Deliver number) new
    → DeliversLowest old (made ++ Deliver number ∷ []) new
lowest_on old middle new [] number same low goes = (
  number,
  new,
  refl,
  subst (λ s. IsLowest s number) same low,
  subst (λ s. Goes s (Deliver number) new) same goes,
  refl,
)
lowest_on old middle new (step ∷ made) number (other, between, is, lower, begins, rest) low goes =
    (other, between, is, lower, begins, lowest_on between middle new made number rest low goes)

-- or none more
pub lowest_same : (old middle new : State) (made : List Step) → DeliversLowest old made middle
    → new ≡ middle → DeliversLowest old made new
lowest_same old middle new made lowest same =
    subst (λ s. DeliversLowest old made s) (sym same) lowest

-- what was delivered stays so
pub stays_noted : (old : State) (step : Step) (number : ℕ) → old.delivered number ≡ true
    → noted old step number ≡ true
stays_noted old (Edits side user edit) number is = is
stays_noted old (Start preference) number is = is
stays_noted old (Deliver other) number is = by_sent (nat_lt other (length old.world.sent))
  where
    by_sent : (sent : Bool) → (cond sent (λ k. k == other || old.delivered k) old.delivered) number
        ≡ true
    by_sent true = ap (λ b. number == other || b) is ∙ or-true (number == other)
    by_sent false = is
stays_noted old Tick number is = is
stays_noted old (Checkpoint machine) number is = is
stays_noted old (Fail machine call) number is = is
stays_noted old (Stop machine call) number is = is
stays_noted old (Open machine) number is = is
stays_noted old (Reopen machine) number is = is

-- a number that was never sent is delivered with no effect
pub idle : (old : State) (number : ℕ) → length old.world.sent ≤ number
    → Goes old (Deliver number) old
idle old number past = record {
  steps = subst (λ m. Delivers old.world m old.world)
      (sym (slice_get_past old.world.sent number past)) no_message;
  delivered = sym (ap (λ b. cond b (λ k. k == number || old.delivered k) old.delivered)
      (le-ltb number (length old.world.sent) past));
}

pub idle_all : (old : State) (first count : ℕ) → length old.world.sent ≤ first
    → Moves old (map Deliver (range_with_len first count)) old
idle_all old first zero past = refl
idle_all old first (suc count) past =
    (old, idle old first past, idle_all old (first + 1) count (omega arith))

-- a range in two
pub range_parts : (first low high : ℕ) → range_with_len first (low + high)
    ≡ range_with_len first low ++ range_with_len (first + low) high
range_parts first zero high =
    ap (λ n. range_with_len first n) e ∙ ap (λ n. range_with_len n high) f
  where
    e : 0 + high ≡ high
    e = omega arith

    f : first ≡ first + 0
    f = omega arith
range_parts first (suc low) high =
    ap (λ n. range_with_len first n) e
    ∙ ap (λ l. first ∷ l) (range_parts (first + 1) low high
    ∙ ap (λ n. range_with_len (first + 1) low ++ range_with_len n high) f)
  where
    e : suc low + high ≡ suc (low + high)
    e = omega arith

    f : first + 1 + low ≡ first + suc low
    f = omega arith
