-- The arms of a disk and those of its machine, call by call.
use Rattle.std.proofs.Common.{◌≡◌, ◌≢◌, ◌≤◌, ◌<◌, ◌-◌, inl, inr, ℕ, zero, suc, Bool, true, false}
use Rattle.std.proofs.Common.{◌==◌, if◌then◌else◌, refl, sym, ap, ap₂, ◌∙◌, subst, Option, Some}
use Rattle.std.proofs.Common.{None, arith}
use Rattle.std.specs.Option.{option_map_or}
use Rattle.std.proofs.lemmas.Bool.{or_parts, false≢true}
use Rattle.std.proofs.lemmas.Bool.Decides.{nat_tests}
use Rattle.syn_disk.specs.Arms.{Arms as DiskArms, is_zero, is_stopped, is_refused, one_fewer}
use Rattle.syn_disk.specs.Arms.{after_call}
use Rattle.syn_disk.specs.Calls.{Makes}
use Rattle.syn_machine.specs.Machine.{Arms, Down, Status, Up, Halted, IsBefore, after_calls, Meets}
use Rattle.syn_machine.specs.Machine.{all_made, unarmed}
use Rattle.syn_machine.specs.Machine.{one_fails, one_stops}
use Rattle.syn_journal.specs.Calls.{armed_at, CallsMeet, goes_on, goes_down, MadeCallsMeet}
use Rattle.syn_journal.specs.Calls.{StopsAfter, BrokenCallsMeet, IsFree, MadeReadsMeet, StaysFree}

-- a stop comes so many calls later: never, or it is still to come, or with the last of these calls
abbrev fewer : ℕ → Option ℕ → Option ℕ
fewer made None = None
fewer made (Some calls) = Some (calls - made)

abbrev IsLater : ℕ → Option ℕ → Type 0
IsLater made None = Unit {0}
IsLater made (Some calls) = made ≤ calls

-- what so many calls that were made leave of the arms
record IsAfter (made : ℕ) (old new : DiskArms) : Type 0 where
  pub failure : new.failure ≡ old.failure - made
  pub stop : new.stop ≡ fewer made old.stop
  pub not_failed : IsBefore made old.failure
  pub not_stopped : IsLater made old.stop

fewer_none : (o : Option ℕ) → o ≡ fewer 0 o
fewer_none None = refl
fewer_none (Some calls) = ap (λ n. Some n) (let e : calls ≡ calls - 0 = omega arith in e)

later_none : (o : Option ℕ) → IsLater 0 o
later_none None = tt
later_none (Some calls) = omega arith

fewer_more : (made : ℕ) (o : Option ℕ) → fewer made (one_fewer o) ≡ fewer (suc made) o
fewer_more made None = refl
fewer_more made (Some calls) =
    ap (λ n. Some n) (let e : (calls - 1) - made ≡ calls - suc made = omega arith in e)

later_more : (made : ℕ) (o : Option ℕ) → is_zero o ≡ false → IsLater made (one_fewer o) →
    IsLater (suc made) o
later_more made None some h = tt
later_more made (Some calls) some h =
    let one : calls ≢ 0 = not_zero calls some in
    omega (arith, h, one)
  where
    not_zero : (n : ℕ) → (n == 0) ≡ false → n ≢ 0
    not_zero n e z = grind (arith, nat_tests)

-- one call that is not refused
one_call : (old : DiskArms) → is_refused old ≡ false → (is_stopped old ≡ false) × (old.failure ≢ 1)
    × (after_call old ≡ record { failure = old.failure - 1; stop = one_fewer old.stop })
one_call old made =
    let both = or_parts (is_stopped old) (old.failure == 1) made in (
      both.0,
      not_one old.failure both.1,
      ap (λ b. if b then old
          else record { failure = old.failure - 1; stop = one_fewer old.stop }) both.0,
    )
  where
    not_one : (n : ℕ) → (n == 1) ≡ false → n ≢ 1
    not_one n e z = grind (arith, nat_tests)

makes_after : (made : ℕ) (old new : DiskArms) → Makes made old new → IsAfter made old new
unfolding Makes
makes_after zero old new m = record {
  failure = ap (λ a. a.failure) m ∙ (let e : old.failure ≡ old.failure - 0 = omega arith in e);
  stop = ap (λ a. a.stop) m ∙ fewer_none old.stop;
  not_failed = before old.failure;
  not_stopped = later_none old.stop;
}
  where
    before : (n : ℕ) → IsBefore 0 n
    before zero = inl refl
    before (suc n) = inr (omega arith)
makes_after (suc made) old new m =
    let one = one_call old m.0 in
    let rest = makes_after made (after_call old) new m.1 in
    let failure_is : (after_call old).failure ≡ old.failure - 1 = ap (λ a. a.failure) one.2 in
    let stop_is : (after_call old).stop ≡ one_fewer old.stop = ap (λ a. a.stop) one.2 in
    record {
      failure =
          rest.failure ∙ (ap (λ n. n - made) failure_is
          ∙ (let e : (old.failure - 1) - made ≡ old.failure - suc made = omega arith in e));
      stop = rest.stop ∙ (ap (fewer made) stop_is ∙ fewer_more made old.stop);
      not_failed = before old.failure (after_call old).failure failure_is one.1 rest.not_failed;
      not_stopped = later_more made old.stop one.0 (subst (IsLater made) stop_is rest.not_stopped);
    }
  where
    before : (was now : ℕ) → now ≡ was - 1 → was ≢ 1 → IsBefore made now → IsBefore (suc made) was
    before was now e other (inl none) = inl (omega (arith, e, other, none))
    before was now e other (inr less) = inr (omega (arith, e, less))

not_zero : (n : ℕ) → (n == 0) ≡ false → n ≢ 0
not_zero n e z = grind (arith, nat_tests)

is_none : (n : ℕ) → n ≡ 0 → (n == 0) ≡ true
is_none n e = grind (arith, nat_tests)

is_some : (n : ℕ) → n ≢ 0 → (n == 0) ≡ false
is_some n e = grind (arith, nat_tests)

-- the arms after so many calls, by what is left of both
left_of : (made : ℕ) (old new : DiskArms) (n m : ℕ) →
    option_map_or (λ calls. calls) old.stop 0 ≡ n → option_map_or (λ calls. calls) new.stop 0 ≡ m →
    new.failure ≡ old.failure - made → m ≡ n - made → after_calls made (armed_at old) ≡ armed_at new
left_of made old new n m was is failure less =
    ap₂ (λ f s. record { fail = f; stop = s }) (sym failure)
    (ap (λ k. k - made) was ∙ (sym less ∙ sym is))

stop_of : (o : Option ℕ) (n : ℕ) → o ≡ Some n → option_map_or (λ calls. calls) o 0 ≡ n
stop_of o n e = ap (λ o. option_map_or (λ calls. calls) o 0) e

no_stop_of : (o : Option ℕ) → o ≡ None → option_map_or (λ calls. calls) o 0 ≡ 0
no_stop_of o e = ap (λ o. option_map_or (λ calls. calls) o 0) e

-- the call after those that were made is not armed among them
not_before : (made : ℕ) (fail : ℕ) → IsBefore (suc made) fail →
    IsBefore made fail × (fail ≢ suc made)
not_before made fail (inl none) = (inl none, λ same. omega (arith, none, same))
not_before made fail (inr less) = (inr (omega (arith, less)), λ same. omega (arith, less, same))

module _ (old new : DiskArms) (open_ : is_stopped old ≡ false) where
  -- all calls are made, and a stop is still to come or there is none
  stays_up : (calls n m : ℕ) → option_map_or (λ calls. calls) old.stop 0 ≡ n →
      option_map_or (λ calls. calls) new.stop 0 ≡ m → IsAfter calls old new → m ≡ n - calls →
      IsBefore calls n → is_stopped new ≡ false → CallsMeet old new calls Up 0
  stays_up calls n m was is a less before still =
      goes_on still (subst (λ arms. Meets (armed_at old) calls Up arms 0) (left_of calls old new n m
      was is a.failure less) (all_made a.not_failed (subst (IsBefore calls) (sym was) before)))

  -- the stop came after the last of them
  goes_down_after : (calls : ℕ) → old.stop ≡ Some calls → calls ≢ 0 → IsBefore calls old.failure →
      is_stopped new ≡ true → CallsMeet old new calls Up 0
  goes_down_after zero at some before down = absurd (some refl)
  goes_down_after (suc made) at some before down =
      let both = not_before made old.failure before in
      goes_down down (one_stops made (omega arith) both.0 (stop_of old.stop (suc made) at))

  all_meet : (calls : ℕ) → IsAfter calls old new → CallsMeet old new calls Up 0
  all_meet calls a = by old.stop refl
    where
      with_stop : (n : ℕ) → old.stop ≡ Some n → (b : Bool) → (n == calls) ≡ b →
          CallsMeet old new calls Up 0
      with_stop n at true same =
          let is : n ≡ calls = grind (arith, nat_tests) in
          let open_n = not_zero n (sym (ap is_zero at) ∙ open_) in
          let now = a.stop ∙ ap (fewer calls) at in
          goes_down_after calls (at ∙ ap (λ k. Some k) is) (λ none. open_n (is ∙ none))
          a.not_failed (ap is_zero now ∙ is_none (n - calls) (omega (arith, is)))
      with_stop n at false other =
          let differs : n ≢ calls = λ e. grind (arith, nat_tests) in
          let later = subst (IsLater calls) at a.not_stopped in
          let now = a.stop ∙ ap (fewer calls) at in
          stays_up calls n (n - calls) (stop_of old.stop n at)
          (stop_of new.stop (n - calls) now) a refl (inr (omega (arith, differs, later)))
          (ap is_zero now ∙ is_some (n - calls) (λ e. omega (arith, e, differs, later)))

      by : (o : Option ℕ) → old.stop ≡ o → CallsMeet old new calls Up 0
      by None at =
          let now = a.stop ∙ ap (fewer calls) at in
          stays_up calls 0 0 (no_stop_of old.stop at) (no_stop_of new.stop now) a (omega arith)
          (inl refl) (ap is_zero now)
      by (Some n) at = with_stop n at (n == calls) refl

  -- one call fails
  module _ (most made : ℕ) (few : made < most) (middle : DiskArms) (a : IsAfter made old middle)
      (after : new ≡ after_call middle) where
    breaks_up : (n m : ℕ) → option_map_or (λ calls. calls) old.stop 0 ≡ n →
        option_map_or (λ calls. calls) new.stop 0 ≡ m → is_stopped middle ≡ false →
        m ≡ n - suc made → IsBefore (suc made) n → is_stopped new ≡ false →
        CallsMeet old new most Halted 1
    breaks_up n m was is running less before still =
        let failure : new.failure ≡ old.failure - suc made =
        ap (λ x. x.failure) (after ∙ ap (λ b. if b then middle
        else record { failure = middle.failure - 1; stop = one_fewer middle.stop }) running)
        ∙ (ap (λ k. k - 1) a.failure
        ∙ (let e : (old.failure - made) - 1 ≡ old.failure - suc made = omega arith in e)) in
        goes_on still (subst (λ arms. Meets (armed_at old) most Halted arms 1)
        (left_of (suc made) old new n m was is failure less)
        (one_fails made few a.not_failed (subst (IsBefore (suc made)) (sym was) before)))

    new_stop : is_stopped middle ≡ false → new.stop ≡ one_fewer middle.stop
    new_stop running =
        ap (λ x. x.stop) (after ∙ ap (λ b. if b then middle
        else record { failure = middle.failure - 1; stop = one_fewer middle.stop }) running)

    -- it was down before that call
    was_down : (n : ℕ) → old.stop ≡ Some n → n ≢ 0 → n ≡ made → is_stopped new ≡ true →
        CallsMeet old new most Halted 1
    was_down zero at some same down = absurd (some refl)
    was_down (suc before) at some same down =
        goes_down down (one_stops before (omega (arith, few, same)) (earlier old.failure
        a.not_failed) (stop_of old.stop (suc before) at))
      where
        earlier : (fail : ℕ) → IsBefore made fail → IsBefore before fail
        earlier fail (inl none) = inl none
        earlier fail (inr less) = inr (omega (arith, less, same))

    breaks_meet : CallsMeet old new most Halted 1
    breaks_meet = by old.stop refl
      where
        with_stop : (n : ℕ) → old.stop ≡ Some n → n ≢ 0 → made ≤ n → (b c : Bool) →
            (n == made) ≡ b → (n == suc made) ≡ c → CallsMeet old new most Halted 1
        with_stop n at some later true c same other =
            let is : n ≡ made = grind (arith, nat_tests) in
            let stopped : is_stopped middle ≡ true = ap is_zero (a.stop ∙ ap (fewer made) at)
            ∙ is_none (n - made) (omega (arith, is)) in
            was_down n at some is (ap is_stopped (after ∙ ap (λ b. if b then middle
            else record { failure = middle.failure - 1; stop = one_fewer middle.stop }) stopped)
            ∙ stopped)
        with_stop n at some later false true other same =
            let is : n ≡ suc made = grind (arith, nat_tests) in
            let running : is_stopped middle ≡ false = ap is_zero (a.stop ∙ ap (fewer made) at)
            ∙ is_some (n - made) (λ e. omega (arith, e, is)) in
            let now = new_stop running ∙ ap one_fewer (a.stop ∙ ap (fewer made) at) in
            goes_down (ap is_zero now ∙ is_none ((n - made) - 1) (omega (arith, is))) (one_stops
            made few a.not_failed (stop_of old.stop n at ∙ is))
        with_stop n at some later false false other another =
            let differs : n ≢ made = λ e. grind (arith, nat_tests) in
            let differs_too : n ≢ suc made = λ e. grind (arith, nat_tests) in
            let running : is_stopped middle ≡ false = ap is_zero (a.stop ∙ ap (fewer made) at)
            ∙ is_some (n - made) (λ e. omega (arith, e, differs, later)) in
            let now = new_stop running ∙ ap one_fewer (a.stop ∙ ap (fewer made) at) in
            breaks_up n ((n - made) - 1) (stop_of old.stop n at)
            (stop_of new.stop ((n - made) - 1) now) running (omega arith)
            (inr (omega (arith, differs, differs_too, later))) (ap is_zero now
            ∙ is_some ((n - made) - 1) (λ e. omega (arith, e, differs, differs_too, later)))

        by : (o : Option ℕ) → old.stop ≡ o → CallsMeet old new most Halted 1
        by None at =
            let running : is_stopped middle ≡ false = ap is_zero (a.stop ∙ ap (fewer made) at) in
            let now = new_stop running ∙ ap one_fewer (a.stop ∙ ap (fewer made) at) in
            breaks_up 0 0 (no_stop_of old.stop at) (no_stop_of new.stop now) running (omega arith)
            (inl refl) (ap is_zero now)
        by (Some n) at =
            with_stop n at (not_zero n (sym (ap is_zero at) ∙ open_))
            (subst (IsLater made) at a.not_stopped) (n == made) (n == suc made) refl refl

pub made_calls_meet : MadeCallsMeet
made_calls_meet calls old new running m =
    all_meet old new running calls (makes_after calls old new m)

pub stops_after : StopsAfter
stops_after calls old new running m down = by old.stop refl
  where
    by : (o : Option ℕ) → old.stop ≡ o →
        ((armed_at old).stop ≡ calls) × IsBefore calls (armed_at old).fail
    by None at =
        let a = makes_after calls old new m in
        let open_ : is_stopped new ≡ false = ap is_zero (a.stop ∙ ap (fewer calls) at) in
        absurd (false≢true (sym open_ ∙ down))
    by (Some n) at =
        let a = makes_after calls old new m in
        let later = subst (IsLater calls) at a.not_stopped in
        let over : (n - calls == 0) ≡ true = sym (ap is_zero (a.stop ∙ ap (fewer calls) at))
        ∙ down in
        let none : n - calls ≡ 0 = grind (arith, nat_tests) in (
          stop_of old.stop n at ∙ (let e : n ≡ calls = omega (arith, later, none) in e),
          a.not_failed,
        )

pub broken_calls_meet : BrokenCallsMeet
broken_calls_meet most old new running b =
    breaks_meet old new running most b.made b.few b.at
    (makes_after b.made old b.at b.before) b.after

pub made_reads_meet : MadeReadsMeet
made_reads_meet least old new running r =
    (r.calls, r.enough, made_calls_meet r.calls old new running r.made)

-- where nothing is armed no stop comes, and nothing is armed then
pub never_stops : (calls failed : ℕ) (now : Arms) → Meets unarmed calls Down now failed → ⊥
never_stops calls _ _ (one_stops made less before stop) = omega (arith, stop)

none_left : (n : ℕ) → 0 - n ≡ 0
none_left n = omega arith

pub still_unarmed : (calls failed : ℕ) (status : Status) (now : Arms) →
    Meets unarmed calls status now failed → now ≡ unarmed
still_unarmed calls _ _ _ (all_made fail stop) =
    ap₂ (λ f s. record { fail = f; stop = s }) (none_left calls) (none_left calls)
still_unarmed calls _ _ _ (one_fails made less fail stop) =
    ap₂ (λ f s. record { fail = f; stop = s }) (none_left (suc made)) (none_left (suc made))
still_unarmed calls _ _ _ (one_stops made less before stop) = refl

-- an opening leaves free what was free
free_after : (old now : DiskArms) (calls : ℕ) (status : Status) (failed : ℕ) → IsFree old →
    CallsMeet old now calls status failed → IsFree now
free_after old now calls status failed free (goes_on goes meets) = record {
  goes = goes;
  unarmed_is = still_unarmed calls failed status (armed_at now)
      (subst (λ a. Meets a calls status (armed_at now) failed) free.unarmed_is meets);
}
free_after old now calls status failed free (goes_down stopped meets) =
    absurd (never_stops calls 0 unarmed
    (subst (λ a. Meets a calls Down unarmed 0) free.unarmed_is meets))

pub stays_free : StaysFree
stays_free least old now free makes =
    let found = made_reads_meet least old now free.goes makes in
    free_after old now found.0 Up 0 free found.2
