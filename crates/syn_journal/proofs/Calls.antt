-- The device calls of one run and then another.
use Rattle.std.specs.Prelude.{◌⊎◌, Result, Ok, Err, MatchResult, OnOk, IsErrAnd}
use Rattle.std.proofs.Common.{inl, inr, ◌≡◌, ℕ, zero, suc, ◌+◌, ◌≤◌, false, refl, sym, subst, arith}
use Rattle.syn_model.proofs.ExitLemmas.{match_of_exit}
use Rattle.syn_disk.specs.Arms.{Arms, after_call, is_refused}
use Rattle.syn_disk.specs.Calls.{Makes, MakesAtLeast, Breaks, BreaksSometime, MakesUpTo, MakesReads}
use Rattle.syn_journal.specs.Refusals.{AfterReads, CountsFailures, ReadsAtLeast}
use Rattle.syn_journal.specs.declared.error.JournalError.{JournalError}
use Rattle.syn_journal.specs.declared.error.JournalError.TheVariants.{Device, NoImage, Damaged}

one_more : (m n : ℕ) → suc m + n ≡ suc (m + n)
one_more m n = omega arith

-- some calls and then others
pub makes_more : (m n : ℕ) (old mid new : Arms) → Makes m old mid → Makes n mid new →
    Makes (m + n) old new
unfolding Makes
makes_more zero n old mid new first second =
    subst (λ k. Makes k old new) (let e : n ≡ 0 + n = omega arith in e)
    (subst (λ arms. Makes n arms new) first second)
makes_more (suc m) n old mid new first second =
    subst (λ k. Makes k old new) (sym (one_more m n))
    (first.0, makes_more m n (after_call old) mid new first.1 second)

pub no_call : (arms : Arms) → Makes 0 arms arms
unfolding Makes
no_call arms = refl

-- no call
pub no_reads : (arms : Arms) → MakesAtLeast 0 arms arms
no_reads arms = record { calls = 0; enough = omega arith; made = no_call arms }

-- one call
pub one_made : (old new : Arms) → is_refused old ≡ false → new ≡ after_call old → Makes 1 old new
unfolding Makes
one_made old new allowed after = (allowed, after)

pub one_breaks : (old new : Arms) → new ≡ after_call old → Breaks 1 old new
one_breaks old new after =
    record { made = 0; few = omega arith; at = old; before = no_call old; after = after }

pub one_up_to : {T E : Type 0} (result : Result T E) (old new : Arms) →
    OnOk result (is_refused old ≡ false) → new ≡ after_call old → MakesUpTo 1 result old new
one_up_to (Ok value) old new allowed after = one_made old new allowed after
one_up_to (Err error) old new allowed after = one_breaks old new after

pub one_read : (least : ℕ) (old new : Arms) → least ≤ 1 → is_refused old ≡ false →
    new ≡ after_call old → MakesAtLeast least old new
one_read least old new enough allowed after =
    record { calls = 1; enough = enough; made = one_made old new allowed after }

pub one_broke : (old new : Arms) → new ≡ after_call old → BreaksSometime old new
one_broke old new after = (1, one_breaks old new after)

-- so many calls, and then so many, of which one may have failed
module _ (m n : ℕ) (old mid new : Arms) (first : Makes m old mid) where
  pub then_made : Makes n mid new → Makes (m + n) old new
  then_made second = makes_more m n old mid new first second

  pub then_breaks : Breaks n mid new → Breaks (m + n) old new
  then_breaks second = record {
    made = m + second.made;
    few = omega (arith, second.few);
    at = second.at;
    before = makes_more m second.made old mid second.at first second.before;
    after = second.after;
  }

pub then_up_to : {T E : Type 0} (m n : ℕ) (result : Result T E) (old mid new : Arms) →
    Makes m old mid → MakesUpTo n result mid new → MakesUpTo (m + n) result old new
then_up_to m n (Ok value) old mid new first second = then_made m n old mid new first second
then_up_to m n (Err error) old mid new first second = then_breaks m n old mid new first second

pub fewer : (m n : ℕ) (old new : Arms) → m ≤ n → Breaks m old new → Breaks n old new
fewer m n old new less breaks =
    record {
      made = breaks.made;
      few = omega (arith, less, breaks.few);
      at = breaks.at;
      before = breaks.before;
      after = breaks.after;
    }

-- some calls, and then some
module _ (least : ℕ) (old mid new : Arms) (first : MakesAtLeast least old mid) where
  pub then_some : MakesAtLeast 0 mid new → MakesAtLeast least old new
  then_some second = record {
    calls = first.calls + second.calls;
    enough = omega (arith, first.enough);
    made = makes_more first.calls second.calls old mid new first.made second.made;
  }

  pub then_broke : BreaksSometime mid new → BreaksSometime old new
  then_broke second =
      (first.calls + second.0, then_breaks first.calls second.0 old mid new first.made second.1)

  pub then_after : (refusal : JournalError) → AfterReads 0 refusal mid new →
      AfterReads least refusal old new
  then_after Device second = then_broke second
  then_after refusal second = then_some second

pub then_reads : {T : Type 0} (least : ℕ) (result : Result T JournalError) (old mid new : Arms) →
    MakesAtLeast least old mid → ReadsAtLeast 0 result mid new → ReadsAtLeast least result old new
then_reads least (Ok value) old mid new first second = then_some least old mid new first second
then_reads least (Err refusal) old mid new first second =
    then_after least old mid new first refusal second

-- a refusal for what was read
pub unread_refusal : (refusal : JournalError) (old new : Arms) →
    (refusal ≡ NoImage) ⊎ (refusal ≡ Damaged) → MakesAtLeast 0 old new →
    AfterReads 0 refusal old new
unread_refusal refusal old new (inl none) some = subst (λ e. AfterReads 0 e old new) (sym none) some
unread_refusal refusal old new (inr damaged) some =
    subst (λ e. AfterReads 0 e old new) (sym damaged) some

-- the exits of a `?`
pub up_to_of_exit : {T E : Type 0} (most : ℕ) (result : Result T E) (Q : E → Type 0)
    (old new : Arms) → IsErrAnd result Q → Breaks most old new → MakesUpTo most result old new
up_to_of_exit most (Ok value) Q old new is breaks = absurd is
up_to_of_exit most (Err error) Q old new is breaks = breaks

pub broke_of_exit : {T E : Type 0} (result : Result T E) (Q : E → Type 0) (old new : Arms) →
    IsErrAnd result Q → BreaksSometime old new → MakesReads result old new
broke_of_exit (Ok value) Q old new is broke = absurd is
broke_of_exit (Err error) Q old new is broke = broke

pub reads_of_exit : {T : Type 0} (least : ℕ) (result : Result T JournalError)
    (refusal : JournalError) (old new : Arms) → IsErrAnd result (λ e. e ≡ refusal) →
    AfterReads least refusal old new → ReadsAtLeast least result old new
reads_of_exit least (Ok value) refusal old new is after = absurd is
reads_of_exit least (Err error) refusal old new is after =
    subst (λ e. AfterReads least e old new) (sym is) after

-- what holds of the refusal holds of the exit, where no call failed before it
pub counts_of_exit : {T : Type 0} (result : Result T JournalError) (refusal : JournalError)
    (old mid new : ℕ) → IsErrAnd result (λ e. e ≡ refusal) → mid ≡ old →
    CountsFailures refusal mid new →
    MatchResult result (λ _. new ≡ old) (λ e. CountsFailures e old new)
counts_of_exit result refusal old mid new is same counts =
    match_of_exit result refusal _ _ is (subst (λ n. CountsFailures refusal n new) same counts)
