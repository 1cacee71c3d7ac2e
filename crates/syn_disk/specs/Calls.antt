-- How many device calls a call of a layer above makes, as the arms of a disk tell.
use Rattle.std.specs.Prelude.{◌≡◌, ◌≤◌, ◌<◌, ℕ, zero, suc, false, Result, MatchResult}
use Rattle.syn_disk.specs.Arms.{Arms, after_call, is_refused}

-- so many device calls, of which none was to be refused
unfoldable pub Makes : ℕ → Arms → Arms → Type 0
Makes zero old new = new ≡ old
Makes (suc calls) old new = (is_refused old ≡ false) × Makes calls (after_call old) new

-- at least so many device calls, of which none was to be refused
pub record MakesAtLeast (least : ℕ) (old new : Arms) : Type 0 where
  pub calls : ℕ
  pub enough : least ≤ calls
  pub made : Makes calls old new

-- at most so many device calls, of which the last failed, and none before it was to be refused
pub record Breaks (most : ℕ) (old new : Arms) : Type 0 where
  pub made : ℕ
  pub few : made < most
  pub at : Arms
  pub before : Makes made old at
  pub after : new ≡ after_call at

-- the same of any number of device calls
abbrev pub BreaksSometime : Arms → Arms → Type 0
BreaksSometime old new = (most : ℕ) × Breaks most old new

-- all these device calls where it succeeds, and else the last that was made failed
abbrev pub MakesUpTo : {T E : Type 0} → ℕ → Result T E → Arms → Arms → Type 0
MakesUpTo most result old new =
    MatchResult result (λ _. Makes most old new) (λ _. Breaks most old new)

-- some device calls, which were all to succeed where it succeeds, and else the last of them failed
abbrev pub MakesReads : {T E : Type 0} → Result T E → Arms → Arms → Type 0
MakesReads result old new =
    MatchResult result (λ _. MakesAtLeast 0 old new) (λ _. BreaksSometime old new)
