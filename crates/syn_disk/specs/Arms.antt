-- Which calls a disk refuses that was told to.
use Rattle.std.specs.Prelude.{ℕ, ◌-◌, ◌==◌, ◌||◌, Bool, false, Option, Some, None, if◌then◌else◌}

-- the number of calls up to the failure (0: none), and the calls that are still made before the
-- stop
pub record Arms : Type 0 where
  pub failure : ℕ
  pub stop : Option ℕ

abbrev pub no_arms : Arms
no_arms = record { failure = 0; stop = None }

abbrev pub is_zero : Option ℕ → Bool
is_zero None = false
is_zero (Some calls) = calls == 0

abbrev pub is_stopped : Arms → Bool
is_stopped arms = is_zero arms.stop

-- the next call is refused
abbrev pub is_refused : Arms → Bool
is_refused arms = is_stopped arms || arms.failure == 1

abbrev pub one_fewer : Option ℕ → Option ℕ
one_fewer None = None
one_fewer (Some calls) = Some (calls - 1)

-- once it is stopped nothing changes
abbrev pub after_call : Arms → Arms
after_call arms =
    if is_stopped arms then arms
    else record { failure = arms.failure - 1; stop = one_fewer arms.stop }
