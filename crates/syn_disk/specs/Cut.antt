-- What a `Cut` shows.
use Rattle.std.specs.Prelude.{◌+◌, ℕ}
use Rattle.syn_disk.specs.Arms.{Arms}
use Rattle.syn_disk.specs.declared.simulated.cut.Cut.{Cut}

-- the disk that it passes calls on to
abbrev pub disk_of : {D : Type 0} → Cut D → D
disk_of cut = cut.inner

abbrev pub arms_of : {D : Type 0} → Cut D → Arms
arms_of cut = record { failure = cut.calls_to_failure; stop = cut.calls_to_stop }

-- how many calls it refused itself
abbrev pub refused_of : {D : Type 0} → Cut D → ℕ
refused_of cut = cut.refused

-- those and the failures of the disk below
abbrev pub failures_of : {D : Type 0} → (D → ℕ) → Cut D → ℕ
failures_of failures cut = failures (disk_of cut) + refused_of cut
