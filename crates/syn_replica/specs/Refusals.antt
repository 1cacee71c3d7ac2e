-- Which refusals each call of a replica may answer.
use Rattle.std.specs.Prelude.{◌≡◌, ◌==◌, true, List, [], ◌∷◌}
use Rattle.std.specs.List.{list_any}
use Rattle.syn_model.specs.Refusal.{Refusal, number}
use Rattle.syn_model.specs.Refusal as why
use Rattle.syn_replica.specs.declared.error.ReplicaError.{ReplicaError}
use Rattle.syn_replica.specs.ErrorRefusals.{refusal_of}

-- the refusal is one of these
abbrev pub IsOneOf : List Refusal → ReplicaError → Type 0
IsOneOf refusals error = list_any (λ why. number why == number (refusal_of error)) refusals ≡ true

-- the refusals of each call
abbrev pub format_refusals : List Refusal
format_refusals = why.Memory ∷ why.Device ∷ []

abbrev pub reading_refusals : List Refusal
reading_refusals = why.Halted ∷ why.Absent ∷ why.Memory ∷ []

abbrev pub edit_refusals : List Refusal
edit_refusals =
    why.Halted ∷ why.Root ∷ why.NoParent ∷ why.IsDirectory ∷ why.Exists ∷ why.Absent ∷ why.Full
    ∷ why.JournalFull ∷ why.Memory ∷ why.Device ∷ []

abbrev pub begin_refusals : List Refusal
begin_refusals = why.Halted ∷ why.WrongPair ∷ why.OldSession ∷ why.Full ∷ why.JournalFull
    ∷ why.Memory ∷ why.Device ∷ []

abbrev pub check_begin_refusals : List Refusal
check_begin_refusals = why.Halted ∷ why.WrongPair ∷ why.OldSession ∷ why.Full ∷ []

abbrev pub fetch_refusals : List Refusal
fetch_refusals = why.Halted ∷ why.BelowFloor ∷ why.Touched ∷ why.Memory ∷ []

abbrev pub replace_refusals : List Refusal
replace_refusals =
    why.Halted ∷ why.OldSession ∷ why.BelowFloor ∷ why.Touched ∷ why.Root ∷ why.NoParent ∷ why.Full
    ∷ why.JournalFull ∷ why.Memory ∷ why.Device ∷ []

abbrev pub checkpoint_refusals : List Refusal
checkpoint_refusals = why.Halted ∷ why.Full ∷ why.Memory ∷ why.Device ∷ []

-- the refusals of an opening of a disk of another pair: its own, and those that come first
abbrev pub hiding_refusals : List Refusal
hiding_refusals = why.WrongPair ∷ why.Device ∷ why.Memory ∷ []

-- and of a disk whose image is of version 1
abbrev pub old_refusals : List Refusal
old_refusals = why.OldVersion ∷ why.Device ∷ why.Memory ∷ []

-- and of a migration of one whose generation is the greatest
abbrev pub greatest_refusals : List Refusal
greatest_refusals = why.Full ∷ why.Damaged ∷ why.Device ∷ why.Memory ∷ []

-- and of one that stands for a history: for its generation, and for what no history is the cause of
abbrev pub lawful_refusals : List Refusal
lawful_refusals = why.Full ∷ why.Device ∷ why.Memory ∷ []

-- what no history is the cause of: lack of memory, and a device call that failed
abbrev pub outside_refusals : List Refusal
outside_refusals = why.Memory ∷ why.Device ∷ []
