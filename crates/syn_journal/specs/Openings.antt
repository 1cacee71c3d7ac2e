-- What an opening reads of a disk, and why it is refused.
use Rattle.std.specs.Prelude.{◌≡◌, ◌⊎◌, ℕ, List, map, Ok}
use Rattle.std.specs.Global.{Vec}
use Rattle.syn_journal.specs.Layout.{Value, meaning}
use Rattle.syn_journal.specs.Refusals.{IsOpenRefusal, refusal_of}
use Rattle.syn_journal.specs.declared.error.JournalError.{JournalError}
use Rattle.syn_model.specs.Refusal.{Refusal}

abbrev pub bytes_of_each : List (Vec ℕ) → List (List ℕ)
bytes_of_each payloads = map (λ payload. payload.items) payloads

-- the journal on the disk gives this state
pub record DiskGives {S : Type 0} (gives : List ℕ → List (List ℕ) → S → Type 0)
    (bytes : List ℕ) (state : S) : Type 0 where
  pub value : Value
  pub means : meaning bytes ≡ Ok value
  pub given : gives value.image value.payloads state

-- it is how a refusal of the journal is answered
abbrev pub IsOfJournal : {E : Type 0} → (JournalError → E) → (E → Refusal) → E → Type 0
IsOfJournal of_journal why error =
    (by : JournalError) × (error ≡ of_journal by) × (why error ≡ refusal_of by)

-- the journal is refused so, or the value that it has is not read
abbrev pub NotOpened : {E : Type 0} → (JournalError → E) → (List ℕ → List (List ℕ) → Type 0) → E →
    List ℕ → Type 0
NotOpened of_journal IsUnread error bytes =
    ((by : JournalError) × (error ≡ of_journal by) × IsOpenRefusal by (meaning bytes))
    ⊎ ((value : Value) × (meaning bytes ≡ Ok value) × IsUnread value.image value.payloads)
