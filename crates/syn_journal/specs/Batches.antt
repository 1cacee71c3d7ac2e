-- Many payloads that are added at once.
use Rattle.std.specs.Prelude.{◌≡◌, ◌-◌, ◌++◌, ◌∷◌, [], ℕ, List, length, map}
use Rattle.std.specs.Global.{Vec}
use Rattle.syn_journal.specs.Layout.{Value, bytes_left, records_of}

-- the bytes of each payload
abbrev pub bytes_of_each : List (Vec ℕ) → List (List ℕ)
bytes_of_each payloads = map (λ payload. payload.items) payloads

-- the value with these payloads after its own
abbrev pub with_payloads : Value → List (List ℕ) → Value
with_payloads value payloads = record value { payloads = value.payloads ++ payloads }

-- how many bytes their records take
abbrev pub records_size : List (List ℕ) → ℕ
records_size payloads = length (records_of payloads)

-- how many device calls add them
abbrev pub calls_for : {X : Type 0} → List X → ℕ
calls_for [] = 0
calls_for (payload ∷ payloads) = 4

-- they leave as many bytes less as their records take
abbrev pub LeftBehindPayloads : Type 0
LeftBehindPayloads = (value : Value) (payloads : List (List ℕ))
    → bytes_left (with_payloads value payloads) ≡ bytes_left value - records_size payloads
