-- Worked examples of what a side answers, which the definitions are to give.
use Rattle.std.specs.Prelude.{◌≡◌, Bool, true, [], ◌∷◌, None}
use Rattle.syn_model.specs.Path.{Bytes}
use Rattle.syn_model.specs.Rows.{a_name}
use Rattle.syn_model.specs.Refusal.{OldSession, NotStaged, BadStage, WrongPair, Halted, Memory}
use Rattle.syn_model.specs.Event.{Event, Began}
use Rattle.syn_machine.specs.Side.{Side, Request, Begin, Stage, Replace, Served, Begun, Staged}
use Rattle.syn_machine.specs.Side.{Refused, answer, serve}
use Rattle.syn_machine.specs.SideMachine.{serve_halted, ServesHalted}

-- a side of pair 7 that was just formatted, with room for all
abbrev pub new_side : Side
new_side = record { history = []; staging = None }

abbrev pub has_room : Event → Bool
has_room event = true

-- what it answers in session 1, staging for item 0 the spelling of a file with the byte `1`
abbrev pub asked : Side → Request → Served
asked side request = serve 7 has_room None side 1 request

abbrev pub file_bytes : Bytes
file_bytes = 1 ∷ 1 ∷ 164 ∷ 0 ∷ 0 ∷ 0 ∷ 1 ∷ 49 ∷ []

abbrev pub begun : Side
begun = (asked new_side (Begin 7)).side

abbrev pub staged : Side
staged = (asked begun (Stage 0 0 file_bytes)).side

abbrev pub staged_next : Side
staged_next = (asked staged (Stage 1 0 file_bytes)).side

pub record SideRows : Type 0 where
  pub begins : asked new_side (Begin 7) ≡ answer (record { history = Began 1 ∷ []; staging = None })
      (Begun 1)
  pub begins_again : asked begun (Begin 7) ≡ answer begun (Begun 1)
  pub wrong_pair : asked begun (Begin 8) ≡ answer begun (Refused WrongPair)
  pub earlier : serve 7 has_room None begun 0 (Begin 7) ≡ answer begun (Refused OldSession)
  pub stages : (asked begun (Stage 0 0 file_bytes)).reply ≡ Staged
  pub stages_again : asked staged (Stage 0 0 file_bytes) ≡ answer staged Staged
  pub gap : asked staged (Stage 0 9 file_bytes) ≡ answer staged (Refused BadStage)
  pub wrong_length : (asked staged (Replace 0 (a_name ∷ []) 1 7)).reply ≡ Refused BadStage
  pub next_from_middle : asked staged (Stage 1 1 file_bytes) ≡ answer staged (Refused NotStaged)
  pub next_stages : (asked staged (Stage 1 0 file_bytes)).reply ≡ Staged
  pub older : asked staged_next (Stage 0 0 file_bytes) ≡ answer staged_next (Refused OldSession)
  pub not_staged : (asked staged_next (Replace 2 (a_name ∷ []) 1 8)).reply ≡ Refused NotStaged
  pub halted : serve_halted begun 1 (Begin 7) ≡ answer begun (Refused Halted)
  pub halted_stages : serve_halted begun 1 (Stage 0 0 file_bytes) ≡ answer staged Staged
  pub halted_memory : ServesHalted begun 1 (Stage 0 0 file_bytes) (answer begun (Refused Memory))
