-- The rows of the table of steps, each by its first word and the words after it.
use Rattle.std.specs.Prelude.{◌≡◌, List, [], ◌∷◌, Option, None, Some, codes}
use Rattle.std.specs.Str.{IsUtf8}
use Rattle.syn_path.specs.declared.error.PathError.{PathError}
use Rattle.syn_path.specs.declared.error.PathError.TheVariants as path
use Rattle.syn_simulate.specs.Scripts.{IsSilent}
use Rattle.syn_simulate.specs.Words.{IsNumber, Say, SayEdit, SayRange, Says, Text, leaves_word}
use Rattle.syn_simulate.specs.Words.{machine_word, side_word}
use Rattle.syn_simulate.specs.declared.parse_error.LineError.{LineError}
use Rattle.syn_simulate.specs.declared.parse_error.LineError.TheVariants as why
use Rattle.syn_simulate.specs.declared.line.Line.{Line}
use Rattle.syn_simulate.specs.declared.line.Line.TheVariants as has
use Rattle.syn_simulate.specs.declared.verb.Verb.{Verb}
use Rattle.syn_simulate.specs.declared.verb.Verb.TheVariants as verb
use Rattle.syn_tree.specs.declared.edit.Edit.{Edit}

abbrev pub line_error : PathError → LineError
line_error path.BadPath = why.Nothing
line_error path.Memory = why.Memory

abbrev pub verb_word : Verb → Text
verb_word verb.Edit = codes "edit"
verb_word verb.Start = codes "start"
verb_word verb.Tick = codes "tick"
verb_word verb.Deliver = codes "deliver"
verb_word verb.Drain = codes "drain"
verb_word verb.Checkpoint = codes "checkpoint"
verb_word verb.Fail = codes "fail"
verb_word verb.Stop = codes "stop"
verb_word verb.Open = codes "open"
verb_word verb.Reopen = codes "reopen"

-- the words after the first say the step
abbrev pub SayAfter : Verb → List Text → Line → Type 0
SayAfter verb.Edit words (has.Edit side user edit) = (number : Text) × (rest : List Text)
    × (words ≡ side_word side ∷ number ∷ rest) × IsNumber 32 number user × SayEdit rest edit
SayAfter verb.Start words (has.Start None) = words ≡ []
SayAfter verb.Start words (has.Start (Some side)) = words
    ≡ codes "prefer" ∷ side_word side ∷ []
SayAfter verb.Tick words has.Tick = words ≡ []
SayAfter verb.Deliver words (has.Deliver first last) = SayRange words first last
SayAfter verb.Drain words has.Drain = words ≡ []
SayAfter verb.Checkpoint words (has.Checkpoint m) = words ≡ machine_word m ∷ []
SayAfter verb.Fail words (has.Fail m call) = (number : Text)
    × (words ≡ machine_word m ∷ number ∷ []) × IsNumber 64 number call
SayAfter verb.Stop words (has.Stop m call leaves) = (number : Text)
    × (words ≡ machine_word m ∷ number ∷ leaves_word leaves ∷ []) × IsNumber 64 number call
SayAfter verb.Open words (has.Open m) = words ≡ machine_word m ∷ []
SayAfter verb.Reopen words (has.Reopen m) = words ≡ machine_word m ∷ []
SayAfter other words line = ⊥

-- the words after the first say no step
abbrev pub NothingAfter : Verb → List Text → Type 0
NothingAfter first words = (line : Line) → ¬ SayAfter first words line

-- the words say no edit
abbrev pub NoEdit : List Text → Type 0
NoEdit words = (edit : Edit) → ¬ SayEdit words edit

-- the words say no step
abbrev pub NothingSaid : List Text → Type 0
NothingSaid words = (line : Line) → ¬ Say words line

-- the line says the step, or is silent where there is none
abbrev pub SaysMaybe : Text → Option Line → Type 0
SaysMaybe line None = IsUtf8 line × IsSilent line
SaysMaybe line (Some step) = IsUtf8 line × Says line step
