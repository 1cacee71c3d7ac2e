-- What a line of a script says, by its words.
use Rattle.std.specs.Prelude.{◌≡◌, ◌==◌, ◌<◌, ◌^◌, ◌⊎◌, ℕ, List, [], ◌∷◌, codes, Some, None}
use Rattle.std.specs.List.{slice_split, join_with_byte}
use Rattle.std.specs.Str.Parse.{IsNumeral, digits_value}
use Rattle.syn_disk.specs.declared.simulated.leaves.Leaves.{Leaves}
use Rattle.syn_disk.specs.declared.simulated.leaves.Leaves.TheVariants.{Lose, Keep, Noise}
use Rattle.syn_path.specs.declared.side.Side.{Side}
use Rattle.syn_path.specs.declared.side.Side.TheVariants.{Left, Right}
use Rattle.syn_path.specs.Paths.{NamesPath}
use Rattle.syn_simulate.specs.declared.line.Line.{Line}
use Rattle.syn_simulate.specs.declared.line.Line.TheVariants.{Edit, Start, Tick, Deliver, Drain}
use Rattle.syn_simulate.specs.declared.line.Line.TheVariants.{Checkpoint, Fail, Stop, Open, Reopen}
use Rattle.syn_world.specs.declared.machine.Machine.{Machine}
use Rattle.syn_world.specs.declared.machine.Machine.TheVariants as machine
use Rattle.syn_tree.specs.Modes.{mode_digits, mode_of}
use Rattle.syn_tree.specs.declared.edit.Edit.{Edit as Change}
use Rattle.syn_tree.specs.declared.edit.Edit.TheVariants.{Put, MakeDir, Remove, Chmod}

abbrev pub Text : Type 0
Text = List ℕ

-- the words of a line, which one space parts
abbrev pub words_of : Text → List Text
words_of line = slice_split (λ b. b == 32) line

-- the word is decimal digits that spell n, a number of so many bits
pub record IsNumber (bits : ℕ) (word : Text) (n : ℕ) : Type 0 where
  pub digits : IsNumeral 10 word
  pub value : digits_value 10 word ≡ n
  pub fits : n < 2 ^ bits

abbrev pub side_word : Side → Text
side_word Left = codes "left"
side_word Right = codes "right"

abbrev pub machine_word : Machine → Text
machine_word (machine.Side side) = side_word side
machine_word machine.Coordinator = codes "coordinator"

-- the word of what a stop leaves
abbrev pub leaves_word : Leaves → Text
leaves_word Lose = codes "lose"
leaves_word Keep = codes "keep"
leaves_word Noise = codes "noise"

-- The words say the edit. The text of a file is the rest of the line, with the spaces in it.
abbrev pub SayEdit : List Text → Change → Type 0
SayEdit words (Put path bytes) = (name : Text) × (text : List Text)
    × (words ≡ codes "put" ∷ name ∷ text) × NamesPath name path
    × (bytes.items ≡ join_with_byte 32 text)
SayEdit words (MakeDir path) = (name : Text) × (words ≡ codes "mkdir" ∷ name ∷ [])
    × NamesPath name path
SayEdit words (Remove path) = (name : Text) × (words ≡ codes "rm" ∷ name ∷ [])
    × NamesPath name path
SayEdit words (Chmod path mode) = (name : Text)
    × (words ≡ codes "chmod" ∷ name ∷ mode_digits (mode_of mode) ∷ []) × NamesPath name path

-- The words say from which message to which: one number is both.
abbrev pub SayRange : List Text → ℕ → ℕ → Type 0
SayRange words first last = (a : Text) × IsNumber 64 a first
    × (((words ≡ a ∷ []) × (last ≡ first))
    ⊎ ((b : Text) × (words ≡ a ∷ b ∷ []) × IsNumber 64 b last))

-- the words say the step
abbrev pub Say : List Text → Line → Type 0
Say words (Edit side user edit) = (number : Text) × (rest : List Text)
    × (words ≡ codes "edit" ∷ side_word side ∷ number ∷ rest) × IsNumber 32 number user
    × SayEdit rest edit
Say words (Start None) = words ≡ codes "start" ∷ []
Say words (Start (Some side)) = words ≡ codes "start" ∷ codes "prefer" ∷ side_word side ∷ []
Say words Tick = words ≡ codes "tick" ∷ []
Say words (Deliver first last) = (rest : List Text) × (words ≡ codes "deliver" ∷ rest)
    × SayRange rest first last
Say words Drain = words ≡ codes "drain" ∷ []
Say words (Checkpoint m) = words ≡ codes "checkpoint" ∷ machine_word m ∷ []
Say words (Fail m call) = (number : Text)
    × (words ≡ codes "fail" ∷ machine_word m ∷ number ∷ []) × IsNumber 64 number call
Say words (Stop m call leaves) = (number : Text)
    × (words ≡ codes "stop" ∷ machine_word m ∷ number ∷ leaves_word leaves ∷ [])
    × IsNumber 64 number call
Say words (Open m) = words ≡ codes "open" ∷ machine_word m ∷ []
Say words (Reopen m) = words ≡ codes "reopen" ∷ machine_word m ∷ []

-- the line says the step
abbrev pub Says : Text → Line → Type 0
Says line step = Say (words_of line) step
