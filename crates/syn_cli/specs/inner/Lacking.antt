-- Why a word and its values are no command.
use Rattle.std.specs.Prelude.{◌≡◌, ◌≢◌, ◌⊎◌, List, [], ◌∷◌, None}
use Rattle.clap.specs.Words.{Row, Text, first_of}
use Rattle.syn_cli.specs.Reads.{HasValues, IsWrong, verb_of}
use Rattle.syn_cli.specs.Verbs.{name_of, values_of, word_of}
use Rattle.syn_cli.specs.declared.error.WordsError.{WordsError}
use Rattle.syn_cli.specs.declared.error.WordsError.TheVariants.{Value}
use Rattle.syn_cli.specs.declared.command.Command.{Command}
use Rattle.syn_cli.specs.declared.value.ValueName.{ValueName}
use Rattle.syn_cli.specs.declared.value.ValueName.TheVariants as value
use Rattle.syn_cli.specs.declared.verb.Verb.{Verb}

-- the command is this one, with the values that are given
abbrev pub IsCommandOf : Verb → List Row → Command → Type 0
IsCommandOf verb rows command = (verb_of command ≡ verb) × HasValues rows command

abbrev pub IsOneOf : ValueName → List ValueName → Type 0
IsOneOf told [] = ⊥
IsOneOf told (value ∷ values) = (told ≡ value) ⊎ IsOneOf told values

-- the value is required by the command, and no text is given for it
abbrev pub IsMissing : Verb → List Row → ValueName → Type 0
IsMissing verb rows told = IsOneOf told (values_of verb) × (first_of (name_of told) rows ≡ None)

abbrev pub IsLacking : Verb → List Row → ValueName → Type 0
IsLacking verb rows told = IsMissing verb rows told ⊎ IsWrong verb rows told

-- the error tells a value that the command lacks
abbrev pub IsLack : Verb → List Row → WordsError → Type 0
IsLack verb rows (Value told) = IsLacking verb rows told
IsLack verb rows _ = ⊥

abbrev pub IsUnknown : Text → Type 0
IsUnknown name = (verb : Verb) → name ≢ word_of verb

-- the same of a name: it is no command's, or that of the command that lacks the value
abbrev pub LacksIn : Text → List Row → ValueName → Type 0
LacksIn name rows told = ((told ≡ value.Command) × IsUnknown name)
    ⊎ ((verb : Verb) × (name ≡ word_of verb) × IsLacking verb rows told)

abbrev pub IsLackOf : Text → List Row → WordsError → Type 0
IsLackOf name rows (Value told) = LacksIn name rows told
IsLackOf name rows _ = ⊥
