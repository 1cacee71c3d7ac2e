-- Which steps a script says, and which line of it is at fault.
use Rattle.std.specs.Prelude.{◌≡◌, ◌==◌, ◌⊎◌, ◌+◌, ◌++◌, ℕ, List, [], ◌∷◌, length, All}
use Rattle.std.specs.List.{slice_split}
use Rattle.std.specs.Str.{IsUtf8}
use Rattle.syn_simulate.specs.Words.{Says, Text}
use Rattle.syn_simulate.specs.declared.line.Line.{Line}

-- The lines of a text, which line feeds part. After a last line feed this has an empty line more,
-- which says nothing.
abbrev pub lines_of : Text → List Text
lines_of text = slice_split (λ b. b == 10) text

-- the line is empty, or begins with `#`
abbrev pub IsSilent : Text → Type 0
IsSilent [] = Unit {0}
IsSilent (b ∷ bs) = b ≡ 35

-- the lines say these steps, in their order
abbrev pub SaySteps : List Text → List Line → Type 0
SaySteps [] steps = steps ≡ []
SaySteps (line ∷ lines) steps = IsUtf8 line × ((IsSilent line × SaySteps lines steps)
    ⊎ ((step : Line) × (rest : List Line) × (steps ≡ step ∷ rest) × Says line step
    × SaySteps lines rest))

-- the line is UTF-8, and says a step or nothing
abbrev pub IsFit : Text → Type 0
IsFit line = IsUtf8 line × (IsSilent line ⊎ ((step : Line) × Says line step))

-- the line with this number, counted from 1, is the first that is at fault
pub record IsFirstFault (lines : List Text) (number : ℕ) : Type 0 where
  pub before : List Text
  pub line : Text
  pub after : List Text
  pub parts : lines ≡ before ++ line ∷ after
  pub counted : number ≡ length before + 1
  pub fit : All IsFit before
  pub unfit : ¬ IsFit line
