-- Laws of the lines of a script.
use Rattle.std.proofs.Common.{◌<◌, ◌∙◌, ◌+◌, ℕ, List, [], ◌∷◌, ◌++◌, inl, inr, length, map, drop}
use Rattle.std.proofs.Common.{get_or, take, refl, sym, ap, arith}
use Rattle.std.specs.Prelude.{All}
use Rattle.std.specs.Str.{IsUtf8}
use Rattle.std.proofs.lemmas.List.{append_assoc, length-map, length-take-le, map-append, map_more}
use Rattle.std.proofs.lemmas.List.{take-append-drop}
use Rattle.std.proofs.lemmas.List.Elements.{All-cons, All-nil}
use Rattle.syn_simulate.specs.Scripts.{IsFirstFault, IsFit, IsSilent, SaySteps}
use Rattle.syn_simulate.specs.Words.{Says, Text}
use Rattle.syn_simulate.specs.declared.line.Line.{Line}

-- a silent line more says no step more
pub say_silent : (lines : List Text) (steps : List Line) (line : Text) → SaySteps lines steps →
    IsUtf8 line → IsSilent line → SaySteps (lines ++ line ∷ []) steps
say_silent [] steps line said utf8 silent = (utf8, inl (silent, said))
say_silent (first ∷ lines) steps line said utf8 silent = (
  said.0,
  elim said.1 [
    | inl s ↦ inl (s.0, say_silent lines steps line s.1 utf8 silent)
    | inr s ↦ inr (s.0, s.1, s.2, s.3, say_silent lines s.1 line s.4 utf8 silent)
  ],
)

-- a line more says its step after the others
pub say_step : (lines : List Text) (steps : List Line) (line : Text) (step : Line) →
    SaySteps lines steps → IsUtf8 line → Says line step →
    SaySteps (lines ++ line ∷ []) (steps ++ step ∷ [])
say_step [] steps line step said utf8 says =
    (utf8, inr (step, [], ap (λ (ss : List Line). ss ++ step ∷ []) said, says, refl))
say_step (first ∷ lines) steps line step said utf8 says = (
  said.0,
  elim said.1 [
    | inl s ↦ inl (s.0, say_step lines steps line step s.1 utf8 says)
    | inr s ↦ inr (
      s.0,
      s.1 ++ step ∷ [],
      ap (λ (ss : List Line). ss ++ step ∷ []) s.2,
      s.3,
      say_step lines s.1 line step s.4 utf8 says,
    )
  ],
)

-- lines that say steps are fit
pub said_fit : (lines : List Text) (steps : List Line) → SaySteps lines steps → All IsFit lines
said_fit [] steps said = All-nil IsFit
said_fit (first ∷ lines) steps said = elim said.1 [
  | inl s ↦ All-cons IsFit first lines (said.0, inl s.0) (said_fit lines steps s.1)
  | inr s ↦ All-cons IsFit first lines (said.0, inr (s.0, s.3)) (said_fit lines s.1 s.4)
]

-- the first line that is not fit, after lines that say steps
pub first_fault : {W : Type 0} (text : W → Text) (lines : List W) (i : ℕ) (d : W)
    (steps : List Line) → i < length lines → SaySteps (map text (take i lines)) steps →
    ¬ IsFit (text (get_or lines i d)) → IsFirstFault (map text lines) (i + 1)
first_fault text lines i d steps l said unfit = record {
  before = map text (take i lines);
  line = text (get_or lines i d);
  after = map text (drop (i + 1) lines);
  parts =
      ap (map text) (sym (take-append-drop (i + 1) lines)) ∙ map-append text (take (i + 1) lines)
      (drop (i + 1) lines) ∙ ap (λ (front : List Text). front ++ map text (drop (i + 1) lines))
      (map_more text lines i d l) ∙ append_assoc (map text (take i lines))
      (text (get_or lines i d) ∷ []) (map text (drop (i + 1) lines));
  counted = omega (arith, length-map (take i lines) text, length-take-le i lines (omega arith));
  fit = said_fit (map text (take i lines)) steps said;
  unfit = unfit;
}

-- what lines say, and what one line more says
pub said_more : {W : Type 0} (text : W → Text) (lines : List W) (i : ℕ) (d : W) (steps : List Line)
    (step : Line) → i < length lines → SaySteps (map text (take i lines)) steps →
    IsUtf8 (text (get_or lines i d)) → Says (text (get_or lines i d)) step →
    SaySteps (map text (take (i + 1) lines)) (steps ++ step ∷ [])
said_more text lines i d steps step l said utf8 says =
    rw (map_more text lines i d l)
    (say_step (map text (take i lines)) steps (text (get_or lines i d)) step said utf8 says)

pub said_no_more : {W : Type 0} (text : W → Text) (lines : List W) (i : ℕ) (d : W)
    (steps : List Line) → i < length lines → SaySteps (map text (take i lines)) steps →
    IsUtf8 (text (get_or lines i d)) → IsSilent (text (get_or lines i d)) →
    SaySteps (map text (take (i + 1) lines)) steps
said_no_more text lines i d steps l said utf8 silent =
    rw (map_more text lines i d l)
    (say_silent (map text (take i lines)) steps (text (get_or lines i d)) said utf8 silent)
