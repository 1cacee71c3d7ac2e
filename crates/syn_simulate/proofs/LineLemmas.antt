-- Lines, as lists of steps.
use Rattle.std.proofs.Common.{List, [], ◌∷◌, ◌++◌, refl, sym, ap, ◌∙◌, subst}
use Rattle.std.proofs.lemmas.List.{append-nil, append_assoc}
use Rattle.syn_runs.specs.World.{Step}
use Rattle.syn_simulate.specs.Lines.{Begins, Plays, PlaysAll, PlaysLine, Said, Says, ToDrain, said}
use Rattle.syn_simulate.specs.States.{Moves, State}
use Rattle.syn_simulate.proofs.MoveLemmas.{lowest_moves, moves_on}
use Rattle.syn_simulate.specs.declared.line.Line.{Line}

pub plays_moves : (what : Said) (old new : State) (steps : List Step) → Plays what old steps new
    → Moves old steps new
plays_moves (Says all) old new steps plays = plays.1
plays_moves ToDrain old new steps drains = lowest_moves old new steps drains.lowest

pub begins_moves : (what : Said) (old new : State) (made : List Step) → Begins what old made new
    → Moves old made new
begins_moves (Says all) old new made begins = begins.2
begins_moves ToDrain old new made begins = lowest_moves old new made begins.0

pub all_moves : (lines : List Line) (old new : State) (steps : List Step)
    → PlaysAll lines old steps new → Moves old steps new
all_moves [] old new steps (none, same) = subst (λ s. Moves old s new) (sym none) same
all_moves (line ∷ lines) old new steps (first, rest, between, joined, plays, others) =
    subst (λ s. Moves old s new) joined
    (moves_on old between new first rest (plays_moves (said line) old between first plays)
    (all_moves lines between new rest others))

-- one line more
pub all_on : (lines : List Line) (line : Line) (old middle new : State) (made more : List Step)
    → PlaysAll lines old made middle → PlaysLine line middle more new
    → PlaysAll (lines ++ line ∷ []) old (made ++ more) new
all_on [] line old middle new made more (none, same) plays = (
  more,
  [],
  new,
  append-nil more ∙ sym (ap (λ s. s ++ more) none),
  subst (λ s. PlaysLine line s more new) same plays,
  (refl, refl),
)
all_on (one ∷ lines) line old middle new made more (first, rest, between, joined, begins, others)
    plays = (
      first,
      rest ++ more,
      between,
      sym (append_assoc first rest more) ∙ ap (λ s. s ++ more) joined,
      begins,
      all_on lines line between middle new rest more others plays,
    )
