-- A run of edits and replacements, as the definitions have it.
use Rattle.std.specs.Prelude.{◌≡◌, List, [], ◌∷◌, Option, Some, None}
use Rattle.syn_model.specs.Tree.{Tree, replace}
use Rattle.syn_model.specs.Event.{after_edit}
use Rattle.syn_model.specs.Refusal.{Refusal}
use Rattle.syn_model.specs.Standing.{edit_refusal}
use Rattle.syn_tree.specs.Edits.{edit_of}
use Rattle.syn_tree.specs.Lists.{replace_refusal}
use Rattle.syn_tree.specs.Nodes.{part_of}
use Rattle.syn_tree.specs.Refusals.{refusal_of}
use Rattle.syn_tree.specs.declared.error.TreeError.{TreeError}
use Rattle.syn_tree.specs.declared.error.TreeError.TheVariants as why
use Rattle.syn_tree.specs.declared.turn.Turn.{Turn}
use Rattle.syn_tree.specs.declared.turn.Turn.TheVariants.{Edit, Replace}

-- why the turn is refused, if it is
abbrev pub turn_refusal : Tree → Turn → Option Refusal
turn_refusal tree (Edit edit) = edit_refusal tree (edit_of edit)
turn_refusal tree (Replace path new) = replace_refusal tree path (part_of new)

-- the tree with the turn made
abbrev pub after_turn : Tree → Turn → Tree
after_turn tree (Edit edit) = after_edit tree (edit_of edit)
after_turn tree (Replace path new) = replace tree path (part_of new)

-- The answer is right: none where the turn is made, else the definition's refusal. For lack of
-- memory any turn may be refused.
abbrev pub IsAnswer : Tree → Turn → Option TreeError → Type 0
IsAnswer tree turn None = turn_refusal tree turn ≡ None
IsAnswer tree turn (Some why.Memory) = Unit {0}
IsAnswer tree turn (Some error) = turn_refusal tree turn ≡ Some (refusal_of error)

-- a refused turn leaves the tree as it was
abbrev pub after_answer : Tree → Turn → Option TreeError → Tree
after_answer tree turn None = after_turn tree turn
after_answer tree turn (Some error) = tree

-- the turns, one after the other, lead from the old tree to the new one with these answers
abbrev pub Goes : Tree → List Turn → List (Option TreeError) → Tree → Type 0
Goes old [] [] new = new ≡ old
Goes old (turn ∷ turns) (answer ∷ answers) new =
    IsAnswer old turn answer × Goes (after_answer old turn answer) turns answers new
Goes old [] (answer ∷ answers) new = ⊥
Goes old (turn ∷ turns) [] new = ⊥

-- no turn was refused for lack of memory
abbrev pub HasMemory : List (Option TreeError) → Type 0
HasMemory [] = Unit {0}
HasMemory (Some why.Memory ∷ answers) = ⊥
HasMemory (answer ∷ answers) = HasMemory answers

-- Two runs of the same turns from equal trees, which had memory, answer alike and end equal.
abbrev pub RunsAgree : Type 0
RunsAgree = (old left right : Tree) (turns : List Turn) (answers others : List (Option TreeError)) →
    Goes old turns answers left → Goes old turns others right → HasMemory answers →
    HasMemory others → (answers ≡ others) × (left ≡ right)
