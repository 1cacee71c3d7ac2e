-- Runs of turns: one turn more, and two runs of the same turns.
use Rattle.std.proofs.Common.{◌≡◌, List, [], ◌∷◌, ◌++◌, refl, sym, ap, ap₂, ◌∙◌, subst, Option}
use Rattle.std.proofs.Common.{Some, None, option_map}
use Rattle.syn_model.specs.Tree.{Tree}
use Rattle.syn_model.specs.Refusal.{Refusal}
use Rattle.syn_model.specs.Refusal as cause
use Rattle.syn_tree.specs.Refusals.{refusal_of}
use Rattle.syn_tree.specs.declared.error.TreeError.{TreeError}
use Rattle.syn_tree.specs.declared.error.TreeError.TheVariants.{NoParent, IsDirectory, Exists}
use Rattle.syn_tree.specs.declared.error.TreeError.TheVariants.{Absent, Root, Full, Memory}
use Rattle.syn_tree.specs.declared.turn.Turn.{Turn}
use Rattle.syn_tree.specs.Turns.{turn_refusal, IsAnswer, after_answer, Goes, HasMemory, RunsAgree}

-- one turn more
pub goes_more : (old mid new : Tree) (turns : List Turn) (answers : List (Option TreeError))
    (turn : Turn) (answer : Option TreeError) → Goes old turns answers mid →
    IsAnswer mid turn answer → new ≡ after_answer mid turn answer →
    Goes old (turns ++ turn ∷ []) (answers ++ answer ∷ []) new
goes_more old mid new [] [] turn answer h right is =
    (subst (λ t. IsAnswer t turn answer) h right, is ∙ ap (λ t. after_answer t turn answer) h)
goes_more old mid new [] (a ∷ answers) turn answer h right is = absurd h
goes_more old mid new (t ∷ turns) [] turn answer h right is = absurd h
goes_more old mid new (t ∷ turns) (a ∷ answers) turn answer h right is = (
  h.0,
  goes_more (after_answer old t a) mid new turns answers turn answer h.1 right is,
)

first_memory : (a : Option TreeError) (rest : List (Option TreeError)) → HasMemory (a ∷ rest) →
    HasMemory (a ∷ []) × HasMemory rest
first_memory None rest h = (tt, h)
first_memory (Some NoParent) rest h = (tt, h)
first_memory (Some IsDirectory) rest h = (tt, h)
first_memory (Some Exists) rest h = (tt, h)
first_memory (Some Absent) rest h = (tt, h)
first_memory (Some Root) rest h = (tt, h)
first_memory (Some Full) rest h = (tt, h)
first_memory (Some Memory) rest h = absurd h

-- with memory the answer is the definition's
told : (tree : Tree) (turn : Turn) (a : Option TreeError) → IsAnswer tree turn a →
    HasMemory (a ∷ []) → turn_refusal tree turn ≡ option_map refusal_of a
told tree turn None h m = h
told tree turn (Some NoParent) h m = h
told tree turn (Some IsDirectory) h m = h
told tree turn (Some Exists) h m = h
told tree turn (Some Absent) h m = h
told tree turn (Some Root) h m = h
told tree turn (Some Full) h m = h
told tree turn (Some Memory) h m = absurd m

-- each error has a refusal of its own
error_of : Option Refusal → Option TreeError
error_of None = None
error_of (Some cause.NoParent) = Some NoParent
error_of (Some cause.IsDirectory) = Some IsDirectory
error_of (Some cause.Exists) = Some Exists
error_of (Some cause.Absent) = Some Absent
error_of (Some cause.Root) = Some Root
error_of (Some cause.Full) = Some Full
error_of (Some other) = Some Memory

back : (a : Option TreeError) → error_of (option_map refusal_of a) ≡ a
unfolding error_of
back None = refl
back (Some NoParent) = refl
back (Some IsDirectory) = refl
back (Some Exists) = refl
back (Some Absent) = refl
back (Some Root) = refl
back (Some Full) = refl
back (Some Memory) = refl

same_answer : (tree : Tree) (turn : Turn) (a b : Option TreeError) → IsAnswer tree turn a →
    IsAnswer tree turn b → HasMemory (a ∷ []) → HasMemory (b ∷ []) → a ≡ b
same_answer tree turn a b h k m n =
    sym (back a) ∙ (ap error_of (sym (told tree turn a h m) ∙ told tree turn b k n) ∙ back b)

pub runs_agree : RunsAgree
runs_agree old left right [] [] [] h k m n = (refl, h ∙ sym k)
runs_agree old left right [] [] (b ∷ others) h k m n = absurd k
runs_agree old left right [] (a ∷ answers) others h k m n = absurd h
runs_agree old left right (t ∷ turns) [] others h k m n = absurd h
runs_agree old left right (t ∷ turns) (a ∷ answers) [] h k m n = absurd k
runs_agree old left right (t ∷ turns) (a ∷ answers) (b ∷ others) h k m n =
    let some = first_memory a answers m in
    let more = first_memory b others n in
    let same = same_answer old t a b h.0 k.0 some.0 more.0 in
    let rest = runs_agree (after_answer old t a) left right turns answers others h.1
    (subst (λ x. Goes (after_answer old t x) turns others right) (sym same) k.1) some.1 more.1 in
    (ap₂ (λ x xs. x ∷ xs) same rest.0, rest.1)
