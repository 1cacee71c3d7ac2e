use Rattle.std.proofs.Common.{◌∙◌, ◌∷◌, [], Bor, List, ℕ, arith, ap, map, take, drop, ◌-◌, length}
use Rattle.std.proofs.lemmas.Result.{IfErr-weaker}
use Rattle.syn_simulate.proofs.WordLemmas.{first_word}
use Rattle.syn_simulate.proofs.VerbLemmas.{nothing_said, no_verb}
use Rattle.syn_simulate.specs.Words.{Text}
use Rattle.syn_simulate.proofs.rows.read_words.Goals as goal

pub returns-in_default-read_verb-clause-bad : goal.returns-in_default-read_verb-clause-bad
returns-in_default-read_verb-clause-bad c =
    let words = c.args.words.now in
    let text = λ (word : Bor (List ℕ)). word.now in
    let d : Bor (List ℕ) = record { ref_ptr = (0, 0); now = [] } in
    rw (first_word text words d (omega arith))
    (λ e. no_verb _ _ c.in_default-read_verb.ensures.none)

pub returns-clause-bad : goal.returns-clause-bad
returns-clause-bad c =
    let words = c.args.words.now in
    let text = λ (word : Bor (List ℕ)). word.now in
    let d : Bor (List ℕ) = record { ref_ptr = (0, 0); now = [] } in
    let rest = map text (take (length words - 1) (drop 1 words)) in
    let parts = first_word text words d (omega arith)
    ∙ ap (λ (word : Text). word ∷ rest) c.in-Some.ensures.some in
    IfErr-weaker c.read_after_verb.result _ _
    (λ e bad why. rw parts (nothing_said _ _ (bad why))) c.read_after_verb.ensures.bad
