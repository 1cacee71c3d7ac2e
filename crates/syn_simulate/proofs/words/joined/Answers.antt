use Rattle.std.proofs.Common.{◌≡◌, ◌≤◌, ◌∙◌, ◌++◌, ◌∷◌, [], Bor, List, ℕ, ap, ap₂, sym, arith, drop}
use Rattle.std.proofs.Common.{get_or, length, take}
use Rattle.std.specs.List.{flat_map}
use Rattle.std.proofs.lemmas.List.{take_all}
use Rattle.syn_simulate.proofs.WordLemmas.{joined_is, others_of}
use Rattle.syn_simulate.proofs.words.joined.Goals as goal

pub returns : goal.returns
returns c =
    let words = c.args.words.now in
    let others = others_of 1 words in
    let ended : length (drop 1 words) ≤ c.loop-word.word-index = let e = ap length others in
    omega arith in
    let whole = take_all c.loop-word.word-index (drop 1 words) ended in
    let first : Bor (List ℕ) = get_or words 0 (record { ref_ptr = (0, 0); now = [] }) in
    let start : c.extend_from_slice.new.self.items ≡ first.now =
    c.in_ok-extend_from_slice.ensures.items
    ∙ ap (λ front. front ++ c.as_bytes.result.now) c.new-bytes.ensures.items
    ∙ c.as_bytes.ensures.value in
    c.loop-word.invariant ∙ ap₂ (λ (bytes : List ℕ) (ws : List (Bor (List ℕ))). bytes ++ flat_map
    (λ word. 32 ∷ word.now) ws) start (ap (take c.loop-word.word-index) others ∙ whole)
    ∙ sym (joined_is (λ (word : Bor (List ℕ)). word.now) 32 words
    (record { ref_ptr = (0, 0); now = [] }) (omega arith))
