use Rattle.std.proofs.Common.{◌≡◌, ◌++◌, ◌∷◌, take}
use Rattle.std.specs.List.{flat_map}
use Rattle.syn_simulate.proofs.words.joined.Given as goal

abbrev pub invariant-loop-word : goal.invariant-loop-word
invariant-loop-word l =
    l.bytes.items ≡ l.initial.bytes.items
    ++ flat_map (λ word. 32 ∷ word.now) (take l.word-index l.others)
