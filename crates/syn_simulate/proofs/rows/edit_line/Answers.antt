use Rattle.std.proofs.Common.{◌∙◌, ◌∷◌, [], Bor, List, ℕ, arith, ap, map, get_or, take, drop, ◌-◌}
use Rattle.std.proofs.Common.{length}
use Rattle.syn_simulate.proofs.WordLemmas.{two_words}
use Rattle.syn_simulate.proofs.rows.edit_line.Goals as goal

pub returns-clause-ok : goal.returns-clause-ok
returns-clause-ok c =
    let words = c.args.words.now in
    let text = λ (word : Bor (List ℕ)). word.now in
    let d : Bor (List ℕ) = record { ref_ptr = (0, 0); now = [] } in
    let rest = map text (take (length words - 2) (drop 2 words)) in (
      text (get_or words 1 d),
      rest,
      two_words text words d (omega arith)
          ∙ ap (λ (word : List ℕ). word ∷ text (get_or words 1 d) ∷ rest) c.in-Some.ensures.some,
      c.in-Some-user.ensures.some,
      c.in_ok-edit.ensures.ok,
    )
