use Rattle.std.proofs.Common.{drop, length, ap, ap₂, ◌∙◌, arith}
use Rattle.syn_model.specs.Path.{path_key, parent}
use Rattle.syn_path.proofs.KeyLemmas.{key_above, no_last, the_last}
use Rattle.syn_path.proofs.key.Key.last_name.Goals as goal

pub split_at-requires : goal.split_at-requires
split_at-requires c =
    omega (
      arith,
      key_above c.args.self.now,
      c.self.invariant.begun,
      ap (λ p. length (path_key (parent p))) c.self.view_is,
      ap length c.spelled.ensures.bytes,
    )

pub returns-in-empty-clause-name : goal.returns-in-empty-clause-name
returns-in-empty-clause-name c =
    let start = c.self.invariant.begun ∙ ap (λ p. length (path_key (parent p))) c.self.view_is in
    no_last c.args.self.now c.split_at.result.1.now
    (c.split_at.ensures.back ∙ ap₂ drop start c.spelled.ensures.bytes)
    c.in-empty.len_below

pub returns-in-len1-up : goal.returns-in-len1-up
returns-in-len1-up c =
    let start = c.self.invariant.begun ∙ ap (λ p. length (path_key (parent p))) c.self.view_is in
    let last = the_last c.args.self.now c.split_at.result.1.now c.spelled.ensures.lawful
    (c.split_at.ensures.back ∙ ap₂ drop start c.spelled.ensures.bytes)
    c.in-len1-up.len_at_least in
    record { name = last.0; lawful = last.1 }
