use Rattle.std.proofs.Common.{◌≡◌, ◌∙◌, ap, ap₂, sym}
use Rattle.syn_model.specs.Path.{is_prefix}
use Rattle.syn_path.proofs.PathLemmas.{is_prefix-starts_with, prefix_from_test}
use Rattle.syn_path.proofs.path.Path.is_prefix.Goals as goal
use Rattle.syn_model.proofs.PathLemmas.{prefix-append}

pub returns-clause-value : goal.returns-clause-value
returns-clause-value c =
    c.starts_with.ensures.value
    ∙ is_prefix-starts_with c.as_slice-2.result.now c.as_slice.result.now ∙ ap₂ is_prefix
    (c.as_slice-2.ensures.value ∙ c.self.view_is) (c.as_slice.ensures.value ∙ c.other.view_is)

pub returns-clause-means : goal.returns-clause-means
returns-clause-means c =
    let value : c.starts_with.result ≡ is_prefix c.args.self.now c.args.other.now =
    returns-clause-value c in (
      (λ h. prefix_from_test c.args.self.now c.args.other.now (sym value ∙ h)),
      (λ h. value
          ∙ ap (is_prefix c.args.self.now) (sym h.1) ∙ prefix-append c.args.self.now h.0),
    )
