use Rattle.std.proofs.Common.{◌++◌, ◌∙◌, sym, ap₂, subst}
use Rattle.syn_model.specs.Path.{IsPath}
use Rattle.syn_path.proofs.KeyLemmas.{key-append}
use Rattle.syn_path.proofs.DerivedKeyLemmas.{is_spelling}
use Rattle.syn_path.proofs.KeyLemmas.{names_of-key}
use Rattle.syn_path.proofs.key.Key.under.Goals as goal

pub of_bytes-requires : goal.of_bytes-requires
of_bytes-requires c =
    let spelled = ap₂ (λ a b. a ++ b) c.spelled.ensures.bytes c.spelled-2.ensures.bytes
    ∙ sym (key-append c.args.above.now c.args.self.now) in
    is_spelling _ _ _ (c.fits_under.ensures.0 c.if-not-fits_under.false) spelled
    c.start_under-start.ensures

pub returns-clause-some : goal.returns-clause-some
returns-clause-some c =
    let spelled = ap₂ (λ a b. a ++ b) c.spelled.ensures.bytes c.spelled-2.ensures.bytes
    ∙ sym (key-append c.args.above.now c.args.self.now) in
    let lawful = c.fits_under.ensures.0 c.if-not-fits_under.false in
    let is = c.of_bytes.ensures ∙ names_of-key _ _ lawful spelled in
    (is, subst IsPath (sym is) lawful)
