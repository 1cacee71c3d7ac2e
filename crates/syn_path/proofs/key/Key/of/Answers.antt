use Rattle.std.proofs.Common.{sym, ap, ◌∙◌, subst, length}
use Rattle.syn_model.specs.Path.{path_key, parent}
use Rattle.syn_path.specs.Keys.{names_of, IsKey}
use Rattle.syn_path.proofs.KeyLemmas.{is_key, names_of-filled}
use Rattle.syn_path.proofs.key.Key.of.Goals as goal

pub invariant_of-result : goal.invariant_of-result
invariant_of-result c =
    let names = c.args.names.now in
    let made = c.spelling_of-len in
    subst (IsKey made.result.0 made.result.1) (sym made.ensures.start)
    (subst (λ n. IsKey made.result.0 n (length (path_key (parent names)))) (sym made.ensures.len)
    (subst (λ bytes. IsKey bytes (length (path_key names)) (length (path_key (parent names))))
    (sym made.ensures.bytes) (is_key names c.requires)))

pub returns : goal.returns
returns c =
    ap names_of c.spelling_of-len.ensures.bytes ∙ names_of-filled c.args.names.now c.requires
