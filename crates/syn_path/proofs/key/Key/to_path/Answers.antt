use Rattle.std.proofs.Common.{map, sym, ap, ◌∙◌, subst, arith}
use Rattle.std.specs.Prelude.{All, IsUtf8}
use Rattle.std.proofs.lemmas.List.Elements.{recursion_from_All}
use Rattle.syn_model.specs.Path.{IsName, IsPath}
use Rattle.syn_path.proofs.KeyLemmas.{key_text, names_cut}
use Rattle.syn_path.proofs.key.Key.to_path.Goals as goal

pub unreachable-requires : goal.unreachable-requires
unreachable-requires c =
    c.in_default.ensures.cases.0 (subst IsUtf8 (sym c.spelled.ensures.bytes)
    (key_text _ (recursion_from_All IsName _ c.spelled.ensures.lawful.names)))

pub unreachable-requires-in-Err-BadPath : goal.unreachable-requires-in-Err-BadPath
unreachable-requires-in-Err-BadPath c =
    let cut = names_cut c.args.self.now c.in-Ok.text.now c.in_ok-pieces.pieces.items
    c.pop.new.self.items c.in_ok-pieces.pieces.len c.spelled.ensures.lawful
    (c.in-Ok.ensures.cases.0 ∙ c.spelled.ensures.bytes) c.in_ok-pieces.ensures
    (omega (arith, c.in_ok-pieces.pieces.ok)) c.pop.ensures.rest in
    c.in-Err-BadPath.ensures.bad c.in-Err-BadPath.field-0-is (subst (All IsName)
    (sym (ap (map (λ p. p.now)) c.as_slice.ensures.value ∙ cut)) c.spelled.ensures.lawful.names)

pub unreachable-requires-in_default-from_names : goal.unreachable-requires-in_default-from_names
unreachable-requires-in_default-from_names c =
    let cut = names_cut c.args.self.now c.in-Ok.text.now c.in_ok-pieces.pieces.items
    c.pop.new.self.items c.in_ok-pieces.pieces.len c.spelled.ensures.lawful
    (c.in-Ok.ensures.cases.0 ∙ c.spelled.ensures.bytes) c.in_ok-pieces.ensures
    (omega (arith, c.in_ok-pieces.pieces.ok)) c.pop.ensures.rest in
    let names = c.in-Ok-parse_names.ensures.ok.0
    ∙ (ap (map (λ p. p.now)) c.as_slice.ensures.value ∙ cut) in
    c.in_default-from_names.ensures.bad.1 (subst IsPath (sym names) c.spelled.ensures.lawful)

pub returns : goal.returns
returns c =
    let cut = names_cut c.args.self.now c.in-Ok.text.now c.in_ok-pieces.pieces.items
    c.pop.new.self.items c.in_ok-pieces.pieces.len c.spelled.ensures.lawful
    (c.in-Ok.ensures.cases.0 ∙ c.spelled.ensures.bytes) c.in_ok-pieces.ensures
    (omega (arith, c.in_ok-pieces.pieces.ok)) c.pop.ensures.rest in
    c.in-Ok-from_names.ensures.ok.0
    ∙ (c.in-Ok-parse_names.ensures.ok.0 ∙ (ap (map (λ p. p.now)) c.as_slice.ensures.value ∙ cut))
