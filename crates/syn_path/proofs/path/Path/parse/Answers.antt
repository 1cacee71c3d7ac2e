use Rattle.std.proofs.Common.{rules, ◌≡◌, ◌≢◌, arith, map, codes, length, ap, sym, ◌∙◌, subst, eqb}
use Rattle.std.specs.List.{All, slice_split}
use Rattle.std.proofs.lemmas.List.{length-map}
use Rattle.std.proofs.lemmas.Result.{err_from_is_err_and}
use Rattle.syn_model.specs.Path.{IsName}
use Rattle.syn_path.proofs.PathLemmas.{pieces_of_named, named_by_pieces}
use Rattle.syn_path.proofs.path.Path.parse.Goals as goal

pub returns-then-len-gt-MOST_NAMES-clause-bad : goal.returns-then-len-gt-MOST_NAMES-clause-bad
returns-then-len-gt-MOST_NAMES-clause-bad c is_bad path named =
    let not_root : c.args.text.now ≢ codes "." = search rules in
    let cut = ap length
    (c.in_ok-pieces.ensures ∙ pieces_of_named c.args.text.now path not_root named) in
    let deep = named.lawful.not_deep in
    omega (
      arith,
      cut,
      deep,
      length-map c.in_ok-pieces.pieces.items (λ p. p.now),
      c.if-len-gt-MOST_NAMES.true,
      c.len.ensures,
    )

pub returns-in_err-names-clause-bad : goal.returns-in_err-names-clause-bad
returns-in_err-names-clause-bad c =
    let p = err_from_is_err_and c.from_residual-in_err-names.result
    c.from_residual-in_err-names.ensures.1 in
    let not_root : c.args.text.now ≢ codes "." = search rules in
    let bad = c.in_err-names.ensures.bad in
    rw (p.1, p.2) (λ is_bad path named. bad is_bad (subst (All IsName)
    (sym (ap (map (λ p. p.now)) c.as_slice.ensures.value ∙ c.in_ok-pieces.ensures
    ∙ pieces_of_named c.args.text.now path not_root named)) named.lawful.names))

pub invariant_of-result : goal.invariant_of-result
invariant_of-result c =
    let names = c.in_ok-names.ensures.ok in
    let cut : slice_split (λ b. eqb b 47) c.args.text.now ≡ c.in_ok-names.names.items =
    sym (names.0 ∙ ap (map (λ p. p.now)) c.as_slice.ensures.value ∙ c.in_ok-pieces.ensures) in
    (named_by_pieces c.args.text.now c.in_ok-names.names.items cut names.1 (let count =
    ap length names.0 in omega (
      arith,
      count,
      length-map c.as_slice.result.now (λ p. p.now),
      c.as_slice.ensures.len,
      c.if-len-gt-MOST_NAMES.false,
      c.len.ensures,
    )) c.if-text-gt-LONGEST_TEXT.false).lawful

pub returns-clause-ok : goal.returns-clause-ok
returns-clause-ok c =
    let names = c.in_ok-names.ensures.ok in
    let cut : slice_split (λ b. eqb b 47) c.args.text.now ≡ c.in_ok-names.names.items =
    sym (names.0 ∙ ap (map (λ p. p.now)) c.as_slice.ensures.value ∙ c.in_ok-pieces.ensures) in
    named_by_pieces c.args.text.now c.in_ok-names.names.items cut names.1 (let count =
    ap length names.0 in omega (
      arith,
      count,
      length-map c.as_slice.result.now (λ p. p.now),
      c.as_slice.ensures.len,
      c.if-len-gt-MOST_NAMES.false,
      c.len.ensures,
    )) c.if-text-gt-LONGEST_TEXT.false
