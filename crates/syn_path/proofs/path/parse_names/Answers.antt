use Rattle.std.proofs.Common.{◌≡◌, ◌++◌, ◌∷◌, [], arith, map, length, take, subst, sym, ◌∙◌, ap}
use Rattle.std.proofs.Math.Seq.{take-length}
use Rattle.std.proofs.lemmas.Result.{err_from_is_err_and}
use Rattle.std.proofs.lemmas.List.{map_more, get_or-map, length-map}
use Rattle.std.proofs.lemmas.List.Elements.{All-append, All-cons, All-nil}
use Rattle.syn_model.specs.Path.{IsName}
use Rattle.syn_path.proofs.path.parse_names.Goals as goal

pub returns-in_err-name-clause-bad : goal.returns-in_err-name-clause-bad
returns-in_err-name-clause-bad c =
    let p = err_from_is_err_and c.from_residual.result c.from_residual.ensures.1 in
    let bad = c.in_err-name.ensures.bad in
    rw (p.1, p.2) (λ is_bad names. bad is_bad
    (subst IsName (get_or-map (λ p. p.now) c.args.pieces.now c.loop-piece.piece-index (record
    { ref_ptr = (0, 0); now = [] }) [] c.loop-piece-test.true) (names c.loop-piece.piece-index
    [] (omega (arith, c.loop-piece-test.true, length-map c.args.pieces.now (λ p. p.now))))))

pub loop-piece-preserved : goal.loop-piece-preserved
loop-piece-preserved c =
    let pushed : c.push.new.self.items ≡ c.loop-piece.names.items ++ c.in_ok-name.name ∷ [] =
    c.in_ok-push.ensures.items in
    let named = c.in_ok-name.ensures.ok in
    record {
      so_far =
          rw (pushed, c.loop-piece.invariant.so_far, named.0) (sym (map_more
          (λ p. p.now) c.args.pieces.now c.loop-piece.piece-index _ c.loop-piece-test.true));
      lawful =
          rw pushed (All-append IsName c.loop-piece.names.items
          (c.in_ok-name.name ∷ []) c.loop-piece.invariant.lawful
          (All-cons IsName c.in_ok-name.name [] (rw named.0 named.1) (All-nil IsName)));
    }

pub loop-piece-init : goal.loop-piece-init
loop-piece-init c = record {
  so_far = c.new-names.ensures.items;
  lawful = rw c.new-names.ensures.items (All-nil IsName);
}

pub returns-clause-ok : goal.returns-clause-ok
returns-clause-ok c =
    let ended : c.loop-piece.piece-index ≡ length c.args.pieces.now =
    omega (arith, c.loop-piece-test.false, c.loop-piece.auto.piece-index-end) in (
      c.loop-piece.invariant.so_far
          ∙ ap (map (λ p. p.now)) (ap (λ n. take n c.args.pieces.now) ended
          ∙ take-length c.args.pieces.now),
      c.loop-piece.invariant.lawful,
    )
