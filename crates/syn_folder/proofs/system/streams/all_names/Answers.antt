use Rattle.std.proofs.Common.{ℕ, List, [], take, sym, ◌∙◌, subst}
use Rattle.std.proofs.Common.{append-nil, arith, refl}
use Rattle.std.specs.Io.KnownBytes.{Consumes}
use Rattle.syn_folder.proofs.StreamLemmas.{consumed_all, consumed_more, consumed_none}
use Rattle.syn_folder.proofs.system.streams.all_names.Goals as goal

pub loop-turn-init : goal.loop-turn-init
loop-turn-init g c =
    let known = g.D.Read.remaining c.args.dir in
    record {
      consumed = subst (λ (xs : List ℕ). Consumes known known xs) (sym c.new-names.ensures.items)
          (consumed_none known);
      room = refl;
    }

pub loop-turn-preserved : goal.loop-turn-preserved
loop-turn-preserved g c =
    let first = g.D.Read.remaining c.args.dir in
    let known = g.D.Read.remaining c.loop-turn.dir in
    let rest = g.D.Read.remaining c.read.new.self in
    record {
      consumed = subst (λ (xs : List ℕ). Consumes first rest xs) (sym
          c.in_ok-extend_from_slice.ensures.items)
          (consumed_more first known rest c.loop-turn.names.items (take c.in_ok-count.count
          c.read.new.buf)
          c.loop-turn.invariant.consumed c.in_ok-count.ensures.bytes.0);
      room = c.read.auto.buf ∙ c.loop-turn.invariant.room;
    }

pub returns-then-count-eq0 : goal.returns-then-count-eq0
returns-then-count-eq0 g c =
    let first = g.D.Read.remaining c.args.dir in
    let known = g.D.Read.remaining c.loop-turn.dir in
    let rest = g.D.Read.remaining c.read.new.self in
    let names = c.loop-turn.names.items in
    let none = subst (λ (n : ℕ). Consumes known rest (take n c.read.new.buf)) c.if-count-eq0.true
    c.in_ok-count.ensures.bytes.0 in
    let all = subst (λ (xs : List ℕ). Consumes first rest xs) (append-nil names)
    (consumed_more first known rest names [] c.loop-turn.invariant.consumed none) in
    consumed_all first rest names all (c.in_ok-count.ensures.bytes.1 c.if-count-eq0.true
    (omega (arith, c.read.auto.buf, c.loop-turn.invariant.room)))
