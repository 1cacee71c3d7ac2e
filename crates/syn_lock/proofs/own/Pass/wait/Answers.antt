use Rattle.std.proofs.Common.{◌≡◌, ◌∙◌, ap, sym, refl, subst, ℕ, ◌+◌, ◌<◌, false, [], ◌∷◌, ◌++◌}
use Rattle.std.proofs.Common.{Some, replicate, append_assoc}
use Rattle.std.proofs.lemmas.List.{replicate_more}
use mathlib.Core.List.{append-nil}
use Rattle.syn_lock.specs.declared.view.View.{View}
use Rattle.syn_lock.specs.Views.{view, entered, refused, refused_times, Sees}
use Rattle.syn_lock.specs.inner.Rule.{Sat, known, turned_away}
use Rattle.syn_lock.specs.History.{hold, end_of}
use Rattle.syn_lock.specs.Locks.{id_of, origin_of}
use Rattle.syn_lock.proofs.own.Pass.wait.Goals as goal

refused_more : {S : Type 0} (v : View S) (times : ℕ) →
    refused (refused_times v times) ≡ refused_times v (times + 1)
refused_more v times = let x = hold v.number 1 1 in
    ap (λ turns. view v.number v.origin v.seen v.own turns) (append_assoc v.turns
    (replicate times x) (x ∷ []) ∙ ap (λ turns. v.turns ++ turns) (replicate_more times x))

pub loop-init : goal.loop-init
loop-init g c =
    let k = c.args.self.now.seat.me.0 in
    let v = k.view in
    let same = append-nil v.turns in
    record {
      same = refl;
      waited = (
        0,
        (λ i. (
          known (view v.number v.origin v.seen v.own
              (sym same i)) k.told k.watched k.inside k.passes,
          c.requires.1 i,
        )),
      );
    }

pub take-requires : goal.take-requires
take-requires g c =
    let o = origin_of c.args.own.now in
    let w = c.loop.invariant.waited in
    let q = c.requires in
    subst (λ (m : Sat g.row.S.Denot). (c.loop.self.seat.table_id ≡ id_of c.args.own.now)
    × (m.1 ≡ []) × (m.0.inside ≡ false) × (0 < m.0.view.number) × (m.0.view.origin ≡ Some o))
    (sym w.1)
    (c.loop.invariant.same ∙ q.0, refl, q.2, q.3, q.4)

pub returns-in-Some-take-clause-same : goal.returns-in-Some-take-clause-same
returns-in-Some-take-clause-same g c = c.in-Some-take.ensures.same ∙ c.loop.invariant.same

pub returns-in-Some-take-clause-inside : goal.returns-in-Some-take-clause-inside
returns-in-Some-take-clause-inside g c =
    let t = c.in-Some-take.ensures.taken in
    (ap (λ (m : Sat g.row.S.Denot). m.1) t.2, ap (λ (m : Sat g.row.S.Denot). m.0.inside) t.2)

pub returns-in-Some-take-clause-taken : goal.returns-in-Some-take-clause-taken
returns-in-Some-take-clause-taken g c =
    let w = c.loop.invariant.waited in
    let t = c.in-Some-take.ensures.taken in
    let o = origin_of c.args.own.now in (
      w.0,
      t.0,
      subst (λ (m : Sat g.row.S.Denot). Sees g.S.Grows.grows o m.0.view t.0) w.1 t.1,
      ap (λ (m : Sat g.row.S.Denot). m.0.view) t.2
          ∙ ap (λ (m : Sat g.row.S.Denot). entered m.0.view t.0) w.1,
      t.3,
    )

pub loop-preserved : goal.loop-preserved
loop-preserved g c =
    let k = c.args.self.now.seat.me.0 in
    let w = c.loop.invariant.waited in
    record {
      same = c.in_default.ensures.same ∙ c.loop.invariant.same;
      waited = (
        w.0 + 1,
        c.in_default.ensures.taken
            ∙ (ap (λ (m : Sat g.row.S.Denot). (turned_away m.0, [])) w.1
            ∙ ap (λ v. (known v k.told k.watched k.inside k.passes, [])) (refused_more k.view w.0)),
      );
    }

pub returns-in-Some-take-clause-later : goal.returns-in-Some-take-clause-later
returns-in-Some-take-clause-later g c =
    let o = origin_of c.args.own.now in
    let later = c.in-Some-take.ensures.later in
    subst (λ (m : Sat g.row.S.Denot). g.S.Grows.grows
    (end_of o m.0.view.seen) c.in-Some-take.home.value) c.loop.invariant.waited.1 later
