use Rattle.std.proofs.Common.{rules, ◌≤◌, ◌∙◌, ap, sym, subst, ◌*◌, ◌<◌}
use Rattle.syn_lock.specs.inner.Rule.{Sat, far}
use Rattle.syn_lock.specs.declared.view.Known.{Known}
use Rattle.syn_lock.specs.History.{end_of}
use Rattle.syn_lock.specs.Views.{published, outside}
use Rattle.syn_lock.specs.Locks.{origin_of}
use Rattle.syn_lock.proofs.Gives.{leave_keeps}
use Rattle.syn_lock.proofs.own.Own.leave_near.Goals as goal

pub store-requires : goal.store-requires
store-requires g c =
    let o = origin_of c.args.self.now in
    let put = c.put.ensures.put in
    let same = ap (λ (m : Sat g.row.S.Denot). m.0) put in
    let up = g.met.S.Grows.advances _ _ c.requires.grown in (
      search rules,
      search rules,
      leave_keeps g.S.Grows.position g.S.Grows.grows o _ _ _ _ o c.args.home
          (ap (λ (m : Sat g.row.S.Denot). m.1) put)
          (ap (λ (k : Known g.row.S.Denot). k.inside) same ∙ c.requires.inside)
          (ap (λ (k : Known g.row.S.Denot). k.view.origin) same ∙ c.requires.origin)
          (subst (λ (k : Known g.row.S.Denot). g.S.Grows.grows
          (end_of o k.view.seen) c.args.home.value) (sym same) c.requires.grown)
          (subst (λ (k : Known g.row.S.Denot). g.S.Grows.position (end_of o k.view.seen)
          ≤ g.S.Grows.position c.args.home.value) (sym same) up)
          (ap (λ n. 2 * n) c.requires.position)
          (subst (λ n. n < far) c.requires.position c.requires.near),
    )

pub returns : goal.returns
returns g c =
    let o = origin_of c.args.self.now in
    let put = c.put.ensures.put in
    let same = ap (λ (m : Sat g.row.S.Denot). m.0) put in
    let told = c.store.ensures.2 o c.args.home (ap (λ (k : Known g.row.S.Denot). k.view.origin) same
    ∙ c.requires.origin) (ap (λ (m : Sat g.row.S.Denot). m.1) put) in
    record {
      same = search rules;
      outside = (
        ap (λ (m : Sat g.row.S.Denot). m.1) told.1,
        ap (λ (m : Sat g.row.S.Denot). m.0.inside) told.1,
      );
      left =
          ap (λ (m : Sat g.row.S.Denot). m.0.view) told.1
          ∙ ap (λ (k : Known g.row.S.Denot). outside (published o k.view c.args.home.value)) same;
    }
