use Rattle.std.proofs.Common.{rules, ◌∙◌, ap, sym, subst}
use Rattle.syn_lock.specs.inner.Rule.{Sat}
use Rattle.syn_lock.specs.declared.view.Known.{Known}
use Rattle.syn_lock.specs.History.{end_of}
use Rattle.syn_lock.specs.Views.{own_hold, published}
use Rattle.syn_lock.specs.Locks.{origin_of}
use Rattle.syn_lock.proofs.Histories.{end_of-append}
use Rattle.syn_lock.proofs.Gives.{publish_keeps}
use Rattle.syn_lock.proofs.own.Own.publish.Goals as goal

pub store-requires : goal.store-requires
store-requires g c =
    let o = origin_of c.args.self.now in
    let put = c.put.ensures.put in
    let same = ap (λ (m : Sat g.row.S.Denot). m.0) put in (
      search rules,
      search rules,
      publish_keeps g.S.Grows.position g.S.Grows.grows o _ _ _ _ o c.args.home
          (ap (λ (m : Sat g.row.S.Denot). m.1) put)
          (ap (λ (k : Known g.row.S.Denot). k.inside) same ∙ c.requires.inside)
          (ap (λ (k : Known g.row.S.Denot). k.view.origin) same ∙ c.requires.origin)
          (subst (λ (k : Known g.row.S.Denot). g.S.Grows.grows (end_of o k.view.seen)
          c.args.home.value) (sym same) c.requires.grown) c.requires.position c.requires.far,
    )

pub returns : goal.returns
returns g c =
    let o = origin_of c.args.self.now in
    let put = c.put.ensures.put in
    let same = ap (λ (m : Sat g.row.S.Denot). m.0) put in
    let has = ap (λ (m : Sat g.row.S.Denot). m.1) put in
    let told = c.store.ensures.2 o c.args.home
    (ap (λ (k : Known g.row.S.Denot). k.view.origin) same ∙ c.requires.origin) has in
    let seen = ap (λ (m : Sat g.row.S.Denot). m.0.view) told
    ∙ ap (λ (k : Known g.row.S.Denot). published o k.view c.args.home.value) same in
    let last = ap (λ v. end_of o v.seen) seen ∙ end_of-append o c.args.pass.now.seat.me.0.view.seen
    (own_hold o c.args.pass.now.seat.me.0.view c.args.home.value) in
    record {
      same = search rules;
      inside =
          ap (λ (m : Sat g.row.S.Denot). m.0.inside) told
          ∙ (ap (λ (k : Known g.row.S.Denot). k.inside) same ∙ c.requires.inside);
      put = (c.args.home, sym last, ap (λ (m : Sat g.row.S.Denot). m.1) told ∙ has);
      published = seen;
      last = last;
    }
