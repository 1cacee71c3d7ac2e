use Rattle.std.proofs.Common.{List, sym, subst}
use Rattle.syn_folder.specs.Looks.{IsFollowed}
use Rattle.syn_folder.specs.declared.system.looks.Seen.{Seen}
use Rattle.syn_folder.proofs.WalkLemmas.{followed_more}
use Rattle.syn_folder.proofs.system.walking.Walk.take.Goals as goal

pub returns-clause-followed : goal.returns-clause-followed
returns-clause-followed c before =
    let walk = c.args.self.now in
    let seen : Seen = record { path = c.args.path; shown = c.args.shown } in
    subst (λ (looks : List Seen). IsFollowed walk.at looks c.follow.new.pending.items)
    (sym c.in_ok-push.ensures.items)
    (followed_more walk.at walk.looks.items walk.pending.items c.follow.new.pending.items seen
    before
    c.in_ok-follow.ensures.kept c.in_ok-follow.ensures.listed)
