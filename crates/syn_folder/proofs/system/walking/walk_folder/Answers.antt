use Rattle.std.proofs.Common.{List, [], ◌∷◌, ◌++◌, sym, subst, ap, ◌∙◌, Option}
use Rattle.std.proofs.Common.{append-nil}
use Rattle.std.specs.Option.{option_to_list}
use Rattle.syn_model.specs.Path.{Path}
use Rattle.syn_folder.specs.Looks.{IsEntered, IsFollowed}
use Rattle.syn_folder.specs.declared.system.looks.Seen.{Seen}
use Rattle.syn_folder.specs.declared.system.walking.Walk.{Walk}
use Rattle.syn_folder.proofs.WalkLemmas.{entered_first, entered_more, followed_none}
use Rattle.syn_folder.proofs.system.walking.walk_folder.Goals as goal
use Rattle.syn_folder.proofs.system.walking.walk_folder.Goals.{else-loop-looked-test}
use Rattle.syn_folder.proofs.system.walking.walk_folder.Goals.{then-loop-looked-test+in_default}

pub loop-looked-init : goal.loop-looked-init
loop-looked-init g c = record {
  at = c.in_ok-take.ensures.at;
  entered = subst IsEntered (sym c.in_ok-take.ensures.looks)
      (entered_first c.new.result.items (record {
        path = c.root.result;
        shown =
            c.in_ok-folder.folder;
      }) c.root.ensures c.in_ok-folder.ensures);
  followed = c.in_ok-take.ensures.followed
      (subst (λ (looks : List Seen). IsFollowed c.args.at looks (c.new-2.result.items ++
      c.root.result ∷ []))
      (sym c.new.ensures.items) (followed_none c.args.at
      (c.new-2.result.items ++ c.root.result ∷ [])));
}

pub loop-looked-preserved : goal.loop-looked-preserved
loop-looked-preserved g c =
    let walk = c.loop-looked.walk in
    record {
      at = c.in_ok-take-2.ensures.at ∙ c.loop-looked.invariant.at;
      entered = subst IsEntered (sym c.in_ok-take-2.ensures.looks)
          (entered_more walk.looks.items _ c.loop-looked.invariant.entered);
      followed = subst (λ at. IsFollowed at c.take-in-loop-looked.new.self.looks.items
          c.take-in-loop-looked.new.self.pending.items) c.loop-looked.invariant.at
          (c.in_ok-take-2.ensures.followed
          (subst (λ at. IsFollowed at walk.looks.items (c.pop.new.self.items ++ c.in-Some.path ∷
          [])) (sym c.loop-looked.invariant.at)
          (subst (IsFollowed c.args.at walk.looks.items)
          (c.pop.ensures.items ∙ ap (λ (o : Option Path). c.pop.new.self.items ++ option_to_list o)
          c.in-Some.is)
          c.loop-looked.invariant.followed)));
    }

pub returns-clause-followed : goal.returns-clause-followed
returns-clause-followed g c =
    let Follows : Walk → Type 0 = λ walk. IsFollowed c.args.at walk.looks.items walk.pending.items
    in
    elim c.loop-looked-test.branch [
      | else-loop-looked-test w ↦ subst Follows (sym w.walk-is) c.loop-looked.invariant.followed
      | then-loop-looked-test+in_default w ↦ subst Follows (sym w.walk-is)
          (subst (IsFollowed c.args.at c.loop-looked.walk.looks.items)
          (w.pop.ensures.items ∙ (ap (λ (o : Option Path). w.pop.new.self.items ++ option_to_list
          o) w.in_default.is ∙ append-nil w.pop.new.self.items))
          c.loop-looked.invariant.followed)
    ]
