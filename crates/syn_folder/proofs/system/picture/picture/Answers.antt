use Rattle.std.proofs.Common.{◌≡◌, List, inl, inr, map, refl, ap, ◌∙◌, subst, Option, IfSome}
use Rattle.std.proofs.Common.{IfNone}
use Rattle.std.specs.FinMap.{entries}
use Rattle.std.proofs.lemmas.Result.{IfOk-weaker}
use Rattle.syn_folder.specs.declared.system.picture.FolderRead.{FolderRead}
use Rattle.syn_model.specs.Tree.{Tree}
use Rattle.syn_folder.specs.Looks.{AreShown, FitsNoReplica, ShowsStranger, told}
use Rattle.syn_folder.specs.declared.stranger.Strangeness.TheVariants.{Count, Room}
use Rattle.syn_folder.specs.declared.system.looks.Seen.{Seen}
use Rattle.syn_placed.specs.Pairs.{rooted}
use Rattle.syn_folder.proofs.PictureLemmas.{by_path, over_picture}
use Rattle.syn_folder.proofs.system.picture.picture.Goals as goal

pub returns-then-is_over : goal.returns-then-is_over
returns-then-is_over c =
    let walk = c.args.walk in
    let strangers = c.in_ok-strangers.strangers.items in
    let tells = subst (λ (xs : List Seen). AreShown (ShowsStranger walk.at) xs (map told
    strangers)) c.deref.ensures.value c.in_ok-strangers.ensures in
    record {
      picture = over_picture walk.at walk.looks.items walk.pending.items c.over.result strangers
          Count
          (inl refl) tells c.over.ensures.empty c.over.ensures.told;
      looks = IfOk-weaker c.over.result _ _ (λ (read : FolderRead) none. inl none)
          c.over.ensures.looks;
    }

pub returns-in-Some : goal.returns-in-Some
returns-in-Some c =
    let walk = c.args.walk in
    let strangers = c.in_ok-strangers.strangers.items in
    let tells = subst (λ (xs : List Seen). AreShown (ShowsStranger walk.at) xs (map told
    strangers)) c.deref.ensures.value c.in_ok-strangers.ensures in
    record {
      picture = inl (record {
        all = c.is_over.ensures.all c.if-is_over.false;
        read = c.is_over.ensures.read c.if-is_over.false;
        there = by_path walk.looks.items c.in-Some.tree
            (subst (λ (o : Option Tree). IfSome o (λ tree. entries tree ≡ rooted
            c.in_ok-entries.entries.items)) c.in-Some.is c.in_ok-tree.ensures.some ∙ ap rooted
            c.in_ok-entries.ensures.entries);
        tells = tells;
      });
      looks = inr c.in_ok-entries.ensures.looks;
    }

pub returns : goal.returns
returns c =
    let walk = c.args.walk in
    let strangers = c.in_ok-strangers.strangers.items in
    let tells = subst (λ (xs : List Seen). AreShown (ShowsStranger walk.at) xs (map told
    strangers)) c.deref.ensures.value c.in_ok-strangers.ensures in
    record {
      picture = over_picture walk.at walk.looks.items walk.pending.items c.over-in-None.result
          strangers Room
          (inr (
            refl,
            subst FitsNoReplica c.in_ok-entries.ensures.entries (subst
                (λ (o : Option Tree). IfNone o (FitsNoReplica c.in_ok-entries.entries.items))
                c.in-None.is c.in_ok-tree.ensures.none),
          )) tells
          c.over-in-None.ensures.empty c.over-in-None.ensures.told;
      looks = IfOk-weaker c.over-in-None.result _ _ (λ (read : FolderRead) none. inl none)
          c.over-in-None.ensures.looks;
    }
