use Rattle.std.proofs.Common.{◌≢◌, sym, ap, ◌∙◌, subst, Vec}
use Rattle.std.proofs.Common.{Global}
use Rattle.std.proofs.lemmas.List.Elements.{All-more}
use Rattle.syn_path.specs.declared.path.Path.{Path}
use Rattle.syn_folder.specs.declared.system.looks.Seen.{Seen}
use Rattle.syn_folder.specs.declared.system.looks.Shown.TheVariants.{Changed}
use Rattle.syn_folder.proofs.FolderLemmas.{pushed}
use Rattle.syn_folder.proofs.system.reading.changed_in.Goals as goal
use Rattle.syn_folder.proofs.system.reading.changed_in.Goals.{in-Changed+in_ok-copy+in_ok-push}
use Rattle.syn_folder.proofs.system.reading.changed_in.Goals.{in_default}

pub loop-seen-preserved : goal.loop-seen-preserved
loop-seen-preserved c none =
    let looks = c.args.looks.now in
    let at = c.loop-seen.seen-index in
    let IsStill : Seen → Type 0 = λ seen. seen.shown ≢ Changed in
    let one = c.seen-item.result in
    elim c.match-seen.branch [
      | in-Changed+in_ok-copy+in_ok-push w ↦ absurd (pushed c.loop-seen.changed.items
          w.in_ok-copy.field-0
          (sym w.in_ok-push.ensures.items
          ∙ (ap (λ (v : Vec Path Global). v.items) (sym w.changed-is) ∙ none)))
      | in_default w ↦ All-more IsStill looks at one c.loop-seen-test.true
          (c.loop-seen.invariant (ap (λ (v : Vec Path Global). v.items) (sym w.changed-is) ∙ none))
          (subst IsStill c.seen-item.is w.in_default.not-Changed)
    ]
