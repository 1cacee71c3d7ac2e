use Rattle.std.proofs.Common.{◌≡◌, ◌++◌, ◌∷◌, [], take, length, sym, ap, ◌∙◌, subst, arith}
use Rattle.std.proofs.Common.{Global, Vec, refl}
use Rattle.std.proofs.Math.Seq.{take-length}
use Rattle.std.proofs.lemmas.List.{take_more}
use Rattle.syn_folder.specs.Strangers.{IsApart}
use Rattle.syn_folder.proofs.FolderLemmas.{apart_more, pushed}
use Rattle.syn_folder.specs.declared.stranger.Stranger.{Stranger}
use Rattle.syn_folder.proofs.export.in_the_way.Goals as goal
use Rattle.syn_folder.proofs.export.in_the_way.Goals.{then-is_in_the_way+in_ok-copy+in_ok-push}
use Rattle.syn_folder.proofs.export.in_the_way.Goals.{else-is_in_the_way}

pub loop-stranger-preserved : goal.loop-stranger-preserved
loop-stranger-preserved c =
    let wanted = c.args.wanted.now in
    let strangers = c.args.strangers.now in
    let at = c.loop-stranger.stranger-index in
    elim c.if-is_in_the_way.branch [
      | then-is_in_the_way+in_ok-copy+in_ok-push w ↦ λ none. absurd (pushed
          c.loop-stranger.found.items w.in_ok-copy.field-0 (sym w.in_ok-push.ensures.items
          ∙ (ap (λ (v : Vec Stranger Global). v.items) (sym w.found-is) ∙ none)))
      | else-is_in_the_way w ↦ λ none.
          let before = c.loop-stranger.invariant
          (ap (λ (v : Vec Stranger Global). v.items) (sym w.found-is) ∙ none) in
          let more = take_more strangers at c.stranger-item.result c.loop-stranger-test.true in
          subst (λ xs. IsApart xs wanted)
          (ap (λ x. take at strangers ++ x ∷ []) c.stranger-item.is ∙ sym more)
          (apart_more (take at strangers) c.stranger-item.result wanted before
          (λ path is. w.if-is_in_the_way.ensures refl path is))
    ]

pub returns-clause-apart : goal.returns-clause-apart
returns-clause-apart c none =
    let strangers = c.args.strangers.now in
    let ended : c.loop-stranger.stranger-index ≡ length strangers =
    omega (arith, c.loop-stranger-test.false, c.loop-stranger.auto.stranger-index-end) in
    subst (λ xs. IsApart xs c.args.wanted.now)
    (ap (λ n. take n strangers) ended ∙ take-length strangers) (c.loop-stranger.invariant none)
