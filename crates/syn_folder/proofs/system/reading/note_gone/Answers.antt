use Rattle.std.proofs.Common.{◌≡◌, inl, inr, length, take, sym, ap, ◌∙◌, subst}
use Rattle.std.proofs.Common.{arith}
use Rattle.std.proofs.Common.{Vec, Global}
use Rattle.std.specs.List.{All}
use Rattle.std.proofs.Math.Seq.{take-length}
use Rattle.std.proofs.lemmas.List.Elements.{All-more}
use Rattle.syn_path.specs.declared.path.Path.{Path}
use Rattle.syn_folder.specs.Looks.{IsSeenAgain}
use Rattle.syn_folder.specs.declared.system.looks.Seen.{Seen}
use Rattle.syn_folder.proofs.system.reading.note_gone.Goals as goal
use Rattle.syn_folder.proofs.system.reading.note_gone.Goals.{else-is_node}
use Rattle.syn_folder.proofs.system.reading.note_gone.Goals.{else-is_node-via-else-is_node}
use Rattle.syn_folder.proofs.system.reading.note_gone.Goals.{}
use Rattle.syn_folder.proofs.system.reading.note_gone.Goals.{else-is_node-via-then-is_node+else-not-is_again}
use Rattle.syn_folder.proofs.system.reading.note_gone.Goals.{}
use Rattle.syn_folder.proofs.system.reading.note_gone.Goals.{then-is_node+then-not-is_again+in_ok-note}

pub loop-index-preserved : goal.loop-index-preserved
loop-index-preserved c =
    let first = c.args.first.now in
    let at = c.loop-index.index in
    let one = c.index-first-index.result in
    let Again : Seen → Type 0 = IsSeenAgain c.args.second.now in
    let items = λ (v : Vec Path Global). v.items in
    elim c.if-is_node.branch [
      | then-is_node+then-not-is_again+in_ok-note w ↦ record {
        kept = λ none. absurd (w.in_ok-note.ensures.some (ap items (sym w.changed-is) ∙ none));
        again = λ none. absurd (w.in_ok-note.ensures.some (ap items (sym w.changed-is) ∙ none));
      }
      | else-is_node w ↦ record {
        kept = λ none. c.loop-index.invariant.kept (ap items (sym w.changed-is) ∙ none);
        again = λ none. All-more Again first at one c.loop-index-test.true
            (c.loop-index.invariant.again (ap items (sym w.changed-is) ∙ none))
            (subst Again c.index-first-index.is (elim w.else-is_node.branch [
              | else-is_node-via-then-is_node+else-not-is_again v ↦ inr (v.is_again.ensures
                  v.if-not-is_again.false)
              | else-is_node-via-else-is_node v ↦ inl (c.is_node.ensures v.if-is_node.false)
            ]));
      }
    ]

pub returns-clause-again : goal.returns-clause-again
returns-clause-again c none =
    let first = c.args.first.now in
    let ended : c.loop-index.index ≡ length first =
    omega (arith, c.loop-index-test.false, c.loop-index.auto.index-end) in
    subst (All (IsSeenAgain c.args.second.now))
    (ap (λ n. take n first) ended ∙ take-length first) (c.loop-index.invariant.again none)
