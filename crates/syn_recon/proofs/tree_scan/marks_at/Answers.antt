use Rattle.std.proofs.Common.{◌≡◌, ◌++◌, ◌∷◌, [], sym, ap, ◌∙◌, append_assoc, append-nil, arith}
use Rattle.std.proofs.lemmas.List.{nil_from_length}
use Rattle.syn_model.specs.Path.{Name}
use Rattle.syn_tree.specs.declared.content.Found.{Found}
use Rattle.syn_tree.specs.Lists.{contents_at}
use Rattle.syn_mark.specs.Marks.{contents_in}
use Rattle.syn_mark.specs.Placings.{marks_of}
use Rattle.syn_mark.proofs.MarkLemmas.{marks-more}
use Rattle.syn_recon.proofs.tree_scan.marks_at.Goals as goal

pub loop-name-preserved : goal.loop-name-preserved
loop-name-preserved c =
    let read = c.loop-name.yielded in
    let x : Name × Found = (c.in-Some.name, c.in-Some.found) in
    record {
      whole =
          c.loop-name.invariant.whole ∙ (ap (λ xs. read ++ xs) c.in-Some.ensures.steps.0
          ∙ sym (append_assoc read (x ∷ []) c.next.new.self.rest.items));
      pushed =
          ap contents_in c.in_ok-push.ensures.items ∙ marks-more c.loop-name.listed.items read x
          c.mark_found.result c.loop-name.invariant.pushed c.mark_found.ensures;
    }

pub returns-clause-marks : goal.returns-clause-marks
returns-clause-marks c =
    let rest = c.loop-name.name-iterator.rest in
    let none : rest.items ≡ [] =
    nil_from_length rest.items (omega (arith, c.in-None.ensures.steps.0, rest.ok)) in
    let all = c.loop-name.invariant.whole
    ∙ (ap (λ xs. c.loop-name.yielded ++ xs) none ∙ append-nil c.loop-name.yielded) in
    c.loop-name.invariant.pushed ∙ ap (λ xs. marks_of (contents_at xs)) (sym all)
