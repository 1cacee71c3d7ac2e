use Rattle.std.proofs.Common.{refl, sym, true≢false, ◌∙◌}
use Rattle.std.proofs.lemmas.Result.{on_ok_weaker}
use Rattle.syn_model.specs.Event.{MakeDir}
use Rattle.syn_change.specs.Changes.{MakesDir}
use Rattle.syn_change.proofs.GoingLemmas.{goes_as, goes_nowhere, refused_as}
use Rattle.syn_change.proofs.OverlayLemmas.{dir_placed}
use Rattle.syn_change.proofs.ResultLemmas.{both_ok}
use Rattle.syn_change.proofs.additions.make_dir.Goals as goal

pub returns-then-is_directory-clause-edits : goal.returns-then-is_directory-clause-edits
returns-then-is_directory-clause-edits c =
    goes_nowhere (MakesDir c.args.work.now c.args.path) c.args.work.now c.args.edits.now.items

pub returns-clause-placed : goal.returns-clause-placed
returns-clause-placed c =
    both_ok c.make.result
    (λ made allowed. dir_placed c.args.work.now c.args.path c.make.new.work
    c.entries.ensures.tree.part.parents allowed made) c.make.ensures.done c.make.ensures.allowed

pub returns-clause-edits : goal.returns-clause-edits
returns-clause-edits c =
    on_ok_weaker c.make.result
    (λ on. goes_as (MakesDir c.args.work.now c.args.path) c.args.work.now c.args.edits.now.items
    c.make.new.work c.make.new.edits.items (MakeDir c.args.path)
    (refl, λ there. true≢false (sym (c.is_directory.ensures.1 there) ∙ c.if-is_directory.false)) on)
    c.make.ensures.edits

pub returns-clause-refused : goal.returns-clause-refused
returns-clause-refused c =
    refused_as (MakesDir c.args.work.now c.args.path) c.args.work.now c.make.result
    (MakeDir c.args.path)
    (refl, λ there. true≢false (sym (c.is_directory.ensures.1 there) ∙ c.if-is_directory.false))
    c.make.ensures.cause
