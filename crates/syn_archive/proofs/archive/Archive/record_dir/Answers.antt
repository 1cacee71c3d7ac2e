use Rattle.std.proofs.Common.{◌≡◌, ◌∙◌, if◌then◌else◌, None, Some, rules, sym, subst, true}
use Rattle.std.proofs.Common.{true≢false}
use Rattle.syn_model.specs.Archive.{RecordedDir}
use Rattle.syn_model.specs.Tree.{is_directory}
use Rattle.syn_archive.specs.Archive.{marks_shown}
use Rattle.syn_archive.specs.Calls.{Writes}
use Rattle.syn_archive.specs.Machines.{refuses}
use Rattle.syn_model.specs.Refusal as why
use Rattle.syn_archive.proofs.KeepLemmas.{nothing_to_write}
use Rattle.syn_archive.proofs.MachineLemmas.{left_alone}
use Rattle.syn_archive.proofs.archive.Archive.record_dir.Goals as goal

pub returns-in-Some-Dir-clause-machine : goal.returns-in-Some-Dir-clause-machine
returns-in-Some-Dir-clause-machine g c =
    let old = c.args.self.now in
    let there : is_directory (marks_shown old) c.args.path.now ≡ true = search rules in
    subst (λ b. Writes old old (if b then None else Some (RecordedDir c.args.path.now)) None)
    (sym there) (nothing_to_write old
    (λ halted. true≢false (sym (c.is_halted.ensures.1 halted) ∙ c.if-is_halted.false)))

pub returns-in-Some-Dir-clause-world : goal.returns-in-Some-Dir-clause-world
returns-in-Some-Dir-clause-world g c number machine is =
    let there : is_directory (marks_shown c.args.self.now) c.args.path.now ≡ true = search rules in
    left_alone c.args.self.now number machine c.args.path.now is
    (λ halted. true≢false (sym (c.is_halted.ensures.1 halted) ∙ c.if-is_halted.false)) there

pub returns-then-is_halted-clause-world : goal.returns-then-is_halted-clause-world
returns-then-is_halted-clause-world g c number machine is = refuses why.Halted (λ e. cc) is

pub returns-then-is_empty-clause-world : goal.returns-then-is_empty-clause-world
returns-then-is_empty-clause-world g c number machine is = refuses why.Root (λ e. cc) is
