use Rattle.std.proofs.Common.{◌∙◌, ◌||◌, ap, sym}
use Rattle.syn_machine.specs.Network.{Right}
use Rattle.syn_session.specs.Scanning.{shows_unstable}
use Rattle.syn_session.specs.Stages.{found_on}
use Rattle.syn_session.proofs.TellingLemmas.{took_by_scans}
use Rattle.syn_session.proofs.session.Session.has_unstable_path.Goals as goal

pub returns-then-has_unstable_path : goal.returns-then-has_unstable_path
returns-then-has_unstable_path c running tells =
    c.if-has_unstable_path.true
    ∙ (ap (λ b. b || shows_unstable (found_on c.args.self.now Right))
    (sym c.if-has_unstable_path.true ∙ c.has_unstable_path.ensures)
    ∙ took_by_scans c.args.self.now running tells)

pub returns-else-has_unstable_path : goal.returns-else-has_unstable_path
returns-else-has_unstable_path c running tells =
    c.has_unstable_path-else-has_unstable_path.ensures
    ∙ (ap (λ b. b || shows_unstable (found_on c.args.self.now Right))
    (sym c.if-has_unstable_path.false ∙ c.has_unstable_path.ensures)
    ∙ took_by_scans c.args.self.now running tells)
