use Rattle.std.proofs.Common.{◌≡◌, arith, rules, sym}
use Rattle.std.proofs.lemmas.Grind.{common_steps}
use Rattle.syn_machine.specs.Coordinator.{took_not_dir}
use Rattle.syn_session.proofs.session.Session.into_report.Goals as goal

pub returns-in-Some : goal.returns-in-Some
returns-in-Some c running tells =
    let took : took_not_dir running ≡ c.has_unstable_path-has_unstable_path.result =
    sym (c.has_unstable_path-has_unstable_path.ensures running tells) in
    let told = tells.told in
    first_of (search (rules, took), grind (arith, common_steps, took))
