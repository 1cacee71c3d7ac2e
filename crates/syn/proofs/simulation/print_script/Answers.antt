use Rattle.std.proofs.Common.{rules}
use Rattle.syn.proofs.simulation.print_script.Goals as goal

-- the world that is printed is the one after this script
pub returns-in-Ok : goal.returns-in-Ok
returns-in-Ok g c = c.print_world.ensures c.args.script.now (search rules)
