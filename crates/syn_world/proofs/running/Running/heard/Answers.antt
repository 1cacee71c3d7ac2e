use Rattle.std.proofs.Common.{◌≡◌, true}
use Rattle.syn_world.proofs.ListLemmas.{is_heard}
use Rattle.syn_world.proofs.running.Running.heard.Goals as goal

pub returns-then-noted-clause-ends : goal.returns-then-noted-clause-ends
returns-then-noted-clause-ends g c old new events runs listed told none lawful grows =
    let first : c.hear-heard.result ≡ true = cc in
    let second : c.note-noted.result ≡ true = cc in
    record {
      machines = record {
        pair = runs.pair;
        left = runs.left;
        right = runs.right;
        coordinator = runs.coordinator;
      };
      lists = is_heard c.args.side c.args.session c.args.number c.args.reply events
          c.args.self.lists c.hear-heard.new.self c.note-noted.new.self old new c.args.outcome
          (c.hear-heard.ensures first) (c.note-noted.ensures second) listed told none lawful grows;
    }
