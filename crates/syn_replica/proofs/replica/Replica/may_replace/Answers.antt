use Rattle.syn_history.specs.Events.{token_of}
use Rattle.syn_tree.specs.Nodes.{part_of}
use Rattle.std.specs.Prelude.{option_map}
use Rattle.syn_replica.specs.Replica.{standing_shown}
use Rattle.syn_replica.proofs.SessionLemmas.{refused_part}
use Rattle.syn_replica.proofs.replica.Replica.may_replace.Goals as goal

pub returns-in_err-check_part-clause-cause : goal.returns-in_err-check_part-clause-cause
returns-in_err-check_part-clause-cause g c room history same running =
    refused_part room history (token_of c.args.token.now) c.args.path.now c.args.since
    (part_of (option_map (λ there. there.now) c.args.new))
    c.from_residual-in_err-check_part.result _ (standing_shown c.args.self.now) c.tree.result.now
    c.is_old.result c.from_residual-in_err-check_part.ensures.1
    same c.is_old.ensures c.if-is_old.false (c.in_ok-check_untouched.ensures.cause history same)
    c.tree.ensures c.in_err-check_part.ensures.refused
