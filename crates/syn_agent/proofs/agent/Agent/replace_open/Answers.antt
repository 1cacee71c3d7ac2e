use Rattle.std.proofs.Common.{◌≡◌, ◌∙◌, Some, None, refl, subst, sym}
use Rattle.syn_agent.proofs.CauseLemmas.{counts, none_of, refused_one}
use Rattle.syn_agent.proofs.ReplaceLemmas.{made_answers, memory_answers, refused_answers}
use Rattle.syn_agent.proofs.ReplaceLemmas.{staging_memory, unmade_answers, unread_answers}
use Rattle.syn_agent.proofs.agent.Agent.replace_open.Goals as goal
use Rattle.syn_agent.specs.Answers.{Answers}
use Rattle.syn_agent.specs.Causes.{CountsFailures}
use Rattle.syn_machine.specs.Side.{Reads, Refused, Replace}
use Rattle.syn_model.specs.Refusal.{Memory}
use Rattle.syn_history.specs.Events.{token_of}
use Rattle.syn_agent.specs.Agents.{staging_of}
use Rattle.syn_refusal.specs.Refusals.{cause_of}
use Rattle.syn_replica.specs.Growing.{itself}
use Rattle.syn_replica.specs.Replica.{disk_of}
use Rattle.syn_tree.specs.Nodes.{part_of}
use Rattle.syn_wire.specs.Refusals.{refusal_of as of_wire}
use Rattle.syn_wire.specs.declared.error.WireError.{WireError}
use Rattle.syn_wire.specs.declared.error.WireError.TheVariants as wire

only_memory : (error : WireError) → of_wire error ≡ Memory
only_memory wire.Memory = refl

pub returns-in-Err-clause-answers : goal.returns-in-Err-clause-answers
returns-in-Err-clause-answers g c history stands fresh young =
    refused_answers c.args.replica.now c.args.self.now history c.args.token.session
    c.args.token.item c.args.path.now c.args.since c.args.length stands fresh young _
    c.in-Err.ensures.refused

pub returns-in-Err-clause-memory : goal.returns-in-Err-clause-memory
returns-in-Err-clause-memory g c is = absurd (staging_memory (staging_of c.args.self.now)
    (token_of c.args.token) c.args.length (cause_of c.in-Err.why) c.in-Err.ensures.refused
    (refused_one (cause_of c.in-Err.why) Memory is))

pub returns-in-Ok-None-clause-answers : goal.returns-in-Ok-None-clause-answers
returns-in-Ok-None-clause-answers g c history stands fresh young =
    let read = rw c.in-Ok-None.field-0-is at c.in-Ok-None.ensures in
    unread_answers c.args.replica.now c.args.self.now history c.args.token.session
    c.args.token.item c.args.path.now c.args.since c.args.length stands fresh young
    c.in-Ok.ensures.none (subst (λ b. Reads b None) c.in-Ok.ensures.found read)

pub returns-in-Err-read_part-clause-answers : goal.returns-in-Err-read_part-clause-answers
returns-in-Err-read_part-clause-answers g c history stands fresh young =
    memory_answers c.args.replica.now c.args.self.now history c.args.token.session
    c.args.token.item c.args.path.now c.args.since c.args.length stands fresh young
    c.in-Ok.ensures.none _
    (c.refusal-in-Err-read_part.ensures ∙ only_memory c.in-Err-read_part.error)

pub returns-in-Ok-replace-clause-answers : goal.returns-in-Ok-replace-clause-answers
returns-in-Ok-replace-clause-answers g c history stands fresh young =
    let told = c.in-Ok-replace.ensures in
    let read = rw c.in-Ok-Some.field-0-is at c.in-Ok-Some.ensures in
    let reads = subst (λ b. Reads b (Some (part_of c.in-Ok-Some.new))) c.in-Ok.ensures.found read in
    made_answers c.args.replica.now c.args.self.now history c.args.token.session
    c.args.token.item c.args.path.now c.args.since c.args.length stands fresh young
    c.in-Ok.ensures.none (part_of c.in-Ok-Some.new) reads c.replace.new.self
    (told.acknowledged history stands).1
    (none_of _ (λ why is. told.refused history why stands fresh is))
    told.machine told.world (told.any_moment history stands)

pub returns-in-Err-replace-clause-answers : goal.returns-in-Err-replace-clause-answers
returns-in-Err-replace-clause-answers g c history stands fresh young =
    let told = c.in-Err-replace.ensures in
    let read = rw c.in-Ok-Some.field-0-is at c.in-Ok-Some.ensures in
    let reads = subst (λ b. Reads b (Some (part_of c.in-Ok-Some.new))) c.in-Ok.ensures.found read in
    subst (λ r. Answers c.args.replica.now c.replace.new.self c.args.self.now c.args.self.now
    history c.args.token.session
    (Replace c.args.token.item c.args.path.now c.args.since c.args.length) (Refused r))
    (sym c.refusal.ensures)
    (unmade_answers c.args.replica.now c.args.self.now history c.args.token.session
    c.args.token.item c.args.path.now c.args.since c.args.length stands fresh young
    c.in-Ok.ensures.none (part_of c.in-Ok-Some.new) reads c.replace.new.self c.in-Err-replace.error
    (told.cause history stands) (λ why is. told.refused history why stands fresh is) told.machine
    told.world (told.any_moment history stands))

pub returns-in-Err-replace-clause-failures : goal.returns-in-Err-replace-clause-failures
returns-in-Err-replace-clause-failures g c =
    subst (λ r. CountsFailures (Refused r) (g.D.Disk.failures (disk_of c.args.replica.now))
    (g.D.Disk.failures (disk_of c.replace.new.self))) (sym c.refusal.ensures)
    (counts c.in-Err-replace.error _ _ c.in-Err-replace.ensures.machine.device.failures)

pub returns-in-Err-clause-grown : goal.returns-in-Err-clause-grown
returns-in-Err-clause-grown g c = itself c.args.replica.now

pub returns-in-Ok-None-clause-grown : goal.returns-in-Ok-None-clause-grown
returns-in-Ok-None-clause-grown g c = itself c.args.replica.now

pub returns-in-Err-read_part-clause-grown : goal.returns-in-Err-read_part-clause-grown
returns-in-Err-read_part-clause-grown g c = itself c.args.replica.now
