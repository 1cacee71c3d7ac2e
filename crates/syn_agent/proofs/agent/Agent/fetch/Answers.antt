use Rattle.std.proofs.Common.{inl, inr, subst, sym}
use Rattle.syn_agent.proofs.CauseLemmas.{none_of}
use Rattle.syn_agent.proofs.ReadingLemmas.{fetch_takes, is_piece, is_refused, no_memory}
use Rattle.syn_agent.proofs.agent.Agent.fetch.Goals as goal
use Rattle.syn_agent.specs.Answers.{Answers}
use Rattle.syn_machine.specs.Side.{Fetch, Refused}
use Rattle.syn_model.specs.Event.{AreBytes}

pub returns-in-Ok-clause-answers : goal.returns-in-Ok-clause-answers
returns-in-Ok-clause-answers g c history session stands =
    let told = c.in-Ok.ensures in
    is_piece c.args.replica.now c.args.self.now history session stands c.args.path.now
    c.args.since c.args.offset c.in-Ok.piece.total c.in-Ok.piece.bytes.items
    (none_of _ (λ why is. told.refused history why stands is))
    (told.piece history stands).0 (told.piece history stands).1

pub returns-in-Err-clause-answers : goal.returns-in-Err-clause-answers
returns-in-Err-clause-answers g c history session stands =
    let request = Fetch c.args.path.now c.args.since c.args.offset in
    subst (λ r. Answers c.args.replica.now c.args.replica.now c.args.self.now c.args.self.now
    history session (Fetch c.args.path.now c.args.since c.args.offset) (Refused r))
    (sym c.refusal.ensures)
    (elim (c.in-Err.ensures.cause history stands) [
      | inl memory ↦ no_memory c.args.replica.now c.args.self.now history session stands
          (Fetch c.args.path.now c.args.since c.args.offset) _ memory
          (fetch_takes history c.args.path.now c.args.since _
          (λ why is. c.in-Err.ensures.refused history why stands is) memory)
      | inr some ↦ is_refused c.args.replica.now c.args.self.now history session stands
          c.args.path.now c.args.since c.args.offset _ some
    ])

pub returns-in-Ok-clause-lawful : goal.returns-in-Ok-clause-lawful
returns-in-Ok-clause-lawful g c = (
  c.in-Ok.ensures.total,
  (
    c.in-Ok.ensures.short,
    subst AreBytes c.deref.ensures.value c.are_bytes.ensures,
  ),
)
