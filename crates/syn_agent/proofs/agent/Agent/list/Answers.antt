use Rattle.std.proofs.Common.{◌≡◌, ◌∙◌, ℕ, true, Err, ap, inl, inr, refl, rules, sym}
use Rattle.syn_agent.proofs.CauseLemmas.{refused_one}
use Rattle.syn_agent.proofs.ReadingLemmas.{absent_is, is_listed, is_no_directory}
use Rattle.syn_replica.proofs.RefusalLemmas.{halted_is}
use Rattle.syn_agent.proofs.ReadingLemmas.{is_listing, is_there, no_device}
use Rattle.syn_agent.proofs.ReadingLemmas.{no_memory, own_absent, reading, running}
use Rattle.syn_agent.proofs.agent.Agent.list.Goals as goal
use Rattle.syn_machine.specs.Side.{ListAt, Refused}
use Rattle.syn_model.specs.History.{History, tree_of}
use Rattle.syn_model.specs.Refusal as why
use Rattle.syn_model.specs.Tree.{is_directory}
use Rattle.syn_refusal.specs.Refusals.{cause_of}
use Rattle.syn_replica.specs.Refusals.{reading_refusals}
use Rattle.syn_replica.specs.ErrorRefusals.{refusal_in, refusal_of}
use Rattle.syn_replica.specs.Replica.{Stands, tree_shown}

pub returns-in-Ok-clause-answers : goal.returns-in-Ok-clause-answers
returns-in-Ok-clause-answers g c history session stands =
    let told = c.in-Ok.ensures in
    is_listed c.args.replica.now c.args.self.now history session stands c.args.path.now _ _
    told.position told.marks
    (λ none. let k = told.absent.1 (
      running c.args.replica.now c.args.self.now history session
          stands,
      none,
    ) in cc)

pub returns-in-Ok-clause-lawful : goal.returns-in-Ok-clause-lawful
returns-in-Ok-clause-lawful g c =
    let told = c.in-Ok.ensures in (
      search rules,
      is_listing (tree_shown c.args.replica.now) c.args.path.now _ told.marks
          (λ none. let k = told.absent.1 (λ halted. let h = told.halted.1 halted in cc, none) in cc)
          c.listing_laws.ensures,
    )

pub returns-in-Absent-clause-answers : goal.returns-in-Absent-clause-answers
returns-in-Absent-clause-answers g c history session stands =
    let error = absent_is c.in-Err.error (sym c.refusal.ensures ∙ ap cause_of c.in-Absent.is) in
    is_no_directory c.args.replica.now c.args.self.now history session stands c.args.path.now _
    c.position.ensures (c.in-Err.ensures.absent.0 (ap Err error)).1

pub returns-in_default : goal.returns-in_default
returns-in_default g c = record {
  lawful = tt;
  answers = λ history session stands.
      elim (reading c.in-Err.error c.in-Err.ensures.refusals) [
        | inl halted ↦ absurd (running c.args.replica.now c.args.self.now history session stands
            (c.in-Err.ensures.halted.0 (ap Err (halted_is c.in-Err.error halted))))
        | inr (inl absent) ↦ absurd (c.in_default.not-Absent
            (own_absent c.refusal.result (c.refusal.ensures ∙ absent)))
        | inr (inr memory) ↦ no_memory c.args.replica.now c.args.self.now history session stands
            (ListAt c.args.path.now) _ (c.refusal.ensures ∙ memory)
            (takes history session stands memory)
      ];
  memory = λ history session stands is.
      takes history session stands (sym c.refusal.ensures ∙ refused_one _ _ is);
  device = λ is. no_device reading_refusals c.in-Err.error c.in-Err.ensures.refusals refl
      (sym c.refusal.ensures ∙ refused_one _ _ is);
  halted = λ halted.
      let found = ap refusal_in (c.in-Err.ensures.halted.1 halted) in
      let same : refusal_of c.in-Err.error ≡ why.Halted = cc in
      ap Refused (c.refusal.ensures ∙ same);
}
  where
    -- memory is refused where there is a directory
    takes : (history : History) (session : ℕ) → Stands c.args.replica.now history
        → refusal_of c.in-Err.error ≡ why.Memory
        → is_directory (tree_of history) c.args.path.now ≡ true
    takes history session stands memory =
        is_there c.args.replica.now c.args.self.now history session stands c.args.path.now
        (λ none. let found = ap refusal_in (c.in-Err.ensures.absent.1 (
          running c.args.replica.now c.args.self.now history session stands,
          none,
        )) in let same : refusal_of c.in-Err.error ≡ why.Absent = cc in
        let k : why.Memory ≡ why.Absent = sym memory ∙ same in cc)
