use Rattle.syn_promise.proofs.PromiseLemmas.{Laws, changes_are_allowed, promise_is_kept}
use Rattle.syn_promise.proofs.promise.Goals as goal

laws : goal.After-asked → Laws
laws c = record {
  pictured = c.run_laws.ensures.pictured;
  stand = c.run_laws.ensures.stands;
  legal = c.run_laws.ensures.legal;
  recovered = c.run_laws.ensures.recovered;
  again = c.run_laws.ensures.pair;
  logged = c.run_laws.ensures.logged;
  synchronized = c.session_laws.ensures.synchronized;
  reconciled = c.session_laws.ensures.reconciled;
  preferred = c.session_laws.ensures.preferred;
  held = c.session_laws.ensures.held;
  tell = c.run_laws.ensures.reports;
  belong = c.run_laws.ensures.belong;
  records = c.asked.ensures.records;
}

pub returns-clause-kept : goal.returns-clause-kept
returns-clause-kept c = promise_is_kept (laws c)

pub returns-clause-allowed : goal.returns-clause-allowed
returns-clause-allowed c = changes_are_allowed (laws c)
