use Rattle.std.proofs.Common.{◌≡◌, ◌≤◌, ◌<◌, ℕ, get_or, length}
use Rattle.syn_session.specs.Sessions.{sent_again}
use Rattle.syn_session.specs.declared.requests.UnansweredRequest.{UnansweredRequest}
use Rattle.syn_session.proofs.requests.count_resends.Given as goal

abbrev pub invariant-loop-one : goal.invariant-loop-one
invariant-loop-one l = record {
  long : length l.one-items ≡ length l.fn.waiting.items;
  passed : (k : ℕ) (d : UnansweredRequest) → k < l.one-index →
      get_or l.one-items k d ≡ sent_again (get_or l.fn.waiting.items k d);
  left : (k : ℕ) (d : UnansweredRequest) → l.one-index ≤ k →
      get_or l.one-items k d ≡ get_or l.fn.waiting.items k d;
}
