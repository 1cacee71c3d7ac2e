use Rattle.std.proofs.Common.{◌≡◌, ◌≢◌, ◌≤◌, ◌+◌, ◌-◌, ◌⊎◌, ◌++◌, [], length}
use Rattle.std.specs.Prelude.{All, AllPairs}
use Rattle.syn_session.specs.Scanning.{found_of, out_of}
use Rattle.syn_session.specs.inner.Listing.{IsNextListing}
use Rattle.syn_session.proofs.peer.PeerState.next_listings.Given as goal

abbrev pub invariant-window : goal.invariant-window
invariant-window l = record {
  waits : l.self.waiting ≡ l.fn.self.waiting;
  number : l.self.next_number ≡ l.fn.self.next_number;
  found : found_of l.self.scan ≡ found_of l.fn.self.scan;
  each : All (IsNextListing l.fn.self) l.next.items;
  apart : AllPairs (λ one other. one ≢ other) l.next.items;
  out : out_of l.self.scan ≡ out_of l.fn.self.scan ++ l.next.items;
  few : (l.next.items ≡ []) ⊎ (length l.fn.self.waiting.items + length l.next.items ≤ 8);
}

abbrev pub decreases-window : goal.decreases-window
decreases-window l = 8 - (length l.self.waiting.items + length l.next.items)
