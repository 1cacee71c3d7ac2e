use Rattle.std.proofs.Common.{◌≡◌, ◌≢◌, ◌+◌, ◌∙◌, ◌++◌, ◌∷◌, [], true, ap, inr, sym}
use Rattle.std.proofs.Common.{subst, arith, append_assoc, get_or, length}
use Rattle.std.specs.Prelude.{All, AllPairs, Contains, IfSome}
use Rattle.std.proofs.lemmas.List.{length-append}
use Rattle.std.proofs.lemmas.List.Elements.{All-push, Contains-append_left}
use Rattle.std.proofs.lemmas.List.Elements.{Contains-append_right, Contains-get_or}
use Rattle.std.proofs.lemmas.List.Quantifiers.{all_pairs_push}
use Rattle.syn_model.specs.Path.{Path}
use Rattle.syn_scan.specs.Asked.{handed_out, is_out}
use Rattle.syn_session.specs.Scanning.{IsFoundIn, WaitsFor, WasAnswered, found_of, out_of}
use Rattle.syn_session.specs.inner.Listing.{IsNextListing}
use Rattle.syn_session.proofs.WaitingLemmas.{contains_out, out_contains}
use Rattle.syn_session.proofs.peer.PeerState.next_listings.Goals as goal

pub window-preserved : goal.window-preserved
window-preserved c =
    let was = c.window.invariant in
    let old = c.args.self.now in
    let path = c.in-Some.path in
    let next = c.window.next.items in
    let items : c.push.new.self.items ≡ next ++ path ∷ [] = c.in_ok-push.ensures.items in
    let unasked : ¬ WaitsFor c.window.self.scan path = subst (λ o. IfSome o
    (λ p. ¬ WaitsFor c.window.self.scan p)) c.in-Some.is c.in_ok-path.ensures.unasked in
    let fresh : (p : Path) → Contains (out_of old.scan ++ next) p → p ≢ path =
    λ p has same. unasked (subst (λ ps. is_out ps path ≡ true) (sym was.out)
    (subst (λ q. is_out (out_of old.scan ++ next) q ≡ true) same
    (contains_out (out_of old.scan ++ next) p has))) in
    let one : IsNextListing old path = record {
      lawful = c.names.ensures.lawful;
      unanswered =
          subst (λ f. ¬ WasAnswered f path) was.found (subst (λ o. IfSome o
          (λ p. ¬ WasAnswered (found_of c.window.self.scan) p)) c.in-Some.is
          c.in_ok-path.ensures.new);
      unasked =
          λ waits. fresh path (Contains-append_left (out_of old.scan) next path
          (out_contains (out_of old.scan) path waits)) Rattle.std.proofs.Common.refl;
      shown =
          λ side taken f. subst (λ o. IfSome o
          (λ p. Rattle.syn_machine.specs.Session.IsShown taken side p)) c.in-Some.is
          (c.in_ok-path.ensures.shown side taken
          (subst (λ g. IsFoundIn g side taken) (sym was.found) f));
    } in
    record {
      waits = was.waits;
      number = was.number;
      found = c.in_ok-path.ensures.found ∙ was.found;
      each = subst (All (IsNextListing old)) (sym items)
          (All-push (IsNextListing old) next path was.each one);
      apart = subst (AllPairs (λ (a b : Path). a ≢ b)) (sym items)
          (all_pairs_push (λ (a b : Path). a ≢ b) next path was.apart
          (λ k d less. fresh (get_or next k d) (Contains-append_right (out_of old.scan) next
          (get_or next k d) (Contains-get_or next k d less))));
      out =
          c.in_ok-path.ensures.out ∙ (ap (handed_out (out_of c.window.self.scan)) c.in-Some.is
          ∙ (ap (λ ps. ps ++ path ∷ []) was.out ∙ (append_assoc (out_of old.scan) next (path ∷ [])
          ∙ ap (λ ps. out_of old.scan ++ ps) (sym items))));
      few =
          let long = ap length items in
          let more = length-append next (path ∷ []) in
          let waits = ap (λ v. length v.items) was.waits in
          inr (omega (
            arith,
            long,
            more,
            waits,
            c.len.ensures,
            c.len-in-window.ensures,
            c.window-test.true,
            c.window.self.waiting.ok,
            c.window.next.ok,
          ));
    }
