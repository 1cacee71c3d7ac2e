use Rattle.std.proofs.Common.{◌≡◌, ◌+◌, ◌∙◌, ◌++◌, ◌∷◌, [], ap, ap₂, sym, subst, append_assoc}
use Rattle.std.proofs.Common.{length, map, arith, rules}
use Rattle.std.proofs.lemmas.Grind.{common_steps}
use Rattle.std.proofs.lemmas.List.{map-append}
use Rattle.syn_machine.specs.Coordinator.{messages_to, numbered}
use Rattle.syn_machine.specs.Side.{ListAt}
use Rattle.syn_path.specs.Sides.{which_of}
use Rattle.syn_session.specs.Answering.{IsAskedOn}
use Rattle.syn_session.specs.Sendings.{messages_of}
use Rattle.syn_session.proofs.WaitingLemmas.{asked_more, sent_more}
use Rattle.syn_session.proofs.peer.PeerState.ask_listings.Goals as goal

pub loop-path-preserved : goal.loop-path-preserved
loop-path-preserved c =
    let was = c.loop-path.invariant in
    let old = c.args.self.now in
    let first = map ListAt c.loop-path.yielded in
    let path = c.in-Some.path in
    let to = which_of c.args.to in
    let all : map ListAt (c.loop-path.yielded ++ path ∷ []) ≡ first ++ ListAt path ∷ [] =
    map-append ListAt c.loop-path.yielded (path ∷ []) in
    record {
      whole = first_of (search rules, grind (arith, common_steps));
      asked = subst (IsAskedOn c.args.session old c.ask.new.self) (sym all)
          (asked_more c.args.session old c.loop-path.self c.ask.new.self first (ListAt path ∷ [])
          was.asked c.in_ok-ask.ensures.asked);
      sent =
          c.in_ok-ask.ensures.ok ∙ (ap₂ (λ l n. l
          ++ messages_to c.args.session to (numbered n (ListAt path ∷ []))) was.sent
          was.asked.count ∙ (append_assoc (messages_of c.args.sends.now.items)
          (messages_to c.args.session to (numbered old.next_number first))
          (messages_to c.args.session to (numbered (old.next_number + length first) (ListAt path ∷
          [])))
          ∙ ap (λ l. messages_of c.args.sends.now.items ++ l)
          (sym (ap (λ rs. messages_to c.args.session to (numbered old.next_number rs)) all
          ∙ sent_more c.args.session to old.next_number first (ListAt path ∷ [])))));
    }
