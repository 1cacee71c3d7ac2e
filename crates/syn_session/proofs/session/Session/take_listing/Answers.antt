use Rattle.std.proofs.Common.{◌≡◌, ◌⊎◌, None, Some, MatchResult, subst, sym}
use Rattle.syn_machine.specs.Session.{fault_of}
use Rattle.syn_machine.specs.Side.{ListAt}
use Rattle.syn_message.specs.Replies.{reply_of}
use Rattle.syn_path.specs.Sides.{which_of}
use Rattle.syn_model.specs.Refusal.{Memory}
use Rattle.syn_refusal.specs.Refusals.{cause_of}
use Rattle.syn_session.specs.Scanning.{IsFoundIn, WaitsFor, with_listing_answered}
use Rattle.syn_path.specs.declared.side.Side.TheVariants.{Left, Right}
use Rattle.syn_session.specs.Stages.{found_on, peer_of}
use Rattle.syn_session.specs.declared.session.Session.{Session}
use Rattle.syn_session.proofs.session.Session.take_listing.Goals as goal

pub returns-in-Left-clause-step : goal.returns-in-Left-clause-step
returns-in-Left-clause-step c taken number =
    let self = c.args.self.now in let path = c.args.path.now in let reply = reply_of c.args.reply in
    let now : Session = record {
      number = self.number;
      preference = self.preference;
      left =
          record {
            waiting = self.left.waiting;
            next_number = self.left.next_number;
            scan =
                c.take.new.self;
          };
      right = self.right;
      progress = self.progress;
    } in
    subst (λ f. WaitsFor (peer_of self (which_of f)).scan path →
    IsFoundIn (found_on self (which_of f)) (which_of f) taken → MatchResult c.take.result
    (λ _. (fault_of taken (which_of f) (ListAt path) reply ≡ None) × IsFoundIn (found_on now
    (which_of f)) (which_of f) (with_listing_answered taken (which_of f) number path reply))
    (λ e. (cause_of e ≡ Memory)
    ⊎ (fault_of taken (which_of f) (ListAt path) reply ≡ Some (cause_of e)))) (sym c.in-Left.is)
    (c.take.ensures.step (which_of Left) taken number)

pub returns-in-Right-clause-step : goal.returns-in-Right-clause-step
returns-in-Right-clause-step c taken number =
    let self = c.args.self.now in let path = c.args.path.now in let reply = reply_of c.args.reply in
    let now : Session = record {
      number = self.number;
      preference = self.preference;
      left = self.left;
      right = record {
        waiting = self.right.waiting;
        next_number = self.right.next_number;
        scan = c.take-in-Right.new.self;
      };
      progress = self.progress;
    } in
    subst (λ f. WaitsFor (peer_of self (which_of f)).scan path →
    IsFoundIn (found_on self (which_of f)) (which_of f) taken → MatchResult c.take-in-Right.result
    (λ _. (fault_of taken (which_of f) (ListAt path) reply ≡ None) × IsFoundIn (found_on now
    (which_of f)) (which_of f) (with_listing_answered taken (which_of f) number path reply))
    (λ e. (cause_of e ≡ Memory)
    ⊎ (fault_of taken (which_of f) (ListAt path) reply ≡ Some (cause_of e)))) (sym c.in-Right.is)
    (c.take-in-Right.ensures.step (which_of Right) taken number)
