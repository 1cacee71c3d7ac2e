use Rattle.std.proofs.Common.{◌≡◌, ◌∙◌, [], ap, length, map, refl, rules, sym, inl}
use Rattle.std.specs.Prelude.{nat_lt}
use Rattle.syn_machine.specs.Coordinator.{hearing}
use Rattle.syn_machine.specs.Network.{Left, Right, Which}
use Rattle.syn_machine.specs.Side.{Begin, ListAt}
use Rattle.syn_message.specs.Replies.{reply_of}
use Rattle.syn_path.specs.Sides.{which_of}
use Rattle.syn_session.specs.Answering.{asks_of, exchange_of}
use Rattle.syn_session.specs.Hearing.{at_once}
use Rattle.syn_session.specs.Stages.{peer_of, waiting_of}
use Rattle.syn_session.specs.declared.session.Asks.TheVariants.{Listings}
use Rattle.syn_session.proofs.HearingLemmas.{begun_heard, begun_lines, begun_out, both_begun}
use Rattle.syn_session.proofs.HearingLemmas.{tells_before}
use Rattle.syn_session.proofs.HeardNext.{hears_next, hears_refused}
use Rattle.syn_session.proofs.HearingLemmas.{waits_on}
use Rattle.syn_session.proofs.WaitingLemmas.{none_wait, some_wait}
use Rattle.syn_session.proofs.session.Session.hear_begun.Goals as goal

pub returns-in_err-check_begun : goal.returns-in_err-check_begun
returns-in_err-check_begun c = record {
  step = λ archive before running number pair is answers scans.
      let side = which_of c.args.from in
      hears_refused c.args.self.now running side number (Begin pair)
      (reply_of c.args.reply) c.from_residual.result _ c.from_residual.ensures.1
      (at_once (inl (c.in_err-check_begun.ensures running.taken side pair))
      (tells_before archive before c.args.self.now running side number (Begin pair)
      (reply_of c.args.reply) is answers scans c.args.self.now refl (λ _. refl) refl));
}

pub returns-then-waits_on : goal.returns-then-waits_on
returns-then-waits_on c = record {
  step = λ archive before running number pair is answers scans.
      let side = which_of c.args.from in
      let said = c.in_ok-check_begun.ensures running.taken side pair in (
        said.0,
        begun_heard archive before c.args.self.now running side number (Begin pair)
            (reply_of c.args.reply) is answers scans pair said.1 refl said.2,
        waits_on archive before c.args.self.now running side number (Begin pair)
            (reply_of c.args.reply) is answers scans pair said.1 refl said.2
            (some_wait _ (ap (λ on. nat_lt 0 (length (waiting_of (peer_of c.args.self.now on))))
            (sym c.other.ensures) ∙ (sym c.waits_on.ensures ∙ c.if-waits_on.true)))
            (Listings c.new.result c.new-then-waits_on.result) nothing,
      );
}
  where
    nothing : (on : Which) → asks_of (Listings c.new.result c.new-then-waits_on.result) on ≡ []
    nothing Left = ap (map ListAt) c.new.ensures.items
    nothing Right = ap (map ListAt) c.new-then-waits_on.ensures.items

pub returns : goal.returns
returns c = record {
  step = λ archive before running number pair is answers scans.
      let side = which_of c.args.from in
      let reply = reply_of c.args.reply in
      let said = c.in_ok-check_begun.ensures running.taken side pair in
      let across = ap (λ on. nat_lt 0 (length (waiting_of (peer_of c.args.self.now on))))
      (sym c.other.ensures) in
      let silent = none_wait _ (across ∙ (sym c.waits_on.ensures ∙ c.if-waits_on.false)) in
      let heard = hearing running (exchange_of side number (Begin pair) reply) in
      let has = begun_heard archive before c.args.self.now running side number
      (Begin pair) reply is answers scans pair said.1 refl said.2 in
      let both = both_begun archive before c.args.self.now running side number
      (Begin pair) reply is answers scans pair said.1 refl said.2 silent in
      let lines = begun_lines archive before c.args.self.now running side number
      (Begin pair) reply is answers scans pair said.1 refl said.2 silent in
      let out = begun_out archive before c.args.self.now running side number
      (Begin pair) reply is answers scans pair said.1 refl said.2 silent in
      hears_next c.args.self.now c.scan_on.new.self running side number (Begin pair) reply said.0
      has both lines out c.scan_on.ensures.same c.scan_on.result c.scan_on.ensures.next
      c.map_err.result (search rules);
}
