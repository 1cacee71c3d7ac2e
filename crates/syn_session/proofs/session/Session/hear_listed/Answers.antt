use Rattle.std.proofs.Common.{◌≡◌, ap, refl, rules}
use Rattle.syn_machine.specs.Side.{ListAt}
use Rattle.syn_message.specs.Replies.{reply_of}
use Rattle.syn_path.specs.Sides.{which_of}
use Rattle.syn_machine.proofs.NetworkLemmas.{on_both}
use Rattle.syn_session.specs.Hearing.{at_once}
use Rattle.syn_session.specs.Scanning.{found_of}
use Rattle.syn_session.specs.Stages.{found_on}
use Rattle.syn_session.specs.declared.peer.PeerState.{PeerState}
use Rattle.syn_session.proofs.HearingLemmas.{found_before, listed_begun}
use Rattle.syn_session.proofs.HeardNext.{hears_next, hears_refused}
use Rattle.syn_session.proofs.HearingLemmas.{listed_heard, listed_lines, listed_out}
use Rattle.syn_session.proofs.HeardNext.{swapped}
use Rattle.syn_session.proofs.HearingLemmas.{tells_before, waits_for}
use Rattle.syn_session.proofs.session.Session.hear_listed.Goals as goal

pub returns-in_err-take_listing : goal.returns-in_err-take_listing
returns-in_err-take_listing c = record {
  step = λ archive before running number is answers scans.
      let side = which_of c.args.from in
      let path = c.args.path.now in
      let reply = reply_of c.args.reply in
      let waits = waits_for archive before c.args.self.now running side number
      (ListAt path) reply is answers scans path refl in
      let found = found_before archive before c.args.self.now running side number
      (ListAt path) reply is answers scans path refl in
      let keeps = c.in_err-take_listing.ensures.keeps in
      hears_refused c.take_listing.new.self running side number
      (ListAt path) reply c.from_residual.result _ c.from_residual.ensures.1
      (at_once (swapped (c.in_err-take_listing.ensures.step running.taken number waits found))
      (tells_before archive before c.args.self.now running side number
      (ListAt path) reply is answers scans c.take_listing.new.self keeps.number_is
      (on_both (λ on. found_on c.take_listing.new.self on ≡ found_on c.args.self.now on) side
      c.in_err-take_listing.ensures.same
      (ap (λ (l : PeerState). found_of l.scan) keeps.across)) keeps.progress));
}

pub returns : goal.returns
returns c = record {
  step = λ archive before running number is answers scans.
      let side = which_of c.args.from in
      let path = c.args.path.now in
      let reply = reply_of c.args.reply in
      let now = c.args.self.now in
      let after = c.take_listing.new.self in
      let waits = waits_for archive before now running side number
      (ListAt path) reply is answers scans path refl in
      let before_found = found_before archive before now running side number
      (ListAt path) reply is answers scans path refl in
      let keeps = c.in_ok-take_listing.ensures.keeps in
      let step = c.in_ok-take_listing.ensures.step running.taken number waits before_found in
      let taken_out = c.in_ok-take_listing.ensures.out in
      let has = listed_heard archive before now running side number (ListAt path) reply is answers
      scans path refl after keeps step.1 taken_out in
      let both = listed_begun archive before now running side number (ListAt path) reply is answers
      scans path refl after keeps step.1 taken_out in
      let lines = listed_lines archive before now running side number (ListAt path) reply is answers
      scans path refl after keeps step.1 taken_out in
      let out = listed_out archive before now running side number (ListAt path) reply is answers
      scans path refl after keeps step.1 taken_out in
      hears_next after c.scan_on.new.self running side number (ListAt path) reply step.0 has both
      lines out c.scan_on.ensures.same c.scan_on.result c.scan_on.ensures.next c.map_err.result
      (search rules);
}
