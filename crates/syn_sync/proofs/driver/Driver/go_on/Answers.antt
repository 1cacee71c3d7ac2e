use Rattle.std.proofs.Common.{◌∙◌, subst, sym}
use Rattle.syn_message.specs.Replies.{reply_message_of}
use Rattle.syn_path.specs.Sides.{which_of}
use Rattle.syn_coordinator.specs.Coordinators.{written}
use Rattle.syn_session.specs.Sendings.{messages_of}
use Rattle.syn_sync.proofs.RunLemmas.{drives_none, drives_take, drives_taken, drives_twice}
use Rattle.syn_sync.proofs.RunLemmas.{stands_of}
use Rattle.syn_sync.proofs.WriteLemmas.{writes_nothing}
use Rattle.syn_sync.proofs.driver.Driver.go_on.Goals as goal
use Rattle.syn_sync.specs.Drivers.{states_of, outlets_of}
use Rattle.syn_sync.specs.Outlets.{Writes}
use Rattle.syn_sync.specs.Runs.{frames_to}

pub loop-init : goal.loop-init
loop-init g c = record {
  drives = λ pair machine stands.
      let outlets = outlets_of {R = g.row.R.Denot} {W = g.row.W.Denot} g.W.Write.contents
      c.args.self.now in
      let states = states_of {R = g.row.R.Denot} {W = g.row.W.Denot} g.R.Read.remaining
      c.args.self.now in
      drives_none c.args.coordinator.now pair machine states outlets outlets stands
      stands.journal.goes (λ side. writes_nothing (outlets side) (outlets side).goes);
  calm = c.requires.goes;
}

-- no side is read any more, as once the session has ended, or the loop is at its end
pub returns-in_default : goal.returns-in_default
returns-in_default g c = λ pair machine stands. (
  states_of {R = g.row.R.Denot} {W = g.row.W.Denot} g.R.Read.remaining c.loop.self,
  c.loop.invariant.drives pair machine stands,
)

pub returns : goal.returns
returns g c = λ pair machine stands. (
  states_of {R = g.row.R.Denot} {W = g.row.W.Denot} g.R.Read.remaining c.loop.self,
  c.loop.invariant.drives pair machine stands,
)

-- nothing is heard more
pub returns-in_default-receive : goal.returns-in_default-receive
returns-in_default-receive g c = λ pair machine stands.
    let outlets = outlets_of {R = g.row.R.Denot} {W = g.row.W.Denot} g.W.Write.contents in
    let states = states_of {R = g.row.R.Denot} {W = g.row.W.Denot} g.R.Read.remaining in
    let here = c.loop.invariant.drives pair machine stands in
    let calm = c.loop.invariant.calm in (
      states c.loop.self,
      drives_twice c.loop.coordinator c.loop.coordinator pair machine (states c.args.self.now)
          (states c.loop.self) (states c.loop.self) (outlets c.args.self.now)
          (outlets c.loop.self) (outlets c.receive.new.self) here calm
          (drives_none c.loop.coordinator pair here.reached (states c.loop.self)
          (outlets c.loop.self) (outlets c.receive.new.self)
          (stands_of c.loop.coordinator pair here.reached here.ends calm) calm
          c.receive.ensures.written),
    )

-- the watch wants no more
pub returns-then-not-heard : goal.returns-then-not-heard
returns-then-not-heard g c = λ pair machine stands.
    let outlets = outlets_of {R = g.row.R.Denot} {W = g.row.W.Denot} g.W.Write.contents in
    let states = states_of {R = g.row.R.Denot} {W = g.row.W.Denot} g.R.Read.remaining in
    let here = c.loop.invariant.drives pair machine stands in
    let calm = c.loop.invariant.calm in (
      states c.loop.self,
      drives_twice c.loop.coordinator c.loop.coordinator pair machine (states c.args.self.now)
          (states c.loop.self) (states c.loop.self) (outlets c.args.self.now)
          (outlets c.loop.self) (outlets c.receive.new.self) here calm
          (drives_none c.loop.coordinator pair here.reached (states c.loop.self)
          (outlets c.loop.self) (outlets c.receive.new.self)
          (stands_of c.loop.coordinator pair here.reached here.ends calm) calm
          c.receive.ensures.written),
    )

-- the machine is stopped as it takes a reply
pub returns-then-is_cut : goal.returns-then-is_cut
returns-then-is_cut g c = λ pair machine stands.
    let outlets = outlets_of {R = g.row.R.Denot} {W = g.row.W.Denot} g.W.Write.contents in
    let states = states_of {R = g.row.R.Denot} {W = g.row.W.Denot} g.R.Read.remaining in
    let here = c.loop.invariant.drives pair machine stands in
    let calm = c.loop.invariant.calm in
    let new = c.hear-sends.new.coordinator in (
      states c.receive.new.self,
      drives_twice c.loop.coordinator new pair machine (states c.args.self.now)
          (states c.loop.self) (states c.receive.new.self) (outlets c.args.self.now)
          (outlets c.loop.self) (outlets c.receive.new.self) here calm
          (drives_taken c.loop.coordinator new pair here.reached (which_of c.in-Some.from)
          (reply_message_of c.in-Some-receive.answered) (written new)
          (messages_of c.hear-sends.result.items) (states c.loop.self)
          (states c.receive.new.self) (outlets c.loop.self) (outlets c.receive.new.self)
          (c.hear-sends.ensures pair here.reached
          (stands_of c.loop.coordinator pair here.reached here.ends calm))
          c.in-Some-receive.ensures.heard c.receive.ensures.written
          (sym c.is_cut.ensures ∙ c.if-is_cut.true)),
    )

-- a reply is taken, and what that sends is written
pub loop-preserved : goal.loop-preserved
loop-preserved g c = record {
  drives = λ pair machine stands.
      let outlets = outlets_of {R = g.row.R.Denot} {W = g.row.W.Denot} g.W.Write.contents in
      let states = states_of {R = g.row.R.Denot} {W = g.row.W.Denot} g.R.Read.remaining in
      let here = c.loop.invariant.drives pair machine stands in
      let calm = c.loop.invariant.calm in
      let new = c.hear-sends.new.coordinator in
      let to = c.send_all.new.self in
      drives_twice c.loop.coordinator new pair machine (states c.args.self.now)
      (states c.loop.self) (states to) (outlets c.args.self.now)
      (outlets c.loop.self) (outlets to) here calm
      (drives_take c.loop.coordinator new pair here.reached (which_of c.in-Some.from)
      (reply_message_of c.in-Some-receive.answered) (written new)
      (messages_of c.hear-sends.result.items) (states c.loop.self)
      (states c.receive.new.self) (states to) (outlets c.loop.self)
      (outlets c.receive.new.self) (outlets to)
      (c.hear-sends.ensures pair here.reached
      (stands_of c.loop.coordinator pair here.reached here.ends calm))
      c.in-Some-receive.ensures.heard c.receive.ensures.written
      (sym c.is_cut.ensures ∙ c.if-is_cut.false)
      c.send_all.ensures.states
      (λ side. subst (λ sends. Writes (outlets c.receive.new.self side) (outlets to side)
      (frames_to side (messages_of sends)) (outlets to side).goes) c.deref.ensures.value
      (c.send_all.ensures.written side)));
  calm = sym c.is_cut.ensures ∙ c.if-is_cut.false;
}
