use Rattle.std.proofs.Common.{◌≡◌, ◌∙◌, ◌&&◌, ap₂, sym}
use Rattle.syn_session.specs.declared.session.Session.{Session}
use Rattle.syn_session.specs.inner.Listing.{is_silent}
use Rattle.syn_session.proofs.HearLemmas.{listed_so, lists_so}
use Rattle.syn_session.proofs.session.Session.scan_on.Goals as goal
use Rattle.syn_session.proofs.session.Session.scan_on.Goals.{After-are_silent}

abbrev then_ : After-are_silent → Session
then_ c = record {
  number = c.args.self.now.number;
  preference = c.args.self.now.preference;
  left = c.next_listings.new.self;
  right = c.next_listings-2.new.self;
  progress = c.args.self.now.progress;
}

same : (c : After-are_silent) → c.are_silent.result
    ≡ (is_silent (then_ c).left c.in_ok-left.left.items
    && is_silent (then_ c).right c.in_ok-right.right.items)
same c =
    c.are_silent.ensures
    ∙ ap₂ (λ l r. is_silent (then_ c).left l && is_silent (then_ c).right r)
    c.deref.ensures.value c.deref-2.ensures.value

pub returns-then-are_silent-clause-next : goal.returns-then-are_silent-clause-next
returns-then-are_silent-clause-next c =
    let k = (goal.at.returns-then-are_silent-clause-next c).After-are_silent in
    listed_so c.args.self.now (then_ k) c.in_ok-left.left c.in_ok-right.right
    c.in_ok-left.ensures.waits c.in_ok-right.ensures.waits c.in_ok-left.ensures.next
    c.in_ok-right.ensures.next (sym (same k) ∙ c.if-are_silent.true)

pub returns-clause-next : goal.returns-clause-next
returns-clause-next c =
    let k = (goal.at.returns-clause-next c).After-are_silent in
    lists_so c.args.self.now (then_ k) c.in_ok-left.left c.in_ok-right.right
    c.in_ok-left.ensures.waits c.in_ok-right.ensures.waits c.in_ok-left.ensures.next
    c.in_ok-right.ensures.next (sym (same k) ∙ c.if-are_silent.false)
