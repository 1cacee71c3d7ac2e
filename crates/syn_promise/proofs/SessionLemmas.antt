-- What a session looked at was so, and what it put was held there.
use Rattle.std.proofs.Common.{◌≡◌, ◌≤◌, ◌∙◌, ℕ, List, ◌++◌, take, length}
use Rattle.std.proofs.Common.{sym, ap, subst, refl, filter_map, append_assoc}
use Rattle.std.specs.Prelude.{AllPairs, Contains, ◌≢◌, slice_get, Some}
use Rattle.std.proofs.lemmas.Option.{same_Some}
use Rattle.syn_model.specs.Mark.{mark}
use Rattle.syn_runs.proofs.EarlyLemmas.{entry_is}
use Rattle.std.proofs.lemmas.List.{take-append-le}
use Rattle.std.proofs.lemmas.List.Elements.{filter_map-append}
use Rattle.syn_model.specs.Path.{Path, Name, parent}
use Rattle.syn_model.specs.Tree.{Tree, Content}
use Rattle.syn_model.specs.Event.{Token}
use Rattle.syn_model.specs.History.{History, last_session}
use Rattle.syn_model.specs.Dirty.{Scan, IsScanBy}
use Rattle.syn_machine.specs.Side.{ListAt, Listed, NotDir}
use Rattle.syn_machine.specs.Network.{Which, Left, Right, other, Sent, WasAnswered}
use Rattle.syn_runs.specs.Picture.{Picture, stores_of}
use Rattle.syn_runs.specs.Headline.{StandsFor}
use Rattle.syn_runs.specs.Acknowledged.{Ack, Happened, Stores, history_of, stores_after}
use Rattle.syn_runs.specs.Acknowledged.{event_at, WasListed}
use Rattle.syn_runs.specs.Acknowledged as messages
use Rattle.syn_machine.specs.Planning.{Planned, SessionPlan, Log, seen_on}
use Rattle.syn_runs.proofs.Invariant.{IsTrueListing}
use Rattle.syn_promise.specs.Sessions.{IsAfterBegin, WasDirectory, WasNoDirectory, IsLegal}

-- what a side has after more was acknowledged begins with what it had
pub history_more : (before : Stores) (acks more : List Ack) (which : Which) →
    history_of (stores_after before (acks ++ more)) which
    ≡ history_of (stores_after before acks) which ++ filter_map (event_at which) more
history_more before acks more Left =
    ap (λ events. before.left ++ events) (filter_map-append (event_at Left) acks more)
    ∙ sym (append_assoc before.left (filter_map (event_at Left) acks)
    (filter_map (event_at Left) more))
history_more before acks more Right =
    ap (λ events. before.right ++ events) (filter_map-append (event_at Right) acks more)
    ∙ sym (append_assoc before.right (filter_map (event_at Right) acks)
    (filter_map (event_at Right) more))

same_stores : (one two : Stores) → one.left ≡ two.left → one.right ≡ two.right →
    one.archive ≡ two.archive → one ≡ two
same_stores one two left right archive =
    subst (λ x. one ≡ record { left = x; right = two.right; archive = two.archive }) left
    (subst (λ x. one ≡ record { left = one.left; right = x; archive = two.archive }) right
    (subst (λ x. one ≡ record { left = one.left; right = one.right; archive = x }) archive refl))

-- the machines stand for what was acknowledged
pub stands_as : (before : Stores) (world : Picture) → StandsFor before world →
    stores_of world ≡ stores_after before world.acknowledged
stands_as before world stands = same_stores (stores_of world)
    (stores_after before world.acknowledged) stands.left stands.right stands.archive

-- the token's item has these marks at its source
pub record HasMarks (log : Log) (side : Which) (token : Token) (new : Tree) : Type 0 where
  pub made : SessionPlan
  pub of_session : Contains log made × (made.session ≡ token.session)
  pub planned : Planned
  pub item : slice_get made.plan token.item ≡ Some planned
  pub marks : mark new ≡ (seen_on planned (other side)).marks

-- The messages of a run, and what its sides have after it: no answer is false
module _ (before : Stores) (acknowledged : List Ack) (sent : Sent)
    (answered : (side : Which) (session : ℕ) (path : Path) (position : ℕ)
    (entries : List (Name × Content)) →
    WasAnswered sent side session (ListAt path) (Listed position entries) →
    IsTrueListing (history_of (stores_after before acknowledged) side) session path position
    entries)
    (denied : (side : Which) (session : ℕ) (path : Path) (position : ℕ) →
    WasAnswered sent side session (ListAt path) (NotDir position) →
    WasNoDirectory (history_of (stores_after before acknowledged) side) session path position) where
  abbrev now : Which → History
  now side = history_of (stores_after before acknowledged) side

  -- a listing that a history had come to is true of it
  seen_then : (earlier : History) (later : History) (side : Which) → now side ≡ earlier ++ later →
      (session : ℕ) (path : Path) (position : ℕ) → WasListed sent side session path position →
      position ≤ length earlier → IsAfterBegin earlier session position
  seen_then earlier later side is session path position listed reached =
      let true_now = answered side session path position listed.0 listed.1 in
      record {
        reached = reached;
        begun = subst (λ h. session ≤ last_session h)
            (ap (take position) is ∙ take-append-le position earlier later reached)
            true_now.begun;
      }

  -- so a replacement is legal
  pub legal_then : (log : Log) (written : Stores) (side : Which) (token : Token) (path : Path)
      (since : ℕ) (new : Tree) → ((which : Which) →
      (later : History) × (now which ≡ history_of written which ++ later)) →
      AllPairs (λ earlier later. earlier.session ≢ later.session) log →
      HasMarks log side token new → messages.IsLegal sent log side written token path since new →
      IsLegal log side written token path since new
  legal_then log written side token path since new grows once has is =
      let same = entry_is log is.made once is.logged.0 has.made has.of_session.0
      (has.of_session.1 ∙ sym is.logged.1) in
      let same_item = same_Some has.planned is.planned (sym has.item
      ∙ (ap (λ made. slice_get made.plan token.item) same ∙ is.item.0)) in
      let here = grows side in
      let there = grows (other side) in
      record {
        made = is.made;
        of_session = is.logged;
        planned = is.planned;
        item = is.item;
        after_begin = seen_then (history_of written side) here.0 side here.1 token.session
            (parent path) since is.listed is.reached;
        at = is.seen;
        untouched = is.untouched;
        overwrites = is.recorded;
        source = record {
          after_begin = seen_then (history_of written (other side)) there.0 (other side) there.1
              token.session (parent path) (seen_on is.planned (other side)).since
              is.source.listed is.source.reached;
          directory = is.source.directory;
          held = is.source.held;
        };
        marks = has.marks ∙ ap (λ planned. (seen_on planned (other side)).marks) same_item;
      }

  -- what a scan shows was there
  pub scanned_so : (side : Which) (session : ℕ) (scan : Scan) (since : Path → ℕ) →
      IsScanBy (λ path position entries. WasAnswered sent side session (ListAt path)
      (Listed position entries))
      (λ path position. WasAnswered sent side session (ListAt path) (NotDir position)) scan since →
      IsScanBy (WasDirectory (now side) session) (WasNoDirectory (now side) session) scan since
  scanned_so side session scan since is = record {
    tree = is.tree;
    fits = is.fits;
    listed = λ path directory stable.
        let true_now = answered side session path _ _ (is.listed path directory stable) in
        record {
          after_begin = record { reached = true_now.reached; begun = true_now.begun };
          directory = true_now.directory;
          entries_are = true_now.entries_there;
        };
    not_dir = λ path unstable.
        let was = is.not_dir path unstable in (was.0, denied side session path _ was.1);
    nothing_below = is.nothing_below;
  }
