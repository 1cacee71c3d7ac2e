-- A request that is answered over a connection, as the world has it: delivered where it came over
-- the connection of its session, and else a listing or a fetch that changes nothing. What is staged
-- for a session that is not the last any more changes nothing that counts.
use Rattle.std.proofs.Common.{◌≡◌, ◌<◌, ◌≤◌, inl, inr, ℕ, true, false, ◌==◌, List, []}
use Rattle.std.proofs.Common.{refl, sym, ap, ◌∙◌, subst, Option, arith}
use Rattle.std.specs.Prelude.{Contains}
use Rattle.std.proofs.lemmas.Bool.{eqb-true, eqb-false}
use Rattle.syn_model.specs.Path.{Bytes, Path}
use Rattle.syn_model.specs.Refusal.{Refusal, OldSession}
use Rattle.syn_model.specs.Event.{Event}
use Rattle.syn_model.specs.History.{last_session}
use Rattle.syn_machine.specs.Side.{Staging, Request, Begin, ListAt, Fetch, Stage, Replace, Reply}
use Rattle.syn_machine.specs.Side.{token_of}
use Rattle.syn_machine.specs.SideMachine.{SideMachine, SideTakes, staging_after}
use Rattle.syn_machine.specs.Server.{Server, ByRequest, Live, after_request}
use Rattle.syn_machine.specs.Network.{Which, Asks}
use Rattle.syn_runs.specs.World.{World, side_of}
use Rattle.syn_runs.specs.Merged.{MayChange}
use Rattle.syn_runs.proofs.OtherStaging.{IsBlind, IsNoStage, IsUpTo, begins, lists, fetches}
use Rattle.syn_runs.proofs.OtherStaging.{replaces, dead_elsewhere, nothing_staged}
use Rattle.syn_runs.proofs.SameSteps.{AddsNothing, AreAlike, IsRead, StagesFor, machine_with}
use Rattle.syn_runs.proofs.SameSteps.{reads_nothing, stage_takes, stages_for, stages_nothing}
use Rattle.syn_runs.proofs.SameSteps.{takes_blind, takes_grows, takes_kept}
use Rattle.syn_runs.proofs.ShownServers.{Shows, IfLive, as_after, last_of, shows_after}
use Rattle.syn_runs.proofs.ShownServers.{shows_old, shows_staged, up_stays, below}
use Rattle.syn_runs.proofs.BegunSessions.{BeginsInOrder, last_on}
use Rattle.syn_runs.proofs.MergedSides.{SideMoves, idle, delivered}

up_after : (session : ℕ) (old new : Option Staging) → StagesFor session old new →
    IsUpTo session old → IsUpTo session new
up_after session old new (inl same) up = subst (IsUpTo session) (sym same) up
up_after session old new (inr for) up = for.1

module _ (over : ℕ → ℕ) (side : Which) (server : Server) (old : World)
    (journal_is : (side_of old side).journal ≡ server.journal)
    (shows : Shows over server (side_of old side).staging) (in_order : BeginsInOrder old)
    (connection session number : ℕ) (a : Option Staging)
    (is_live : server.connections connection ≡ Live a) where
  abbrev here : Option Staging
  here = (side_of old side).staging

  abbrev last : ℕ
  last = last_of server

  last_is : last_on old side ≡ last
  last_is = ap (λ journal. last_session journal.value) journal_is

  live_here : (P : Option Staging → Type 0) (one : ℕ) → one ≡ connection →
      IfLive P (server.connections one) → P a
  live_here P one same so = subst (IfLive P) (ap server.connections same ∙ is_live) so

  module _ (request : Request) (machine : SideMachine) (reply : Option Reply) (events : List Event)
      (takes : SideTakes old.pair (machine_with server.journal a) session request machine reply
      events) where
    abbrev Moves : Type 0
    Moves = SideMoves over side server (after_request server connection machine) (record {
      hold = ByRequest connection session number request;
      reply = reply;
      events = events;
      refusals = [];
    }) old

    -- it stages nothing
    module _ (free : IsNoStage request)
        (asked : Contains old.sent (Asks side session number request)) where
      grown : last ≤ last_session machine.journal.value
      grown = takes_grows old.pair server.journal a session request
          (in_order.lawful side session number request asked) machine reply events takes

      kept : machine.staging ≡ staging_after machine.journal.status a
      kept = takes_kept old.pair server.journal a session request free machine reply events takes

      delivered_so : SideTakes old.pair (machine_with server.journal here) session request
          (machine_with machine.journal (staging_after machine.journal.status here)) reply events →
          Moves
      delivered_so takes_here =
          delivered over side server old journal_is shows
          (after_request server connection machine) connection session number request
          (machine_with machine.journal (staging_after machine.journal.status here)) reply events
          asked takes_here refl
          (shows_after over server here shows machine.journal grown
          (after_request server connection machine).connections
          (as_after over server here shows connection a is_live machine kept)) grown

      blind : IsBlind server.journal.value a here session request → Moves
      blind so =
          delivered_so (takes_blind old.pair server.journal a session request here so machine reply
          events takes)

      same : a ≡ here → Moves
      same is =
          delivered_so (subst (λ staging. SideTakes old.pair (machine_with server.journal here)
          session request (machine_with machine.journal staging) reply events)
          (kept ∙ ap (staging_after machine.journal.status) is)
          (subst (λ staging. SideTakes old.pair (machine_with server.journal staging) session
          request machine reply events) is takes))

    -- it adds nothing
    module _ (nothing : AddsNothing server.journal machine events)
        (no_reply : connection ≡ over session → session < last) where
      idle_so : Shows over (after_request server connection
          (machine_with server.journal machine.staging)) here → Moves
      idle_so shown =
          subst (λ events. SideMoves over side server (after_request server connection machine)
          (record {
            hold = ByRequest connection session number request;
            reply = reply;
            events = events;
            refusals = [];
          }) old) (sym nothing.no_event)
          (idle over side server old journal_is shows (after_request server connection machine)
          (ByRequest connection session number request) reply refl nothing.journal_is
          (subst (λ journal. Shows over (after_request server connection
          (machine_with journal machine.staging)) here) (sym nothing.journal_is) shown)
          (λ s n q is. subst (λ x. x < last) (same_session s n q is)
          (no_reply (same_connection s n q is ∙ ap over (sym (same_session s n q is))))))
        where
          same_session : (s n : ℕ) (q : Request) →
              ByRequest connection session number request ≡ ByRequest (over s) s n q → session ≡ s
          same_session s n q is = cc

          same_connection : (s n : ℕ) (q : Request) →
              ByRequest connection session number request ≡ ByRequest (over s) s n q →
              connection ≡ over s
          same_connection s n q is = cc

  -- a listing or a fetch over another connection
  stranger : (request : Request) (machine : SideMachine) (reply : Option Reply)
      (events : List Event) (takes : SideTakes old.pair (machine_with server.journal a) session
      request machine reply events) → IsNoStage request → IsRead request →
      (connection ≡ over session → ⊥) → Moves request machine reply events takes
  stranger request machine reply events takes free read apart =
      let nothing = reads_nothing old.pair server.journal a session request read machine reply
      events takes in
      let kept : machine.staging ≡ staging_after server.journal.status a =
      takes_kept old.pair server.journal a session request free machine reply events takes
      ∙ ap (λ journal. staging_after journal.status a) nothing.journal_is in
      idle_so request machine reply events takes nothing (λ same. absurd (apart same))
      (subst (λ staging. Shows over (after_request server connection
      (machine_with server.journal machine.staging)) staging)
      (up_stays server.journal.status here nothing.not_down)
      (shows_after over server here shows server.journal (omega arith)
      (after_request server connection (machine_with server.journal machine.staging)).connections
      (as_after over server here shows connection a is_live
      (machine_with server.journal machine.staging) kept)))

  -- a piece
  module _ (item offset : ℕ) (bytes : Bytes) (machine : SideMachine) (reply : Option Reply)
      (events : List Event)
      (takes : SideTakes old.pair (machine_with server.journal a) session
      (Stage item offset bytes) machine reply events)
      (asked : Contains old.sent (Asks side session number (Stage item offset bytes)))
      (this : connection ≡ over session) where
    abbrev Stages : Type 0
    Stages = Moves (Stage item offset bytes) machine reply events takes

    nothing : AddsNothing server.journal machine events
    nothing = stages_nothing old.pair server.journal a session item offset bytes machine reply
        events takes

    for : StagesFor session a machine.staging
    for = stages_for old.pair server.journal a session item offset bytes machine reply events takes

    within : session ≤ last
    within = subst (λ n. session ≤ n) last_is
        (in_order.staged side session number item offset bytes asked)

    old_piece : session < last → Stages
    old_piece earlier =
        idle_so (Stage item offset bytes) machine reply events takes nothing (λ same. earlier)
        (shows_old over server here shows connection a is_live nothing.not_down machine.staging
        session earlier for)

    new_piece : session ≡ last → Stages
    new_piece now =
        let alike : AreAlike session a here =
        subst (λ n. AreAlike n a here) (sym now)
        (live_here (λ other. AreAlike last other here) (over last)
        (sym (this ∙ ap over now)) shows.alike) in
        let so = stage_takes old.pair server.journal a here session item offset bytes alike machine
        reply events takes in
        let there = stages_for old.pair server.journal here session item offset bytes
        (machine_with machine.journal so.staging) reply events so.takes in
        delivered over side server old journal_is shows
        (after_request server connection machine) connection session number
        (Stage item offset bytes) (machine_with machine.journal so.staging) reply events asked
        so.takes refl
        (subst (λ journal. Shows over (after_request server connection
        (machine_with journal machine.staging)) so.staging) (sym nothing.journal_is)
        (shows_staged over server here shows connection a is_live nothing.not_down machine.staging
        (this ∙ ap over now)
        (subst (λ n. IsUpTo n machine.staging) now (up_after session a machine.staging for
        (subst (λ n. IsUpTo n a) (sym now)
        (live_here (IsUpTo last) connection refl (shows.there connection)))))
        so.staging
        (subst (λ n. IsUpTo n so.staging) now (up_after session here so.staging there
        (subst (λ n. IsUpTo n here) (sym now) shows.here)))
        (subst (λ n. AreAlike n machine.staging so.staging) now so.alike)))
        (subst (λ journal. last ≤ last_session journal.value) (sym nothing.journal_is)
        (omega arith))

    pub staged : Stages
    staged = elim (session == last) as (λ b. (session == last) ≡ b → Stages) [
      | true ↦ λ e. new_piece (eqb-true session last e)
      | false ↦ λ e. old_piece (below session last within (eqb-false session last e))
    ] refl

  -- a replacement
  module _ (item : ℕ) (path : Path) (since size : ℕ) (machine : SideMachine)
      (reply : Option Reply) (events : List Event)
      (takes : SideTakes old.pair (machine_with server.journal a) session
      (Replace item path since size) machine reply events)
      (asked : Contains old.sent (Asks side session number (Replace item path since size)))
      (this : connection ≡ over session) where
    abbrev Puts : Type 0
    Puts = Moves (Replace item path since size) machine reply events takes

    as_refused : (reason : Refusal) → IsBlind server.journal.value a here session
        (Replace item path since size) → Puts
    as_refused reason so = blind (Replace item path since size) machine reply events takes tt asked
        so

    elsewhere : (session == last) ≡ false → Puts
    elsewhere apart =
        as_refused OldSession (replaces item path since size OldSession
        (dead_elsewhere server.journal.value a (token_of session item) size apart)
        (dead_elsewhere server.journal.value here (token_of session item) size apart))

    by_alike : AreAlike session a here → Puts
    by_alike (inl is) =
        same (Replace item path since size) machine reply events takes tt asked is
    by_alike (inr both) =
        as_refused OldSession (replaces item path since size _
        (nothing_staged server.journal.value a (token_of session item) size both.0)
        (nothing_staged server.journal.value here (token_of session item) size both.1))

    now_put : session ≡ last → Puts
    now_put now =
        by_alike (subst (λ n. AreAlike n a here) (sym now)
        (live_here (λ other. AreAlike last other here) (over last)
        (sym (this ∙ ap over now)) shows.alike))

    pub replaced : Puts
    replaced = elim (session == last) as (λ b. (session == last) ≡ b → Puts) [
      | true ↦ λ e. now_put (eqb-true session last e)
      | false ↦ λ e. elsewhere e
    ] refl

  -- any request
  over_its_own : (request : Request) (machine : SideMachine) (reply : Option Reply)
      (events : List Event) (takes : SideTakes old.pair (machine_with server.journal a) session
      request machine reply events) → connection ≡ over session →
      Contains old.sent (Asks side session number request) →
      Moves request machine reply events takes
  over_its_own (Begin pair) machine reply events takes this asked =
      blind (Begin pair) machine reply events takes tt asked (begins pair)
  over_its_own (ListAt path) machine reply events takes this asked =
      blind (ListAt path) machine reply events takes tt asked (lists path)
  over_its_own (Fetch path since offset) machine reply events takes this asked =
      blind (Fetch path since offset) machine reply events takes tt asked
      (fetches path since offset)
  over_its_own (Stage item offset bytes) machine reply events takes this asked =
      staged item offset bytes machine reply events takes asked this
  over_its_own (Replace item path since size) machine reply events takes this asked =
      replaced item path since size machine reply events takes asked this

  over_another : (request : Request) (machine : SideMachine) (reply : Option Reply)
      (events : List Event) (takes : SideTakes old.pair (machine_with server.journal a) session
      request machine reply events) → (connection ≡ over session → ⊥) →
      (MayChange request → connection ≡ over session) →
      Moves request machine reply events takes
  over_another (Begin pair) machine reply events takes apart may = absurd (apart (may tt))
  over_another (ListAt path) machine reply events takes apart may =
      stranger (ListAt path) machine reply events takes tt tt apart
  over_another (Fetch path since offset) machine reply events takes apart may =
      stranger (Fetch path since offset) machine reply events takes tt tt apart
  over_another (Stage item offset bytes) machine reply events takes apart may =
      absurd (apart (may tt))
  over_another (Replace item path since size) machine reply events takes apart may =
      absurd (apart (may tt))

  pub request_moves : (request : Request) (machine : SideMachine) (reply : Option Reply)
      (events : List Event) (takes : SideTakes old.pair (machine_with server.journal a) session
      request machine reply events) → (MayChange request → connection ≡ over session) →
      (connection ≡ over session → Contains old.sent (Asks side session number request)) →
      Moves request machine reply events takes
  request_moves request machine reply events takes may asked =
      elim (connection == over session) as (λ b. (connection == over session) ≡ b →
      Moves request machine reply events takes) [
        | true ↦ λ e. over_its_own request machine reply events takes
            (eqb-true connection (over session) e) (asked (eqb-true connection (over session) e))
        | false ↦ λ e. over_another request machine reply events takes
            (eqb-false connection (over session) e) may
      ] refl
