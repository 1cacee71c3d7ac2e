-- The one staging of the world's side stands for those of a server: for the session that was begun
-- last it is what was staged over the connection of that session.
use Rattle.std.proofs.Common.{◌≡◌, ◌≢◌, ◌<◌, ◌≤◌, ◌⊎◌, inl, inr, ℕ, Bool, true, false, ◌==◌}
use Rattle.std.proofs.Common.{if◌then◌else◌, refl, sym, ap, ◌∙◌, subst, Option, Some, None, arith}
use Rattle.std.proofs.Common.{nat_lt}
use Rattle.std.proofs.lemmas.Bool.{eqb-true, eqb-false, ltb-true, ltb-false}
use Rattle.syn_model.specs.History.{last_session}
use Rattle.syn_machine.specs.Machine.{Status, Up, Halted, Down}
use Rattle.syn_machine.specs.Side.{Staging}
use Rattle.syn_machine.specs.SideMachine.{SideMachine, staging_after}
use Rattle.syn_machine.specs.Server.{Server, Connection, Live, Closed, connection_after}
use Rattle.syn_machine.specs.Server.{after_request, without_connection}
use Rattle.syn_runs.proofs.OtherStaging.{IsPast, IsUpTo}
use Rattle.syn_runs.proofs.SameSteps.{AreAlike, Journal, StagesFor, machine_with}

-- it holds of what is staged over a connection that is live
abbrev pub IfLive : (Option Staging → Type 0) → Connection → Type 0
IfLive P (Live staging) = P staging
IfLive P Closed = Unit {0}

abbrev pub last_of : Server → ℕ
last_of server = last_session server.journal.value

-- nothing is staged for a session that was not begun, and for the one begun last the side has what
-- its connection has, as far as that session sees
pub record Shows (over : ℕ → ℕ) (server : Server) (staging : Option Staging) : Type 0 where
  pub here : IsUpTo (last_of server) staging
  pub there : (connection : ℕ) → IfLive (IsUpTo (last_of server)) (server.connections connection)
  pub alike : IfLive (λ other. AreAlike (last_of server) other staging)
      (server.connections (over (last_of server)))

-- Stagings, as sessions are begun

pub up_to_later : (m n : ℕ) (staging : Option Staging) → m ≤ n → IsUpTo m staging →
    IsUpTo n staging
up_to_later m n None le up = tt
up_to_later m n (Some staging) le up = omega (arith, le, up)

pub past_later : (m n : ℕ) (staging : Option Staging) → m < n → IsUpTo m staging →
    IsPast n staging
past_later m n None lt up = tt
past_later m n (Some staging) lt up = omega (arith, lt, up)

after_status : (P : Option Staging → Type 0) (status : Status) (staging : Option Staging) →
    P None → P staging → P (staging_after status staging)
after_status P Up staging none so = so
after_status P Halted staging none so = so
after_status P Down staging none so = none

alike_after : (session : ℕ) (status : Status) (a b : Option Staging) → AreAlike session a b →
    AreAlike session (staging_after status a) (staging_after status b)
alike_after session Up a b alike = alike
alike_after session Halted a b alike = alike
alike_after session Down a b alike = inl refl

pub up_stays : (status : Status) (staging : Option Staging) → status ≢ Down →
    staging_after status staging ≡ staging
up_stays Up staging up = refl
up_stays Halted staging up = refl
up_stays Down staging up = absurd (up refl)

connection_stays : (status : Status) (connection : Connection) → status ≢ Down →
    connection_after status connection ≡ connection
connection_stays status Closed up = refl
connection_stays status (Live staging) up = ap Live (up_stays status staging up)

live_after : (P Q : Option Staging → Type 0) (status : Status) (connection : Connection) →
    ((staging : Option Staging) → P staging → Q (staging_after status staging)) →
    IfLive P connection → IfLive Q (connection_after status connection)
live_after P Q status Closed so live = tt
live_after P Q status (Live staging) so live = so staging live

both_live : (P Q R : Option Staging → Type 0) (connection : Connection) →
    ((staging : Option Staging) → P staging → Q staging → R staging) → IfLive P connection →
    IfLive Q connection → IfLive R connection
both_live P Q R Closed so p q = tt
both_live P Q R (Live staging) so p q = so staging p q

pub below : (m n : ℕ) → m ≤ n → (m ≡ n → ⊥) → m < n
below m n le apart = by (ltb_cases m n)
  where
    by : (m < n) ⊎ (n ≤ m) → m < n
    by (inl lt) = lt
    by (inr ge) = absurd (apart (omega (arith, le, ge)))

    ltb_cases : (m n : ℕ) → (m < n) ⊎ (n ≤ m)
    ltb_cases m n = elim (nat_lt m n) as (λ b. nat_lt m n ≡ b → (m < n) ⊎ (n ≤ m)) [
      | true ↦ λ e. inl (ltb-true m n e)
      | false ↦ λ e. inr (ltb-false m n e)
    ] refl

module _ (over : ℕ → ℕ) (server : Server) (staged : Option Staging) (shows : Shows over server
    staged) where
  abbrev last : ℕ
  last = last_of server

  module _ (journal : Journal) (grows : last_of server ≤ last_session journal.value)
      (connections : ℕ → Connection) (are : (connection : ℕ) → connections connection
      ≡ connection_after journal.status (server.connections connection)) where
    abbrev now : ℕ
    now = last_session journal.value

    there_after : (connection : ℕ) → IfLive (IsUpTo now) (connections connection)
    there_after connection =
        subst (IfLive (IsUpTo now)) (sym (are connection))
        (live_after (IsUpTo last) (IsUpTo now) journal.status (server.connections connection)
        (λ staging up. after_status (IsUpTo now) journal.status staging tt
        (up_to_later last now staging grows up)) (shows.there connection))

    here_after : IsUpTo now (staging_after journal.status staged)
    here_after =
        after_status (IsUpTo now) journal.status staged tt (up_to_later last now staged grows
        shows.here)

    same_after : last ≡ now →
        IfLive (λ other. AreAlike now other (staging_after journal.status staged))
        (connections (over now))
    same_after same =
        subst (λ n. IfLive (λ other. AreAlike n other (staging_after journal.status staged))
        (connections (over n))) same
        (subst (IfLive (λ other. AreAlike last other (staging_after journal.status staged)))
        (sym (are (over last)))
        (live_after (λ other. AreAlike last other staged)
        (λ other. AreAlike last other (staging_after journal.status staged)) journal.status
        (server.connections (over last))
        (λ other alike. alike_after last journal.status other staged alike) shows.alike))

    later_after : last < now →
        IfLive (λ other. AreAlike now other (staging_after journal.status staged))
        (connections (over now))
    later_after later =
        let past : IsPast now (staging_after journal.status staged) =
        after_status (IsPast now) journal.status staged tt (past_later last now staged later
        shows.here) in
        subst (IfLive (λ other. AreAlike now other (staging_after journal.status staged)))
        (sym (are (over now)))
        (live_after (IsUpTo last)
        (λ other. AreAlike now other (staging_after journal.status staged)) journal.status
        (server.connections (over now))
        (λ other up. inr (
          after_status (IsPast now) journal.status other tt
              (past_later last now other later up),
          past,
        )) (shows.there (over now)))

    alike_then : (b : Bool) → (last == now) ≡ b →
        IfLive (λ other. AreAlike now other (staging_after journal.status staged))
        (connections (over now))
    alike_then true e = same_after (eqb-true last now e)
    alike_then false e = later_after (below last now grows (eqb-false last now e))

    -- a step that stages nothing
    pub shows_after : Shows over (record { journal = journal; connections = connections })
        (staging_after journal.status staged)
    shows_after = record {
      here = here_after;
      there = there_after;
      alike = alike_then (last == now) refl;
    }

  without : (P : Option Staging → Type 0) (closed connection : ℕ) →
      IfLive P (server.connections connection) →
      IfLive P (if connection == closed then Closed else server.connections connection)
  without P closed connection so = elim (connection == closed)
      as (λ b. IfLive P (if b then Closed else server.connections connection)) [
        | true ↦ tt
        | false ↦ so
      ]

  -- a connection that closed
  pub shows_closed : (closed : ℕ) → Shows over (without_connection server closed) staged
  shows_closed closed = record {
    here = shows.here;
    there =
        λ connection. without (IsUpTo last) closed connection (shows.there connection);
    alike = without (λ other. AreAlike last other staged) closed (over last) shows.alike;
  }

  -- A request over a connection that is live
  module _ (connection : ℕ) (a : Option Staging) (is_live : server.connections connection ≡ Live a)
    where
      -- it stages nothing
      pub as_after : (machine : SideMachine) →
          machine.staging ≡ staging_after machine.journal.status a → (one : ℕ) →
          (after_request server connection machine).connections one
          ≡ connection_after machine.journal.status (server.connections one)
      as_after machine kept one = elim (one == connection)
          as (λ b. (one == connection) ≡ b → (if b then Live machine.staging
          else connection_after machine.journal.status (server.connections one))
          ≡ connection_after machine.journal.status (server.connections one)) [
            | true ↦ λ e.
                ap Live kept ∙ sym (ap (connection_after machine.journal.status)
                (ap server.connections (eqb-true one connection e) ∙ is_live))
            | false ↦ λ e. refl
          ] refl

      -- it stages this
      module _ (up : server.journal.status ≢ Down) (new : Option Staging) where
        abbrev staging_now : Server
        staging_now = after_request server connection (machine_with server.journal new)

        over_each : (P : Option Staging → Type 0) (one : ℕ) → (one ≡ connection → P new) →
            ((one ≡ connection → ⊥) → IfLive P (server.connections one)) →
            IfLive P (staging_now.connections one)
        over_each P one this that = elim (one == connection)
            as (λ b. (one == connection) ≡ b → IfLive P (if b then Live new
            else connection_after server.journal.status (server.connections one))) [
              | true ↦ λ e. this (eqb-true one connection e)
              | false ↦ λ e. subst (IfLive P) (sym (connection_stays server.journal.status
                  (server.connections one) up)) (that (eqb-false one connection e))
            ] refl

        live_at : (P : Option Staging → Type 0) (one : ℕ) → one ≡ connection →
            IfLive P (server.connections one) → P a
        live_at P one same so =
            subst (IfLive P) (ap server.connections same ∙ is_live) so

        -- for the session begun last
        pub shows_staged : connection ≡ over last → IsUpTo last new → (b : Option Staging) →
            IsUpTo last b → AreAlike last new b → Shows over staging_now b
        shows_staged this up_new b up_b alike = record {
          here = up_b;
          there = λ one. over_each (IsUpTo last) one (λ same. up_new) (λ other. shows.there one);
          alike = over_each (λ other. AreAlike last other b) (over last) (λ same. alike)
              (λ other. absurd (other (sym this)));
        }

        -- for an earlier one
        pub shows_old : (session : ℕ) → session < last → StagesFor session a new →
            Shows over staging_now staged
        shows_old session old stages = record {
          here = shows.here;
          there = λ one. over_each (IsUpTo last) one
              (λ same. up_now (live_at (IsUpTo last) one same (shows.there one)) stages)
              (λ other. shows.there one);
          alike = over_each (λ other. AreAlike last other staged) (over last)
              (λ same. alike_now (live_at (λ other. AreAlike last other staged) (over last) same
              shows.alike) stages) (λ other. shows.alike);
        }
          where
            up_now : IsUpTo last a → StagesFor session a new → IsUpTo last new
            up_now up (inl same) = subst (IsUpTo last) (sym same) up
            up_now up (inr for) = up_to_later session last new (omega (arith, old)) for.1

            past_now : AreAlike last a staged → IsPast last a → IsPast last staged
            past_now (inl same) past = subst (IsPast last) same past
            past_now (inr both) past = both.1

            alike_now : AreAlike last a staged → StagesFor session a new → AreAlike last new staged
            alike_now alike (inl same) = subst (λ s. AreAlike last s staged) (sym same) alike
            alike_now alike (inr for) =
                inr (
                  past_later session last new old for.1,
                  past_now alike (past_later session last a old for.0),
                )
