-- An answer of an agent is a hold of its server.
use Rattle.std.proofs.Common.{◌≡◌, ℕ, if◌then◌else◌, refl, ap, ◌∙◌}
use Rattle.std.proofs.lemmas.Bool.{eq-eqb}
use Rattle.syn_agent.specs.Agents.{staging_of}
use Rattle.syn_agent.specs.Machines.{IsLeftAs, IsOf, Takes, heard}
use Rattle.syn_agent.specs.Machines as alone
use Rattle.syn_agent.specs.declared.agent.Agent.{Agent}
use Rattle.syn_disk.specs.declared.disk.Disk.{Ghosts}
use Rattle.syn_machine.specs.Server.{Live, Server, after_request, answered}
use Rattle.syn_machine.specs.Server.{connection_after, side_over}
use Rattle.syn_machine.specs.Side.{Reply, Request}
use Rattle.syn_machine.specs.SideMachine.{SideMachine}
use Rattle.syn_replica.specs.declared.replica.Replica.{Replica}
use Rattle.syn_serve.specs.OverConnections.{HoldsFor, IsLeftServed, IsServed, goes_on, stops}

-- a request leaves what it staged over its own connection
staged_there : (server : Server) (connection : ℕ) (machine : SideMachine) →
    (after_request server connection machine).connections connection ≡ Live machine.staging
staged_there server connection machine =
    ap (λ b. if b then Live machine.staging
    else connection_after machine.journal.status (server.connections connection))
    (eq-eqb connection connection refl)

module _ {D : Type 0} {disk : Ghosts D} (pair : ℕ) (old new : Replica D disk)
    (agent after : Agent) (session : ℕ) (request : Request) (reply : Reply) where
  left_so : (server : Server) (connection : ℕ) (machine : SideMachine) →
      IsLeftAs pair new after machine →
      IsLeftServed pair new after (after_request server connection machine) connection
  left_so server connection machine (alone.goes_on is) = goes_on (record {
    keeps = is.keeps;
    staged = staged_there server connection machine ∙ ap Live is.staging;
  })
  left_so server connection machine (alone.stops is) = stops is

  pub holds_for : ((machine : SideMachine) → IsOf pair old agent machine →
      Takes pair old new after machine session request reply) → (connection number : ℕ)
      (server : Server) → IsServed pair old agent server connection →
      HoldsFor pair old new agent after server connection session number request reply
  holds_for takes connection number server served =
      let taken = takes (side_over server (staging_of agent))
      (record { keeps = served.keeps; staging = refl }) in record {
        takes = taken;
        holds = answered connection session number request (staging_of agent) taken.next
            (heard taken.next.journal.status reply) taken.events served.staged taken.takes;
        leaves = left_so server connection taken.next taken.leaves;
      }
