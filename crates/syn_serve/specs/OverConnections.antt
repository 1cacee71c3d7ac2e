-- A session's request as a hold of the server, over its connection.
use Rattle.std.specs.Prelude.{◌≡◌, [], ℕ}
use Rattle.syn_agent.specs.Agents.{staging_of}
use Rattle.syn_agent.specs.Machines.{Takes, heard}
use Rattle.syn_agent.specs.declared.agent.Agent.{Agent}
use Rattle.syn_disk.specs.declared.disk.Disk.{Ghosts}
use Rattle.syn_machine.specs.Server.{ByRequest, Holds, Live, Server, after_request, side_over}
use Rattle.syn_machine.specs.Side.{Reply, Request}
use Rattle.syn_replica.specs.Machines.{IsDown, IsMachine}
use Rattle.syn_replica.specs.declared.replica.Replica.{Replica}

module _ {D : Type 0} {disk : Ghosts D} (pair : ℕ) where
  -- the replica keeps the server's journal, and the agent has what is staged over the connection
  pub record IsServed (replica : Replica D disk) (agent : Agent) (server : Server)
      (connection : ℕ) : Type 0 where
    pub keeps : IsMachine replica pair server.journal
    pub staged : server.connections connection ≡ Live (staging_of agent)

  -- whether the server goes on or stops
  pub data IsLeftServed (replica : Replica D disk) (agent : Agent) (server : Server)
      (connection : ℕ) : Type 0 where
    goes_on : IsServed replica agent server connection →
        IsLeftServed replica agent server connection
    stops : IsDown replica pair server.journal → IsLeftServed replica agent server connection

  -- One hold of the server for the request: a step of its side with what is staged over the
  -- connection. It writes the reply, unless the machine stopped
  pub record HoldsFor (old new : Replica D disk) (agent after : Agent) (server : Server)
      (connection session number : ℕ) (request : Request) (reply : Reply) : Type 0 where
    pub takes :
        Takes pair old new after (side_over server (staging_of agent)) session request reply
    pub holds : Holds pair server (record {
      hold = ByRequest connection session number request;
      reply = heard takes.next.journal.status reply;
      events = takes.events;
      refusals = [];
    }) (after_request server connection takes.next)
    pub leaves :
        IsLeftServed new after (after_request server connection takes.next) connection
