-- What became of a connection that a worker served.
use Rattle.std.specs.Prelude.{◌≡◌, Option, Some, Result}
use Rattle.syn_disk.specs.declared.disk.Disk.{Ghosts}
use Rattle.syn_lock.specs.declared.own.Pass.{Pass}
use Rattle.syn_replica.specs.declared.replica.Replica.{Replica}
use Rattle.syn_serve.specs.Exchanges.{moment}
use Rattle.syn_serve.specs.States.{ConnectionState}
use Rattle.syn_serve.specs.Runs.{Serves}
use Rattle.syn_serve.specs.declared.connection.ServerConnection.{ServerConnection}
use Rattle.syn_serve.specs.declared.error.ServeError.{ServeError}
use Rattle.syn_serve.specs.declared.serving.Serving.{Serving}
use Rattle.syn_shared.specs.Shared.{IsFor}
use Rattle.syn_shared.specs.declared.shared.SharedReplica.{SharedReplica}

module _ {R W G : Type 0} where
  abbrev pub connection_in : Serving R W G → ServerConnection R W
  connection_in serving = serving.connection

  abbrev pub pause_in : Serving R W G → G
  pause_in serving = serving.pause

  abbrev pub ended_in : Serving R W G → Option (Result Unit ServeError)
  ended_in serving = serving.ended

-- it was served to its end, with a pass of a replica on disks of this kind
pub record WasServed (D : Type 0) (disk : Ghosts D) (old new : ConnectionState)
    (ended : Option (Result Unit ServeError)) : Type 0 where
  pub shared : SharedReplica D disk
  pub first : Pass (Replica D disk)
  pub last : Pass (Replica D disk)
  pub is_for : IsFor shared first
  pub answer : Result Unit ServeError
  pub ended_so : ended ≡ Some answer
  pub serves : Serves shared (moment old first) (moment new last) answer
