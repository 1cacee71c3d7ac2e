-- What comes over a connection from beginning to end.
use Rattle.std.specs.Prelude.{Result, Ok, Err}
use Rattle.syn_disk.specs.declared.disk.Disk.{Ghosts}
use Rattle.syn_serve.specs.Exchanges.{Exchanges, Moment}
use Rattle.syn_serve.specs.declared.connection.Exchanged.TheVariants.{Answered, Ended}
use Rattle.syn_serve.specs.declared.error.ServeError.{ServeError}
use Rattle.syn_shared.specs.declared.shared.SharedReplica.{SharedReplica}

module _ {D : Type 0} {disk : Ghosts D} (shared : SharedReplica D disk) where
  -- requests were answered, one after another
  pub data Answer (old : Moment D disk) : Moment D disk → Type 0 where
    none : Answer old old
    one_more : (middle new : Moment D disk) → Answer old middle →
        Exchanges shared middle new (Ok Answered) → Answer old new

  -- how the last exchange ended
  abbrev pub EndsAs : Result Unit ServeError → Moment D disk → Moment D disk → Type 0
  EndsAs (Ok done) middle new = Exchanges shared middle new (Ok Ended)
  EndsAs (Err error) middle new = Exchanges shared middle new (Err error)

  -- all of them, and then the end
  pub record Serves (old new : Moment D disk) (ended : Result Unit ServeError) : Type 0 where
    pub last : Moment D disk
    pub answered : Answer old last
    pub ends : EndsAs ended last new
