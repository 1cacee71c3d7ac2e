-- What became of a connection that was served.
use Rattle.std.specs.Prelude.{◌≡◌, [], None, Option, Some, Result}
use Rattle.syn_agent.specs.Agents.{staging_of}
use Rattle.syn_disk.specs.declared.disk.Disk.{Ghosts}
use Rattle.syn_link.specs.Frames.{Bytes}
use Rattle.syn_serve.specs.States.{ConnectionState}
use Rattle.syn_serve.specs.Servings.{WasServed}
use Rattle.syn_serve.specs.declared.error.ServeError.{ServeError}

-- From its first byte to its end, with a pass of a replica on disks of this kind: of what the
-- reader is to give nothing had come, and nothing was staged
pub record WasServedWhole (D : Type 0) (disk : Ghosts D) (given written : Option Bytes)
    (answer : Result Unit ServeError) : Type 0 where
  pub first : ConnectionState
  pub last : ConnectionState
  pub given_first : first.given ≡ given
  pub held_first : first.held ≡ []
  pub staged_first : staging_of first.agent ≡ None
  pub written_first : first.written ≡ written
  pub served : WasServed D disk first last (Some answer)
