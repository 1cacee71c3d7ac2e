-- A driver as its contracts see it: each side's connection, and what is read and written there.
use Rattle.std.specs.Prelude.{Option}
use Rattle.syn_machine.specs.Network.{Left, Right, Which}
use Rattle.syn_link.specs.Frames.{Bytes}
use Rattle.syn_sync.specs.States.{ConnectionState, state_of}
use Rattle.syn_sync.specs.Outlets.{Outlet, outlet_of}
use Rattle.syn_sync.specs.declared.driver.Driver.{Driver}
use Rattle.syn_sync.specs.declared.session_connection.SessionConnection.{SessionConnection}

abbrev pub ConnectionStates : Type 0
ConnectionStates = Which → ConnectionState

abbrev pub Outlets : Type 0
Outlets = Which → Outlet

module _ {R W : Type 0} where
  abbrev pub connection_at : Driver R W → Which → SessionConnection R W
  connection_at driver Left = driver.left
  connection_at driver Right = driver.right

  abbrev pub states_of : (R → Option Bytes) → Driver R W → ConnectionStates
  states_of remaining driver side = state_of remaining (connection_at driver side)

  abbrev pub outlets_of : (W → Option Bytes) → Driver R W → Outlets
  outlets_of contents driver side = outlet_of contents (connection_at driver side)
