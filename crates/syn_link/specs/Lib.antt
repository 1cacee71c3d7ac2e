pub mod Connections
pub mod Frames
pub mod Refusals
pub mod Streams
pub use Rattle.syn_wire.specs.Reads
