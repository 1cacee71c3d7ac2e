-- Which of the model's machines an archive is, as the archive says it.
pub use Rattle.syn_archive.specs.Machines.{Journal, LeavesMachine, Runs, Fails, IsMachine}
