-- What refuses a simulation of a script that is not read.
use Rattle.syn_simulate.specs.declared.parse_error.ScriptError.{ScriptError}
use Rattle.syn_simulate.specs.declared.parse_error.ScriptError.TheVariants as script
use Rattle.syn_simulate.specs.declared.error.SimulateError.{SimulateError}
use Rattle.syn_simulate.specs.declared.error.SimulateError.TheVariants as why

abbrev pub error_of : ScriptError → SimulateError
error_of (script.Line number) = why.Script number
error_of script.Memory = why.Memory
