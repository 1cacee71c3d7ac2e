-- Which of the model's versions each one is.
use Rattle.syn_model.specs.Version as model
use Rattle.syn_wire.specs.declared.version.Version.{Version}
use Rattle.syn_wire.specs.declared.version.Version.TheVariants as code

abbrev pub version_of : Version → model.Version
version_of code.One = model.One
version_of code.Two = model.Two
