-- What tells a session line by line, as its contracts see it.
use Rattle.syn_command.specs.declared.progress.SessionProgress.{SessionProgress}

-- what the lines are written to
abbrev pub writer_in : {W : Type 0} → SessionProgress W → W
writer_in progress = progress.writer
