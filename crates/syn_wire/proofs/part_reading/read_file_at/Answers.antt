use Rattle.std.proofs.Common.{ap, ◌∙◌}
use Rattle.syn_wire.specs.Versions.{version_of}
use Rattle.syn_wire.proofs.ListedLemmas.{file_spelled}
use Rattle.syn_wire.proofs.ReadingLemmas.{failed_part, no_file_there, file_there}
use Rattle.syn_wire.proofs.part_reading.read_file_at.Goals as goal

pub returns-in_err-file-clause-reads : goal.returns-in_err-file-clause-reads
returns-in_err-file-clause-reads g c =
    failed_part _ _ c.from_residual.result _ c.from_residual.ensures.1 (λ e same malformed.
    no_file_there (g.C.Readable.kind (version_of c.args.version)) c.args.path c.args.reader.now
    c.args.list.now.items c.args.list.now.items (c.in_err-file.ensures (rw (← same) malformed)))

pub returns-clause-reads : goal.returns-clause-reads
returns-clause-reads g c =
    let found = c.in_ok-file.ensures in
    file_there (g.C.Readable.kind (version_of c.args.version)) c.args.path c.args.reader.now found.0
    c.read_file.new.reader c.args.list.now.items c.push.new.self.items c.new.result found.2
    (c.new.ensures ∙ ap (λ x. (c.args.path, x)) found.1) c.in_ok-push.ensures.items

pub returns-clause-spelled : goal.returns-clause-spelled
returns-clause-spelled g c =
    let found = c.in_ok-file.ensures in
    file_spelled (g.C.Readable.kind (version_of c.args.version)) c.args.path c.args.reader.now
    found.0 c.read_file.new.reader c.args.list.now.items c.push.new.self.items c.new.result found.2
    (c.new.ensures ∙ ap (λ x. (c.args.path, x)) found.1) c.in_ok-push.ensures.items
