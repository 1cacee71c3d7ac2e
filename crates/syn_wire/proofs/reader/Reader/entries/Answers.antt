use Rattle.std.proofs.Common.{◌≡◌, subst}
use Rattle.std.specs.FinMap.{entries}
use Rattle.syn_placed.specs.Pairs.{rooted}
use Rattle.syn_tree.specs.Entries.{AreEntries}
use Rattle.syn_wire.specs.Versions.{version_of}
use Rattle.syn_wire.proofs.MadeLemmas.{no_directory_read, no_parts_read, all_entries, not_made}
use Rattle.syn_wire.proofs.MadeLemmas.{directory_made}
use Rattle.syn_wire.proofs.Sequences.{failed}
use Rattle.syn_wire.proofs.reader.Reader.entries.Goals as goal

pub returns-in_err-count : goal.returns-in_err-count
returns-in_err-count c =
    failed _ _ _ _ _ c.from_residual.result _ c.from_residual.ensures.1
    (λ e same malformed t rest begins.
    no_directory_read (version_of c.args.version) c.args.self.now
    (c.in_err-count.ensures.read (rw (← same) malformed)) t rest begins.lawful begins.spelled)

pub returns-in_err-read_parts : goal.returns-in_err-read_parts
returns-in_err-read_parts c =
    failed _ _ _ _ _ c.from_residual-in_err-read_parts.result _
    c.from_residual-in_err-read_parts.ensures.1 (λ e same malformed t rest begins.
    no_parts_read (version_of c.args.version) c.args.self.now c.u16.new.self c.root.result
    c.in_ok-count.count c.in_ok-count.ensures.read c.root.ensures c.new-list.result.items
    c.read_parts-2.new.list.items (c.in_err-read_parts.ensures.reads (rw (← same) malformed)) t rest
    begins.lawful begins.spelled)

pub returns-in_default : goal.returns-in_default
returns-in_default c =
    λ malformed t rest begins.
    let version = version_of c.args.version in
    let list = c.read_parts-2.new.list.items in
    let all = all_entries version c.args.self.now c.u16.new.self c.root.result c.in_ok-count.count
    c.in_ok-count.ensures.read c.root.ensures c.new-list.result.items list c.read_parts-2.new.reader
    c.new-list.ensures.items c.in_ok-read_parts.ensures.reads t rest begins.lawful begins.spelled in
    not_made version t list begins.lawful all
    (subst (λ es. ¬ AreEntries es) c.in_ok-keyed.ensures c.in_default.ensures.none)

pub returns : goal.returns
returns c =
    let kept = c.iter.ensures in
    directory_made (version_of c.args.version) c.args.self.now c.u16.new.self c.root.result
    c.in_ok-count.count c.new-list.result.items c.read_parts-2.new.list.items
    c.read_parts-2.new.reader c.in-Some.entries c.in_ok-count.ensures.read c.root.ensures
    c.new-list.ensures.items c.in_ok-read_parts.ensures.spelled
    (subst (λ es. rooted es ≡ entries c.in-Some.entries) c.in_ok-keyed.ensures
    c.in-Some.ensures.some)
    (record { tree = kept.tree; fits = kept.part; paths = kept.paths })
