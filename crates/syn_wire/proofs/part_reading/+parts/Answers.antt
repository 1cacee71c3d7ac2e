use Rattle.std.proofs.Common.{◌≡◌, ◌∷◌, ap, sym, ◌∙◌, length, subst, arith}
use Rattle.std.specs.Prelude.{OnOk}
use Rattle.std.proofs.lemmas.Result.{on_ok_weaker}
use Rattle.syn_wire.specs.Versions.{version_of}
use Rattle.syn_wire.specs.inner.Parts.{LeavesFor, PartIsRead, ReadsPart}
use Rattle.syn_wire.proofs.ListedLemmas.{all_listed, directory_spelled, none_listed, one_listed}
use Rattle.syn_wire.proofs.PartsLemmas.{all_read, child_deeper, no_name_left, no_part_left}
use Rattle.syn_wire.proofs.PartsLemmas.{none_read, part_more}
use Rattle.syn_wire.proofs.ReadingLemmas.{failed_part, no_count_there, directory_there}
use Rattle.syn_wire.proofs.ReadingLemmas.{left_weaker, nothing_there, other_kind_there}
use Rattle.syn_wire.proofs.part_reading.+parts.Goals as goal

pub read_directory_at-returns-in_err-count-clause-reads :
    goal.read_directory_at-returns-in_err-count-clause-reads
read_directory_at-returns-in_err-count-clause-reads g t c =
    failed_part _ _ c.from_residual.result _ c.from_residual.ensures.1 (λ e same malformed.
    no_count_there (g.C.Readable.kind (version_of c.args.version)) c.args.path c.args.reader.now
    c.args.list.now.items
    c.args.list.now.items (c.in_err-count.ensures.read (rw (← same) malformed)))

pub read_directory_at-returns-clause-reads : goal.read_directory_at-returns-clause-reads
read_directory_at-returns-clause-reads g t c =
    left_weaker _ _ _ c.read_parts.result (λ left read.
    directory_there (g.C.Readable.kind (version_of c.args.version)) c.args.path c.in_ok-above.above
    c.args.reader.now c.u16.new.self
    c.in_ok-count.count left c.args.list.now.items c.push.new.self.items
    c.read_parts.new.list.items c.new.result c.in_ok-count.ensures.read c.in_ok-above.ensures
    (c.new.ensures ∙ ap (λ x. (c.args.path, x)) c.directory.ensures) c.in_ok-push.ensures.items
    read) c.read_parts.ensures.reads

pub read_directory_at-returns-clause-spelled : goal.read_directory_at-returns-clause-spelled
read_directory_at-returns-clause-spelled g t c =
    on_ok_weaker c.read_parts.result (λ read.
    directory_spelled (g.C.Readable.kind (version_of c.args.version)) c.args.path
    c.in_ok-above.above c.args.reader.now c.u16.new.self
    c.in_ok-count.count c.read_parts.new.reader c.args.list.now.items c.push.new.self.items
    c.read_parts.new.list.items c.new.result c.in_ok-count.ensures.read c.in_ok-above.ensures
    (c.new.ensures ∙ ap (λ x. (c.args.path, x)) c.directory.ensures) c.in_ok-push.ensures.items
    read) c.read_parts.ensures.spelled

pub read_directory_at-read_parts-requires : goal.read_directory_at-read_parts-requires
read_directory_at-read_parts-requires g t c =
    λ _ lives. (omega (arith, ap length c.in_ok-above.ensures), lives)

pub read_part-returns-in_err-byte-clause-reads : goal.read_part-returns-in_err-byte-clause-reads
read_part-returns-in_err-byte-clause-reads g t c =
    failed_part _ _ c.from_residual.result _ c.from_residual.ensures.1 (λ e same malformed.
    nothing_there (g.C.Readable.kind (version_of c.args.version)) c.args.path c.args.reader.now
    c.args.list.now.items
    c.args.list.now.items c.in_err-byte.ensures.end)

pub read_part-returns-in_default-clause-reads : goal.read_part-returns-in_default-clause-reads
read_part-returns-in_default-clause-reads g t c =
    λ malformed. other_kind_there (g.C.Readable.kind (version_of c.args.version)) c.args.path
    c.in_ok-byte.field-0 c.args.reader.now
    c.byte.new.self c.args.list.now.items c.args.list.now.items c.in_ok-byte.ensures.read
    (λ one. omega (arith, one)) (λ two. omega (arith, two))

pub read_part-returns-in-1-clause-reads : goal.read_part-returns-in-1-clause-reads
read_part-returns-in-1-clause-reads g t c =
    let kind : c.in_ok-byte.field-0 ≡ 1 = omega (arith, c.in-1.is) in
    subst (λ b. LeavesFor c.read_file_at.result c.read_file_at.new.reader (λ left.
    ReadsPart (g.C.Readable.kind (version_of c.args.version)) c.args.path b c.args.list.now.items
    c.read_file_at.new.list.items left))
    (sym (c.in_ok-byte.ensures.read ∙ ap (λ k. k ∷ c.byte.new.self) kind))
    c.read_file_at.ensures.reads

pub read_part-returns-in-1-clause-spelled : goal.read_part-returns-in-1-clause-spelled
read_part-returns-in-1-clause-spelled g t c =
    let kind : c.in_ok-byte.field-0 ≡ 1 = omega (arith, c.in-1.is) in
    subst (λ b. OnOk c.read_file_at.result (PartIsRead (g.C.Readable.kind (version_of
    c.args.version)) c.args.path b c.args.list.now.items
    c.read_file_at.new.list.items c.read_file_at.new.reader))
    (sym (c.in_ok-byte.ensures.read ∙ ap (λ k. k ∷ c.byte.new.self) kind))
    c.read_file_at.ensures.spelled

pub read_part-returns-in-2-clause-reads : goal.read_part-returns-in-2-clause-reads
read_part-returns-in-2-clause-reads g t c =
    let kind : c.in_ok-byte.field-0 ≡ 2 = omega (arith, c.in-2.is) in
    subst (λ b. LeavesFor c.read_directory_at.result c.read_directory_at.new.reader (λ left.
    ReadsPart (g.C.Readable.kind (version_of c.args.version)) c.args.path b c.args.list.now.items
    c.read_directory_at.new.list.items left))
    (sym (c.in_ok-byte.ensures.read ∙ ap (λ k. k ∷ c.byte.new.self) kind))
    c.read_directory_at.ensures.reads

pub read_part-returns-in-2-clause-spelled : goal.read_part-returns-in-2-clause-spelled
read_part-returns-in-2-clause-spelled g t c =
    let kind : c.in_ok-byte.field-0 ≡ 2 = omega (arith, c.in-2.is) in
    subst (λ b. OnOk c.read_directory_at.result (PartIsRead (g.C.Readable.kind (version_of
    c.args.version)) c.args.path b c.args.list.now.items
    c.read_directory_at.new.list.items c.read_directory_at.new.reader))
    (sym (c.in_ok-byte.ensures.read ∙ ap (λ k. k ∷ c.byte.new.self) kind))
    c.read_directory_at.ensures.spelled

pub read_part-read_file_at-requires : goal.read_part-read_file_at-requires
read_part-read_file_at-requires g t c = λ _ lives. lives

pub read_part-read_directory_at-requires : goal.read_part-read_directory_at-requires
read_part-read_directory_at-requires g t c = λ _ lives. (omega arith, lives)

pub read_parts-loop-read-init : goal.read_parts-loop-read-init
read_parts-loop-read-init g t c = record {
  so_far = none_read (g.C.Readable.kind (version_of c.args.version)) c.args.above.now c.args.count
      c.args.reader.now c.args.list.now.items;
  spelled = none_listed (g.C.Readable.kind (version_of c.args.version)) c.args.above.now
      c.args.reader.now c.args.list.now.items;
}

pub read_parts-returns-in_err-path-clause-reads : goal.read_parts-returns-in_err-path-clause-reads
read_parts-returns-in_err-path-clause-reads g t c =
    failed_part _ _ c.from_residual.result _ c.from_residual.ensures.1 (λ e same malformed.
    no_name_left (g.C.Readable.kind (version_of c.args.version)) c.args.above.now c.args.count
    c.loop-read._read c.args.reader.now
    c.loop-read.reader c.args.list.now.items c.loop-read.list.items
    c.loop-read.invariant.so_far c.loop-read-test.true c.loop-read.list.items
    (c.in_err-path.ensures (rw (← same) malformed)))

pub read_parts-returns-in_err-read_part-clause-reads :
    goal.read_parts-returns-in_err-read_part-clause-reads
read_parts-returns-in_err-read_part-clause-reads g t c =
    failed_part _ _ c.from_residual-in_err-read_part.result _
    c.from_residual-in_err-read_part.ensures.1 (λ e same malformed.
    no_part_left (g.C.Readable.kind (version_of c.args.version)) c.args.above.now c.args.count
    c.loop-read._read c.args.reader.now
    c.loop-read.reader c.args.list.now.items c.loop-read.list.items
    c.loop-read.invariant.so_far c.loop-read-test.true c.in_ok-path.path c.read_child.new.reader
    c.in_ok-path.ensures c.read_part.new.list.items c.read_part.new.list.items
    (c.in_err-read_part.ensures.reads (rw (← same) malformed)))

pub read_parts-loop-read-preserved : goal.read_parts-loop-read-preserved
read_parts-loop-read-preserved g t c = record {
  so_far =
      part_more (g.C.Readable.kind (version_of c.args.version)) c.args.above.now c.args.count
      c.loop-read._read c.args.reader.now
      c.loop-read.reader c.args.list.now.items c.loop-read.list.items
      c.loop-read.invariant.so_far c.loop-read-test.true c.in_ok-path.path c.read_child.new.reader
      c.in_ok-path.ensures c.read_part.new.list.items c.read_part.new.reader
      c.in_ok-read_part.ensures.reads;
  spelled =
      one_listed (g.C.Readable.kind (version_of c.args.version)) c.args.above.now c.loop-read._read
      c.args.reader.now c.loop-read.reader
      c.read_child.new.reader c.read_part.new.reader c.in_ok-path.path c.args.list.now.items
      c.loop-read.list.items c.read_part.new.list.items c.loop-read.invariant.spelled
      c.in_ok-path.ensures c.in_ok-read_part.ensures.spelled;
}

pub read_parts-returns-clause-reads : goal.read_parts-returns-clause-reads
read_parts-returns-clause-reads g t c =
    all_read (g.C.Readable.kind (version_of c.args.version)) c.args.above.now c.args.count
    c.loop-read._read c.args.reader.now
    c.loop-read.reader c.args.list.now.items c.loop-read.list.items
    (omega (arith, c.loop-read-test.false, c.loop-read.auto._read-end))
    c.loop-read.invariant.so_far

pub read_parts-returns-clause-spelled : goal.read_parts-returns-clause-spelled
read_parts-returns-clause-spelled g t c =
    all_listed (g.C.Readable.kind (version_of c.args.version)) c.args.above.now c.args.count
    c.loop-read._read c.args.reader.now
    c.loop-read.reader c.args.list.now.items c.loop-read.list.items
    (omega (arith, c.loop-read-test.false, c.loop-read.auto._read-end))
    c.loop-read.invariant.spelled

pub read_parts-read_part-requires : goal.read_parts-read_part-requires
read_parts-read_part-requires g t c = λ _ lives.
    let deep = child_deeper c.args.above.now c.in_ok-path.path c.in_ok-path.ensures.lawful in
    (omega (arith, deep.0, deep.1), lives)
