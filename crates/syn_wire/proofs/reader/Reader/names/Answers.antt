use Rattle.std.proofs.Common.{◌++◌, ap, sym, ◌∙◌, subst}
use Rattle.syn_wire.specs.Names.{AreNames, name_spelling, names_spelling}
use Rattle.syn_model.specs.Path.{IsName}
use Rattle.syn_wire.proofs.ManyLemmas.{next_one, one_more}
use Rattle.syn_wire.proofs.NameLemmas.{names_tell}
use Rattle.syn_wire.proofs.Sequences.{failed}
use Rattle.syn_wire.proofs.reader.Reader.names.Goals as goal

pub returns-in_err-name : goal.returns-in_err-name
returns-in_err-name c =
    failed _ _ _ _ _ c.from_residual.result _ c.from_residual.ensures.1
    (λ e same malformed value rest begins.
    let next = next_one IsName name_spelling names_tell c.loop-read._read c.args.count
    c.loop-read.names.items c.loop-read.self c.args.self.now value rest c.loop-read.invariant.so_far
    c.loop-read.invariant.spelled
    c.loop-read-test.true begins in
    c.in_err-name.ensures (rw (← same) malformed) next.0 next.1 next.2)

pub loop-read-preserved : goal.loop-read-preserved
loop-read-preserved c =
    let more = one_more IsName name_spelling names_tell c.loop-read._read
    c.loop-read.names.items c.in_ok-name.field-0 c.args.self.now c.loop-read.self c.name.new.self
    c.loop-read.invariant.so_far
    c.loop-read.invariant.spelled c.in_ok-name.ensures in
    let pushed = c.in_ok-push.ensures.items in
    record {
      so_far = subst (AreNames _) (sym pushed) more.0;
      spelled = more.1 ∙ ap (λ xs. names_spelling xs ++ c.name.new.self) (sym pushed);
    }
