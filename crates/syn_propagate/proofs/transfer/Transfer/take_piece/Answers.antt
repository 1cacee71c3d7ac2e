use Rattle.std.proofs.Common.{◌≡◌, ◌≢◌, ◌≤◌, arith, length, subst, sym, true, vec_len}
use Rattle.std.proofs.lemmas.Bool.{eqb-false, eqb-true}
use Rattle.syn_machine.specs.Session.{fits_piece}
use Rattle.syn_machine.specs.Side.{IsLawfulBody, Stage}
use Rattle.syn_model.specs.Path.{Bytes}
use Rattle.syn_propagate.proofs.AskLemmas.{asked, asks_stage, goes_on, no_fault, whole_of_none}
use Rattle.syn_propagate.proofs.transfer.Transfer.take_piece.Goals as goal
use Rattle.syn_propagate.specs.Asking.{AsksFor}
use Rattle.syn_propagate.specs.Carrying.{target_of}

pub returns-then-is_empty-clause-goes_on : goal.returns-then-is_empty-clause-goes_on
returns-then-is_empty-clause-goes_on c taken number reached =
    let spec = c.args.self.now.spec in
    let bytes = c.args.bytes.items in
    let counted : c.len.result ≡ length bytes = omega (arith, c.len.ensures) in
    let fits : fits_piece c.args.known c.args.offset c.args.total (length bytes) ≡ true =
    subst (λ n. fits_piece c.args.known c.args.offset c.args.total n ≡ true) counted
    (sym c.if-not-fits_piece.ensures) in
    let none : length bytes ≡ 0 =
    omega (arith, counted, c.len.ensures, eqb-true _ _ (sym c.if-is_empty.ensures)) in
    let whole = whole_of_none spec taken number c.args.offset c.args.total c.args.known bytes
    reached fits none in
    goes_on _ _ c.replace.result
    (no_fault spec taken c.args.offset c.args.total c.args.known bytes reached fits)
    (c.replace.ensures.asks _ whole.0 whole.1)

pub returns-clause-goes_on : goal.returns-clause-goes_on
returns-clause-goes_on c taken number reached =
    let spec = c.args.self.now.spec in
    let bytes = c.args.bytes.items in
    let counted : c.len.result ≡ length bytes = omega (arith, c.len.ensures) in
    let fits : fits_piece c.args.known c.args.offset c.args.total (length bytes) ≡ true =
    subst (λ n. fits_piece c.args.known c.args.offset c.args.total n ≡ true) counted
    (sym c.if-not-fits_piece.ensures) in
    let here : vec_len c.args.bytes ≢ 0 = eqb-false _ _ (sym c.if-is_empty.ensures) in
    let some : 1 ≤ length bytes = omega (arith, here, counted, c.len.ensures) in (
      no_fault spec taken c.args.offset c.args.total c.args.known bytes reached fits,
      asked _ _ _ (Stage spec.item c.args.offset bytes) _
          (subst (λ (b : Bytes). AsksFor c.stage.result (target_of spec)
          (Stage spec.item c.args.offset b)) c.new.ensures c.stage.ensures.asks)
          (asks_stage spec taken number c.args.offset c.args.total _ c.args.known bytes reached
          fits some (subst (λ (b : Bytes). IsLawfulBody (Stage spec.item c.args.offset b))
          c.new.ensures c.stage.ensures.lawful) (omega (arith, c.len-2.ensures))),
    )
