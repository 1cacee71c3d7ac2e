-- What a transfer asks after an answer that is not the last.
use Rattle.std.proofs.Common.{◌≡◌, false, Result, Ok, Err}
use Rattle.std.specs.Prelude.{IfOk}
use Rattle.syn_machine.specs.Coordinator.{is_last}
use Rattle.syn_machine.specs.Side.{Request}
use Rattle.syn_message.specs.Replies.{reply_of}
use Rattle.syn_message.specs.declared.reply.Reply.{Reply}
use Rattle.syn_propagate.specs.Transfers.{EndsBy, IsAsking}
use Rattle.syn_propagate.specs.declared.transfer_spec.TransferSpec.{TransferSpec}
use Rattle.syn_propagate.specs.declared.error.TransferError.{TransferError}
use Rattle.syn_propagate.specs.declared.next.Next.{Next}
use Rattle.syn_propagate.specs.declared.next.Next.TheVariants.{Ask, Done, Refused}

-- where it asks for something, that is so
pub goes_on_after : (c : TransferSpec) (request : Request) (answer : Reply)
    (result : Result Next TransferError) → is_last (reply_of answer) ≡ false →
    IfOk result IsAsking → IfOk result (EndsBy c request (reply_of answer))
goes_on_after c request answer (Ok (Ask asked)) on asking = on
goes_on_after c request answer (Ok Done) on asking = absurd asking
goes_on_after c request answer (Ok (Refused why)) on asking = absurd asking
goes_on_after c request answer (Err e) on asking = tt
