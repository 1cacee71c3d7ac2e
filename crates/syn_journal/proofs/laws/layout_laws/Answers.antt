use Rattle.std.proofs.Common.{◌≡◌, ◌+◌, length, ap, ◌∙◌, arith, length-append}
use Rattle.std.specs.Int.{w32, to_be_bytes}
use Rattle.syn_journal.specs.Batches.{LeftBehindPayloads}
use Rattle.syn_journal.specs.Layout.{LeftBehindPayload, record_of, records_of}
use Rattle.syn_journal.proofs.Records.{records_of-append, records_of-push}
use Rattle.syn_journal.proofs.laws.layout_laws.Goals as goal

left : LeftBehindPayload
left value payload =
    let pushed = ap length (records_of-push value.payloads payload)
    ∙ length-append (records_of value.payloads) (record_of payload) in
    let one : length (record_of payload) ≡ 5 + length payload =
    omega (arith, length-append (to_be_bytes w32 (length payload)) payload) in
    omega (arith, pushed, one)

left_all : LeftBehindPayloads
left_all value payloads =
    let added = ap length (records_of-append value.payloads payloads)
    ∙ length-append (records_of value.payloads) (records_of payloads) in
    omega (arith, added)

pub returns : goal.returns
returns c = record { left = left; left_all = left_all }
