-- What an opening hands out.
use Rattle.std.specs.Prelude.{ℕ, List, map}
use Rattle.std.specs.Global.{Vec}
use Rattle.syn_journal.specs.Layout.{Value}
use Rattle.syn_journal.specs.declared.contents.Contents.{Contents}

-- the bytes of each record
abbrev pub payloads_of : Vec (Vec ℕ) → List (List ℕ)
payloads_of payloads = map (λ payload. payload.items) payloads.items

abbrev pub value_read : Contents → Value
value_read contents = record {
  image = contents.image.items;
  payloads = payloads_of contents.payloads;
}
