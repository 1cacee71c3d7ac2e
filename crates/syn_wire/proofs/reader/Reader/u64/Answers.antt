use Rattle.std.proofs.Common.{◌++◌, ap, rules, sym, ◌∙◌}
use Rattle.std.proofs.lemmas.Nat.{be_bytes_8}
use Rattle.syn_wire.proofs.reader.Reader.u64.Goals as goal

pub returns-clause-read : goal.returns-clause-read
returns-clause-read c = record {
  lawful = c.from_be_bytes.type_inv;
  spelled =
      c.in_ok-bytes.ensures.read ∙ ap (λ b. b ++ c.array.new.self) (sym (be_bytes_8
      c.in_ok-bytes.bytes c.from_be_bytes.result (search rules) (λ i. search rules)
      c.from_be_bytes.ensures));
}
