use Rattle.std.proofs.Common.{◌<◌, ◌^◌, sym, subst}
use Rattle.syn_wire.proofs.ByteLemmas.{file_spelled}
use Rattle.syn_wire.proofs.reader.Reader.file.Goals as goal

pub returns-clause-read : goal.returns-clause-read
returns-clause-read c =
    let file = c.in_ok-file.file.now in
    let counted = c.in_ok-file.ensures.length in
    record {
      lawful = record {
        bytes = c.in_ok-file.ensures.bytes;
        brief = subst (λ n. n < 2 ^ 32) (sym counted) c.in_ok-length.ensures.read.lawful;
      };
      spelled =
          file_spelled c.args.self.now c.u32.new.self file c.bytes.new.self c.in_ok-length.length
          c.in_ok-length.ensures.read.spelled c.in_ok-file.ensures.read counted;
    }
