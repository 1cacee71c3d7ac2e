use Rattle.std.proofs.Common.{◌≡◌, ◌++◌}
use Rattle.std.specs.Prelude.{encode_utf8_all}
use Rattle.std.specs.List.{flat_map}
use Rattle.std.specs.Fmt.{HasWritten, IsPlainFormatter}
use Rattle.syn_path.specs.Paths.{printed_char}
use Rattle.syn_path.proofs.printed.NameDisplay.fmt.Given as goal

abbrev pub invariant-loop-c : goal.invariant-loop-c
invariant-loop-c g l = record {
  written : IsPlainFormatter l.initial.f →
      HasWritten g.W.Write.write_str_gives l.initial.f (flat_map printed_char l.yielded) l.f;
  left : encode_utf8_all l.yielded ++ l.c-iterator.rest.now ≡ l.initial.c-iterator.rest.now;
}
