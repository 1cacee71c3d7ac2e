use Rattle.std.proofs.Common.{◌+◌, Bool, Option, Some, None, if◌then◌else◌, not, length, refl, sym}
use Rattle.std.proofs.Common.{ap, ◌∙◌, arith, subst}
use Rattle.std.proofs.lemmas.Bool.{le-leb, lt-leb}
use Rattle.syn_model.specs.Tree.{File, at_root}
use Rattle.syn_model.specs.Refusal.{Refusal, Full}
use Rattle.syn_model.specs.Path.{IsPath}
use Rattle.syn_model.specs.Limits.{last_name_spelling_length}
use Rattle.syn_tree.proofs.CheckLemmas.{measured_one, too_long}
use Rattle.syn_tree.proofs.checking.check_size.Goals as goal

-- why a tree that fits, or not, is refused
abbrev answer : Bool → Option Refusal
answer fits = if not fits then Some Full else None

pub returns-then-size-gt-LONGEST_FILE : goal.returns-then-size-gt-LONGEST_FILE
returns-then-size-gt-LONGEST_FILE g c contents e =
    sym (ap answer (too_long (g.T.Limited.tree c.args.tree.now) c.args.path.now (File contents)
    (lt-leb (length contents.bytes) 16384 (omega (arith, e, c.if-size-gt-LONGEST_FILE.true))) _
    refl))

pub returns : goal.returns
returns g c contents e =
    let p = c.args.path.now in
    let small =
    le-leb (length contents.bytes) 16384 (omega (arith, e, c.if-size-gt-LONGEST_FILE.false)) in
    c.check_fits.ensures (at_root (File contents))
    (measured_one p (File contents) (c.name_spelled.result + 7 + c.args.size)
    (subst IsPath c.key.ensures c.name_spelled.ensures.lawful) small (omega (
      arith,
      e,
      c.name_spelled.ensures.length ∙ ap last_name_spelling_length c.key.ensures,
    )))
