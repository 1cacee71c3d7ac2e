use Rattle.std.proofs.Common.{◌∙◌, ap, append-nil, length, option_map, subst, sym, []}
use Rattle.std.proofs.lemmas.Bool.{false≢true}
use Rattle.std.specs.Prelude.{◌==◌}
use Rattle.syn_agent.proofs.replace.read_part.Goals as goal
use Rattle.syn_model.specs.Spelling.{spelling}
use Rattle.syn_model.specs.Version.{current_version}
use Rattle.syn_tree.specs.Nodes.{part_of}
use Rattle.syn_wire.specs.Reads.{IsReading}
use Rattle.syn_wire.specs.Trees.{IsOptionalTree}

pub returns-in_default : goal.returns-in_default
returns-in_default c tree part fits paths is =
    let none = subst (λ o. IsReading IsOptionalTree spelling c.args.bytes.now
    (option_map (λ found. (part_of found.0, found.1.now)) o)) c.in_default.is
    c.in_ok-part.ensures in
    none tree [] (record {
      lawful = record { part = part; fits = fits; paths = paths };
      spelled = sym is ∙ sym (append-nil (spelling tree));
    })

pub returns-then-not-is_empty : goal.returns-then-not-is_empty
returns-then-not-is_empty c tree part fits paths is =
    let found = subst (λ o. IsReading IsOptionalTree spelling c.args.bytes.now
    (option_map (λ found. (part_of found.0, found.1.now)) o)) c.in-Some.is
    c.in_ok-part.ensures in
    let none = (c.spelling_laws.ensures.tree current_version (part_of c.in-Some.part) tree
    c.in-Some.rest.now [] found.lawful (record { part = part; fits = fits; paths = paths })
    (sym found.spelled ∙ (sym is ∙ sym (append-nil (spelling tree))))).1 in
    false≢true (c.if-not-is_empty.ensures ∙ ap (λ xs. length xs == 0) none)
