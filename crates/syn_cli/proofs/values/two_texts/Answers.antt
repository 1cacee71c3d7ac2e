use Rattle.clap.specs.Words.{found_of, rows_of}
use Rattle.syn_cli.specs.Verbs.{name_of}
use Rattle.syn_cli.proofs.CommandLemmas.{given_other, given_two, none_given, strs_given}
use Rattle.syn_cli.proofs.values.two_texts.Goals as goal

pub returns-in_default-clause-ok : goal.returns-in_default-clause-ok
returns-in_default-clause-ok c =
    none_given (found_of c.args.matches.now) _ (name_of c.args.value) c.get_strs.result
    c.get_strs.ensures c.in_default.is c.as_str.ensures

pub returns-then-texts-ne2-clause-other : goal.returns-then-texts-ne2-clause-other
returns-then-texts-ne2-clause-other c =
    let found = found_of c.args.matches.now in
    let name = name_of c.args.value in
    given_other (rows_of found) name c.in-Some.texts.now
    (strs_given found _ name c.get_strs.result c.in-Some.texts c.get_strs.ensures c.in-Some.is
    c.as_str.ensures) c.if-texts-ne2.true

pub returns-clause-ok : goal.returns-clause-ok
returns-clause-ok c =
    let found = found_of c.args.matches.now in
    let name = name_of c.args.value in
    given_two _ c.in-Some.texts.now _ _
    (strs_given found _ name c.get_strs.result c.in-Some.texts c.get_strs.ensures c.in-Some.is
    c.as_str.ensures) c.if-texts-ne2.false
