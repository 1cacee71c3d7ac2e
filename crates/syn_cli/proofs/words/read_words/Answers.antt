use Rattle.std.proofs.Common.{◌↔◌, Bool, IsTrue, map, subst, sym}
use Rattle.std.proofs.lemmas.Result.{IfOk-weaker, IfErr-weaker}
use Rattle.clap.specs.Words.{found_of, rows_of}
use Rattle.syn_cli.proofs.CommandLemmas.{asks_why, is_asked, is_no_command, is_no_request, no_fault}
use Rattle.syn_cli.proofs.CommandLemmas.{nothing_read, reads_found, rows_are, subcommand_is}
use Rattle.syn_cli.proofs.CommandLemmas.{subcommand_none, told_among}
use Rattle.syn_cli.specs.Reads.{AsksWhy}
use Rattle.syn_cli.proofs.WrongLemmas.{lack_nothing, lack_wrong, names_one}
use Rattle.syn_cli.proofs.words.read_words.Goals as goal

pub returns-in-Err-clause-usage : goal.returns-in-Err-clause-usage
returns-in-Err-clause-usage c =
    let words = map (λ word. word.now) c.args.words.now in
    told_among c.told.result _ words _ c.in_ok-command.ensures c.in-Err.ensures.kinds
    c.told.ensures.usage

pub returns-in-Err-clause-asked : goal.returns-in-Err-clause-asked
returns-in-Err-clause-asked c request =
    let words = map (λ word. word.now) c.args.words.now in
    is_asked c.told.result words request
    (told_among c.told.result _ words _ c.in_ok-command.ensures c.in-Err.ensures.kinds
    c.told.ensures.usage)

pub returns-in-Err-clause-mistaken : goal.returns-in-Err-clause-mistaken
returns-in-Err-clause-mistaken c =
    let words = map (λ word. word.now) c.args.words.now in
    is_no_command c.told.result words c.told.ensures.value
    (told_among c.told.result _ words _ c.in_ok-command.ensures c.in-Err.ensures.kinds
    c.told.ensures.usage)

pub returns-clause-ok : goal.returns-clause-ok
returns-clause-ok c =
    let words = map (λ word. word.now) c.args.words.now in
    let found =
    subcommand_is c.in-Ok.matches _ words c.in-Some.name.now
    (rows_of (found_of c.in-Some.subcommand.now)) c.in_ok-command.ensures c.in-Ok.ensures.matches
    c.in-Some.ensures.name c.in-Some.ensures.rows in
    IfOk-weaker c.asked_of.result _ _ (λ told read. record {
      taken = no_fault _ _ c.in_ok-command.ensures c.in-Ok.ensures.kinds;
      reads = reads_found _ _ _ told.command found read;
    }) c.asked_of.ensures.ok

pub returns-clause-verbose : goal.returns-clause-verbose
returns-clause-verbose c =
    let words = map (λ word. word.now) c.args.words.now in
    let found =
    subcommand_is c.in-Ok.matches _ words c.in-Some.name.now
    (rows_of (found_of c.in-Some.subcommand.now)) c.in_ok-command.ensures c.in-Ok.ensures.matches
    c.in-Some.ensures.name c.in-Some.ensures.rows in
    let before = rows_are c.in-Ok.matches _ words c.in_ok-command.ensures c.in-Ok.ensures.matches in
    let P : Bool → Type 0 = λ flag. IsTrue flag ↔ AsksWhy words in
    IfOk-weaker c.asked_of.result _ _ (λ told same.
    subst P (sym same) (asks_why _ words _ _ _ before found c.is_verbose.ensures))
    c.asked_of.ensures.verbose

pub returns-clause-asked : goal.returns-clause-asked
returns-clause-asked c =
    IfErr-weaker c.asked_of.result _ _
    (λ error lacks request. absurd (is_no_request error _ _ lacks request))
    c.asked_of.ensures.lacks

pub returns-clause-mistaken : goal.returns-clause-mistaken
returns-clause-mistaken c =
    let words = map (λ word. word.now) c.args.words.now in
    let found =
    subcommand_is c.in-Ok.matches _ words c.in-Some.name.now
    (rows_of (found_of c.in-Some.subcommand.now)) c.in_ok-command.ensures c.in-Ok.ensures.matches
    c.in-Some.ensures.name c.in-Some.ensures.rows in
    IfErr-weaker c.asked_of.result _ _ (λ error lacks _ command asks.
    nothing_read _ _ _ found (lack_nothing _ _ error lacks) command asks.reads)
    c.asked_of.ensures.lacks

pub returns-clause-taken : goal.returns-clause-taken
returns-clause-taken c =
    IfErr-weaker c.asked_of.result _ _
    (λ error _ _. no_fault _ _ c.in_ok-command.ensures c.in-Ok.ensures.kinds)
    c.asked_of.ensures.lacks

pub returns-clause-wrong : goal.returns-clause-wrong
returns-clause-wrong c =
    let words = map (λ word. word.now) c.args.words.now in
    let found =
    subcommand_is c.in-Ok.matches _ words c.in-Some.name.now
    (rows_of (found_of c.in-Some.subcommand.now)) c.in_ok-command.ensures c.in-Ok.ensures.matches
    c.in-Some.ensures.name c.in-Some.ensures.rows in
    let taken = no_fault _ _ c.in_ok-command.ensures c.in-Ok.ensures.kinds in
    IfErr-weaker c.asked_of.result _ _ (λ error lacks. lack_wrong words _ _ error taken found lacks)
    c.asked_of.ensures.lacks

pub returns-in_default-clause-mistaken : goal.returns-in_default-clause-mistaken
returns-in_default-clause-mistaken c _ _ _ =
    let words = map (λ word. word.now) c.args.words.now in
    names_one words (no_fault _ _ c.in_ok-command.ensures c.in-Ok.ensures.kinds)
    (subcommand_none c.in-Ok.matches _ words c.in_ok-command.ensures c.in-Ok.ensures.matches
    c.in_default.ensures.variant)

pub returns-in_default-clause-taken : goal.returns-in_default-clause-taken
returns-in_default-clause-taken c _ = no_fault _ _ c.in_ok-command.ensures c.in-Ok.ensures.kinds

pub returns-in_default-clause-wrong : goal.returns-in_default-clause-wrong
returns-in_default-clause-wrong c =
    let words = map (λ word. word.now) c.args.words.now in
    absurd (names_one words (no_fault _ _ c.in_ok-command.ensures c.in-Ok.ensures.kinds)
    (subcommand_none c.in-Ok.matches _ words c.in_ok-command.ensures c.in-Ok.ensures.matches
    c.in_default.ensures.variant))
