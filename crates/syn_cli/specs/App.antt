-- The commands of the program, as `clap` sees them.
use Rattle.std.specs.Prelude.{true, List, fold, codes, Some}
use Rattle.clap.specs.declared.builder.action.ArgAction.TheVariants.{SetTrue}
use Rattle.clap.specs.Words.{App, Rule, Text, new_app, new_rule, with_rule, with_subcommand}
use Rattle.syn_cli.specs.Verbs.{name_of, values_of, verbs, word_of}
use Rattle.syn_cli.specs.declared.value.ValueName.{ValueName}
use Rattle.syn_cli.specs.declared.value.ValueName.TheVariants.{Path, Connections, Lines}
use Rattle.syn_cli.specs.declared.value.ValueName.TheVariants.{Archive, FolderPreference, Seconds}
use Rattle.syn_cli.specs.declared.value.ValueName.TheVariants.{After, Folder, Preference, User}
use Rattle.syn_cli.specs.declared.verb.Verb.{Verb}
use Rattle.syn_cli.specs.declared.verb.Verb.TheVariants.{Format, Put, MakeDir, Remove, Chmod}
use Rattle.syn_cli.specs.declared.verb.Verb.TheVariants.{Show, Reconcile}
use Rattle.syn_cli.specs.declared.verb.Verb.TheVariants.{Check, Migrate, Log, Export, Import}
use Rattle.syn_cli.specs.declared.verb.Verb.TheVariants.{Serve, Sync, Run, Plan, Simulate}

abbrev pub required_rule : Text → Rule
required_rule id = record (new_rule id) { required = true }

-- a flag, whose id is its long name
abbrev pub flag_rule : Text → Rule
flag_rule id = record (new_rule id) { long = Some id; action = Some SetTrue }

-- an option with a value, by its long name
abbrev pub option_rule : Text → Text → Rule
option_rule id long = record (new_rule id) { long = Some long }

-- the option by which an archive goes on, which has two values
abbrev pub after_rule : Rule
after_rule = record (option_rule (name_of After) (codes "after")) { value_names = 2 }

-- the flag that asks for an explanation
abbrev pub verbose_rule : Rule
verbose_rule = record (flag_rule (codes "verbose")) { short = Some 118 }

-- a command that takes values, each required
abbrev pub named_app : Text → List ValueName → App
named_app name values =
    fold (λ app value. with_rule app (required_rule (name_of value))) (new_app name) values

abbrev pub word_app : Verb → App
word_app verb = named_app (word_of verb) (values_of verb)

abbrev pub with_served : App → App
with_served app = with_rule app (flag_rule (codes "served"))

-- the option by which a session prefers a side
abbrev pub with_preference : App → App
with_preference app = with_rule app (option_rule (name_of Preference) (codes "prefer"))

-- the options of a reconciliation that have a value
abbrev pub with_reconcile_values : App → App
with_reconcile_values app = with_rule
    (with_rule app (option_rule (name_of FolderPreference) (codes "prefer")))
    (option_rule (name_of Archive) (codes "archive"))

-- the options of a folder that is kept the same
abbrev pub with_folder_values : App → App
with_folder_values app = with_rule (with_rule
    (with_rule app (option_rule (name_of Folder) (codes "folder")))
    (option_rule (name_of User) (codes "user")))
    (option_rule (name_of Seconds) (codes "every"))

-- the command with what may be left out of it
abbrev pub with_options : Verb → App → App
with_options Format app = with_rule (with_served (with_rule app after_rule))
    (flag_rule (codes "force"))
with_options Put app = with_served app
with_options MakeDir app = with_served app
with_options Remove app = with_served app
with_options Chmod app = with_served app
with_options Show app = with_served (with_rule app (new_rule (name_of Path)))
with_options Check app = app
with_options Migrate app = app
with_options Log app = with_rule app (new_rule (name_of Lines))
with_options Export app = with_served (with_rule
    (with_rule (with_rule app (new_rule (name_of Path))) (flag_rule (codes "update")))
    (flag_rule (codes "delete")))
with_options Import app = with_served
    (with_rule (with_rule app (new_rule (name_of Path))) (flag_rule (codes "skip")))
with_options Reconcile app = with_rule (with_rule
    (with_rule (with_reconcile_values app) (flag_rule (codes "dry-run")))
    (flag_rule (codes "emptied"))) (flag_rule (codes "anew"))
with_options Serve app = with_folder_values
    (with_rule app (option_rule (name_of Connections) (codes "connections")))
with_options Sync app = with_rule (with_preference app)
    (option_rule (name_of Seconds) (codes "every"))
with_options Run app = with_preference app
with_options Plan app = with_served (with_preference app)
with_options Simulate app = with_rule app (flag_rule (codes "trace"))

abbrev pub verb_app : Verb → App
verb_app verb = with_rule (with_options verb (word_app verb)) verbose_rule

-- a command that has a version
abbrev pub versioned : App → App
versioned app = record app { top = record app.top { has_version = true } }

-- a command that requires a subcommand
abbrev pub requiring : App → App
requiring app = record app { top = record app.top { subcommand_required = true } }

abbrev pub top_app : App
top_app = with_rule (requiring (versioned (new_app (codes "syn")))) verbose_rule

-- a program with these commands
abbrev pub with_verbs : App → List Verb → App
with_verbs app these = fold (λ app verb. with_subcommand app (verb_app verb).top) app these

-- a proof that needs no part of it is spared all of it
unfoldable pub syn_app : App
syn_app = with_verbs top_app verbs
