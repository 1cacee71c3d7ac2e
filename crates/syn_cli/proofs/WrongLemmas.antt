-- Where `clap` finds no fault in the program's words, they name a command with each value that it
-- requires, so a value is wrong
-- where no command is what they say.
use Rattle.std.proofs.Common.{◌≡◌, ◌&&◌, ◌||◌, ◌∙◌, ℕ, Bool, cond, true, false, not, List, [], ◌∷◌}
use Rattle.std.proofs.Common.{◌++◌, map}
use Rattle.std.proofs.Common.{length, Option, Some, None, is_some, option_map, codes, refl, sym, ap}
use Rattle.std.proofs.Common.{subst, arith, true≢false, IfSome}
use Rattle.std.specs.List.{find, fold, list_any}
use Rattle.std.specs.Option.{option_map_or}
use Rattle.std.specs.Str.{bytes_eq}
use Rattle.std.proofs.lemmas.Slice.Eq.{bytes_eq-Decides}
use Rattle.clap.specs.Lexer.{long_of, short_of}
use Rattle.clap.specs.Faults.{built_fault, check_fault, entered_fault, fault_of, defaults_fault}
use Rattle.clap.specs.Faults.{level_fault, other_fault, settle_fault, step_fault, turn_fault}
use Rattle.clap.specs.Faults.{walk_fault, word_fault}
use Rattle.clap.specs.Kinds.{Kinds, check_kinds, or_else}
use Rattle.clap.specs.Simple.{App, Shape, argument_words, built, built_leaf, entered, help_shape}
use Rattle.clap.specs.Simple.{inherited, label_of, marked_built, names_of, rows_at, subcommand_of}
use Rattle.clap.specs.Simple.{with_leaf_noted}
use Rattle.clap.specs.Takes.{is_given}
use Rattle.clap.specs.Walk.{Held, Names, Outcome, Row, Rule, Step, Text, Waiting, Walk, after_flag}
use Rattle.clap.specs.Walk.{after_step, answers_to, arg_by_index, done, idle, long_or_other, next}
use Rattle.clap.specs.Walk.{nothing_held, option, plain, plain_word, positional, refused}
use Rattle.clap.specs.Walk.{rows_after, settled, short_or_plain, subcommand, subcommand_met}
use Rattle.clap.specs.Walk.{subcommand_or_other, to_positional, trailing, value, waits, walk}
use Rattle.clap.specs.Walk.{walk_from, walked, walked_from, word_met}
use Rattle.clap.specs.declared.error.kind.ErrorKind.TheVariants.{DisplayHelp, InvalidSubcommand}
use Rattle.clap.proofs.OnLiterals.{clap_on_literals}
use Rattle.syn_cli.specs.App.{syn_app, top_app, verb_app, with_verbs}
use Rattle.syn_cli.specs.Reads.{AreGiven, IfValue, IsGiven, IsWrongValue, NothingReads}
use Rattle.syn_cli.specs.Verbs.{name_of, values_of, verbs, word_of}
use Rattle.syn_cli.specs.declared.value.ValueName.{ValueName}
use Rattle.syn_cli.specs.declared.verb.Verb.{Verb}
use Rattle.syn_cli.specs.declared.verb.Verb.TheVariants.{Format, Put, MakeDir, Remove, Chmod}
use Rattle.syn_cli.specs.declared.verb.Verb.TheVariants.{Show, Reconcile}
use Rattle.syn_cli.specs.declared.verb.Verb.TheVariants.{Check, Migrate, Log, Export, Import}
use Rattle.syn_cli.specs.declared.verb.Verb.TheVariants.{Serve, Sync, Run, Plan, Simulate}
use Rattle.syn_cli.specs.declared.error.WordsError.{WordsError}
use Rattle.syn_cli.specs.declared.error.WordsError.TheVariants.{Usage, Value, Memory}
use Rattle.syn_cli.specs.inner.Lacking.{IsLackOf}
use Rattle.syn_cli.proofs.GivenLemmas.{IsFull, full_finished, full_walk, give, given_text}
use Rattle.syn_cli.proofs.GivenLemmas.{no_faults}
use Rattle.syn_cli.proofs.VerbLemmas.{IsComplete, lacks_nothing, lacks_wrong}

-- ---- `help` is refused, so no walk that is not stops at it

abbrev IsNotHelp : Option (Text × List Text) → Type 0
IsNotHelp o = IfSome o (λ p. bytes_eq p.0 (codes "help") ≡ false)

abbrev StepIsNotHelp : Step → Type 0
StepIsNotHelp (subcommand name) = bytes_eq name (codes "help") ≡ false
StepIsNotHelp _ = Unit {0}

plain_step : (c : List Rule) (waiting : Waiting) (word : Text) (h : Held) →
    StepIsNotHelp (plain_word c waiting word h).1
plain_step c idle word h = tt
plain_step c positional word h = tt
plain_step c (option id) word h = tt

flag_step : (c : List Rule) (waiting : Waiting) (word : Text) (h : Held) (outcome : Outcome) →
    StepIsNotHelp (after_flag c waiting word h outcome).1
flag_step c waiting word h done = tt
flag_step c waiting word h (waits id) = tt
flag_step c waiting word h plain = plain_step c waiting word h
flag_step c waiting word h refused = plain_step c waiting word h

other_step : (c : List Rule) (waiting : Waiting) (word : Text) (o : Option (Text × Option Text))
    (h : Held) → StepIsNotHelp (long_or_other c waiting word o h).1
other_step c waiting word (Some p) h = flag_step c waiting word _ _
other_step c waiting word None h = go (short_of word)
  where
    go : (o : Option Text) → StepIsNotHelp (short_or_plain c waiting word o h).1
    go None = plain_step c waiting word h
    go (Some flags) = flag_step c waiting word _ _

module _ (s : Shape) (names : Names) (enabled : s.disable_help_subcommand ≡ false) where
  met_step : (o : Option Text) (waiting : Waiting) (position : ℕ) (word : Text) (h : Held) →
      other_fault s o word h ≡ [] →
      StepIsNotHelp (subcommand_or_other s.rules o waiting position word h).1
  met_step (Some name) waiting position word h e = go (bytes_eq name (codes "help")) e
    where
      go : (b : Bool) →
          cond (b && not s.disable_help_subcommand) (DisplayHelp ∷ InvalidSubcommand ∷ []) [] ≡ [] →
          b ≡ false
      go false e = refl
      go true e =
          let bad : DisplayHelp ∷ InvalidSubcommand ∷ [] ≡ [] = rw enabled at e in
          absurd (omega (arith, ap length bad))
  met_step None waiting position word h e = go (bytes_eq word (45 ∷ 45 ∷ []))
    where
      go : (b : Bool) → StepIsNotHelp
          (cond b (h, trailing position) (long_or_other s.rules waiting word (long_of word) h)).1
      go true = tt
      go false = other_step s.rules waiting word (long_of word) h

  word_step : (is_trailing : Bool) (waiting : Waiting) (position : ℕ) (word : Text) (h : Held) →
      word_fault s names is_trailing waiting word h ≡ [] →
      StepIsNotHelp (word_met s.rules names is_trailing waiting position word h).1
  word_step true waiting position word h e = tt
  word_step false waiting position word h e =
      met_step (subcommand_met names waiting word) waiting position word h e

  next_stop : (word : Text) (w : Walk) (h : Held) (step : Step) → StepIsNotHelp step →
      IsNotHelp w.stopped → IsNotHelp (after_step s.rules word w h step).stopped
  next_stop word w h (next waiting) not_help n = n
  next_stop word w h (trailing position) not_help n = n
  next_stop word w h (subcommand name) not_help n = not_help
  next_stop word w h value not_help n = go (arg_by_index s.rules w.position)
    where
      go : (o : Option Rule) → IsNotHelp (to_positional s.rules o word w h).stopped
      go None = n
      go (Some a) = tt

  turn_stop : (w : Walk) (word : Text) → turn_fault s names w word ≡ [] → IsNotHelp w.stopped →
      IsNotHelp (walked s.rules names w word).stopped
  unfolding walked
  turn_stop w word e n = go w.stopped n e
    where
      go : (o : Option (Text × List Text)) → IsNotHelp o → cond (is_some o) []
          (or_else (word_fault s names w.is_trailing w.waiting word w.held) (step_fault s w.position
          (word_met s.rules names w.is_trailing w.waiting w.position word w.held).0
          (word_met s.rules names w.is_trailing w.waiting w.position word w.held).1)) ≡ [] →
          IsNotHelp (walked_from s.rules names o w word).stopped
      go (Some p) here e = here
      go None here e =
          next_stop word w _ _
          (word_step w.is_trailing w.waiting w.position word w.held (no_faults _ _ e).0) n

  walk_stop : (w : Walk) (words : List Text) → walk_fault s names w words ≡ [] →
      IsNotHelp w.stopped → IsNotHelp (fold (walked s.rules names) w words).stopped
  unfolding walk_fault
  walk_stop w [] e n = n
  walk_stop w (word ∷ rest) e n =
      let parts = no_faults _ _ e in
      walk_stop (walked s.rules names w word) rest parts.1 (turn_stop w word parts.0 n)

-- ---- what the last checks ask

no_checks : (x y z : Bool) → check_kinds x y z ≡ [] → (y ≡ false) × (z ≡ false)
no_checks true y z e = absurd (omega (arith, ap length e))
no_checks false true z e = absurd (omega (arith, ap length e))
no_checks false false true e = absurd (omega (arith, ap length e))
no_checks false false false e = (refl, refl)

abbrev is_missing : List Rule → List Row → Bool
is_missing rules rows = list_any (λ a. a.required && not (is_given a.id rows)) rules

none_missing : (s : Shape) (rows : List Row) → check_fault s rows false ≡ [] →
    is_missing s.rules rows ≡ false
none_missing s rows e = go s.subcommand_negates_reqs (no_checks _ _ _ e).1
  where
    go : (b : Bool) → (not (b && false) && is_missing s.rules rows) ≡ false →
        is_missing s.rules rows ≡ false
    go true e = e
    go false e = e

needs_one : (s : Shape) (rows : List Row) (has : Bool) → s.subcommand_required ≡ true →
    check_fault s rows has ≡ [] → has ≡ true
needs_one s rows true required e = refl
needs_one s rows false required e = absurd (true≢false (sym required ∙ (no_checks _ _ _ e).0))

-- what a level with no fault has passed
record Passes (s : Shape) (names : Names) (words : List Text) (has : Bool) (below : Kinds) :
    Type 0 where
  walks : walk_fault s names (walk_from nothing_held) words ≡ []
  enters : below ≡ []
  settles : settle_fault s.rules s.args_override_self (walk s.rules names nothing_held words).held
      ≡ []
  checks : check_fault s (rows_after s.rules names words) has ≡ []

passes : (s : Shape) (names : Names) (words : List Text) (has : Bool) (below : Kinds) →
    level_fault s names nothing_held words has below ≡ [] → Passes s names words has below
passes s names words has below e =
    let end = (walk s.rules names nothing_held words).held in
    let one = no_faults (walk_fault s names (walk_from nothing_held) words) _ e in
    let two = no_faults below _ one.1 in
    let three = no_faults (settle_fault s.rules s.args_override_self end) _ two.1 in
    let four = no_faults (defaults_fault (settled s.rules end).rows s.rules) _ three.1 in
    record { walks = one.0; enters = two.0; settles = three.0; checks = four.1 }

-- a subcommand with no fault has what it requires, and a value of each
leaf_has : (s : Shape) (P : List Row → Type 0) →
    give s.rules → ((rows : List Row) → IsFull rows → is_missing s.rules rows ≡ false → P rows) →
    (words : List Text) → level_fault s [] nothing_held words false [] ≡ [] →
    P (rows_after s.rules [] words)
leaf_has s P all has words e =
    let end = (walk s.rules [] nothing_held words).held in
    let p = passes s [] words false [] e in
    let full = full_walk s [] all (walk_from nothing_held) words p.walks tt in
    has _ (full_finished s.rules s.args_override_self end all p.settles full)
    (none_missing s _ p.checks)

not_either : (a : Bool) (b : Bool) → (not a || b) ≡ false → (a ≡ true) × (b ≡ false)
not_either true b e = (refl, e)
not_either false b e = absurd (true≢false e)

-- ---- the program's commands

abbrev IsSound : Shape → Type 0
IsSound s =
    (name : Text) (words : List Text) → answers_to name (label_of s) ≡ true →
    bytes_eq name (codes "help") ≡ false
    → level_fault s [] nothing_held words false [] ≡ [] →
    IsComplete s.name (rows_after s.rules [] words)

abbrev AreSound : List Shape → Type 0
AreSound [] = Unit {0}
AreSound (s ∷ rest) = IsSound s × AreSound rest

abbrev sub_of : Verb → Shape
sub_of v =
    built_leaf
    (inherited (with_leaf_noted (marked_built (with_verbs top_app verbs).top)) (verb_app v).top)

-- the first rules are those of the values, each required
abbrev Requires : List Rule → List ValueName → Type 0
Requires rules [] = Unit {0}
Requires [] (told ∷ values) = ⊥
Requires (a ∷ rules) (told ∷ values) =
    (a.required ≡ true) × (a.id ≡ name_of told) × Requires rules values

given_of : (rules : List Rule) (values : List ValueName) (rows : List Row) → Requires rules values →
    IsFull rows → is_missing rules rows ≡ false → AreGiven rows values
given_of rules [] rows requires full none = tt
given_of [] (told ∷ values) rows requires full none = absurd requires
given_of (a ∷ rules) (told ∷ values) rows requires full none =
    let HasRest : Bool → Type 0 =
    λ b. ((b && not (is_given a.id rows)) || is_missing rules rows) ≡ false in
    let parts = not_either (is_given a.id rows) (is_missing rules rows)
    (subst HasRest requires.0 none) in
    let IsHere : Text → Type 0 = IsGiven rows in (
      subst IsHere requires.1 (given_text a.id rows full parts.0),
      given_of rules values rows requires.2 full parts.1,
    )

record Stands (v : Verb) : Type 0 where
  named : (sub_of v).name ≡ word_of v
  gives : give (sub_of v).rules
  requires : Requires (sub_of v).rules (values_of v)

stands : (v : Verb) → Stands v
unfolding clap_on_literals
stands Format =
    record { named = refl; gives = refl; requires = (refl, refl, (refl, refl, (refl, refl, tt))) }
stands Put =
    record { named = refl; gives = refl; requires = (refl, refl, (refl, refl, (refl, refl, tt))) }
stands MakeDir =
    record { named = refl; gives = refl; requires = (refl, refl, (refl, refl, (refl, refl, tt))) }
stands Remove =
    record { named = refl; gives = refl; requires = (refl, refl, (refl, refl, (refl, refl, tt))) }
stands Chmod = record {
  named = refl;
  gives = refl;
  requires = (refl, refl, (refl, refl, (refl, refl, (refl, refl, tt))));
}
stands Show = record { named = refl; gives = refl; requires = (refl, refl, tt) }
stands Check = record { named = refl; gives = refl; requires = (refl, refl, tt) }
stands Migrate = record { named = refl; gives = refl; requires = (refl, refl, tt) }
stands Log = record { named = refl; gives = refl; requires = (refl, refl, tt) }
stands Export = record { named = refl; gives = refl; requires = (refl, refl, (refl, refl, tt)) }
stands Import =
    record { named = refl; gives = refl; requires = (refl, refl, (refl, refl, (refl, refl, tt))) }
stands Reconcile =
    record { named = refl; gives = refl; requires = (refl, refl, (refl, refl, (refl, refl, tt))) }
stands Serve = record { named = refl; gives = refl; requires = (refl, refl, (refl, refl, tt)) }
stands Sync =
    record { named = refl; gives = refl; requires = (refl, refl, (refl, refl, (refl, refl, tt))) }
stands Run =
    record { named = refl; gives = refl; requires = (refl, refl, (refl, refl, (refl, refl, tt))) }
stands Plan =
    record { named = refl; gives = refl; requires = (refl, refl, (refl, refl, (refl, refl, tt))) }
stands Simulate = record { named = refl; gives = refl; requires = (refl, refl, tt) }

verb_sound : (v : Verb) → IsSound (sub_of v)
verb_sound v name words answers other e =
    let s = stands v in (
      v,
      s.named,
      leaf_has (sub_of v) (λ rows. AreGiven rows (values_of v)) s.gives
          (λ rows full none. given_of (sub_of v).rules (values_of v) rows s.requires full none)
          words e,
    )

help_sound : IsSound (built_leaf help_shape)
help_sound name words answers other e =
    absurd (true≢false (sym (go (bytes_eq (codes "help") name) refl answers) ∙ other))
  where
    go : (b : Bool) → bytes_eq (codes "help") name ≡ b → (b || false) ≡ true →
        bytes_eq name (codes "help") ≡ true
    go true is hit =
        (bytes_eq-Decides name (codes "help")).1 (sym ((bytes_eq-Decides (codes "help") name).0 is))
    go false is hit = absurd (true≢false (sym hit))

verbs_sound : (vs : List Verb) (rest : List Shape) → AreSound rest →
    AreSound (map sub_of vs ++ rest)
verbs_sound [] rest all = all
verbs_sound (v ∷ vs) rest all = (verb_sound v, verbs_sound vs rest all)

sound : AreSound (built (with_verbs top_app verbs)).subs
unfolding clap_on_literals
sound = verbs_sound verbs (built_leaf help_shape ∷ []) (help_sound, tt)

-- ---- what the words name

abbrev IsWhole : Option (Text × List Row) → Type 0
IsWhole o = IfSome o (λ f. IsComplete f.0 f.1)

found_whole : (p : Text × List Text) (subs : List Shape) → AreSound subs →
    bytes_eq p.0 (codes "help") ≡ false →
    option_map_or (λ s. level_fault s [] nothing_held p.1 false [])
    (find (λ s. answers_to p.0 (label_of s)) subs) [] ≡ [] →
    IsWhole (option_map (λ s. rows_at s p.1) (find (λ s. answers_to p.0 (label_of s)) subs))
found_whole p [] all other e = tt
found_whole p (s ∷ rest) all other e =
    go (answers_to p.0 (label_of s)) refl e (λ e. found_whole p rest all.1 other e)
  where
    go : (b : Bool) → answers_to p.0 (label_of s) ≡ b →
        option_map_or (λ s. level_fault s [] nothing_held p.1 false [])
        (cond b (Some s) (find (λ s. answers_to p.0 (label_of s)) rest)) [] ≡ [] →
        (option_map_or (λ s. level_fault s [] nothing_held p.1 false [])
        (find (λ s. answers_to p.0 (label_of s)) rest) [] ≡ [] →
        IsWhole (option_map (λ s. rows_at s p.1) (find (λ s. answers_to p.0 (label_of s)) rest))) →
        IsWhole (option_map (λ s. rows_at s p.1)
        (cond b (Some s) (find (λ s. answers_to p.0 (label_of s)) rest)))
    go true answers e more = all.0 p.0 p.1 answers other e
    go false answers e more = more e

entered_whole : (a : App) (stop : Option (Text × List Text)) → AreSound a.subs → IsNotHelp stop →
    entered_fault a stop ≡ [] → IsWhole (entered a stop)
entered_whole a None all other e = tt
entered_whole a (Some p) all other e = found_whole p a.subs all other e

-- a command with no fault has each value that the subcommand requires
whole : (a : App) (words : List Text) → AreSound a.subs → a.top.disable_help_subcommand ≡ false →
    built_fault a nothing_held words ≡ [] →
    IsWhole (entered a (walk a.top.rules (names_of a) nothing_held words).stopped)
whole a words all enabled e =
    let stop = (walk a.top.rules (names_of a) nothing_held words).stopped in
    let p = passes a.top (names_of a) words (is_some (entered a stop)) (entered_fault a stop) e in
    entered_whole a stop all
    (walk_stop a.top (names_of a) enabled (walk_from nothing_held) words p.walks tt) p.enters

syn_whole : (words : List Text) → fault_of syn_app words ≡ [] →
    IsWhole (subcommand_of syn_app words)
unfolding syn_app clap_on_literals
syn_whole words e =
    whole (built (with_verbs top_app verbs))
    (argument_words (with_verbs top_app verbs) words) sound refl e

-- ---- a value is wrong

-- and they name one
pub names_one : (words : List Text) → fault_of syn_app words ≡ [] →
    subcommand_of syn_app words ≡ None → ⊥
unfolding syn_app clap_on_literals
names_one words taken none =
    let a = built (with_verbs top_app verbs) in
    let args = argument_words (with_verbs top_app verbs) words in
    let stop = (walk a.top.rules (names_of a) nothing_held args).stopped in
    let p = passes a.top (names_of a) args (is_some (entered a stop))
    (entered_fault a stop) taken in
    let one : is_some (entered a stop) ≡ true = needs_one a.top
    (rows_after a.top.rules (names_of a) args) (is_some (entered a stop)) refl p.checks in
    true≢false (sym one ∙ ap (λ (o : Option (Text × List Row)). is_some o) none)

-- what the command lacks leaves nothing to read
pub lack_nothing : (name : Text) (rows : List Row) (error : WordsError) → IsLackOf name rows error →
    NothingReads (Some (name, rows))
lack_nothing name rows (Value told) lacks = lacks_nothing rows name told lacks
lack_nothing name rows (Usage e) lacks = absurd lacks
lack_nothing name rows Memory lacks = absurd lacks

-- and where the words have no fault, it is wrong
pub lack_wrong : (words : List Text) (name : Text) (rows : List Row) (error : WordsError) →
    fault_of syn_app words ≡ [] → subcommand_of syn_app words ≡ Some (name, rows) →
    IsLackOf name rows error → IfValue error (IsWrongValue (subcommand_of syn_app words))
lack_wrong words name rows (Value told) taken found lacks =
    let complete = subst IsWhole found (syn_whole words taken) in
    let P : Option (Text × List Row) → Type 0 = λ o. IsWrongValue o told in
    subst P (sym found) (lacks_wrong name rows told complete lacks)
lack_wrong words name rows (Usage e) taken found lacks = absurd lacks
lack_wrong words name rows Memory taken found lacks = absurd lacks
