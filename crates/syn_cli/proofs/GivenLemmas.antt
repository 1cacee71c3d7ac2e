-- Where `clap` finds no fault in the words of a command, each row of its matches has a value.
use Rattle.std.proofs.Common.{◌≡◌, ℕ, Bool, cond, true, false, zero, suc, List, [], ◌∷◌, ◌++◌}
use Rattle.std.proofs.Common.{length, Option, Some, None, is_some, ◌&&◌, refl, sym, ap, arith}
use Rattle.std.proofs.Common.{true≢false, nat_lt, IfSome}
use Rattle.std.specs.Prelude.{drop, encode_utf8, slice_get, option_and_then}
use Rattle.std.specs.List.{find, fold, list_all}
use Rattle.std.specs.Option.{option_map_or}
use Rattle.std.specs.Str.{bytes_eq, chars}
use Rattle.clap.specs.Lexer.{long_of, short_of}
use Rattle.clap.specs.Facts.{explicit_source, unwrap_or_range}
use Rattle.clap.specs.Faults.{bundle_fault, bundle_step_fault, flag_word_fault, flags_fault}
use Rattle.clap.specs.Faults.{long_fault, option_fault, other_fault, positional_fault, react_fault}
use Rattle.clap.specs.Faults.{settle_fault, short_fault, step_fault, stray_fault, turn_fault}
use Rattle.clap.specs.Faults.{use_fault, walk_fault, word_fault}
use Rattle.clap.specs.Kinds.{Kinds, or_else, range_kinds}
use Rattle.clap.specs.Simple.{Shape}
use Rattle.clap.specs.Takes.{is_given}
use Rattle.clap.specs.Walk.{Held, Names, Outcome, Row, Rule, Step, Text, Waiting, Walk, action_of}
use Rattle.clap.specs.Walk.{after_flag, after_step, arg_by_id, arg_by_index, arg_by_long}
use Rattle.clap.specs.Walk.{arg_by_short, at_row, attached_value, bundle, bundle_met, bundle_step}
use Rattle.clap.specs.Walk.{default_rows, done, finished, first_of, flag_met, has_row, idle}
use Rattle.clap.specs.Walk.{is_pending, long_met, long_or_other, more_values, most_values, next}
use Rattle.clap.specs.Walk.{option, option_met, option_word, plain, plain_word, positional, pushed}
use Rattle.clap.specs.Walk.{reacted, reading_by, refused, settled, settled_rows, short_met}
use Rattle.clap.specs.Walk.{short_or_plain, subcommand, subcommand_met, subcommand_or_other}
use Rattle.clap.specs.Walk.{takes_several, takes_values, to_positional, trailing, used, used_as}
use Rattle.clap.specs.Walk.{used_by_id, value, values_or_missing, waits, walked, walked_from}
use Rattle.clap.specs.Walk.{with_default, with_values, without, word_met}
use Rattle.clap.proofs.WalkLemmas.{both}
use Rattle.clap.specs.declared.builder.action.ArgAction.{ArgAction}
use Rattle.clap.specs.declared.builder.action.ArgAction.TheVariants as action
use Rattle.clap.specs.declared.builder.value_parser.Reading.{Reading}
use Rattle.clap.specs.declared.error.kind.ErrorKind.TheVariants.{InvalidValue, TooManyValues}
use Rattle.clap.specs.declared.parser.matches.ValueSource.{ValueSource}
use Rattle.clap.specs.declared.parser.matches.ValueSource.TheVariants.{CommandLine, DefaultValue}

-- ---- rows that have a value

abbrev pub IsNonempty : {X : Type 0} → List X → Type 0
IsNonempty [] = ⊥
IsNonempty (x ∷ xs) = Unit {0}

abbrev pub IsFull : List Row → Type 0
IsFull [] = Unit {0}
IsFull (r ∷ rs) = IsNonempty r.values × IsFull rs

longer : {X : Type 0} (xs ys : List X) → IsNonempty xs → IsNonempty (xs ++ ys)
longer [] ys h = absurd h
longer (x ∷ xs) ys h = tt

full_joined : (xs ys : List Row) → IsFull xs → IsFull ys → IsFull (xs ++ ys)
full_joined [] ys f g = g
full_joined (x ∷ xs) ys f g = (f.0, full_joined xs ys f.1 g)

full_at : (id : Text) (change : Row → List Row) (missing rows : List Row) →
    ((r : Row) → IsNonempty r.values → IsFull (change r)) → IsFull missing → IsFull rows →
    IsFull (at_row id change missing rows)
full_at id change missing [] changed m f = m
full_at id change missing (r ∷ rs) changed m f =
    go (bytes_eq r.id id) (full_at id change missing rs changed m f.1)
  where
    go : (b : Bool) → IsFull (at_row id change missing rs) →
        IsFull (cond b (change r ++ rs) (r ∷ at_row id change missing rs))
    go true rest = full_joined (change r) rs (changed r f.0) f.1
    go false rest = (f.0, rest)

full_without : (id : Text) (rows : List Row) → IsFull rows → IsFull (without id rows)
full_without id rows f = full_at id (λ _. []) [] rows (λ r h. tt) tt f

full_with : (id : Text) (how : Reading) (s : ValueSource) (values : List Text) (rows : List Row) →
    IsNonempty values → IsFull rows → IsFull (with_values id how s values rows)
full_with id how s values rows given f =
    full_at id (more_values s values) _ rows (λ r h. (longer r.values values h, tt)) (given, tt) f

full_find : (p : Row → Bool) (rows : List Row) → IsFull rows →
    IfSome (find p rows) (λ r. IsNonempty r.values)
full_find p [] f = tt
full_find p (r ∷ rs) f = go (p r) (full_find p rs f.1)
  where
    go : (b : Bool) → IfSome (find p rs) (λ r. IsNonempty r.values) →
        IfSome (cond b (Some r) (find p rs)) (λ r. IsNonempty r.values)
    go true rest = f.0
    go false rest = rest

-- what is given has a text
pub given_text : (id : Text) (rows : List Row) → IsFull rows →
    is_given id rows ≡ true → (text : Text) × (first_of id rows ≡ Some text)
given_text id rows f given =
    go (find (λ r. bytes_eq r.id id) rows) (full_find (λ r. bytes_eq r.id id) rows f) given
  where
    first : (vs : List Text) → IsNonempty vs → (text : Text) × (slice_get vs 0 ≡ Some text)
    first [] h = absurd h
    first (v ∷ vs) h = (v, refl)

    go : (o : Option Row) → IfSome o (λ r. IsNonempty r.values) →
        option_map_or (λ r. explicit_source r.source) o false ≡ true →
        (text : Text) × (option_and_then (λ (r : Row). slice_get r.values 0) o ≡ Some text)
    go None h e = absurd (true≢false (sym e))
    go (Some r) h e = first r.values h

-- ---- one use of an argument

-- a use of the argument gives it a value, or leaves the rows as they are
abbrev gives_by : ArgAction → ℕ → List Text → Bool
gives_by action.Set least missing = nat_lt 0 least
gives_by action.SetTrue least missing = nat_lt 0 (length missing)
gives_by action.Help least missing = true
gives_by action.HelpShort least missing = true
gives_by action.HelpLong least missing = true
gives_by action.Version least missing = true
gives_by _ least missing = false

abbrev pub gives : Rule → Bool
gives a = gives_by (action_of a) (unwrap_or_range a.range).start_inclusive a.missing

abbrev pub give : List Rule → Type 0
give rules = list_all gives rules ≡ true

pub no_faults : (a b : Kinds) → or_else a b ≡ [] → (a ≡ []) × (b ≡ [])
no_faults [] b e = (refl, e)
no_faults (k ∷ ks) b e = absurd (omega (arith, ap length e))

in_range : (least most : ℕ) (values : List Text) → nat_lt 0 least ≡ true →
    range_kinds least most (length values) ≡ [] → IsNonempty values
in_range least most (v ∷ vs) some e = tt
in_range least most [] some e =
    let bad : InvalidValue ∷ [] ≡ [] = rw some at e in
    absurd (omega (arith, ap length bad))

nonempty : (values : List Text) → nat_lt 0 (length values) ≡ true → IsNonempty values
nonempty (v ∷ vs) some = tt
nonempty [] some = absurd (true≢false (sym some))

-- a flag that is used without a value has the one for that
flag_value : (a : Rule) (values : List Text) → nat_lt 0 (length a.missing) ≡ true
    → IsNonempty (values_or_missing a values)
flag_value a [] some = nonempty a.missing some
flag_value a (v ∷ vs) some = tt

full_used_as : (x : ArgAction) (least most : ℕ) (a : Rule) (values : List Text) (rows : List Row)
    → gives_by x least a.missing ≡ true → range_kinds least most (length values) ≡ [] → IsFull rows
    → IsFull (used_as x a.id (reading_by a) (values_or_missing a values) rows)
full_used_as action.Set least most a [] rows g r f = absurd (in_range least most [] g r)
full_used_as action.Set least most a (v ∷ vs) rows g r f =
    full_with a.id (reading_by a) CommandLine (v ∷ vs) (without a.id rows) tt
    (full_without a.id rows f)
full_used_as action.SetTrue least most a values rows g r f =
    full_with a.id (reading_by a) CommandLine (values_or_missing a values) (without a.id rows)
    (flag_value a values g) (full_without a.id rows f)
full_used_as action.Help least most a values rows g r f = f
full_used_as action.HelpShort least most a values rows g r f = f
full_used_as action.HelpLong least most a values rows g r f = f
full_used_as action.Version least most a values rows g r f = f
full_used_as action.Append least most a values rows g r f = absurd (true≢false (sym g))
full_used_as action.SetFalse least most a values rows g r f = absurd (true≢false (sym g))
full_used_as action.Count least most a values rows g r f = absurd (true≢false (sym g))

full_used : (again : Bool) (a : Rule) (values : List Text) (rows : List Row) → gives a ≡ true →
    use_fault again a values rows ≡ [] → IsFull rows → IsFull (used a values rows)
full_used again a values rows g e f =
    full_used_as (action_of a) (unwrap_or_range a.range).start_inclusive
    (most_values a) a values rows g (no_faults _ _ e).0 f

-- the rule that is found is one of the command's
rule_found : (p : Rule → Bool) (rules : List Rule) → give rules →
    IfSome (find p rules) (λ a. gives a ≡ true)
rule_found p [] all = tt
rule_found p (a ∷ rest) all =
    let parts = both _ _ all in
    go (p a) parts.0 (rule_found p rest parts.1)
  where
    go : (b : Bool) → gives a ≡ true → IfSome (find p rest) (λ a. gives a ≡ true) →
        IfSome (cond b (Some a) (find p rest)) (λ a. gives a ≡ true)
    go true here more = here
    go false here more = more

module _ (c : List Rule) (again : Bool) (all : give c) where
  full_by_id : (o : Option Rule) (values : List Text) (rows : List Row) →
      IfSome o (λ a. gives a ≡ true) →
      option_map_or (λ a. use_fault again a values rows) o [] ≡ [] → IsFull rows →
      IsFull (used_by_id o values rows)
  full_by_id None values rows g e f = f
  full_by_id (Some a) values rows g e f = full_used again a values rows g e f

  pub full_settled : (h : Held) → settle_fault c again h ≡ [] → IsFull h.rows →
      IsFull (settled c h).rows
  full_settled h e f = go h.pending e
    where
      go : (o : Option (Text × List Text)) → option_map_or
          (λ p. option_map_or (λ a. use_fault again a p.1 h.rows) (arg_by_id c p.0) []) o [] ≡ [] →
          IsFull (settled_rows c o h.rows)
      go None e = f
      go (Some p) e = full_by_id (arg_by_id c p.0) p.1 h.rows (rule_found _ c all) e f

  full_reacted : (a : Rule) (values : List Text) (h : Held) → gives a ≡ true →
      react_fault c again a values h ≡ [] → IsFull h.rows → IsFull (reacted c a values h).rows
  full_reacted a values h g e f =
      let parts = no_faults _ _ e in
      full_used again a values (settled c h).rows g parts.1 (full_settled h parts.0 f)

  -- ---- flags

  full_option : (a : Rule) (v : Option Text) (h : Held) → gives a ≡ true →
      option_fault c again a v h ≡ [] → IsFull h.rows → IsFull (option_met c a v h).0.rows
  full_option a (Some v) h g e f = full_reacted a (v ∷ []) h g e f
  full_option a None h g e f = full_settled h e f

  full_long : (o : Option Rule) (v : Option Text) (h : Held) → IfSome o (λ a. gives a ≡ true) →
      long_fault c again o v h ≡ [] → IsFull h.rows → IsFull (long_met c o v h).0.rows
  full_long None v h g e f = f
  full_long (Some a) v h g e f = go (takes_values a) v e
    where
      go : (b : Bool) (v : Option Text) → cond b (option_fault c again a v h)
          (cond (is_some v) (TooManyValues ∷ []) (react_fault c again a [] h)) ≡ [] →
          IsFull (cond b (option_met c a v h) (flag_met c a v h)).0.rows
      go true v e = full_option a v h g e f
      go false (Some v) e = f
      go false None e = full_reacted a [] h g e f

  full_short : (o : Option Rule) (rest : Text) (h : Held) (fault : Held → Kinds)
      (met : Held → Held × Outcome) →
      ((h : Held) → fault h ≡ [] → IsFull h.rows → IsFull (met h).0.rows) →
      IfSome o (λ a. gives a ≡ true) → short_fault c again o rest h fault ≡ [] → IsFull h.rows →
      IsFull (short_met c o rest h met).0.rows
  full_short None rest h fault met further g e f = f
  full_short (Some a) rest h fault met further g e f = go (takes_values a) e
    where
      go : (b : Bool) → cond b (option_fault c again a (attached_value rest) h)
          (or_else (react_fault c again a [] h) (fault (reacted c a [] h))) ≡ [] →
          IsFull (cond b (option_met c a (attached_value rest) h) (met (reacted c a [] h))).0.rows
      go true e = full_option a (attached_value rest) h g e f
      go false e =
          let parts = no_faults _ _ e in
          further (reacted c a [] h) parts.1 (full_reacted a [] h g parts.0 f)

  full_step : (fault : Text → ℕ → Held → Kinds) (met : Text → ℕ → Outcome → Held → Held × Outcome) →
      ((flags : Text) (skip : ℕ) (so_far : Outcome) (h : Held) → fault flags skip h ≡ [] →
      IsFull h.rows → IsFull (met flags skip so_far h).0.rows) → (o : Option ℕ) (flags : Text)
      (skip : ℕ) (so_far : Outcome) (h : Held) →
      bundle_step_fault c again o flags skip h fault ≡ [] → IsFull h.rows →
      IsFull (bundle_step c o flags skip so_far h met).0.rows
  full_step fault met further None flags skip so_far h e f = f
  full_step fault met further (Some x) flags zero so_far h e f =
      let rest = drop (length (encode_utf8 x)) flags in
      full_short (arg_by_short c x) rest h (fault rest 0) (met rest 0 done)
      (λ h. further rest 0 done h) (rule_found _ c all) e f
  full_step fault met further (Some x) flags (suc skip) so_far h e f =
      further (drop (length (encode_utf8 x)) flags) skip so_far h e f

  full_bundle : (k : ℕ) (flags : Text) (skip : ℕ) (so_far : Outcome) (h : Held) →
      flags_fault c again k flags skip h ≡ [] → IsFull h.rows →
      IsFull (bundle_met c k flags skip so_far h).0.rows
  unfolding bundle_met flags_fault
  full_bundle zero flags skip so_far h e f = f
  full_bundle (suc k) flags skip so_far h e f =
      full_step (flags_fault c again k) (bundle_met c k) (full_bundle k)
      (slice_get (chars flags) 0) flags skip so_far h e f

  -- ---- a word

  full_plain : (waiting : Waiting) (word : Text) (h : Held) → IsFull h.rows →
      IsFull (plain_word c waiting word h).0.rows
  full_plain idle word h f = f
  full_plain positional word h f = f
  full_plain (option id) word h f = go (arg_by_id c id)
    where
      go : (o : Option Rule) → IsFull (option_word o id word h).0.rows
      go None = f
      go (Some a) = f

  full_after : (waiting : Waiting) (word : Text) (h : Held) (outcome : Outcome) → IsFull h.rows →
      IsFull (after_flag c waiting word h outcome).0.rows
  full_after waiting word h done f = f
  full_after waiting word h (waits id) f = f
  full_after waiting word h plain f = full_plain waiting word h f
  full_after waiting word h refused f = full_plain waiting word h f

  full_flag : (waiting : Waiting) (word : Text) (o : Option (Text × Option Text)) (h : Held) →
      flag_word_fault c again o word h ≡ [] → IsFull h.rows →
      IsFull (long_or_other c waiting word o h).0.rows
  full_flag waiting word (Some p) h e f =
      full_after waiting word (long_met c (arg_by_long c p.0) p.1 h).0 _
      (full_long (arg_by_long c p.0) p.1 h (rule_found _ c all) e f)
  full_flag waiting word None h e f = go (short_of word) e
    where
      go : (o : Option Text) → option_map_or (λ flags. bundle_fault c again flags h) o [] ≡ [] →
          IsFull (short_or_plain c waiting word o h).0.rows
      go None e = full_plain waiting word h f
      go (Some flags) e =
          full_after waiting word (bundle c flags h).0 _
          (full_bundle (length flags) flags h.skip plain (record h { skip = 0 }) e f)

-- ---- the walk

module _ (s : Shape) (names : Names) (all : give s.rules) where
  full_other : (o : Option Text) (waiting : Waiting) (position : ℕ) (word : Text) (h : Held) →
      other_fault s o word h ≡ [] → IsFull h.rows →
      IsFull (subcommand_or_other s.rules o waiting position word h).0.rows
  full_other (Some name) waiting position word h e f = f
  full_other None waiting position word h e f = go (bytes_eq word (45 ∷ 45 ∷ [])) e
    where
      go : (b : Bool) →
          cond b [] (flag_word_fault s.rules s.args_override_self (long_of word) word h) ≡ [] →
          IsFull (cond b (h, trailing position)
          (long_or_other s.rules waiting word (long_of word) h)).0.rows
      go true e = f
      go false e = full_flag s.rules s.args_override_self all waiting word (long_of word) h e f

  full_met : (is_trailing : Bool) (waiting : Waiting) (position : ℕ) (word : Text) (h : Held) →
      word_fault s names is_trailing waiting word h ≡ [] → IsFull h.rows →
      IsFull (word_met s.rules names is_trailing waiting position word h).0.rows
  full_met true waiting position word h e f = f
  full_met false waiting position word h e f =
      full_other (subcommand_met names waiting word) waiting position word h e f

  full_value : (o : Option Rule) (word : Text) (w : Walk) (h : Held) →
      option_map_or (λ a. positional_fault s.rules s.args_override_self a h) o (stray_fault s)
      ≡ [] → IsFull h.rows → IsFull (to_positional s.rules o word w h).held.rows
  full_value None word w h e f = f
  full_value (Some a) word w h e f = go (is_pending a h.pending && takes_several a) e
    where
      go : (b : Bool) → cond b [] (settle_fault s.rules s.args_override_self h) ≡ [] →
          IsFull (pushed a.id word (cond b h (settled s.rules h))).rows
      go true e = f
      go false e = full_settled s.rules s.args_override_self all h e f

  full_next : (word : Text) (w : Walk) (h : Held) (step : Step) →
      step_fault s w.position h step ≡ [] → IsFull h.rows →
      IsFull (after_step s.rules word w h step).held.rows
  full_next word w h (next waiting) e f = f
  full_next word w h (trailing position) e f = f
  full_next word w h (subcommand name) e f = f
  full_next word w h value e f = full_value (arg_by_index s.rules w.position) word w h e f

  full_turn : (w : Walk) (word : Text) → turn_fault s names w word ≡ [] → IsFull w.held.rows →
      IsFull (walked s.rules names w word).held.rows
  unfolding walked
  full_turn w word e f = go w.stopped e
    where
      go : (o : Option (Text × List Text)) → cond (is_some o) []
          (or_else (word_fault s names w.is_trailing w.waiting word w.held) (step_fault s w.position
          (word_met s.rules names w.is_trailing w.waiting w.position word w.held).0
          (word_met s.rules names w.is_trailing w.waiting w.position word w.held).1)) ≡ [] →
          IsFull (walked_from s.rules names o w word).held.rows
      go (Some p) e = f
      go None e =
          let parts = no_faults _ _ e in
          full_next word w _ _ parts.1
          (full_met w.is_trailing w.waiting w.position word w.held parts.0 f)

  pub full_walk : (w : Walk) (words : List Text) → walk_fault s names w words ≡ [] →
      IsFull w.held.rows → IsFull (fold (walked s.rules names) w words).held.rows
  unfolding walk_fault
  full_walk w [] e f = f
  full_walk w (word ∷ rest) e f =
      let parts = no_faults _ _ e in
      full_walk (walked s.rules names w word) rest parts.1 (full_turn w word parts.0 f)

-- ---- the defaults

full_default : (rows : List Row) (a : Rule) → IsFull rows → IsFull (with_default rows a)
full_default rows a f = go (has_row a.id rows) a.defaults
  where
    go : (b : Bool) (values : List Text) →
        IsFull (cond b rows (default_rows a.id (reading_by a) values rows))
    go true values = f
    go false [] = f
    go false (v ∷ vs) = full_with a.id (reading_by a) DefaultValue (v ∷ vs) rows tt f

full_defaults : (rules : List Rule) (rows : List Row) → IsFull rows →
    IsFull (fold with_default rows rules)
full_defaults [] rows f = f
full_defaults (a ∷ rest) rows f = full_defaults rest (with_default rows a) (full_default rows a f)

pub full_finished : (rules : List Rule) (again : Bool) (h : Held) → give rules →
    settle_fault rules again h ≡ [] → IsFull h.rows → IsFull (finished rules h)
full_finished rules again h all e f =
    full_defaults rules (settled rules h).rows (full_settled rules again all h e f)
