-- Laws of the program's commands as `clap` sees them.
use Rattle.std.proofs.Common.{◌≡◌, ◌∙◌, ◌⊎◌, ◌↔◌, Bool, IsTrue, codes, List, [], Option, Some, None}
use Rattle.std.proofs.Common.{option_map, is_some, true, false, true≢false, refl, sym, ap₂, subst}
use Rattle.std.proofs.Common.{inl, inr, ◌∷◌, ◌≢◌, Bor, length, map, ap, arith, slice_index_or}
use Rattle.std.proofs.lemmas.List.{length-map}
use Rattle.std.proofs.lemmas.Option.{none-some, same_Some}
use Rattle.clap.specs.Words.{App, HasKind, HasMatchesOf, IsAmong, Kinds, Row, Text, all_of}
use Rattle.clap.specs.Words.{fault_of, first_of, first_value, has_subcommand, is_simple}
use Rattle.clap.specs.Words.{is_simple_and_free, matched_of}
use Rattle.clap.specs.Words.{found_of, kind_of, matches_of, raw_values, rows_of}
use Rattle.clap.specs.Words.{subcommand_name_of}
use Rattle.clap.specs.Words.{subcommand_of, subcommand_rows_of}
use Rattle.clap.specs.declared.error.Error.{Error}
use Rattle.clap.specs.declared.error.kind.ErrorKind.{ErrorKind}
use Rattle.clap.specs.declared.error.kind.ErrorKind.TheVariants.{OutOfMemory}
use Rattle.clap.specs.declared.parser.matches.ArgMatches.{ArgMatches}
use Rattle.clap.specs.declared.parser.matches.Found.{Found}
use Rattle.clap.specs.declared.parser.matches.ArgMatches.TheViews.{out-ArgMatches}
use Rattle.clap.proofs.OnLiterals.{clap_on_literals}
use Rattle.clap.proofs.WalkLemmas.{first_value-rows, raw_values-rows}
use Rattle.syn_cli.specs.App.{syn_app}
use Rattle.syn_cli.specs.Reads.{Asks, AsksHelp, AsksWhy, IfUsage, IsMistake, IsRequest, IsSet}
use Rattle.syn_cli.specs.Reads.{AreOtherThanTwo, IsSetIn, IsValue, NothingReads, Reads, ReadsRows}
use Rattle.syn_cli.specs.declared.error.WordsError.{WordsError}
use Rattle.syn_cli.specs.declared.error.WordsError.TheVariants.{Usage, Value, Memory}
use Rattle.syn_cli.specs.declared.command.Command.{Command}
use Rattle.syn_cli.specs.inner.Lacking.{IsLackOf}

-- `get_str` reads the first value of a row
pub first_value_rows : (f : _) (id : Text) → first_value f id ≡ first_of id (rows_of f)
first_value_rows f id = first_value-rows f id

-- and `get_strs` all of them
pub strs_given : (f : Found) (id name : Text) (r : Option (Bor (List (Bor Text))))
    (texts : Bor (List (Bor Text))) → option_map (λ s. map (λ v. v.now) s.now) r
    ≡ option_map raw_values (matched_of f id) → r ≡ Some texts → id ≡ name
    → all_of name (rows_of f) ≡ Some (map (λ v. v.now) texts.now)
strs_given f id name r texts gives is named =
    subst (λ (t : Text). all_of t (rows_of f) ≡ Some (map (λ v. v.now) texts.now)) named
    (sym (raw_values-rows f id) ∙ (sym gives ∙ ap (option_map (λ s. map (λ v. v.now) s.now)) is))

pub none_given : (f : Found) (id name : Text) (r : Option (Bor (List (Bor Text))))
    → option_map (λ s. map (λ v. v.now) s.now) r ≡ option_map raw_values (matched_of f id)
    → r ≡ None → id ≡ name → all_of name (rows_of f) ≡ None
none_given f id name r gives is named =
    subst (λ (t : Text). all_of t (rows_of f) ≡ None) named
    (sym (raw_values-rows f id) ∙ (sym gives ∙ ap (option_map (λ s. map (λ v. v.now) s.now)) is))

-- two texts are these, and others are not two
pub given_two : (o : Option (List Text)) (xs : List (Bor Text)) (d e : Bor Text)
    → o ≡ Some (map (λ v. v.now) xs) → length xs ≡ 2
    → o ≡ Some ((slice_index_or xs 0 d).now ∷ (slice_index_or xs 1 e).now ∷ [])
given_two o [] d e is two = absurd (omega (arith, two))
given_two o (x ∷ []) d e is two = absurd (omega (arith, two))
given_two o (x ∷ (y ∷ [])) d e is two = is
given_two o (x ∷ (y ∷ (z ∷ zs))) d e is two = absurd (omega (arith, two))

pub given_other : (rows : List Row) (id : Text) (xs : List (Bor Text))
    → all_of id rows ≡ Some (map (λ v. v.now) xs) → length xs ≢ 2 → AreOtherThanTwo rows id
given_other rows id xs is other = (
  λ none. none-some _ (sym none ∙ is),
  λ one more two. other
      (sym (length-map xs (λ v. v.now)) ∙ ap length (same_Some _ _ (sym is ∙ two))),
)

-- the commands are of those whose matches are a function of the words
pub syn_is_simple : is_simple syn_app ≡ true
unfolding syn_app clap_on_literals
syn_is_simple = refl

-- and whose faults are one too
pub syn_is_free : is_simple_and_free syn_app ≡ true
unfolding syn_app clap_on_literals
syn_is_free = refl

-- an error that is not for lack of memory has one of the kinds
is_among : (kinds : Kinds) (e : Error) → HasKind kinds e → (kind_of e ≡ OutOfMemory → ⊥) →
    IsAmong (kind_of e) kinds
is_among kinds e has other = elim has [ inl memory ↦ absurd (other memory) | inr among ↦ among ]

-- what `clap` says of a command that is the program's, said of the program's
fault_among : (app : App) (words : List Text) (e : Error) → app ≡ syn_app →
    (is_simple_and_free app ≡ true → HasKind (fault_of app words) e) →
    (kind_of e ≡ OutOfMemory → ⊥) → IsAmong (kind_of e) (fault_of syn_app words)
fault_among app words e same has other =
    let P : App → Type 0 = λ a. is_simple_and_free a ≡ true → HasKind (fault_of a words) e in
    is_among _ e (subst P same has syn_is_free) other

pub no_fault : (app : App) (words : List Text) → app ≡ syn_app →
    (is_simple_and_free app ≡ true → fault_of app words ≡ []) → fault_of syn_app words ≡ []
no_fault app words same none =
    let P : App → Type 0 = λ a. is_simple_and_free a ≡ true → fault_of a words ≡ [] in
    subst P same none syn_is_free

-- so what is told of such an error is of the kinds
pub told_among : (error : WordsError) (app : App) (words : List Text) (e : Error) → app ≡ syn_app →
    (is_simple_and_free app ≡ true → HasKind (fault_of app words) e) →
    IfUsage error (λ told. (told ≡ e) × (kind_of e ≡ OutOfMemory → ⊥)) →
    IfUsage error (λ told. IsAmong (kind_of told) (fault_of syn_app words))
told_among (Usage told) app words e same has from =
    let P : Error → Type 0 = λ x. IsAmong (kind_of x) (fault_of syn_app words) in
    subst P (sym from.0) (fault_among app words e same has from.1)
told_among (Value id) app words e same has from = tt
told_among Memory app words e same has from = tt

-- an option of pairs by its two sides
pub pair_found : {B X Y : Type 0} (o : Option B) (f : B → X) (g : B → Y) (x : X) (y : Y) →
    Some x ≡ option_map f o →
    Some y ≡ option_map (λ (p : X × Y). p.1) (option_map {U = X × Y} (λ b. (f b, g b)) o) →
    option_map {U = X × Y} (λ b. (f b, g b)) o ≡ Some (x, y)
pair_found None f g x y left right = absurd (none-some x (sym left))
pair_found (Some b) f g x y left right =
    ap₂ (λ v w. Some (v, w)) (sym (same_Some x (f b) left)) (sym (same_Some y (g b) right))

-- the subcommand that the words name, by what the getter of the matches gives
pub subcommand_is : (m : ArgMatches) (app : App) (words : List Text) (name : Text) (rows : List Row)
    → app ≡ syn_app → HasMatchesOf app words m
    → Some name ≡ subcommand_name_of m → Some rows ≡ option_map (λ p. p.1) (subcommand_rows_of m)
    → subcommand_of syn_app words ≡ Some (name, rows)
subcommand_is m app words name rows same matches named rowed =
    let P : App → Type 0 = λ a. HasMatchesOf a words m in
    let met = subst P same matches syn_is_simple in
    sym met.1 ∙ pair_found (out-ArgMatches m).subcommand _ _ name rows named rowed

-- the values before the command, by what the matches have
pub rows_are : (m : ArgMatches) (app : App) (words : List Text) → app ≡ syn_app →
    HasMatchesOf app words m → rows_of (found_of m) ≡ matches_of syn_app words
rows_are m app words same matches =
    let P : App → Type 0 = λ a. HasMatchesOf a words m in (subst P same matches syn_is_simple).0

-- a flag before the command or after it, said of the words
pub asks_why : (flag : Bool) (words : List Text) (top rows : List Row) (name : Text) →
    top ≡ matches_of syn_app words → subcommand_of syn_app words ≡ Some (name, rows) →
    (IsTrue flag ↔ (IsSet top (codes "verbose") ⊎ IsSet rows (codes "verbose"))) →
    IsTrue flag ↔ AsksWhy words
asks_why flag words top rows name before given is_set =
    let P : List Row → Type 0 = λ r. IsTrue flag
    ↔ (IsSet r (codes "verbose") ⊎ IsSet rows (codes "verbose")) in
    let Q : Option (Text × List Row) → Type 0 =
    λ f. IsTrue flag
    ↔ (IsSet (matches_of syn_app words) (codes "verbose") ⊎ IsSetIn f (codes "verbose")) in
    subst Q (sym given) (subst P before is_set)

-- where the getter gives none, the words name none
pub subcommand_none : (m : ArgMatches) (app : App) (words : List Text) → app ≡ syn_app →
    HasMatchesOf app words m → false ≡ has_subcommand m → subcommand_of syn_app words ≡ None
subcommand_none m app words same matches none =
    let P : App → Type 0 = λ a. HasMatchesOf a words m in
    let met = subst P same matches syn_is_simple in
    sym met.1 ∙ no_rows (out-ArgMatches m).subcommand _ none
  where
    no_rows : {B X : Type 0} (o : Option B) (f : B → X) → false ≡ is_some o → option_map f o ≡ None
    no_rows None f none = refl
    no_rows (Some b) f none = absurd (true≢false (sym none))

-- where the name and the values are no verb's, no command is read
pub nothing_read : (found : Option (Text × List Row)) (name : Text) (rows : List Row) →
    found ≡ Some (name, rows) → NothingReads (Some (name, rows)) → NothingReads found
nothing_read found name rows same nothing =
    let P : Option (Text × List Row) → Type 0 = NothingReads in
    subst P (sym same) nothing

pub reads_found : (found : Option (Text × List Row)) (name : Text) (rows : List Row)
    (command : Command) →
    found ≡ Some (name, rows) → ReadsRows name rows command → Reads found command
reads_found found name rows command same read =
    let P : Option (Text × List Row) → Type 0 = λ f. Reads f command in
    subst P (sym same) read

-- what is told where the help is asked for
pub is_asked : (error : WordsError) (words : List Text) → IsRequest error
    → IfUsage error (λ told. IsAmong (kind_of told) (fault_of syn_app words)) → AsksHelp words
is_asked (Usage e) words request among = elim request [
  | inl help ↦ inl (subst (λ (k : ErrorKind). IsAmong k (fault_of syn_app words)) help among)
  | inr version ↦ inr (subst (λ (k : ErrorKind). IsAmong k (fault_of syn_app words)) version among)
]
is_asked (Value id) words request among = absurd request
is_asked Memory words request among = absurd request

-- where `clap` refuses the words they ask for nothing
pub is_no_command : (error : WordsError) (words : List Text) → (IsValue error → ⊥)
    → IfUsage error (λ told. IsAmong (kind_of told) (fault_of syn_app words))
    → IsMistake error → (command : Command) → Asks words command → ⊥
is_no_command (Usage e) words no_value among mistake command asks =
    let P : Kinds → Type 0 = λ kinds. IsAmong (kind_of e) kinds in subst P asks.taken among
is_no_command (Value id) words no_value among mistake command asks = no_value tt
is_no_command Memory words no_value among mistake command asks = mistake

-- where a value is told, no help was asked for
pub is_no_request : (error : WordsError) (name : Text) (rows : List Row)
    → IsLackOf name rows error → IsRequest error → ⊥
is_no_request (Usage e) name rows lacks request = lacks
is_no_request (Value told) name rows lacks request = request
is_no_request Memory name rows lacks request = request
