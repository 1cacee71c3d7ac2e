-- Steps and lines that are played one after another.
use Rattle.std.proofs.Common.{◌≡◌, ◌<◌, ◌≤◌, ◌+◌, ◌-◌, ℕ, suc, Bool, true, false, List, [], ◌∷◌}
use Rattle.std.proofs.Common.{◌++◌}
use Rattle.std.proofs.Common.{length, map, slice_index_or, refl, sym, ap, ◌∙◌, subst, arith, inl}
use Rattle.std.proofs.Common.{inr}
use Rattle.std.proofs.lemmas.Bool.{cases_lt}
use Rattle.std.proofs.lemmas.List.{append_assoc, length_push, map-append}
use Rattle.std.proofs.lemmas.List.FromFn.{map-range_with_len_more}
use Rattle.std.specs.Prelude.{IfSome, Option, Some, None}
use Rattle.std.specs.List.{range_with_len}
use Rattle.syn_disk.specs.declared.disk.Disk.{Ghosts}
use Rattle.syn_runs.specs.World.{Step, Deliver}
use Rattle.syn_simulate.specs.Drains.{DeliversLowest, IsLowest, IsNextLeft, NoneIsLeft}
use Rattle.syn_simulate.specs.Lines.{PlaysAll, Says, ToDrain, deliveries, said}
use Rattle.syn_simulate.specs.Players.{EndsIn, HasBegun, HasPlayed, HasPlayedAll, IsPlayer}
use Rattle.syn_simulate.specs.Players.{world_of}
use Rattle.syn_simulate.specs.States.{Moves, State}
use Rattle.syn_simulate.specs.declared.player.Player.{Player}
use Rattle.syn_simulate.specs.declared.player.TheConstants.{MOST_DRAINED}
use Rattle.syn_simulate.proofs.LineLemmas.{all_moves, all_on, begins_moves}
use Rattle.syn_simulate.proofs.MoveLemmas.{idle_all, lowest_on, lowest_same, moves_on, moves_run}
use Rattle.syn_simulate.proofs.MoveLemmas.{one_goes, range_parts}
use Rattle.syn_simulate.proofs.PlayerLemmas.{has_begun, has_played, sent_count}
use Rattle.syn_simulate.specs.declared.line.Line.{Line}
use Rattle.syn_world.specs.Worlds.{sent_in}
use Rattle.syn_world.specs.declared.world.Disks.{Disks}

-- it went by these steps
pub record HasMoved {D : Type 0} {disk : Ghosts D} (old : State) (made : List Step)
    (player : Player D disk) : Type 0 where
  pub new : State
  pub moves : Moves old made new
  pub is : IsPlayer player new

-- it delivered so many messages, each time the lowest that was left
pub record HasDrained {D : Type 0} {disk : Ghosts D} (old : State) (count : ℕ)
    (player : Player D disk) : Type 0 where
  pub made : List Step
  pub new : State
  pub lowest : DeliversLowest old made new
  pub counted : length made ≡ count
  pub is : IsPlayer player new

module _ {D : Type 0} {disk : Ghosts D} (old : State) where
  pub moved_on : (made : List Step) (step : Step) (player next : Player D disk)
      (had : HasMoved old made player) → HasPlayed (Says (step ∷ [])) had.new next
      → HasMoved old (made ++ step ∷ []) next
  moved_on made step player next had played = record {
    new = played.new;
    moves = moves_on old had.new played.new made (step ∷ []) had.moves
        (subst (λ l. Moves had.new l played.new) played.plays.0 played.plays.1);
    is = played.is;
  }

  pub moved_cut : (made : List Step) (step : Step) (tail : List Step) (player : Player D disk)
      (disks : Disks D) (had : HasMoved old made player)
      → HasBegun disk (Says (step ∷ [])) had.new disks
      → HasBegun disk (Says (made ++ step ∷ tail)) old disks
  moved_cut made step tail player disks had begun =
      let rest : List Step = begun.begins.0 in
      has_begun old (Says (made ++ step ∷ tail)) (made ++ begun.made) begun.new disks (
        rest ++ tail,
        append_assoc made begun.made (rest ++ tail)
            ∙ ap (λ l. made ++ l) (sym (append_assoc begun.made rest tail)
            ∙ ap (λ l. l ++ tail) begun.begins.1),
        moves_on old had.new begun.new made begun.made had.moves begun.begins.2,
      )
      begun.left

  -- the numbers after those that were sent
  pub moved_idle : (first low high : ℕ) (player : Player D disk)
      (had : HasMoved old (map Deliver (range_with_len first low)) player)
      → length (sent_in (world_of player)) ≤ first + low
      → HasPlayed (Says (map Deliver (range_with_len first (low + high)))) old player
  moved_idle first low high player had past =
      let sent : length (sent_in (world_of player)) ≡ length had.new.world.sent =
      sent_count (world_of player) had.new.world had.is.world in
      let beyond : length had.new.world.sent ≤ first + low = omega arith in
      let parts : map Deliver (range_with_len first low)
      ++ map Deliver (range_with_len (first + low) high)
      ≡ map Deliver (range_with_len first (low + high)) =
      sym (ap (λ l. map Deliver l) (range_parts first low high)
      ∙ map-append Deliver (range_with_len first low) (range_with_len (first + low) high)) in
      has_played old (Says (map Deliver (range_with_len first (low + high))))
      (map Deliver (range_with_len first (low + high))) had.new player (
        refl,
        subst (λ l. Moves old l had.new) parts
            (moves_on old had.new had.new _ _ had.moves
            (idle_all had.new (first + low) high beyond)),
      )
      had.is

  -- one message more is delivered
  pub drained_on : (count number : ℕ) (player next : Player D disk)
      (had : HasDrained old count player) → IsLowest had.new number
      → HasPlayed (Says (Deliver number ∷ [])) had.new next → HasDrained old (count + 1) next
  drained_on count number player next had low played = record {
    made = had.made ++ Deliver number ∷ [];
    new = played.new;
    lowest = lowest_on old had.new played.new had.made number had.lowest low
        (one_goes had.new played.new (Deliver number)
        (subst (λ l. Moves had.new l played.new) played.plays.0 played.plays.1));
    counted = length_push had.made (Deliver number) ∙ ap (λ n. n + 1) had.counted;
    is = played.is;
  }

  -- what is below the lowest that is left was delivered
  abbrev pub drained_from : (count number : ℕ) (player : Player D disk)
      (had : HasDrained old count player) → IsLowest had.new number →
      HasDrained old count (record player { lowest = number })
  drained_from count number player had low = record {
    made = had.made;
    new = had.new;
    lowest = had.lowest;
    counted = had.counted;
    is = record { world = had.is.world; flags = had.is.flags; below = low.below };
  }

  -- none is left
  pub drained_all : (count : ℕ) (player : Player D disk) (had : HasDrained old count player)
      → count ≤ MOST_DRAINED → NoneIsLeft had.new → HasPlayed ToDrain old player
  drained_all count player had most none =
      let counted : length had.made ≡ count = had.counted in
      has_played old ToDrain had.made had.new player
      (record {
        lowest = had.lowest;
        most = omega arith;
        ends = λ less. none;
      })
      had.is

  -- as many as may be were delivered
  pub drained_most : (player : Player D disk) (had : HasDrained old MOST_DRAINED player)
      → HasPlayed ToDrain old player
  drained_most player had =
      let counted : length had.made ≡ MOST_DRAINED = had.counted in
      has_played old ToDrain had.made had.new player
      (record {
        lowest = had.lowest;
        most = omega arith;
        ends = λ less. absurd (omega arith);
      })
      had.is

  -- a delivery was cut
  pub drained_cut : (count number : ℕ) (player : Player D disk) (disks : Disks D)
      (had : HasDrained old count player) → count < MOST_DRAINED → IsLowest had.new number
      → HasBegun disk (Says (Deliver number ∷ [])) had.new disks
      → HasBegun disk ToDrain old disks
  drained_cut count number player disks had most low begun =
      by_made begun.made begun.begins.0 begun.begins.1 begun.begins.2
    where
      counted : length had.made ≡ count
      counted = had.counted

      by_made : (made rest : List Step) → made ++ rest ≡ Deliver number ∷ []
          → Moves had.new made begun.new → HasBegun disk ToDrain old disks
      by_made [] rest joined same =
          has_begun old ToDrain had.made begun.new disks
          (lowest_same old had.new begun.new had.made had.lowest same, omega arith) begun.left
      by_made (step ∷ []) rest joined moves =
          let is : step ≡ Deliver number = cc in
          let pushed : length (had.made ++ Deliver number ∷ []) ≡ length had.made + 1 =
          length_push had.made (Deliver number) in
          has_begun old ToDrain (had.made ++ Deliver number ∷ []) begun.new disks (
            lowest_on old had.new begun.new had.made number had.lowest low
                (one_goes had.new begun.new (Deliver number)
                (subst (λ s. Moves had.new (s ∷ []) begun.new) is moves)),
            omega arith,
          )
          begun.left
      by_made (step ∷ other ∷ made) rest joined moves = absurd cc

  -- one line more
  pub all_played : (lines : List Line) (line : Line) (player next : Player D disk)
      (had : HasPlayedAll lines old player) → HasPlayed (said line) had.new next
      → HasPlayedAll (lines ++ line ∷ []) old next
  all_played lines line player next had played =
      let plays : PlaysAll (lines ++ line ∷ []) old (had.steps ++ played.steps) played.new =
      all_on lines line old had.new played.new had.steps played.steps had.plays played.plays in
      record {
        steps = had.steps ++ played.steps;
        new = played.new;
        plays = plays;
        runs = moves_run old played.new (had.steps ++ played.steps)
            (all_moves (lines ++ line ∷ []) old played.new (had.steps ++ played.steps) plays);
        is = played.is;
      }

  -- or a line was cut
  pub all_cut : (lines : List Line) (line : Line) (rest : List Line) (player : Player D disk)
      (disks : Disks D) (had : HasPlayedAll lines old player)
      → HasBegun disk (said line) had.new disks → EndsIn disk (lines ++ line ∷ rest) old disks
  all_cut lines line rest player disks had begun = record {
    before = lines;
    line = line;
    rest = rest;
    all = refl;
    steps = had.steps;
    between = had.new;
    plays = had.plays;
    made = begun.made;
    new = begun.new;
    begins = begun.begins;
    runs = moves_run old begun.new (had.steps ++ begun.made)
        (moves_on old had.new begun.new had.steps begun.made
        (all_moves lines old had.new had.steps had.plays)
        (begins_moves (said line) had.new begun.new begun.made begun.begins));
    left = begun.left;
  }

-- the lowest number that may be left goes up
module _ {D : Type 0} {disk : Ghosts D} (player : Player D disk) (state : State) (number : ℕ)
    (is : IsPlayer player state)
    (unset : slice_index_or player.delivered.items number false ≡ false)
    (set : (other : ℕ) → player.lowest ≤ other → other < number
    → slice_index_or player.delivered.items other false ≡ true) where
  below : (other : ℕ) → other < number → state.delivered other ≡ true
  below other low =
      elim (cases_lt other player.lowest) [
        | inl before ↦ is.below other before
        | inr above ↦ sym (is.flags other) ∙ set other above low
      ]

  pub lowest_left : number < length (sent_in (world_of player)) → IsLowest state number
  lowest_left within =
      let sent : length (sent_in (world_of player)) ≡ length state.world.sent =
      sent_count (world_of player) state.world is.world in
      record {
        sent = omega arith;
        undelivered = sym (is.flags number) ∙ unset;
        below = below;
      }

-- the next that is left, by what was found
module _ {D : Type 0} {disk : Ghosts D} (player : Player D disk) (state : State)
    (is : IsPlayer player state) (flags : List Bool) (same : flags ≡ player.delivered.items)
    (limit : ℕ) (counted : limit ≡ length (sent_in (world_of player))) where
  flag_is : (number : ℕ) → slice_index_or player.delivered.items number false
      ≡ slice_index_or flags number false
  flag_is number = ap (λ l. slice_index_or l number false) (sym same)

  pub next_left_is : (found : Option ℕ)
      → (found ≡ None → (other : ℕ) → player.lowest ≤ other → other < limit
      → slice_index_or flags other false ≡ true)
      → IfSome found (λ n. n < limit) → IfSome found (λ n. slice_index_or flags n false ≡ false)
      → IfSome found (λ n. (other : ℕ) → player.lowest ≤ other → other < n
      → slice_index_or flags other false ≡ true)
      → IsNextLeft state found
  next_left_is None none limited unset set = λ number within.
      let sent : length (sent_in (world_of player)) ≡ length state.world.sent =
      sent_count (world_of player) state.world is.world in
      let less : number < limit = omega arith in
      elim (cases_lt number player.lowest) [
        | inl before ↦ is.below number before
        | inr above ↦ sym (is.flags number) ∙ (flag_is number ∙ none refl number above less)
      ]
  next_left_is (Some n) none limited unset set =
      lowest_left player state n is (flag_is n ∙ unset)
      (λ other from low. flag_is other ∙ set other from low) (omega arith)

-- a range of deliveries about one of them
pub about : (first number last : ℕ) → first ≤ number → number ≤ last
    → map Deliver (range_with_len first (number - first))
    ++ Deliver number ∷ map Deliver (range_with_len (number + 1) (last - number))
    ≡ deliveries first last
about first number last from upto =
    let low : ℕ = number - first in
    let high : ℕ = last - number in
    let here : first + low ≡ number = omega arith in
    let long : low + suc high ≡ last + 1 - first = omega arith in
    ap (λ n. map Deliver (range_with_len first low)
    ++ Deliver n ∷ map Deliver (range_with_len (n + 1) high)) (sym here)
    ∙ (sym (map-append Deliver (range_with_len first low)
    (range_with_len (first + low) (suc high)))
    ∙ (ap (λ l. map Deliver l) (sym (range_parts first low (suc high)))
    ∙ ap (λ n. map Deliver (range_with_len first n)) long))

module _ {D : Type 0} {disk : Ghosts D} (old : State) (first number last : ℕ)
    (player : Player D disk)
    (had : HasMoved old (map Deliver (range_with_len first (number - first))) player) where
  -- one number more
  pub number_on : first ≤ number → (next : Player D disk)
      → HasPlayed (Says (Deliver number ∷ [])) had.new next
      → HasMoved old (map Deliver (range_with_len first (number + 1 - first))) next
  number_on from next played =
      let more : number - first + 1 ≡ number + 1 - first = omega arith in
      let here : first + (number - first) ≡ number = omega arith in
      subst (λ n. HasMoved old (map Deliver (range_with_len first n)) next) more
      (subst (λ l. HasMoved old l next)
      (sym (map-range_with_len_more Deliver first (number - first) number here))
      (moved_on old (map Deliver (range_with_len first (number - first))) (Deliver number)
      player next had played))

  -- it was cut
  pub number_cut : first ≤ number → number ≤ last → (disks : Disks D)
      → HasBegun disk (Says (Deliver number ∷ [])) had.new disks
      → HasBegun disk (Says (deliveries first last)) old disks
  number_cut from upto disks begun =
      subst (λ l. HasBegun disk (Says l) old disks) (about first number last from upto)
      (moved_cut old (map Deliver (range_with_len first (number - first))) (Deliver number)
      (map Deliver (range_with_len (number + 1) (last - number))) player disks had begun)

  -- nothing was sent with it
  pub number_unsent : first ≤ number → number ≤ last
      → length (sent_in (world_of player)) ≤ number
      → HasPlayed (Says (deliveries first last)) old player
  number_unsent from upto past =
      let low : ℕ = number - first in
      let long : low + (last + 1 - number) ≡ last + 1 - first = omega arith in
      let beyond : length (sent_in (world_of player)) ≤ first + low = omega arith in
      subst (λ n. HasPlayed (Says (map Deliver (range_with_len first n))) old player) long
      (moved_idle old first low (last + 1 - number) player had beyond)

  -- each was delivered
  pub number_end : number - first ≡ last + 1 - first
      → HasPlayed (Says (deliveries first last)) old player
  number_end all =
      let whole = subst (λ n. HasMoved old (map Deliver (range_with_len first n)) player) all had in
      has_played old (Says (deliveries first last)) (deliveries first last) whole.new player
      (refl, whole.moves) whole.is
