use Rattle.std.proofs.Common.{◌≡◌, ◌∙◌, ℕ, Bool, Option, Some, None, ap, ap₂, is_some, length}
use Rattle.std.proofs.Common.{option_map}
use Rattle.syn_path.specs.declared.side.Side.TheVariants.{Left, Right}
use Rattle.syn_simulate.specs.declared.turn.Moment.{Moment}
use Rattle.syn_world.specs.Worlds.{archive_in, replica_in}
use Rattle.syn_simulate.proofs.turn.Moment.of.Goals as goal

-- what is read of a value is there where the value is
is_there : {X Y : Type 0} (read : X → Y) (one : Option X) (other : Option Y)
    → option_map read one ≡ other → is_some one ≡ is_some other
is_there read (Some one) other same = ap is_some same
is_there read None other same = ap is_some same

abbrev moment : ℕ → ℕ → ℕ → ℕ → Bool → Bool → Bool → Moment
moment sent acknowledged refusals reports left coordinator right = record {
  sent = sent;
  acknowledged = acknowledged;
  refusals = refusals;
  reports = reports;
  is_left_up = left;
  is_coordinator_up = coordinator;
  is_right_up = right;
}

module _ (s s' a a' f f' r r' : ℕ) (x x' y y' z z' : Bool) where
  same_moment : s ≡ s' → a ≡ a' → f ≡ f' → r ≡ r' → x ≡ x' → y ≡ y' → z ≡ z'
      → moment s a f r x y z ≡ moment s' a' f' r' x' y' z'
  same_moment es ea ef er ex ey ez =
      ap₂ (λ u v. moment u v f r x y z) es ea ∙ (ap₂ (λ u v. moment s' a' u v x y z) ef er
      ∙ (ap₂ (λ u v. moment s' a' f' r' u v z) ex ey ∙ ap (moment s' a' f' r' x' y') ez))

pub returns : goal.returns
returns g c =
    let world = c.args.world.now in
    same_moment _ _ _ _ _ _ _ _ _ _ _ _ _ _ (ap (λ l. length l) c.sent.ensures)
    (ap (λ l. length l) c.acknowledged.ensures) (ap (λ l. length l) c.refusals.ensures)
    (ap (λ l. length l) c.reports.ensures)
    (c.is_some.ensures ∙ is_there (λ replica. replica.now) c.replica.result
    (replica_in world Left) c.replica.ensures)
    (c.is_some-2.ensures ∙ is_there (λ archive. archive.now) c.archive.result
    (archive_in world) c.archive.ensures)
    (c.is_some-3.ensures ∙ is_there (λ replica. replica.now) c.replica-2.result
    (replica_in world Right) c.replica-2.ensures)
