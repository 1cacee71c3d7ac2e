-- Images and payloads stand for histories.
use Rattle.std.proofs.Common.{◌≡◌, true, List, [], ◌∷◌, ◌++◌, fold, refl, sym, ap, ◌∙◌, subst}
use Rattle.std.proofs.Common.{arith}
use Rattle.std.proofs.lemmas.List.{map-append}
use Rattle.std.proofs.lemmas.List.Sums.{fold-append}
use Rattle.std.proofs.lemmas.List.Elements.{All-nil}
use Rattle.std.specs.FinMap.{len-entries}
use Rattle.syn_model.specs.Tree.{empty_directory}
use Rattle.syn_model.specs.Limits.{fits_replica}
use Rattle.syn_model.specs.Event.{Event}
use Rattle.syn_model.specs.Standing.{Standing, new_standing, standing_after, IsAllowedAt}
use Rattle.syn_model.specs.Standing.{AllAllowedAt}
use Rattle.syn_model.specs.History.{tree_of}
use Rattle.syn_model.specs.Spelling.{event_spelling}
use Rattle.syn_model.specs.Image.{IsStanding}
use Rattle.syn_model.specs.Laws.{FormattedStands, PayloadGoesOn}
use Rattle.syn_model.proofs.HistoryLemmas.{empty-is_tree, allowed_goes_on}
use Rattle.syn_model.proofs.RowLemmas.{entries-at_root}
use Rattle.syn_model.proofs.StandingLemmas.{standing_steps}

pub empty_fits : fits_replica empty_directory ≡ true
empty_fits = rw (len-entries, entries-at_root)

new_is_standing : IsStanding new_standing
unfolding tree_of
new_is_standing = record {
  tree = empty-is_tree;
  fits = empty_fits;
  old = λ two. absurd (cc two);
  position = omega arith;
  floor = omega arith;
  session = omega arith;
  token = tt;
  count = omega arith;
  touches = All-nil _;
  rising = λ i j d before within. absurd (omega arith);
}

pub formatted_stands : FormattedStands
unfolding tree_of
formatted_stands pair = record {
  lawful = tt;
  gives = record {
    first = new_standing;
    events = [];
    sound = new_is_standing;
    image_is = refl;
    payloads_are = refl;
    allowed = tt;
    last = refl;
  };
}

pub allowed-append : (standing : Standing) (events : List Event) (event : Event) →
    AllAllowedAt standing events → IsAllowedAt (fold standing_after standing events) event →
    AllAllowedAt standing (events ++ event ∷ [])
allowed-append standing [] event all one = (one, tt)
allowed-append standing (e ∷ events) event all one =
    (all.0, allowed-append (standing_after standing e) events event all.1 one)

pub payload_goes_on : PayloadGoesOn
payload_goes_on pair image payloads history event stands allowed = record {
  lawful = allowed_goes_on history event stands.lawful allowed;
  gives = record {
    first = stands.gives.first;
    events = stands.gives.events ++ event ∷ [];
    sound = stands.gives.sound;
    image_is = stands.gives.image_is;
    payloads_are =
        ap (λ xs. xs ++ event_spelling event ∷ []) stands.gives.payloads_are
        ∙ sym (map-append event_spelling stands.gives.events (event ∷ []));
    allowed =
        allowed-append stands.gives.first stands.gives.events event stands.gives.allowed
        (subst (λ s. IsAllowedAt s event) stands.gives.last
        (record { lawful = allowed.lawful; not_refused = allowed.not_refused }));
    last =
        standing_steps history event ∙ (ap (λ s. standing_after s event) stands.gives.last
        ∙ sym (fold-append standing_after stands.gives.first stands.gives.events (event ∷ [])));
  };
}
