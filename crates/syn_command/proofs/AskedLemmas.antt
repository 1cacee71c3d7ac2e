-- The replies of a side, one after another.
use Rattle.std.proofs.Common.{◌≡◌, ◌⊎◌, ◌<◌, ◌+◌, ◌++◌, ◌∷◌, [], ℕ, zero, suc}
use Rattle.std.proofs.Common.{cond, not, Some, refl, sym, ap, ap₂, ◌∙◌, subst}
use Rattle.std.proofs.Common.{arith, inl, inr, length, length-append}
use Rattle.std.proofs.lemmas.List.{map-append}
use Rattle.std.specs.Prelude.{Contains}
use Rattle.syn_machine.specs.Network.{Which, Left}
use Rattle.syn_machine.specs.Session.{Exchange}
use Rattle.syn_machine.specs.Side.{ListAt, Reply}
use Rattle.syn_model.specs.Dirty.{IsScanBy}
use Rattle.syn_model.specs.Path.{Path}
use Rattle.syn_model.proofs.PathLemmas.{path_itself}
use Rattle.syn_command.specs.Listings.{GaveReplies, IsScanned, IsUnlisted, Replies}
use Rattle.syn_model.specs.Limits.{most_nodes}
use Rattle.syn_model.specs.Refusal.{Refusal, Memory, TooLarge}
use Rattle.syn_command.specs.Listings.{NotScanned, endless, ended}
use Rattle.syn_command.specs.Listings.{exchanges_of, fault_after, refused}
use Rattle.syn_command.specs.inner.Asking.{IsAsked}
use Rattle.syn_scan.specs.Asked.{handed_out, without}
use Rattle.syn_scan.specs.Found.{Found, position_of, scan_of}
use Rattle.syn_session.specs.Scanning.{Exchanges, IsFoundIn, WaitsFor, WasListedAt}
use Rattle.syn_session.specs.Scanning.{WasNoDirectoryAt, found_of, out_of, with_listing_answered}
use Rattle.syn_session.specs.declared.side_scan.SideScan.{SideScan}
use Rattle.syn_user.specs.Sides.{IsReplied, SideState}
use Rattle.syn_session.proofs.WaitingLemmas.{contains_out}

-- a reply that was taken was given
given : (side : Which) (replies : Replies) (number : ℕ) (path : Path) (reply : Reply)
    → Contains (exchanges_of side replies)
    (record { side = side; number = number; request = ListAt path; reply = reply })
    → Contains replies (path, reply)
given side [] number path reply (i, within, is) = absurd (omega arith)
given side (one ∷ more) number path reply (zero, within, is) =
    let asked : ListAt one.0 ≡ ListAt path = ap (λ (e : Exchange). e.request) is in
    let at : one.0 ≡ path = cc in
    (0, omega arith, ap₂ (λ (p : Path) (r : Reply). (p, r)) at (ap (λ (e : Exchange). e.reply) is))
given side (one ∷ more) number path reply (suc i, within, is) =
    let rest = given side more number path reply (i, omega arith, is) in
    (suc rest.0, omega (arith, rest.1), rest.2)

-- one reply more
gave_more : (old now new : SideState) (replies : Replies) (path : Path) (reply : Reply)
    → GaveReplies old replies now → IsReplied now new (ListAt path) reply
    → GaveReplies old (replies ++ (path, reply) ∷ []) new
gave_more old now new [] path reply gave one =
    (new, subst (λ s. IsReplied s new (ListAt path) reply) gave one, refl)
gave_more old now new (first ∷ more) path reply (between, is, rest) one =
    (between, is, gave_more between now new more path reply rest one)

-- as many replies were taken
pub record AskedTimes (old : SideState) (scan : SideScan) (now : SideState)
    (times : ℕ) : Type 0 where
  pub asked : IsAsked old scan now
  pub count : length asked.replies ≡ times

pub none_asked : (side : SideState) (scan : SideScan)
    → ((which : Which) → IsFoundIn (found_of scan) which []) → out_of scan ≡ []
    → AskedTimes side scan side 0
none_asked side scan found out = record {
  asked = record { replies = []; gave = refl; found = found; none_out = out };
  count = refl;
}

-- a path was handed out, which alone waits
waits_alone : (scan asked : SideScan) (path : Path) → out_of scan ≡ []
    → out_of asked ≡ handed_out (out_of scan) (Some path) → out_of asked ≡ path ∷ []
waits_alone scan asked path none out = out ∙ ap (λ ps. ps ++ path ∷ []) none

pub waits : (scan asked : SideScan) (path : Path) → out_of scan ≡ []
    → out_of asked ≡ handed_out (out_of scan) (Some path) → WaitsFor asked path
waits scan asked path none out =
    contains_out (out_of asked) path
    (subst (λ ps. Contains ps path) (sym (waits_alone scan asked path none out))
    (0, omega arith, refl))

-- and the reply to it was taken
pub one_asked : (old now new : SideState) (scan asked taken : SideScan) (path : Path)
    (reply : Reply)
    (times : ℕ) → AskedTimes old scan now times → found_of asked ≡ found_of scan
    → out_of asked ≡ handed_out (out_of scan) (Some path) → IsReplied now new (ListAt path) reply
    → ((side : Which) (before : Exchanges) → WaitsFor asked path
    → IsFoundIn (found_of asked) side before
    → IsFoundIn (found_of taken) side (with_listing_answered before side 0 path reply))
    → out_of taken ≡ without (out_of asked) path → AskedTimes old taken new (times + 1)
one_asked old now new scan asked taken path reply times has same out gave takes left =
    let so_far = has.asked in
    let alone = waits_alone scan asked path so_far.none_out out in
    record {
      asked = record {
        replies = so_far.replies ++ (path, reply) ∷ [];
        gave = gave_more old now new so_far.replies path reply so_far.gave gave;
        found = λ side.
            subst (IsFoundIn (found_of taken) side)
            (sym (map-append (λ (one : Path × Reply). record {
              side = side;
              number = 0;
              request = ListAt one.0;
              reply = one.1;
            }) so_far.replies ((path, reply) ∷ [])))
            (takes side (exchanges_of side so_far.replies)
            (waits scan asked path so_far.none_out out)
            (subst (λ (f : Found). IsFoundIn f side (exchanges_of side so_far.replies)) (sym same)
            (so_far.found side)));
        none_out = left ∙ (ap (λ ps. without ps path) alone ∙ none_left);
      };
      count = length-append so_far.replies ((path, reply) ∷ []) ∙ ap (λ n. n + 1) has.count;
    }
  where
    none_left : without (path ∷ []) path ≡ []
    none_left = ap (λ b. cond (not b) (path ∷ []) []) (path_itself path)

-- the next listing is refused, or the reply to it ends a session, or too many were asked
module _ (old now new : SideState) (scan : SideScan)
    (times : ℕ) (has : AskedTimes old scan now times) (why : Refusal) where
  pub refused_so : (path : Path) → IsUnlisted now new path why
      → NotScanned old why new
  refused_so path is = refused has.asked.replies now path has.asked.gave is

  pub ended_so : (asked : SideScan) (path : Path) (reply : Reply)
      → found_of asked ≡ found_of scan → out_of asked ≡ handed_out (out_of scan) (Some path)
      → IsReplied now new (ListAt path) reply → (WaitsFor asked path
      → IsFoundIn (found_of asked) Left (exchanges_of Left has.asked.replies)
      → (why ≡ Memory) ⊎ (fault_after has.asked.replies path reply ≡ Some why))
      → (why ≡ Memory) ⊎ NotScanned old why new
  ended_so asked path reply same out gave takes =
      elim (takes (waits scan asked path has.asked.none_out out)
      (subst (λ (f : Found). IsFoundIn f Left (exchanges_of Left has.asked.replies)) (sym same)
      (has.asked.found Left))) [
        | inl memory ↦ inl memory
        | inr fault ↦ inr (ended has.asked.replies now path reply has.asked.gave gave fault)
      ]

  pub endless_so : new ≡ now → most_nodes < times → why ≡ TooLarge
      → NotScanned old why new
  endless_so same many is =
      endless has.asked.replies
      (subst (λ s. GaveReplies old has.asked.replies s) (sym same) has.asked.gave)
      (subst (λ n. most_nodes < n) (sym has.count) many) is

-- the scan that it is then
pub scanned : (old new : SideState) (scan : SideScan) (shown : Found)
    → IsAsked old scan new → ((side : Which) (taken : Exchanges)
    → IsFoundIn (found_of scan) side taken
    → IsScanBy (WasListedAt taken side) (WasNoDirectoryAt taken side) (scan_of shown)
    (position_of shown)) → IsScanned old shown new
scanned old new scan shown asked by =
    let one = by Left (exchanges_of Left asked.replies) (asked.found Left) in
    record {
      replies = asked.replies;
      gave = asked.gave;
      shows = record {
        tree = one.tree;
        fits = one.fits;
        listed = λ path d u.
            let w = one.listed path d u in given Left asked.replies w.0 path _ w.1;
        not_dir = λ path c.
            let w = one.not_dir path c in (w.0, given Left asked.replies w.1.0 path _ w.1.1);
        nothing_below = one.nothing_below;
      };
    }
