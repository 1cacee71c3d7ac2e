-- What a session without a plan tells, and which answers are not the last to an item.
use Rattle.std.proofs.Common.{◌≡◌, ℕ, Bool, true, false, ◌&&◌, ◌||◌, if◌then◌else◌, List}
use Rattle.std.proofs.Common.{[], ◌∷◌, ◌∙◌, None, refl, sym, ap, ap₂, subst}
use Rattle.std.specs.List.{list_any}
use Rattle.std.proofs.Math.Bool.{or-true}
use Rattle.std.proofs.lemmas.Bool.{false≢true}
use Rattle.std.proofs.lemmas.Option.{none-some}
use Rattle.syn_machine.specs.Coordinator.{Exchange, Running, is_last, took_not_dir}
use Rattle.syn_machine.specs.Network.{Left, Right, Which, is_side, other}
use Rattle.syn_machine.specs.Session.{fault_of, is_not_dir}
use Rattle.syn_machine.specs.Side.{Begin, Begun, Fetch, ListAt, Replace, Request, Stage}
use Rattle.syn_machine.specs.Side as model
use Rattle.syn_model.specs.Path.{Path}
use Rattle.syn_session.specs.declared.session.Session.{Session}
use Rattle.syn_session.specs.Hearing.{HasHeard}
use Rattle.syn_session.specs.Scanning.{shows_unstable, told_unstable}
use Rattle.syn_session.specs.Sessions.{Tells, TellsOf}
use Rattle.syn_session.specs.Stages.{IsFoundOnBoth, IsOfScan, found_on, nothing_reached}
use Rattle.syn_session.specs.Stages.{reached_by}

pub list_not_begin : (path : Path) (pair : ℕ) → ListAt path ≡ Begin pair → ⊥
list_not_begin path pair e = cc

pub either_nothing : (b : Bool) → let n : ℕ = if b then 0 else 0 in n ≡ 0
either_nothing true = refl
either_nothing false = refl

-- a path was answered as no directory where a side did so
pub told_either : (taken : List Exchange) → (told_unstable taken Left || told_unstable taken Right)
    ≡ list_any (λ one. is_not_dir one.reply) taken
told_either [] = refl
told_either (one ∷ more) =
    by one.side (is_not_dir one.reply) ∙ ap (λ b. is_not_dir one.reply || b) (told_either more)
  where
    by : (side : Which) (b : Bool) → ((is_side Left side && b) || told_unstable more Left
        || ((is_side Right side && b) || told_unstable more Right))
        ≡ (b || (told_unstable more Left || told_unstable more Right))
    by Left true = refl
    by Left false = refl
    by Right true = or-true (told_unstable more Left)
    by Right false = refl

pub not_across : (side : Which) → is_side (other side) side ≡ false
not_across Left = refl
not_across Right = refl

pub other_side : (side : Which) → side ≡ other side → ⊥
other_side Left e = false≢true (sym (ap (is_side Left) e))
other_side Right e = false≢true (sym (ap (is_side Right) e))

-- what a session tells that has no plan
pub tells_nothing : (session : Session) (running : Running) → running.session ≡ session.number →
    IsFoundOnBoth session running.taken → session.progress ≡ None →
    reached_by running ≡ nothing_reached → Tells session running
tells_nothing session running number found scans nothing =
    record {
      number = number;
      found = found;
      told = subst (λ c. TellsOf c (reached_by running)) (sym scans) nothing;
    }

-- a path was answered as no directory where one of the scans shows one
pub took_by_scans : (session : Session) (running : Running) → Tells session running →
    (shows_unstable (found_on session Left) || shows_unstable (found_on session Right))
    ≡ took_not_dir running
took_by_scans session running tells =
    ap₂ (λ l r. l || r) (sym (tells.found Left).unstable) (sym (tells.found Right).unstable)
    ∙ told_either running.taken

pub tells_heard : (session : Session) (heard : Running) → HasHeard session heard →
    Tells session heard
tells_heard session heard h =
    tells_nothing session heard h.heard_is.number h.found h.scans h.reached

-- an answer to a begin or a listing that does not end the session is not the last to an item
pub scans_further : (taken : List Exchange) (side : Which) (request : Request) → IsOfScan request →
    (reply : model.Reply) → fault_of taken side request reply ≡ None → is_last reply ≡ true → ⊥
scans_further taken side (Begin pair) this (model.Begun position) f l = false≢true l
scans_further taken side (Begin pair) this (model.Listed position entries) f l = false≢true l
scans_further taken side (Begin pair) this (model.NotDir position) f l = false≢true l
scans_further taken side (Begin pair) this (model.Piece total bytes) f l = false≢true l
scans_further taken side (Begin pair) this model.Staged f l = false≢true l
scans_further taken side (Begin pair) this model.Done f l = none-some _ (sym f)
scans_further taken side (Begin pair) this (model.Refused why) f l = none-some _ (sym f)
scans_further taken side (ListAt path) this (model.Begun position) f l = false≢true l
scans_further taken side (ListAt path) this (model.Listed position entries) f l = false≢true l
scans_further taken side (ListAt path) this (model.NotDir position) f l = false≢true l
scans_further taken side (ListAt path) this (model.Piece total bytes) f l = false≢true l
scans_further taken side (ListAt path) this model.Staged f l = false≢true l
scans_further taken side (ListAt path) this model.Done f l = none-some _ (sym f)
scans_further taken side (ListAt path) this (model.Refused why) f l = none-some _ (sym f)
scans_further taken side (Fetch path since offset) this reply f l = absurd this
scans_further taken side (Stage item offset bytes) this reply f l = absurd this
scans_further taken side (Replace item path since size) this reply f l = absurd this
