-- Each token has one replacement at most.
use Rattle.std.proofs.Common.{◌≡◌, ℕ, true, false, not, ◌&&◌, ◌||◌, ◌==◌, nat_lt, [], ◌∷◌, ◌++◌}
use Rattle.std.proofs.Common.{sym, ap, ◌∙◌, subst, Some, None, append_assoc, append-nil, arith}
use Rattle.std.specs.Prelude.{All}
use Rattle.std.specs.Option.{option_map_or}
use Rattle.std.proofs.lemmas.Bool.Decides.{nat_tests}
use Rattle.std.proofs.lemmas.List.Elements.{All-nil, All-cons}
use Rattle.std.proofs.lemmas.Bool.{not-false, or_parts}
use Rattle.syn_model.specs.Path.{Path}
use Rattle.syn_model.specs.Tree.{Tree, replace}
use Rattle.syn_model.specs.Refusal.{OldSession}
use Rattle.syn_model.specs.Event.{Token, is_below, Edited, Began, Replaced}
use Rattle.syn_model.specs.History.{History, IsHistory, AllAllowed, IsAllowed, tree_of}
use Rattle.syn_model.specs.History.{last_session, last_token, is_old_token, position_causes}
use Rattle.syn_model.specs.Standing.{place_causes, full_causes}
use Rattle.syn_runs.specs.Headline.{IsOtherToken}
use Rattle.syn_model.proofs.HistoryLemmas.{first_cause-none}
use Rattle.syn_runs.proofs.StagedLemmas.{token_one}

numbers_above : (ls li us ui ts ti : ℕ) → (nat_lt ls ts || (ls == ts && nat_lt li ti)) ≡ false →
    (nat_lt ls us || (ls == us && nat_lt li ui)) ≡ true →
    ((us == ts && ui == ti) ≡ false) × ((nat_lt us ts || (us == ts && nat_lt ui ti)) ≡ false)
numbers_above ls li us ui ts ti h k = (grind (arith, nat_tests), grind (arith, nat_tests))

itself_not_below : (s i : ℕ) → (nat_lt s s || (s == s && nat_lt i i)) ≡ false
itself_not_below s i = grind (arith, nat_tests)

pub above_last : (history : History) (last token : Token) (path : Path) (since : ℕ) (new : Tree) →
    last_token history ≡ Some last → IsAllowed history (Replaced token path since new) →
    is_below last token ≡ true
above_last history last token path since new e a =
    let rest = place_causes (tree_of history) path
    ++ (full_causes (replace (tree_of history) path new) ++ position_causes history) in
    let one = (first_cause-none (is_old_token history token, OldSession) rest a.not_refused).0 in
    let two = (or_parts (token.session == 0 || not (token.session == last_session history))
    (option_map_or (λ last. not (is_below last token)) (last_token history) false) one).1 in
    not-false _ (ap (λ o. option_map_or (λ last. not (is_below last token)) o false) (sym e) ∙ two)

others_later : (done events : History) (last token : Token) → last_token done ≡ Some last →
    is_below last token ≡ false → AllAllowed done events → All (IsOtherToken token) events
others_later done [] last token e b all = All-nil (IsOtherToken token)
others_later done (Edited user edit ∷ events) last token e b all =
    All-cons (IsOtherToken token) (Edited user edit) events tt
    (others_later (done ++ Edited user edit ∷ []) events last token
    (token_one None done (Edited user edit) ∙ e) b all.1)
others_later done (Began session ∷ events) last token e b all =
    All-cons (IsOtherToken token) (Began session) events tt (others_later (done ++ Began session
    ∷ []) events last token (token_one None done (Began session) ∙ e) b all.1)
others_later done (Replaced used path since new ∷ events) last token e b all =
    let above = above_last done last used path since new e all.0 in
    let both = numbers_above last.session last.item used.session used.item token.session token.item
    b above in
    All-cons (IsOtherToken token) (Replaced used path since new) events both.0
    (others_later (done ++ Replaced used path since new ∷ []) events used token
    (token_one None done (Replaced used path since new)) both.1 all.1)

pub after_front : (start xs ys : History) → AllAllowed start (xs ++ ys) →
    AllAllowed (start ++ xs) ys
after_front start [] ys h = subst (λ w. AllAllowed w ys) (sym (append-nil start)) h
after_front start (x ∷ xs) ys h =
    subst (λ w. AllAllowed w ys) (append_assoc start (x ∷ []) xs)
    (after_front (start ++ x ∷ []) xs ys h.1)

-- a history has one replacement of a token at most
pub token_once : (history earlier later : History) (token : Token) (path : Path) (since : ℕ)
    (new : Tree) → IsHistory history → history ≡ earlier ++ Replaced token path since new ∷ later →
    All (IsOtherToken token) later
token_once history earlier later token path since new h e =
    let event = Replaced token path since new in
    let rest = after_front [] earlier (event ∷ later) (subst IsHistory e h) in
    others_later (earlier ++ event ∷ []) later token token (token_one None earlier event)
    (itself_not_below token.session token.item) rest.1
