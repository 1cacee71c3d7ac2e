-- How a replacement is served, by what is staged and what the replica answers.
use Rattle.std.proofs.Common.{◌≡◌, ◌≢◌, ◌⊎◌, ◌∙◌, ◌-◌, ℕ, Bool, true, false, List, [], ◌∷◌, ◌++◌}
use Rattle.std.proofs.Common.{Option, Some, None, ap, arith, inl, inr, length, not, refl, subst}
use Rattle.std.proofs.Common.{sym}
use Rattle.std.proofs.lemmas.Bool.Decides.{nat_tests}
use Rattle.std.specs.Option.{option_map_or}
use Rattle.std.specs.Prelude.{◌||◌, ◌&&◌, ◌==◌, nat_lt, if◌then◌else◌}
use Rattle.syn_agent.proofs.CauseLemmas.{Never, never_first, outside, rooms}
use Rattle.syn_agent.proofs.ReplicaLemmas.{as_was, stays}
use Rattle.syn_agent.specs.Agents.{side_of, staging_of}
use Rattle.syn_agent.specs.Answers.{Answers, BreaksOff, IsUnchanged, WritesFor, keeps, adds}
use Rattle.syn_agent.specs.Answers.{breaks, room_for}
use Rattle.syn_agent.specs.Causes.{staging_causes}
use Rattle.syn_agent.specs.declared.agent.Agent.{Agent}
use Rattle.syn_disk.specs.Stops.{LeavesOnly}
use Rattle.syn_disk.specs.declared.disk.Disk.{Ghosts}
use Rattle.syn_machine.specs.Side.{Side, Served, Replace, Done, Refused, Reads, add_event, answer}
use Rattle.syn_machine.specs.Side.{is_dead_token, is_staged, replace_with, serve}
use Rattle.syn_machine.specs.Side.{Serves, TakesMemory, staged_bytes, unless_refused}
use Rattle.syn_machine.specs.Side as model
use Rattle.syn_model.specs.Event.{Event, Token, Replaced, is_below, is_same_token}
use Rattle.syn_model.specs.History.{History, is_old_token, last_session, last_token, tree_of}
use Rattle.syn_model.specs.History.{position_causes}
use Rattle.syn_model.specs.Path.{Path}
use Rattle.syn_model.specs.Refusal.{Refusal, Cause, first_cause, OldSession, NotStaged, BadStage}
use Rattle.syn_model.specs.Refusal.{JournalFull}
use Rattle.syn_model.specs.Refusal as why
use Rattle.syn_model.specs.Spelling.{event_spelling}
use Rattle.syn_model.specs.Standing.{full_causes, place_causes}
use Rattle.syn_model.specs.Tree.{Tree, replace}
use Rattle.syn_replica.specs.Calls.{Writes, unless}
use Rattle.syn_replica.specs.Refusals.{IsOneOf, outside_refusals}
use Rattle.syn_replica.specs.ErrorRefusals.{refusal_of}
use Rattle.syn_replica.specs.Replica.{KeepsBeforeOrAfter, Stands, disk_of, journal_of, left_shown}
use Rattle.syn_replica.specs.Replica.{pair_of, room_shown, standing_shown}
use Rattle.syn_replica.specs.Steps.{is_done, is_done_at, replace_refusal, replaced, room_causes}
use Rattle.syn_replica.specs.Causes.{since_causes}
use Rattle.syn_replica.specs.declared.error.ReplicaError.{ReplicaError}
use Rattle.syn_replica.specs.declared.replica.Replica.{Replica}
use Rattle.syn_replica.specs.declared.replica.session.TokenStatus.TheVariants as TokenStatus

-- of two tokens that are not one, one is below the other
other_way : (a b : Token) → is_same_token a b ≡ false → not (is_below a b) ≡ is_below b a
other_way a b apart = by a.session a.item b.session b.item apart
  where
    by : (s i t j : ℕ) → (s == t && i == j) ≡ false
        → not (nat_lt s t || (s == t && nat_lt i j)) ≡ (nat_lt t s || (t == s && nat_lt j i))
    by s i t j apart = grind (arith, nat_tests)

-- so a token that is not done is old where it is below the last
reached : (last : Option Token) (token : Token)
    → option_map_or (λ last. is_same_token last token) last false ≡ false
    → option_map_or (λ last. is_below token last) last false
    ≡ option_map_or (λ last. not (is_below last token)) last false
reached None token apart = refl
reached (Some last) token apart = sym (other_way last token apart)

module _ {D : Type 0} {disk : Ghosts D} (old : Replica D disk) (agent : Agent)
    (history : History) (session item : ℕ) (path : Path) (since size : ℕ)
    (stands : Stands old history) where
  abbrev token : Token
  token = record { session = session; item = item }

  abbrev side : Side
  side = side_of history agent

  abbrev below_staged : Bool
  below_staged = option_map_or (λ staged. is_below token staged.token) (staging_of agent) false

  abbrev causes_if : Bool → List Cause
  causes_if dead = (dead, OldSession) ∷ (not (is_staged (staging_of agent) token), NotStaged)
      ∷ (not (length (staged_bytes (staging_of agent)) == size), BadStage) ∷ []

  abbrev at : Option Tree → Served
  at read = serve (pair_of old) (room_for old) read side session (Replace item path since size)

  abbrev with : Option Tree → Served
  with read = replace_with (room_for old) side token path since read

  -- under a token that is done
  done : is_done history token ≡ true → (read : Option Tree) → at read ≡ answer side Done
  done is read = ap (λ b. if b then answer side Done
      else unless_refused side (first_cause (causes_if (is_dead_token side token))) (with read)) is

  -- under another
  undone : is_done history token ≡ false → (read : Option Tree)
      → at read ≡ unless_refused side
      (first_cause (causes_if (is_old_token history token || below_staged))) (with read)
  undone is read =
      ap (λ b. if b then answer side Done
      else unless_refused side (first_cause (causes_if (is_dead_token side token))) (with read)) is
      ∙ ap (λ z. unless_refused side (first_cause (causes_if (session == 0
      || not (session == last_session history) || z || below_staged))) (with read))
      (reached (last_token history) token is)

  -- an answer that is given without the replica, whatever is staged
  pub kept : (served : Served) → ((read : Option Tree) → at read ≡ served)
      → served.side ≡ side
      → Answers old old agent agent history session (Replace item path since size) served.reply
  kept served is same =
      keeps served (inl (None, inr (λ a b. is a ∙ sym (is b)), sym (is None))) same
      (as_was old) stands

  pub done_answers : is_done history token ≡ true
      → Answers old old agent agent history session (Replace item path since size) Done
  done_answers is = kept (answer side Done) (done is) refl

  pub old_answers : is_done history token ≡ false → is_old_token history token ≡ true
      → Answers old old agent agent history session (Replace item path since size)
      (Refused OldSession)
  old_answers fresh is = kept (answer side (Refused OldSession))
      (λ read. undone fresh read ∙ ap (λ b. unless_refused side
      (first_cause (causes_if (b || below_staged))) (with read)) is) refl

  -- under one that is open
  open_at : is_done history token ≡ false → is_old_token history token ≡ false
      → (read : Option Tree)
      → at read ≡ unless_refused side
      (first_cause (staging_causes (staging_of agent) token size)) (with read)
  open_at fresh young read = undone fresh read ∙ ap (λ b. unless_refused side
      (first_cause (causes_if (b || below_staged))) (with read)) young

  pub refused_answers : is_done history token ≡ false → is_old_token history token ≡ false
      → (refusal : Refusal)
      → first_cause (staging_causes (staging_of agent) token size) ≡ Some refusal
      → Answers old old agent agent history session (Replace item path since size)
      (Refused refusal)
  refused_answers fresh young refusal some = kept (answer side (Refused refusal))
      (λ read. open_at fresh young read ∙ ap (λ o. unless_refused side o (with read)) some) refl

  staged_at : is_done history token ≡ false → is_old_token history token ≡ false
      → first_cause (staging_causes (staging_of agent) token size) ≡ None
      → (read : Option Tree) → at read ≡ with read
  staged_at fresh young none read =
      open_at fresh young read ∙ ap (λ o. unless_refused side o (with read)) none

  -- what is staged is no spelling
  pub unread_answers : is_done history token ≡ false → is_old_token history token ≡ false
      → first_cause (staging_causes (staging_of agent) token size) ≡ None
      → Reads (staged_bytes (staging_of agent)) None
      → Answers old old agent agent history session (Replace item path since size)
      (Refused BadStage)
  unread_answers fresh young none reads =
      keeps (answer side (Refused BadStage))
      (inl (None, inl reads, sym (staged_at fresh young none None))) refl
      (as_was old) stands

  -- what is staged for a token that is neither done nor old takes memory to be put
  pub replacing_takes : is_done history token ≡ false → is_old_token history token ≡ false
      → first_cause (staging_causes (staging_of agent) token size) ≡ None
      → TakesMemory (pair_of old) (room_for old) side session (Replace item path since size)
  replacing_takes fresh young none = (
    fresh,
    ap (λ z. first_cause (causes_if (session == 0
        || not (session == last_session history) || z || below_staged)))
        (reached (last_token history) token fresh)
        ∙ (ap (λ b. first_cause (causes_if (b || below_staged))) young ∙ none),
  )

  -- memory is refused
  pub memory_answers : is_done history token ≡ false → is_old_token history token ≡ false
      → first_cause (staging_causes (staging_of agent) token size) ≡ None
      → (refusal : Refusal) → refusal ≡ why.Memory
      → Answers old old agent agent history session (Replace item path since size)
      (Refused refusal)
  memory_answers fresh young none refusal memory =
      subst (λ r. Answers old old agent agent history session (Replace item path since size)
      (Refused r)) (sym memory)
      (keeps (answer side (Refused why.Memory)) (inr (replacing_takes fresh young none, refl)) refl
      (as_was old) stands)

  module _ (fresh : is_done history token ≡ false) (young : is_old_token history token ≡ false)
      (none : first_cause (staging_causes (staging_of agent) token size) ≡ None) (tree : Tree)
      (reads : Reads (staged_bytes (staging_of agent)) (Some tree)) (new : Replica D disk) where
    abbrev event : Event
    event = Replaced token path since tree

    abbrev all_causes : List Cause
    all_causes = (is_old_token history token, OldSession) ∷ since_causes history path since
        ++ (place_causes (tree_of history) path
        ++ (full_causes (replace (tree_of history) path tree)
        ++ (position_causes history ++ room_causes (room_shown old) event)))

    room_is : room_shown old ≡ left_shown old - 5
    room_is = omega arith

    same_rooms : room_causes (room_shown old) event ≡ model.room_causes (room_for old) event
    same_rooms = ap (λ b. (b, JournalFull) ∷ [])
        (rooms (room_shown old) (left_shown old) (length (event_spelling event)) room_is
        (omega arith))

    causes_are : replace_refusal (room_shown old) history token path since tree
        ≡ first_cause (model.replace_causes (room_for old) side token path since tree)
    causes_are =
        ap (λ b. first_cause ((b, OldSession) ∷ since_causes history path since
        ++ (place_causes (tree_of history) path
        ++ (full_causes (replace (tree_of history) path tree)
        ++ (position_causes history ++ room_causes (room_shown old) event))))) young
        ∙ ap (λ r. first_cause (since_causes history path since
        ++ (place_causes (tree_of history) path
        ++ (full_causes (replace (tree_of history) path tree)
        ++ (position_causes history ++ r))))) same_rooms

    adding : Served
    adding = answer (add_event side event) Done

    serves : replace_refusal (room_shown old) history token path since tree ≡ None
        → Serves (pair_of old) (room_for old) side session (Replace item path since size)
        (answer (add_event side event) Done)
    serves allowed = inl (
      Some tree,
      inl reads,
      sym (staged_at fresh young none (Some tree)
          ∙ ap (λ o. unless_refused side o (answer (add_event side event) Done))
          (sym causes_are ∙ allowed)),
    )

    serves_not : (refusal : Refusal)
        → replace_refusal (room_shown old) history token path since tree ≡ Some refusal
        → Serves (pair_of old) (room_for old) side session (Replace item path since size)
        (answer side (Refused refusal))
    serves_not refusal some = inl (
      Some tree,
      inl reads,
      sym (staged_at fresh young none (Some tree)
          ∙ ap (λ o. unless_refused side o (answer (add_event side event) Done))
          (sym causes_are ∙ some)),
    )

    -- the event is written, since the token is not done
    writes_it : (Written : Option Event → Type 0)
        → Written (unless (is_done_at (standing_shown old) token) event) → Written (Some event)
    writes_it Written writes = subst (λ b. Written (unless b event))
        (ap (λ s. is_done_at s token) stands.remembers.standing ∙ fresh) writes

    -- the replica makes it
    pub made_answers : Stands new (replaced history token path since tree)
        → replace_refusal (room_shown old) history token path since tree ≡ None
        → Writes old new (unless (is_done_at (standing_shown old) token) event) None
        → WritesFor old new (unless (is_done_at (standing_shown old) token) event) None
        → LeavesOnly disk.moment disk.left_since (disk_of old) (disk_of new)
        (KeepsBeforeOrAfter old history event)
        → Answers old new agent agent history session (Replace item path since size) Done
    made_answers after allowed writes world any_moment =
        let made = writes_it (λ event. Writes old new event None) writes in
        adds (answer (add_event side event) Done) event (serves allowed) refl refl (record {
          stands = subst (Stands new)
              (ap (λ b. if b then history else history ++ event ∷ []) fresh) after;
          has = made.written;
          sends = record { tried = made.tried; any_moment = any_moment };
          calls = made.device.arms;
          failures = made.device.failures;
          world = writes_it (λ event. WritesFor old new event None) world;
        })

    -- the replica refuses it
    pub unmade_answers : (e : ReplicaError)
        → (IsOneOf outside_refusals e
        ⊎ (replace_refusal (room_shown old) history token path since tree ≡ Some (refusal_of e)))
        → ((refusal : Refusal)
        → replace_refusal (room_shown old) history token path since tree ≡ Some refusal
        → (refusal_of e ≡ refusal) ⊎ (refusal_of e ≡ why.Memory))
        → Writes old new (unless (is_done_at (standing_shown old) token) event)
        (Some (refusal_of e))
        → WritesFor old new (unless (is_done_at (standing_shown old) token) event)
        (Some (refusal_of e))
        → LeavesOnly disk.moment disk.left_since (disk_of old) (disk_of new)
        (KeepsBeforeOrAfter old history event)
        → Answers old new agent agent history session (Replace item path since size)
        (Refused (refusal_of e))
    unmade_answers e cause refused writes world any_moment =
        elim writes.unchanged [
          | inl device ↦ broken device
          | inr same ↦ elim cause [
            | inl out ↦ elim (outside e out) [
              | inl memory ↦ stayed same
                  (λ device. let k : why.Memory ≡ why.Device = sym memory ∙ device in cc)
                  (answer side (Refused (refusal_of e)))
                  (inr (
                    replacing_takes fresh young none,
                    ap (λ r. answer side (Refused r)) memory,
                  )) refl
              | inr device ↦ broken device
            ]
            | inr some ↦ stayed same (never_first why.Device (refusal_of e) all_causes never some)
                (answer side (Refused (refusal_of e)))
                (serves_not (refusal_of e) some) refl
          ]
        ]
      where
        stayed : journal_of new ≡ journal_of old → refusal_of e ≢ why.Device → (served : Served)
            → Serves (pair_of old) (room_for old) side session (Replace item path since size)
            served
            → served.side ≡ side
            → Answers old new agent agent history session (Replace item path since size)
            served.reply
        stayed same not served so stays_so =
            let as_it_was : IsUnchanged old new =
            record {
              memory = writes.readings.memory;
              journal = same;
              tried = writes.untried not;
            } in
            keeps served so stays_so as_it_was (stays old new history stands as_it_was)

        never : Never why.Device all_causes
        never = (
          (λ e. cc),
          (
            (λ e. cc),
            (
              (λ e. cc),
              (
                (λ e. cc),
                (
                  (λ e. cc),
                  (
                    (λ e. cc),
                    ((λ e. cc), ((λ e. cc), tt)),
                  ),
                ),
              ),
            ),
          ),
        )

        allowed : refusal_of e ≡ why.Device → (found : Option Refusal)
            → replace_refusal (room_shown old) history token path since tree ≡ found
            → replace_refusal (room_shown old) history token path since tree ≡ None
        allowed device None is = is
        allowed device (Some refusal) is =
            absurd (elim (refused refusal is) [
              | inl same ↦ never_first why.Device refusal all_causes never is (sym same ∙ device)
              | inr memory ↦ let k : why.Memory ≡ why.Device = sym memory ∙ device in cc
            ])

        off : refusal_of e ≡ why.Device → BreaksOff old new history event
        off device =
            let sent = subst (λ w. Writes old new (Some event) (Some w)) device
            (writes_it (λ event. Writes old new event (Some (refusal_of e))) writes) in
            record {
              halted = sent.halts refl;
              readings = sent.readings;
              sends = record {
                tried = elim sent.tried [
                  | inl tried ↦ tried.1
                  | inr none ↦ absurd (none.0 refl)
                ];
                any_moment = any_moment;
              };
              seen = sent.seen history stands;
              calls = sent.device.arms;
              failures = sent.device.failures;
              world = subst (λ w. WritesFor old new (Some event) (Some w)) device
                  (writes_it (λ event. WritesFor old new event (Some (refusal_of e))) world);
            }

        broken : refusal_of e ≡ why.Device
            → Answers old new agent agent history session (Replace item path since size)
            (Refused (refusal_of e))
        broken device =
            subst (λ r. Answers old new agent agent history session
            (Replace item path since size) (Refused r)) (sym device)
            (breaks (answer (add_event side event) Done) event (serves (allowed device _ refl)) refl
            refl (off device))

-- what is staged is never refused for lack of memory
pub staging_memory : (staging : Option model.Staging) (token : Token) (size : ℕ)
    (refusal : Refusal) → first_cause (staging_causes staging token size) ≡ Some refusal
    → refusal ≢ why.Memory
staging_memory staging token size refusal some = never_first why.Memory refusal
    (staging_causes staging token size) ((λ e. cc), ((λ e. cc), ((λ e. cc), tt))) some

-- what a token's standing says of it
pub stands_done : (a b : Bool)
    → TokenStatus.Done ≡ (if a then TokenStatus.Done
    else if b then TokenStatus.Old else TokenStatus.Open) → a ≡ true
stands_done true b is = refl
stands_done false true is = cc
stands_done false false is = cc

pub stands_old : (a b : Bool)
    → TokenStatus.Old ≡ (if a then TokenStatus.Done
    else if b then TokenStatus.Old else TokenStatus.Open) → (a ≡ false) × (b ≡ true)
stands_old true b is = absurd (let k : TokenStatus.Old ≡ TokenStatus.Done = is in cc)
stands_old false true is = (refl, refl)
stands_old false false is = absurd (let k : TokenStatus.Old ≡ TokenStatus.Open = is in cc)
