-- What words say, by the first of them.
use Rattle.std.proofs.Common.{◌≡◌, ◌≢◌, ◌∙◌, List, [], ◌∷◌, codes, refl, sym, ap, if◌then◌else◌}
use Rattle.std.proofs.Common.{subst, Some, None}
use Rattle.std.specs.Prelude.{bytes_eq}
use Rattle.syn_simulate.specs.Words.{Say, Text}
use Rattle.syn_simulate.specs.inner.Rows.{NothingAfter, NothingSaid, SayAfter, verb_word}
use Rattle.syn_simulate.specs.declared.line.Line.{Line}
use Rattle.syn_simulate.specs.declared.line.Line.TheVariants as has
use Rattle.syn_simulate.specs.declared.verb.Verb.{Verb}
use Rattle.syn_simulate.specs.declared.verb.Verb.TheVariants as verb

abbrev pub verb_of : Line → Verb
verb_of (has.Edit side user edit) = verb.Edit
verb_of (has.Start preference) = verb.Start
verb_of has.Tick = verb.Tick
verb_of (has.Deliver first last) = verb.Deliver
verb_of has.Drain = verb.Drain
verb_of (has.Checkpoint m) = verb.Checkpoint
verb_of (has.Fail m call) = verb.Fail
verb_of (has.Stop m call leaves) = verb.Stop
verb_of (has.Open m) = verb.Open
verb_of (has.Reopen m) = verb.Reopen

-- the verb of a word, any where it has none
abbrev verb_at : Text → Verb
verb_at word = if bytes_eq word (codes "edit") then verb.Edit
    else if bytes_eq word (codes "start") then verb.Start
    else if bytes_eq word (codes "tick") then verb.Tick
    else if bytes_eq word (codes "deliver") then verb.Deliver
    else if bytes_eq word (codes "drain") then verb.Drain
    else if bytes_eq word (codes "checkpoint") then verb.Checkpoint
    else if bytes_eq word (codes "fail") then verb.Fail
    else if bytes_eq word (codes "stop") then verb.Stop
    else if bytes_eq word (codes "open") then verb.Open
    else verb.Reopen

verb_is : (v : Verb) → verb_at (verb_word v) ≡ v
verb_is verb.Edit = refl
verb_is verb.Start = refl
verb_is verb.Tick = refl
verb_is verb.Deliver = refl
verb_is verb.Drain = refl
verb_is verb.Checkpoint = refl
verb_is verb.Fail = refl
verb_is verb.Stop = refl
verb_is verb.Open = refl
verb_is verb.Reopen = refl

-- no two verbs have one word
one_verb : (v w : Verb) → verb_word v ≡ verb_word w → v ≡ w
one_verb v w e = sym (verb_is v) ∙ ap verb_at e ∙ verb_is w

-- the words of a step begin with its verb
record BeginsWithVerb (words : List Text) (line : Line) : Type 0 where
  rest : List Text
  parts : words ≡ verb_word (verb_of line) ∷ rest
  said : SayAfter (verb_of line) rest line

verb_begins : (words : List Text) (line : Line) → Say words line → BeginsWithVerb words line
verb_begins words (has.Edit side user edit) s =
    record { rest = _; parts = s.2; said = (s.0, s.1, refl, s.3, s.4) }
verb_begins words (has.Start None) s = record { rest = []; parts = s; said = refl }
verb_begins words (has.Start (Some side)) s = record { rest = _; parts = s; said = refl }
verb_begins words has.Tick s = record { rest = []; parts = s; said = refl }
verb_begins words (has.Deliver first last) s = record { rest = s.0; parts = s.1; said = s.2 }
verb_begins words has.Drain s = record { rest = []; parts = s; said = refl }
verb_begins words (has.Checkpoint m) s = record { rest = _; parts = s; said = refl }
verb_begins words (has.Fail m call) s = record { rest = _; parts = s.1; said = (s.0, refl, s.2) }
verb_begins words (has.Stop m call leaves) s =
    record { rest = _; parts = s.1; said = (s.0, refl, s.2) }
verb_begins words (has.Open m) s = record { rest = _; parts = s; said = refl }
verb_begins words (has.Reopen m) s = record { rest = _; parts = s; said = refl }

head_is : (x y : Text) (xs ys : List Text) → x ∷ xs ≡ y ∷ ys → (x ≡ y) × (xs ≡ ys)
head_is x y xs ys e = (cc, cc)

-- where the words after a verb say nothing, the words with it say nothing
pub nothing_said : (v : Verb) (words : List Text) → NothingAfter v words →
    NothingSaid (verb_word v ∷ words)
nothing_said v words nothing line s =
    let b = verb_begins (verb_word v ∷ words) line s in
    let e = head_is _ _ _ _ b.parts in
    let P : Verb → Type 0 = λ w. SayAfter w words line in
    let Q : List Text → Type 0 = λ ws. SayAfter (verb_of line) ws line in
    nothing line (subst P (sym (one_verb _ _ e.0)) (subst Q (sym e.1) b.said))

-- words whose first has no verb say nothing
pub no_verb : (word : Text) (words : List Text) → ((v : Verb) → word ≢ verb_word v) →
    NothingSaid (word ∷ words)
no_verb word words none line s =
    let b = verb_begins (word ∷ words) line s in
    none (verb_of line) (head_is _ _ _ _ b.parts).0
