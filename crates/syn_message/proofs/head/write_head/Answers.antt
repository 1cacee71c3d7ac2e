use Rattle.std.proofs.Common.{◌≡◌, ◌++◌, ◌∷◌, ◌∙◌, List, ℕ, [], ap, append_assoc, append-nil, sym}
use Rattle.std.specs.Prelude.{Result, Ok, Err, OnOk}
use Rattle.std.specs.Int.{to_be_bytes, w32, w64}
use Rattle.syn_message.proofs.head.write_head.Goals as goal

front : {T E : Type 0} (result : Result T E) (new old mid end a b d : List ℕ) → mid ≡ old ++ a
    → end ≡ mid ++ b → OnOk result (new ≡ end ++ d)
    → OnOk result (new ≡ old ++ (a ++ (b ++ (d ++ []))))
front (Ok done) new old mid end a b d first second third =
    third ∙ (ap (λ x. x ++ d) (second ∙ ap (λ x. x ++ b) first)
    ∙ (append_assoc (old ++ a) b d ∙ append_assoc old a (b ++ d)))
    ∙ ap (λ x. old ++ (a ++ (b ++ x))) (sym (append-nil d))
front (Err e) new old mid end a b d first second third = third

pub returns : goal.returns
returns c =
    front c.write_u32.result _ _ _ _ (c.args.kind ∷ []) (to_be_bytes w64 c.args.session)
    (to_be_bytes w32 c.args.number) c.in_ok-push.ensures.items c.in_ok-write_u64.ensures.added
    c.write_u32.ensures.added
