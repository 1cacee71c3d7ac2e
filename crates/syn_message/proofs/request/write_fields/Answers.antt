use Rattle.std.proofs.Common.{◌≡◌, ◌++◌, ◌∙◌, List, ℕ, ap, append_assoc, subst, sym}
use Rattle.std.specs.Prelude.{Result, Ok, Err, OnOk}
use Rattle.std.proofs.lemmas.Result.{on_ok_weaker}
use Rattle.syn_message.specs.Requests.{fields_spelling, request_of}
use Rattle.std.specs.Int.{to_be_bytes, w32, w64}
use Rattle.syn_model.specs.Path.{path_spelling}
use Rattle.syn_message.proofs.request.write_fields.Goals as goal
use Rattle.syn_wire.specs.Events.{file_spelling}

-- what is added after two parts is added after both
three : {T E : Type 0} (result : Result T E) (new old mid end a b d : List ℕ) → mid ≡ old ++ a
    → end ≡ mid ++ b → OnOk result (new ≡ end ++ d) → OnOk result (new ≡ old ++ (a ++ (b ++ d)))
three (Ok done) new old mid end a b d first second third =
    third ∙ (ap (λ x. x ++ d) (second ∙ ap (λ x. x ++ b) first)
    ∙ (append_assoc (old ++ a) b d ∙ append_assoc old a (b ++ d)))
three (Err e) new old mid end a b d first second third = third

four : {T E : Type 0} (result : Result T E) (new old mid more end a b d e : List ℕ)
    → mid ≡ old ++ a → more ≡ mid ++ b → end ≡ more ++ d → OnOk result (new ≡ end ++ e)
    → OnOk result (new ≡ old ++ (a ++ (b ++ (d ++ e))))
four result new old mid more end a b d e first second third fourth =
    on_ok_weaker result (λ is. is ∙ (ap (λ x. x ++ (b ++ (d ++ e))) first
    ∙ append_assoc old a (b ++ (d ++ e)))) (three result new mid more end b d e second third fourth)

pub returns-in_ok-write_u64-in-Fetch : goal.returns-in_ok-write_u64-in-Fetch
returns-in_ok-write_u64-in-Fetch c =
    subst (λ r. OnOk c.write_u32.result (c.write_u32.new.out.items
    ≡ c.args.body.now.items ++ fields_spelling (request_of r))) (sym c.in-Fetch.is)
    (three c.write_u32.result _ _ _ _ (path_spelling c.in-Fetch.path)
    (to_be_bytes w64 c.in-Fetch.since) (to_be_bytes w32 c.in-Fetch.offset)
    c.in_ok-write_path-in-Fetch.ensures.added c.in_ok-write_u64-in-Fetch.ensures.added
    c.write_u32.ensures.added)

pub returns-in_ok-write_u32-in-Stage-2 : goal.returns-in_ok-write_u32-in-Stage-2
returns-in_ok-write_u32-in-Stage-2 c =
    subst (λ r. OnOk c.write_file.result (c.write_file.new.out.items
    ≡ c.args.body.now.items ++ fields_spelling (request_of r))) (sym c.in-Stage.is)
    (subst (λ b. OnOk c.write_file.result (c.write_file.new.out.items ≡ c.args.body.now.items
    ++ (to_be_bytes w32 c.in-Stage.item ++ (to_be_bytes w32 c.in-Stage.offset
    ++ file_spelling b)))) c.as_slice.ensures.bytes
    (three c.write_file.result _ _ _ _ (to_be_bytes w32 c.in-Stage.item)
    (to_be_bytes w32 c.in-Stage.offset) (file_spelling c.as_slice.result.now)
    c.in_ok-write_u32-in-Stage.ensures.added c.in_ok-write_u32-in-Stage-2.ensures.added
    c.write_file.ensures.added))

pub returns-in_ok-write_u64-in-Replace : goal.returns-in_ok-write_u64-in-Replace
returns-in_ok-write_u64-in-Replace c =
    subst (λ r. OnOk c.write_u32-in-Replace-2.result (c.write_u32-in-Replace-2.new.out.items
    ≡ c.args.body.now.items ++ fields_spelling (request_of r))) (sym c.in-Replace.is)
    (four c.write_u32-in-Replace-2.result _ _ _ _ _ (to_be_bytes w32 c.in-Replace.item)
    (path_spelling c.in-Replace.path) (to_be_bytes w64 c.in-Replace.since)
    (to_be_bytes w32 c.in-Replace.length) c.in_ok-write_u32-in-Replace.ensures.added
    c.in_ok-write_path-in-Replace.ensures.added c.in_ok-write_u64-in-Replace.ensures.added
    c.write_u32-in-Replace-2.ensures.added)
