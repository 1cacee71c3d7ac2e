use Rattle.std.proofs.Common.{◌≡◌, ℕ, List, ◌++◌, take, subst, IfSome, option_map}
use Rattle.syn_folder.proofs.StreamLemmas.{taken}
use Rattle.syn_folder.proofs.system.streams.first_bytes.Goals as goal

pub returns : goal.returns
returns g c =
    let before = c.new-bytes.result.items in
    let bytes = c.read_to_end.new.buf.items in
    let IsRead : ℕ → _ → Type 0 = λ most file.
    IfSome (option_map (take most) (g.R.Read.remaining file)) (λ (xs : List ℕ). bytes ≡ before ++
    xs) in
    taken (g.R.Read.remaining c.args.file) 16384 before bytes c.new-bytes.ensures.items
    (subst (λ most. IsRead most c.args.file) c.take.ensures.limit
    (subst (λ file. IsRead c.take.result.limit file) c.take.ensures.inner
    c.in_ok-read_to_end.ensures.bytes))
