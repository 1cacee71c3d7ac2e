use Rattle.std.proofs.Common.{◌≡◌, ◌-◌, ◌++◌, min, length, take, ap, ◌∙◌, refl}
use Rattle.syn_model.specs.Path.{Bytes}
use Rattle.syn_wire.proofs.WindowLemmas.{shows_more}
use Rattle.syn_wire.proofs.window.Window.push.Goals as goal

pub returns : goal.returns
returns c offset written was =
    let own = c.args.self.now in
    let rest = c.split_at.ensures.back in
    let shown : c.split_at-2.result.0.now
    ≡ take (min c.saturating_sub-room.result (length c.split_at.result.1.now))
    c.split_at.result.1.now = c.split_at-2.ensures.front
    ∙ ap (λ n. take n c.split_at.result.1.now) c.min.ensures in
    let more = c.in_ok-extend_from_slice.ensures.items
    ∙ ap (λ (xs : Bytes). own.kept.items ++ xs)
    (shown ∙ ap (λ (xs : Bytes). take (min c.saturating_sub-room.result (length xs)) xs) rest) in
    let room = c.saturating_sub-room.ensures
    ∙ ap (λ n. 32768 - n) (c.len.ensures ∙ own.kept.ok.0) in
    shows_more offset written c.args.bytes.now own.kept.items own.skip
    c.extend_from_slice.new.self.items _ c.min-passed.result c.saturating_sub-room.result was
    c.min-passed.ensures room refl more
