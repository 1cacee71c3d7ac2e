use Rattle.std.proofs.Common.{◌≡◌, ◌-◌, ◌+◌, ◌++◌, ◌∙◌, length, arith, ap, replicate}
use Rattle.syn_path.proofs.DerivedKeyLemmas.{put_after}
use Rattle.syn_path.proofs.key.put_at.Goals as goal

pub returns : goal.returns
returns c front count is =
    let at = c.args.at in
    let k = length c.args.more.now in
    let size : at + k - at ≡ k = omega arith in
    let end : at + (at + k - at) ≡ at + k = omega arith in
    put_after front c.args.more.now c.args.bytes.now c.copy_from_slice.new.self at (at + k - at)
    is count c.copy_from_slice.ensures.after size (omega (arith, c.requires))
    ∙ ap (λ m. (front ++ c.args.more.now) ++ replicate (255 - m) 0) end
