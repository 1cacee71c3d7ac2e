use Rattle.std.proofs.Common.{◌≡◌, ◌∙◌, ap, sym}
use Rattle.std.proofs.lemmas.Result.{IfOk-weaker}
use Rattle.std.specs.String.{string_bytes}
use Rattle.hex.specs.Hex.{encode_lower}
use Rattle.sha2.specs.Sha256.{sha256}
use Rattle.syn_print.proofs.image.file_line.Goals as goal

pub returns : goal.returns
returns c =
    let hex : encode_lower (sha256 c.args.bytes.now) ≡ string_bytes c.in_ok-digest.digest =
    sym (c.in_ok-digest.ensures ∙ ap encode_lower c.digest.ensures) in
    IfOk-weaker c.format.result _ _ (λ line told. rw hex told) c.format.ensures.ok
