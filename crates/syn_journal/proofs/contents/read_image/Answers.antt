use Rattle.std.proofs.Common.{◌≡◌, ◌∙◌, ◌+◌, ◌<◌, ap, take, drop, length, subst, arith}
use Rattle.std.specs.Int.{w32, to_be_bytes}
use Rattle.syn_journal.specs.Layout.{image_length_at, longest_image, start_of}
use Rattle.syn_journal.proofs.Openings.{if_ok_both, with_word, image_too_long}
use Rattle.syn_journal.proofs.Calls.{then_reads}
use Rattle.syn_journal.proofs.contents.read_image.Goals as goal

pub returns-then-size-gt-LONGEST_IMAGE-clause-refusals :
    goal.returns-then-size-gt-LONGEST_IMAGE-clause-refusals
unfolding image_length_at
returns-then-size-gt-LONGEST_IMAGE-clause-refusals g c =
    let seen = g.D.Disk.seen c.args.disk.now in
    let size : c.in_ok-size.field-0 ≡ image_length_at seen c.args.half =
    rw c.start.ensures at c.in_ok-size.ensures.value in
    image_too_long seen c.args.half
    (subst (λ n. longest_image < n) size c.if-size-gt-LONGEST_IMAGE.true)

pub returns-clause-image : goal.returns-clause-image
returns-clause-image g c =
    let seen = g.D.Disk.seen c.args.disk.now in
    let at = start_of c.args.half + 9 in
    let size = c.in_ok-size.field-0 in
    let word : to_be_bytes w32 size ≡ take 4 (drop at seen) =
    rw c.start.ensures at c.in_ok-size.ensures.bytes in
    let there : start_of c.args.half + 13 ≡ at + 4 = omega arith in
    if_ok_both c.read_bytes.result _ _ _
    (λ image value long. with_word seen at size (to_be_bytes w32 (length image.items)) image.items
    (ap (to_be_bytes w32) long ∙ word)
    (value ∙ ap (λ bytes. take size (drop (c.start-2.result + 13) bytes))
    c.in_ok-size.ensures.untouched.same ∙ ap (λ start. take size (drop (start + 13) seen))
    c.start-2.ensures ∙ ap (λ k. take size (drop k seen)) there)
    long)
    c.read_bytes.ensures.value c.read_bytes.ensures.size

pub returns-clause-calls : goal.returns-clause-calls
returns-clause-calls g c =
    then_reads 0 c.read_bytes.result (g.D.Disk.arms c.args.disk.now)
    (g.D.Disk.arms c.read_u32.new.disk)
    (g.D.Disk.arms c.read_bytes.new.disk) c.in_ok-size.ensures.calls c.read_bytes.ensures.calls

pub returns-then-size-gt-LONGEST_IMAGE-clause-calls :
    goal.returns-then-size-gt-LONGEST_IMAGE-clause-calls
returns-then-size-gt-LONGEST_IMAGE-clause-calls g c = c.in_ok-size.ensures.calls
