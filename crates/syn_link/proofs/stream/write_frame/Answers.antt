use Rattle.std.proofs.Common.{length, subst}
use Rattle.std.proofs.KnownBytes.{Appends-trans}
use Rattle.std.specs.Int.{to_be_bytes, w32}
use Rattle.syn_link.specs.Frames.{AppendsSome}
use Rattle.syn_link.proofs.WriteLemmas.{cut_frame, some_of_first, some_of_second, some_of_all}
use Rattle.syn_link.proofs.WriteLemmas.{on_err}
use Rattle.syn_link.proofs.stream.write_frame.Goals as goal

pub returns-in_err-write_front-clause-beginning : goal.returns-in_err-write_front-clause-beginning
returns-in_err-write_front-clause-beginning g c =
    let body = c.args.body.now in
    on_err _ (subst (AppendsSome (g.W.Write.contents c.args.writer.now)
    (g.W.Write.contents c.write_front.new.writer))
    (cut_frame (to_be_bytes w32 (length body)) body _ _ _ c.split_at.ensures.front
    c.split_at.ensures.back)
    (some_of_first _ _ _ _ c.in_err-write_front.ensures.beginning))

pub returns-in_err-write_whole-clause-beginning : goal.returns-in_err-write_whole-clause-beginning
returns-in_err-write_whole-clause-beginning g c =
    let body = c.args.body.now in
    on_err _ (subst (AppendsSome (g.W.Write.contents c.args.writer.now)
    (g.W.Write.contents c.write_whole.new.writer))
    (cut_frame (to_be_bytes w32 (length body)) body _ _ _ c.split_at.ensures.front
    c.split_at.ensures.back)
    (some_of_second _ _ _ _ _ c.in_ok-write_front.ensures.written
    c.in_err-write_whole.ensures.beginning))

pub returns-clause-beginning : goal.returns-clause-beginning
returns-clause-beginning g c =
    let body = c.args.body.now in
    on_err _ (subst (AppendsSome (g.W.Write.contents c.args.writer.now)
    (g.W.Write.contents c.flush.new.self))
    (cut_frame (to_be_bytes w32 (length body)) body _ _ _ c.split_at.ensures.front
    c.split_at.ensures.back)
    (some_of_all _ _ _ _ (Appends-trans _ _ _ _ _ c.in_ok-write_front.ensures.written
    c.in_ok-write_whole.ensures.written) c.flush.ensures.bytes))
