use Rattle.std.proofs.Common.{refl}
use Rattle.syn_serve.proofs.serving.ServingWork.work.Goals as goal

pub returns-clause-done : goal.returns-clause-done
returns-clause-done g c = record {
  shared = c.args.shared.now;
  first = c.args.pass.now;
  last = c.serve-ended.new.pass;
  is_for = c.requires;
  answer = c.serve-ended.result;
  ended_so = refl;
  serves = c.serve-ended.ensures.serves;
}
