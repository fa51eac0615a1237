use Rattle.std.proofs.Common.{rules}
use Rattle.vdr_outside.proofs.Known.{keeps-handed, begins-appends}
use Rattle.vdr_outside.proofs.buffered.BufferedSink.hand_on.Goals as goal

pub returns-in_err-result-clause-kept : goal.returns-in_err-result-clause-kept
returns-in_err-result-clause-kept g c =
    keeps-handed _ _ c.as_slice.result.now c.args.self.now.buffer.items c.args.self.now.handed c.write_front-count.result.0 c.as_slice.ensures.value c.write_front-count.ensures.bytes

pub invariant_of-self-2 : goal.invariant_of-self-2
invariant_of-self-2 g c = record {
  same = c.args.self.now.same;
  grown = begins-appends _ _ _ _ c.args.self.now.grown c.write_front-count.ensures.bytes;
  within = search rules;
}
