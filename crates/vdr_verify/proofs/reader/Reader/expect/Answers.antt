use Rattle.std.proofs.Common.{length, ◌∙◌}
use Rattle.vdr_verify.proofs.Pieces.{expects_by, short_lacks, took}
use Rattle.vdr_verify.proofs.reader.Reader.expect.Goals as goal

pub returns-then-not-branch-clause-expects : goal.returns-then-not-branch-clause-expects
returns-then-not-branch-clause-expects g c =
    short_lacks _ c.args.wanted.now (length c.take.new.into) (c.take.auto.into ∙ c.requires) (took _ _ _ _ _ _ _ _ c.in_ok-take.was c.if-not-branch.true c.take.ensures.takes).1

pub returns-clause-expects : goal.returns-clause-expects
returns-clause-expects g c =
    expects_by _ _ _ _ c.take.new.into c.args.wanted.now c.eq.result c.eq.ensures (c.take.auto.into ∙ c.requires) (took _ _ _ _ _ _ _ _ c.in_ok-take.was c.if-not-branch.false c.take.ensures.takes)
