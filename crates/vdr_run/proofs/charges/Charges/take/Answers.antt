use Rattle.vdr_run.proofs.charges.Charges.take.Goals as goal

pub returns : goal.returns
returns c limits popped bytes h len = (c.size_of-size.ensures limits popped bytes h len, c.if-left-size.false, c.count.ensures limits popped bytes h len)
