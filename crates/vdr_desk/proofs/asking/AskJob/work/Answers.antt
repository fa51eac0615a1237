use Rattle.vdr_desk.proofs.asking.AskJob.work.Goals as goal

pub returns-clause-relates : goal.returns-clause-relates
returns-clause-relates g c = (c.answer-reply.ensures.follows c.args.self.now.desk, λ history h. c.answer-reply.ensures.told c.args.self.now.desk history h)
