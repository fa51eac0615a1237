use Rattle.vdr_sentence.proofs.Readings.{reading-from_sentence}
use Rattle.vdr_sentence.proofs.Writing.{IsSentence-written}
use Rattle.vdr_sentence.proofs.write.write_sentence.Goals as goal

pub returns-clause-sentence : goal.returns-clause-sentence
returns-clause-sentence c = IsSentence-written c.put.new.into.items c.args.start c.args.content.now c.in_default.ensures.legal c.put.ensures.digits c.put.ensures.written

pub returns-clause-reads_back : goal.returns-clause-reads_back
returns-clause-reads_back c =
    reading-from_sentence c.put.new.into.items c.args.start c.args.content.now
    (IsSentence-written c.put.new.into.items c.args.start c.args.content.now c.in_default.ensures.legal c.put.ensures.digits c.put.ensures.written)
