use Rattle.std.proofs.Common.{List, refl, subst}
use Rattle.vdr_desk.proofs.Going.{goes_on, split}
use Rattle.vdr_desk.proofs.asking.take_further_turn.Goals as goal

pub turn-requires-clause-asks : goal.turn-requires-clause-asks
turn-requires-clause-asks g c = λ x meets.
    let w = c.requires.waits in
    let told = w.3 in
    let begins = meets.1.begins in
    let is = split (g.T.Answers.answers c.args.desk) (g.T.Answers.waits c.args.desk) w.0 w.1 c.args.pass.now.seen meets.0 w.2 c.args.rest told begins in
    (c.args.rest, refl, c.clear.ensures, (told.answer, begins.0, told.so_far, subst (λ (xs : List g.row.T-Event.Denot). g.T.Stepped.leaves xs x) is meets.2))

pub returns-clause-falls : goal.returns-clause-falls
returns-clause-falls g c =
    let t = c.turn.ensures.event in
    (t.related.1 c.args.rest refl).0

pub returns-clause-told : goal.returns-clause-told
returns-clause-told g c = λ from order text told.
    let t = c.turn.ensures.event in
    let begins = t.possible.begins in
    let is = split (g.T.Answers.answers c.args.desk) (g.T.Answers.waits c.args.desk) from order c.args.pass.now.seen t.history text c.args.rest told begins in
    goes_on (g.T.Answers.answers c.args.desk) (g.T.Answers.waits c.args.desk) from order c.args.pass.now.seen t.history text c.args.rest told begins c.turn.new.pass.seen (g.T.Answers.step c.args.desk t.met t.left) c.turn.new.job.piece.now.bytes.items c.turn.new.job.rest t.seen
    ((t.related.1 c.args.rest refl).1 told.answer begins.0 told.so_far (subst (λ (xs : List g.row.T-Event.Denot). g.T.Stepped.leaves xs t.met) is t.before))
