use Rattle.std.proofs.Common.{◌≡◌, sym, ◌∙◌, subst}
use Rattle.vdr_desk.proofs.Lists.{same_some}
use Rattle.vdr_desk.proofs.asking.GoOnJob.work.Goals as goal

pub go_on-requires-clause-waits : goal.go_on-requires-clause-waits
go_on-requires-clause-waits g c =
    let h = c.requires in
    let w = h.3 in
    let same : h.0 ≡ c.in-Some.rest = same_some h.0 c.in-Some.rest (sym h.1 ∙ sym c.take.ensures.value ∙ c.in-Some.is) in
    (c.args.self.now.desk, w.0, w.1, subst (g.T.Answers.waits c.args.self.now.desk w.0) same w.2, w.3)
