use Rattle.vdr_recorder.proofs.GoingOn.{headline_goes_on}
use Rattle.vdr_recorder.proofs.law.law_of_goes_on.Goals as goal

pub returns : goal.returns
returns g c = record {
  goes_on = λ x w h holds.
      headline_goes_on x g.A.Accounting.told g.A.Accounting.may_pend (g.M.Media.disk c.args.before.now) (g.M.Media.disk c.args.after.now) g.A.Accounting.hears w holds h;
}
