use Rattle.std.proofs.Common.{Result, IfOk, subst, refl, sym}
use Rattle.vdr_entry.specs.Queries.{asked}
use Rattle.vdr_ring.specs.declared.refused.ReadRefused.TheVariants.{Damaged, Fault}
use Rattle.vdr_ring.specs.declared.refused.ReadRefused.{ReadRefused}
use Rattle.vdr_vault.specs.Stretches.{IsWhole}
use Rattle.vdr_vault.specs.declared.stretch.Stretch.{Stretch}
use Rattle.vdr_recorder.proofs.Looking.{looked}
use Rattle.vdr_recorder.proofs.PlayTurns.{begun, cause_so, not_refused, only_read, refused_so}
use Rattle.vdr_recorder.proofs.recorder.Recorder.begin_play.Goals as goal

pub returns-in-Err-clause-looked : goal.returns-in-Err-clause-looked
returns-in-Err-clause-looked g c = rw (sym c.self.view_is)
    (looked (asked c.args.query.now) _ c.stretch_of.new.self _ _ _ _ _ _ _
    (only_read g.M.Media (asked c.args.query.now) _ _ _ _ c.stretch_of.result c.stretch_of.ensures.keeps c.stretch_of.ensures.reads)
    (cause_so _ _ _ _ c.stretch_of.result _ c.stretch_of.ensures.reads.cause (λ is. refused_so c.stretch_of.result _ c.in-Err.refused Fault c.in-Err.is refl is)))

pub returns-clause-begins : goal.returns-clause-begins
returns-clause-begins g c = rw (sym c.self.view_is) (λ opening events placed told readable.
    begun opening events c.args.query.now c.in-Ok.stretch c.new.result c.new.ensures
    (subst (λ (r : Result Stretch ReadRefused). IfOk r (IsWhole opening events (asked c.args.query.now))) c.in-Ok.is (c.stretch_of.ensures.begins opening events placed told readable)))

pub returns-clause-looked : goal.returns-clause-looked
returns-clause-looked g c = rw (sym c.self.view_is)
    (looked (asked c.args.query.now) _ c.stretch_of.new.self _ _ _ _ _ _ _
    (only_read g.M.Media (asked c.args.query.now) _ _ _ _ c.stretch_of.result c.stretch_of.ensures.keeps c.stretch_of.ensures.reads)
    (cause_so _ _ _ _ c.stretch_of.result _ c.stretch_of.ensures.reads.cause (λ is. not_refused c.stretch_of.result _ _ Fault refl is)))

pub returns-in-Err-clause-undamaged : goal.returns-in-Err-clause-undamaged
returns-in-Err-clause-undamaged g c = rw (sym c.self.view_is) (λ opening events placed m offset told readable is.
    c.stretch_of.ensures.undamaged opening events placed m offset told readable (refused_so c.stretch_of.result _ c.in-Err.refused (Damaged m offset) c.in-Err.is refl is))
