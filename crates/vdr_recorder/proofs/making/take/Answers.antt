use Rattle.std.proofs.Common.{◌∷◌, ◌++◌, [], ◌∙◌, sym, ap, subst}
use Rattle.vdr_core.specs.Taken.{Captured}
use Rattle.vdr_run.specs.Calls.{FitsRun}
use Rattle.vdr_run.specs.Making.{IsMaking, TakesOne, item_told}
use Rattle.vdr_recorder.proofs.making.take.Goals as goal

pub take-requires-clause-fits : goal.take-requires-clause-fits
take-requires-clause-fits c = subst (FitsRun c.head_of.result) (sym (c.as_slice.ensures.value ∙ ap (λ (x : Captured). x.bytes) c.item.view_is)) c.head_of.ensures.fits

pub returns-clause-making : goal.returns-clause-making
returns-clause-making c start popped before t =
    subst (λ (x : Captured). IsMaking c.args.config.now start (popped ++ x ∷ []) before c.take.new.self)
    (ap (item_told c.head_of.result) (c.as_slice.ensures.value ∙ ap (λ (x : Captured). x.bytes) c.item.view_is) ∙ c.head_of.ensures.told)
    (c.take.ensures.making start popped before t)

pub returns-clause-one : goal.returns-clause-one
returns-clause-one c =
    subst (λ (x : Captured). TakesOne c.args.maker.now c.take.new.self x)
    (ap (item_told c.head_of.result) (c.as_slice.ensures.value ∙ ap (λ (x : Captured). x.bytes) c.item.view_is) ∙ c.head_of.ensures.told)
    c.take.ensures.one
