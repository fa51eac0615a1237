use Rattle.std.proofs.Common.{List, Option, Some, refl, ap, ◌∙◌}
use Rattle.vdr_terms.specs.declared.rate.Rate.{Rate}
use Rattle.vdr_config.specs.Sizes.{limits_in}
use Rattle.vdr_run.specs.Meters.{rates_of}
use Rattle.vdr_recorder.proofs.making.start_run.Goals as goal

pub returns-clause-makes : goal.returns-clause-makes
returns-clause-makes c = record {
  makes = c.start.ensures.makes (limits_in c.args.config.now.groups) (λ made none. record {
    rates = λ g l. ap (λ (rates : List (Option Rate)). limits_in rates g) c.new.ensures.rates;
    measures = c.new.ensures.nothing made none;
  });
  limits = refl;
  rates = ap rates_of c.start.ensures.metered ∙ ap (λ (rates : List (Option Rate)). Some rates) c.new.ensures.rates;
}

pub returns-clause-records : goal.returns-clause-records
returns-clause-records c = c.start.ensures.records (limits_in c.args.config.now.groups)
