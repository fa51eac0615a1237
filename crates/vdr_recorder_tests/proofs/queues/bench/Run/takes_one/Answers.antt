use Rattle.std.proofs.Common.{rules, ◌≡◌, sym, ap, ◌∙◌, subst, arith}
use Rattle.vdr_terms.specs.declared.datagram.Verdict.TheVariants.{Yes}
use Rattle.vdr_terms.specs.Datagrams.{verdict}
use Rattle.vdr_entry.proofs.SpellingLemmas.{recordable_short}
use Rattle.vdr_core.specs.Taken.{Captured}
use Rattle.vdr_config.specs.Configuration.{Configuration}
use Rattle.vdr_config.specs.Sizes.{limits_in}
use Rattle.vdr_run.proofs.Sizes.{bytes_most}
use Rattle.vdr_recorder_tests.proofs.queues.bench.Run.takes_one.Goals as goal

pub take_batch-requires-clause-fits : goal.take_batch-requires-clause-fits
take_batch-requires-clause-fits g c = record {
  short =
      let makes = c.self.invariant.makes (sym c.failed.ensures ∙ c.if-failed.false) in record {
        start = makes.0;
        popped = makes.1;
        makes = makes.2;
        fit =
            let most = bytes_most (limits_in c.self.inside.recorder.vault.config.groups) makes.1 c.args.item in
            let short = recordable_short c.args.item.bytes (subst (λ (x : Captured). verdict x.bytes ≡ Yes) c.item.view_is c.item.invariant.recordable) in
            let batch = ap (λ (config : Configuration). config.batch) (c.config.view_is ∙ c.config-config.ensures) in
            let roomy = c.config.invariant.batch_low in
            omega (arith, most, short, batch, roomy);
      };
  configured = search rules;
  places = let place = c.self.invariant.place in omega (arith, place, c.if-self-ge1000.false);
  numbers = search rules;
}
