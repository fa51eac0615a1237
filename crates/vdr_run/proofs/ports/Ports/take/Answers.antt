use Rattle.std.proofs.Common.{refl, sym, ap, ◌∙◌}
use Rattle.vdr_terms.specs.declared.datagram.Verdict.TheVariants.{Yes, Bad, Large}
use Rattle.vdr_terms.specs.Datagrams.{verdict}
use Rattle.vdr_run.proofs.Given.{counts_taken, missed_is, pushed_is, rate_fits, taken_fits}
use Rattle.vdr_run.proofs.ports.Ports.take.Goals as goal

pub push-requires : goal.push-requires
push-requires c = taken_fits c.requires.counted.0 c.args.self.now c.args.item.now.group _ c.requires.counted.1 c.requires.counted.2 c.requires.group

pub bad-requires : goal.bad-requires
bad-requires c = taken_fits c.requires.counted.0 c.args.self.now c.args.item.now.group _ c.requires.counted.1 c.requires.counted.2 c.requires.group

pub large-requires : goal.large-requires
large-requires c = taken_fits c.requires.counted.0 c.args.self.now c.args.item.now.group _ c.requires.counted.1 c.requires.counted.2 c.requires.group

pub returns-in-Yes-clause-counts : goal.returns-in-Yes-clause-counts
returns-in-Yes-clause-counts c = λ feed x h holds.
    counts_taken feed x c.args.item.now c.args.self.now c.index-self-item.result h holds c.requires.group _ c.push.new.tally Yes
    (ap verdict (sym c.as_slice.ensures.value) ∙ sym c.in-Yes.ensures) refl c.push.ensures.tally

pub returns-in-Yes-clause-taken : goal.returns-in-Yes-clause-taken
returns-in-Yes-clause-taken c = λ feed x h holds.
    pushed_is feed x c.args.item.now c.args.self.now c.index-self-item.result h holds c.requires.group c.push.result
    (ap verdict (sym c.as_slice.ensures.value) ∙ sym c.in-Yes.ensures) c.push.ensures.number c.push.ensures.missed

pub returns-in-Yes-clause-not_by_rate : goal.returns-in-Yes-clause-not_by_rate
returns-in-Yes-clause-not_by_rate c = rw c.push.ensures.missed
    (rate_fits c.requires.counted.0 c.args.self.now c.args.item.now.group c.index-self-item.result c.requires.counted.1 c.requires.group)

pub returns-in-Bad-clause-counts : goal.returns-in-Bad-clause-counts
returns-in-Bad-clause-counts c = λ feed x h holds.
    counts_taken feed x c.args.item.now c.args.self.now c.index-self-item.result h holds c.requires.group _ c.bad.new.self Bad
    (ap verdict (sym c.as_slice.ensures.value) ∙ sym c.in-Bad.ensures) refl c.bad.ensures

pub returns-in-Bad-clause-taken : goal.returns-in-Bad-clause-taken
returns-in-Bad-clause-taken c = λ feed x h holds.
    missed_is feed x c.args.item.now c.args.self.now c.index-self-item.result h holds c.requires.group Bad (ap verdict (sym c.as_slice.ensures.value) ∙ sym c.in-Bad.ensures) refl

pub returns-in-Large-clause-counts : goal.returns-in-Large-clause-counts
returns-in-Large-clause-counts c = λ feed x h holds.
    counts_taken feed x c.args.item.now c.args.self.now c.index-self-item.result h holds c.requires.group _ c.large.new.self Large
    (ap verdict (sym c.as_slice.ensures.value) ∙ sym c.in-Large.ensures) refl c.large.ensures

pub returns-in-Large-clause-taken : goal.returns-in-Large-clause-taken
returns-in-Large-clause-taken c = λ feed x h holds.
    missed_is feed x c.args.item.now c.args.self.now c.index-self-item.result h holds c.requires.group Large (ap verdict (sym c.as_slice.ensures.value) ∙ sym c.in-Large.ensures) refl
