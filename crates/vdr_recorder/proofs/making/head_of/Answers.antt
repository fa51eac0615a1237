use Rattle.std.proofs.Common.{◌≡◌, ◌∙◌, sym, ap, subst}
use Rattle.vdr_terms.specs.declared.datagram.Verdict.TheVariants.{Yes}
use Rattle.vdr_terms.specs.Datagrams.{verdict}
use Rattle.vdr_terms.specs.Stamps.{IsStamp}
use Rattle.vdr_terms.proofs.Stamping.{stamp_kept}
use Rattle.vdr_core.specs.Taken.{Captured}
use Rattle.vdr_recorder.proofs.making.head_of.Goals as goal

pub returns-clause-told : goal.returns-clause-told
returns-clause-told c =
    (λ i. record {
      group = c.item.inside.group;
      number = c.item.inside.number;
      received = c.item.inside.received;
      utc = stamp_kept c.item.inside.utc c.item.invariant.stamp i;
      missed = c.item.inside.missed;
      bytes = sym (ap (λ (x : Captured). x.bytes) c.item.view_is) i;
    })
    ∙ c.item.view_is

pub returns-clause-fits : goal.returns-clause-fits
returns-clause-fits c = record {
  group = c.item.invariant.sixteen;
  received = c.item.invariant.received;
  stamp = subst IsStamp (sym (stamp_kept c.item.inside.utc c.item.invariant.stamp)) c.item.invariant.stamp;
  not_by_rate = c.item.invariant.not_by_rate;
  recordable = subst (λ (x : Captured). verdict x.bytes ≡ Yes) c.item.view_is c.item.invariant.recordable;
}
