use Rattle.std.proofs.Common.{◌∙◌, ◌+◌, ap}
use Rattle.vdr_meter.specs.declared.meter.Used.{Used}
use Rattle.vdr_meter.proofs.Measured.{measures_after}
use Rattle.vdr_meter.proofs.meter.Meter.admit.Goals as goal

pub returns-in-Some-with_item-clause-recorded : goal.returns-in-Some-with_item-clause-recorded
returns-in-Some-with_item-clause-recorded c records gap r known none is admitted =
    measures_after c.args.self.now c.put.new.self c.args.group c.args.tick c.args.len c.in-Some-with_item.used records gap r (record {
      group = c.requires.group;
      forward = c.requires.forward;
      second = c.put.ensures.second;
      datagrams = c.in-Some-with_item.ensures.sums.0 ∙ ap (λ (u : Used). u.datagrams + 1) c.used_in.ensures;
      bytes = c.in-Some-with_item.ensures.sums.1 ∙ ap (λ (u : Used). u.bytes + c.args.len) c.used_in.ensures;
      own = c.put.ensures.own;
      others = c.put.ensures.others;
    }) known none is
