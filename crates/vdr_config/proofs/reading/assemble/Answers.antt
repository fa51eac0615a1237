use Rattle.std.proofs.Common.{replicate, None, refl}
use Rattle.vdr_config.specs.Entries.{IsTop}
use Rattle.vdr_config.proofs.Table.{length-table_of, rates_kept, has_rate, some_rate, none_rates}
use Rattle.vdr_config.proofs.Repeats.{differ_from_first_repeat}
use Rattle.vdr_config.proofs.reading.assemble.Goals as goal

pub invariant_of-result : goal.invariant_of-result
invariant_of-result c =
    let r : IsTop c.args.top = c.requires.top in
    let gs = c.args.groups.now in
    let is = c.rate_table-table.ensures in
    record {
      capsule_low = r.capsule_low;
      capsule_high = r.capsule_high;
      long_low = r.long_low;
      long_high = r.long_high;
      float_low = r.float_low;
      float_high = r.float_high;
      incident_low = r.incident_low;
      incident_high = r.incident_high;
      slots_low = r.slots_low;
      slots_high = r.slots_high;
      segment_low = r.segment_low;
      segment_high = r.segment_high;
      batch_low = r.batch_low;
      batch_high = r.batch_high;
      queue_low = r.queue_low;
      queue_high = r.queue_high;
      four_batches = c.requires.four_batches;
      sixteen = rw is (length-table_of (replicate 16 None) gs);
      some_group = rw is (some_rate (replicate 16 None) gs refl c.requires.groups c.requires.some_group);
      names = c.requires.names;
      selections = c.requires.selections;
      rates = rw is (rates_kept (replicate 16 None) gs none_rates c.requires.groups);
      few = c.requires.few;
      configured = rw is (λ k d lt. has_rate (replicate 16 None) gs _ refl c.requires.groups (c.requires.configured k d lt));
      names_differ = differ_from_first_repeat _ c.requires.names_differ;
    }
