-- What lies whole ahead is gathered, or passed over.
use Rattle.std.proofs.Common.{rules, ◌∷◌, []}
use Rattle.vdr_pcap.specs.Taken.{item_lent}
use Rattle.vdr_import.specs.Progress.{FailsSo}
use Rattle.vdr_import.specs.Relayed.{held_in}
use Rattle.vdr_import.proofs.GoingOn.{goes_no_further, goes_on, goes_past, goes_same, of_an_error, taken_ahead}
use Rattle.vdr_import.proofs.ahead.gather_ahead.Goals as goal

pub returns-in-Nothing-clause-goes_on : goal.returns-in-Nothing-clause-goes_on
returns-in-Nothing-clause-goes_on g c =
    goes_same _ _ _ c.packets.reader c.packet_within.new.self _ _ _ _ c.packets.invariant.on c.in-Nothing.ensures.takes.0 c.in-Nothing.ensures.goes_on

pub packets-preserved-in-Passed : goal.packets-preserved-in-Passed
packets-preserved-in-Passed g c = record {
  begun = search rules;
  going = search rules;
  on = goes_past _ (held_in c.packets.ahead) (held_in c.pass.new.self) _ c.packets.reader c.packet_within.new.self _ _ _ _ c.packets.invariant.on
      (taken_ahead c.held.result.now (held_in c.packets.ahead) (held_in c.pass.new.self) c.in-Passed.size _ _ _ [] c.held.ensures c.pass.ensures c.in-Passed.ensures.takes.2) c.in-Passed.ensures.goes_on;
  later = search rules;
}

pub returns-in_err-push_item-in-Item-clause-fails : goal.returns-in_err-push_item-in-Item-clause-fails
returns-in_err-push_item-in-Item-clause-fails g c =
    of_an_error c.from_residual.result (FailsSo (held_in c.args.ahead.now) c.args.reader.now (g.O.Sink.taken c.args.output.now) (g.O.Sink.taken c.push_item.new.output) (held_in c.args.gathered.now))
    (goes_no_further _ _ _ _ _ _ _ _ _ _ c.packets.invariant.on c.in_err-push_item-in-Item.ensures.front)

pub packets-preserved : goal.packets-preserved
packets-preserved g c = record {
  begun = search rules;
  going = search rules;
  on = goes_on _ (held_in c.packets.ahead) (held_in c.pass-in-Item.new.self) _ c.packets.reader c.packet_within.new.self _ _ _ _ _ _ (item_lent c.in-Item.item) c.packets.invariant.on
      (taken_ahead c.held.result.now (held_in c.packets.ahead) (held_in c.pass-in-Item.new.self) c.in-Item.size _ _ _ (item_lent c.in-Item.item ∷ []) c.held.ensures c.pass-in-Item.ensures c.in-Item.ensures.takes.2) c.in-Item.ensures.goes_on c.in_ok-push_item-in-Item.ensures.all;
  later = search rules;
}
