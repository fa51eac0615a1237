use Rattle.std.proofs.Common.{◌≡◌, All, drop, length}
use Rattle.serde_json.specs.View.{items_view}
use Rattle.vdr_config.specs.Grammar.{each_element, group_at}
use Rattle.vdr_config.specs.Entries.{IsEntry}
use Rattle.vdr_config.proofs.Elements.{with_front}
use Rattle.vdr_config.proofs.groups.group_entries.Given as goal

abbrev pub invariant-loop-i : goal.invariant-loop-i
invariant-loop-i l = record {
  told : with_front l.groups.items (each_element group_at l.i (items_view (drop l.i l.values))) ≡ each_element group_at 0 (items_view l.values);
  in_range : All IsEntry l.groups.items;
  count : length l.groups.items ≡ l.i;
}
