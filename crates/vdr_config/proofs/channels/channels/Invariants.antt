use Rattle.std.proofs.Common.{◌≡◌, All, drop, true, length}
use Rattle.serde_json.specs.View.{items_view}
use Rattle.vdr_config.specs.Names.{is_channel_name}
use Rattle.vdr_config.specs.Configuration.{is_selection}
use Rattle.vdr_config.specs.Grammar.{each_element, channel_at, has_group}
use Rattle.vdr_config.proofs.Elements.{with_front}
use Rattle.vdr_config.proofs.channels.channels.Given as goal

abbrev pub invariant-loop-i : goal.invariant-loop-i
invariant-loop-i l = record {
  told : with_front l.channels.items (each_element (channel_at l.groups) l.i (items_view (drop l.i l.values))) ≡ each_element (channel_at l.groups) 0 (items_view l.values);
  found : All (λ c. has_group l.groups c.group ≡ true) l.channels.items;
  names : All (λ c. is_channel_name c.name ≡ true) l.channels.items;
  forms : All (λ c. is_selection c.kind ≡ true) l.channels.items;
  count : length l.channels.items ≡ l.i;
}
