-- What a contract sees of tags.
use Rattle.std.specs.Prelude.{option_copied}
use Rattle.vdr_tag.specs.declared.tags.Tags.{Tags}
use Rattle.vdr_tag.specs.Values.{TagValues}

abbrev pub values_of : Tags → TagValues
values_of t = record {
  source = option_copied t.source;
  destination = option_copied t.destination;
  line = t.line;
  group = t.group;
  time = t.time;
  relative = t.relative;
  text = option_copied t.text;
  others = t.others;
}
