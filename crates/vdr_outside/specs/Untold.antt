-- Media that do not tell all.
use Rattle.std.specs.Prelude.{ℕ, List, [], length, map, ⊤, refl}
use Rattle.vdr_outside.specs.Disk.{Disk, Image}

-- Contents are told, and no image.
abbrev pub contents_alone : Image → Disk ⊤ ⊥
contents_alone reads = record {
  sizes = map length reads;
  reads = reads;
  now = λ i. ⊥;
  clock = 0;
  since = λ t i. ⊥;
  told = λ i left. left;
  shown = λ told. absurd told;
  sized = λ t i left. absurd left;
  sized_as_read = λ told. refl;
  counts_now = λ t i le left. left;
  only_now = λ i left. left;
  until = λ t i. ⊥;
  earlier = λ t u i le left. left;
  counts_until = λ t i le left. left;
  later = λ t u i le left. left;
  until_or_since = λ t u i le left. absurd left;
}

-- Nothing is told but the sizes.
abbrev pub sizes_alone : List ℕ → Disk ⊥ ⊥
sizes_alone sizes = record {
  sizes = sizes;
  reads = [];
  now = λ i. ⊥;
  clock = 0;
  since = λ t i. ⊥;
  told = λ i left. left;
  shown = λ told. absurd told;
  sized = λ t i left. absurd left;
  sized_as_read = λ told. absurd told;
  counts_now = λ t i le left. left;
  only_now = λ i left. left;
  until = λ t i. ⊥;
  earlier = λ t u i le left. left;
  counts_until = λ t i le left. left;
  later = λ t u i le left. left;
  until_or_since = λ t u i le left. absurd left;
}
