use Rattle.std.proofs.Common.{◌≡◌, ◌<◌, ◌++◌, All, map, take}
use Rattle.vdr_ais.specs.Bits.{six}
use Rattle.vdr_ais.proofs.pending.push_sixes.Given as goal

abbrev pub invariant-loop-character : goal.invariant-loop-character
invariant-loop-character l = record {
  items : l.sixes.items ≡ l.initial.sixes.items ++ map six (take l.character-index l.payload);
  below : All (λ n. n < 64) l.sixes.items;
}
