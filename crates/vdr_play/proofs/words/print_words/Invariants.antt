use Rattle.std.proofs.Common.{◌≤◌, map, take}
use Rattle.std.specs.Io.KnownBytes.{Appends}
use Rattle.vdr_entry.specs.Lines.{spaced}
use Rattle.vdr_play.proofs.words.print_words.Given as goal

abbrev pub invariant-loop-word : goal.invariant-loop-word
invariant-loop-word g l = record {
  written : Appends (g.O.Sink.taken l.initial.out) (g.O.Sink.taken l.out) (spaced (map (λ word. word.now) (take l.word-index l.words)));
  later : g.O.Sink.faults l.initial.out ≤ g.O.Sink.faults l.out;
}
