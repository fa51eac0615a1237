use Rattle.std.proofs.Common.{◌≡◌, ◌++◌, take, string_bytes}
use Rattle.std.specs.List.{flat_map}
use Rattle.vdr_client.specs.Orders.{spaced}
use Rattle.vdr_client.proofs.line.push_words.Given as goal

abbrev pub invariant-loop-word : goal.invariant-loop-word
invariant-loop-word l = string_bytes l.line ≡ string_bytes l.initial.line ++ flat_map spaced (take l.word-index l.words)
