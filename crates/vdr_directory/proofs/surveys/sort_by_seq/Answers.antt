use Rattle.std.proofs.Common.{rules}
use Rattle.std.proofs.lemmas.Fn.{always_returns_same}
use Rattle.vdr_directory.specs.declared.entry.Entry.{Entry}
use Rattle.vdr_directory.proofs.Sorting.{sorted_pairs}
use Rattle.vdr_directory.proofs.surveys.sort_by_seq.Goals as goal

pub returns-clause-sorted : goal.returns-clause-sorted
returns-clause-sorted c = sorted_pairs _ (c.sort_unstable_by_key.ensures.sorted (λ (e : Entry). (e.seq, e.slot)) (always_returns_same _ _ _ (λ a r q k. search rules)))
