use Rattle.std.proofs.Common.{◌≡◌, true}
use Rattle.vdr_formats_tests.proofs.feeds.put_items.Given as goal

abbrev pub invariant-loop : goal.invariant-loop
invariant-loop g l = l.reader.begun ≡ true
