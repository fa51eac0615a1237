use Rattle.std.proofs.Common.{◌≡◌, ◌++◌, take}
use Rattle.vdr_health.proofs.page.push_text.Given as goal

abbrev pub invariant-loop-byte : goal.invariant-loop-byte
invariant-loop-byte l = l.page.items ≡ l.initial.page.items ++ take l.byte-index l.text
