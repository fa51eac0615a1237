use Rattle.std.proofs.Common.{◌≡◌, ◌++◌, take}
use Rattle.vdr_review.specs.Walks.{kept_of}
use Rattle.vdr_review.proofs.window.Window.keep.Given as goal

abbrev pub invariant-loop-record : goal.invariant-loop-record
invariant-loop-record l = l.self ≡ l.initial.self ++ kept_of (take l.record-index l.records)
