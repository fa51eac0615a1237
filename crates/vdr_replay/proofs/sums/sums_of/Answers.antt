use Rattle.std.proofs.Common.{ap, ℕ, []}
use Rattle.vdr_core.specs.Replay.{taken_of}
use Rattle.vdr_replay.proofs.Summing.{sums_told}
use Rattle.vdr_replay.proofs.sums.sums_of.Goals as goal

pub returns : goal.returns
returns c = λ start feed low counted is.
    let told = c.recorded-recorded.ensures.sums start (taken_of [] feed) counted c.requires in
    let missed = c.totals-missed.ensures.missed in
    sums_told start feed c.args.group c.args.tally.now _ c.requires low is c.taken.ensures (ap (λ (p : ℕ × ℕ). p.0) told)
    (λ i. record { full = (missed i).full; rate = (told i).1; bad = (missed i).bad; large = (missed i).large })
