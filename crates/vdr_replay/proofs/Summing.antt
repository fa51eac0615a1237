-- What a recorder and its lanes have counted is what the run adds up to.
use Rattle.std.proofs.Common.{◌≡◌, ◌<◌, ℕ, List, [], count_by, All, sym, ap, ◌∙◌, arith}
use Rattle.vdr_terms.specs.declared.counts.Counts.{Counts}
use Rattle.vdr_terms.specs.Counting.{Tally}
use Rattle.vdr_terms.specs.Datagrams.{verdict, is_yes}
use Rattle.vdr_terms.specs.Records.{Record, FeedItem}
use Rattle.vdr_core.specs.Feed.{feed_records, items_of}
use Rattle.vdr_core.specs.Recorder.{closed_run, recorder_after}
use Rattle.vdr_core.specs.Runs.{RunStart}
use Rattle.vdr_core.specs.Sums.{Sums, counted_by, missed_in, recorded_in}
use Rattle.vdr_core.specs.Replay.{rest_after, taken_of}
use Rattle.vdr_core.specs.Summary.{CloseAddsUp}
use Rattle.vdr_core.proofs.RunSums.{close_adds_up, feed_sums}
use Rattle.vdr_core.proofs.Feeding.{counts_path, is_replay}
use Rattle.vdr_capture.specs.declared.sums.GroupSums.{GroupSums}
use Rattle.vdr_capture.specs.Sums.{sums_of}
use Rattle.vdr_run.specs.Given.{tally_after}
use Rattle.vdr_run.proofs.Given.{no_rate, of_groups}

sums_path : (s t : GroupSums) → s.taken ≡ t.taken → s.recorded ≡ t.recorded → s.counts ≡ t.counts → s ≡ t
sums_path s t p q r = λ i. record { taken = p i; recorded = q i; counts = r i }

pub sums_told : (start : RunStart) (feed : List FeedItem) (g : ℕ) (tally : Tally) (result : GroupSums) → g < 16
    → All (λ i. i.group < 16) feed → tally ≡ tally_after feed g
    → result.taken ≡ tally.taken → result.recorded ≡ recorded_in g (recorder_after start (taken_of [] feed)).made
    → result.counts ≡ record tally.totals { rate = (counted_by (recorder_after start (taken_of [] feed)) g).rate }
    → result ≡ sums_of g (items_of g feed) (feed_records start feed)
sums_told start feed g tally result small low is taken recorded counts =
    sums_path result (sums_of g (items_of g feed) (feed_records start feed))
    (taken ∙ ap (λ (t : Tally). t.taken) is)
    (recorded ∙ sym close.recorded ∙ ap (recorded_in g) (sym run))
    (counts_path result.counts (missed_in g (feed_records start feed))
    (ap (λ (c : Counts). c.full) counts ∙ ap (λ (t : Tally). t.totals.full) is ∙ sym sums.full)
    (ap (λ (c : Counts). c.rate) counts ∙ rates)
    (ap (λ (c : Counts). c.bad) counts ∙ ap (λ (t : Tally). t.totals.bad) is ∙ sym sums.bad)
    (ap (λ (c : Counts). c.large) counts ∙ ap (λ (t : Tally). t.totals.large) is ∙ sym sums.large))
  where
    close : CloseAddsUp start (taken_of [] feed) (rest_after feed) g
    close = close_adds_up start (taken_of [] feed) (rest_after feed) g small

    run : feed_records start feed ≡ closed_run start (taken_of [] feed) (rest_after feed)
    run = is_replay start feed

    sums : Sums g (items_of g feed) (count_by (λ i. is_yes (verdict i.bytes)) (items_of g feed)) 0 (feed_records start feed)
    sums = feed_sums start feed (of_groups feed low) g

    rates : (counted_by (recorder_after start (taken_of [] feed)) g).rate ≡ (missed_in g (feed_records start feed)).rate
    rates =
        let a = ap (λ (c : Counts). c.rate) close.missed in
        let b = no_rate feed g in
        let c = ap (λ (rs : List Record). (missed_in g rs).rate) run in
        omega (arith, a, b, c)
