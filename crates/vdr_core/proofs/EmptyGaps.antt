-- No Gap of a run says that nothing was missed.
use Rattle.std.proofs.Common.{◌≡◌, ◌+◌, ℕ, zero, suc, ℤ, List, [], ◌∷◌, ◌++◌, length, Bool, true, false, refl, sym, subst, arith}
use Rattle.std.proofs.lemmas.List.Elements.{All-nil, All-cons, All-append}
use Rattle.vdr_terms.specs.declared.counts.Counts.{Counts}
use Rattle.vdr_terms.specs.Records.{Record, FeedItem, total}
use Rattle.vdr_terms.specs.Counting.{Pending, with_missed}
use Rattle.vdr_core.specs.Runs.{RunStart}
use Rattle.vdr_core.specs.Taken.{Captured}
use Rattle.vdr_core.specs.Recorder.{Recorder, begun, next_in, tick_of, tick_with, gap_unless_none, gap_of, datagram_of, passed, admits, took, taken_all, recorder_after, gaps_below, stop_of, closed_run}
use Rattle.vdr_core.specs.Feed.{feed_records}
use Rattle.vdr_core.specs.Shapes.{SaysMissed, NoEmptyGap}
use Rattle.vdr_core.specs.Replay.{taken_of, rest_after}
use Rattle.vdr_core.proofs.Feeding.{is_replay}

abbrev Says : Record → Type 0
Says r = SaysMissed r.content

says_one : (r : Record) → Says r → NoEmptyGap (r ∷ [])
says_one r h = All-cons Says r [] h (All-nil Says)

gap_says : (start : RunStart) (g place first tick : ℕ) (utc : ℤ) (missed : Counts) (k : ℕ) → k ≡ total missed → NoEmptyGap (gap_unless_none start g place first tick utc missed k)
gap_says start g place first tick utc missed zero e = All-nil Says
gap_says start g place first tick utc missed (suc k) e = says_one _ (omega (arith, e))

took_says : (start : RunStart) (r : Recorder) (c : Captured) → NoEmptyGap r.made → NoEmptyGap (took start r c).made
took_says start r c h = go (admits start r c)
  where
    p : Pending
    p = with_missed c.missed (r.pending c.group)

    gap : List Record
    gap = gap_of start c.group (next_in start r.made) (tick_with start r c) c.utc (with_missed c.missed (r.pending c.group))

    go : (passes : Bool) → NoEmptyGap (passed passes start c (tick_with start r c) r (with_missed c.missed (r.pending c.group))).made
    go false = h
    go true = All-append Says r.made (gap ++ datagram_of start c (tick_with start r c) (next_in start r.made + length gap) ∷ []) h
        (All-append Says gap (datagram_of start c (tick_with start r c) (next_in start r.made + length gap) ∷ [])
        (gap_says start c.group (next_in start r.made) p.first (tick_with start r c) c.utc p.missed (total p.missed) refl) (says_one _ tt))

all_say : (start : RunStart) (r : Recorder) (items : List Captured) → NoEmptyGap r.made → NoEmptyGap (taken_all start r items).made
all_say start r [] h = h
all_say start r (c ∷ items) h = all_say start (took start r c) items (took_says start r c h)

pub made_say : (start : RunStart) (items : List Captured) → NoEmptyGap (recorder_after start items).made
made_say start items = all_say start (begun start) items (says_one _ tt)

gaps_say : (start : RunStart) (r : Recorder) (rest : ℕ → Counts) (n : ℕ) → NoEmptyGap (gaps_below n start r rest)
gaps_say start r rest zero = All-nil Says
gaps_say start r rest (suc n) =
    All-append Says (gaps_below n start r rest) _ (gaps_say start r rest n)
    (gap_says start n (next_in start r.made + length (gaps_below n start r rest)) (r.pending n).first (tick_of start r) r.utc (with_missed (rest n) (r.pending n)).missed _ refl)

closed_below : (start : RunStart) (items : List Captured) (rest : ℕ → Counts) (n : ℕ) (stop : Record) → Says stop → NoEmptyGap ((recorder_after start items).made ++ (gaps_below n start (recorder_after start items) rest ++ stop ∷ []))
closed_below start items rest n stop h =
    All-append Says (recorder_after start items).made (gaps_below n start (recorder_after start items) rest ++ stop ∷ []) (made_say start items)
    (All-append Says (gaps_below n start (recorder_after start items) rest) (stop ∷ []) (gaps_say start (recorder_after start items) rest n) (says_one stop h))

pub closed_say : (start : RunStart) (items : List Captured) (rest : ℕ → Counts) → NoEmptyGap (closed_run start items rest)
closed_say start items rest = closed_below start items rest 16 (stop_of start (recorder_after start items) rest) tt

pub feed_says : (start : RunStart) (feed : List FeedItem) → NoEmptyGap (feed_records start feed)
feed_says start feed = subst NoEmptyGap (sym (is_replay start feed)) (closed_say start (taken_of [] feed) (rest_after feed))
