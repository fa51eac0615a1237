-- Places run on, and each record has its bits.
use Rattle.std.proofs.Common.{◌≡◌, ◌+◌, ℕ, zero, suc, ℤ, List, [], ◌∷◌, ◌++◌, length, Bool, true, false, refl, subst, arith}
use Rattle.vdr_terms.specs.declared.counts.Counts.{Counts}
use Rattle.vdr_terms.specs.Records.{Record}
use Rattle.vdr_terms.specs.Channels.{Channels}
use Rattle.std.specs.List.{AllByRecursion}
use Rattle.vdr_core.specs.Runs.{RunStart, TickOf, base_of}
use Rattle.vdr_core.specs.Law.{FrontsOfRuns}
use Rattle.vdr_core.specs.Histories.{Continues}
use Rattle.vdr_core.specs.Taken.{Captured}
use Rattle.vdr_terms.specs.Counting.{Pending, merged, with_missed}
use Rattle.vdr_terms.proofs.Running.{never_falls_front}
use Rattle.vdr_core.specs.Recorder.{Recorder, begun, next_in, tick_of, tick_with, gap_unless_none, gap_of, datagram_of, passed, admits, took, taken_all, recorder_after, gaps_below, stop_of, closing}

pub continues_append : (channels : Channels) (place : ℕ) (xs ys : List Record) → Continues channels place xs → Continues channels (place + length xs) ys → Continues channels place (xs ++ ys)
continues_append channels place [] ys h k = subst (λ (n : ℕ). Continues channels n ys) (omega arith) k
continues_append channels place (x ∷ xs) ys (p, b, more) k =
    (p, b, continues_append channels (suc place) xs ys more (subst (λ (n : ℕ). Continues channels n ys) (omega arith) k))

gap_continues : (start : RunStart) (g place first tick : ℕ) (utc : ℤ) (m : Counts) (k : ℕ) → Continues start.channels place (gap_unless_none start g place first tick utc m k)
gap_continues start g place first tick utc m zero = tt
gap_continues start g place first tick utc m (suc k) = (refl, refl, tt)

took_continues : (start : RunStart) (r : Recorder) (c : Captured) → Continues start.channels start.place r.made → Continues start.channels start.place (took start r c).made
took_continues start r c h = go (admits start r c)
  where
    p : Pending
    p = with_missed c.missed (r.pending c.group)

    gap : List Record
    gap = gap_of start c.group (next_in start r.made) (tick_with start r c) c.utc (with_missed c.missed (r.pending c.group))

    go : (passes : Bool) → Continues start.channels start.place (passed passes start c (tick_with start r c) r (with_missed c.missed (r.pending c.group))).made
    go false = h
    go true = continues_append start.channels start.place r.made (gap ++ datagram_of start c (tick_with start r c) (next_in start r.made + length gap) ∷ []) h
        (continues_append start.channels (next_in start r.made) gap (datagram_of start c (tick_with start r c) (next_in start r.made + length gap) ∷ [])
        (gap_continues start c.group (next_in start r.made) p.first (tick_with start r c) c.utc p.missed _) (refl, refl, tt))

pub all_continue : (start : RunStart) (r : Recorder) (items : List Captured) → Continues start.channels start.place r.made → Continues start.channels start.place (taken_all start r items).made
all_continue start r [] h = h
all_continue start r (c ∷ items) h = all_continue start (took start r c) items (took_continues start r c h)

gaps_continue : (start : RunStart) (r : Recorder) (rest : ℕ → Counts) (n : ℕ) → Continues start.channels (next_in start r.made) (gaps_below n start r rest)
gaps_continue start r rest zero = tt
gaps_continue start r rest (suc n) =
    continues_append start.channels (next_in start r.made) (gaps_below n start r rest) _ (gaps_continue start r rest n)
    (gap_continues start n (next_in start r.made + length (gaps_below n start r rest)) (r.pending n).first (tick_of start r) r.utc (merged (r.pending n).missed (rest n)) _)

pub closed_continues : (start : RunStart) (items : List Captured) (rest : ℕ → Counts) → Continues start.channels start.place ((recorder_after start items).made ++ closing start (recorder_after start items) rest)
closed_continues start items rest =
    let r : Recorder = recorder_after start items in
    continues_append start.channels start.place r.made (closing start r rest) (all_continue start (begun start) items (refl, refl, tt))
    (with_stop 16 (stop_of start r rest) refl (refl, refl, tt))
  where
    with_stop : (n : ℕ) (stop : Record) → stop.place ≡ next_in start (recorder_after start items).made + length (gaps_below n start (recorder_after start items) rest) → Continues start.channels stop.place (stop ∷ [])
        → Continues start.channels (next_in start (recorder_after start items).made) (gaps_below n start (recorder_after start items) rest ++ stop ∷ [])
    with_stop n stop e h = continues_append start.channels (next_in start (recorder_after start items).made) (gaps_below n start (recorder_after start items) rest) (stop ∷ [])
        (gaps_continue start (recorder_after start items) rest n) (subst (λ (p : ℕ). Continues start.channels p (stop ∷ [])) e h)

-- the first records of a run
continues_front : (channels : Channels) (place : ℕ) (xs ys : List Record) → Continues channels place (xs ++ ys) → Continues channels place xs
continues_front channels place [] ys h = tt
continues_front channels place (x ∷ xs) ys (p, b, more) = (p, b, continues_front channels (suc place) xs ys more)

each_front : (P : Record → Type 0) (xs ys : List Record) → AllByRecursion P (xs ++ ys) → AllByRecursion P xs
each_front P [] ys h = tt
each_front P (x ∷ xs) ys h = (h.0, each_front P xs ys h.1)

pub fronts : (start : RunStart) → FrontsOfRuns start
fronts start given front back h = record {
  places = continues_front start.channels start.place front back h.places;
  rising = never_falls_front (base_of start) front back h.ticks.rising;
  each = each_front (λ r. TickOf (base_of start) given r r.content) front back h.ticks.each;
}
