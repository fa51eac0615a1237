-- The closing gaps, group by group.
use Rattle.std.proofs.Common.{◌≡◌, ◌≢◌, ◌≤◌, ◌<◌, ◌+◌, ℕ, zero, suc, List, [], ◌∷◌, ◌++◌, length, Option, slice_index_or, slice_set, refl, sym, ap, ◌∙◌, subst, arith, add-one, add-zero, append_assoc, length-append, length-set, ⊎_elim, get_or-set_same, get_or-set_other}
use Rattle.std.proofs.lemmas.Bool.{cases_eq}
use Rattle.vdr_terms.specs.declared.counts.Counts.{Counts}
use Rattle.vdr_terms.specs.Records.{Record}
use Rattle.vdr_terms.specs.Records.Content.{Stop}
use Rattle.vdr_terms.specs.Channels.{Channels}
use Rattle.vdr_terms.specs.Counting.{with_missed}
use Rattle.vdr_config.specs.Configuration.{Configuration}
use Rattle.vdr_datagram.specs.Channels.{channels_of}
use Rattle.vdr_meter.specs.Metering.{Metering}
use Rattle.vdr_run.specs.Meters.{IsMetered}
use Rattle.vdr_core.specs.Runs.{RunStart}
use Rattle.vdr_core.specs.Taken.{Captured}
use Rattle.vdr_core.specs.Recorder.{Recorder, make, next_in, tick_of, gap_of, gaps_below, recorder_after}
use Rattle.vdr_core.specs.Sums.{recorded_in, missed_in, counted_by}
use Rattle.vdr_core.specs.Summary.{CloseAddsUp}
use Rattle.vdr_run.specs.declared.maker.Maker.{Maker}
use Rattle.vdr_run.specs.Accounts.{Counted, nothing_counted, with_rest, gap_after, gap_records}
use Rattle.vdr_run.specs.Making.{counted_of, rest_of, CountsItems, Makes, closing_by, run_closed_by, gaps_made, ClosesBelow}
use Rattle.vdr_run.proofs.Gaps.{same_gap, one_gap}

-- there is at most one for each group
pub few_gaps : (n : ℕ) (channels : Channels) (maker : Maker) (rest : List Counts) → length (gaps_made n channels maker rest) ≤ n
few_gaps zero channels maker rest = omega arith
few_gaps (suc g) channels maker rest =
    let gap : List Record = gap_records channels g (maker.place + length (gaps_made g channels maker rest)) (maker.base + maker.greatest) maker.utc (gap_after (rest_of rest g) (counted_of maker g).pending) in
    let a = few_gaps g channels maker rest in
    let b = one_gap channels g (maker.place + length (gaps_made g channels maker rest)) (maker.base + maker.greatest) maker.utc (gap_after (rest_of rest g) (counted_of maker g).pending) in
    let c = length-append (gaps_made g channels maker rest) gap in
    omega (arith, a, b, c)

-- what was made last is nothing that a maker counts
pub same_makes : {config : Configuration} {start : RunStart} {popped : List Captured} {old new : Maker} → Makes config start popped old
    → new.base ≡ old.base → new.greatest ≡ old.greatest → new.utc ≡ old.utc → new.place ≡ old.place → new.accounts ≡ old.accounts → new.meter ≡ old.meter
    → Makes config start popped new
same_makes {config} {start} {popped} {old} {new} m base greatest utc place accounts meter = record {
  channels = m.channels;
  base = base ∙ m.base;
  greatest = greatest ∙ m.greatest;
  utc = utc ∙ m.utc;
  place = place ∙ m.place;
  sixteen = ap (λ (xs : List Counted). length xs) accounts ∙ m.sixteen;
  pending = λ g l. ap (λ (xs : List Counted). (slice_index_or xs g nothing_counted).pending) accounts ∙ m.pending g l;
  counts = record {
    recorded = λ g l. ap (λ (xs : List Counted). (slice_index_or xs g nothing_counted).recorded) accounts ∙ m.counts.recorded g l;
    refused = λ g l. ap (λ (xs : List Counted). (slice_index_or xs g nothing_counted).refused) accounts ∙ m.counts.refused g l;
  };
  metered = subst (λ (x : Option Metering). IsMetered start.limits x (recorder_after start popped).made) (sym meter) m.metered;
}

-- they are the recorder's
module _ (config : Configuration) (start : RunStart) (popped : List Captured) (maker : Maker) (rest : List Counts) (m : Makes config start popped maker) where
  abbrev r : Recorder
  r = recorder_after start popped

  tick_is : maker.base + maker.greatest ≡ tick_of start r
  tick_is = λ i. m.base i + m.greatest i

  gap_is : (g : ℕ) → g < 16 → (place spot : ℕ) → place ≡ spot
      → gap_records (channels_of config) g place (maker.base + maker.greatest) maker.utc (gap_after (rest_of rest g) (counted_of maker g).pending)
      ≡ gap_of start g spot (tick_of start r) r.utc (with_missed (rest_of rest g) (r.pending g))
  gap_is g l place spot e =
      (λ i. gap_records (sym m.channels i) g (e i) (tick_is i) (m.utc i) (gap_after (rest_of rest g) (m.pending g l i)))
      ∙ same_gap start g spot (tick_of start r) r.utc (rest_of rest g) (r.pending g)

  pub gaps_are : (n : ℕ) → n ≤ 16 → gaps_made n (channels_of config) maker rest ≡ gaps_below n start r (rest_of rest)
  gaps_are zero l = refl
  gaps_are (suc g) l =
      let h = gaps_are g (omega (arith, l)) in
      λ i. h i ++ gap_is g (omega (arith, l)) (maker.place + length (gaps_made g (channels_of config) maker rest)) (next_in start r.made + length (gaps_below g start r (rest_of rest))) (λ j. m.place j + length (h j)) i

  -- the gaps and the Stop are those of a close
  module _ (after : Maker) (stop : Record) (buffer : List Record) (empty : maker.records.items ≡ [])
      (is_stop : stop ≡ make (channels_of config) 255 after.place 0 (after.base + after.greatest) after.utc Stop) (ends : buffer ≡ after.records.items ++ stop ∷ []) where
    stop_below : ℕ → Record
    stop_below n = make start.channels 255 (next_in start r.made + length (gaps_below n start r (rest_of rest))) 0 (tick_of start r) r.utc Stop

    place_below : (n : ℕ) → n ≤ 16 → ClosesBelow n (channels_of config) rest maker after → after.place ≡ next_in start r.made + length (gaps_below n start r (rest_of rest))
    place_below n l h = h.place ∙ (λ i. m.place i + length (gaps_are n l i))

    tick_after : (n : ℕ) → ClosesBelow n (channels_of config) rest maker after → after.base + after.greatest ≡ tick_of start r
    tick_after n h = (λ i. h.base i + h.greatest i) ∙ tick_is

    stop_is : (n : ℕ) → n ≤ 16 → ClosesBelow n (channels_of config) rest maker after → stop ≡ stop_below n
    unfolding stop_below
    stop_is n l h = is_stop ∙ (λ i. make (sym m.channels i) 255 (place_below n l h i) 0 (tick_after n h i) ((h.utc ∙ m.utc) i) Stop)

    records_below : (n : ℕ) → n ≤ 16 → ClosesBelow n (channels_of config) rest maker after → after.records.items ≡ gaps_below n start r (rest_of rest)
    records_below n l h = h.records ∙ (λ i. empty i ++ gaps_are n l i)

    closed_below : (n : ℕ) → n ≤ 16 → ClosesBelow n (channels_of config) rest maker after → buffer ≡ gaps_below n start r (rest_of rest) ++ stop_below n ∷ []
    closed_below n l h = ends ∙ (λ i. records_below n l h i ++ stop_is n l h i ∷ [])

    pub closed : ClosesBelow 16 (channels_of config) rest maker after → buffer ≡ closing_by start popped rest
    unfolding closing_by stop_below
    closed h = closed_below 16 (omega arith) h

  -- the sums after a close
  pub closed_sums : (g : ℕ) → g < 16 → (k : Counted) → k ≡ with_rest (rest_of rest g) (counted_of maker g) → (rest_of rest g).rate ≡ 0 → CloseAddsUp start popped (rest_of rest) g
      → (k.recorded ≡ recorded_in g (run_closed_by start popped rest)) × (k.refused ≡ (missed_in g (run_closed_by start popped rest)).rate)
  unfolding run_closed_by
  closed_sums g l k is none sums = (
    ap (λ (q : Counted). q.recorded) is ∙ (m.counts.recorded g l ∙ sym sums.recorded),
    ap (λ (q : Counted). q.refused) is ∙ (m.counts.refused g l ∙ (sym (add-zero (counted_by r g).rate) ∙ (ap (λ (n : ℕ). (counted_by r g).rate + n) (sym none)
        ∙ ap (λ (q : Counts). q.rate) (sym sums.missed)))),
  )

  -- the sums of the items that were taken stay
  pub kept_sums : (after : Maker) → ((g : ℕ) → g < 16 → counted_of after g ≡ with_rest (rest_of rest g) (counted_of maker g)) → CountsItems start popped after
  kept_sums after is = record {
    recorded = λ g l. ap (λ (q : Counted). q.recorded) (is g l) ∙ m.counts.recorded g l;
    refused = λ g l. ap (λ (q : Counted). q.refused) (is g l) ∙ m.counts.refused g l;
  }

module _ (n : ℕ) (channels : Channels) (rest : List Counts) (before mid after : Maker) (gap : Option (ℕ × Counts)) (account : Counted)
    (h : ClosesBelow n channels rest before mid) (within : n < length mid.accounts)
    (told : gap ≡ gap_after (rest_of rest n) (counted_of mid n).pending)
    (account_is : account ≡ with_rest (rest_of rest n) (counted_of mid n))
    (accounts : after.accounts ≡ slice_set mid.accounts n account)
    (base : after.base ≡ mid.base) (greatest : after.greatest ≡ mid.greatest) (utc : after.utc ≡ mid.utc)
    (place : after.place ≡ mid.place + length (gap_records channels n mid.place (mid.base + mid.greatest) mid.utc gap))
    (meter : after.meter ≡ mid.meter)
    (records : after.records.items ≡ mid.records.items ++ gap_records channels n mid.place (mid.base + mid.greatest) mid.utc gap)
    (room : mid.records.capacity ≤ after.records.capacity) where
  abbrev mine : List Record
  mine = gap_records channels n (before.place + length (gaps_made n channels before rest)) (before.base + before.greatest) before.utc (gap_after (rest_of rest n) (counted_of before n).pending)

  was : counted_of mid n ≡ counted_of before n
  was = h.others n (omega arith)

  same : gap_records channels n mid.place (mid.base + mid.greatest) mid.utc gap ≡ mine
  same = λ i. gap_records channels n (h.place i) (h.base i + h.greatest i) (h.utc i) ((told ∙ ap (λ (k : Counted). gap_after (rest_of rest n) k.pending) was) i)

  own_closed : counted_of after n ≡ with_rest (rest_of rest n) (counted_of before n)
  own_closed = ap (λ (xs : List Counted). slice_index_or xs n nothing_counted) accounts
      ∙ (get_or-set_same mid.accounts n account nothing_counted within
      ∙ (account_is ∙ ap (with_rest (rest_of rest n)) was))

  other_kept : (g : ℕ) → g ≢ n → counted_of after g ≡ counted_of mid g
  other_kept g ne = ap (λ (xs : List Counted). slice_index_or xs g nothing_counted) accounts ∙ get_or-set_other mid.accounts n g account nothing_counted ne

  closes_suc : ClosesBelow (suc n) channels rest before after
  closes_suc = record {
    base = base ∙ h.base;
    greatest = greatest ∙ h.greatest;
    utc = utc ∙ h.utc;
    place =
        let a = h.place in
        let b = ap (λ (rs : List Record). length rs) same in
        let c = length-append (gaps_made n channels before rest) mine in
        omega (arith, place, a, b, c);
    sixteen = ap (λ (xs : List Counted). length xs) accounts ∙ (simp length-set h.sixteen);
    closed = λ g l. ⊎_elim
        (λ (e : n ≡ g). subst (λ (k : ℕ). counted_of after k ≡ with_rest (rest_of rest k) (counted_of before k)) e own_closed)
        (λ (ne : n ≢ g). other_kept g (λ q. ne (sym q)) ∙ h.closed g (omega arith))
        (cases_eq n g);
    others = λ g l. other_kept g (λ e. omega (arith, e, l)) ∙ h.others g (omega (arith, l));
    meter = meter ∙ h.meter;
    records = records ∙ (ap (λ (rs : List Record). mid.records.items ++ rs) same
        ∙ (ap (λ (rs : List Record). rs ++ mine) h.records
        ∙ append_assoc before.records.items (gaps_made n channels before rest) mine));
    room = let a = h.room in omega (arith, a, room);
  }

  pub closes_more : ClosesBelow (n + 1) channels rest before after
  closes_more = subst (λ (m : ℕ). ClosesBelow m channels rest before after) (sym (add-one n)) closes_suc
