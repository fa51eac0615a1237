-- The order of the segments at each stage of an append.
use Rattle.std.proofs.Common.{◌≡◌, ◌≢◌, ◌<◌, ◌≤◌, ◌^◌, ℕ, List, [], ◌∷◌, ◌++◌, length, slice_get, Option, Some, None, refl, sym, ap, ◌∙◌, subst, arith, append-nil}
use Rattle.std.specs.Prelude.{IfSome}
use Rattle.std.proofs.lemmas.Option.{none-some, same_Some}
use Rattle.std.proofs.lemmas.Grind.{flat_map-append}
use Rattle.vdr_terms.specs.Records.{Record, last_after, last}
use Rattle.vdr_terms.specs.Order.{RunOn, NeverFalls}
use Rattle.vdr_terms.proofs.Running.{run_on_join}
use Rattle.vdr_durability.proofs.Lists.{last_behind}
use Rattle.vdr_entry.specs.declared.summary.Summary.{Summary}
use Rattle.vdr_directory.specs.Sequence.{Placed, seq_of, first_of, records_of, all_records}
use Rattle.vdr_directory.specs.Order.{next_place, HasNone, RunsOn, Agrees, begin_second, end_second, Follows, MayFollow, MayPrecede, IsInPlace, AreInPlace, AreInOrder}
use Rattle.vdr_directory.specs.Growing.{next_seq, new_segment, with_batch_in, next_of, tick_of, Continues}
use Rattle.vdr_directory.proofs.Agreeing.{seconds_by_ticks, seconds_grown, seconds_over}
use Rattle.vdr_directory.proofs.Runs.{nil_right, positive_length, nil_from_last, last_behind_some, never_falls_less, never_falls_join, first_to_last, tick_behind, ticks_between}

-- The newest segment has records.
abbrev pub NewestHasRecords : List Placed → Type 0
NewestHasRecords placed = (p : Placed) → last placed ≡ Some p → HasNone p → ⊥

-- What stands before the rest

pub has_records : (p q : Placed) (rest : List Placed) → MayPrecede p (q ∷ rest) → HasNone p → ⊥
has_records p q [] h = h.0
has_records p q (x ∷ rest) h = h

pub has_records_before : (p : Placed) (before : List Placed) (v : Placed) (after : List Placed) → MayPrecede p (before ++ v ∷ after) → HasNone p → ⊥
has_records_before p [] v after h = has_records p v after h
has_records_before p (q ∷ qs) v after h = has_records p q (qs ++ v ∷ after) h

pub may_precede : (p : Placed) (rest : List Placed) → rest ≢ [] → NewestHasRecords rest → (HasNone p → ⊥) → MayPrecede p rest
may_precede p [] some newest here = absurd (some refl)
may_precede p (q ∷ []) some newest here = (here, λ none. absurd (newest q refl none))
may_precede p (q ∷ x ∷ rest) some newest here = here

-- One more batch in the newest segment

pub records_with_batch : (p : Placed) (b : List Record) → records_of (with_batch_in p b) ≡ records_of p ++ b
records_with_batch p b = flat_map-append (λ (x : List Record). x) p.segment.batches (b ∷ []) ∙ ap (λ (rs : List Record). records_of p ++ rs) (append-nil b)

pub batch_has_records : (p : Placed) (b : List Record) → b ≢ [] → HasNone (with_batch_in p b) → ⊥
batch_has_records p b some none = some (nil_right (records_of p) b (sym (records_with_batch p b) ∙ none))

-- the records of the segment before
abbrev records_before : Option Placed → List Record
records_before None = []
records_before (Some q) = records_of q

grown_ticks : (qs ps rs : List Record) → ((r s : Record) → last qs ≡ Some r → slice_get ps 0 ≡ Some s → r.tick ≤ s.tick) → NeverFalls (tick_of (last (qs ++ ps))) rs
    → (r s : Record) → last qs ≡ Some r → slice_get (ps ++ rs) 0 ≡ Some s → r.tick ≤ s.tick
grown_ticks qs [] rs h falls r s e f = ticks_between qs rs (subst (λ (xs : List Record). NeverFalls (tick_of (last xs)) rs) (append-nil qs) falls) r s e f
grown_ticks qs (p ∷ ps) rs h falls r s e f = h r s e f

-- no summary stands before a newest segment without records
abbrev IsUnsummarizedBefore : Option Placed → Placed → Type 0
IsUnsummarizedBefore o p = (q : Placed) → o ≡ Some q → HasNone p → q.segment.header.summary ≡ None

grown_follows : (o : Option Placed) (p : Placed) (records : List Record) → records ≢ [] → p.segment.header.summary ≡ None → IsUnsummarizedBefore o p → NeverFalls (tick_of (last (records_before o ++ records_of p))) records
    → MayFollow o p → MayFollow o (with_batch_in p records)
grown_follows None p records some newest before falls h = λ none. absurd (batch_has_records p records some none)
grown_follows (Some q) p records some newest before falls h = record {
  seq = h.seq;
  place = h.place;
  joined = h.joined;
  ticks = λ r s e f. grown_ticks (records_of q) (records_of p) records h.ticks falls r s e (subst (λ (rs : List Record). slice_get rs 0 ≡ Some s) (records_with_batch p records) f);
  seconds = λ a b e f. seconds_grown q.segment.header.summary p.segment.header.summary (records_of q) (records_of p) records newest (before q refl) h.seconds falls a b e
      (ap (begin_second p.segment.header.summary) (sym (records_with_batch p records)) ∙ f);
  begun = λ none. absurd (batch_has_records p records some none);
}

grown_in_place : (o : Option Placed) (p : Placed) (first : ℕ) (records : List Record) → records ≢ [] → IsUnsummarizedBefore o p → first ≡ next_place p → RunOn first records
    → NeverFalls (tick_of (last (records_before o ++ records_of p))) records → IsInPlace o p [] → IsInPlace o (with_batch_in p records) []
grown_in_place o p first records some before from places falls h =
    let own : NeverFalls (tick_of (last (records_of p))) records = never_falls_less (tick_of (last (records_of p))) (tick_of (last (records_before o ++ records_of p))) records
    (tick_behind (records_before o) (records_of p)) falls in
    let zero_on : NeverFalls 0 records = never_falls_less 0 (tick_of (last (records_of p))) records (omega arith) own in
    record {
      runs_on = record {
        low = h.runs_on.low;
        by_place = h.runs_on.by_place;
        places = subst (λ (rs : List Record). RunOn (first_of p) rs) (sym (records_with_batch p records))
            (run_on_join (first_of p) (records_of p) records h.runs_on.places (subst (λ (n : ℕ). RunOn n records) from places));
        ticks = subst (λ (rs : List Record). NeverFalls 0 rs) (sym (records_with_batch p records)) (never_falls_join 0 (records_of p) records h.runs_on.ticks (λ none. zero_on) own);
      };
      agrees = subst (λ (s : Option Summary). IfSome s (Agrees (with_batch_in p records))) (sym h.precedes) tt;
      follows = grown_follows o p records some h.precedes before falls h.follows;
      precedes = h.precedes;
    }

grown_precedes : (z : Placed) (older : List Placed) (p q : Placed) → (HasNone q → ⊥) → MayPrecede z (older ++ p ∷ []) → MayPrecede z (older ++ q ∷ [])
grown_precedes z [] p q some h = (h.0, λ none. absurd (some none))
grown_precedes z (x ∷ []) p q some h = h
grown_precedes z (x ∷ y ∷ older) p q some h = h

-- what the segment before these is before them
abbrev PrecedesAny : Option Placed → List Placed → Type 0
PrecedesAny None ps = Unit {0}
PrecedesAny (Some q) ps = MayPrecede q ps

unsummarized_before : (o : Option Placed) (p : Placed) → PrecedesAny o (p ∷ []) → IsUnsummarizedBefore o p
unsummarized_before None p h q e none = absurd (none-some q e)
unsummarized_before (Some x) p h q e none = ap (λ (y : Placed). y.segment.header.summary) (sym (same_Some x q e)) ∙ h.1 none

grown_behind : (o : Option Placed) (older : List Placed) (p : Placed) (first : ℕ) (records : List Record) → records ≢ [] → PrecedesAny o (older ++ p ∷ []) → first ≡ next_place p → RunOn first records
    → NeverFalls (tick_of (last (records_before o ++ all_records (older ++ p ∷ [])))) records
    → AreInPlace o (older ++ p ∷ []) → AreInPlace o (older ++ with_batch_in p records ∷ [])
grown_behind o [] p first records some before from places falls h =
    (grown_in_place o p first records some (unsummarized_before o p before) from places (subst (λ (rs : List Record). NeverFalls (tick_of (last (records_before o ++ rs))) records) (append-nil (records_of p)) falls) h.0, tt)
grown_behind o (z ∷ older) p first records some before from places falls h = (
  record {
    runs_on = h.0.runs_on;
    agrees = h.0.agrees;
    follows = h.0.follows;
    precedes = grown_precedes z older p (with_batch_in p records) (batch_has_records p records some) h.0.precedes;
  },
  grown_behind (Some z) older p first records some h.0.precedes from places
      (never_falls_less (tick_of (last (all_records (z ∷ older ++ p ∷ [])))) (tick_of (last (records_before o ++ all_records (z ∷ older ++ p ∷ [])))) records
      (tick_behind (records_before o) (all_records (z ∷ older ++ p ∷ []))) falls)
      h.1,
)

pub append_in_order : (older : List Placed) (p : Placed) (first : ℕ) (records : List Record) → AreInOrder (older ++ p ∷ []) → Continues (older ++ p ∷ []) first records
    → AreInOrder (older ++ with_batch_in p records ∷ [])
append_in_order older p first records order h = grown_behind None older p first records h.some tt (h.from p (last_behind older p [])) h.places h.ticks order

-- The victim is left out

skipped_ticks : (qs vs ps : List Record) → vs ≢ [] → NeverFalls 0 vs → ((r s : Record) → last qs ≡ Some r → slice_get vs 0 ≡ Some s → r.tick ≤ s.tick)
    → ((r s : Record) → last vs ≡ Some r → slice_get ps 0 ≡ Some s → r.tick ≤ s.tick) → (r s : Record) → last qs ≡ Some r → slice_get ps 0 ≡ Some s → r.tick ≤ s.tick
skipped_ticks qs [] ps some falls h k r s e f = absurd (some refl)
skipped_ticks qs (v ∷ vs) ps some falls h k r s e f =
    let a = h r v e refl in
    let b = first_to_last v vs falls.1 in
    let c = k (last_after v vs) s refl f in
    omega (arith, a, b, c)

skipped_follows : (o : Option Placed) (v p : Placed) → (HasNone v → ⊥) → (HasNone p → ⊥) → RunsOn v → IfSome v.segment.header.summary (Agrees v) → MayFollow o v → Follows v p → MayFollow o p
skipped_follows None v p some here runs agrees h k = λ none. absurd (here none)
skipped_follows (Some q) v p some here runs agrees h k =
    let a = h.seq in
    let b = k.seq in
    let c = h.place in
    let d = k.place in
    record {
      seq = omega (arith, a, b);
      place = omega (arith, c, d);
      joined = λ e. let bad : ⊥ = omega (arith, a, b, e) in absurd bad;
      ticks = skipped_ticks (records_of q) (records_of v) (records_of p) some runs.ticks h.ticks k.ticks;
      seconds = seconds_over (end_second q.segment.header.summary (records_of q)) (begin_second p.segment.header.summary (records_of p)) v.segment.header.summary (records_of v) some runs.ticks
          (λ s e. (subst (λ (o : Option Summary). IfSome o (Agrees v)) e agrees).covered) h.seconds k.seconds;
      begun = λ none. absurd (here none);
    }

close_behind : (o : Option Placed) (before : List Placed) (v : Placed) (after : List Placed) → after ≢ [] → NewestHasRecords after → AreInPlace o (before ++ v ∷ after) → AreInPlace o (before ++ after)
close_behind o [] v [] some newest h = absurd (some refl)
close_behind o [] v (p ∷ rest) some newest h = (
  record {
    runs_on = h.1.0.runs_on;
    agrees = h.1.0.agrees;
    follows = skipped_follows o v p (has_records v p rest h.0.precedes) (here rest newest h.1.0.precedes) h.0.runs_on h.0.agrees h.0.follows h.1.0.follows;
    precedes = h.1.0.precedes;
  },
  h.1.1,
)
  where
    here : (rest : List Placed) → NewestHasRecords (p ∷ rest) → MayPrecede p rest → HasNone p → ⊥
    here [] newest k = newest p refl
    here (q ∷ rest) newest k = has_records p q rest k
close_behind o (z ∷ before) v after some newest h = (
  record {
    runs_on = h.0.runs_on;
    agrees = h.0.agrees;
    follows = h.0.follows;
    precedes = may_precede z (before ++ after) (λ e. some (nil_right before after e)) (λ p e. newest p (sym (last_behind_some before after some) ∙ e))
        (has_records_before z before v after h.0.precedes);
  },
  close_behind (Some z) before v after some newest h.1,
)

pub close_in_order : (before : List Placed) (v : Placed) (after : List Placed) → AreInOrder (before ++ v ∷ after) → after ≢ [] → NewestHasRecords after → AreInOrder (before ++ after)
close_in_order before v after order some newest = close_behind None before v after some newest order

-- A new segment behind the newest

grown_precedes_more : (q : Placed) (ps : List Placed) (n : Placed) → MayPrecede q ps → (HasNone (last_after q ps) → ⊥) → MayPrecede q (ps ++ n ∷ [])
grown_precedes_more q [] n h some = (some, λ none. h)
grown_precedes_more q (p ∷ []) n h some = has_records q p [] h
grown_precedes_more q (p ∷ x ∷ ps) n h some = h

add_behind : (q : Placed) (ps : List Placed) (n : Placed) → (HasNone (last_after q ps) → ⊥) → IsInPlace (Some (last_after q ps)) n [] → AreInPlace (Some q) ps → AreInPlace (Some q) (ps ++ n ∷ [])
add_behind q [] n some i h = (i, tt)
add_behind q (p ∷ ps) n some i h =
    (record { runs_on = h.0.runs_on; agrees = h.0.agrees; follows = h.0.follows; precedes = grown_precedes_more p ps n h.0.precedes some }, add_behind p ps n some i h.1)

-- One more segment that is in its place behind the newest.
pub add_in_order : (placed : List Placed) (n : Placed) → AreInOrder placed → NewestHasRecords placed → IsInPlace (last placed) n [] → AreInOrder (placed ++ n ∷ [])
add_in_order [] n h newest i = (i, tt)
add_in_order (p ∷ ps) n h newest i =
    let some : HasNone (last_after p ps) → ⊥ = newest (last_after p ps) refl in
    (record { runs_on = h.0.runs_on; agrees = h.0.agrees; follows = h.0.follows; precedes = grown_precedes_more p ps n h.0.precedes some }, add_behind p ps n some i h.1)

newest_behind : (o : Option Placed) (p : Placed) (ps : List Placed) → AreInPlace o (p ∷ ps) → (q : Option Placed) × IsInPlace q (last_after p ps) []
newest_behind o p [] h = (o, h.0)
newest_behind o p (q ∷ ps) h = newest_behind (Some p) q ps h.1

pub newest_in_place : (placed : List Placed) (p : Placed) → AreInOrder placed → last placed ≡ Some p → (q : Option Placed) × IsInPlace q p []
newest_in_place [] p h e = absurd (none-some p e)
newest_in_place (x ∷ xs) p h e = let n = newest_behind None x xs h in (n.0, subst (λ (y : Placed). IsInPlace n.0 y []) (same_Some (last_after x xs) p e) n.1)

pub newest_runs_on : (placed : List Placed) (p : Placed) → AreInOrder placed → last placed ≡ Some p → RunsOn p
newest_runs_on placed p h e = (newest_in_place placed p h e).1.runs_on

new_in_place : (o : Option Placed) (slot first : ℕ) → ((p : Placed) → o ≡ Some p → RunsOn p) → ((p : Placed) → o ≡ Some p → HasNone p → ⊥) → first ≡ next_of o → next_seq o < 2 ^ 63
    → IsInPlace o (new_segment slot (next_seq o) first) []
new_in_place None slot first runs some from low = record {
  runs_on = record { low = low; by_place = omega arith; places = tt; ticks = tt };
  agrees = tt;
  follows = λ none. from;
  precedes = refl;
}
new_in_place (Some p) slot first runs some from low =
    let r : RunsOn p = runs p refl in
    let a : seq_of p ≤ first_of p = r.by_place in
    let b : 0 < length (records_of p) = positive_length (records_of p) (some p refl) in
    record {
      runs_on = record { low = low; by_place = omega (arith, a, b, from); places = tt; ticks = tt };
      agrees = tt;
      follows = record {
        seq = omega arith;
        place = omega (arith, from);
        joined = λ e. from;
        ticks = λ x s e f. absurd (none-some s f);
        seconds = λ a b e f. absurd (none-some b f);
        begun = λ none. refl;
      };
      precedes = refl;
    }

pub begin_in_order : (placed : List Placed) (slot first : ℕ) → AreInOrder placed → NewestHasRecords placed → first ≡ next_of (last placed) → next_seq (last placed) < 2 ^ 63
    → AreInOrder (placed ++ new_segment slot (next_seq (last placed)) first ∷ [])
begin_in_order placed slot first order newest from low =
    add_in_order placed (new_segment slot (next_seq (last placed)) first) order newest
    (new_in_place (last placed) slot first (λ p e. newest_runs_on placed p order e) newest from low)

new_with_batch_in_place : (o : Option Placed) (slot first : ℕ) (records : List Record) → ((p : Placed) → o ≡ Some p → (q : Option Placed) × IsInPlace q p []) → ((p : Placed) → o ≡ Some p → HasNone p → ⊥) → records ≢ []
    → ((p : Placed) → o ≡ Some p → first ≡ next_place p) → RunOn first records → ((p : Placed) → o ≡ Some p → NeverFalls (tick_of (last (records_of p))) records) → NeverFalls 0 records → next_seq o < 2 ^ 63
    → IsInPlace o (with_batch_in (new_segment slot (next_seq o) first) records) []
new_with_batch_in_place o slot first records runs newest some from places falls zero_on low = record {
  runs_on = record {
    low = low;
    by_place = by_place o runs newest from;
    places = subst (λ (rs : List Record). RunOn first rs) (sym (append-nil records)) places;
    ticks = subst (λ (rs : List Record). NeverFalls 0 rs) (sym (append-nil records)) zero_on;
  };
  agrees = tt;
  follows = follows o runs from falls;
  precedes = refl;
}
  where
    here : (o : Option Placed) → HasNone (with_batch_in (new_segment slot (next_seq o) first) records) → ⊥
    here o none = batch_has_records (new_segment slot (next_seq o) first) records some none

    by_place : (o : Option Placed) → ((p : Placed) → o ≡ Some p → (q : Option Placed) × IsInPlace q p []) → ((p : Placed) → o ≡ Some p → HasNone p → ⊥) → ((p : Placed) → o ≡ Some p → first ≡ next_place p) → next_seq o ≤ first
    by_place None runs newest from = omega arith
    by_place (Some p) runs newest from =
        let r : RunsOn p = (runs p refl).1.runs_on in
        let a : seq_of p ≤ first_of p = r.by_place in
        let b : 0 < length (records_of p) = positive_length (records_of p) (newest p refl) in
        let c : first ≡ next_place p = from p refl in
        omega (arith, a, b, c)

    follows : (o : Option Placed) → ((p : Placed) → o ≡ Some p → (q : Option Placed) × IsInPlace q p []) → ((p : Placed) → o ≡ Some p → first ≡ next_place p) → ((p : Placed) → o ≡ Some p → NeverFalls (tick_of (last (records_of p))) records)
        → MayFollow o (with_batch_in (new_segment slot (next_seq o) first) records)
    follows None runs from falls = λ none. absurd (here None none)
    follows (Some p) runs from falls =
        let c : first ≡ next_place p = from p refl in
        record {
          seq = omega arith;
          place = omega (arith, c);
          joined = λ e. c;
          ticks = λ r s e f. ticks_between (records_of p) records (falls p refl) r s e (subst (λ (rs : List Record). slice_get rs 0 ≡ Some s) (append-nil records) f);
          seconds = λ a b e f. seconds_by_ticks p.segment.header.summary None (records_of p) records (runs p refl).1.precedes refl (ticks_between (records_of p) records (falls p refl)) a b e
              (ap (begin_second None) (sym (append-nil records)) ∙ f);
          begun = λ none. absurd (here (Some p) none);
        }

last_of_newest : (p : Placed) (ps : List Placed) → (HasNone (last_after p ps) → ⊥) → last (all_records (p ∷ ps)) ≡ last (records_of (last_after p ps))
last_of_newest p [] some = ap last (append-nil (records_of p))
last_of_newest p (q ∷ ps) some =
    let k = last_of_newest q ps some in
    last_behind_some (records_of p) (all_records (q ∷ ps)) (λ e. some (nil_from_last (records_of (last_after q ps)) (sym k ∙ ap last e))) ∙ k

-- The last record of a medium is the last of its newest segment, where that has records.
pub last_in_newest : (placed : List Placed) (p : Placed) → NewestHasRecords placed → last placed ≡ Some p → last (all_records placed) ≡ last (records_of p)
last_in_newest [] p newest e = absurd (none-some p e)
last_in_newest (x ∷ xs) p newest e = last_of_newest x xs (newest (last_after x xs) refl) ∙ ap (λ (q : Placed). last (records_of q)) (same_Some (last_after x xs) p e)

pub begin_with_batch_in_order : (placed : List Placed) (slot first : ℕ) (records : List Record) → AreInOrder placed → NewestHasRecords placed → Continues placed first records → next_seq (last placed) < 2 ^ 63
    → AreInOrder (placed ++ with_batch_in (new_segment slot (next_seq (last placed)) first) records ∷ [])
begin_with_batch_in_order placed slot first records order newest h low =
    add_in_order placed (with_batch_in (new_segment slot (next_seq (last placed)) first) records) order newest
    (new_with_batch_in_place (last placed) slot first records (λ p e. newest_in_place placed p order e) newest h.some h.from h.places
    (λ p e. subst (λ (o : Option Record). NeverFalls (tick_of o) records) (last_in_newest placed p newest e) h.ticks)
    (never_falls_less 0 (tick_of (last (all_records placed))) records (omega arith) h.ticks)
    low)
