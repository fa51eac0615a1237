-- A ring's append keeps what its medium is to keep.
use Rattle.std.proofs.Common.{◌≡◌, ◌<◌, ◌≤◌, ◌+◌, ℕ, List, [], ◌∷◌, ◌++◌, length, length-append, inl, inr, suc, ⊎_elim, refl, sym, ap, ◌∙◌, subst, arith}
use Rattle.std.proofs.lemmas.List.{length-map}
use Rattle.vdr_terms.specs.Records.{Record, last}
use Rattle.vdr_terms.specs.Order.{AreInOrder, RunOn}
use Rattle.vdr_terms.specs.Needs.{Sizes, cost, usable}
use Rattle.vdr_terms.proofs.Running.{last_of_run, run_on_join}
use Rattle.vdr_durability.specs.Layout.{Batches, records_in, segment_records}
use Rattle.vdr_durability.specs.Regular.{FollowOn}
use Rattle.vdr_durability.specs.Retention.{Pin}
use Rattle.vdr_durability.specs.Readings.{next_after}
use Rattle.vdr_durability.specs.Soundness.{IsUnbroken}
use Rattle.vdr_durability.proofs.Following.{follow_in_order}
use Rattle.vdr_durability.proofs.Restored.{all_with}
use Rattle.vdr_durability.proofs.Shows.{retains_itself}
use Rattle.vdr_durability.proofs.Unbroken.{unbroken_follows, unbroken_held}
use Rattle.vdr_directory.specs.Bringing.{AreAlike}
use Rattle.vdr_directory.specs.Sequence.{Placed, all_records, batches_in, batches_of}
use Rattle.vdr_directory.proofs.Bringing.{alike_segments}
use Rattle.vdr_segment.specs.Segments.{with_batch}
use Rattle.vdr_ring.specs.Regularity.{AreLaidOut, AreRegular, IsAllowed}
use Rattle.vdr_ring.specs.Stages.{AreStages, BeginsAnew, GoesOn, IsForced, IsLeft, IsOldest, IsVictim, Leaves, Stages}
use Rattle.vdr_ring.proofs.Records.{records_are}
use Rattle.vdr_ring.proofs.Retaining.{closed_retains, done_retains, stages_regular}
use Rattle.vdr_ring.specs.Taking.{HaveBatch}
use Rattle.vdr_ring.specs.Whole.{KeepsAll}
use Rattle.vdr_ring.proofs.Allowed.{IsReady, at_both, begun_batches, done_batches, left_batches}

-- How many segments each stage has

record Counts (count : ℕ) (placed : List Placed) (stages : Stages) : Type 0 where
  pub begun : length stages.closed ≤ length stages.begun
  pub done : length stages.closed ≤ length stages.done
  pub room : length stages.closed + 1 < count → stages.closed ≡ placed

pushed_long : (xs : List Placed) (y : Placed) → length (xs ++ y ∷ []) ≡ length xs + 1
pushed_long xs y = length-append xs (y ∷ [])

around : (placed before : List Placed) (victim : Placed) (after : List Placed) → placed ≡ before ++ victim ∷ after → length placed ≡ suc (length (before ++ after))
around placed before victim after split =
    let a = ap length split in let b = length-append before (victim ∷ after) in let c = length-append before after in omega (arith, a, b, c)

victim_split : (seconds : ℕ) (pins : List Pin) (placed before : List Placed) (victim : Placed) (after : List Placed) → IsVictim seconds pins placed before victim after → placed ≡ before ++ victim ∷ after
victim_split seconds pins placed before victim after h = ⊎_elim
    (λ (o : IsOldest seconds pins placed before victim after). o.split)
    (λ (f : (before ≡ []) × IsForced seconds pins placed victim after). f.1.split ∙ ap (λ (xs : List Placed). xs ++ victim ∷ after) (sym f.0))
    h

module _ (size count seconds : ℕ) (pins : List Pin) (placed : List Placed) (first : ℕ) (records : List Record) (stages : Stages) where
  counts_on : GoesOn size placed records stages → Counts count placed stages
  counts_on g =
      let closed = ap length g.closed in
      let begun = ap length g.begun in
      let done = ap length g.done ∙ pushed_long g.older (record { slot = g.newest.slot; segment = with_batch g.newest.segment records }) in
      let all = ap length g.split ∙ pushed_long g.older g.newest in
      record { begun = omega (arith, closed, begun); done = omega (arith, closed, done, all); room = λ lt. g.closed }

  counts_anew : BeginsAnew size count seconds pins placed first records stages → Counts count placed stages
  counts_anew b =
      let begun = ap length b.begun ∙ length-append stages.closed _ in
      let done = ap length b.done ∙ length-append stages.closed _ in
      record {
        begun = omega (arith, begun);
        done = omega (arith, done);
        room = λ lt. ⊎_elim
            (λ p. p.1)
            (λ p. let full = p.0 in let all = around placed p.1 p.2 p.3 (victim_split seconds pins placed p.1 p.2 p.3 p.4) in let closed = ap length p.6 in absurd (omega (arith, lt, full, all, closed)))
            b.place;
      }

  counts : AreStages size count seconds pins placed first records stages → Counts count placed stages
  counts s = ⊎_elim (λ (g : GoesOn size placed records stages). counts_on g) (λ (b : BeginsAnew size count seconds pins placed first records stages). counts_anew b) s.0

left_long : (records : List Record) (stages : Stages) → IsLeft records stages → length stages.left ≡ length stages.done
left_long records stages h = ⊎_elim
    (λ none. ap length none.1)
    (λ (l : Leaves records stages).
    let a = ap length l.left ∙ length-append l.behind.older _ in
    let b = ap length l.done ∙ length-append l.behind.older _ in omega (arith, a, b))
    h

-- The records of each

regular_order : (cost usable batch : ℕ) (placed : List Placed) → AreRegular cost usable batch placed → AreInOrder (all_records placed)
regular_order cost usable batch placed h = go h.layout
  where
    go : AreLaidOut cost usable batch placed → AreInOrder (all_records placed)
    go (inl none) = subst (λ (ps : List Placed). AreInOrder (all_records ps)) (sym none) tt
    go (inr k) = subst (λ (segments : List Batches). AreInOrder (records_in segments)) (sym k.2) k.3.order

joined : (rs records : List Record) → FollowOn (last rs) records → (rs ≡ [] → RunOn 0 records) → RunOn 0 rs → RunOn 0 (rs ++ records)
joined [] records follow start h = start refl
joined (x ∷ xs) records follow start h = run_on_join 0 (x ∷ xs) records h (subst (λ (n : ℕ). RunOn n records) (last_of_run 0 x xs h) follow.0)

-- The same records in as many segments
kept_as : (seconds count : ℕ) (was now : List Placed) → all_records now ≡ all_records was → length was ≤ length now → KeepsAll seconds count was → KeepsAll seconds count now
kept_as seconds count was now same long k = record {
  unbroken = subst (IsUnbroken seconds) (sym same) k.unbroken;
  whole = λ lt. subst (RunOn 0) (sym same) (k.whole (omega (arith, lt, long)));
}

pub kept_alike : (seconds count : ℕ) (placed now : List Placed) → AreAlike placed now → KeepsAll seconds count placed → KeepsAll seconds count now
kept_alike seconds count placed now alike k =
    let same = alike_segments placed now alike in
    let a = ap length same in
    kept_as seconds count placed now (ap records_in same) (omega (arith, a, length-map placed batches_of, length-map now batches_of)) k

pub kept_nothing : (seconds count : ℕ) → KeepsAll seconds count []
kept_nothing seconds count = record { unbroken = (0, tt); whole = λ lt. tt }

module _ (sizes : Sizes) (m size count seconds : ℕ) (pins : List Pin) (placed : List Placed) (first : ℕ) (records : List Record) (stages : Stages)
    (allowed : IsAllowed sizes m size count seconds pins placed records) (are : AreStages size count seconds pins placed first records stages)
    (begun_same : batches_in stages.begun ≡ batches_in stages.closed) (done_with : batches_in stages.done ≡ batches_in stages.closed ++ records ∷ []) (left_same : batches_in stages.left ≡ batches_in stages.done)
    (k : KeepsAll seconds count placed) where
  begun_records : all_records stages.begun ≡ all_records stages.closed
  begun_records = sym (records_are stages.begun) ∙ ap segment_records begun_same ∙ records_are stages.closed

  done_records : all_records stages.done ≡ all_records stages.closed ++ records
  done_records = sym (records_are stages.done) ∙ ap segment_records done_with ∙ all_with (batches_in stages.closed) records ∙ ap (λ (rs : List Record). rs ++ records) (records_are stages.closed)

  left_records : all_records stages.left ≡ all_records stages.done
  left_records = sym (records_are stages.left) ∙ ap segment_records left_same ∙ records_are stages.done

  many : Counts count placed stages
  many = counts size count seconds pins placed first records stages are

  was_in_order : AreInOrder (all_records placed)
  was_in_order = regular_order _ _ _ placed allowed.regular

  regular : AreRegular (cost sizes) (usable sizes) sizes.batch stages.closed × AreRegular (cost sizes) (usable sizes) sizes.batch stages.begun × AreRegular (cost sizes) (usable sizes) sizes.batch stages.done
      × AreRegular (cost sizes) (usable sizes) sizes.batch stages.left
  regular = stages_regular sizes m size count seconds pins placed first records stages allowed are

  pub keeps_closed : KeepsAll seconds count stages.closed
  keeps_closed = record {
    unbroken = unbroken_held seconds (all_records placed) (all_records stages.closed) was_in_order (regular_order _ _ _ stages.closed regular.0)
        (closed_retains sizes m size count seconds pins placed first (all_records placed) records stages allowed are (retains_itself seconds pins (all_records placed))).window k.unbroken;
    whole = λ lt. subst (λ (ps : List Placed). RunOn 0 (all_records ps)) (sym (many.room lt)) (k.whole (subst (λ (ps : List Placed). length ps + 1 < count) (many.room lt) lt));
  }

  pub keeps_begun : KeepsAll seconds count stages.begun
  keeps_begun = kept_as seconds count stages.closed stages.begun begun_records many.begun keeps_closed

  module _ (start : all_records placed ≡ [] → RunOn 0 records) where
    keeps_done : KeepsAll seconds count stages.done
    keeps_done = record {
      unbroken = unbroken_held seconds (all_records placed ++ records) (all_records stages.done) (follow_in_order (all_records placed) records was_in_order allowed.paced.order) (regular_order _ _ _ stages.done regular.2)
          (done_retains sizes m size count seconds pins placed first (all_records placed) records stages allowed are (retains_itself seconds pins (all_records placed))).window
          (unbroken_follows seconds (all_records placed) records allowed.some was_in_order allowed.paced.order k.unbroken);
      whole = λ lt.
          let more = many.done in
          let low : length stages.closed + 1 < count = omega (arith, lt, more) in
          let same = many.room low in
          subst (RunOn 0) (sym (done_records ∙ ap (λ (ps : List Placed). all_records ps ++ records) same))
          (joined (all_records placed) records allowed.paced.order start (k.whole (subst (λ (ps : List Placed). length ps + 1 < count) same low)));
    }

    pub keeps_stages : KeepsAll seconds count stages.closed × KeepsAll seconds count stages.begun × KeepsAll seconds count stages.done × KeepsAll seconds count stages.left
    keeps_stages =
        let long = left_long records stages are.1 in
        (keeps_closed, keeps_begun, keeps_done, kept_as seconds count stages.done stages.left left_records (omega (arith, long)) keeps_done)

-- Of a medium that is ready

module _ (sizes : Sizes) (m size count seconds : ℕ) (pins : List Pin) (all records : List Record) (placed : List Placed) (first : ℕ) (ready : IsReady sizes m size count seconds pins all records placed) (stages : Stages)
    (are : AreStages size count seconds pins placed first records stages) where
  begun : batches_in stages.begun ≡ batches_in stages.closed
  begun = begun_batches sizes m size count seconds pins all records placed first ready stages are

  done : batches_in stages.done ≡ batches_in stages.closed ++ records ∷ []
  done = done_batches sizes m size count seconds pins all records placed first ready stages are

  left : batches_in stages.left ≡ batches_in stages.done
  left = left_batches sizes m size count seconds pins all records placed first ready stages are

  -- Until the batch is there, and once it is.
  pub kept_until : KeepsAll seconds count placed → KeepsAll seconds count stages.closed × KeepsAll seconds count stages.begun
  kept_until k = (
    keeps_closed sizes m size count seconds pins placed first records stages ready.allowed are begun done left k,
    keeps_begun sizes m size count seconds pins placed first records stages ready.allowed are begun done left k,
  )

  keeps_each : (all_records placed ≡ [] → RunOn 0 records) → KeepsAll seconds count placed
      → KeepsAll seconds count stages.closed × KeepsAll seconds count stages.begun × KeepsAll seconds count stages.done × KeepsAll seconds count stages.left
  keeps_each start k = keeps_stages sizes m size count seconds pins placed first records stages ready.allowed are begun done left k start

  pub kept_with : (now : List Placed) → HaveBatch stages now → (all_records placed ≡ [] → RunOn 0 records) → KeepsAll seconds count placed → KeepsAll seconds count now
  kept_with now have start k = let each = keeps_each start k in at_both stages now have (KeepsAll seconds count) each.2 each.3

-- The first batch of a medium runs on from 0, where its first place is that behind the last record.
pub begins_whole : (placed : List Placed) (first : ℕ) (records : List Record) → next_after (last (all_records placed)) ≡ first → RunOn first records → all_records placed ≡ [] → RunOn 0 records
begins_whole placed first records behind run none = subst (λ (n : ℕ). RunOn n records) (sym behind ∙ ap (λ (rs : List Record). next_after (last rs)) none) run
