use Rattle.std.proofs.Common.{rules, ◌≡◌, ◌≢◌, ◌≤◌, ◌+◌, ℕ, Bool, List, [], Result, drop, map, IfOk, None, Err, sym, ap, ◌∙◌, subst}
use Rattle.std.proofs.lemmas.Result.{IfOk-weaker}
use Rattle.vdr_terms.specs.Records.{Record, last}
use Rattle.vdr_terms.specs.Sizes.{batch_size}
use Rattle.vdr_segment.specs.Gates.{IsOpenAt}
use Rattle.vdr_segment.specs.Segments.{AreBatches}
use Rattle.vdr_directory.specs.Knowns.{known_of}
use Rattle.vdr_directory.specs.Sequence.{Placed, batches_in}
use Rattle.vdr_directory.proofs.LastKnown.{last_batch_known}
use Rattle.vdr_ring.specs.Rings.{Knows, Reads, RingState}
use Rattle.vdr_outside.specs.declared.fault.PartRefused.TheVariants.{Damaged as APartDamaged}
use Rattle.vdr_ring.specs.Lasts.{batch_or_none}
use Rattle.vdr_ring.specs.declared.refused.ReadRefused.{ReadRefused}
use Rattle.vdr_ring.specs.declared.refused.ReadRefused.TheVariants.{Damaged}
use Rattle.vdr_ring.proofs.Judging.{buffer_read, judged_on, slot_intact}
use Rattle.vdr_ring.proofs.LastBatch.{intact_unbroken, known_batches, known_read, knows_on, last_is, last_undamaged, none_breaks, reads_on}
use Rattle.vdr_ring.proofs.Legible.{never_damaged}
use Rattle.vdr_ring.proofs.ring.Ring.read_last_batch.Goals as goal

pub returns-in-Ok-clause-keeps : goal.returns-in-Ok-clause-keeps
returns-in-Ok-clause-keeps g c = record {
  ring = search rules;
  room = search rules;
  bytes = search rules;
  judged = judged_on c.args.self.now c.load.new.self _ _ c.load.ensures.ring c.load.ensures.unchanged c.load.ensures.bytes c.in-Some.slot c.in-Ok.ensures.loaded c.in-Ok.field-0
      c.in-Ok.ensures.held c.in-Ok.ensures.judged;
  reads = λ placed reads. reads_on c.args.self.now c.load.new.self _ _ c.load.ensures.ring c.load.ensures.unchanged c.load.ensures.bytes placed reads;
  knows = λ known knows. knows_on c.args.self.now c.load.new.self _ _ c.load.ensures.ring c.load.ensures.unchanged c.load.ensures.bytes known knows;
  unchanged = search rules;
}

pub returns-in-Ok-clause-batch : goal.returns-in-Ok-clause-batch
returns-in-Ok-clause-batch g c =
    let ring = c.args.self.now in
    let mid = c.load.new.self in
    let before = g.M.Media.disk c.args.media.now in
    let slot = c.in-Some.slot in
    let long : 64 ≤ ring.segment = c.last_slot.ensures.long in
    let found = λ (told : g.M.Media.tells) (known : List Placed) (knows : Knows ring known before).
    c.in-Some.ensures.found known knows.directory knows.order (known_batches ring known before told knows) in
    let read = buffer_read ring mid before (g.M.Media.disk c.load.new.media) c.load.ensures.ring c.load.ensures.unchanged c.load.ensures.bytes slot c.in-Ok.ensures.loaded in
    let known_is = λ (records : List Record)
    (h : IsOpenAt mid.buffer 0 → (batches : List (List Record)) → AreBatches (drop 64 mid.buffer) batches → batch_or_none records ≡ last batches)
    (told : g.M.Media.tells) (known : List Placed) (knows : Knows ring known before).
    last_is ring known before slot told long knows (found told known knows) mid.buffer (read told knows.loaded) records h in
    let none = λ (told : g.M.Media.tells) (known : List Placed) (knows : Knows ring known before) (m offset : ℕ) (is : c.last_loaded.result ≡ Err (APartDamaged m offset)).
    let d = c.last_loaded.ensures.damaged m offset is in
    none_breaks ring known before slot told long knows (found told known knows) mid.buffer (read told knows.loaded) d.2 d.3 in
    record {
      batch = IfOk-weaker c.last_loaded.result
          (λ records. IsOpenAt mid.buffer 0 → (batches : List (List Record)) → AreBatches (drop 64 mid.buffer) batches → batch_or_none records.items ≡ last batches)
          (λ records. g.M.Media.tells → (placed : List Placed) → Reads ring placed before → batch_or_none records.items ≡ last (batches_in placed))
          (λ x h told placed reads. known_is x.items h told (map known_of placed) (known_read ring placed before told long reads) ∙ last_batch_known None placed reads.order)
          c.last_loaded.ensures.batch;
      known = IfOk-weaker c.last_loaded.result
          (λ records. IsOpenAt mid.buffer 0 → (batches : List (List Record)) → AreBatches (drop 64 mid.buffer) batches → batch_or_none records.items ≡ last batches)
          (λ records. g.M.Media.tells → (known : List Placed) → Knows ring known before → batch_or_none records.items ≡ last (batches_in known))
          (λ x h. known_is x.items h) c.last_loaded.ensures.batch;
      fits = subst (λ (n : ℕ). IfOk c.last_loaded.result (λ records. records.items ≢ [] → 64 + batch_size records.items + 1 ≤ n)) (ap (λ (r : RingState). r.segment) c.load.ensures.ring) c.last_loaded.ensures.fits;
      undamaged = λ told placed reads. none told (map known_of placed) (known_read ring placed before told long reads);
      undamaged_known = none;
      medium = search rules;
      damaged = λ told judged m offset is.
          let d = c.last_loaded.ensures.damaged m offset is in
          let intact =
          slot_intact ring mid before (g.M.Media.disk c.load.new.media) c.load.ensures.ring c.load.ensures.unchanged c.load.ensures.bytes slot c.in-Ok.ensures.loaded c.in-Ok.field-0
          c.in-Ok.ensures.held c.in-Ok.ensures.judged told judged in
          absurd (intact_unbroken mid.buffer _ d.2 (read told (λ j loaded told. (judged j loaded told).0)) intact d.1 d.3);
    }

pub returns-in-Err-Damaged-clause-keeps : goal.returns-in-Err-Damaged-clause-keeps
returns-in-Err-Damaged-clause-keeps g c = record {
  ring = search rules;
  room = search rules;
  bytes = search rules;
  judged = search rules;
  reads = λ placed reads. reads_on c.args.self.now c.load.new.self _ _ c.load.ensures.ring c.load.ensures.unchanged c.load.ensures.bytes placed reads;
  knows = λ known knows. knows_on c.args.self.now c.load.new.self _ _ c.load.ensures.ring c.load.ensures.unchanged c.load.ensures.bytes known knows;
  unchanged = search rules;
}

pub returns-in-Err-Damaged-clause-batch : goal.returns-in-Err-Damaged-clause-batch
returns-in-Err-Damaged-clause-batch g c =
    let ring = c.args.self.now in
    let before = g.M.Media.disk c.args.media.now in
    let d = c.in-Err-Damaged.ensures.damaged c.in-Err-Damaged.medium c.in-Err-Damaged.offset (ap Err c.in-Err-Damaged.field-0-is) in
    record {
      batch = search rules;
      known = search rules;
      fits = search rules;
      undamaged = λ told placed reads m offset is. never_damaged ring placed before c.in-Some.slot (d.1 told).0 told c.in-Some.ensures.within reads (d.1 told).1;
      undamaged_known = λ told known knows m offset is.
          last_undamaged ring known before c.in-Some.slot told c.last_slot.ensures.long knows
          (c.in-Some.ensures.found known knows.directory knows.order (known_batches ring known before told knows)) (d.1 told).0 (d.1 told).1;
      medium = search rules;
      damaged = λ told judged m offset is.
          let same : ◌≡◌ {A = Result Bool ReadRefused} (Err c.in-Err-Damaged.field-0) (Err (Damaged m offset)) = search rules in
          let h = (c.in-Err-Damaged.ensures.damaged m offset same).1 told in
          record { slot = c.in-Some.slot; within = c.in-Some.ensures.within; damaged = record { at = h.0; damaged = h.1; is = h.2 } };
    }

pub returns-in_default-clause-batch : goal.returns-in_default-clause-batch
returns-in_default-clause-batch g c =
    let ring = c.args.self.now in
    let before = g.M.Media.disk c.args.media.now in
    let none = λ (told : g.M.Media.tells) (known : List Placed) (knows : Knows ring known before).
    ap batch_or_none c.new.ensures.items ∙ sym (c.in_default.ensures.found known knows.directory knows.order (known_batches ring known before told knows)) in
    record {
      batch = λ told placed reads. none told (map known_of placed) (known_read ring placed before told c.last_slot.ensures.long reads) ∙ last_batch_known None placed reads.order;
      known = none;
      fits = search rules;
      undamaged = search rules;
      undamaged_known = search rules;
      medium = search rules;
      damaged = search rules;
    }

pub returns-in-Ok-clause-held : goal.returns-in-Ok-clause-held
returns-in-Ok-clause-held g c holds = c.load.ensures.again (holds c.in-Some.slot c.in-Some.ensures.newest)

pub returns-in-Err-Fault-clause-held : goal.returns-in-Err-Fault-clause-held
returns-in-Err-Fault-clause-held g c holds = c.load.ensures.again (holds c.in-Some.slot c.in-Some.ensures.newest)

pub returns-in-Err-Damaged-clause-held : goal.returns-in-Err-Damaged-clause-held
returns-in-Err-Damaged-clause-held g c holds = c.load.ensures.again (holds c.in-Some.slot c.in-Some.ensures.newest)
