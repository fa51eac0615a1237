use Rattle.std.proofs.Common.{◌≡◌, ◌<◌, ◌≤◌, ◌+◌, ◌-◌, inl, ℕ, List, length, refl, sym, ap, ◌∙◌, subst, arith}
use Rattle.std.proofs.lemmas.List.{get_or_default}
use Rattle.std.proofs.lemmas.Result.{err_from_is_err_and}
use Rattle.vdr_terms.specs.Sizes.{batch_size}
use Rattle.vdr_terms.proofs.Results.{same_err}
use Rattle.std.specs.Prelude.{All}
use Rattle.vdr_ring.specs.Rings.{HoldsNewest, RingState}
use Rattle.vdr_ring.specs.Rings as rings
use Rattle.vdr_opening.specs.Costs.{ReadsParts}
use Rattle.vdr_opening.specs.Media.{members_with, reading_of}
use Rattle.vdr_durability.specs.Readings.{EndsMeet, EndsOff}
use Rattle.vdr_opening.specs.Answers.{AreJudgedOn, AreRingsOf, IsMissing, no_ring, ring_at}
use Rattle.vdr_opening.specs.Parts.{ReadsLegal}
use Rattle.vdr_opening.proofs.Costs.{parts_more}
use Rattle.vdr_opening.proofs.Meeting.{are_known, contents_of, ends_refused, holds_parts, incidents_refused, is_opened_by}
use Rattle.vdr_opening.proofs.Legible.{AreRead, all_read, are_read, is_opened, lent_read}
use Rattle.vdr_opening.proofs.Rings.{from_rings, to_rings, judged_lent, judged_on, known_still, part_by, part_passed, take_front}
use Rattle.vdr_opening.proofs.reading.read_formatted.Goals as goal
use Rattle.vdr_outside.proofs.Moments.{unchanged_join}

pub returns-in_err-configured-clause-damaged : goal.returns-in_err-configured-clause-damaged
returns-in_err-configured-clause-damaged g c =
    let p = err_from_is_err_and c.from_residual.result c.from_residual.ensures.1 in
    rw (p.1, p.2) (λ m offset e told durable. inl (c.in_err-configured.ensures.damaged m offset (same_err _ _ e) told durable))

pub returns-in_err-table-clause-damaged : goal.returns-in_err-table-clause-damaged
returns-in_err-table-clause-damaged g c =
    let p = err_from_is_err_and c.from_residual-in_err-table.result c.from_residual-in_err-table.ensures.1 in
    rw (p.1, p.2) (λ m offset e told durable.
    let h = c.in_err-table.ensures.damaged m offset (same_err _ _ e) in
    let media = c.in_ok-configured.ensures.parts told in
    let count = c.in_ok-configured.ensures.count in let low = c.requires.two in
    let on = c.in_ok-configured.field-0.rings.items in
    let sized : length on ≡ 2 + (c.args.count - 2) = omega (arith, count, low) in
    incidents_refused _ _ c.open_media.ensures.unchanged told _ (c.requires.version told) _ _ media.0 on media.1 _ (c.index.ensures ∙ get_or_default on 1 _ no_ring (omega (arith, count, low))) m offset h.0 (h.1 told))

pub returns-in_err-table-clause-cause : goal.returns-in_err-table-clause-cause
returns-in_err-table-clause-cause g c =
    let p = err_from_is_err_and c.from_residual-in_err-table.result c.from_residual-in_err-table.ensures.1 in
    rw (p.1, p.2) (part_passed _ _ _ _ c.open_media.ensures.cause.later (part_by (c.args.count - 2) 1 1 _ _ _ refl (omega arith) c.in_err-table.ensures.cause))

pub returns-in_err-batch-clause-damaged : goal.returns-in_err-batch-clause-damaged
returns-in_err-batch-clause-damaged g c =
    let p = err_from_is_err_and c.from_residual-in_err-batch.result c.from_residual-in_err-batch.ensures.1 in
    rw (p.1, p.2) (λ m offset e told durable.
    let media = c.in_ok-configured.ensures.parts told in
    let count = c.in_ok-configured.ensures.count in let low = c.requires.two in
    let on = c.in_ok-configured.field-0.rings.items in
    let sized : length on ≡ 2 + (c.args.count - 2) = omega (arith, count, low) in
    let long_term_is = c.index.ensures ∙ get_or_default on 1 _ no_ring (omega (arith, count, low)) in
    let table = c.in_ok-table.ensures in
    let found = contents_of (c.args.count - 2) c.in_ok-configured.field-0.configured.config c.in_ok-configured.field-0.configured.text.items media.0 c.in_ok-table.table in
    let known = are_known _ _ c.open_media.ensures.unchanged told _ (c.requires.version told) _ _ media.0 on media.1 _ long_term_is _ _ (omega (arith, count, low)) c.deref_mut.ensures.value c.read_incidents.ensures.unchanged in
    ends_refused _ _ c.open_media.ensures.unchanged told _ (c.requires.version told) _ _ media.0 on media.1 _ long_term_is c.in_ok-table.table (table.table told) table.there m offset
    (let off = c.in_err-batch.ensures.damaged m offset (same_err _ _ e) told found known in
    (off.0, from_rings (λ ms. EndsOff ms (reading_of found) m) c.deref_mut.result.now (c.args.count - 2) (ap (λ (l : List RingState). length l) c.deref_mut.ensures.value ∙ sized) off.1)))

pub returns-clause-opened : goal.returns-clause-opened
returns-clause-opened g c told durable x h =
    let media = c.in_ok-configured.ensures.parts told in
    let count = c.in_ok-configured.ensures.count in let low = c.requires.two in
    let on = c.in_ok-configured.field-0.rings.items in
    let sized : length on ≡ 2 + (c.args.count - 2) = omega (arith, count, low) in
    let long_term_is = c.index.ensures ∙ get_or_default on 1 _ no_ring (omega (arith, count, low)) in
    let table = c.in_ok-table.ensures in
    let found = contents_of (c.args.count - 2) c.in_ok-configured.field-0.configured.config c.in_ok-configured.field-0.configured.text.items media.0 c.in_ok-table.table in
    let same = c.open_media.ensures.unchanged in
    let version : c.args.count - 2 ≡ x.further = c.requires.version told ∙ sym h.further in
    let legal = subst (λ (n : ℕ). All (λ m. ReadsLegal m found.config found.text (ring_at on m) (g.M.Media.disk c.open_media.new.media)) (members_with n)) version (c.in_ok-configured.ensures.reads told durable) in
    let known = are_known _ _ same told _ (c.requires.version told) _ _ media.0 on media.1 _ long_term_is _ _ (omega (arith, count, low)) c.deref_mut.ensures.value c.read_incidents.ensures.unchanged in
    let parts = holds_parts _ _ same told _ (c.requires.version told) _ _ media.0 on media.1 _ long_term_is c.in_ok-table.table (table.table told) table.there in
    let lent = lent_read x on _ _ _ c.deref_mut.ensures.value c.read_incidents.ensures.unchanged (all_read x _ told found parts h on _ same legal) in
    let back = take_front _ c.missing_batch.new.rings _ (c.missing_batch.auto.rings ∙ c.deref_mut.ensures.len) in
    let long : length c.deref_mut.result.now ≡ 2 + x.further = ap (λ (l : List RingState). length l) c.deref_mut.ensures.value ∙ sized ∙ ap (λ (n : ℕ). 2 + n) version in
    is_opened x _ told found parts h _ _ same (unchanged_join _ _ _ c.read_incidents.ensures.unchanged c.missing_batch.ensures.kept.unchanged) _ refl refl (ap (λ (l : List RingState). length l) back ∙ c.missing_batch.auto.rings ∙ long)
    (subst (λ (l : List RingState). AreRead x l (g.M.Media.disk c.missing_batch.new.media)) (sym back) (are_read x _ _ _ _ c.missing_batch.ensures.kept lent))
    (from_rings (λ ms. EndsMeet ms (reading_of found) × IsMissing ms c.in_ok-batch.field-0.batch.items c.in_ok-batch.field-0.lacking (reading_of found)) c.deref_mut.result.now x.further long (c.in_ok-batch.ensures.missing told found known))

pub returns-clause-parts : goal.returns-clause-parts
returns-clause-parts g c told =
    let media = c.in_ok-configured.ensures.parts told in
    let count = c.in_ok-configured.ensures.count in let low = c.requires.two in
    let on = c.in_ok-configured.field-0.rings.items in
    let sized : length on ≡ 2 + (c.args.count - 2) = omega (arith, count, low) in
    let long_term_is = c.index.ensures ∙ get_or_default on 1 _ no_ring (omega (arith, count, low)) in
    let table = c.in_ok-table.ensures in
    let found = contents_of (c.args.count - 2) c.in_ok-configured.field-0.configured.config c.in_ok-configured.field-0.configured.text.items media.0 c.in_ok-table.table in
    let known = are_known _ _ c.open_media.ensures.unchanged told _ (c.requires.version told) _ _ media.0 on media.1 _ long_term_is _ _ (omega (arith, count, low)) c.deref_mut.ensures.value c.read_incidents.ensures.unchanged in
    let back = take_front _ c.missing_batch.new.rings _ (c.missing_batch.auto.rings ∙ c.deref_mut.ensures.len) in
    let long : length c.deref_mut.result.now ≡ 2 + (c.args.count - 2) = ap (λ (l : List RingState). length l) c.deref_mut.ensures.value ∙ sized in
    let after : length c.missing_batch.new.rings ≡ 2 + (c.args.count - 2) = c.missing_batch.auto.rings ∙ long in
    let held =
    to_rings (λ ms. All (λ m. HoldsNewest (ring_at c.deref_mut.result.now m)) ms) c.deref_mut.result.now (c.args.count - 2) long
    (subst (λ (l : List RingState). All (λ m. HoldsNewest (ring_at l m)) (members_with (c.args.count - 2))) (sym c.deref_mut.ensures.value) (c.in_ok-configured.ensures.held told)) in
    let unread = c.missing_batch.ensures.counts held in (
      found,
      is_opened_by _ _ c.open_media.ensures.unchanged told _ (c.requires.version told) _ _ media.0 on media.1 _ long_term_is c.in_ok-table.table (table.table told) table.there _ (unchanged_join _ _ _ c.read_incidents.ensures.unchanged c.missing_batch.ensures.kept.unchanged) _ refl refl (ap (λ (l : List RingState). length l) back ∙ after)
          (subst (λ (l : List RingState). All (λ m. rings.Knows (ring_at l m) (media.0 m) (g.M.Media.disk c.missing_batch.new.media)) (members_with (c.args.count - 2))) (sym back)
          (from_rings (λ ms. All (λ m. rings.Knows (ring_at c.missing_batch.new.rings m) (media.0 m) (g.M.Media.disk c.missing_batch.new.media)) ms) c.missing_batch.new.rings (c.args.count - 2) after (known_still _ _ media.0 _ _ c.missing_batch.ensures.kept known)))
          (from_rings (λ ms. EndsMeet ms (reading_of found) × IsMissing ms c.in_ok-batch.field-0.batch.items c.in_ok-batch.field-0.lacking (reading_of found)) c.deref_mut.result.now (c.args.count - 2) long (c.in_ok-batch.ensures.missing told found known)),
      subst (λ (n : List ℕ). ReadsParts (c.args.count - 2) 24600 found.config.segment media.0 (g.M.Media.disk c.args.media.now).sizes (g.M.Media.bytes_read c.args.media.now) n) (sym unread)
          (parts_more 16408 _ media.0 _ _ _ _ 1 8192 24600 (c.args.count - 2) (omega arith) (omega arith) media.2 c.read_incidents.ensures.counts),
    )

pub returns-clause-judged : goal.returns-clause-judged
returns-clause-judged g c =
    let on = c.in_ok-configured.field-0.rings.items in
    let back = take_front _ c.missing_batch.new.rings _ (c.missing_batch.auto.rings ∙ c.deref_mut.ensures.len) in
    subst (λ (l : List RingState). AreJudgedOn l (g.M.Media.disk c.missing_batch.new.media)) (sym back)
    (judged_on _ _ _ _ c.missing_batch.ensures.kept (judged_lent on _ _ _ c.deref_mut.ensures.value c.read_incidents.ensures.unchanged c.in_ok-configured.ensures.judged))

pub returns-clause-shape : goal.returns-clause-shape
returns-clause-shape g c =
    let are = c.in_ok-configured.ensures.rings in
    let before = subst (AreRingsOf c.in_ok-configured.field-0.configured.config (g.M.Media.disk c.args.media.now).sizes) (sym c.deref_mut.ensures.value) are in
    let lead = before.each 0 0 (omega arith) in
    let back = take_front _ c.missing_batch.new.rings _ (c.missing_batch.auto.rings ∙ c.deref_mut.ensures.len) in
    record {
      rings = subst (AreRingsOf c.in_ok-configured.field-0.configured.config (g.M.Media.disk c.args.media.now).sizes) (sym back) (c.missing_batch.ensures.kept.of_media _ _ before);
      slots = c.in_ok-table.ensures.size;
      fits = λ some. subst (λ (n : ℕ). 64 + batch_size c.in_ok-batch.field-0.batch.items + 1 ≤ n) lead.segment (c.in_ok-batch.ensures.fits some);
      behind = λ some.
          let behind = c.in_ok-batch.ensures.behind some in
          (behind.0, subst (λ (n : ℕ). c.in_ok-batch.field-0.lacking < n) (sym (ap (λ (l : List RingState). length l) back ∙ c.missing_batch.auto.rings)) behind.1);
    }
