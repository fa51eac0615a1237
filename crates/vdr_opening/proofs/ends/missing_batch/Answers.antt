use Rattle.std.proofs.Common.{◌≡◌, ◌≤◌, ◌<◌, ◌+◌, ℕ, zero, suc, List, length, All, refl, sym, ◌∙◌, ap, subst, arith}
use Rattle.std.proofs.lemmas.Result.{err_from_is_err_and}
use Rattle.vdr_outside.proofs.Counts.{none_falls_join}
use Rattle.vdr_terms.specs.Records.{last}
use Rattle.vdr_terms.proofs.Results.{same_err}
use Rattle.vdr_durability.specs.Readings.{EndsOff}
use Rattle.vdr_directory.specs.Sequence.{batches_in}
use Rattle.vdr_ring.specs.Lasts.{batch_or_none}
use Rattle.vdr_ring.specs.Rings.{HoldsNewest}
use Rattle.vdr_opening.specs.Media.{reading_of}
use Rattle.vdr_opening.specs.Answers.{AreRingsOf, further_on, members_on, ring_at}
use Rattle.vdr_opening.proofs.Fronts.{named}
use Rattle.vdr_opening.proofs.Meeting.{all_level, ended, ends_as, here_off, known_at, not_same, some_lack, waited}
use Rattle.vdr_opening.proofs.Rings.{keeps_join, known_still, part_moved, part_passed}
use Rattle.vdr_opening.proofs.Costs.{next_held}
use Rattle.vdr_opening.proofs.ends.missing_batch.Goals as goal
use Rattle.vdr_opening.proofs.ends.missing_batch.Goals.{then-lacking-m+then-same_records, else-lacking-m+else-not-follows, else-lacking-m-via-then-lacking-m+else-same_records, else-lacking-m-via-else-lacking-m}

first_alone : (P : ℕ → Type 0) (n : ℕ) → P 0 → (k : ℕ) → k < 1 → P k
first_alone P n first zero lt = first
first_alone P n first (suc k) lt = absurd (omega (arith, lt))

pub loop-m-init : goal.loop-m-init
loop-m-init g c = record {
  some = omega arith;
  within = omega arith;
  kept = c.read_end.ensures.kept;
  ends = λ told placed read. record { same = first_alone (λ k. batch_or_none c.in_ok-batch.batch.items ≡ last (batches_in (placed k))) 0 (c.in_ok-batch.ensures.batch told (placed 0) (read 0 0 (omega arith))); before = λ k above below. absurd (omega (arith, above, below)); differs = λ less. absurd (omega (arith, less)) };
  waiting = λ k above. c.read_end.ensures.others k (λ is. omega (arith, is, above));
  unread = λ held. c.read_end.ensures.counts (held 0 0 (omega arith));
  later = c.read_end.ensures.cause.later;
}

pub returns-in_err-batch-clause-damaged : goal.returns-in_err-batch-clause-damaged
returns-in_err-batch-clause-damaged g c =
    let p = err_from_is_err_and c.from_residual.result c.from_residual.ensures.1 in
    rw (p.1, p.2) (λ m offset e told x read.
    absurd (c.in_err-batch.ensures.undamaged m offset (same_err _ _ e) told (x.placed 0) (read 0 0 (omega arith))))

pub returns-in_err-batch-clause-counts : goal.returns-in_err-batch-clause-counts
returns-in_err-batch-clause-counts g c held = c.read_end.ensures.counts (held 0 0 (omega arith))

pub read_end-requires-in-loop-m-clause-rings : goal.read_end-requires-in-loop-m-clause-rings
read_end-requires-in-loop-m-clause-rings g c =
    let kept = c.loop-m.invariant.kept in
    (c.requires.rings.0, kept.of_media c.requires.rings.0 _ (subst (λ (sizes : List ℕ). AreRingsOf c.requires.rings.0 sizes c.args.rings.now) (sym kept.unchanged.sizes) c.requires.rings.1))

pub returns-in_err-other-clause-damaged : goal.returns-in_err-other-clause-damaged
returns-in_err-other-clause-damaged g c =
    let p = err_from_is_err_and c.from_residual-in_err-other.result c.from_residual-in_err-other.ensures.1 in
    rw (p.1, p.2) (λ m offset e told x read.
    absurd (c.in_err-other.ensures.undamaged m offset (same_err _ _ e) told (x.placed c.loop-m.m) (known_at _ x.placed _ (known_still _ _ x.placed _ _ c.loop-m.invariant.kept read) c.loop-m.m (let high = c.loop-m-test.true in let size = c.loop-m.invariant.kept.size in omega (arith, high, size)))))

pub returns-in_err-other-clause-kept : goal.returns-in_err-other-clause-kept
returns-in_err-other-clause-kept g c = keeps_join _ _ _ _ _ _ c.loop-m.invariant.kept c.read_end-in-loop-m.ensures.kept

pub returns-then-not-follows-clause-damaged : goal.returns-then-not-follows-clause-damaged
returns-then-not-follows-clause-damaged g c m offset e told x read =
    let inv = c.loop-m.invariant in
    let high = c.loop-m-test.true in
    let at = named _ _ _ _ _ refl e in
    let now = known_at _ x.placed _ (known_still _ _ x.placed _ _ inv.kept read) c.loop-m.m (omega (arith, high, inv.kept.size)) in
    let waits = c.in_ok-other.ensures.batch told (x.placed c.loop-m.m) now in
    let kept = keeps_join _ _ _ _ _ _ inv.kept c.read_end-in-loop-m.ensures.kept in
    let there : c.loop-m.m < length c.read_end-in-loop-m.new.rings = omega (arith, high, kept.size) in
    let elsewhere = ends_as _ x.placed _ (known_still _ _ x.placed _ _ kept read) c.loop-m.m there _ _ _ _ there c.deref-else-lacking-m.ensures.value c.follows.ensures ∙ c.if-not-follows.true in
    let differ : c.loop-m.lacking ≡ c.loop-m.m → c.in_ok-batch.batch.items ≡ c.in_ok-other.other.items → ⊥ = λ same. elim c.else-lacking-m.branch [
      | else-lacking-m-via-then-lacking-m+else-same_records w ↦ not_same _ _ _ _ _ w.same_records.ensures w.if-same_records.false w.deref.ensures.value w.deref-then-lacking-m.ensures.value
      | else-lacking-m-via-else-lacking-m w ↦ absurd (w.if-lacking-m.false same)
    ] in (
      at.1,
      subst (EndsOff (members_on c.args.rings.now) (reading_of x)) (sym at.0)
          (here_off _ x (further_on c.args.rings.now) c.loop-m.lacking c.loop-m.m (inv.ends told x.placed read) _ inv.some inv.within (omega (arith, high)) waits differ elsewhere),
    )

pub returns-then-not-follows-clause-kept : goal.returns-then-not-follows-clause-kept
returns-then-not-follows-clause-kept g c = keeps_join _ _ _ _ _ _ c.loop-m.invariant.kept c.read_end-in-loop-m.ensures.kept

pub loop-m-preserved : goal.loop-m-preserved
loop-m-preserved g c =
    let inv = c.loop-m.invariant in
    let high = c.loop-m-test.true in
    let kept = keeps_join _ _ _ _ _ _ inv.kept c.read_end-in-loop-m.ensures.kept in
    let later = none_falls_join _ _ _ inv.later c.read_end-in-loop-m.ensures.cause.later in
    let there : c.loop-m.m < length c.read_end-in-loop-m.new.rings = omega (arith, high, kept.size) in
    let waiting : (k : ℕ) → c.loop-m.m + 1 ≤ k → ring_at c.read_end-in-loop-m.new.rings k ≡ ring_at c.args.rings.now k = λ k above. c.read_end-in-loop-m.ensures.others k (λ is. omega (arith, is, above)) ∙ inv.waiting k (omega (arith, above)) in
    let unread : All (λ k. HoldsNewest (ring_at c.args.rings.now k)) (members_on c.args.rings.now) → g.M.Media.bytes_read c.read_end-in-loop-m.new.media ≡ g.M.Media.bytes_read c.args.media.now = λ held. c.read_end-in-loop-m.ensures.counts (next_held _ _ c.loop-m.m (omega (arith, high)) (inv.waiting c.loop-m.m (omega arith)) held) ∙ inv.unread held in
    elim c.if-lacking-m.branch [
      | then-lacking-m+then-same_records w ↦
          let is : c.if-lacking-m.lacking ≡ c.loop-m.lacking + 1 = w.lacking-is in
          let here : c.loop-m.lacking ≡ c.loop-m.m = w.if-lacking-m.true in
          let same = sym w.deref.ensures.value ∙ w.same_records.ensures.0 w.if-same_records.true ∙ w.deref-then-lacking-m.ensures.value in
          record {
            some = omega (arith, is);
            within = omega (arith, is, inv.within);
            kept = kept;
            ends = λ told placed read.
                let now = c.in_ok-other.ensures.batch told (placed c.loop-m.m) (known_at _ placed _ (known_still _ _ placed _ _ inv.kept read) c.loop-m.m (omega (arith, high, inv.kept.size))) in
                ended _ _ _ _ placed is here (inv.ends told placed read) (ap batch_or_none same ∙ now);
            waiting = waiting;
            unread = unread;
            later = later;
          }
      | else-lacking-m+else-not-follows w ↦ record {
        some = omega (arith, w.lacking-is, inv.some);
        within = omega (arith, w.lacking-is, inv.within);
        kept = kept;
        ends = λ told placed read.
            let lacks = ends_as _ placed _ (known_still _ _ placed _ _ kept read) c.loop-m.m there _ _ _ _ there w.deref-else-lacking-m.ensures.value w.follows.ensures ∙ w.if-not-follows.false in
            let waits = c.in_ok-other.ensures.batch told (placed c.loop-m.m) (known_at _ placed _ (known_still _ _ placed _ _ inv.kept read) c.loop-m.m (omega (arith, high, inv.kept.size))) in
            let differ : c.loop-m.lacking ≡ c.loop-m.m → c.in_ok-batch.batch.items ≡ c.in_ok-other.other.items → ⊥ = λ same. elim w.else-lacking-m.branch [
              | else-lacking-m-via-then-lacking-m+else-same_records v ↦ not_same _ _ _ _ _ v.same_records.ensures v.if-same_records.false v.deref.ensures.value v.deref-then-lacking-m.ensures.value
              | else-lacking-m-via-else-lacking-m v ↦ absurd (v.if-lacking-m.false same)
            ] in
            waited _ _ _ _ _ placed w.lacking-is inv.within (inv.ends told placed read) lacks waits differ;
        waiting = waiting;
        unread = unread;
        later = later;
      }
    ]

pub returns-then-lacking-count-clause-missing :
    goal.returns-then-lacking-count-clause-missing
returns-then-lacking-count-clause-missing g c told x read =
    let two = c.requires.rings.1.two in
    let all = c.if-lacking-count.true in
    all_level _ x (further_on c.args.rings.now) _ _ (c.loop-m.invariant.ends told x.placed read) _ (omega (arith, all, two)) c.new.ensures.items

pub returns-clause-missing : goal.returns-clause-missing
returns-clause-missing g c told x read =
    let inv = c.loop-m.invariant in
    let end = c.loop-m.auto.m-end in
    let two = c.requires.rings.1.two in
    let all = c.loop-m-test.false in
    let few : c.loop-m.lacking < length c.args.rings.now = grind (arith, inv.some, inv.within, end, two, c.if-lacking-count.false) in
    some_lack _ x (further_on c.args.rings.now) _ _ (inv.ends told x.placed read) inv.some (omega (arith, few)) (omega (arith, all, two))

pub returns-in_err-other-clause-counts : goal.returns-in_err-other-clause-counts
returns-in_err-other-clause-counts g c held =
    let inv = c.loop-m.invariant in
    c.read_end-in-loop-m.ensures.counts (next_held _ _ c.loop-m.m (let high = c.loop-m-test.true in omega (arith, high)) (inv.waiting c.loop-m.m (omega arith)) held) ∙ inv.unread held

pub returns-then-not-follows-clause-counts : goal.returns-then-not-follows-clause-counts
returns-then-not-follows-clause-counts g c held =
    let inv = c.loop-m.invariant in
    c.read_end-in-loop-m.ensures.counts (next_held _ _ c.loop-m.m (let high = c.loop-m-test.true in omega (arith, high)) (inv.waiting c.loop-m.m (omega arith)) held) ∙ inv.unread held

pub returns-in_err-other-clause-cause : goal.returns-in_err-other-clause-cause
returns-in_err-other-clause-cause g c =
    let p = err_from_is_err_and c.from_residual-in_err-other.result c.from_residual-in_err-other.ensures.1 in
    let inv = c.loop-m.invariant in
    rw (p.1, p.2) (part_passed _ _ _ _ inv.later (part_moved (length c.loop-m.rings) (length c.args.rings.now) _ _ _ inv.kept.size c.in_err-other.ensures.cause))

pub returns-then-not-follows-clause-cause : goal.returns-then-not-follows-clause-cause
returns-then-not-follows-clause-cause g c = record {
  later = none_falls_join _ _ _ c.loop-m.invariant.later c.read_end-in-loop-m.ensures.cause.later;
  rose = λ fault. let none : ⊥ = cc in absurd none;
}
