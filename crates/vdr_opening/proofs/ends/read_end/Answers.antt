use Rattle.std.proofs.Common.{◌≡◌, sym, ap, ◌∙◌, subst, arith}
use Rattle.std.proofs.lemmas.List.{get_or_default}
use Rattle.vdr_ring.specs.Rings.{HasMedium, HoldsNewest, Knows, RingState}
use Rattle.vdr_ring.specs.Openings.{IsRingOf}
use Rattle.vdr_opening.specs.Answers.{further_on, no_ring, ring_at}
use Rattle.vdr_opening.proofs.Rings.{part_by, keeps_one}
use Rattle.vdr_opening.proofs.ends.read_end.Goals as goal
use Rattle.vdr_media.proofs.Members.{of_each}

pub returns-clause-undamaged : goal.returns-clause-undamaged
returns-clause-undamaged g c k offset e told known knows =
    let there = c.requires.there in
    c.read_last_batch.ensures.batch.undamaged_known told known (subst (λ (r : RingState). Knows r known (g.M.Media.disk c.args.media.now)) (get_or_default c.args.rings.now c.args.m no_ring _ (omega (arith, there))) knows) k offset e

pub returns-clause-kept : goal.returns-clause-kept
returns-clause-kept g c =
    let there = c.requires.there in
    keeps_one c.args.rings.now c.args.m _ c.read_last_batch.new.self _ _ (omega (arith, there)) (get_or_default c.args.rings.now c.args.m _ no_ring (omega (arith, there))) c.read_last_batch.ensures.keeps.ring c.read_last_batch.ensures.keeps.reads c.read_last_batch.ensures.keeps.knows c.read_last_batch.ensures.keeps.judged c.read_last_batch.ensures.keeps.unchanged

pub returns-clause-cause : goal.returns-clause-cause
returns-clause-cause g c =
    let there = c.requires.there in
    let is = get_or_default c.args.rings.now c.args.m _ no_ring (omega (arith, there)) in
    part_by (further_on c.args.rings.now) c.args.m _ _ _ _ (ap (λ (r : RingState). r.medium) is ∙ of_each (λ m. (ring_at c.args.rings.now m).medium ≡ m) (further_on c.args.rings.now) (λ i d lt. (c.requires.rings.1.each i d lt).medium) c.args.m (omega (arith, there))) (omega (arith, there)) c.read_last_batch.ensures.cause

pub returns-clause-counts : goal.returns-clause-counts
returns-clause-counts g c held =
    let there = c.requires.there in
    c.read_last_batch.ensures.held (subst (λ (r : RingState). HoldsNewest r) (get_or_default c.args.rings.now c.args.m no_ring _ (omega (arith, there))) held)

pub read_last_batch-requires : goal.read_last_batch-requires
read_last_batch-requires g c =
    let there = c.requires.there in
    let sizes = (g.M.Media.disk c.args.media.now).sizes in
    let its = of_each (λ m. IsRingOf c.requires.rings.0 sizes m (ring_at c.args.rings.now m)) (further_on c.args.rings.now) c.requires.rings.1.each c.args.m (omega (arith, there)) in
    record { room = subst (λ (r : RingState). HasMedium r sizes) (sym (get_or_default c.args.rings.now c.args.m _ no_ring (omega (arith, there)))) its.room }
