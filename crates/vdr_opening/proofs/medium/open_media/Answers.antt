use Rattle.std.proofs.Common.{◌<◌, ◌-◌, ◌+◌, ℕ, List, ◌∙◌, ap, subst, arith}
use Rattle.std.proofs.lemmas.List.{length_push}
use Rattle.std.proofs.lemmas.Result.{err_from_is_err_and}
use Rattle.vdr_outside.proofs.Counts.{none_falls_join}
use Rattle.vdr_outside.specs.Disk.{Durable}
use Rattle.vdr_terms.proofs.Results.{same_err}
use Rattle.vdr_directory.specs.Sequence.{Placed}
use Rattle.vdr_opening.specs.Answers.{further_on, ring_at}
use Rattle.vdr_ring.specs.Openings.{IsRingOf}
use Rattle.vdr_opening.specs.Media.{IsMediumBy}
use Rattle.vdr_opening.specs.Parts.{ReadsLegal, text_of}
use Rattle.vdr_ring.specs.Rings.{HoldsNewest}
use Rattle.vdr_ring.specs.Visits.{HasJudged}
use Rattle.vdr_opening.proofs.Costs.{IsReadBy, own_bytes, own_still, unread_still}
use Rattle.vdr_opening.specs.Refusals.{RefusesMedium}
use Rattle.vdr_opening.proofs.Rings.{all_known, each_read, judged_still, legal_at, legal_still, medium_still, refused_at, carry, each_more, same_content, same_text, durable_still}
use Rattle.vdr_opening.proofs.medium.open_media.Goals as goal
use Rattle.vdr_outside.proofs.Moments.{unchanged_join}
use Rattle.vdr_media.proofs.Members.{of_all, of_each}
use Rattle.vdr_opening.specs.Media.{further_in}

pub returns-in_err-configured-clause-damaged : goal.returns-in_err-configured-clause-damaged
returns-in_err-configured-clause-damaged g c =
    let p = err_from_is_err_and c.from_residual.result c.from_residual.ensures.1 in
    let inv = c.loop-m.invariant in
    rw (p.1, p.2) (λ m offset e told durable.
    let h = c.in_err-configured.ensures.damaged m offset (same_err _ _ e) in
    inv.behind told m offset (refused_at (text_of c.loop-m.before) _ m offset (further_in (g.M.Media.disk c.args.media.now).reads) c.loop-m.m (let version = c.requires.version told in let low = c.requires.two in let high = c.loop-m-test.true in omega (arith, version, low, high)) h.0
    (subst (λ (l : List ℕ). RefusesMedium c.loop-m.m (text_of c.loop-m.before) l offset) (same_content c.loop-m.m _ _ inv.unchanged told) (h.1 told))))

pub loop-m-preserved : goal.loop-m-preserved
loop-m-preserved g c =
    let inv = c.loop-m.invariant in
    let high = c.loop-m-test.true in
    let low = c.requires.two in
    let call = c.in_ok-configured.ensures in
    let found = c.in_ok-configured.field-0.configured in
    let start = g.M.Media.disk c.args.media.now in
    let one = g.M.Media.disk c.open_medium.new.media in
    let member : g.M.Media.tells → c.loop-m.m < 2 + further_in start.reads = λ told. let version = c.requires.version told in omega (arith, version, low, high) in
    let unchanged = unchanged_join _ _ _ inv.unchanged c.open_medium.ensures.unchanged in
    let read0 = g.M.Media.bytes_read c.args.media.now in
    let read1 = g.M.Media.bytes_read c.loop-m.media in
    let read2 = g.M.Media.bytes_read c.open_medium.new.media in
    let ring_is = subst (λ (sizes : List ℕ). IsRingOf found.config sizes c.loop-m.m c.in_ok-configured.field-0.ring) inv.unchanged.sizes call.ring in
    rw c.in-Ok.ensures.items (record {
      high = omega (arith, high);
      count = length_push _ _ ∙ ap (λ (n : ℕ). n + 1) inv.count;
      first = tt;
      configured = call.configured;
      rings = each_more (λ k ring. IsRingOf found.config start.sizes k ring) c.loop-m.rings.items _ c.loop-m.m inv.count
          (carry (λ first k. IsRingOf first.config start.sizes k (ring_at c.loop-m.rings.items k)) c.loop-m.before found c.loop-m.m inv.first call.same inv.rings)
          ring_is;
      reads = λ told durable. each_more (λ k ring. ReadsLegal k found.config found.text.items ring one) c.loop-m.rings.items _ c.loop-m.m inv.count
          (λ k lt. legal_still k _ _ _ _ _ c.open_medium.ensures.unchanged told
          (carry (λ first k. ReadsLegal k first.config first.text.items (ring_at c.loop-m.rings.items k) (g.M.Media.disk c.loop-m.media)) c.loop-m.before found c.loop-m.m inv.first call.same (inv.reads told durable) k lt))
          (call.reads told (durable_still c.loop-m.m _ _ inv.unchanged (of_each (λ k. Durable k start) (further_in start.reads) durable c.loop-m.m (member told))));
      parts = λ told.
          let new = call.parts told in
          each_more (λ k ring. (known : List Placed) × IsReadBy k found.config found.text.items known ring one start.sizes read0 read2) c.loop-m.rings.items _ c.loop-m.m inv.count
          (λ k lt. let was = carry (λ first k. (known : List Placed) × IsReadBy k first.config first.text.items known (ring_at c.loop-m.rings.items k) (g.M.Media.disk c.loop-m.media) start.sizes read0 read1) c.loop-m.before found c.loop-m.m inv.first call.same (inv.parts told) k lt in
          (was.0, record { knows = medium_still k _ _ _ _ _ c.open_medium.ensures.unchanged told was.0 was.1.knows; own = own_still k c.loop-m.m _ _ found.config was.0 start.sizes read0 read1 read2 lt new.2 was.1.own }))
          (new.0, record { knows = new.1; own = own_bytes c.loop-m.m found.config start.sizes c.in_ok-configured.field-0.ring new.0 read0 read1 read2 ring_is (inv.unread told c.loop-m.m (omega arith)) new.2 });
      unread = λ told k above. unread_still c.loop-m.m _ k read0 read1 read2 above (call.parts told).2 (inv.unread told k (omega (arith, above)));
      held = λ told. each_more (λ k ring. HoldsNewest ring) c.loop-m.rings.items _ c.loop-m.m inv.count (inv.held told) (call.held told);
      judged = each_more (λ k ring. HasJudged ring one) c.loop-m.rings.items _ c.loop-m.m inv.count (λ k lt. judged_still (ring_at c.loop-m.rings.items k) _ _ c.open_medium.ensures.unchanged (inv.judged k lt)) call.judged;
      behind = λ told m offset refuses.
          let read = call.parts told in
          inv.behind told m offset (legal_at (text_of c.loop-m.before) start.reads m offset (further_in start.reads) c.loop-m.m found.text.items (member told)
          (record { config = found.config; known = read.0; legal = subst (IsMediumBy c.loop-m.m found.config found.text.items read.0) (same_content c.loop-m.m _ _ unchanged told) read.1.legal; same = same_text c.loop-m.before found call.same }) refuses);
      unchanged = unchanged;
      later = none_falls_join _ _ _ inv.later c.open_medium.ensures.cause.later;
    })

pub returns-clause-reads : goal.returns-clause-reads
returns-clause-reads g c told durable =
    let low = c.requires.two in
    let all = c.loop-m-test.false in
    each_read (λ first k. ReadsLegal k first.config first.text.items (ring_at c.loop-m.rings.items k) (g.M.Media.disk c.loop-m.media)) c.loop-m.before c.in-Some.configured c.loop-m.m (c.args.count - 2) c.in-Some.is (omega (arith, low, all)) (c.loop-m.invariant.reads told durable)

pub returns-clause-parts : goal.returns-clause-parts
returns-clause-parts g c told =
    let low = c.requires.two in
    let all = c.loop-m-test.false in
    let found = all_known (λ first k known. IsReadBy k first.config first.text.items known (ring_at c.loop-m.rings.items k) (g.M.Media.disk c.loop-m.media) (g.M.Media.disk c.args.media.now).sizes (g.M.Media.bytes_read c.args.media.now) (g.M.Media.bytes_read c.loop-m.media)) c.loop-m.before c.in-Some.configured c.loop-m.m (c.args.count - 2) c.in-Some.is (omega (arith, low, all)) (c.loop-m.invariant.parts told) in
    let high = c.loop-m.invariant.high in (
      found.0,
      λ i d lt. (found.1 i d lt).knows,
      record { each = λ i d lt. (found.1 i d lt).own; others = λ k above. c.loop-m.invariant.unread told k (omega (arith, above, high, low)) },
    )

pub returns-clause-held : goal.returns-clause-held
returns-clause-held g c told =
    let low = c.requires.two in
    let all = c.loop-m-test.false in
    of_all (λ m. HoldsNewest (ring_at c.loop-m.rings.items m)) (c.args.count - 2) (λ k lt. c.loop-m.invariant.held told k (omega (arith, lt, all, low)))

pub returns-clause-judged : goal.returns-clause-judged
returns-clause-judged g c =
    let low = c.requires.two in
    let all = c.loop-m-test.false in
    let count = c.loop-m.invariant.count in
    let high = c.loop-m.invariant.high in
    of_all (λ m. HasJudged (ring_at c.loop-m.rings.items m) (g.M.Media.disk c.loop-m.media)) (further_on c.loop-m.rings.items) (λ k lt. c.loop-m.invariant.judged k (omega (arith, lt, all, low, count, high)))
