use Rattle.vdr_outside.proofs.Moments.{changes_weaken}
use Rattle.vdr_ring.proofs.Keeping.{Keeps, kept_at_each, has_kept, orders_of}
use Rattle.vdr_ring.proofs.ring.Ring.append.Goals as goal

pub returns-clause-kept : goal.returns-clause-kept
returns-clause-kept g c sizes placed first all told reads goes_on start allowed retains =
    let law = c.law_of_stages.ensures in
    let made = c.append_staged.ensures.appended placed first told reads goes_on in
    let orders = orders_of sizes _ _ _ _ _ placed first _ made.0 _ (reads.settled.reads told) reads.order goes_on c.append_staged.ensures.legal c.requires.fits allowed made.1 start in
    let keeps : Keeps c.args.self.now.seconds c.args.pins.now placed all c.args.records.now made.0 = record {
      batches = law.batches _ _ _ _ placed first _ made.0 made.1;
      before = retains;
      closed = law.closed sizes _ _ _ _ _ placed first all _ made.0 allowed made.1 retains;
      begun = law.begun sizes _ _ _ _ _ placed first all _ made.0 allowed made.1 retains;
      done = law.done sizes _ _ _ _ _ placed first all _ made.0 allowed made.1 retains;
      left = law.left sizes _ _ _ _ _ placed first all _ made.0 allowed made.1 retains;
    } in (
      changes_weaken _ _ _ _ _ made.2 (λ b h. kept_at_each _ _ _ _ placed all _ made.0 keeps reads.order orders b h),
      has_kept sizes _ _ _ _ made.0 c.args.self.now c.append_staged.new.self c.append_staged.ensures.ring.same.seconds keeps (law.regular sizes _ _ _ _ _ placed first _ made.0 allowed made.1).3 _ _ made.3,
    )
