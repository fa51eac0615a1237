use Rattle.std.proofs.Common.{ℕ, List, refl, sym, ap, subst, ◌∙◌, arith}
use Rattle.std.proofs.lemmas.Result.{err_from_is_err_and}
use Rattle.vdr_terms.proofs.Results.{same_err}
use Rattle.vdr_vault.specs.Vaults.{VaultState, ring_of}
use Rattle.vdr_vault.proofs.Members.{ring_there}
use Rattle.vdr_vault.proofs.OpenMoments.{cause_as, durable_as, fault_unless_ok, no_fault, goes_on, never_both, only_later, opened_to_read, opening_meanwhile, read_on, readable_as, reading_meanwhile, same_beside}
use Rattle.vdr_vault.proofs.OpenCosts.{reads_as}
use Rattle.vdr_opening.specs.Answers.{AreJudgedOn, OpenedState}
use Rattle.vdr_opening.specs.Costs.{ReadsToOpen}
use Rattle.vdr_vault.proofs.OpenContents.{level_lacks_none, newest_opened, newest_read, place_opened, place_read, tells_of_parts}
use Rattle.vdr_outside.proofs.Counts.{none_falls_join}
use Rattle.vdr_vault.proofs.vault.Vault.open_synced.Goals as goal

pub returns-in_err-config-clause-meanwhile : goal.returns-in_err-config-clause-meanwhile
returns-in_err-config-clause-meanwhile g c x told durable holds = reading_meanwhile x (g.M.Media.disk c.args.media.now) (g.M.Media.disk c.read_media.new.media) c.read_media.ensures.unchanged (durable_as x (g.M.Media.disk c.args.media.now) holds durable) holds

pub returns-in_err-config-clause-damaged : goal.returns-in_err-config-clause-damaged
returns-in_err-config-clause-damaged g c =
    let p = err_from_is_err_and c.from_residual.result c.from_residual.ensures.1 in
    rw (p.1, p.2) (λ m offset e. c.in_err-config.ensures.refused.damaged m offset (same_err _ _ e))

pub returns-in_default-clause-meanwhile : goal.returns-in_default-clause-meanwhile
returns-in_default-clause-meanwhile g c x told durable holds =
    let was = rw (sym c.config.view_is) at c.in_ok-config.ensures.opened told durable x holds in
    let o = read_on _ c.deref.result.now x (g.M.Media.disk c.read_media.new.media) c.deref.ensures.value was in
    let shape = rw (sym c.config.view_is) at c.in_ok-config.ensures.shape in
    let ends = rw (c.index.ensures ∙ ring_there shape.rings 0 (let two = shape.rings.two in omega (arith, two)) _) at c.ending-next_place.ensures in
    let behind = rw (sym c.deref.ensures.value) at shape.behind in
    opening_meanwhile (λ m. g.M.Media.disk m) x (g.M.Media.disk c.args.media.now) c.read_media.new.media c.reconcile.new.media c.read_media.ensures.unchanged
    (λ level. (c.reconcile.ensures.level (level_lacks_none _ (g.M.Media.disk c.read_media.new.media) behind x o level)).1) (c.reconcile.ensures.within x told o)
    (λ sound. (c.reconcile.ensures.reconciled x told o sound (goes_on x _ _ _ (g.M.Media.disk c.read_media.new.media) told o ends.next_place ends.last)).moments)

pub returns-in_default-clause-blank : goal.returns-in_default-clause-blank
returns-in_default-clause-blank g c told un = absurd (never_both _ (c.in_ok-config.ensures.formatted told) un)

pub returns-in_default-clause-others : goal.returns-in_default-clause-others
returns-in_default-clause-others g c told = same_beside _ _ _ (c.read_media.ensures.unchanged.reads told) (only_later _ _ _ (rw (sym c.config.view_is) at c.in_ok-config.ensures.rings) (c.reconcile.ensures.others told))

pub returns-in_default-clause-cause : goal.returns-in_default-clause-cause
returns-in_default-clause-cause g c = fault_unless_ok _ _ _ _ c.reconcile.result _ c.in_default.not-Ok c.read_media.ensures.cause.later (cause_as 0 _ _ _ c.reconcile.result (rw (sym c.config.view_is) at c.in_ok-config.ensures.rings) c.reconcile.ensures.cause)

pub returns-clause-blank : goal.returns-clause-blank
returns-clause-blank g c told un = absurd (never_both _ (c.in_ok-config.ensures.formatted told) un)

pub returns-clause-cause : goal.returns-clause-cause
returns-clause-cause g c = no_fault _ _ _ _ (none_falls_join _ _ _ c.read_media.ensures.cause.later c.reconcile.ensures.cause.later)

pub returns-clause-meanwhile : goal.returns-clause-meanwhile
returns-clause-meanwhile g c x told durable holds =
    let was = rw (sym c.config.view_is) at c.in_ok-config.ensures.opened told durable x holds in
    let o = read_on _ c.deref.result.now x (g.M.Media.disk c.read_media.new.media) c.deref.ensures.value was in
    let shape = rw (sym c.config.view_is) at c.in_ok-config.ensures.shape in
    let ends = rw (c.index.ensures ∙ ring_there shape.rings 0 (let two = shape.rings.two in omega (arith, two)) _) at c.ending-next_place.ensures in
    let behind = rw (sym c.deref.ensures.value) at shape.behind in
    opening_meanwhile (λ m. g.M.Media.disk m) x (g.M.Media.disk c.args.media.now) c.read_media.new.media c.reconcile.new.media c.read_media.ensures.unchanged
    (λ level. (c.reconcile.ensures.level (level_lacks_none _ (g.M.Media.disk c.read_media.new.media) behind x o level)).1) (c.reconcile.ensures.within x told o)
    (λ sound. (c.reconcile.ensures.reconciled x told o sound (goes_on x _ _ _ (g.M.Media.disk c.read_media.new.media) told o ends.next_place ends.last)).moments)

pub returns-clause-opened : goal.returns-clause-opened
returns-clause-opened g c x told durable holds sound =
    let was = rw (sym c.config.view_is) at c.in_ok-config.ensures.opened told durable x holds in
    let o = read_on _ c.deref.result.now x (g.M.Media.disk c.read_media.new.media) c.deref.ensures.value was in
    let shape = rw (sym c.config.view_is) at c.in_ok-config.ensures.shape in
    let ends = rw (c.index.ensures ∙ ring_there shape.rings 0 (let two = shape.rings.two in omega (arith, two)) _) at c.ending-next_place.ensures in
    (c.in-Ok.ensures.reconciled x told o sound (goes_on x _ _ _ (g.M.Media.disk c.read_media.new.media) told o ends.next_place ends.last)).done

pub returns-clause-parts : goal.returns-clause-parts
returns-clause-parts g c told =
    let was = rw (sym c.config.view_is) at c.in_ok-config.ensures.parts told in
    let shape = rw (sym c.config.view_is) at c.in_ok-config.ensures.shape in
    let ends = rw (c.index.ensures ∙ ring_there shape.rings 0 (let two = shape.rings.two in omega (arith, two)) _) at c.ending-next_place.ensures in
    let first = was.1.rings 0 0 (omega arith) in
    let h = rw (c.read_media.ensures.unchanged.reads told) at was.1.holds in (
      c.in_ok-config.ensures.formatted told,
      was.0,
      h,
      was.1.meet,
      record {
        config = c.reconcile.ensures.config ∙ was.1.config;
        table = c.reconcile.ensures.table ∙ was.1.table;
        place = c.reconcile.ensures.place ∙ ends.next_known (was.0.placed 0) _ first.directory (first.are told) ∙ place_read was.0 (g.M.Media.disk c.args.media.now).reads h;
        last = c.reconcile.ensures.last ∙ ends.known (was.0.placed 0) first.directory ∙ newest_read was.0 (g.M.Media.disk c.args.media.now).reads h;
      },
    )

pub returns-clause-known : goal.returns-clause-known
returns-clause-known g c x told holds =
    let was = rw (sym c.config.view_is) at c.in_ok-config.ensures.parts told in
    let shape = rw (sym c.config.view_is) at c.in_ok-config.ensures.shape in
    let h = rw (c.read_media.ensures.unchanged.reads told) at was.1.holds in
    let one = c.law_of_parts.ensures in
    tells_of_parts _ (g.M.Media.disk c.read_media.new.media) shape.behind x was.0 c.reconcile.new.self was.1 (one.further (g.M.Media.disk c.args.media.now).reads was.0 x h holds)
    (one.known (g.M.Media.disk c.args.media.now).reads was.0 x h holds) c.reconcile.ensures.capsule (λ none k. ap (λ (s : VaultState). ring_of s k) (c.reconcile.ensures.level (c.deref.ensures.value ∙ none)).0)

pub returns-clause-contents : goal.returns-clause-contents
returns-clause-contents g c x told durable holds =
    let was = rw (sym c.config.view_is) at c.in_ok-config.ensures.opened told durable x holds in
    let shape = rw (sym c.config.view_is) at c.in_ok-config.ensures.shape in
    let ends = rw (c.index.ensures ∙ ring_there shape.rings 0 (let two = shape.rings.two in omega (arith, two)) _) at c.ending-next_place.ensures in
    let first = was.rings 0 0 (omega arith) in (
      was.meet,
      record {
        config = c.reconcile.ensures.config ∙ was.config;
        table = c.reconcile.ensures.table ∙ was.table;
        place = c.reconcile.ensures.place ∙ ends.next_place (x.placed 0) _ first.directory (first.settled.reads told) ∙ place_opened x first.order;
        last = c.reconcile.ensures.last ∙ ends.last (x.placed 0) first.directory ∙ newest_opened x first.order;
      },
    )

pub returns-clause-readable : goal.returns-clause-readable
returns-clause-readable g c = λ x told durable holds level.
    let was = rw (sym c.config.view_is) at c.in_ok-config.ensures.opened told durable x holds in
    let o = read_on _ c.deref.result.now x (g.M.Media.disk c.read_media.new.media) c.deref.ensures.value was in
    let shape = rw (sym c.config.view_is) at c.in_ok-config.ensures.shape in
    let behind = rw (sym c.deref.ensures.value) at shape.behind in
    let still = c.reconcile.ensures.level (level_lacks_none _ (g.M.Media.disk c.read_media.new.media) behind x o level) in
    readable_as (λ m. g.M.Media.disk m) x _ c.reconcile.new.self c.read_media.new.media c.reconcile.new.media still.0 still.1
    (opened_to_read x _ _ _ (g.M.Media.disk c.read_media.new.media) o level refl)

pub returns-clause-judged : goal.returns-clause-judged
returns-clause-judged g c told =
    let judged = subst (λ (o : OpenedState). AreJudgedOn o.rings (g.M.Media.disk c.read_media.new.media)) (sym c.config.view_is) c.in_ok-config.ensures.judged in
    c.reconcile.ensures.judged told judged

pub returns-clause-bytes : goal.returns-clause-bytes
returns-clause-bytes g c x told holds =
    let was = rw (sym c.config.view_is) at c.in_ok-config.ensures.parts told in
    let h = rw (c.read_media.ensures.unchanged.reads told) at was.1.holds in
    let one = c.law_of_parts.ensures in
    subst (λ (n : List ℕ). ReadsToOpen x (g.M.Media.disk c.args.media.now).sizes (g.M.Media.bytes_read c.args.media.now) n) (sym c.reconcile.ensures.counts)
    (reads_as was.0 x _ _ _ (one.config (g.M.Media.disk c.args.media.now).reads was.0 x h holds).0 (one.further (g.M.Media.disk c.args.media.now).reads was.0 x h holds) (one.known (g.M.Media.disk c.args.media.now).reads was.0 x h holds) was.2)
