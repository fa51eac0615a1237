use Rattle.std.proofs.Common.{◌≡◌, ℕ, List, [], ◌∷◌, sym, ◌∙◌, ap, subst, arith}
use Rattle.vdr_terms.proofs.Results.{on_ok_both}
use Rattle.vdr_outside.specs.Disk.{Image, content, over}
use Rattle.vdr_media.specs.Writing.{HasClosedGate}
use Rattle.vdr_media.proofs.Causes.{cause_after}
use Rattle.vdr_media.proofs.Opening.{closed_first}
use Rattle.vdr_media.proofs.Unformatted.{as_before_or_closed, synced_moments}
use Rattle.vdr_media.proofs.emptying.unformat.Goals as goal

closed_now : (old new : List ℕ) → new ≡ over old 0 (0 ∷ []) → HasClosedGate new
closed_now old new is = subst HasClosedGate (sym is) (closed_first old 0 (omega arith))

pub returns-in_err-sync-clause-moments : goal.returns-in_err-sync-clause-moments
returns-in_err-sync-clause-moments g c = synced_moments _ _ c.sync.ensures.time c.sync.ensures.images

pub returns-then-not-formatted-clause-moments : goal.returns-then-not-formatted-clause-moments
returns-then-not-formatted-clause-moments g c = synced_moments _ _ c.sync.ensures.time c.sync.ensures.images

pub returns-then-not-formatted-clause-done : goal.returns-then-not-formatted-clause-done
returns-then-not-formatted-clause-done g c closed = record {
  durable = c.in_ok-sync.ensures.durable;
  reads = λ told. subst (λ (l : Image). HasClosedGate (content l 0)) (sym (c.sync.ensures.reads told)) (closed c.if-not-formatted.true told);
}

pub returns-clause-moments : goal.returns-clause-moments
returns-clause-moments g c =
    as_before_or_closed _ _ _ c.sync.ensures.time c.sync.ensures.images c.in_ok-sync.ensures.durable c.sync.ensures.sizes c.sync.ensures.reads (c.requires.formatted c.if-not-formatted.false)
    c.write_through.ensures.moments

pub returns-clause-done : goal.returns-clause-done
returns-clause-done g c closed =
    on_ok_both c.write_through.result (λ durable reads. record { durable = durable; reads = λ told. closed_now _ _ (reads told) }) c.write_through.ensures.writes.durable c.write_through.ensures.reads

pub returns-clause-others : goal.returns-clause-others
returns-clause-others g c told k ne = c.write_through.ensures.writes.medium.others told k ne ∙ ap (λ (l : Image). content l k) (c.sync.ensures.reads told)

pub returns-clause-cause : goal.returns-clause-cause
returns-clause-cause g c = cause_after _ _ _ _ _ c.sync.ensures.cause.later c.write_through.ensures.writes.medium.cause
