use Rattle.std.proofs.Common.{ℕ, List, get_or, sym, ap, subst, arith}
use Rattle.std.proofs.lemmas.Result.{err_from_is_err_and}
use Rattle.vdr_terms.proofs.Results.{same_err}
use Rattle.vdr_outside.specs.Disk.{Image, content}
use Rattle.vdr_outside.proofs.Counts.{none_falls_join}
use Rattle.vdr_media.proofs.Behind.{behind_join}
use Rattle.vdr_ring.specs.Damage.{HasDamage}
use Rattle.vdr_remake.specs.Copies.{Hold}
use Rattle.vdr_remake.specs.Remade.{IsStaged}
use Rattle.vdr_remake.proofs.Causes.{rose_later, rose_passed, rose_second}
use Rattle.vdr_remake.proofs.Fronts.{filled_of}
use Rattle.vdr_remake.proofs.Staging.{laid_empty, size_still}
use Rattle.vdr_remake.proofs.filling.fill.Goals as goal

pub returns-in_err-lay_empty-clause-cause : goal.returns-in_err-lay_empty-clause-cause
returns-in_err-lay_empty-clause-cause g c = rose_second _ _ c.in_err-lay_empty.ensures.cause.later _ _ _ (λ is. c.in_err-lay_empty.ensures.cause.failed)

pub returns-in_err-copy_all-clause-writes : goal.returns-in_err-copy_all-clause-writes
returns-in_err-copy_all-clause-writes g c = behind_join _ _ _ _ c.lay_empty.ensures.writes c.copy_all.ensures.writes

pub returns-in_err-copy_all-clause-damaged : goal.returns-in_err-copy_all-clause-damaged
returns-in_err-copy_all-clause-damaged g c =
    let p = err_from_is_err_and c.from_residual-in_err-copy_all.result c.from_residual-in_err-copy_all.ensures.1 in
    rw (p.1, p.2) (λ m offset e.
    let h = c.in_err-copy_all.ensures.damaged m offset (same_err _ _ e) in
    (h.0, λ told. subst (λ (b : List ℕ). HasDamage c.args.from.segment c.args.from.slots b offset) (c.lay_empty.ensures.writes.others told c.args.from.medium c.requires.apart) (h.1 told)))

pub returns-in_err-copy_all-clause-cause : goal.returns-in_err-copy_all-clause-cause
returns-in_err-copy_all-clause-cause g c =
    let p = err_from_is_err_and c.from_residual-in_err-copy_all.result c.from_residual-in_err-copy_all.ensures.1 in
    rw (p.1, p.2) (rose_later _ _ _ _ _ c.lay_empty.ensures.cause.later (rose_passed _ _ _ _ _ (λ e. same_err _ _ e) c.in_err-copy_all.ensures.cause))

pub returns-in_err-sync_medium-clause-writes : goal.returns-in_err-sync_medium-clause-writes
returns-in_err-sync_medium-clause-writes g c = behind_join _ _ _ _ (behind_join _ _ _ _ c.lay_empty.ensures.writes c.copy_all.ensures.writes) c.sync_medium.ensures.writes

pub returns-in_err-sync_medium-clause-cause : goal.returns-in_err-sync_medium-clause-cause
returns-in_err-sync_medium-clause-cause g c =
    rose_later _ _ _ _ _ (none_falls_join _ _ _ c.lay_empty.ensures.cause.later c.copy_all.ensures.cause.later) (rose_second _ _ c.in_err-sync_medium.ensures.cause.later _ _ _ (λ is. c.in_err-sync_medium.ensures.cause.failed))

pub returns-clause-writes : goal.returns-clause-writes
returns-clause-writes g c = behind_join _ _ _ _ (behind_join _ _ _ _ c.lay_empty.ensures.writes c.copy_all.ensures.writes) c.sync_medium.ensures.writes

pub returns-clause-staged : goal.returns-clause-staged
returns-clause-staged g c placed told h = record {
  durable = c.in_ok-sync_medium.ensures.durable;
  reads = λ again.
      let m = c.args.to.medium in
      let long = size_still (g.M.Media.disk c.args.media.now) (g.M.Media.disk c.lay_empty.new.media) m c.lay_empty.ensures.writes.sizes told in
      let held = subst (λ (b : List ℕ). Hold c.args.from.segment b c.args.entries.now placed) (sym (c.lay_empty.ensures.writes.others told c.args.from.medium c.requires.apart)) h in
      let laid = c.in_ok-lay_empty.ensures.laid_out.reads told in
      let empty = laid_empty m c.args.to.segment c.args.to.slots (get_or (g.M.Media.disk c.args.media.now).sizes m 0) c.args.config.now c.args.text.now (content (g.M.Media.disk c.lay_empty.new.media).reads m)
      (omega (arith, c.args.to.segment_low)) c.requires.to_alike c.requires.to_slots long c.requires.to_room.room laid in
      subst (IsStaged m c.args.to.slots c.args.config.now c.args.text.now placed) (sym (ap (λ (l : Image). content l m) (c.sync_medium.ensures.reads told)))
      (filled_of m c.args.to.segment c.args.to.slots (get_or (g.M.Media.disk c.args.media.now).sizes m 0) c.args.config.now c.args.text.now placed (content (g.M.Media.disk c.lay_empty.new.media).reads m) (content (g.M.Media.disk c.copy_all.new.media).reads m)
      c.requires.to_alike c.requires.to_slots long laid (c.copy_all.ensures.front told) (c.in_ok-copy_all.ensures.copied told placed held empty));
}
