use Rattle.std.proofs.Common.{ℕ, List, inl, inr, refl, sym, subst}
use Rattle.std.proofs.lemmas.Result.{err_from_is_err_and}
use Rattle.vdr_outside.proofs.Counts.{none_falls_join}
use Rattle.vdr_ring.proofs.Faults.{fault_after, fault_passed, no_fault}
use Rattle.vdr_terms.proofs.Results.{same_err}
use Rattle.vdr_opening.specs.Media.{HasFront}
use Rattle.vdr_opening.specs.Parts.{text_of}
use Rattle.vdr_opening.specs.Refusals.{RefusesConfiguration}
use Rattle.vdr_opening.proofs.Rings.{same_content, refuses_segments, knows_medium, reads_legal, same_text, durable_still}
use Rattle.vdr_opening.proofs.Costs.{medium_bytes}
use Rattle.vdr_opening.proofs.medium.open_medium.Goals as goal
use Rattle.vdr_outside.proofs.Moments.{unchanged_join}

pub returns-in_err-configured-clause-damaged : goal.returns-in_err-configured-clause-damaged
returns-in_err-configured-clause-damaged g c =
    let p = err_from_is_err_and c.from_residual-in_err-configured.result c.from_residual-in_err-configured.ensures.1 in
    rw (p.1, p.2) (λ k offset e. let h = c.in_err-configured.ensures.damaged k offset (same_err _ _ e) in (
      h.0,
      λ told. inr (inl (subst (λ (l : List ℕ). RefusesConfiguration c.args.m (text_of c.args.before) l offset) (same_content c.args.m _ _ c.read_superblock.ensures.unchanged told) (h.1 told))),
    ))

pub returns-in_err-ring-clause-damaged : goal.returns-in_err-ring-clause-damaged
returns-in_err-ring-clause-damaged g c =
    let p = err_from_is_err_and c.from_residual-in_err-ring.result c.from_residual-in_err-ring.ensures.1 in
    let same = unchanged_join _ _ _ c.read_superblock.ensures.unchanged c.read_configuration.ensures.unchanged in
    rw (p.1, p.2) (λ k offset e. let h = c.in_err-ring.ensures.damaged k offset (same_err _ _ e) in (
      h.0,
      λ told.
          let front = subst (λ (l : List ℕ). HasFront c.args.m c.in_ok-configured.configured.config c.in_ok-configured.configured.text.items l) (same_content c.args.m _ _ c.read_superblock.ensures.unchanged told) (c.in_ok-configured.ensures.front told) in
          inr (inr (refuses_segments c.args.m _ _ _ _ same told front (text_of c.args.before) offset (same_text c.args.before _ c.in_ok-configured.ensures.same) (h.1 told))),
    ))

pub returns-in_err-ring-clause-unchanged : goal.returns-in_err-ring-clause-unchanged
returns-in_err-ring-clause-unchanged g c =
    unchanged_join _ _ _ (unchanged_join _ _ _ c.read_superblock.ensures.unchanged c.read_configuration.ensures.unchanged) c.open.ensures.unchanged

pub returns-in_err-ring-clause-cause : goal.returns-in_err-ring-clause-cause
returns-in_err-ring-clause-cause g c =
    let p = err_from_is_err_and c.from_residual-in_err-ring.result c.from_residual-in_err-ring.ensures.1 in
    rw (p.1, p.2) (fault_after c.args.m _ _ _ _ (none_falls_join _ _ _ c.read_superblock.ensures.cause.later c.read_configuration.ensures.cause.later) (fault_passed c.args.m _ _ _ _ refl c.in_err-ring.ensures.cause))

pub returns-clause-reads : goal.returns-clause-reads
returns-clause-reads g c told durable =
    let before = unchanged_join _ _ _ c.read_superblock.ensures.unchanged c.read_configuration.ensures.unchanged in
    reads_legal c.args.m _ _ _ _ _ c.open.ensures.unchanged told
    (λ placed holds order. (c.in_ok-ring.ensures.opened.reads told (durable_still c.args.m _ _ before durable) placed holds order).0)

pub returns-clause-parts : goal.returns-clause-parts
returns-clause-parts g c told =
    let opened = c.in_ok-ring.ensures.opened.parts told in
    let its = c.in_ok-ring.ensures.opened.its in
    let front = subst (λ (l : List ℕ). HasFront c.args.m c.in_ok-configured.configured.config c.in_ok-configured.configured.text.items l) (sym (same_content c.args.m _ _ c.read_configuration.ensures.unchanged told)) (c.in_ok-configured.ensures.front told) in (
      opened.0,
      knows_medium c.args.m _ _ _ _ c.open.ensures.unchanged told front _ opened.0 its.medium its.segment its.slots opened.1,
      medium_bytes c.args.m _ _ opened.0 _ _ _ _ c.read_superblock.ensures.counts c.read_configuration.ensures.counts opened.2,
    )

pub returns-clause-unchanged : goal.returns-clause-unchanged
returns-clause-unchanged g c =
    unchanged_join _ _ _ (unchanged_join _ _ _ c.read_superblock.ensures.unchanged c.read_configuration.ensures.unchanged) c.open.ensures.unchanged

pub returns-clause-cause : goal.returns-clause-cause
returns-clause-cause g c =
    no_fault c.args.m _ _ _ (none_falls_join _ _ _ c.read_superblock.ensures.cause.later (none_falls_join _ _ _ c.read_configuration.ensures.cause.later c.open.ensures.cause.later)) (λ is. let none : ⊥ = cc in none)
