use Rattle.std.proofs.Common.{rules, ℕ, List, get_or, subst, sym, arith}
use Rattle.std.proofs.lemmas.Result.{err_from_is_err_and}
use Rattle.vdr_outside.proofs.Counts.{none_falls_join}
use Rattle.vdr_outside.specs.Causes.{Rose}
use Rattle.std.specs.Prelude.{All}
use Rattle.vdr_outside.specs.Disk.{Disk, Durable, Image, Unchanged}
use Rattle.vdr_media.proofs.Two.{first_of}
use Rattle.vdr_opening.specs.Costs.{ReadsParts}
use Rattle.vdr_opening.specs.Media.{HoldsContents, members_in}
use Rattle.vdr_opening.proofs.Costs.{gate_byte, more_parts}
use Rattle.vdr_opening.specs.Refusals.{IsRefused}
use Rattle.vdr_opening.proofs.Rings.{open_cause, open_failed, passed_damaged, durable_still}
use Rattle.vdr_opening.proofs.reading.read_media.Goals as goal
use Rattle.vdr_outside.proofs.Moments.{unchanged_join}

-- Of media of which nothing was unsynced nothing is behind a call that only read, whichever they are.
durable_there : {tells tells_images : Type 0} (old new : Disk tells tells_images) → Unchanged old new → tells → All (λ m. Durable m old) (members_in old.reads) → All (λ m. Durable m new) (members_in new.reads)
durable_there old new same told durable =
    subst (λ (i : Image). All (λ m. Durable m new) (members_in i)) (sym (same.reads told)) (λ k d lt. durable_still (get_or (members_in old.reads) k d) old new same (durable k d lt))

pub returns-in_err-are_formatted-clause-cause : goal.returns-in_err-are_formatted-clause-cause
returns-in_err-are_formatted-clause-cause g c =
    open_cause _ _ _ c.are_formatted.ensures.cause.later
    (λ is. first_of (λ m. Rose (get_or (g.M.Media.faults c.args.media.now) m 0) (get_or (g.M.Media.faults c.are_formatted.new.media) m 0)) c.in_err-are_formatted.ensures.cause.failed)

pub returns-in_err-opened-clause-refused : goal.returns-in_err-opened-clause-refused
returns-in_err-opened-clause-refused g c =
    let p = err_from_is_err_and c.from_residual-in_err-opened.result c.from_residual-in_err-opened.ensures.1 in
    rw p.1 (record {
      unformatted = search rules;
      damaged = λ m offset e told durable. (
        (c.in_ok-are_formatted.ensures.formatted c.if-not-branch.false).1 told,
        subst (λ (i : Image). IsRefused i m offset) (c.are_formatted.ensures.unchanged.reads told)
            (c.in_err-opened.ensures.damaged m offset (passed_damaged _ _ m offset p.2 e) told (durable_there (g.M.Media.disk c.args.media.now) (g.M.Media.disk c.are_formatted.new.media) c.are_formatted.ensures.unchanged told durable)),
      );
    })

pub returns-in_err-opened-clause-cause : goal.returns-in_err-opened-clause-cause
returns-in_err-opened-clause-cause g c =
    let p = err_from_is_err_and c.from_residual-in_err-opened.result c.from_residual-in_err-opened.ensures.1 in
    rw (p.1, p.2) (open_failed _ _ _ _ c.are_formatted.ensures.cause.later c.in_err-opened.ensures.cause)

pub returns-clause-opened : goal.returns-clause-opened
returns-clause-opened g c told durable x h =
    c.in_ok-opened.ensures.opened told (durable_there (g.M.Media.disk c.args.media.now) (g.M.Media.disk c.are_formatted.new.media) c.are_formatted.ensures.unchanged told durable) x
    (subst (λ (i : Image). HoldsContents i x) (sym (c.are_formatted.ensures.unchanged.reads told)) h)

pub returns-clause-parts : goal.returns-clause-parts
returns-clause-parts g c told =
    let found = c.in_ok-opened.ensures.parts told in
    let sized = subst (λ (sizes : List ℕ). ReadsParts found.0.further 24600 found.0.config.segment found.0.placed sizes (g.M.Media.bytes_read c.are_formatted.new.media) (g.M.Media.bytes_read c.read_formatted.new.media)) c.are_formatted.ensures.unchanged.sizes found.2 in
    (found.0, found.1, more_parts 24600 _ found.0.placed _ _ _ _ 0 1 32768 found.0.further (omega arith) (omega arith) (gate_byte _ _ c.are_formatted.ensures.counts) sized)

pub returns-clause-unchanged : goal.returns-clause-unchanged
returns-clause-unchanged g c = unchanged_join _ _ _ c.are_formatted.ensures.unchanged c.read_formatted.ensures.unchanged

pub returns-clause-cause : goal.returns-clause-cause
returns-clause-cause g c = open_cause _ _ _ (none_falls_join _ _ _ c.are_formatted.ensures.cause.later c.read_formatted.ensures.cause.later) (λ is. let none : ⊥ = cc in absurd none)
