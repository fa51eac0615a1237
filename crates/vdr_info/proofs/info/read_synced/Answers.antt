use Rattle.std.proofs.Common.{◌∙◌, ℕ, List, ap, sym, subst, arith}
use Rattle.std.proofs.lemmas.Result.{err_from_is_err_and}
use Rattle.vdr_outside.specs.Disk.{Image}
use Rattle.vdr_opening.specs.Answers.{OpenedState}
use Rattle.vdr_opening.specs.Media.{HoldsParts}
use Rattle.vdr_opening.specs.Parts.{HasRoomBefore}
use Rattle.vdr_opening.proofs.Rings.{open_failed, passed_damaged}
use Rattle.vdr_info.specs.Infos.{AreParts}
use Rattle.vdr_opening.specs.Costs.{ReadsParts}
use Rattle.vdr_info.proofs.InfoLemmas.{never_unformatted, reads_twice, refused_so, room_before}
use Rattle.vdr_info.proofs.info.read_synced.Goals as goal

pub returns-in_err-opened-clause-refused : goal.returns-in_err-opened-clause-refused
returns-in_err-opened-clause-refused g c =
    let p = err_from_is_err_and c.from_residual.result c.from_residual.ensures.1 in
    rw (p.1, p.2) (refused_so _ _ c.in_err-opened.ensures.refused)

pub read_parts-requires-clause-long_term : goal.read_parts-requires-clause-long_term
read_parts-requires-clause-long_term g c =
    subst (λ (sizes : List ℕ). HasRoomBefore 1 sizes) (sym c.read_media.ensures.unchanged.sizes) (room_before _ _ 1 _ (c.in_ok-opened.ensures.shape.rings.each 1 0 (omega arith)))

pub returns-in_err-parts-clause-refused : goal.returns-in_err-parts-clause-refused
returns-in_err-parts-clause-refused g c =
    let p = err_from_is_err_and c.from_residual-in_err-parts.result c.from_residual-in_err-parts.ensures.1 in
    rw p.1 (record {
      unformatted = λ e. absurd (never_unformatted _ _ p.2 e);
      damaged = λ m offset e told durable.
          let found = c.in_ok-opened.ensures.parts told in
          absurd (c.in_err-parts.ensures.legal m offset (passed_damaged _ _ m offset p.2 e) told found.0 found.1.holds (ap (λ (o : OpenedState). o.config) c.opened.view_is ∙ found.1.config));
    })

pub returns-in_err-parts-clause-cause : goal.returns-in_err-parts-clause-cause
returns-in_err-parts-clause-cause g c =
    let p = err_from_is_err_and c.from_residual-in_err-parts.result c.from_residual-in_err-parts.ensures.1 in
    rw (p.1, p.2) (open_failed _ _ _ _ c.read_media.ensures.cause.later c.in_err-parts.ensures.cause)

pub returns-clause-info : goal.returns-clause-info
returns-clause-info g c told =
    let found = c.in_ok-opened.ensures.parts told in
    let same = c.read_media.ensures.unchanged in
    record {
      formatted = c.in_ok-opened.ensures.formatted told;
      parts = found.0;
      holds = subst (λ (i : Image). HoldsParts i found.0) (same.reads told) found.1.holds;
      meet = found.1.meet;
      told = record {
        parts = subst (λ (sizes : List ℕ). AreParts found.0 sizes c.in_ok-parts.parts.capsule c.in_ok-parts.parts.long_term c.in_ok-parts.parts.text.items) same.sizes (c.in_ok-parts.ensures.told told found.0 found.1.holds (ap (λ (o : OpenedState). o.config) c.opened.view_is ∙ found.1.config));
        table = ap (λ (o : OpenedState). o.table) c.opened.view_is ∙ found.1.table;
      };
      reads = reads_twice found.0 (g.M.Media.disk c.args.media.now).sizes _ _ _ found.2
          (subst (λ (sizes : List ℕ). ReadsParts found.0.further 16385 found.0.config.segment found.0.placed sizes (g.M.Media.bytes_read c.read_media.new.media) (g.M.Media.bytes_read c.read_parts.new.media)) same.sizes (c.in_ok-parts.ensures.counts told found.0 found.1.holds (ap (λ (o : OpenedState). o.config) c.opened.view_is ∙ found.1.config)));
    }
