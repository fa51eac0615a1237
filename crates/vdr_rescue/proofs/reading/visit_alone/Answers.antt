use Rattle.std.proofs.Common.{◌≡◌, ◌∙◌, ℕ, List, Err, get_or, ap, sym, subst}
use Rattle.std.proofs.lemmas.Result.{err_from_is_err_and}
use Rattle.vdr_terms.specs.Records.{Record}
use Rattle.vdr_outside.specs.Causes.{Rose}
use Rattle.vdr_outside.specs.Disk.{content}
use Rattle.vdr_segment.specs.declared.area.Area.{Area}
use Rattle.vdr_segment.specs.Areas.{HasRoom}
use Rattle.vdr_entry.specs.Queries.{asked}
use Rattle.vdr_visit.specs.Visits.{ReadEnd}
use Rattle.vdr_visit.proofs.Printing.{asked_end, not_asked}
use Rattle.vdr_rescue.specs.Alones.{AloneState, IsReadThrough, LeavesAlone, Selects}
use Rattle.vdr_rescue.specs.Costs.{ReadsNoOther}
use Rattle.vdr_rescue.proofs.ReadLemmas.{end_all, end_damaged, end_fault, leaves_none, left_through, selects_left}
use Rattle.vdr_rescue.proofs.reading.visit_alone.Goals as goal

pub returns-in_err-accept-clause-handed : goal.returns-in_err-accept-clause-handed
returns-in_err-accept-clause-handed g c first had =
    let p = err_from_is_err_and c.from_residual.result c.from_residual.ensures.1 in
    not_asked _ _ _ _ _ _ had _ _ p.0 c.accept.result c.from_residual.result c.accept.ensures (c.in_err-accept.was ∙ ap Err (sym p.2)) p.1

pub returns-in_err-accept-clause-leaves : goal.returns-in_err-accept-clause-leaves
returns-in_err-accept-clause-leaves g c =
    let p = err_from_is_err_and c.from_residual.result c.from_residual.ensures.1 in
    subst (λ (e : ReadEnd). LeavesAlone g.M.Media c.args.alone.now c.args.alone.now c.args.media.now c.args.media.now e)
    (sym (asked_end _ _ p.0 c.accept.result c.from_residual.result c.accept.ensures (c.in_err-accept.was ∙ ap Err (sym p.2)) p.1))
    (leaves_none g.M.Media c.args.alone.now c.args.media.now c.requires.room)

pub returns-clause-handed : goal.returns-clause-handed
returns-clause-handed g c first had =
    let h = c.visit_all.ensures.handed first had in
    let here : (records : List Record) → Selects (content (g.M.Media.disk c.args.media.now).reads c.args.alone.now.cursor.area.medium) c.args.alone.now (asked c.args.query.now) records
    → Selects (content (g.M.Media.disk c.args.media.now).reads c.alone.inside.cursor.area.medium) (record { config = c.alone.inside.config; legal = c.alone.inside.legal; saves = c.alone.inside.saves; torn = c.alone.inside.torn.items; headless = c.alone.inside.headless.items; closed = c.alone.inside.closed; last_closed = c.alone.inside.last_closed; cursor = c.alone.inside.cursor }) (asked c.args.query.now) records =
    λ records s. subst (λ (a : AloneState). Selects (content (g.M.Media.disk c.args.media.now).reads a.cursor.area.medium) a (asked c.args.query.now) records) (sym c.alone.view_is) s in
    record {
      seen = h.seen;
      made = h.made;
      are = λ records t. h.are records (t.0, selects_left _ _ _ records (here records t.1));
      front = λ records t. h.front records (t.0, selects_left _ _ _ records (here records t.1));
    }

pub returns-clause-leaves : goal.returns-clause-leaves
returns-clause-leaves g c =
    let medium : c.alone.inside.cursor.area.medium ≡ c.args.alone.now.cursor.area.medium = ap (λ (a : AloneState). a.cursor.area.medium) c.alone.view_is in
    let area : c.visit_all.new.cursor.area ≡ c.args.alone.now.cursor.area = c.visit_all.ensures.area ∙ ap (λ (a : AloneState). a.cursor.area) c.alone.view_is in
    let cause = c.visit_all.ensures.cause in
    record {
      same = record {
        kept = ap (λ (a : AloneState). record a { cursor = c.visit_all.new.cursor }) c.alone.view_is;
        area = area;
        heads = c.visit_all.ensures.heads ∙ ap (λ (a : AloneState). a.cursor.heads) c.alone.view_is;
      };
      room = subst (λ (s : List ℕ). HasRoom c.visit_all.new.cursor.area s) (sym c.visit_all.ensures.unchanged.sizes) (subst (λ (a : Area). HasRoom a (g.M.Media.disk c.args.media.now).sizes) (sym area) c.requires.room);
      unchanged = c.visit_all.ensures.unchanged;
      others = subst (λ (m : ℕ). ReadsNoOther m (g.M.Media.bytes_read c.args.media.now) (g.M.Media.bytes_read c.visit_all.new.media)) medium c.visit_all.ensures.reads.others;
      later = cause.later;
      rose = λ e. subst (λ (m : ℕ). Rose (get_or (g.M.Media.faults c.args.media.now) m 0) (get_or (g.M.Media.faults c.visit_all.new.media) m 0)) medium (cause.rose (end_fault c.visit_all.result e));
      undamaged = λ k at e. let d = end_damaged c.visit_all.result k at e in cause.undamaged d.0 d.1 d.2;
      found = λ e told.
          let l = c.visit_all.ensures.ended (end_all c.visit_all.result e) told in
          subst (λ (a : AloneState). (given : List Record) × IsReadThrough (content (g.M.Media.disk c.args.media.now).reads a.cursor.area.medium) a.cursor c.visit_all.new.cursor.told given) c.alone.view_is
          (left_through _ _ c.alone.inside.cursor _ l.0 _ l.1);
    }
