use Rattle.std.proofs.Common.{rules, ◌≡◌, ◌∙◌, Err, ap, sym, subst}
use Rattle.std.proofs.lemmas.Result.{err_from_is_err_and}
use Rattle.vdr_entry.specs.Queries.{asked}
use Rattle.vdr_visit.specs.Visits.{ReadEnd}
use Rattle.vdr_visit.proofs.Printing.{asked_end, not_asked, told_of}
use Rattle.vdr_visit.proofs.buffered.visit_buffered.Goals as goal

pub returns-in_err-accept-clause-handed : goal.returns-in_err-accept-clause-handed
returns-in_err-accept-clause-handed g c first had =
    let p = err_from_is_err_and c.from_residual.result c.from_residual.ensures.1 in
    not_asked _ _ _ _ _ _ had _ _ p.0 c.accept.result c.from_residual.result c.accept.ensures (c.in_err-accept.was ∙ ap Err (sym p.2)) p.1

pub returns-in_err-accept-clause-leaves : goal.returns-in_err-accept-clause-leaves
returns-in_err-accept-clause-leaves g c =
    let p = err_from_is_err_and c.from_residual.result c.from_residual.ensures.1 in
    subst (λ (e : ReadEnd). g.R.Reader.leaves _ g.M.Media (asked c.args.query.now) c.args.reader.now c.args.reader.now c.args.media.now c.args.media.now e)
    (sym (asked_end _ _ p.0 c.accept.result c.from_residual.result c.accept.ensures (c.in_err-accept.was ∙ ap Err (sym p.2)) p.1))
    (c.law_of_visits.ensures.none _ _ _ c.requires.may)

pub returns-clause-handed : goal.returns-clause-handed
returns-clause-handed g c first had =
    let same : c.visit_lent-lent.result.0.sink.now ≡ c.out-1.given.0 = search rules in
    told_of (c.visit_lent-lent.ensures.handed first had) (g.O.Sink.taken c.args.out.now) (g.O.Sink.taken c.out-1.given.0)
    (ap (λ (o : g.row.O.Denot). g.O.Sink.taken o) c.new.ensures.value) (ap (λ (o : g.row.O.Denot). g.O.Sink.taken o) same)
