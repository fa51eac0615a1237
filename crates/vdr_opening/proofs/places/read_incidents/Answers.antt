use Rattle.std.proofs.Common.{ℕ, inl, ap, subst}
use Rattle.std.proofs.lemmas.Result.{err_from_is_err_and}
use Rattle.vdr_outside.specs.Disk.{content}
use Rattle.vdr_config.specs.Configuration.{Configuration}
use Rattle.vdr_incident.specs.Tables.{Refuses}
use Rattle.vdr_terms.proofs.Results.{same_err}
use Rattle.vdr_opening.proofs.Costs.{table_bytes}
use Rattle.vdr_opening.proofs.places.read_incidents.Goals as goal

pub returns-in_err-table-clause-damaged : goal.returns-in_err-table-clause-damaged
returns-in_err-table-clause-damaged g c =
    let p = err_from_is_err_and c.from_residual.result c.from_residual.ensures.1 in
    let slots = ap (λ (x : Configuration). x.incident_slots) c.config.view_is in
    rw (p.1, p.2) (λ k offset e. let h = c.in_err-table.ensures.damaged k offset (same_err _ _ e) in (
      h.0,
      λ told. inl (subst (λ (n : ℕ). Refuses n (content (g.M.Media.disk c.args.media.now).reads 1) offset) slots (h.1 told)),
    ))

pub returns-in_err-table-clause-counts : goal.returns-in_err-table-clause-counts
returns-in_err-table-clause-counts g c = table_bytes _ _ _ c.config.invariant.slots_high c.read.ensures.reads.counts

pub returns-in_default-clause-counts : goal.returns-in_default-clause-counts
returns-in_default-clause-counts g c = table_bytes _ _ _ c.config.invariant.slots_high c.read.ensures.reads.counts

pub returns-clause-counts : goal.returns-clause-counts
returns-clause-counts g c = table_bytes _ _ _ c.config.invariant.slots_high c.read.ensures.reads.counts
