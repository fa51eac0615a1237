use Rattle.std.proofs.Common.{ℕ, List, inl, refl, sym, subst}
use Rattle.vdr_segment.specs.Headers.{IsHeader}
use Rattle.vdr_ring.proofs.Legible.{audited}
use Rattle.vdr_rescue.proofs.JudgeLemmas.{judged_bare, judged_summed}
use Rattle.vdr_rescue.proofs.judging.open_fault.Goals as goal

pub returns-in_default-read_header-clause-judges : goal.returns-in_default-read_header-clause-judges
returns-in_default-read_header-clause-judges c = inl (record {
  opened = c.requires.opened;
  part = inl (λ h is. c.in_default-read_header.ensures.none h (subst (λ (xs : List ℕ). IsHeader xs h) (sym c.in-Some.ensures.cases.same) is), refl);
})

pub returns-in-Some-summary-clause-judges : goal.returns-in-Some-summary-clause-judges
returns-in-Some-summary-clause-judges c =
    let is = subst (λ (xs : List ℕ). IsHeader xs c.in-Some-read_header.header) c.in-Some.ensures.cases.same c.in-Some-read_header.ensures.found in
    judged_summed c.args.bytes.now c.in-Some-read_header.header c.requires.opened is c.in-Some-summary.summary c.in-Some-summary.is c.err.result
    (rw c.err.ensures.value (audited c.args.bytes.now c.in-Some-read_header.header c.in-Some-summary.summary c.audit.result c.in-Some-summary.is c.requires.opened is c.audit.ensures.agrees c.audit.ensures.differs))

pub returns-in-None-clause-judges : goal.returns-in-None-clause-judges
returns-in-None-clause-judges c =
    let is = subst (λ (xs : List ℕ). IsHeader xs c.in-Some-read_header.header) c.in-Some.ensures.cases.same c.in-Some-read_header.ensures.found in
    judged_bare c.args.bytes.now c.in-Some-read_header.header c.requires.opened is c.in-None.is c.bare_fault.result c.bare_fault.ensures.judges
