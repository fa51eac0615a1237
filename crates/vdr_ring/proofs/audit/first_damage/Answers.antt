use Rattle.std.proofs.Common.{rules, ℕ, List, inl, refl, sym, subst}
use Rattle.vdr_segment.specs.Headers.{IsHeader}
use Rattle.vdr_ring.proofs.Legible.{audited, break_inside, surveyed}
use Rattle.vdr_ring.proofs.audit.first_damage.Goals as goal

pub returns-in_default-read_header-clause-some : goal.returns-in_default-read_header-clause-some
returns-in_default-read_header-clause-some c = record {
  opened = search rules;
  part = inl (λ h is. c.in_default-read_header.ensures.none h (subst (λ (xs : List ℕ). IsHeader xs h) (sym c.in-Some.ensures.cases.same) is), refl);
}

pub returns-in-Some-summary-clause-none : goal.returns-in-Some-summary-clause-none
returns-in-Some-summary-clause-none c = rw c.err.ensures.value (
    audited c.args.bytes.now c.in-Some-read_header.header c.in-Some-summary.summary c.audit.result (search rules) (search rules)
    (subst (λ (xs : List ℕ). IsHeader xs c.in-Some-read_header.header) c.in-Some.ensures.cases.same c.in-Some-read_header.ensures.found) c.audit.ensures.agrees c.audit.ensures.differs).1

pub returns-in-None-clause-inside : goal.returns-in-None-clause-inside
returns-in-None-clause-inside c = rw c.err-in-None.ensures.value (break_inside c.args.bytes.now c.survey.result c.survey.ensures.broken)

pub returns-in-None-clause-none : goal.returns-in-None-clause-none
returns-in-None-clause-none c = rw c.err-in-None.ensures.value (
    surveyed c.args.bytes.now c.in-Some-read_header.header c.survey.result (search rules) (search rules)
    (subst (λ (xs : List ℕ). IsHeader xs c.in-Some-read_header.header) c.in-Some.ensures.cases.same c.in-Some-read_header.ensures.found) c.survey.ensures.legal c.survey.ensures.broken).1
