use Rattle.std.proofs.Common.{◌∙◌, ◌++◌, List, ap, refl, subst, take, ℕ}
use Rattle.vdr_evidence.specs.Files.{part}
use Rattle.vdr_verify.specs.Reading.{HasRead}
use Rattle.vdr_verify.proofs.Heads.{take_within}
use Rattle.vdr_verify.proofs.Lists.{end_on, none_stops, other_stops, part_none, record_on, taken_some}
use Rattle.vdr_verify.proofs.records.next_record.Goals as goal

pub returns-in_default-found-clause-finds : goal.returns-in_default-found-clause-finds
returns-in_default-found-clause-finds g c = λ first h seen is. none_stops _ _ _ _ _ h seen _ _ is refl c.part.auto.into (rw c.in_default-found.is at c.in-Ok.ensures.takes)

pub returns-then-size-eq0-clause-finds : goal.returns-then-size-eq0-clause-finds
returns-then-size-eq0-clause-finds g c = λ first h seen is.
    end_on _ _ _ _ _ _ _ h seen _ is (rw c.in-Some.is at c.in-Ok.ensures.takes) (ap (λ (n : ℕ). take n c.part.new.into) c.if-size-eq0.true)

pub returns-then-is_next-clause-finds : goal.returns-then-is_next-clause-finds
returns-then-is_next-clause-finds g c = λ first h seen is.
    let legal = c.is_next.ensures.legal c.if-is_next.true in
    record_on _ _ _ _ _ _ _ h seen _ c.is_next.new.item is (rw c.in-Some.is at c.in-Ok.ensures.takes) legal.0 legal.1

pub returns-clause-finds : goal.returns-clause-finds
returns-clause-finds g c = λ first h seen is.
    other_stops _ _ _ _ _ _ _ h seen _ _ is refl (take_within c.in-Some.size 1516 c.part.new.into c.part.auto.into) (rw c.in-Some.is at c.in-Ok.ensures.takes)
    (taken_some c.in-Some.size c.part.new.into (rw c.in-Some.is at c.in-Ok.ensures.within) c.if-size-eq0.false) (c.is_next.ensures.other c.if-is_next.false)

pub returns-then-size-eq0-clause-holds : goal.returns-then-size-eq0-clause-holds
returns-then-size-eq0-clause-holds g c = λ front has.
    let read = rw c.in-Some.is at c.in-Ok.ensures.takes in
    subst (λ (l : List ℕ). HasRead c.part.new.self (front ++ l)) (ap (λ (n : ℕ). part (take n c.part.new.into)) c.if-size-eq0.true ∙ part_none) (read.held front has)
