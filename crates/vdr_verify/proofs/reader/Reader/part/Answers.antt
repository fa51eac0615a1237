use Rattle.std.proofs.Common.{arith, length, List, subst, sym, drop, ℕ, IfSome, ◌<◌}
use Rattle.vdr_bytes.proofs.NumberLemmas.{take-front}
use Rattle.vdr_evidence.specs.Files.{part}
use Rattle.vdr_verify.specs.Reading.{ReadsOn}
use Rattle.vdr_verify.proofs.Pieces.{cut_none, long_none, part_read, room_kept, short_none, took}
use Rattle.vdr_verify.proofs.reader.Reader.part.Goals as goal

pub returns-then-not-branch-clause-takes : goal.returns-then-not-branch-clause-takes
returns-then-not-branch-clause-takes g c =
    short_none _ (length c.args.into.now) (length c.take.new.into) (omega (arith, c.take.auto.into)) (took _ _ _ _ _ _ _ _ c.in_ok-take.was c.if-not-branch.true c.take.ensures.takes).1

pub returns-then-size-into-clause-takes : goal.returns-then-size-into-clause-takes
returns-then-size-into-clause-takes g c =
    let read = took _ _ _ _ _ _ _ _ c.in_ok-take.was c.if-not-branch.false c.take.ensures.takes in
    long_none _ _ _ _ _ read.consumed c.number_in-size.ensures c.number_in-size.type_inv c.if-size-into.true

pub returns-then-not-branch-2-clause-takes : goal.returns-then-not-branch-2-clause-takes
returns-then-not-branch-2-clause-takes g c =
    let read = took _ _ _ _ _ _ _ _ c.in_ok-take.was c.if-not-branch.false c.take.ensures.takes in
    let none = (took _ _ _ _ _ _ _ _ c.in_ok-take-2.was c.if-not-branch-2.true c.take-2.ensures.takes).1 in
    let kept = room_kept c.take-2.new.into c.args.into.now c.number_in-size.result c.take-2.auto.into c.if-size-into.false in
    cut_none _ _ _ _ _ read.consumed c.number_in-size.ensures c.number_in-size.type_inv (omega (arith, kept.1, c.requires))
    (subst (λ (n : ℕ). IfSome (g.I.Source.left c.take.new.input) (λ rest. length rest < n)) kept.0 none)

pub returns-clause-takes : goal.returns-clause-takes
returns-clause-takes g c =
    let read = took _ _ _ _ _ _ _ _ c.in_ok-take.was c.if-not-branch.false c.take.ensures.takes in
    let more = took _ _ _ _ _ _ _ _ c.in_ok-take-2.was c.if-not-branch-2.false c.take-2.ensures.takes in
    let kept = room_kept c.take-2.new.into c.args.into.now c.number_in-size.result c.take-2.auto.into c.if-size-into.false in
    let size = c.number_in-size.result in
    subst (λ (l : List ℕ). ReadsOn (g.I.Source.left c.args.input.now) (g.I.Source.left c.take-2.new.input) c.args.self.now c.take-2.new.self (part l))
    (sym (take-front size c.take-2.new.into (drop size c.args.into.now) kept.0)) (part_read _ _ _ _ _ _ _ _ _ read more c.number_in-size.ensures kept.0)
