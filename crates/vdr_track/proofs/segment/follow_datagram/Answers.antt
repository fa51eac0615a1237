use Rattle.std.proofs.Common.{List, ℕ, [], sym, subst, refl}
use Rattle.std.specs.Io.KnownBytes.{Appends}
use Rattle.std.proofs.KnownBytes.{Appends-nil}
use Rattle.vdr_outside.specs.Writes.{AppendsFront}
use Rattle.vdr_datagram.specs.Verdicts.{line_spans}
use Rattle.vdr_track.proofs.Passing.{prints_none, stays_open}
use Rattle.vdr_track.proofs.segment.follow_datagram.Goals as goal

pub returns-then-not-may_fix-clause-opened : goal.returns-then-not-may_fix-clause-opened
returns-then-not-may_fix-clause-opened g c = sym (stays_open c.args.source.now c.args.item.now (line_spans c.args.payload.now) c.args.last.now (c.may_fix.ensures c.if-not-may_fix.true))

pub returns-then-not-may_fix-clause-all : goal.returns-then-not-may_fix-clause-all
returns-then-not-may_fix-clause-all g c =
    subst (λ (text : List ℕ). Appends (g.O.Sink.taken c.args.out.now) (g.O.Sink.taken c.args.out.now) text)
    (sym (prints_none c.args.source.now c.args.item.now (line_spans c.args.payload.now) c.args.last.now (c.may_fix.ensures c.if-not-may_fix.true))) (Appends-nil (g.O.Sink.taken c.args.out.now))

pub returns-then-not-may_fix-clause-front : goal.returns-then-not-may_fix-clause-front
returns-then-not-may_fix-clause-front g c =
    subst (λ (text : List ℕ). AppendsFront (g.O.Sink.taken c.args.out.now) (g.O.Sink.taken c.args.out.now) text)
    (sym (prints_none c.args.source.now c.args.item.now (line_spans c.args.payload.now) c.args.last.now (c.may_fix.ensures c.if-not-may_fix.true))) ([], [], refl, Appends-nil (g.O.Sink.taken c.args.out.now))
