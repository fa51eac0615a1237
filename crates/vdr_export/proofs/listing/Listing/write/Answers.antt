use Rattle.std.proofs.Common.{rules, ◌∙◌, ℕ, List, subst}
use Rattle.std.specs.Io.KnownBytes.{Appends}
use Rattle.vdr_outside.specs.Writes.{AppendsFront}
use Rattle.vdr_export.proofs.Lines.{row_front, row_next}
use Rattle.vdr_export.proofs.listing.Listing.write.Goals as goal

pub loop-block-preserved : goal.loop-block-preserved
loop-block-preserved g c = record {
  way = row_next (g.O.Sink.taken c.args.out.now) (g.O.Sink.taken c.loop-block.out) (g.O.Sink.taken c.write_all.new.sink) c.args.self.now c.loop-block.block-iterator c.next.new.self
      (c.in-Some.block.now, c.in-Some.image.now) c.in-Some.ensures.steps c.loop-block.invariant.way
      (subst (λ (l : List ℕ). Appends (g.O.Sink.taken c.loop-block.out) (g.O.Sink.taken c.write_all.new.sink) l) (c.as_slice.ensures.value ∙ c.text.ensures) c.in_ok-write_all.ensures.all);
  later = search rules;
}

pub returns-in_err-write_all-clause-front : goal.returns-in_err-write_all-clause-front
returns-in_err-write_all-clause-front g c =
    row_front (g.O.Sink.taken c.args.out.now) (g.O.Sink.taken c.loop-block.out) (g.O.Sink.taken c.write_all.new.sink) c.args.self.now c.loop-block.block-iterator c.next.new.self
    (c.in-Some.block.now, c.in-Some.image.now) c.in-Some.ensures.steps c.loop-block.invariant.way
    (subst (λ (l : List ℕ). AppendsFront (g.O.Sink.taken c.loop-block.out) (g.O.Sink.taken c.write_all.new.sink) l) (c.as_slice.ensures.value ∙ c.text.ensures) c.in_err-write_all.ensures.front)
