use Rattle.std.proofs.Common.{◌∙◌, List, ℕ, subst}
use Rattle.vdr_outside.specs.Writes.{AppendsFront}
use Rattle.vdr_outside.proofs.Known.{front-more, pieces-at}
use Rattle.vdr_track.specs.Texts.{entity}
use Rattle.vdr_track.proofs.track.print_name.Goals as goal

pub returns-in_err-write_all-clause-front : goal.returns-in_err-write_all-clause-front
returns-in_err-write_all-clause-front g c =
    front-more _ _ _ _ _ _ _ (pieces-at entity c.args.name.now c.loop-byte.byte-index _ c.loop-byte-test.true) c.loop-byte.invariant.written
    (subst (λ (t : List ℕ). AppendsFront (g.O.Sink.taken c.loop-byte.out) (g.O.Sink.taken c.write_all.new.sink) t) (c.as_slice.ensures.value ∙ c.entity.ensures) c.in_err-write_all.ensures.front)
