use Rattle.std.proofs.Common.{◌∙◌, List, ℕ, sym, ap, subst}
use Rattle.std.specs.Prelude.{option_map}
use Rattle.vdr_image.specs.Views.{header_of}
use Rattle.vdr_outside.specs.Writes.{AppendsFront}
use Rattle.vdr_play.proofs.TrackLemmas.{header_text}
use Rattle.vdr_play.proofs.streams.print_image.Goals as goal

pub returns-clause-front : goal.returns-clause-front
returns-clause-front g c =
    let read = sym (ap (option_map header_of) c.in-Some.is) ∙ c.read_image.ensures.exact in
    let text = header_text c.args.track.now _ (header_of c.in-Some.header) c.step-step.result read c.step-step.ensures.step in
    subst (λ (t : List ℕ). AppendsFront (g.O.Sink.taken c.args.out.now) (g.O.Sink.taken c.print_header.new.out) t) text c.print_header.ensures.front
