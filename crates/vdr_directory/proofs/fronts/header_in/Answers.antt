use Rattle.std.proofs.Common.{ℕ, List, Some, sym, ap, ◌∙◌, subst, arith}
use Rattle.std.proofs.lemmas.Option.{slice_get-get_or}
use Rattle.vdr_segment.specs.Slots.{IsFront}
use Rattle.vdr_directory.proofs.FrontLemmas.{no_front}
use Rattle.vdr_directory.proofs.fronts.header_in.Goals as goal

pub returns-in-None-clause-damaged : goal.returns-in-None-clause-damaged
returns-in-None-clause-damaged g c k offset e = (
  cc,
  cc,
  λ told front is. no_front _ front (slice_get-get_or _ 0 0 (omega (arith, c.read_front.array_long)) ∙ ap (λ (n : ℕ). Some n) c.if-bytes.false) c.in-None.ensures.none
      (subst (λ (bytes : List ℕ). IsFront bytes front) (sym (c.in-Ok.ensures.bytes told)) is),
)
