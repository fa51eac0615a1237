use Rattle.std.proofs.Common.{ℕ, List, [], ◌∷◌, ◌++◌, None, Some, subst, unsigned_abs}
use Rattle.vdr_terms.specs.Records.{Record}
use Rattle.vdr_export.specs.Heard.{IsMixed, IsSized}
use Rattle.vdr_export.specs.Sounds.{Heard, heard}
use Rattle.vdr_export.specs.Tails.{heard_as}
use Rattle.vdr_export.proofs.Sounding.{heard_none, heard_so, heard_some}
use Rattle.vdr_export.proofs.sizing.HearingVisitor.visit.Goals as goal

pub returns-in_default-clause-has : goal.returns-in_default-clause-has
returns-in_default-clause-has g c first seen has = (
  has.0,
  heard_none (λ (hs : List Heard). IsSized first.sizing.track.timing hs c.args.self.now.sizing) first.microphone seen c.args.item.now
      (heard_so first.microphone c.args.self.now.microphone c.args.item.now c.heard_in.result None c.heard_in.ensures has.0 c.in_default.is) has.1,
)

pub returns-in-Ok-clause-has : goal.returns-in-Ok-clause-has
returns-in-Ok-clause-has g c first seen has = (
  has.0,
  heard_some (λ (hs : List Heard). IsSized first.sizing.track.timing hs c.hear.new.self) first.microphone seen c.args.item.now (heard_as c.args.item.now.place (unsigned_abs c.args.item.now.utc) c.in-Some.frame)
      (heard_so first.microphone c.args.self.now.microphone c.args.item.now c.heard_in.result (Some c.in-Some.frame) c.heard_in.ensures has.0 c.in-Some.is)
      (subst (λ (r : Record). IsSized first.sizing.track.timing (heard first.microphone seen ++ heard_as r.place (unsigned_abs c.args.item.now.utc) c.in-Some.frame ∷ []) c.hear.new.self) c.item.view_is
      (subst (λ (n : ℕ). IsSized first.sizing.track.timing (heard first.microphone seen ++ heard_as c.item.inside.place n c.in-Some.frame ∷ []) c.hear.new.self) c.stamp_of.ensures.stamp
      (c.in-Ok.ensures.sized first.sizing.track.timing (heard first.microphone seen) has.1))),
)

pub returns-in-Err-clause-stops : goal.returns-in-Err-clause-stops
returns-in-Err-clause-stops g c first seen has =
    heard_some (λ (hs : List Heard). IsMixed hs c.in-Err.refused) first.microphone seen c.args.item.now (heard_as c.args.item.now.place (unsigned_abs c.args.item.now.utc) c.in-Some.frame)
    (heard_so first.microphone c.args.self.now.microphone c.args.item.now c.heard_in.result (Some c.in-Some.frame) c.heard_in.ensures has.0 c.in-Some.is)
    (subst (λ (r : Record). IsMixed (heard first.microphone seen ++ heard_as r.place (unsigned_abs c.args.item.now.utc) c.in-Some.frame ∷ []) c.in-Err.refused) c.item.view_is
    (subst (λ (n : ℕ). IsMixed (heard first.microphone seen ++ heard_as c.item.inside.place n c.in-Some.frame ∷ []) c.in-Err.refused) c.stamp_of.ensures.stamp
    (c.in-Err.ensures.mixed first.sizing.track.timing (heard first.microphone seen) has.1)))
