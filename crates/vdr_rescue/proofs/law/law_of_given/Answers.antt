use Rattle.std.proofs.Common.{ap, ◌∙◌, sym}
use Rattle.vdr_index.specs.Extents.{records_in}
use Rattle.vdr_rescue.specs.Given.{in_place}
use Rattle.vdr_rescue.proofs.GivenLemmas.{one_legal, legal_whole, in_place_all}
use Rattle.vdr_rescue.proofs.law.law_of_given.Goals as goal

pub returns-clause-one : goal.returns-clause-one
returns-clause-one c segment first rs qs g h = g.are ∙ ap (λ bs. in_place first (records_in bs)) (one_legal segment 64 g.batches h.batches g.legal h.legal) ∙ sym h.are

pub returns-clause-whole : goal.returns-clause-whole
returns-clause-whole c segment first batches are on = record { batches = batches; legal = legal_whole segment 64 batches are; are = sym (in_place_all first (records_in batches) on) }
