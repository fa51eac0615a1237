-- What opening a medium tells of each open segment.
use Rattle.std.specs.Prelude.{◌≡◌, ℕ, List, [], ◌∷◌, Option, Some, None, ⊤}
use Rattle.vdr_terms.specs.Records.{Record}
use Rattle.vdr_entry.specs.declared.summary.Summary.{Summary}
use Rattle.vdr_index.specs.declared.extent.Survey.{Survey}
use Rattle.vdr_index.specs.Surveys.{Surveys}
use Rattle.vdr_directory.specs.declared.entry.Entry.{Entry}
use Rattle.vdr_directory.specs.Sequence.{Placed, seq_of, first_of, batches_of}

abbrev pub slot_of : Entry → ℕ
slot_of e = e.slot

-- The survey is that of the batches, where the header has no summary. Where it has one the batches are not read, and there is
-- no survey.
abbrev pub SurveysUnless : (header : Option Summary) (first : ℕ) (batches : List (List Record)) → Option Survey → Type 0
SurveysUnless None first batches None = ⊥
SurveysUnless None first batches (Some survey) = Surveys first batches survey
SurveysUnless (Some s) first batches survey = survey ≡ None

pub record Describes (p : Placed) (e : Entry) : Type 0 where
  pub slot : e.slot ≡ p.slot
  pub seq : e.seq ≡ seq_of p
  pub first : e.first ≡ first_of p
  pub summary : e.summary ≡ p.segment.header.summary
  pub survey : SurveysUnless p.segment.header.summary (first_of p) (batches_of p) e.survey

abbrev pub DescribesAny : Option Placed → Option Entry → Type 0
DescribesAny None None = ⊤
DescribesAny None (Some e) = ⊥
DescribesAny (Some p) None = ⊥
DescribesAny (Some p) (Some e) = Describes p e

abbrev pub Describe : List Placed → List Entry → Type 0
Describe [] [] = ⊤
Describe [] (e ∷ es) = ⊥
Describe (p ∷ ps) [] = ⊥
Describe (p ∷ ps) (e ∷ es) = Describes p e × Describe ps es
