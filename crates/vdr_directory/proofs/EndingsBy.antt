-- The end of the records that opening reads of segments is the end of them all.
use Rattle.std.proofs.Common.{◌≡◌, List, [], ◌∷◌, length, map, Option, Some, None, option_map, inl, inr, refl, sym, ap, ◌∙◌, subst}
use Rattle.std.specs.Prelude.{◌⊎◌, slice_get}
use Rattle.std.proofs.lemmas.Option.{none-some}
use Rattle.vdr_terms.specs.Records.{Record, last}
use Rattle.vdr_entry.specs.declared.summary.Summary.{Summary}
use Rattle.vdr_index.specs.declared.extent.Extent.{Extent}
use Rattle.vdr_index.specs.Extents.{records_in, first_records, extent_between, extent_of}
use Rattle.vdr_directory.specs.declared.newest.Ending.{Ending}
use Rattle.vdr_directory.specs.Sequence.{Placed, batches_of, batches_in}
use Rattle.vdr_directory.specs.Order.{AreInPlace, HasNone}
use Rattle.vdr_directory.specs.Knowns.{summary_of, batches_read, known_of, HasNoneBy, MayPrecedeBy, AreInPlaceBy}
use Rattle.vdr_directory.specs.Directories.{ending_by, later}
use Rattle.vdr_directory.proofs.ByKnowns.{precedes_by, precedes_known, told}
use Rattle.vdr_directory.proofs.Ends.{none_recorded}
use Rattle.vdr_directory.proofs.Endings.{ending_append, ending_in}
use Rattle.vdr_directory.proofs.Extents.{count_bare, read_all}

-- Each may stand before those behind it, by what is known of them.
abbrev pub PrecedeBy : List Placed → Type 0
PrecedeBy [] = Unit {0}
PrecedeBy (p ∷ ps) = MayPrecedeBy p ps × PrecedeBy ps

pub precede_by : (o : Option Placed) (known : List Placed) → AreInPlaceBy o known → PrecedeBy known
precede_by o [] h = tt
precede_by o (p ∷ ps) h = (h.0.precedes, precede_by (Some p) ps h.1)

pub precede_known : (o : Option Placed) (placed : List Placed) → AreInPlace o placed → PrecedeBy (map known_of placed)
precede_known o [] h = tt
precede_known o (p ∷ ps) h = (precedes_known p ps (precedes_by p ps (told o p ps h.0) h.1 h.0.precedes), precede_known (Some p) ps h.1)

-- There is an end

pub record HasEnding (o : Option Ending) : Type 0 where
  pub ending : Ending
  pub is : o ≡ Some ending

has_or_none : (o : Option Ending) → (o ≡ None) ⊎ HasEnding o
has_or_none None = inl refl
has_or_none (Some x) = inr (record { ending = x; is = refl })

later_some : (a b : Option Ending) → HasEnding a → HasEnding (later a b)
later_some a None h = h
later_some a (Some x) h = record { ending = x; is = refl }

later_ends : (a b : Option Ending) → HasEnding b → HasEnding (later a b)
later_ends a None h = absurd (none-some h.ending h.is)
later_ends a (Some x) h = record { ending = x; is = refl }

pub later_same : (a b c : Option Ending) → HasEnding c → later a c ≡ later b c
later_same a b None h = absurd (none-some h.ending h.is)
later_same a b (Some x) h = refl

from_none : (o : Option Extent) → option_map ending_by o ≡ None → o ≡ None
from_none None e = refl
from_none (Some x) e = cc

-- batches that have an end have records
pub ended_some : (bs : List (List Record)) → HasEnding (ending_in bs) → records_in bs ≡ [] → ⊥
ended_some bs h none =
    none-some h.ending (sym (ap (λ (rs : List Record). option_map ending_by (extent_between (slice_get rs 0) (last rs) (last (first_records bs)))) none) ∙ h.is)

-- a segment with records has an end, and so have those with more behind it
ends_some : (q : Placed) (rest : List Placed) → (HasNone q → ⊥) → HasEnding (ending_in (batches_in (q ∷ rest)))
ends_some q rest some = subst HasEnding (sym (ending_append (batches_of q) (batches_in rest))) (later_some (ending_in (batches_of q)) (ending_in (batches_in rest)) (own (has_or_none (ending_in (batches_of q)))))
  where
    own : (ending_in (batches_of q) ≡ None) ⊎ HasEnding (ending_in (batches_of q)) → HasEnding (ending_in (batches_of q))
    own (inl none) = absurd (some (none_recorded (batches_of q) (from_none (extent_of (batches_of q)) none)).0)
    own (inr h) = h

pub none_read : (q : Placed) → summary_of q ≡ None → HasNone q → HasNoneBy q
none_read q none empty = count_bare q none ∙ ap length (read_all q none ∙ empty)

-- behind one that has a summary there are records that were read
pub behind_summarized : (p : Placed) (s : Summary) (ps : List Placed) → MayPrecedeBy p ps → PrecedeBy ps → summary_of p ≡ Some s → HasEnding (ending_in (batches_in ps))
behind_summarized p s [] h rest is = absurd (none-some s (sym h ∙ is))
behind_summarized p s (q ∷ []) h rest is = ends_some q [] (λ none. none-some s (sym (h.1 (none_read q rest.0 none)) ∙ is))
behind_summarized p s (q ∷ x ∷ rest) h k is = go (λ t at. behind_summarized q t (x ∷ rest) k.0 k.1 at) (summary_of q) refl
  where
    some : (rest : List Placed) → MayPrecedeBy q (x ∷ rest) → HasNoneBy q → ⊥
    some [] h = h.0
    some (y ∷ ys) h = h

    Behind : Type 0
    Behind = (t : Summary) → summary_of q ≡ Some t → HasEnding (ending_in (batches_in (x ∷ rest)))

    go : Behind → (o : Option Summary) → summary_of q ≡ o → HasEnding (ending_in (batches_in (q ∷ x ∷ rest)))
    go behind None none = ends_some q (x ∷ rest) (λ empty. some rest k.0 (none_read q none empty))
    go behind (Some t) at = subst HasEnding (sym (ending_append (batches_of q) (batches_in (x ∷ rest)))) (later_ends (ending_in (batches_of q)) (ending_in (batches_in (x ∷ rest))) (behind t at))

pub read_same : (p : Placed) → summary_of p ≡ None → batches_of (known_of p) ≡ batches_of p
read_same p none = ap (λ (o : Option Summary). batches_read o (batches_of p)) none

-- The records that were read end as all do.
pub ending_known : (o : Option Placed) (placed : List Placed) → AreInPlace o placed → ending_in (batches_in (map known_of placed)) ≡ ending_in (batches_in placed)
ending_known o [] h = refl
ending_known o (p ∷ ps) h =
    ending_append (batches_of (known_of p)) (batches_in (map known_of ps)) ∙ go (summary_of p) refl ∙ ap (later (ending_in (batches_of p))) (ending_known (Some p) ps h.1)
    ∙ sym (ending_append (batches_of p) (batches_in ps))
  where
    go : (x : Option Summary) → summary_of p ≡ x → later (ending_in (batches_of (known_of p))) (ending_in (batches_in (map known_of ps))) ≡ later (ending_in (batches_of p)) (ending_in (batches_in (map known_of ps)))
    go None none = ap (λ (bs : List (List Record)). later (ending_in bs) (ending_in (batches_in (map known_of ps)))) (read_same p none)
    go (Some s) is =
        let k = precede_known o (p ∷ ps) h in
        later_same (ending_in (batches_of (known_of p))) (ending_in (batches_of p)) (ending_in (batches_in (map known_of ps))) (behind_summarized (known_of p) s (map known_of ps) k.0 k.1 is)
