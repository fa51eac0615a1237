-- Segments that lack a summary: which are to get one, and what stays of a medium as they do.
use Rattle.std.specs.Prelude.{◌≡◌, ◌&&◌, if◌then◌else◌, ℕ, Bool, true, false, List, [], ◌∷◌, Option, Some, None, ⊤}
use Rattle.vdr_terms.specs.Records.{Record}
use Rattle.vdr_entry.specs.declared.summary.Summary.{Summary}
use Rattle.vdr_directory.specs.Sequence.{Placed, batches_of, first_of, records_of, seq_of}
use Rattle.vdr_directory.specs.Order.{HasNone}
use Rattle.vdr_directory.specs.Leaving.{IsExactlySummarized}

-- A segment may have a summary before these: not the newest, nor the one before a newest that has no records.
abbrev pub MayHaveSummary : List Placed → Type 0
MayHaveSummary [] = ⊥
MayHaveSummary (q ∷ []) = HasNone q → ⊥
MayHaveSummary (q ∷ x ∷ rest) = ⊤

-- Whether it may.
abbrev pub has_some : List Record → Bool
has_some [] = false
has_some (r ∷ rs) = true

abbrev pub may_have_summary : List Placed → Bool
may_have_summary [] = false
may_have_summary (q ∷ []) = has_some (records_of q)
may_have_summary (q ∷ x ∷ rest) = true

abbrev pub has_no_summary : Option Summary → Bool
has_no_summary None = true
has_no_summary (Some s) = false

-- The newest of these has no summary.
abbrev pub EndsBare : List Placed → Type 0
EndsBare [] = ⊤
EndsBare (p ∷ []) = p.segment.header.summary ≡ None
EndsBare (p ∷ q ∷ ps) = EndsBare (q ∷ ps)

-- A segment is to get a summary before these.
abbrev pub is_bare : Placed → List Placed → Bool
is_bare p rest = has_no_summary p.segment.header.summary && may_have_summary rest

-- The slots of those that are to get one, the oldest first.
abbrev pub bare_of : List Placed → List ℕ
bare_of [] = []
bare_of (p ∷ rest) = if is_bare p rest then p.slot ∷ bare_of rest else bare_of rest

-- None is.
abbrev pub IsBroughtUp : List Placed → Type 0
IsBroughtUp placed = bare_of placed ≡ []

-- The same segment, but for a summary that it may have got, which is exact.
pub record IsAlike (p q : Placed) : Type 0 where
  pub slot : q.slot ≡ p.slot
  pub seq : seq_of q ≡ seq_of p
  pub first : first_of q ≡ first_of p
  pub batches : batches_of q ≡ batches_of p
  pub summary : (s : Summary) → p.segment.header.summary ≡ Some s → q.segment.header.summary ≡ Some s
  pub exact : p.segment.header.summary ≡ None → IsExactlySummarized q

-- The same segments in the same order, but for summaries that some have got.
abbrev pub AreAlike : (placed now : List Placed) → Type 0
AreAlike [] [] = ⊤
AreAlike [] (q ∷ qs) = ⊥
AreAlike (p ∷ ps) [] = ⊥
AreAlike (p ∷ ps) (q ∷ qs) = IsAlike p q × AreAlike ps qs
