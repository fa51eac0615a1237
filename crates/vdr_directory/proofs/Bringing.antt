-- A medium is brought up: the first of its bare segments gets its summary, and what is alike stays so.
use Rattle.std.proofs.Common.{◌≡◌, ◌&&◌, ⊎_elim, Any, if◌then◌else◌, ℕ, Bool, true, false, List, [], ◌∷◌, ◌++◌, Option, Some, None, drop, length, get_or, is_some, ◌+◌, ◌≤◌, refl, sym, ap, ◌∙◌, subst, append-nil, append_assoc, arith}
use Rattle.std.specs.Prelude.{IfSome}
use Rattle.std.proofs.lemmas.Bool.{and_parts, false≢true}
use Rattle.std.proofs.lemmas.Option.{none-some}
use Rattle.vdr_terms.specs.Records.{Record}
use Rattle.vdr_terms.proofs.Somewhere.{any_cases, any_here, any_none, any_there}
use Rattle.vdr_durability.specs.Layout.{segment_records}
use Rattle.vdr_entry.specs.declared.summary.Summary.{Summary}
use Rattle.vdr_directory.specs.Sequence.{Placed, batches_of, first_of, records_of, segments_in, batches_in}
use Rattle.vdr_directory.specs.Order.{AreInPlace, HasNone, HasPlace, MayPrecede}
use Rattle.vdr_directory.specs.Knowns.{AreInPlaceBy}
use Rattle.vdr_index.specs.declared.extent.Extent.{Extent}
use Rattle.vdr_directory.specs.declared.entry.Entry.{Entry}
use Rattle.vdr_directory.specs.Entries.{Describe}
use Rattle.vdr_directory.specs.Indexed.{extent_by}
use Rattle.vdr_directory.specs.Leaving.{IsExact, summarized}
use Rattle.vdr_directory.specs.Bringing.{AreAlike, EndsBare, MayHaveSummary, bare_of, has_no_summary, has_some, is_bare, may_have_summary}
use Rattle.vdr_directory.proofs.Extents.{TellsExtent, read_all, tells_extent}
use Rattle.vdr_directory.proofs.Passing.{Next, none_ahead}

pub alike_self : (placed : List Placed) → AreAlike placed placed
alike_self [] = tt
alike_self (p ∷ ps) = (
  record {
    slot = refl;
    seq = refl;
    first = refl;
    batches = refl;
    summary = λ s e. e;
    exact = λ none. subst (λ (o : Option Summary). IfSome o (IsExact p)) (sym none) tt;
  },
  alike_self ps,
)

-- one that had no summary gets an exact one
pub alike_more : (placed older : List Placed) (p : Placed) (rest : List Placed) (s : Summary) → p.segment.header.summary ≡ None → IsExact p s → AreAlike placed (older ++ p ∷ rest)
    → AreAlike placed (older ++ summarized p s ∷ rest)
alike_more [] [] p rest s none exact h = absurd h
alike_more [] (z ∷ older) p rest s none exact h = absurd h
alike_more (x ∷ placed) [] p rest s none exact h = (
  record {
    slot = h.0.slot;
    seq = h.0.seq;
    first = h.0.first;
    batches = h.0.batches;
    summary = λ t e. absurd (some_or_none t (sym (h.0.summary t e) ∙ none));
    exact = λ _. record { count = exact.count; summary = exact.summary };
  },
  h.1,
)
  where
    some_or_none : (t : Summary) → Some t ≡ None → ⊥
    some_or_none t e = cc
alike_more (x ∷ placed) (z ∷ older) p rest s none exact h = (h.0, alike_more placed older p rest s none exact h.1)

pub alike_segments : (placed now : List Placed) → AreAlike placed now → segments_in now ≡ segments_in placed
alike_segments [] [] h = refl
alike_segments [] (q ∷ qs) h = absurd h
alike_segments (p ∷ ps) [] h = absurd h
alike_segments (p ∷ ps) (q ∷ qs) h = λ i. (h.0.batches i) ∷ alike_segments ps qs h.1 i

pub alike_batches : (placed now : List Placed) → AreAlike placed now → batches_in now ≡ batches_in placed
alike_batches [] [] h = refl
alike_batches [] (q ∷ qs) h = absurd h
alike_batches (p ∷ ps) [] h = absurd h
alike_batches (p ∷ ps) (q ∷ qs) h = λ i. (h.0.batches i) ++ alike_batches ps qs h.1 i

-- The first that is bare.
pub record IsFirstBare (placed : List Placed) (slot : ℕ) (more : List ℕ) : Type 0 where
  pub older : List Placed
  pub bare : Placed
  pub rest : List Placed
  pub split : placed ≡ older ++ bare ∷ rest
  pub at : bare.slot ≡ slot
  pub none : bare.segment.header.summary ≡ None
  pub may : MayHaveSummary rest
  pub brought : (s : Summary) → bare_of (older ++ summarized bare s ∷ rest) ≡ more

none_there : (o : Option Summary) → has_no_summary o ≡ true → o ≡ None
none_there None e = refl
none_there (Some s) e = absurd (false≢true e)

may_there : (rest : List Placed) → may_have_summary rest ≡ true → MayHaveSummary rest
may_there [] e = absurd (false≢true e)
may_there (q ∷ []) e = λ none. absurd (false≢true (sym (ap has_some none) ∙ e))
may_there (q ∷ x ∷ rest) e = tt

may_still : (older : List Placed) (p : Placed) (rest : List Placed) (s : Summary) → may_have_summary (older ++ summarized p s ∷ rest) ≡ may_have_summary (older ++ p ∷ rest)
may_still [] p [] s = refl
may_still [] p (q ∷ rest) s = refl
may_still (x ∷ []) p rest s = refl
may_still (x ∷ y ∷ older) p rest s = refl

pub first_bare : (placed : List Placed) (slot : ℕ) (more : List ℕ) → bare_of placed ≡ slot ∷ more → IsFirstBare placed slot more
first_bare [] slot more e = absurd (nothing e)
  where
    nothing : [] ≡ slot ∷ more → ⊥
    nothing e = cc
first_bare (p ∷ rest) slot more e = go (is_bare p rest) refl (first_bare rest slot more)
  where
    go : (b : Bool) → is_bare p rest ≡ b → (bare_of rest ≡ slot ∷ more → IsFirstBare rest slot more) → IsFirstBare (p ∷ rest) slot more
    go true is behind =
        let both : p.slot ∷ bare_of rest ≡ slot ∷ more = sym (ap (λ (b : Bool). if b then p.slot ∷ bare_of rest else bare_of rest) is) ∙ e in
        let parts = and_parts (has_no_summary p.segment.header.summary) (may_have_summary rest) is in
        record {
          older = [];
          bare = p;
          rest = rest;
          split = refl;
          at = same_head both;
          none = none_there p.segment.header.summary parts.0;
          may = may_there rest parts.1;
          brought = λ s. same_tail both;
        }
      where
        same_head : p.slot ∷ bare_of rest ≡ slot ∷ more → p.slot ≡ slot
        same_head e = cc

        same_tail : p.slot ∷ bare_of rest ≡ slot ∷ more → bare_of rest ≡ more
        same_tail e = cc
    go false is behind =
        let h = behind (sym (ap (λ (b : Bool). if b then p.slot ∷ bare_of rest else bare_of rest) is) ∙ e) in
        record {
          older = p ∷ h.older;
          bare = h.bare;
          rest = h.rest;
          split = ap (λ (ps : List Placed). p ∷ ps) h.split;
          at = h.at;
          none = h.none;
          may = h.may;
          brought = λ s.
              let now = h.older ++ summarized h.bare s ∷ h.rest in
              let same : may_have_summary now ≡ may_have_summary rest = may_still h.older h.bare h.rest s ∙ ap may_have_summary (sym h.split) in
              ap (λ (b : Bool). if has_no_summary p.segment.header.summary && b then p.slot ∷ bare_of now else bare_of now) same
              ∙ ap (λ (b : Bool). if b then p.slot ∷ bare_of now else bare_of now) is
              ∙ h.brought s;
        }

-- A segment that may have a summary before these has records.
pub some_before : (p : Placed) (rest : List Placed) → MayHaveSummary rest → MayPrecede p rest → HasNone p → ⊥
some_before p [] may h = absurd may
some_before p (q ∷ []) may h = h.0
some_before p (q ∷ x ∷ rest) may h = h

-- What was found bare of the first i, and the others ahead.
pub record FoundBare (placed : List Placed) (entries : List Entry) (i : ℕ) (bare : List ℕ) : Type 0 where
  pub rest : List Placed
  pub ends : EndsBare rest
  pub ahead : Describe rest (drop i entries)
  pub found : bare_of placed ≡ bare ++ bare_of rest

pub ends_bare : (o : Option Placed) (ps : List Placed) → AreInPlace o ps → EndsBare ps
ends_bare o [] h = tt
ends_bare o (p ∷ []) h = h.0.precedes
ends_bare o (p ∷ q ∷ ps) h = ends_bare (Some p) (q ∷ ps) h.1

pub ends_bare_by : (o : Option Placed) (ps : List Placed) → AreInPlaceBy o ps → EndsBare ps
ends_bare_by o [] h = tt
ends_bare_by o (p ∷ []) h = h.0.precedes
ends_bare_by o (p ∷ q ∷ ps) h = ends_bare_by (Some p) (q ∷ ps) h.1

ends_behind : (p : Placed) (ps : List Placed) → EndsBare (p ∷ ps) → EndsBare ps
ends_behind p [] h = tt
ends_behind p (q ∷ ps) h = h

pub found_none : (placed : List Placed) (entries : List Entry) → EndsBare placed → Describe placed entries → FoundBare placed entries 0 []
found_none placed entries ends d = record { rest = placed; ends = ends; ahead = d; found = refl }

module _ (placed : List Placed) (entries : List Entry) (i : ℕ) (bare : List ℕ) (e : Entry) (h : FoundBare placed entries i bare) (n : Next entries i h.rest e) where
  split : (b : Bool) → is_bare n.here n.after ≡ b → bare_of placed ≡ bare ++ (if b then n.here.slot ∷ bare_of n.after else bare_of n.after)
  split b is = h.found ∙ ap (λ (ps : List Placed). bare ++ bare_of ps) n.split ∙ ap (λ (b : Bool). bare ++ (if b then n.here.slot ∷ bare_of n.after else bare_of n.after)) is

  pub after_bare : EndsBare n.after
  after_bare = ends_behind n.here n.after (subst EndsBare n.split h.ends)

  -- one more that is
  pub found_bare : is_bare n.here n.after ≡ true → FoundBare placed entries (i + 1) (bare ++ e.slot ∷ [])
  found_bare is = record {
    rest = n.after;
    ends = after_bare;
    ahead = n.ahead;
    found = split true is ∙ ap (λ (j : ℕ). bare ++ j ∷ bare_of n.after) (sym n.described.slot) ∙ sym (append_assoc bare (e.slot ∷ []) (bare_of n.after));
  }

  -- and one that is not
  pub found_other : is_bare n.here n.after ≡ false → FoundBare placed entries (i + 1) bare
  found_other is = record { rest = n.after; ends = after_bare; ahead = n.ahead; found = split false is }

pub found_all : (placed : List Placed) (entries : List Entry) (i : ℕ) (bare : List ℕ) → length entries ≤ i → FoundBare placed entries i bare → bare ≡ bare_of placed
found_all placed entries i bare past h = sym (h.found ∙ ap (λ (ps : List Placed). bare ++ bare_of ps) (none_ahead entries i h.rest past h.ahead) ∙ append-nil bare)

has_extent : (rs : List Record) (o : Option Extent) → TellsExtent rs o → is_some o ≡ has_some rs
has_extent rs None none = sym (ap has_some none)
has_extent [] (Some x) h = absurd (none-some h.first h.begins)
has_extent (r ∷ rs) (Some x) h = refl

-- what one entry alone tells
pub one_behind : (ps : List Placed) (es : List Entry) (d : Entry) → length es ≡ 1 → EndsBare ps → Describe ps es → is_some (extent_by (get_or es 0 d).survey) ≡ may_have_summary ps
one_behind [] [] d one ends h = absurd (omega (arith, one))
one_behind [] (e ∷ es) d one ends h = absurd h
one_behind (p ∷ []) [] d one ends h = absurd h
one_behind (p ∷ []) (e ∷ es) d one ends h =
    has_extent (records_of p) (extent_by e.survey) (subst (λ (rs : List Record). TellsExtent rs (extent_by e.survey)) (read_all p ends) (tells_extent p e h.0))
one_behind (p ∷ q ∷ ps) [] d one ends h = absurd h
one_behind (p ∷ q ∷ ps) (e ∷ []) d one ends h = absurd h.1
one_behind (p ∷ q ∷ ps) (e ∷ f ∷ es) d one ends h = absurd (omega (arith, one))

-- Alike segments hold the same places.
same_place : (place : ℕ) (p q : Placed) → first_of q ≡ first_of p → batches_of q ≡ batches_of p → HasPlace place p → HasPlace place q
same_place place p q first batches h =
    let long = ap (λ (bs : List (List Record)). length (segment_records bs)) batches in
    record { from = omega (arith, first, h.from); below = omega (arith, first, long, h.below) }

pub alike_places : (place : ℕ) (placed now : List Placed) → AreAlike placed now → Any (HasPlace place) placed → Any (HasPlace place) now
alike_places place [] now h there = absurd (any_none (HasPlace place) there)
alike_places place (p ∷ ps) [] h there = absurd h
alike_places place (p ∷ ps) (q ∷ qs) h there = ⊎_elim
    (λ (here : HasPlace place p). any_here (HasPlace place) q qs (same_place place p q h.0.first h.0.batches here))
    (λ (later : Any (HasPlace place) ps). any_there (HasPlace place) q qs (alike_places place ps qs h.1 later))
    (any_cases (HasPlace place) p ps there)

pub places_alike : (place : ℕ) (placed now : List Placed) → AreAlike placed now → Any (HasPlace place) now → Any (HasPlace place) placed
places_alike place placed [] h there = absurd (any_none (HasPlace place) there)
places_alike place [] (q ∷ qs) h there = absurd h
places_alike place (p ∷ ps) (q ∷ qs) h there = ⊎_elim
    (λ (here : HasPlace place q). any_here (HasPlace place) p ps (same_place place q p (sym h.0.first) (sym h.0.batches) here))
    (λ (later : Any (HasPlace place) qs). any_there (HasPlace place) p ps (places_alike place ps qs h.1 later))
    (any_cases (HasPlace place) q qs there)
