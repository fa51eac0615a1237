-- A walk over segments that are in their places, up to the first that is not.
use Rattle.std.proofs.Common.{◌≡◌, ◌<◌, ◌≤◌, ◌+◌, ◌-◌, ℕ, suc, List, [], ◌∷◌, length, take, drop, get_or, slice_get, Option, Some, None, inl, inr, refl, sym, ap, ◌∙◌, subst, arith, add-one, drop-cons, length-drop}
use Rattle.std.specs.Prelude.{IfSome}
use Rattle.std.proofs.lemmas.List.{take_rest}
use Rattle.vdr_directory.specs.declared.entry.Entry.{Entry}
use Rattle.vdr_directory.specs.Sequence.{Placed}
use Rattle.vdr_directory.specs.Knowns.{RunsOnBy, IsInPlaceBy, AreInPlaceBy, AreInOrderBy, BreaksBy}
use Rattle.vdr_directory.specs.Entries.{Describes, DescribesAny, Describe}

-- The first i of the segments are in their places, the one before the rest is described by this entry, if there is one, and
-- the rest by the others.
pub record Passed (placed : List Placed) (entries : List Entry) (i : ℕ) (before : Option Entry) : Type 0 where
  pub newest : Option Placed
  pub rest : List Placed
  pub described : DescribesAny newest before
  pub ahead : Describe rest (drop i entries)
  pub runs_on : IfSome newest RunsOnBy
  pub in_order : AreInPlaceBy newest rest → AreInOrderBy placed
  pub breaks : (x : Placed) → BreaksBy newest rest x → BreaksBy None placed x
  pub at : slice_get placed i ≡ slice_get rest 0
  pub behind : (k : ℕ) → slice_get placed (i + suc k) ≡ slice_get rest (suc k)

pub passed_none : (placed : List Placed) (entries : List Entry) → Describe placed entries → Passed placed entries 0 None
passed_none placed entries d = record {
  newest = None;
  rest = placed;
  described = tt;
  ahead = d;
  runs_on = tt;
  in_order = λ h. h;
  breaks = λ x b. b;
  at = refl;
  behind = λ k. ap (λ (n : ℕ). slice_get placed n) (omega arith);
}

-- what stands ahead
pub record Next (entries : List Entry) (i : ℕ) (rest : List Placed) (e : Entry) : Type 0 where
  pub here : Placed
  pub after : List Placed
  pub split : rest ≡ here ∷ after
  pub described : Describes here e
  pub ahead : Describe after (drop (i + 1) entries)
  pub slice : Describe after (take (length entries - (i + 1)) (drop (i + 1) entries))

pub next_here : (entries : List Entry) (i : ℕ) (rest : List Placed) (d : Entry) → i < length entries → Describe rest (drop i entries) → Next entries i rest (get_or entries i d)
next_here entries i rest d lt h = go rest (subst (λ (es : List Entry). Describe rest es) cut h)
  where
    cut : drop i entries ≡ get_or entries i d ∷ drop (i + 1) entries
    cut = rw (add-one, drop-cons entries i d lt)

    go : (rest : List Placed) → Describe rest (get_or entries i d ∷ drop (i + 1) entries) → Next entries i rest (get_or entries i d)
    go [] none = absurd none
    go (p ∷ ps) d = record {
      here = p;
      after = ps;
      split = refl;
      described = d.0;
      ahead = d.1;
      slice = subst (λ (es : List Entry). Describe ps es) (sym (take_rest entries (i + 1))) d.1;
    }

pub none_ahead : (entries : List Entry) (i : ℕ) (rest : List Placed) → length entries ≤ i → Describe rest (drop i entries) → rest ≡ []
none_ahead entries i rest past h = go rest (drop i entries) (omega (arith, past, length-drop i entries)) h
  where
    go : (rest : List Placed) (es : List Entry) → length es ≡ 0 → Describe rest es → rest ≡ []
    go [] es size d = refl
    go (p ∷ ps) [] size d = absurd d
    go (p ∷ ps) (e ∷ es) size d = absurd (omega (arith, size))

-- one more in its place
pub passed_more : (placed : List Placed) (entries : List Entry) (i : ℕ) (before : Option Entry) (e : Entry) → (h : Passed placed entries i before) → (n : Next entries i h.rest e)
    → IsInPlaceBy h.newest n.here n.after → Passed placed entries (i + 1) (Some e)
passed_more placed entries i before e h n place = record {
  newest = Some n.here;
  rest = n.after;
  described = n.described;
  ahead = n.ahead;
  runs_on = place.runs_on;
  in_order = λ after. h.in_order (subst (λ (ps : List Placed). AreInPlaceBy h.newest ps) (sym n.split) (place, after));
  breaks = λ x b. h.breaks x (subst (λ (ps : List Placed). BreaksBy h.newest ps x) (sym n.split) (inr (place, b)));
  at = h.behind 0 ∙ ap (λ (ps : List Placed). slice_get ps 1) n.split;
  behind = λ k. ap (λ (m : ℕ). slice_get placed m) (omega arith) ∙ h.behind (suc k) ∙ ap (λ (ps : List Placed). slice_get ps (suc (suc k))) n.split;
}

-- the first that is not
pub passed_break : (placed : List Placed) (entries : List Entry) (i : ℕ) (before : Option Entry) (e : Entry) → (h : Passed placed entries i before) → (n : Next entries i h.rest e)
    → (IsInPlaceBy h.newest n.here n.after → ⊥) → (x : Placed) × (slice_get placed i ≡ Some x) × BreaksBy None placed x
passed_break placed entries i before e h n broken = (
  n.here,
  h.at ∙ ap (λ (ps : List Placed). slice_get ps 0) n.split,
  h.breaks n.here (subst (λ (ps : List Placed). BreaksBy h.newest ps n.here) (sym n.split) (inl (refl, broken))),
)

-- all of them
pub passed_all : (placed : List Placed) (entries : List Entry) (i : ℕ) (before : Option Entry) → length entries ≤ i → Passed placed entries i before → AreInOrderBy placed
passed_all placed entries i before past h = h.in_order (subst (λ (ps : List Placed). AreInPlaceBy h.newest ps) (sym (none_ahead entries i h.rest past h.ahead)) tt)
