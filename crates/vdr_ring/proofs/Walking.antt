-- The next segment that may have a record that a query selects.
use Rattle.std.proofs.Common.{◌≡◌, inl, inr, ⊎_elim, ◌<◌, ℕ, false, List, [], ◌∷◌, ◌++◌, Option, Some, None, refl, sym, ap, ◌∙◌, subst, arith, append_assoc, Bool, true, filter, Result, Ok, Err}
use Rattle.std.specs.Prelude.{All, Contains}
use Rattle.std.proofs.lemmas.Bool.{cond-false, cond-true}
use Rattle.std.proofs.lemmas.List.Elements.{All-head, All-tail, Contains-append_left, Contains-append_right, Contains-append_cases, filter-append}
use Rattle.std.proofs.lemmas.Option.{none-some}
use Rattle.vdr_terms.specs.Records.{Record}
use Rattle.vdr_terms.specs.Queries.{Query, Span}
use Rattle.vdr_durability.specs.Playback.{found}
use Rattle.vdr_durability.proofs.Lists.{none_contained, contains_here, contains_there, contains_cases}
use Rattle.vdr_directory.specs.Sequence.{Placed, seq_of, records_of, all_records}
use Rattle.vdr_directory.specs.Order.{AreInPlace, AreInOrder}
use Rattle.vdr_index.specs.Indexes.{IsAbove, span_as}
use Rattle.vdr_directory.specs.Indexed.{HasNoneSelected, is_selected}
use Rattle.vdr_ring.specs.Visits as visits
use Rattle.vdr_ring.specs.declared.cursor.Standing.{Standing}
use Rattle.vdr_ring.specs.Walks.{CursorState, Slots, IsWithin, IsBefore, IsBehind, AreAhead, AreLeft, AreLeftBehind, seq_in, GivesHere}
use Rattle.vdr_ring.proofs.Allowed.{records_append}
use Rattle.vdr_entry.specs.Queries.{asked}
use Rattle.vdr_index.specs.declared.selection.Selection.{Selection}
use Rattle.vdr_index.specs.Selections.{is_selected as is_chosen}
use Rattle.vdr_ring.specs.Visits.{Visits}
use Rattle.vdr_ring.specs.declared.refused.ReadRefused.{ReadRefused}
use Rattle.vdr_ring.specs.declared.refused.ReadRefused.TheVariants.{Fault, Damaged}

-- A cursor that stands in no segment has all records ahead, and all that are found of them are left.
pub new_left : (query : Query) (span : Option Span) (slots : Slots) (placed : List Placed) (c : CursorState) → c.standing ≡ None → AreLeft slots placed query span c (found query span (all_records placed))
new_left query span slots placed c stands = record {
  ahead = all_records placed;
  are_ahead = record { passed = []; split = refl; from = subst (λ (o : Option Standing). IsBefore slots placed o c.visit (all_records placed)) (sym stands) refl };
  are = refl;
}

-- Sequence numbers rise from segment to segment

rises_behind : (q : Placed) (ps : List Placed) → AreInPlace (Some q) ps → (p : Placed) → Contains ps p → seq_of q < seq_of p
rises_behind q [] h p m = absurd (none_contained p m)
rises_behind q (x ∷ xs) h p m =
    ⊎_elim
    (λ (e : x ≡ p). subst (λ (y : Placed). seq_of q < seq_of y) e h.0.follows.seq)
    (λ (k : Contains xs p). let a = h.0.follows.seq in let b = rises_behind x xs h.1 p k in omega (arith, a, b))
    (contains_cases x xs p m)

in_place_behind : (o : Option Placed) (before : List Placed) (own : Placed) (later : List Placed) → AreInPlace o (before ++ own ∷ later) → AreInPlace (Some own) later
in_place_behind o [] own later h = h.1
in_place_behind o (x ∷ xs) own later h = in_place_behind (Some x) xs own later h.1

below_own : (o : Option Placed) (before : List Placed) (own : Placed) (later : List Placed) → AreInPlace o (before ++ own ∷ later) → (p : Placed) → Contains before p → seq_of p < seq_of own
below_own o [] own later h p m = absurd (none_contained p m)
below_own o (x ∷ xs) own later h p m =
    ⊎_elim
    (λ (e : x ≡ p). subst (λ (y : Placed). seq_of y < seq_of own) e (rises_behind x (xs ++ own ∷ later) h.1 own (Contains-append_right xs (own ∷ later) own (contains_here own later))))
    (λ (k : Contains xs p). below_own (Some x) xs own later h.1 p k)
    (contains_cases x xs p m)

-- A segment stands between those before it and those behind it.
pub record StandsAmong (ps : List Placed) (p : Placed) : Type 0 where
  pub before : List Placed
  pub rest : List Placed
  pub split : ps ≡ before ++ p ∷ rest

among : (ps : List Placed) (p : Placed) → Contains ps p → StandsAmong ps p
among [] p m = absurd (none_contained p m)
among (x ∷ xs) p m =
    ⊎_elim
    (λ (e : x ≡ p). record { before = []; rest = xs; split = ap (λ (y : Placed). y ∷ xs) e })
    (λ (k : Contains xs p). let a = among xs p k in record { before = x ∷ a.before; rest = a.rest; split = ap (λ (ys : List Placed). x ∷ ys) a.split })
    (contains_cases x xs p m)

-- What a query selects none of

module _ (query : Query) (span : Span) where
  none_of_records : (rs : List Record) → All (λ r. is_selected query span r ≡ false) rs → found query (Some span) rs ≡ []
  none_of_records [] h = refl
  none_of_records (r ∷ rs) h =
      cond-false (is_selected query span r) (r ∷ found query (Some span) rs) (found query (Some span) rs) (All-head (λ r. is_selected query span r ≡ false) r rs h)
      ∙ none_of_records rs (All-tail (λ r. is_selected query span r ≡ false) r rs h)

  -- what is found in two parts, where none is found in the first
  found_in_rest : (ahead passed rest : List Record) → ahead ≡ passed ++ rest → found query (Some span) passed ≡ [] → found query (Some span) ahead ≡ found query (Some span) rest
  found_in_rest ahead passed rest split none =
      ap (found query (Some span)) split ∙ filter-append (is_selected query span) passed rest ∙ ap (λ (rs : List Record). rs ++ found query (Some span) rest) none

  none_of_segments : (ps : List Placed) → ((q : Placed) → Contains ps q → HasNoneSelected query span q) → found query (Some span) (all_records ps) ≡ []
  none_of_segments [] h = refl
  none_of_segments (p ∷ ps) h =
      found_in_rest (all_records (p ∷ ps)) (records_of p) (all_records ps) refl (none_of_records (records_of p) (h p (contains_here p ps))) ∙ none_of_segments ps (λ q m. h q (contains_there p ps q m))

-- a segment above the cursor's own is among the later ones
in_later : (before : List Placed) (own : Placed) (later : List Placed) → AreInOrder (before ++ own ∷ later) → (p : Placed) → Contains (before ++ own ∷ later) p → seq_of own < seq_of p → Contains later p
in_later before own later order p there above =
    ⊎_elim
    (λ (k : Contains before p). let a = below_own None before own later order p k in absurd (omega (arith, a, above)))
    (λ (k : Contains (own ∷ later) p).
    ⊎_elim
    (λ (e : own ≡ p). let b = subst (λ (y : Placed). seq_of own < seq_of y) (sym e) above in absurd (omega (arith, b)))
    (λ (m : Contains later p). m)
    (contains_cases own later p k))
    (Contains-append_cases before (own ∷ later) p there)

-- What is ahead once it is entered, or where none is there

-- the cursor stands at the front of this segment
front_of : (slots : Slots) (before : List Placed) (p : Placed) (rest : List Placed) (s : Standing) (visit : visits.VisitState) → s.slot ≡ p.slot → s.seq ≡ seq_of p → visit.slot ≡ None
    → IsWithin slots (before ++ p ∷ rest) s visit (records_of p) (all_records (p ∷ rest))
front_of slots before p rest s visit slot seq new = record {
  before = before;
  own = p;
  later = rest;
  split = refl;
  slot = sym slot;
  seq = sym seq;
  in_slot = inl (p, Contains-append_right before (p ∷ rest) p (contains_here p rest), sym slot, inr (λ e. none-some p.slot (sym new ∙ e), refl));
  are = refl;
}

-- what is ahead of it then, whatever it was in before
pub front_ahead : (slots : Slots) (placed before : List Placed) (p : Placed) (rest : List Placed) (c : CursorState) (s : Standing) (ahead passed : List Record)
    → placed ≡ before ++ p ∷ rest → c.standing ≡ Some s → s.slot ≡ p.slot → s.seq ≡ seq_of p → c.visit.slot ≡ None → ahead ≡ all_records (p ∷ rest) → all_records placed ≡ passed ++ ahead
    → AreAhead slots placed c ahead
front_ahead slots placed before p rest c s ahead passed is stands slot seq new are split = record {
  passed = passed;
  split = split;
  from = subst (λ (o : Option Standing). IsBefore slots placed o c.visit ahead) (sym stands) (
    records_of p,
    subst (λ (ps : List Placed). IsWithin slots ps s c.visit (records_of p) ahead) (sym is)
        (subst (λ (rs : List Record). IsWithin slots (before ++ p ∷ rest) s c.visit (records_of p) rs) (sym are) (front_of slots before p rest s c.visit slot seq new)),
  );
}

-- The next segment that meets is entered: those before it, behind the cursor's own, are passed over.
module _ (query : Query) (span : Span) (slots : Slots) (placed : List Placed) (old : CursorState) (records : List Record) (order : AreInOrder placed) (left : AreLeftBehind slots placed query (Some span) old records) where
  -- those before what is ahead
  abbrev behind : List Record
  behind = left.are_behind.passed

  -- what is left at the front of a segment, where none is found in those that are passed over
  left_at_front : (new : CursorState) (s : Standing) (before : List Placed) (p : Placed) (rest over : List Placed) → placed ≡ before ++ p ∷ rest → left.ahead ≡ all_records (over ++ p ∷ rest)
      → found query (Some span) (all_records over) ≡ [] → new.standing ≡ Some s → s.slot ≡ p.slot → s.seq ≡ seq_of p → new.visit.slot ≡ None → AreLeft slots placed query (Some span) new records
  left_at_front new s before p rest over whole ahead none stands slot seq fresh =
      let parts : left.ahead ≡ all_records over ++ all_records (p ∷ rest) = ahead ∙ records_append over (p ∷ rest) in
      record {
        ahead = all_records (p ∷ rest);
        are_ahead = front_ahead slots placed before p rest new s (all_records (p ∷ rest)) (behind ++ all_records over) whole stands slot seq fresh refl
            (left.are_behind.split ∙ ap (λ (rs : List Record). behind ++ rs) parts ∙ sym (append_assoc behind (all_records over) (all_records (p ∷ rest))));
        are = left.are ∙ found_in_rest query span left.ahead (all_records over) (all_records (p ∷ rest)) parts none;
      }

  pub entered_left : (new : CursorState) (s : Standing) (p : Placed) → Contains placed p → IsAbove (seq_in old.standing) (seq_of p)
      → ((q : Placed) → Contains placed q → IsAbove (seq_in old.standing) (seq_of q) → seq_of q < s.seq → HasNoneSelected query span q) → new.standing ≡ Some s → s.slot ≡ p.slot → s.seq ≡ seq_of p
      → new.visit.slot ≡ None → AreLeft slots placed query (Some span) new records
  entered_left new s p there above none stands slot seq fresh = go old.standing left.are_behind.from above none
    where
      go : (o : Option Standing) → IsBehind slots placed o old.visit left.ahead → IsAbove (seq_in o) (seq_of p)
          → ((q : Placed) → Contains placed q → IsAbove (seq_in o) (seq_of q) → seq_of q < s.seq → HasNoneSelected query span q) → AreLeft slots placed query (Some span) new records
      go None from above none =
          let a = among placed p there in
          let in_order = subst AreInOrder a.split order in
          let over : found query (Some span) (all_records a.before) ≡ [] = none_of_segments query span a.before (λ q m.
          let lt = below_own None a.before p a.rest in_order q m in
          none q (subst (λ (ps : List Placed). Contains ps q) (sym a.split) (Contains-append_left a.before (p ∷ a.rest) q m)) tt (omega (arith, lt, seq))) in
          left_at_front new s a.before p a.rest a.before a.split (from ∙ ap all_records a.split) over stands slot seq fresh
      go (Some t) from above none =
          let in_order = subst AreInOrder from.split order in
          let later : Contains from.later p = in_later from.before from.own from.later in_order p (subst (λ (ps : List Placed). Contains ps p) from.split there) (subst (λ (n : ℕ). n < seq_of p) (sym from.seq) above) in
          let a = among from.later p later in
          let behind_own = subst (AreInPlace (Some from.own)) a.split (in_place_behind None from.before from.own from.later in_order) in
          let over : found query (Some span) (all_records a.before) ≡ [] = none_of_segments query span a.before (λ q m.
          let lt = below_own (Some from.own) a.before p a.rest behind_own q m in
          let in_rest : Contains (a.before ++ p ∷ a.rest) q = Contains-append_left a.before (p ∷ a.rest) q m in
          let own_lt = rises_behind from.own (a.before ++ p ∷ a.rest) behind_own q in_rest in
          none q
          (subst (λ (ps : List Placed). Contains ps q) (sym from.split)
          (Contains-append_right from.before (from.own ∷ from.later) q (contains_there from.own from.later q (subst (λ (ps : List Placed). Contains ps q) (sym a.split) in_rest))))
          (subst (λ (n : ℕ). n < seq_of q) from.seq own_lt) (omega (arith, lt, seq))) in
          left_at_front new s (from.before ++ from.own ∷ a.before) p a.rest a.before
          (from.split ∙ ap (λ (ps : List Placed). from.before ++ from.own ∷ ps) a.split ∙ sym (append_assoc from.before (from.own ∷ a.before) (p ∷ a.rest)))
          (from.are ∙ ap all_records a.split) over stands slot seq fresh

  -- no segment above meets
  pub none_left : ((q : Placed) → Contains placed q → IsAbove (seq_in old.standing) (seq_of q) → HasNoneSelected query span q) → AreLeft slots placed query (Some span) old records × (records ≡ [])
  none_left none = (
    record { ahead = left.ahead; are_ahead = record { passed = behind; split = left.are_behind.split; from = still old.standing left.are_behind.from }; are = left.are },
    left.are ∙ empty old.standing left.are_behind.from none,
  )
    where
      still : (o : Option Standing) → IsBehind slots placed o old.visit left.ahead → IsBefore slots placed o old.visit left.ahead
      still None from = from
      still (Some s) from = ([], from)

      empty : (o : Option Standing) → IsBehind slots placed o old.visit left.ahead → ((q : Placed) → Contains placed q → IsAbove (seq_in o) (seq_of q) → HasNoneSelected query span q)
          → found query (Some span) left.ahead ≡ []
      empty None from none = ap (found query (Some span)) from ∙ none_of_segments query span placed (λ q m. none q m tt)
      empty (Some t) from none =
          let behind_own = in_place_behind None from.before from.own from.later (subst AreInOrder from.split order) in
          ap (found query (Some span)) from.are
          ∙ none_of_segments query span from.later (λ q m.
          none q (subst (λ (ps : List Placed). Contains ps q) (sym from.split) (Contains-append_right from.before (from.own ∷ from.later) q (contains_there from.own from.later q m)))
          (subst (λ (n : ℕ). n < seq_of q) from.seq (rises_behind from.own from.later behind_own q m)))

-- Steps of a cursor in one segment.

-- None of the records that are passed by is found.
found_behind : (s : Selection) (passed ahead : List Record) → All (λ r. is_chosen s r ≡ false) passed → filter (is_chosen s) (passed ++ ahead) ≡ filter (is_chosen s) ahead
found_behind s [] ahead none = refl
found_behind s (r ∷ rs) ahead none =
    cond-false (is_chosen s r) (r ∷ filter (is_chosen s) (rs ++ ahead)) (filter (is_chosen s) (rs ++ ahead)) (All-head (λ x. is_chosen s x ≡ false) r rs none)
    ∙ found_behind s rs ahead (All-tail (λ x. is_chosen s x ≡ false) r rs none)

module _ (selection : Selection) (slots : Slots) (placed : List Placed) (s : Standing) (old : visits.VisitState) (new : CursorState) (here ahead passed records : List Record)
    (within : IsWithin slots placed s old here ahead) (split : all_records placed ≡ passed ++ ahead) (found : records ≡ filter (is_chosen selection) ahead) (stands : new.standing ≡ Some s) where
  -- these are in its slot now, and these are ahead
  moved : (more rest : List Record) → rest ≡ more ++ all_records within.later → visits.AreAhead (slots s.slot) placed s.slot new.visit more → IsWithin slots placed s new.visit more rest
  moved more rest are in_slot = record {
    before = within.before;
    own = within.own;
    later = within.later;
    split = within.split;
    slot = within.slot;
    seq = within.seq;
    in_slot = in_slot;
    are = are;
  }

  are_ahead : (gone more rest : List Record) → all_records placed ≡ gone ++ rest → rest ≡ more ++ all_records within.later
      → visits.AreAhead (slots s.slot) placed s.slot new.visit more → AreAhead slots placed new rest
  are_ahead gone more rest parts are in_slot = record {
    passed = gone;
    split = parts;
    from = subst (λ (o : Option Standing). IsBefore slots placed o new.visit rest) (sym stands) (more, moved more rest are in_slot);
  }

  abbrev Left : List Record → Type 0
  Left rs = AreLeft slots placed (asked selection.query) (Some (span_as selection.span)) new rs

  abbrev LeftBehind : List Record → Type 0
  LeftBehind rs = AreLeftBehind slots placed (asked selection.query) (Some (span_as selection.span)) new rs

  -- of the segment so many are gone, and the others stand before those of later segments
  parted : (gone more : List Record) → here ≡ gone ++ more → ahead ≡ gone ++ (more ++ all_records within.later)
  parted gone more is = within.are ∙ ap (λ (rs : List Record). rs ++ all_records within.later) is ∙ append_assoc gone more (all_records within.later)

  pub gives_here : (result : Result Bool ReadRefused) → Visits selection (slots s.slot) placed s.slot here result new.visit → GivesHere records result new.visit.item Left LeftBehind
  gives_here (Ok true) (gone, r, more, is, none, chosen, item, in_slot) =
      let rest : List Record = more ++ all_records within.later in
      let all : ahead ≡ gone ++ (r ∷ rest) = parted gone (r ∷ more) is in
      let parts : all_records placed ≡ (passed ++ (gone ++ (r ∷ []))) ++ rest =
      split ∙ ap (λ (rs : List Record). passed ++ rs) (all ∙ sym (append_assoc gone (r ∷ []) rest)) ∙ sym (append_assoc passed (gone ++ (r ∷ [])) rest) in (
        r,
        filter (is_chosen selection) rest,
        found ∙ ap (filter (is_chosen selection)) all ∙ found_behind selection gone (r ∷ rest) none
            ∙ cond-true (is_chosen selection r) (r ∷ filter (is_chosen selection) rest) (filter (is_chosen selection) rest) chosen,
        item,
        record { ahead = rest; are_ahead = are_ahead (passed ++ (gone ++ (r ∷ []))) more rest parts refl in_slot; are = refl },
      )
  gives_here (Ok false) (none, item, in_slot) =
      let rest : List Record = all_records within.later in (
        item,
        record {
          ahead = rest;
          are_behind = record {
            passed = passed ++ here;
            split = split ∙ ap (λ (rs : List Record). passed ++ rs) within.are ∙ sym (append_assoc passed here rest);
            from = subst (λ (o : Option Standing). IsBehind slots placed o new.visit rest) (sym stands) (moved [] rest refl in_slot);
          };
          are = found ∙ ap (filter (is_chosen selection)) within.are ∙ found_behind selection here rest none;
        },
      )
  gives_here (Err Fault) (item, in_slot) = (item, record { ahead = ahead; are_ahead = are_ahead passed here ahead split within.are in_slot; are = found })
  gives_here (Err (Damaged m offset)) h = absurd h
