-- The fronts of a medium's slots, one more at a time.
use Rattle.std.proofs.Common.{◌≡◌, ◌<◌, ◌+◌, ℕ, List, [], ◌∷◌, ◌++◌, map, All, Contains, Option, Some, None, inl, inr, ⊎_elim, refl, sym, ap, ◌∙◌, subst, arith, append-nil}
use Rattle.std.proofs.lemmas.Bool.{cases_eq}
use Rattle.std.proofs.lemmas.List.Elements.{All-contains, Contains-append_left, Contains-append_right, Contains-append_cases}
use Rattle.vdr_segment.specs.declared.header.Header.{Header}
use Rattle.vdr_segment.specs.Gates.{IsOpenAt}
use Rattle.vdr_segment.specs.Headers.{IsHeader}
use Rattle.vdr_segment.specs.Slots.{IsFront, place_of}
use Rattle.vdr_durability.proofs.Lists.{none_contained, contains_here, contains_there, contains_cases, all_from}
use Rattle.vdr_directory.specs.declared.entry.Entry.{Entry}
use Rattle.vdr_directory.specs.Entries.{slot_of}
use Rattle.vdr_directory.specs.Opening.{front_bytes, RefusesHeader}
use Rattle.vdr_directory.specs.Fronts.{Ascends, entry_of, opened_by, AreSlots, HasHeader, TellFronts}

-- behind an open gate there is a header or no front at all
pub no_front : (bytes : List ℕ) (front : Option Header) → IsOpenAt bytes 0 → ((h : Header) → IsHeader bytes h → ⊥) → IsFront bytes front → ⊥
no_front bytes None opened none is = is opened
no_front bytes (Some h) opened none is = none h is.1

-- The numbers of slots

pub ascends_more : (js : List ℕ) (n : ℕ) → Ascends js → All (λ j. j < n) js → Ascends (js ++ n ∷ [])
ascends_more [] n h below = (all_from (λ k. n < k) [] (λ k m. absurd (none_contained k m)), tt)
ascends_more (j ∷ js) n h below = (
  all_from (λ k. j < k) (js ++ n ∷ []) (λ k m. ⊎_elim
      (λ (l : Contains js k). All-contains (λ k. j < k) js k h.0 l)
      (λ (l : Contains (n ∷ []) k). ⊎_elim
      (λ (e : n ≡ k). let lt : j < n = All-contains (λ i. i < n) (j ∷ js) j below (contains_here j js) in omega (arith, e, lt))
      (λ (none : Contains [] k). absurd (none_contained k none))
      (contains_cases n [] k l))
      (Contains-append_cases js (n ∷ []) k m)),
  ascends_more js n h.1 (all_from (λ i. i < n) js (λ i m. All-contains (λ i. i < n) (j ∷ js) i below (contains_there j js i m))),
)

below_more : (js : List ℕ) (n : ℕ) → All (λ j. j < n) js → All (λ j. j < n + 1) (js ++ n ∷ [])
below_more js n below = all_from (λ j. j < n + 1) (js ++ n ∷ []) (λ j m. ⊎_elim
    (λ (l : Contains js j). let lt : j < n = All-contains (λ i. i < n) js j below l in omega (arith, lt))
    (λ (l : Contains (n ∷ []) j). ⊎_elim (λ (e : n ≡ j). omega (arith, e)) (λ (none : Contains [] j). absurd (none_contained j none)) (contains_cases n [] j l))
    (Contains-append_cases js (n ∷ []) j m))

below_still : (js : List ℕ) (n : ℕ) → All (λ j. j < n) js → All (λ j. j < n + 1) js
below_still js n below = all_from (λ j. j < n + 1) js (λ j m. let lt : j < n = All-contains (λ i. i < n) js j below m in omega (arith, lt))

pub slots_push : (es : List Entry) (e : Entry) → map slot_of (es ++ e ∷ []) ≡ map slot_of es ++ e.slot ∷ []
slots_push [] e = refl
slots_push (x ∷ es) e = ap (λ (js : List ℕ). x.slot ∷ js) (slots_push es e)

slots_more : (n : ℕ) (opened : List Entry) (front : Option Header) → AreSlots n opened → AreSlots (n + 1) (opened ++ opened_by n front)
slots_more n opened None h = subst (AreSlots (n + 1)) (sym (append-nil opened)) (below_still (map slot_of opened) n h)
slots_more n opened (Some header) h = subst (λ (js : List ℕ). All (λ j. j < n + 1) js) (sym (slots_push opened (entry_of n header))) (below_more (map slot_of opened) n h)

opened_ascend : (n : ℕ) (opened : List Entry) (front : Option Header) → All (λ j. j < n) (map slot_of opened) → Ascends (map slot_of opened) → Ascends (map slot_of (opened ++ opened_by n front))
opened_ascend n opened None below h = subst (λ (es : List Entry). Ascends (map slot_of es)) (sym (append-nil opened)) h
opened_ascend n opened (Some header) below h = subst Ascends (sym (slots_push opened (entry_of n header))) (ascends_more (map slot_of opened) n h below)

-- What they tell

module _ (segment n : ℕ) (bytes : List ℕ) (opened : List Entry) (h : TellFronts segment n bytes opened) where
  -- one more that is closed, and one that is open
  closed_more : IsFront (front_bytes segment n bytes) None → TellFronts segment (n + 1) bytes opened
  closed_more is = record {
    headers = h.headers;
    each = λ j lt. ⊎_elim
        (λ (e : j ≡ n). inl (subst (λ (i : ℕ). IsFront (front_bytes segment i bytes) None) (sym e) is))
        (λ (ne : j ≡ n → ⊥). h.each j (omega (arith, lt, ne)))
        (cases_eq j n);
  }

  opened_more : (header : Header) → IsFront (front_bytes segment n bytes) (Some header) → TellFronts segment (n + 1) bytes (opened ++ entry_of n header ∷ [])
  opened_more header is = record {
    headers = all_from (HasHeader segment bytes) (opened ++ entry_of n header ∷ []) (λ e m. ⊎_elim
        (λ (l : Contains opened e). All-contains (HasHeader segment bytes) opened e h.headers l)
        (λ (l : Contains (entry_of n header ∷ []) e). ⊎_elim
        (λ (same : entry_of n header ≡ e). subst (HasHeader segment bytes) same (record { header = header; front = is; seq = refl; first = refl; summary = refl }))
        (λ (none : Contains [] e). absurd (none_contained e none))
        (contains_cases (entry_of n header) [] e l))
        (Contains-append_cases opened (entry_of n header ∷ []) e m));
    each = λ j lt. ⊎_elim
        (λ (e : j ≡ n). inr (subst (λ (js : List ℕ). Contains js j) (sym (slots_push opened (entry_of n header)))
        (subst (λ (i : ℕ). Contains (map slot_of opened ++ n ∷ []) i) (sym e) (Contains-append_right (map slot_of opened) (n ∷ []) n (contains_here n [])))))
        (λ (ne : j ≡ n → ⊥). ⊎_elim
        (λ (l : IsFront (front_bytes segment j bytes) None). inl l)
        (λ (l : Contains (map slot_of opened) j). inr (subst (λ (js : List ℕ). Contains js j) (sym (slots_push opened (entry_of n header))) (Contains-append_left (map slot_of opened) (n ∷ []) j l)))
        (h.each j (omega (arith, lt, ne))))
        (cases_eq j n);
  }

  pub fronts_more : (front : Option Header) → IsFront (front_bytes segment n bytes) front → TellFronts segment (n + 1) bytes (opened ++ opened_by n front)
  fronts_more None is = subst (TellFronts segment (n + 1) bytes) (sym (append-nil opened)) (closed_more is)
  fronts_more (Some header) is = opened_more header is

  -- each of them has one
  pub front_known : (j : ℕ) → j < n → (front : Option Header) × IsFront (front_bytes segment j bytes) front
  front_known j lt = ⊎_elim
      (λ (l : IsFront (front_bytes segment j bytes) None). let f : (front : Option Header) × IsFront (front_bytes segment j bytes) front = (None, l) in f)
      (λ (l : Contains (map slot_of opened) j). entry_front opened j h.headers l)
      (h.each j lt)
    where
      entry_front : (es : List Entry) (j : ℕ) → All (HasHeader segment bytes) es → Contains (map slot_of es) j → (front : Option Header) × IsFront (front_bytes segment j bytes) front
      entry_front [] j all l = absurd (none_contained j l)
      entry_front (e ∷ es) j all l = ⊎_elim
          (λ (same : e.slot ≡ j).
          let k : HasHeader segment bytes e = All-contains (HasHeader segment bytes) (e ∷ es) e all (contains_here e es) in
          let f : (front : Option Header) × IsFront (front_bytes segment j bytes) front = (Some k.header, subst (λ (i : ℕ). IsFront (front_bytes segment i bytes) (Some k.header)) same k.front) in f)
          (λ (m : Contains (map slot_of es) j). entry_front es j (all_from (HasHeader segment bytes) es (λ x n. All-contains (HasHeader segment bytes) (e ∷ es) x all (contains_there e es x n))) m)
          (contains_cases e.slot (map slot_of es) j l)

  -- the next has none
  pub refuses_header : (count offset : ℕ) → n < count → offset ≡ place_of segment n → ((front : Option Header) → IsFront (front_bytes segment n bytes) front → ⊥) → RefusesHeader segment count bytes offset
  refuses_header count offset lt at broken = record { slot = n; within = lt; legal = front_known; broken = broken; at = at }

-- the entry as it is pushed
pub entry_pushed : (es new : List Entry) (slot : ℕ) (front : Option Header) (header : Header) → front ≡ Some header
    → new ≡ es ++ (record { slot = slot; seq = header.seq; first = header.first; summary = header.summary; survey = None }) ∷ [] → new ≡ es ++ opened_by slot front
entry_pushed es new slot front header is pushed = pushed ∙ ap (λ (o : Option Header). es ++ opened_by slot o) (sym is)

-- with the slot that was added
pub slots_added : (n : ℕ) (opened o : List Entry) (front : Option Header) → o ≡ opened ++ opened_by n front → AreSlots n opened → AreSlots (n + 1) o
slots_added n opened o front e h = subst (AreSlots (n + 1)) (sym e) (slots_more n opened front h)

pub ascends_added : (n : ℕ) (opened o : List Entry) (front : Option Header) → o ≡ opened ++ opened_by n front → AreSlots n opened → Ascends (map slot_of opened) → Ascends (map slot_of o)
ascends_added n opened o front e below h = subst (λ (es : List Entry). Ascends (map slot_of es)) (sym e) (opened_ascend n opened front below h)

pub fronts_added : (segment n : ℕ) (bytes : List ℕ) (opened o : List Entry) (front : Option Header) → o ≡ opened ++ opened_by n front → TellFronts segment n bytes opened → IsFront (front_bytes segment n bytes) front
    → TellFronts segment (n + 1) bytes o
fronts_added segment n bytes opened o front e h is = subst (TellFronts segment (n + 1) bytes) (sym e) (fronts_more segment n bytes opened h front is)
