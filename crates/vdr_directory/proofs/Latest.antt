-- Which slot is held behind a survey: the newest segment is read only where its first gate is open.
use Rattle.std.proofs.Common.{◌≡◌, ◌<◌, ◌+◌, ℕ, suc, Bool, true, false, not, cond, nat_eq, List, [], ◌∷◌, ◌++◌, length, drop, get_or, set, slice_get, IsTrue, All, Option, Some, None, refl, sym, ap, ◌∙◌, subst, arith, drop-cons, length-set, length-append, get_or-set_same, get_or-set_other}
use Rattle.std.specs.Prelude.{◌↔◌, Any, is_some}
use Rattle.std.proofs.lemmas.Bool.{eq-eqb, eqb-false, not-true, not_from_false, ne_eqb, cond-true, cond-false, false_from_ne_true}
use Rattle.std.proofs.Math.Seq.{get_or-append_seam}
use Rattle.std.proofs.lemmas.List.Elements.{All-nil, All-head}
use Rattle.std.proofs.lemmas.Option.{none-some, same_Some, slice_get_within, slice_get-get_or, get_or_from_slice_get}
use Rattle.vdr_terms.specs.Records.{Record}
use Rattle.vdr_entry.specs.declared.summary.Summary.{Summary}
use Rattle.vdr_segment.specs.Gates.{open_gate}
use Rattle.vdr_segment.specs.Batches.{IsBatch}
use Rattle.vdr_segment.specs.Segments.{AreBatches}
use Rattle.vdr_index.specs.declared.extent.Survey.{Survey}
use Rattle.vdr_index.specs.Extents.{records_in}
use Rattle.vdr_index.specs.Surveys.{Surveys}
use Rattle.vdr_directory.specs.declared.entry.Entry.{Entry}
use Rattle.vdr_directory.specs.Opening.{slot_bytes}
use Rattle.vdr_directory.specs.Indexed.{extent_by}
use Rattle.vdr_directory.specs.Fronts.{HasSurvey, HasSurveyUnless, HoldsLatest}
use Rattle.vdr_directory.proofs.Ends.{none_recorded}

-- The first gate of a segment, behind its header

gate_at : (bytes : List ℕ) (gate : ℕ) → slice_get bytes 64 ≡ Some gate → drop 64 bytes ≡ gate ∷ drop 65 bytes
gate_at bytes gate at =
    drop-cons bytes 64 0 (slice_get_within bytes 64 gate at) ∙ ap (λ (x : ℕ). x ∷ drop 65 bytes) (get_or_from_slice_get bytes 64 gate 0 at)

pub none_behind : (bytes : List ℕ) (gate : ℕ) → slice_get bytes 64 ≡ Some gate → IsTrue (not (nat_eq gate open_gate)) → AreBatches (drop 64 bytes) []
none_behind bytes gate at closed = record {
  legal = All-nil IsBatch;
  gate = gate;
  rest = drop 65 bytes;
  closed = eqb-false gate open_gate (not-true (nat_eq gate open_gate) closed);
  spelled = gate_at bytes gate at;
}

pub closed_before : (bytes : List ℕ) (gate : ℕ) → slice_get bytes 64 ≡ Some gate → (batches : List (List Record)) → AreBatches (drop 64 bytes) batches → batches ≡ []
    → IsTrue (not (nat_eq gate open_gate))
closed_before bytes gate at batches are none = go (subst (AreBatches (drop 64 bytes)) none are)
  where
    go : AreBatches (drop 64 bytes) [] → IsTrue (not (nat_eq gate open_gate))
    go are =
        let same : gate ≡ are.gate = ap (λ (xs : List ℕ). get_or xs 0 0) (sym (gate_at bytes gate at) ∙ are.spelled) in
        not_from_false (nat_eq gate open_gate) (ne_eqb gate open_gate (λ e. are.closed (sym same ∙ e)))

pub without : (o : Option Summary) → is_some o ≡ false → o ≡ None
without None none = refl
without (Some s) none = let bad : ⊥ = cc in absurd bad

-- A survey of no batches has no extent, and that of some has one

no_batches : (batches : List (List Record)) → All IsBatch batches → records_in batches ≡ [] → batches ≡ []
no_batches [] legal none = refl
no_batches ([] ∷ bs) legal none = let some = (All-head IsBatch [] bs legal).some in absurd (omega (arith, some))
no_batches ((r ∷ rs) ∷ bs) legal none = let bad : ⊥ = cc in absurd bad

pub survey_empty : (segment slot first : ℕ) (bytes : List ℕ) (o : Option Summary) (s : Survey) → o ≡ None → AreBatches (drop 64 (slot_bytes segment slot bytes)) [] → ((first : ℕ) → Surveys first [] s)
    → HasSurveyUnless segment slot bytes first o (Some s)
survey_empty segment slot first bytes o s none are tells =
    subst (λ (o : Option Summary). HasSurveyUnless segment slot bytes first o (Some s)) (sym none) (record { batches = []; legal = are; tells = tells first })

pub extent_there : (segment slot first : ℕ) (bytes : List ℕ) (s : Survey) → HasSurvey segment slot bytes first s
    → ((batches : List (List Record)) → AreBatches (drop 64 (slot_bytes segment slot bytes)) batches → batches ≡ [] → ⊥) → s.extent ≡ None → ⊥
extent_there segment slot first bytes s h some none =
    some h.batches h.legal (no_batches h.batches h.legal.legal (none_recorded h.batches (sym h.tells.extent ∙ none)).0)

-- The slot that is held behind the first i of these segments

pub record IsHeld (es : List Entry) (i : ℕ) (held : Option ℕ) : Type 0 where
  pub midway : (j : ℕ) (d : Entry) → i ≡ suc j → i < length es → (get_or es j d).summary ≡ None → held ≡ Some (get_or es j d).slot
  pub newest : (j : ℕ) (d : Entry) → i ≡ length es → i ≡ suc j → (extent_by (get_or es j d).survey ≡ None → ⊥) → held ≡ Some (get_or es j d).slot
  pub bare : (slot : ℕ) → held ≡ Some slot → (j : ℕ) × (j < i) × ((d : Entry) → ((get_or es j d).slot ≡ slot) × ((get_or es j d).summary ≡ None))
  pub before : (j : ℕ) (d : Entry) → i ≡ length es → i ≡ suc (suc j) → extent_by (get_or es (suc j) d).survey ≡ None → (get_or es j d).summary ≡ None → held ≡ Some (get_or es j d).slot

pub held_none : (es : List Entry) → IsHeld es 0 None
held_none es = record {
  midway = λ j d is lt none. absurd (omega (arith, is));
  newest = λ j d all is some. absurd (omega (arith, is));
  before = λ j d all is none bare. absurd (omega (arith, is));
  bare = λ slot at. absurd (none-some slot at);
}

-- One segment more, which is the newest where it is the last of all

abbrev pub IsReadWell : (newest read : Bool) → Option Summary → Option Survey → Type 0
IsReadWell newest read summary survey = (newest ≡ false → summary ≡ None → IsTrue read) × (newest ≡ true → IsTrue read ↔ (extent_by survey ≡ None → ⊥)) × (IsTrue read → summary ≡ None)

module _ (es : List Entry) (i : ℕ) (x : Entry) (s : Option Survey) (lt : i < length es) (read : Bool) (held next : Option ℕ)
    (well : IsReadWell (nat_eq (i + 1) (length es)) read (get_or es i x).summary s) (is : next ≡ cond read (Some (get_or es i x).slot) held) (before : IsHeld es i held) where
  abbrev here : Entry
  here = record (get_or es i x) { survey = s }

  abbrev more : List Entry
  more = set es i here

  own : IsTrue read → (j : ℕ) (d : Entry) → i ≡ j → next ≡ Some (get_or more j d).slot
  own done j d at =
      is ∙ cond-true read (Some (get_or es i x).slot) held done
      ∙ ap (λ (e : Entry). Some e.slot) (sym (get_or-set_same es i here d lt)) ∙ ap (λ (k : ℕ). Some (get_or more k d).slot) at

  is_newest : i + 1 ≡ length more → nat_eq (i + 1) (length es) ≡ true
  is_newest all = eq-eqb (i + 1) (length es) (all ∙ length-set es i here)

  read_newest : i + 1 ≡ length more → IsTrue read ↔ (extent_by s ≡ None → ⊥)
  read_newest all = well.1 (is_newest all)

  survey_here : (j : ℕ) (d : Entry) → i ≡ j → (get_or more j d).survey ≡ s
  survey_here j d at = ap (λ (k : ℕ). (get_or more k d).survey) (sym at) ∙ ap (λ (e : Entry). e.survey) (get_or-set_same es i here d lt)

  summary_here : (j : ℕ) (d : Entry) → i ≡ j → (get_or more j d).summary ≡ (get_or es i x).summary
  summary_here j d at = ap (λ (k : ℕ). (get_or more k d).summary) (sym at) ∙ ap (λ (e : Entry). e.summary) (get_or-set_same es i here d lt)

  entry_before : (j : ℕ) (d : Entry) → i ≡ suc j → get_or more j d ≡ get_or es j d
  entry_before j d at = get_or-set_other es i j here d (λ same. let bad : ⊥ = omega (arith, same, at) in bad)

  midway_next : (j : ℕ) (d : Entry) → i + 1 ≡ suc j → i + 1 < length more → (get_or more j d).summary ≡ None → next ≡ Some (get_or more j d).slot
  midway_next j d at below none =
      let size = length-set es i here in
      let at_j : i ≡ j = omega (arith, at) in
      own (well.0 (ne_eqb (i + 1) (length es) (λ all. let bad : ⊥ = omega (arith, all, size, below) in bad)) (sym (summary_here j d at_j) ∙ none)) j d at_j

  newest_next : (j : ℕ) (d : Entry) → i + 1 ≡ length more → i + 1 ≡ suc j → (extent_by (get_or more j d).survey ≡ None → ⊥) → next ≡ Some (get_or more j d).slot
  newest_next j d all at some =
      let at_j : i ≡ j = omega (arith, at) in
      own ((read_newest all).1 (λ none. some (ap extent_by (survey_here j d at_j) ∙ none))) j d at_j

  before_next : (j : ℕ) (d : Entry) → i + 1 ≡ length more → i + 1 ≡ suc (suc j) → extent_by (get_or more (suc j) d).survey ≡ None → (get_or more j d).summary ≡ None → next ≡ Some (get_or more j d).slot
  before_next j d all at none bare =
      let at_j : i ≡ suc j = omega (arith, at) in
      let unread : read ≡ false = false_from_ne_true read (λ done. (read_newest all).0 done (sym (ap extent_by (survey_here (suc j) d at_j)) ∙ none)) in
      is ∙ cond-false read (Some (get_or es i x).slot) held unread
      ∙ before.midway j d at_j lt (sym (ap (λ (e : Entry). e.summary) (entry_before j d at_j)) ∙ bare)
      ∙ ap (λ (e : Entry). Some e.slot) (sym (entry_before j d at_j))

  bare_next : (slot : ℕ) → next ≡ Some slot → (j : ℕ) × (j < i + 1) × ((d : Entry) → ((get_or more j d).slot ≡ slot) × ((get_or more j d).summary ≡ None))
  bare_next slot at = go read refl
    where
      go : (b : Bool) → read ≡ b → (j : ℕ) × (j < i + 1) × ((d : Entry) → ((get_or more j d).slot ≡ slot) × ((get_or more j d).summary ≡ None))
      go true done = (
        i,
        omega arith,
        λ d. (
          ap (λ (e : Entry). e.slot) (get_or-set_same es i here d lt) ∙ same_Some (get_or es i x).slot slot (sym (cond-true read (Some (get_or es i x).slot) held done) ∙ sym is ∙ at),
          summary_here i d refl ∙ well.2 done,
        ),
      )
      go false unread =
          let k = before.bare slot (sym (cond-false read (Some (get_or es i x).slot) held unread) ∙ sym is ∙ at) in
          let below = k.1 in
          let same : (d : Entry) → get_or more k.0 d ≡ get_or es k.0 d = λ d. get_or-set_other es i k.0 here d (λ e. let bad : ⊥ = omega (arith, e, below) in bad) in
          (k.0, omega (arith, below), λ d. (ap (λ (e : Entry). e.slot) (same d) ∙ (k.2 d).0, ap (λ (e : Entry). e.summary) (same d) ∙ (k.2 d).1))

  pub held_more : IsHeld (set es i (record (get_or es i x) { survey = s })) (i + 1) next
  held_more = record { midway = midway_next; newest = newest_next; before = before_next; bare = bare_next }

-- it is not where one stands behind it
pub not_last : (es : List Entry) (i : ℕ) (e : Entry) → i + 1 < length (set es i e) → nat_eq (i + 1) (length es) ≡ false
not_last es i e below = let size = length-set es i e in ne_eqb (i + 1) (length es) (λ all. let bad : ⊥ = omega (arith, all, size, below) in bad)

-- behind all of them

at_end : (older : List Entry) (e d : Entry) → get_or (older ++ e ∷ []) (length older) d ≡ e
at_end older e d = get_or-append_seam older e [] d

length_end : (older : List Entry) (e : Entry) → length (older ++ e ∷ []) ≡ suc (length older)
length_end older e = let n = length-append older (e ∷ []) in omega (arith, n)

pub holds_latest : (es : List Entry) (i : ℕ) (held : Option ℕ) → i ≡ length es → IsHeld es i held → HoldsLatest es held
holds_latest es i held all h = record { newest = newest_held; before = before_held; bare = bare_held }
  where
    bare_held : (slot : ℕ) → held ≡ Some slot → Any (λ e. (e.slot ≡ slot) × (e.summary ≡ None)) es
    bare_held slot at =
        let k = h.bare slot at in
        let below = k.1 in
        let none : Entry = record { slot = slot; seq = 0; first = 0; summary = None; survey = None } in
        let e : Entry = get_or es k.0 none in
        let lt : k.0 < length es = omega (arith, below, all) in
        (k.0, e, lt, get_or_from_slice_get es k.0 e e (slice_get-get_or es k.0 none lt), k.2 none)

    newest_held : (older : List Entry) (e : Entry) → es ≡ older ++ e ∷ [] → (extent_by e.survey ≡ None → ⊥) → held ≡ Some e.slot
    newest_held older e are some =
        let there : get_or es (length older) e ≡ e = ap (λ (xs : List Entry). get_or xs (length older) e) are ∙ at_end older e e in
        h.newest (length older) e all (all ∙ ap length are ∙ length_end older e) (λ none. some (ap (λ (x : Entry). extent_by x.survey) (sym there) ∙ none))
        ∙ ap (λ (x : Entry). Some x.slot) there

    before_held : (older : List Entry) (d e : Entry) → es ≡ older ++ d ∷ e ∷ [] → extent_by e.survey ≡ None → d.summary ≡ None → held ≡ Some d.slot
    before_held older d e are none bare =
        let n = length-append older (d ∷ e ∷ []) in
        let size = ap length are in
        let first : get_or es (length older) d ≡ d = ap (λ (xs : List Entry). get_or xs (length older) d) are ∙ get_or-append_seam older d (e ∷ []) d in
        let second : get_or es (suc (length older)) d ≡ e = ap (λ (xs : List Entry). get_or xs (suc (length older)) d) are ∙ second_of older d e in
        h.before (length older) d all (omega (arith, all, size, n)) (ap (λ (x : Entry). extent_by x.survey) second ∙ none) (ap (λ (x : Entry). x.summary) first ∙ bare)
        ∙ ap (λ (x : Entry). Some x.slot) first
      where
        second_of : (older : List Entry) (d e : Entry) → get_or (older ++ d ∷ e ∷ []) (suc (length older)) d ≡ e
        second_of [] d e = refl
        second_of (o ∷ os) d e = second_of os d e
