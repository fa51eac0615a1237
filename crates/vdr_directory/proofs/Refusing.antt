-- A medium whose headers are legal and that has a batch that is not.
use Rattle.std.proofs.Common.{◌≡◌, ◌<◌, ◌+◌, ℕ, List, [], ◌∷◌, ◌++◌, map, drop, All, Contains, Option, Some, None, inl, inr, ⊎_elim, refl, sym, ap, ◌∙◌, subst, arith}
use Rattle.std.proofs.lemmas.Option.{same_Some, none-some}
use Rattle.std.proofs.lemmas.List.Elements.{All-nil, All-cons, All-head, All-tail}
use Rattle.vdr_terms.specs.Records.{Record}
use Rattle.vdr_entry.specs.declared.summary.Summary.{Summary}
use Rattle.vdr_index.specs.declared.extent.Survey.{Survey}
use Rattle.vdr_segment.specs.declared.header.Header.{Header}
use Rattle.vdr_segment.specs.Segments.{AreBatches}
use Rattle.vdr_segment.specs.Slots.{IsFront, place_of}
use Rattle.vdr_segment.proofs.Holding.{one_front}
use Rattle.vdr_index.specs.Surveys.{BreaksAt}
use Rattle.vdr_durability.proofs.Lists.{none_contained, contains_here, contains_there, contains_cases}
use Rattle.vdr_directory.specs.declared.entry.Entry.{Entry}
use Rattle.vdr_directory.specs.Entries.{slot_of}
use Rattle.vdr_directory.specs.Opening.{front_bytes, slot_bytes, Headed, IsEarlier, RiseBySeq, AreHeaders, RefusesBatch}
use Rattle.vdr_directory.specs.Fronts.{HasHeader, HasSurveyUnless, TellFronts, IsSurveyed, BreaksAmong}
use Rattle.vdr_directory.proofs.Sequencing.{IsSooner, AreSooner}
use Rattle.vdr_directory.proofs.FrontLemmas.{front_known}

-- The headers of the entries

pub record Heads (segment : ℕ) (bytes : List ℕ) (e : Entry) (x : Headed) : Type 0 where
  pub slot : x.slot ≡ e.slot
  pub seq : x.header.seq ≡ e.seq
  pub summary : x.header.summary ≡ e.summary
  pub front : IsFront (front_bytes segment x.slot bytes) (Some x.header)

abbrev pub Head_all : (segment : ℕ) (bytes : List ℕ) → List Entry → List Headed → Type 0
Head_all segment bytes [] [] = Unit {0}
Head_all segment bytes [] (x ∷ xs) = ⊥
Head_all segment bytes (e ∷ es) [] = ⊥
Head_all segment bytes (e ∷ es) (x ∷ xs) = Heads segment bytes e x × Head_all segment bytes es xs

module _ (segment : ℕ) (bytes : List ℕ) where
  heading : (es : List Entry) → All (HasHeader segment bytes) es → (xs : List Headed) × Head_all segment bytes es xs
  heading [] h = ([], tt)
  heading (e ∷ es) h =
      let k : HasHeader segment bytes e = All-head (HasHeader segment bytes) e es h in
      let rest : (xs : List Headed) × Head_all segment bytes es xs = heading es (All-tail (HasHeader segment bytes) e es h) in
      let r : (xs : List Headed) × Head_all segment bytes (e ∷ es) xs = ((record { slot = e.slot; header = k.header }) ∷ rest.0, (record { slot = refl; seq = sym k.seq; summary = sym k.summary; front = k.front }, rest.1)) in
      r

  -- those of a list in two parts
  record Parted (before : List Entry) (here : Entry) (after : List Entry) (xs : List Headed) : Type 0 where
    front : List Headed
    mid : Headed
    back : List Headed
    are : xs ≡ front ++ mid ∷ back
    heads_front : Head_all segment bytes before front
    heads_mid : Heads segment bytes here mid

  parted : (before : List Entry) (here : Entry) (after : List Entry) (xs : List Headed) → Head_all segment bytes (before ++ here ∷ after) xs → Parted before here after xs
  parted [] here after [] h = absurd h
  parted [] here after (x ∷ xs) h = record { front = []; mid = x; back = xs; are = refl; heads_front = tt; heads_mid = h.0 }
  parted (e ∷ before) here after [] h = absurd h
  parted (e ∷ before) here after (x ∷ xs) h =
      let k : Parted before here after xs = parted before here after xs h.1 in
      record { front = x ∷ k.front; mid = k.mid; back = k.back; are = ap (λ (ys : List Headed). x ∷ ys) k.are; heads_front = (h.0, k.heads_front); heads_mid = k.heads_mid }

  earlier_all : (e : Entry) (x : Headed) (es : List Entry) (xs : List Headed) → Heads segment bytes e x → Head_all segment bytes es xs → All (IsSooner e) es → All (IsEarlier x) xs
  earlier_all e x es [] k h s = All-nil (IsEarlier x)
  earlier_all e x [] (y ∷ ys) k h s = absurd h
  earlier_all e x (f ∷ es) (y ∷ ys) k h s = All-cons (IsEarlier x) y ys (before (All-head (IsSooner e) f es s)) (earlier_all e x es ys k h.1 (All-tail (IsSooner e) f es s))
    where
      before : IsSooner e f → IsEarlier x y
      before (inl lt) = inl (omega (arith, lt, k.seq, h.0.seq))
      before (inr same) = inr (omega (arith, same.0, k.seq, h.0.seq), omega (arith, same.1, k.slot, h.0.slot))

  headed_rise : (es : List Entry) (xs : List Headed) → Head_all segment bytes es xs → AreSooner es → RiseBySeq xs
  headed_rise es [] h s = tt
  headed_rise [] (x ∷ xs) h s = absurd h
  headed_rise (e ∷ es) (x ∷ xs) h s = (earlier_all e x es xs h.0 h.1 s.0, headed_rise es xs h.1 s.1)

  headed_there : (n : ℕ) (es : List Entry) (xs : List Headed) → Head_all segment bytes es xs → All (λ j. j < n) (map slot_of es) → All (λ x. (x.slot < n) × IsFront (front_bytes segment x.slot bytes) (Some x.header)) xs
  headed_there n es [] h below = All-nil (λ (x : Headed). (x.slot < n) × IsFront (front_bytes segment x.slot bytes) (Some x.header))
  headed_there n [] (x ∷ xs) h below = absurd h
  headed_there n (e ∷ es) (x ∷ xs) h below =
      let lt : e.slot < n = All-head (λ j. j < n) e.slot (map slot_of es) below in
      All-cons (λ (x : Headed). (x.slot < n) × IsFront (front_bytes segment x.slot bytes) (Some x.header)) x xs (omega (arith, lt, h.0.slot), h.0.front)
      (headed_there n es xs h.1 (All-tail (λ j. j < n) e.slot (map slot_of es) below))

  -- the header in a slot that an entry has
  headed_at : (es : List Entry) (xs : List Headed) (j : ℕ) → Head_all segment bytes es xs → Contains (map slot_of es) j → (x : Headed) × Contains xs x × (x.slot ≡ j) × IsFront (front_bytes segment j bytes) (Some x.header)
  headed_at [] xs j h m = absurd (none_contained j m)
  headed_at (e ∷ es) [] j h m = absurd h
  headed_at (e ∷ es) (x ∷ xs) j h m = ⊎_elim
      (λ (same : e.slot ≡ j). let at : x.slot ≡ j = h.0.slot ∙ same in (x, contains_here x xs, at, subst (λ (i : ℕ). IsFront (front_bytes segment i bytes) (Some x.header)) at h.0.front))
      (λ (l : Contains (map slot_of es) j).
      let k = headed_at es xs j h.1 l in (k.0, contains_there x xs k.0 k.1, k.2, k.3))
      (contains_cases e.slot (map slot_of es) j m)

  abbrev IsLegal : Headed → Type 0
  IsLegal x = x.header.summary ≡ None → (batches : List (List Record)) × AreBatches (drop 64 (slot_bytes segment x.slot bytes)) batches

  legal_one : (e : Entry) (x : Headed) → Heads segment bytes e x → IsSurveyed segment bytes e → IsLegal x
  legal_one e x h s none = go e.summary e.survey (sym h.summary ∙ none) s
    where
      go : (o : Option Summary) (v : Option Survey) → o ≡ None → HasSurveyUnless segment e.slot bytes e.first o v → (batches : List (List Record)) × AreBatches (drop 64 (slot_bytes segment x.slot bytes)) batches
      go None None is k = absurd k
      go None (Some v) is k = (k.batches, subst (λ (i : ℕ). AreBatches (drop 64 (slot_bytes segment i bytes)) k.batches) (sym h.slot) k.legal)
      go (Some t) v is k = absurd (none-some t (sym is))

  legal_before : (es : List Entry) (xs : List Headed) → Head_all segment bytes es xs → All (IsSurveyed segment bytes) es → All IsLegal xs
  legal_before es [] h s = All-nil IsLegal
  legal_before [] (x ∷ xs) h s = absurd h
  legal_before (e ∷ es) (x ∷ xs) h s =
      All-cons IsLegal x xs (legal_one e x h.0 (All-head (IsSurveyed segment bytes) e es s)) (legal_before es xs h.1 (All-tail (IsSurveyed segment bytes) e es s))

  module _ (n : ℕ) (es : List Entry) (within : All (λ j. j < n) (map slot_of es)) (fronts : TellFronts segment n bytes es) (sooner : AreSooner es) where
    pub are_headers : (xs : List Headed) → Head_all segment bytes es xs → AreHeaders segment n bytes xs
    are_headers xs heads = record {
      fronts = λ j lt.
          let f = front_known segment n bytes es fronts j lt in
          (f.0, f.1, λ h is. named j h lt (subst (λ (o : Option Header). IsFront (front_bytes segment j bytes) o) is f.1));
      there = headed_there n es xs heads within;
      rising = headed_rise es xs heads sooner;
    }
      where
        named : (j : ℕ) (h : Header) → j < n → IsFront (front_bytes segment j bytes) (Some h) → Contains xs (record { slot = j; header = h })
        named j h lt is = ⊎_elim
            (λ (l : IsFront (front_bytes segment j bytes) None). absurd (none-some h (one_front (front_bytes segment j bytes) None (Some h) l is)))
            (λ (l : Contains (map slot_of es) j).
            let k = headed_at es xs j heads l in
            let same : k.0.header ≡ h = same_Some k.0.header h (one_front (front_bytes segment j bytes) (Some k.0.header) (Some h) k.3 is) in
            let one : ◌≡◌ {A = Headed} k.0 (record { slot = j; header = h }) = λ i. record { slot = k.2 i; header = same i } in
            subst (λ (x : Headed). Contains xs x) one k.1)
            (fronts.each j lt)

    pub refuses_batch : (offset : ℕ) → BreaksAmong segment bytes es offset → RefusesBatch segment n bytes offset
    refuses_batch offset b =
        let xs : (xs : List Headed) × Head_all segment bytes es xs = heading es fronts.headers in
        let p : Parted b.before b.here b.after xs.0 = parted b.before b.here b.after xs.0 (subst (λ (fs : List Entry). Head_all segment bytes fs xs.0) b.split xs.1) in
        record {
          headed = xs.0;
          headers = are_headers xs.0 xs.1;
          before = p.front;
          here = p.mid;
          after = p.back;
          split = p.are;
          legal = legal_before b.before p.front p.heads_front b.legal;
          bare = p.heads_mid.summary ∙ b.bare;
          at = b.broken.at;
          broken = subst (λ (i : ℕ). BreaksAt (slot_bytes segment i bytes) b.broken.at) (sym p.heads_mid.slot) b.broken.broken;
          is = b.broken.is ∙ ap (λ (i : ℕ). place_of segment i + b.broken.at) (sym p.heads_mid.slot);
        }
