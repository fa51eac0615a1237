-- What is ahead of a position, and a step over a record.
use Rattle.std.proofs.Common.{◌≡◌, ◌≤◌, ◌<◌, ◌+◌, ◌-◌, ℕ, List, [], ◌∷◌, ◌++◌, length, take, drop, refl, ap, ◌∙◌, sym, subst, arith}
use Rattle.std.specs.Prelude.{◌↔◌}
use Rattle.std.proofs.lemmas.List.{length-take, length-drop, drop-take, drop-drop}
use Rattle.std.proofs.lemmas.List.Elements.{All-nil}
use Rattle.vdr_terms.specs.Legality.{IsRecord}
use Rattle.vdr_terms.specs.Records.{Record}
use Rattle.vdr_terms.specs.Sizes.{record_size}
use Rattle.vdr_entry.specs.Reading.{Begins}
use Rattle.vdr_entry.specs.Spelling.{records_bytes}
use Rattle.vdr_segment.specs.declared.step.Walk.TheVariants.{Batch, End, Broken}
use Rattle.vdr_segment.specs.Batches.{AreRecords}
use Rattle.vdr_segment.specs.Segments.{AreBatches}
use Rattle.vdr_segment.specs.Walks.{Walks}
use Rattle.vdr_segment.proofs.WalkLemmas.{first_begins, begun_size, records_before}
use Rattle.vdr_segment.proofs.BatchListLemmas.{one_records, one_batch, one_batches, walk_tells, none_stand}
use Rattle.vdr_index.specs.declared.position.Position.{Position}
use Rattle.vdr_index.specs.Extents.{records_in}
use Rattle.vdr_index.specs.Positions.{IsAt, HasAhead, StepsOver}
use Rattle.vdr_index.proofs.SpanLemmas.{span_records, span_some}
use Rattle.vdr_index.proofs.StretchLemmas.{behind_front}

-- Nothing left of a batch

pub none_left : (segment : List ℕ) (at to : ℕ) (left : List Record) → to ≤ at → AreRecords (take (to - at) (drop at segment)) left → left ≡ []
none_left segment at to [] past a = refl
none_left segment at to (r ∷ rs) past a =
    let bytes : List ℕ = take (to - at) (drop at segment) in
    let bad : ⊥ = omega (arith, begun_size bytes (records_bytes rs) r (first_begins bytes r rs a), length-take (to - at) (drop at segment), past) in absurd bad

pub left_none : (segment : List ℕ) (at to : ℕ) → to ≤ at → AreRecords (take (to - at) (drop at segment)) []
left_none segment at to past =
    let none : to - at ≡ 0 = omega (arith, past) in
    record { legal = All-nil IsRecord; spelled = ap (λ (n : ℕ). take n (drop at segment)) none }

-- The front of a segment

pub front_ahead : (segment : List ℕ) (p : Position) (records : List Record) → p.at ≡ 64 → p.to ≡ 64
    → HasAhead segment p records ↔ ((batches : List (List Record)) × AreBatches (drop 64 segment) batches × (records ≡ records_in batches))
front_ahead segment p records at_is to_is = (
  λ h. (
    h.batches,
    subst (λ (n : ℕ). AreBatches (drop n segment) h.batches) to_is h.behind,
    h.are ∙ ap (λ (rs : List Record). rs ++ records_in h.batches) (none_left segment p.at p.to h.left (omega (arith, at_is, to_is)) h.here),
  ),
  λ x. record {
    left = [];
    batches = x.0;
    here = left_none segment p.at p.to (omega (arith, at_is, to_is));
    behind = subst (λ (n : ℕ). AreBatches (drop n segment) x.0) (sym to_is) x.1;
    are = x.2;
  },
)

-- One list of records is ahead

pub one_ahead : (segment : List ℕ) (p : Position) (rs qs : List Record) → HasAhead segment p rs → HasAhead segment p qs → rs ≡ qs
one_ahead segment p rs qs h k =
    h.are ∙ ap (λ (xs : List Record). xs ++ records_in h.batches) (one_records _ h.left k.left h.here k.here)
    ∙ ap (λ (bs : List (List Record)). k.left ++ records_in bs) (one_batches _ h.batches k.batches h.behind k.behind) ∙ sym k.are

-- A step within a batch

-- the bytes of a batch behind a record
span_behind : (segment : List ℕ) (at to size : ℕ) → at + size ≤ to → drop size (take (to - at) (drop at segment)) ≡ take (to - (at + size)) (drop (at + size) segment)
span_behind segment at to size within =
    let n : ℕ = to - (at + size) in
    let parts : to - at ≡ size + n = omega (arith, within) in
    ap (λ (k : ℕ). drop size (take k (drop at segment))) parts ∙ drop-take size n (drop at segment) ∙ ap (λ (xs : List ℕ). take n xs) (drop-drop size at segment)

-- the record that stands at a position
pub record Stands (segment : List ℕ) (p : Position) (r : Record) (size : ℕ) : Type 0 where
  pub after : List ℕ
  pub begins : Begins (take (p.to - p.at) (drop p.at segment)) r after
  pub size_is : size ≡ record_size r

pub span_length : (segment : List ℕ) (p : Position) → IsAt segment p → length (take (p.to - p.at) (drop p.at segment)) ≡ p.to - p.at
span_length segment p s = omega (arith, length-take (p.to - p.at) (drop p.at segment), length-drop p.at segment, s.inside)

pub step_within : (segment : List ℕ) (p : Position) (r : Record) (size : ℕ) → IsAt segment p → p.at < p.to → Stands segment p r size
    → StepsOver segment p r (record { at = p.at + size; to = p.to })
step_within segment p r size s more t =
    let bytes : List ℕ = take (p.to - p.at) (drop p.at segment) in
    let long : length bytes ≡ p.to - p.at = span_length segment p s in
    let some : 0 < length bytes = omega (arith, long, more) in
    let within : p.at + size ≤ p.to = omega (arith, t.size_is, begun_size bytes t.after r t.begins, long, more) in
    let behind = span_behind segment p.at p.to size within in
    let onward : (left : List Record) → AreRecords bytes left → (rs : List Record) × (left ≡ r ∷ rs) × AreRecords (take (p.to - (p.at + size)) (drop (p.at + size) segment)) rs =
    λ left a. let b = behind_front bytes t.after r size t.begins t.size_is left a some in (b.0, b.1, subst (λ (xs : List ℕ). AreRecords xs b.0) behind b.2) in
    let here = onward s.left s.here in
    record {
      legal = t.begins.legal;
      stands = record { order = within; inside = s.inside; left = here.0; here = here.2 };
      onward = omega (arith, t.size_is);
      ahead = λ records. (
        λ h. let b = onward h.left h.here in
            (b.0 ++ records_in h.batches, h.are ∙ ap (λ (xs : List Record). xs ++ records_in h.batches) b.1, record { left = b.0; batches = h.batches; here = b.2; behind = h.behind; are = refl }),
        λ x. record {
          left = r ∷ x.2.left;
          batches = x.2.batches;
          here = records_before bytes t.after r x.2.left t.begins (subst (λ (xs : List ℕ). AreRecords xs x.2.left) (sym behind ∙ ap (λ (n : ℕ). drop n bytes) t.size_is) x.2.here);
          behind = x.2.behind;
          are = x.1 ∙ ap (λ (xs : List Record). r ∷ xs) x.2.are;
        },
      );
    }

-- bytes of a batch that are not all read begin with a record
pub never_stuck : (segment : List ℕ) (p : Position) → IsAt segment p → p.at < p.to → ((r : Record) (after : List ℕ) → Begins (take (p.to - p.at) (drop p.at segment)) r after → ⊥) → ⊥
never_stuck segment p s more none = go s.left s.here
  where
    go : (left : List Record) → AreRecords (take (p.to - p.at) (drop p.at segment)) left → ⊥
    go [] a = omega (arith, ap length a.spelled, span_length segment p s, more)
    go (r ∷ rs) a = none r (records_bytes rs) (first_begins _ r rs a)

-- A step into the next batch

pub batch_stands : (segment : List ℕ) (at from to : ℕ) → Walks segment at (Batch from to) → IsAt segment (record { at = from; to = to })
batch_stands segment at from to w = record {
  order = omega (arith, w.3);
  inside = omega (arith, w.2, w.3, w.1.room);
  left = w.0;
  here = span_records segment at from to w.0 w.1 w.2 w.3;
}

pub batch_has_more : (segment : List ℕ) (at from to : ℕ) → Walks segment at (Batch from to) → from < to
batch_has_more segment at from to w = omega (arith, w.3, span_some segment at w.0 w.1)

-- ahead of the gate behind a batch is what is ahead of the next batch's records
pub ahead_of_gate : (segment : List ℕ) (p : Position) (from to : ℕ) → p.to ≤ p.at → Walks segment p.to (Batch from to) → (records : List Record) → HasAhead segment p records ↔ HasAhead segment (record { at = from; to = to }) records
ahead_of_gate segment p from to past w records =
    let t = walk_tells segment p.to (Batch from to) w in
    let first : AreRecords (take (to - from) (drop from segment)) t.0 = subst (λ (b : List Record). AreRecords (take (to - from) (drop from segment)) b) (one_batch segment p.to w.0 t.0 w.1 t.1) (span_records segment p.to from to w.0 w.1 w.2 w.3) in (
      λ h. let b = (t.2 h.batches).0 h.behind in
          record {
            left = t.0;
            batches = b.0;
            here = first;
            behind = b.2;
            are = h.are ∙ ap (λ (xs : List Record). xs ++ records_in h.batches) (none_left segment p.at p.to h.left past h.here) ∙ ap records_in b.1;
          },
      λ h. record {
        left = [];
        batches = t.0 ∷ h.batches;
        here = left_none segment p.at p.to past;
        behind = (t.2 (t.0 ∷ h.batches)).1 (h.batches, refl, h.behind);
        are = h.are ∙ ap (λ (xs : List Record). xs ++ records_in h.batches) (one_records _ h.left t.0 h.here first);
      },
    )

pub step_into : (segment : List ℕ) (p next : Position) (from to : ℕ) (r : Record) → p.to ≤ p.at → p.at ≤ p.to → Walks segment p.to (Batch from to) → StepsOver segment (record { at = from; to = to }) r next → StepsOver segment p r next
step_into segment p next from to r past order w s = record {
  legal = s.legal;
  stands = s.stands;
  onward = omega (arith, past, order, w.2, s.onward);
  ahead = λ records. let g = ahead_of_gate segment p from to past w records in (λ h. (s.ahead records).0 (g.0 h), λ x. g.1 ((s.ahead records).1 x));
}

-- No batch at the gate

pub end_ahead : (segment : List ℕ) (p : Position) → IsAt segment p → p.to ≤ p.at → Walks segment p.to End → (records : List Record) → HasAhead segment p records ↔ (records ≡ [])
end_ahead segment p s past w records = (
  λ h. h.are ∙ ap (λ (xs : List Record). xs ++ records_in h.batches) (none_left segment p.at p.to h.left past h.here)
      ∙ ap records_in ((walk_tells segment p.to End w s.inside h.batches).0 h.behind),
  λ e. record { left = []; batches = []; here = left_none segment p.at p.to past; behind = none_stand segment p.to s.inside w; are = e },
)

pub none_ahead : (segment : List ℕ) (p : Position) → Walks segment p.to Broken → (records : List Record) → HasAhead segment p records → ⊥
none_ahead segment p w records h = walk_tells segment p.to Broken w h.batches h.behind
