-- What is ahead of a position where batches may be damaged.
use Rattle.std.proofs.Common.{◌≡◌, ◌≤◌, ◌<◌, ◌+◌, ◌-◌, ℕ, List, [], ◌∷◌, ◌++◌, length, take, drop, refl, ap, ◌∙◌, sym, subst, arith}
use Rattle.std.specs.Prelude.{◌↔◌, ◌==◌, if◌then◌else◌, Bool, true, false}
use Rattle.std.proofs.lemmas.List.{drop-take, drop-drop}
use Rattle.vdr_terms.specs.Records.{Record}
use Rattle.vdr_terms.specs.Sizes.{batch_size}
use Rattle.vdr_segment.specs.declared.step.Walk.TheVariants.{Batch}
use Rattle.vdr_segment.specs.Batches.{AreRecords, HasBatchAt}
use Rattle.vdr_segment.specs.Segments.{AreBatches}
use Rattle.vdr_segment.specs.Walks.{Walks}
use Rattle.vdr_segment.proofs.WalkLemmas.{begun_size, records_before}
use Rattle.vdr_segment.proofs.BatchListLemmas.{batch_open, one_records, one_batch, walk_next, walk_end, walk_on}
use Rattle.vdr_index.specs.declared.position.Position.{Position}
use Rattle.vdr_index.specs.Extents.{records_in}
use Rattle.vdr_index.specs.Positions.{IsAt}
use Rattle.vdr_index.proofs.SpanLemmas.{span_records}
use Rattle.vdr_index.proofs.StepLemmas.{none_left, left_none, Stands, span_length}
use Rattle.vdr_index.proofs.StretchLemmas.{behind_front}
use Rattle.vdr_terms.specs.Order.{RunOn}
use Rattle.vdr_rescue.specs.declared.given.Stand.{Stand}
use Rattle.vdr_rescue.specs.Given.{AreLegalFrom, HasLegally, StepsOn, Gives, in_place, Stands as StandsIn}

-- One list of batches

pub one_legal : (segment : List ℕ) (at : ℕ) (bs cs : List (List Record)) → AreLegalFrom segment at bs → AreLegalFrom segment at cs → bs ≡ cs
one_legal segment at [] [] x y = refl
one_legal segment at [] (c ∷ cs) x y = absurd (x c y.0)
one_legal segment at (b ∷ bs) [] x y = absurd (y b x.0)
one_legal segment at (b ∷ bs) (c ∷ cs) x y =
    let same : b ≡ c = one_batch segment at b c x.0 y.0 in
    let rest : bs ≡ cs = one_legal segment (at + batch_size b) bs cs x.1 (subst (λ (d : List Record). AreLegalFrom segment (at + batch_size d) cs) (sym same) y.1) in
    ap (λ (d : List Record). d ∷ bs) same ∙ ap (λ (ds : List (List Record)). c ∷ ds) rest

pub legal_whole : (segment : List ℕ) (at : ℕ) (bs : List (List Record)) → AreBatches (drop at segment) bs → AreLegalFrom segment at bs
legal_whole segment at [] h = λ records batch. walk_end segment at h (batch_open segment at records batch)
legal_whole segment at (b ∷ bs) h = (walk_next segment at b bs h, legal_whole segment (at + batch_size b) bs (walk_on segment at (at + batch_size b) b bs refl h))

-- A step within a batch

span_behind : (segment : List ℕ) (at to size : ℕ) → at + size ≤ to → drop size (take (to - at) (drop at segment)) ≡ take (to - (at + size)) (drop (at + size) segment)
span_behind segment at to size within =
    let n : ℕ = to - (at + size) in
    let parts : to - at ≡ size + n = omega (arith, within) in
    ap (λ (k : ℕ). drop size (take k (drop at segment))) parts ∙ drop-take size n (drop at segment) ∙ ap (λ (xs : List ℕ). take n xs) (drop-drop size at segment)

pub on_within : (segment : List ℕ) (p : Position) (r : Record) (size : ℕ) → IsAt segment p → p.at < p.to → Stands segment p r size
    → StepsOn segment p r (record { at = p.at + size; to = p.to })
on_within segment p r size s more t =
    let bytes : List ℕ = take (p.to - p.at) (drop p.at segment) in
    let long : length bytes ≡ p.to - p.at = span_length segment p s in
    let some : 0 < length bytes = omega (arith, long, more) in
    let within : p.at + size ≤ p.to = omega (arith, t.size_is, begun_size bytes t.after r t.begins, long, more) in
    let behind = span_behind segment p.at p.to size within in
    let onward : (left : List Record) → AreRecords bytes left → (rs : List Record) × (left ≡ r ∷ rs) × AreRecords (take (p.to - (p.at + size)) (drop (p.at + size) segment)) rs =
    λ left a. let b = behind_front bytes t.after r size t.begins t.size_is left a some in (b.0, b.1, subst (λ (xs : List ℕ). AreRecords xs b.0) behind b.2) in
    let here = onward s.left s.here in
    record {
      legal = t.begins.legal;
      stands = record { order = within; inside = s.inside; left = here.0; here = here.2 };
      onward = omega (arith, t.size_is);
      ahead = λ records. (
        λ h. let b = onward h.left h.here in
            (b.0 ++ records_in h.batches, h.are ∙ ap (λ (xs : List Record). xs ++ records_in h.batches) b.1, record { left = b.0; batches = h.batches; here = b.2; behind = h.behind; are = refl }),
        λ x. record {
          left = r ∷ x.2.left;
          batches = x.2.batches;
          here = records_before bytes t.after r x.2.left t.begins (subst (λ (xs : List ℕ). AreRecords xs x.2.left) (sym behind ∙ ap (λ (n : ℕ). drop n bytes) t.size_is) x.2.here);
          behind = x.2.behind;
          are = x.1 ∙ ap (λ (xs : List Record). r ∷ xs) x.2.are;
        },
      );
    }

-- A step into the next batch

legal_next : (segment : List ℕ) (at to : ℕ) (b : List Record) (bs : List (List Record)) → HasBatchAt segment at b → to ≡ at + batch_size b → AreLegalFrom segment at bs
    → (rest : List (List Record)) × (bs ≡ b ∷ rest) × AreLegalFrom segment to rest
legal_next segment at to b [] here is h = absurd (h b here)
legal_next segment at to b (c ∷ cs) here is h =
    let same : c ≡ b = one_batch segment at c b h.0 here in (
      cs,
      ap (λ (d : List Record). d ∷ cs) same,
      subst (λ (n : ℕ). AreLegalFrom segment n cs) (ap (λ (d : List Record). at + batch_size d) same ∙ sym is) h.1,
    )

pub legal_of_gate : (segment : List ℕ) (p : Position) (from to : ℕ) → p.to ≤ p.at → Walks segment p.to (Batch from to) → (records : List Record)
    → HasLegally segment p records ↔ HasLegally segment (record { at = from; to = to }) records
legal_of_gate segment p from to past w records =
    let b : List Record = w.0 in
    let ends : to ≡ p.to + batch_size b = omega (arith, w.2, w.3) in
    let first : AreRecords (take (to - from) (drop from segment)) b = span_records segment p.to from to b w.1 w.2 w.3 in (
      λ h. let n = legal_next segment p.to to b h.batches w.1 ends h.behind in
          record {
            left = b;
            batches = n.0;
            here = first;
            behind = n.2;
            are = h.are ∙ ap (λ (xs : List Record). xs ++ records_in h.batches) (none_left segment p.at p.to h.left past h.here) ∙ ap records_in n.1;
          },
      λ h. record {
        left = [];
        batches = b ∷ h.batches;
        here = left_none segment p.at p.to past;
        behind = (w.1, subst (λ (n : ℕ). AreLegalFrom segment n h.batches) ends h.behind);
        are = h.are ∙ ap (λ (xs : List Record). xs ++ records_in h.batches) (one_records _ h.left b h.here first);
      },
    )

pub on_into : (segment : List ℕ) (p next : Position) (from to : ℕ) (r : Record) → p.to ≤ p.at → p.at ≤ p.to → Walks segment p.to (Batch from to) → StepsOn segment (record { at = from; to = to }) r next
    → StepsOn segment p r next
on_into segment p next from to r past order w s = record {
  legal = s.legal;
  stands = s.stands;
  onward = omega (arith, past, order, w.2, s.onward);
  ahead = λ records. let g = legal_of_gate segment p from to past w records in (λ h. (s.ahead records).0 (g.0 h), λ x. g.1 ((s.ahead records).1 x));
}

-- No batch at the gate

pub legal_end : (segment : List ℕ) (p : Position) → p.to ≤ p.at → ((records : List Record) → HasBatchAt segment p.to records → ⊥) → (records : List Record)
    → HasLegally segment p records ↔ (records ≡ [])
legal_end segment p past none records = (
  λ h. h.are ∙ ap (λ (xs : List Record). xs ++ records_in h.batches) (none_left segment p.at p.to h.left past h.here)
      ∙ ap records_in (one_legal segment p.to h.batches [] h.behind none),
  λ e. record { left = []; batches = []; here = left_none segment p.at p.to past; behind = none; are = e },
)

-- What is given from a stand on

module _ (segment : List ℕ) (s : Stand) (r : Record) (next : Position) (on : StepsOn segment s.position r next) where
  abbrev pub after : Stand
  after = record { position = next; place = s.place + 1 }

  pub given_here : r.place == s.place ≡ true → (records : List Record)
      → Gives segment s records ↔ ((more : List Record) × (records ≡ r ∷ more) × Gives segment after more)
  given_here here records = (
    λ g. let a = (on.ahead g.all).0 g.ahead in (
      in_place (s.place + 1) a.0,
      g.are ∙ ap (in_place s.place) a.1 ∙ ap (λ (b : Bool). if b then r ∷ in_place (s.place + 1) a.0 else in_place (s.place + 1) a.0) here,
      record { all = a.0; ahead = a.2; are = refl },
    ),
    λ x. let g = x.2 in
        record {
          all = r ∷ g.all;
          ahead = (on.ahead (r ∷ g.all)).1 (g.all, refl, g.ahead);
          are = x.1 ∙ ap (λ (rs : List Record). r ∷ rs) g.are ∙ sym (ap (λ (b : Bool). if b then r ∷ in_place (s.place + 1) g.all else in_place (s.place + 1) g.all) here);
        },
  )

  pub given_behind : r.place == s.place ≡ false → (records : List Record) → Gives segment s records ↔ Gives segment after records
  given_behind here records = (
    λ g. let a = (on.ahead g.all).0 g.ahead in
        record {
          all = a.0;
          ahead = a.2;
          are = g.are ∙ ap (in_place s.place) a.1 ∙ ap (λ (b : Bool). if b then r ∷ in_place (s.place + 1) a.0 else in_place (s.place + 1) a.0) here;
        },
    λ g. record {
      all = r ∷ g.all;
      ahead = (on.ahead (r ∷ g.all)).1 (g.all, refl, g.ahead);
      are = g.are ∙ sym (ap (λ (b : Bool). if b then r ∷ in_place (s.place + 1) g.all else in_place (s.place + 1) g.all) here);
    },
  )

pub given_none : (segment : List ℕ) (s : Stand) → ((records : List Record) → HasLegally segment s.position records ↔ (records ≡ [])) → (records : List Record) → Gives segment s records ↔ (records ≡ [])
given_none segment s none records = (
  λ g. g.are ∙ ap (in_place s.place) ((none g.all).0 g.ahead),
  λ e. record { all = []; ahead = (none []).1 refl; are = e },
)

-- Records in their places

pub in_place_all : (place : ℕ) (records : List Record) → RunOn place records → in_place place records ≡ records
in_place_all place [] h = refl
in_place_all place (r ∷ rs) h =
    let here : r.place == place ≡ true = search (arith, h.0) in
    ap (λ (b : Bool). if b then r ∷ in_place (place + 1) rs else in_place (place + 1) rs) here ∙ ap (λ (xs : List Record). r ∷ xs) (in_place_all (place + 1) rs (subst (λ (n : ℕ). RunOn n rs) (omega arith) h.1))

-- Where a reader stands behind a record

pub stands_on : (segment : List ℕ) (s : Stand) (r : Record) (next : Position) → StepsOn segment s.position r next → StandsIn segment s
    → StandsIn segment (record { position = next; place = s.place + 1 })
stands_on segment s r next on h = record { position = on.stands; short = h.short; place = omega (arith, h.place, on.onward) }
