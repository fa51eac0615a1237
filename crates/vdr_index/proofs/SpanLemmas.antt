-- Legal batches up to an offset of a segment, and what stands there.
use Rattle.std.proofs.Common.{◌≡◌, ◌≤◌, ◌<◌, ◌+◌, ◌-◌, ℕ, List, [], ◌∷◌, ◌++◌, length, take, drop, refl, ap, ◌∙◌, sym, subst, arith, zero-add, add-zero}
use Rattle.std.specs.Prelude.{All, sum_by}
use Rattle.std.specs.List.{flat_map}
use Rattle.std.proofs.lemmas.List.{length-append, append_assoc, append_cancel_left, drop-drop, length-drop, flat_map_more}
use Rattle.std.proofs.lemmas.List.Elements.{All-nil, All-head, All-tail, All-push}
use Rattle.std.proofs.lemmas.List.Sums.{sum_by_push}
use Rattle.vdr_bytes.proofs.NumberLemmas.{drop-front}
use Rattle.vdr_terms.specs.Records.{Record}
use Rattle.vdr_terms.specs.Sizes.{records_size, batch_size}
use Rattle.vdr_segment.specs.declared.step.Walk.TheVariants.{Broken}
use Rattle.vdr_segment.specs.Gates.{IsOpenAt}
use Rattle.vdr_segment.specs.Batches.{AreRecords, IsBatch, batch_bytes, HasBatchAt}
use Rattle.vdr_segment.specs.Segments.{AreBatches}
use Rattle.vdr_segment.specs.Walks.{Walks}
use Rattle.vdr_segment.proofs.GateLemmas.{open_byte, open_inside, open_behind}
use Rattle.vdr_segment.proofs.BatchLemmas.{length-batch_bytes}
use Rattle.vdr_segment.proofs.WalkLemmas.{batch_shows, batch_at, batch_from}
use Rattle.vdr_segment.proofs.BatchListLemmas.{one_batch, batch_open, none_stand}
use Rattle.vdr_index.specs.Surveys.{BreaksAt}

-- Batches up to an offset

pub record Front (segment : List ℕ) (at : ℕ) (front : List (List Record)) : Type 0 where
  pub legal : All IsBatch front
  pub spelled : drop 64 segment ≡ flat_map batch_bytes front ++ drop at segment
  pub behind : at ≡ 64 + sum_by batch_size front
  pub inside : at < length segment

pub front_none : (segment : List ℕ) → 65 ≤ length segment → Front segment 64 []
front_none segment long = record { legal = All-nil IsBatch; spelled = refl; behind = refl; inside = omega (arith, long) }

-- bytes behind batches and one more
behind_more : (bytes rest : List ℕ) (front : List (List Record)) (b : List Record) → bytes ≡ flat_map batch_bytes front ++ (batch_bytes b ++ rest) → bytes ≡ flat_map batch_bytes (front ++ b ∷ []) ++ rest
behind_more bytes rest front b is =
    is ∙ sym (append_assoc (flat_map batch_bytes front) (batch_bytes b) rest) ∙ ap (λ (xs : List ℕ). xs ++ rest) (flat_map_more batch_bytes [] front b)

pub front_more : (segment : List ℕ) (at to : ℕ) (front : List (List Record)) (b : List Record) → Front segment at front → HasBatchAt segment at b → to ≡ at + batch_size b → Front segment to (front ++ b ∷ [])
front_more segment at to front b f h to_is = record {
  legal = All-push IsBatch front b f.legal h.legal;
  spelled = behind_more (drop 64 segment) (drop to segment) front b
      (f.spelled ∙ ap (λ (xs : List ℕ). flat_map batch_bytes front ++ xs) (h.spelled ∙ ap (λ (j : ℕ). batch_bytes b ++ drop j segment) (sym to_is)));
  behind = omega (arith, to_is, f.behind, sum_by_push batch_size front b);
  inside = omega (arith, to_is, h.room);
}

pub front_closed : (segment : List ℕ) (at : ℕ) (front : List (List Record)) → Front segment at front → (IsOpenAt segment at → ⊥) → AreBatches (drop 64 segment) front
front_closed segment at front f none =
    let end = none_stand segment at f.inside none in
    record { legal = f.legal; gate = end.gate; rest = end.rest; closed = end.closed; spelled = f.spelled ∙ ap (λ (xs : List ℕ). flat_map batch_bytes front ++ xs) end.spelled }

pub front_broken : (segment : List ℕ) (at : ℕ) (front : List (List Record)) → Front segment at front → Walks segment at Broken → BreaksAt segment at
front_broken segment at front f broken = record { front = front; legal = f.legal; spelled = f.spelled; behind = f.behind; broken = broken }

-- The span of a batch

pub span_records : (segment : List ℕ) (at from to : ℕ) (b : List Record) → HasBatchAt segment at b → from ≡ at + 5 → to ≡ from + records_size b → AreRecords (take (to - from) (drop from segment)) b
span_records segment at from to b h from_is to_is =
    let shown : AreRecords (take (records_size b) (drop 5 (drop at segment))) b = (batch_shows (drop at segment) b (batch_from segment at b h)).records in
    let size : records_size b ≡ to - from = omega (arith, to_is) in
    let start : drop 5 (drop at segment) ≡ drop from segment = drop-drop 5 at segment ∙ ap (λ (j : ℕ). drop j segment) (sym from_is) in
    subst (λ (p : ℕ × List ℕ). AreRecords (take p.0 p.1) b) (λ i. (size i, start i)) shown

pub span_some : (segment : List ℕ) (at : ℕ) (b : List Record) → HasBatchAt segment at b → 0 < records_size b
span_some segment at b h = (batch_shows (drop at segment) b (batch_from segment at b h)).some

-- One front

-- no batch stands at the front
abbrev pub HasNone : List ℕ → Type 0
HasNone bytes = (b : List Record) → HasBatchAt bytes 0 b → ⊥

pub stands : (bytes rest : List ℕ) (b : List Record) → IsBatch b → bytes ≡ batch_bytes b ++ rest → 0 < length rest → HasBatchAt bytes 0 b
stands bytes rest b legal is some =
    let behind : drop (0 + batch_size b) bytes ≡ rest =
    ap (λ (j : ℕ). drop j bytes) (zero-add (batch_size b)) ∙ ap (λ (xs : List ℕ). drop (batch_size b) xs) is ∙ drop-front (batch_size b) (batch_bytes b) rest (length-batch_bytes b) in
    record {
      legal = legal;
      spelled = is ∙ ap (λ (xs : List ℕ). batch_bytes b ++ xs) (sym behind);
      room = omega (arith, ap length is, length-append (batch_bytes b) rest, length-batch_bytes b, some);
    }

pub longer : (xs rest : List ℕ) → 0 < length rest → 0 < length (xs ++ rest)
longer xs rest some = omega (arith, length-append xs rest, some)

-- the bytes are these batches and this rest, at which no batch stands
record Cut (bytes : List ℕ) (front : List (List Record)) (rest : List ℕ) : Type 0 where
  legal : All IsBatch front
  spelled : bytes ≡ flat_map batch_bytes front ++ rest
  some : 0 < length rest
  none : HasNone rest

first_of_cut : (bytes rest : List ℕ) (b : List Record) (bs : List (List Record)) → Cut bytes (b ∷ bs) rest → HasBatchAt bytes 0 b
first_of_cut bytes rest b bs k =
    stands bytes (flat_map batch_bytes bs ++ rest) b (All-head IsBatch b bs k.legal) (k.spelled ∙ append_assoc (batch_bytes b) (flat_map batch_bytes bs) rest) (longer (flat_map batch_bytes bs) rest k.some)

others_of_cut : (bytes rest : List ℕ) (b : List Record) (bs : List (List Record)) → Cut bytes (b ∷ bs) rest → Cut (drop (batch_size b) bytes) bs rest
others_of_cut bytes rest b bs k = record {
  legal = All-tail IsBatch b bs k.legal;
  spelled = ap (λ (xs : List ℕ). drop (batch_size b) xs) (k.spelled ∙ append_assoc (batch_bytes b) (flat_map batch_bytes bs) rest)
      ∙ drop-front (batch_size b) (batch_bytes b) (flat_map batch_bytes bs ++ rest) (length-batch_bytes b);
  some = k.some;
  none = k.none;
}

one_cut : (bytes r s : List ℕ) (ps qs : List (List Record)) → Cut bytes ps r → Cut bytes qs s → ps ≡ qs
one_cut bytes r s [] [] j k = refl
one_cut bytes r s [] (q ∷ qs) j k = absurd (j.none q (subst (λ (xs : List ℕ). HasBatchAt xs 0 q) j.spelled (first_of_cut bytes s q qs k)))
one_cut bytes r s (p ∷ ps) [] j k = absurd (k.none p (subst (λ (xs : List ℕ). HasBatchAt xs 0 p) k.spelled (first_of_cut bytes r p ps j)))
one_cut bytes r s (p ∷ ps) (q ∷ qs) j k =
    let same : p ≡ q = one_batch bytes 0 p q (first_of_cut bytes r p ps j) (first_of_cut bytes s q qs k) in
    let behind : Cut (drop (batch_size p) bytes) qs s = subst (λ (x : List Record). Cut (drop (batch_size x) bytes) qs s) (sym same) (others_of_cut bytes s q qs k) in
    let rest : ps ≡ qs = one_cut (drop (batch_size p) bytes) r s ps qs (others_of_cut bytes r p ps j) behind in
    ap (λ (x : List Record). x ∷ ps) same ∙ ap (λ (xs : List (List Record)). q ∷ xs) rest

closed_cut : (bytes : List ℕ) (bs : List (List Record)) → (a : AreBatches bytes bs) → Cut bytes bs (a.gate ∷ a.rest)
closed_cut bytes bs a = record {
  legal = a.legal;
  spelled = a.spelled;
  some = omega arith;
  none = λ b h. a.closed (open_byte (a.gate ∷ a.rest) 0 (batch_open (a.gate ∷ a.rest) 0 b h));
}

broken_cut : (segment : List ℕ) (at : ℕ) → (k : BreaksAt segment at) → Cut (drop 64 segment) k.front (drop at segment)
broken_cut segment at k = record {
  legal = k.legal;
  spelled = k.spelled;
  some = omega (arith, length-drop at segment, open_inside segment at k.broken.0);
  none = λ b h. k.broken.1 b (batch_at segment at b h);
}

pub one_break : (segment : List ℕ) (m n : ℕ) → BreaksAt segment m → BreaksAt segment n → m ≡ n
one_break segment m n j k =
    j.behind ∙ ap (λ (bs : List (List Record)). 64 + sum_by batch_size bs) (one_cut (drop 64 segment) (drop m segment) (drop n segment) j.front k.front (broken_cut segment m j) (broken_cut segment n k)) ∙ sym k.behind

pub never_both : (segment : List ℕ) (bs : List (List Record)) (at : ℕ) → AreBatches (drop 64 segment) bs → BreaksAt segment at → ⊥
never_both segment bs at a k =
    let same : bs ≡ k.front = one_cut (drop 64 segment) (a.gate ∷ a.rest) (drop at segment) bs k.front (closed_cut (drop 64 segment) bs a) (broken_cut segment at k) in
    let rest : a.gate ∷ a.rest ≡ drop at segment =
    append_cancel_left (flat_map batch_bytes bs) _ _ (sym a.spelled ∙ k.spelled ∙ ap (λ (xs : List (List Record)). flat_map batch_bytes xs ++ drop at segment) (sym same)) in
    let there : IsOpenAt (drop at segment) 0 = open_behind segment at 0 (subst (λ (n : ℕ). IsOpenAt segment n) (sym (add-zero at)) k.broken.0) in
    a.closed (open_byte (a.gate ∷ a.rest) 0 (subst (λ (xs : List ℕ). IsOpenAt xs 0) (sym rest) there))
