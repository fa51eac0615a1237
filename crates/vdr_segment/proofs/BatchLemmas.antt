-- Records and batches as they are written.
use Rattle.std.proofs.Common.{◌≡◌, ◌≤◌, ◌<◌, ◌+◌, ℕ, List, [], ◌∷◌, ◌++◌, length, take, drop, get_or, refl, ap, ◌∙◌, sym, subst, arith}
use Rattle.std.specs.Prelude.{All}
use Rattle.std.proofs.lemmas.Grind.{flat_map-append}
use Rattle.std.proofs.lemmas.List.{length-append, append-nil, take_more, take-append-drop}
use Rattle.std.proofs.lemmas.List.Elements.{All-nil, All-more}
use Rattle.std.proofs.lemmas.List.Sums.{sum_by-cons, sum_by_more, sum_by_more_le, sum_by-take-le}
use Rattle.vdr_terms.specs.Legality.{IsRecord}
use Rattle.vdr_terms.specs.Records.{Record}
use Rattle.vdr_terms.specs.Sizes.{record_size, records_size, batch_size}
use Rattle.vdr_bytes.specs.Numbers.{le_u32, Puts}
use Rattle.vdr_bytes.proofs.NumberLemmas.{length-le_u32}
use Rattle.vdr_bytes.proofs.PutsLemmas.{puts-more, puts-before}
use Rattle.vdr_entry.specs.Spelling.{record_bytes, records_bytes}
use Rattle.vdr_entry.proofs.SpellingLemmas.{length-record_bytes}
use Rattle.vdr_segment.specs.Gates.{open_gate, closed_gate}
use Rattle.vdr_segment.specs.Batches.{batch_bytes}

-- Lengths

pub length-records_bytes : (rs : List Record) → length (records_bytes rs) ≡ records_size rs
length-records_bytes [] = refl
length-records_bytes (r ∷ rs) =
    length-append (record_bytes r) (records_bytes rs) ∙ omega (arith, length-record_bytes r, length-records_bytes rs, sum_by-cons record_size r rs)

pub length-batch_bytes : (rs : List Record) → length (batch_bytes rs) ≡ batch_size rs
unfolding batch_bytes
length-batch_bytes rs =
    omega (arith, length-append (le_u32 (records_size rs)) (records_bytes rs), length-le_u32 (records_size rs), length-records_bytes rs)

-- Records

-- These records were written from an offset on, and the last ends here.
pub record Written (old new : List ℕ) (at end : ℕ) (done : List Record) : Type 0 where
  pub ends : end ≡ at + records_size done
  pub bytes : Puts old new at (records_bytes done)
  pub legal : All IsRecord done
  pub long : length new ≡ length old

pub written_none : (old : List ℕ) (at : ℕ) → Written old old at at []
written_none old at = record {
  ends = omega arith;
  bytes = record { is = sym (take-append-drop at old) ∙ ap (λ (xs : List ℕ). xs ++ drop at old) (sym (append-nil (take at old))) ∙ ap (λ (j : ℕ). take at old ++ [] ++ drop j old) (omega arith) };
  legal = All-nil IsRecord;
  long = refl;
}

records_more : (rs : List Record) (i : ℕ) (r : Record) → i < length rs → r ≡ get_or rs i r → records_bytes (take (i + 1) rs) ≡ records_bytes (take i rs) ++ record_bytes r
records_more rs i r within is =
    ap records_bytes (take_more rs i r within ∙ ap (λ (x : Record). take i rs ++ x ∷ []) (sym is)) ∙ flat_map-append record_bytes (take i rs) (r ∷ [])
    ∙ ap (λ (xs : List ℕ). records_bytes (take i rs) ++ xs) (append-nil (record_bytes r))

pub room_for : (old new : List ℕ) (at end i : ℕ) (rs : List Record) (r : Record) → Written old new at end (take i rs) → i < length rs → r ≡ get_or rs i r
    → at + records_size rs ≤ length old → end + record_size r ≤ length new
room_for old new at end i rs r w within is room = omega (arith, w.ends, w.long, room, sum_by_more_le record_size rs i r within, ap record_size is)

pub written_more : (old now new : List ℕ) (at end end' i : ℕ) (rs : List Record) (r : Record) → Written old now at end (take i rs) → i < length rs → r ≡ get_or rs i r
    → at + records_size rs ≤ length old → end' ≡ end + record_size r → Puts now new end (record_bytes r) → IsRecord r → length new ≡ length now
    → Written old new at end' (take (i + 1) rs)
written_more old now new at end end' i rs r w within is room ends put legal long =
    let before : List Record = take i rs in
    let size : length (records_bytes before) ≡ records_size before = length-records_bytes before in
    record {
      ends = omega (arith, ends, w.ends, sum_by_more record_size rs i r within, ap record_size is);
      bytes = subst (λ (xs : List ℕ). Puts old new at xs) (sym (records_more rs i r within is))
          (puts-more old now new at end (records_bytes before) (record_bytes r) w.bytes put (omega (arith, w.ends, size)) (omega (arith, size, room, sum_by-take-le record_size rs i)));
      legal = All-more IsRecord rs i r within w.legal (subst IsRecord is legal);
      long = long ∙ w.long;
    }

-- Batches

-- the four writes of a batch and the gate behind it are one
pub batch_put : (rs : List Record) (n end : ℕ) (a b c d e : List ℕ) → batch_size rs < length a → n ≡ records_size rs → end ≡ batch_size rs
    → Puts a b 5 (records_bytes rs) → Puts b c 1 (le_u32 n) → Puts c d 0 (open_gate ∷ []) → Puts d e end (closed_gate ∷ []) → Puts a e 0 (batch_bytes rs ++ closed_gate ∷ [])
unfolding batch_bytes
batch_put rs n end a b c d e room n_is end_is p q s t =
    let four : length (le_u32 n) ≡ 4 = length-le_u32 n in
    let size = length-records_bytes rs in
    let tail : List ℕ = le_u32 n ++ records_bytes rs in
    let whole : length (open_gate ∷ tail) ≡ end = omega (arith, length-append (le_u32 n) (records_bytes rs), four, size, end_is) in
    let w1 : Puts a c 1 tail = puts-before a b c 1 5 (le_u32 n) (records_bytes rs) p q (omega (arith, four)) (omega (arith, room)) in
    let w2 : Puts a d 0 (open_gate ∷ tail) = puts-before a c d 0 1 (open_gate ∷ []) tail w1 s refl (omega (arith, room)) in
    let w3 : Puts a e 0 ((open_gate ∷ tail) ++ closed_gate ∷ []) = puts-more a d e 0 end (open_gate ∷ tail) (closed_gate ∷ []) w2 t (omega (arith, whole)) (omega (arith, whole, end_is, room)) in
    subst (λ (m : ℕ). Puts a e 0 ((open_gate ∷ (le_u32 m ++ records_bytes rs)) ++ closed_gate ∷ [])) n_is w3
