-- A save as it is written and as it is read.
use Rattle.std.proofs.Common.{◌≡◌, ◌≤◌, ◌<◌, ◌+◌, ◌^◌, ℕ, ℤ, List, [], ◌∷◌, ◌++◌, length, take, drop, slice_index, true, refl, sym, ◌∙◌, ap, arith, append_assoc, drop-cons, get_or-drop, length-append, pos, unsigned_abs, to_z, of_z, w64}
use Rattle.std.specs.Prelude.{nat_le, ◌&&◌}
use Rattle.std.specs.List.{list_all}
use Rattle.std.proofs.lemmas.Int.{to_z_pos}
use Rattle.std.proofs.lemmas.List.{drop-drop}
use Rattle.std.proofs.lemmas.Bool.{and_parts, leb-true}
use Rattle.vdr_terms.specs.Legality.{IsBytes}
use Rattle.vdr_terms.specs.Stamps.{IsStamp, last_stamp}
use Rattle.vdr_core.specs.Histories.{Incident}
use Rattle.vdr_bytes.specs.Numbers.{le_u64s, u64_at, Puts}
use Rattle.vdr_terms.proofs.Bytes.{part_long}
use Rattle.vdr_bytes.proofs.NumberLemmas.{cut, take-front}
use Rattle.vdr_bytes.proofs.PutsLemmas.{length-le_u64s, puts-more}
use Rattle.vdr_segment.proofs.NumberListLemmas.{u64s_at, spelled_u64s, read_u64s}
use Rattle.vdr_terms.specs.Texts.{is_label}
use Rattle.vdr_terms.proofs.Stamping.{stamp_kept}
use Rattle.vdr_incident.specs.Saves.{IsSave, SpellsSave, save_bytes}
use Rattle.vdr_incident.specs.Fields.{AreInRange, HasLabel, label_in, label_size}

-- The fields that the bytes of a slot have, where a save stands behind the gate.
pub record HasFields (bytes : List ℕ) (x : Incident) : Type 0 where
  pub numbers : u64s_at 4 1 bytes ≡ x.a ∷ x.b ∷ x.stamp.tick ∷ unsigned_abs x.stamp.utc ∷ []
  pub size : label_size bytes ≡ length x.label
  pub label : label_in bytes ≡ x.label

label_short : (label : List ℕ) → is_label label ≡ true → length label ≤ 64
label_short label is = leb-true (length label) 64 (and_parts (nat_le (length label) 64) (list_all (λ (b : ℕ). nat_le 32 b && nat_le b 126) label) (and_parts (nat_le 1 (length label)) (nat_le (length label) 64 && list_all (λ (b : ℕ). nat_le 32 b && nat_le b 126) label) is).1).0

pub fields_of : (bytes : List ℕ) (x : Incident) → SpellsSave (drop 1 bytes) x → HasFields bytes x
fields_of bytes x s =
    let four : List ℕ = x.a ∷ x.b ∷ x.stamp.tick ∷ unsigned_abs x.stamp.utc ∷ [] in
    let whole : drop 1 bytes ≡ le_u64s four ++ (length x.label ∷ (x.label ++ s.rest)) = s.spelled ∙ append_assoc (le_u64s four) (length x.label ∷ x.label) s.rest in
    let read = read_u64s four 1 bytes (length x.label ∷ (x.label ++ s.rest)) whole
    (omega (arith, s.legal.order, s.legal.fits), (omega (arith, s.legal.fits), (omega (arith, s.legal.tick_low), (omega (arith, s.legal.utc_legal.in_time), tt)))) in
    let first : label_size bytes ≡ length x.label = sym (get_or-drop 33 bytes 0 0) ∙ ap (λ (xs : List ℕ). slice_index xs 0) read.1 in
    let behind : drop 34 bytes ≡ x.label ++ s.rest = sym (drop-drop 1 33 bytes) ∙ ap (λ (xs : List ℕ). drop 1 xs) read.1 in
    record {
      numbers = read.0;
      size = first;
      label = ap (λ (n : ℕ). take n (drop 34 bytes)) first ∙ ap (λ (xs : List ℕ). take (length x.label) xs) behind ∙ take-front (length x.label) x.label s.rest refl;
    }

-- a save that is written has a legal label
pub label_legal : (bytes : List ℕ) (x : Incident) → SpellsSave (drop 1 bytes) x → HasLabel bytes
label_legal bytes x s =
    let f = fields_of bytes x s in
    record { size = omega (arith, f.size, label_short x.label s.legal.labelled); legal = ap is_label f.label ∙ s.legal.labelled }

four_parts : (a b c d a' b' c' d' : ℕ) → a ∷ b ∷ c ∷ d ∷ [] ≡ a' ∷ b' ∷ c' ∷ d' ∷ [] → (a ≡ a') × (b ≡ b') × (c ≡ c') × (d ≡ d')
four_parts a b c d a' b' c' d' e = (cc, cc, cc, cc)

-- and legal numbers
pub numbers_legal : (bytes : List ℕ) (x : Incident) (a b tick utc : ℕ) → SpellsSave (drop 1 bytes) x → a ≡ u64_at 1 bytes → b ≡ u64_at 9 bytes → tick ≡ u64_at 17 bytes → utc ≡ u64_at 25 bytes → AreInRange a b tick utc
numbers_legal bytes x a b tick utc s p q r t =
    let f = four_parts _ _ _ _ _ _ _ _ (fields_of bytes x s).numbers in
    record {
      order = omega (arith, p, q, f.0, f.1, s.legal.order);
      tick_low = omega (arith, r, f.2, s.legal.tick_low);
      in_time = omega (arith, t, f.3, s.legal.utc_legal.in_time);
    }

-- A save that was read

-- its stamp
small_again : (n : ℕ) → n ≤ last_stamp → to_z w64 n ≡ pos n
small_again n small = to_z_pos w64 n (omega (arith, small))

pub save_read : (bytes label : List ℕ) (a b tick utc : ℕ) (z : ℤ) → IsBytes bytes → 98 ≤ length bytes → a ≡ u64_at 1 bytes → b ≡ u64_at 9 bytes → tick ≡ u64_at 17 bytes → utc ≡ u64_at 25 bytes
    → b < 2 ^ 64 → z ≡ to_z w64 utc → label ≡ label_in bytes → HasLabel bytes → AreInRange a b tick utc
    → SpellsSave (drop 1 bytes) (record { label = label; a = a; b = b; stamp = record { tick = tick; utc = z } })
save_read bytes label a b tick utc z are_bytes long p q r t fits is_z is has range =
    let utc_is : z ≡ pos utc = is_z ∙ small_again utc range.in_time in
    let four : List ℕ = a ∷ b ∷ tick ∷ utc ∷ [] in
    let numbers : u64s_at 4 1 bytes ≡ four = same_four _ _ _ _ _ _ _ _ (sym p) (sym q) (sym r) (sym t) in
    let abs_is : unsigned_abs z ≡ utc = ap unsigned_abs utc_is in
    let n : ℕ = label_size bytes in
    let long_label : length label ≡ n = ap length is ∙ part_long 34 n bytes (omega (arith, has.size, long)) in
    record {
      legal = record {
        labelled = ap is_label is ∙ has.legal;
        order = range.order;
        fits = fits;
        tick_low = range.tick_low;
        utc_legal = record { whole = utc_is ∙ ap pos (sym abs_is); in_time = omega (arith, abs_is, range.in_time) };
      };
      rest = drop (34 + n) bytes;
      spelled =
          spelled_u64s 4 1 bytes are_bytes (omega (arith, long))
          ∙ ap (λ (xs : List ℕ). le_u64s xs ++ drop 33 bytes) (numbers ∙ ap (λ (m : ℕ). a ∷ b ∷ tick ∷ m ∷ []) (sym abs_is))
          ∙ ap (λ (xs : List ℕ). le_u64s (a ∷ b ∷ tick ∷ unsigned_abs z ∷ []) ++ xs)
          (drop-cons bytes 33 0 (omega (arith, long)) ∙ ap (λ (xs : List ℕ). n ∷ xs) (cut 34 n bytes) ∙ ap (λ (m : ℕ). m ∷ (take n (drop 34 bytes) ++ drop (34 + n) bytes)) (sym long_label)
          ∙ ap (λ (xs : List ℕ). length label ∷ (xs ++ drop (34 + n) bytes)) (sym is))
          ∙ sym (append_assoc (le_u64s (a ∷ b ∷ tick ∷ unsigned_abs z ∷ [])) (length label ∷ label) (drop (34 + n) bytes));
    }
  where
    same_four : (a b c d a' b' c' d' : ℕ) → a ≡ a' → b ≡ b' → c ≡ c' → d ≡ d' → a ∷ b ∷ c ∷ d ∷ [] ≡ a' ∷ b' ∷ c' ∷ d' ∷ []
    same_four a b c d a' b' c' d' p q r t = cc

-- A save that is written

-- the three writes of its bytes
pub save_put : (x : Incident) (stamp size : ℕ) (label z b1 b2 b3 : List ℕ) → IsSave x → stamp ≡ unsigned_abs x.stamp.utc → label ≡ x.label → size ≡ length label → length z ≡ 97
    → Puts z b1 0 (le_u64s (x.a ∷ x.b ∷ x.stamp.tick ∷ stamp ∷ [])) → Puts b1 b2 32 (size ∷ []) → Puts b2 b3 33 label → SpellsSave b3 x
save_put x stamp size label z b1 b2 b3 legal abs_is is size_is long p q r =
    let four : List ℕ = x.a ∷ x.b ∷ x.stamp.tick ∷ stamp ∷ [] in
    let short : length label ≤ 64 = omega (arith, ap length is, label_short x.label legal.labelled) in
    let n32 : length (le_u64s four) ≡ 32 = length-le_u64s four in
    let n33 : length (le_u64s four ++ size ∷ []) ≡ 33 = length-append (le_u64s four) (size ∷ []) ∙ omega (arith, n32) in
    let two : Puts z b2 0 (le_u64s four ++ size ∷ []) = puts-more z b1 b2 0 32 (le_u64s four) (size ∷ []) p q (omega (arith, n32)) (omega (arith, n32, long)) in
    let all : Puts z b3 0 ((le_u64s four ++ size ∷ []) ++ label) = puts-more z b2 b3 0 33 (le_u64s four ++ size ∷ []) label two r (omega (arith, n33)) (omega (arith, n33, long)) in
    record {
      legal = legal;
      rest = drop (0 + length ((le_u64s four ++ size ∷ []) ++ label)) z;
      spelled = all.is ∙ ap (λ (xs : List ℕ). xs ++ drop (0 + length ((le_u64s four ++ size ∷ []) ++ label)) z)
          (append_assoc (le_u64s four) (size ∷ []) label
          ∙ ap (λ (m : ℕ). le_u64s (x.a ∷ x.b ∷ x.stamp.tick ∷ m ∷ []) ++ (size ∷ label)) abs_is
          ∙ ap (λ (m : ℕ). le_u64s (x.a ∷ x.b ∷ x.stamp.tick ∷ unsigned_abs x.stamp.utc ∷ []) ++ (m ∷ label)) (size_is ∙ ap length is)
          ∙ ap (λ (xs : List ℕ). le_u64s (x.a ∷ x.b ∷ x.stamp.tick ∷ unsigned_abs x.stamp.utc ∷ []) ++ (length x.label ∷ xs)) is);
    }

-- with more bytes behind
pub spells_more : (bytes more : List ℕ) (x : Incident) → SpellsSave bytes x → SpellsSave (bytes ++ more) x
spells_more bytes more x s = record {
  legal = s.legal;
  rest = s.rest ++ more;
  spelled = ap (λ (xs : List ℕ). xs ++ more) s.spelled ∙ append_assoc (save_bytes x) s.rest more;
}

-- One save

same_incident : (l l' : List ℕ) (a a' b b' t t' : ℕ) (u u' : ℤ) → l ≡ l' → a ≡ a' → b ≡ b' → t ≡ t' → u ≡ u'
    → ◌≡◌ {A = Incident} (record { label = l; a = a; b = b; stamp = record { tick = t; utc = u } }) (record { label = l'; a = a'; b = b'; stamp = record { tick = t'; utc = u' } })
same_incident l l' a a' b b' t t' u u' p q r s v = cc

pub one_save : (bytes : List ℕ) (x y : Incident) → SpellsSave (drop 1 bytes) x → SpellsSave (drop 1 bytes) y → x ≡ y
one_save bytes x y s t =
    let f = fields_of bytes x s in
    let g = fields_of bytes y t in
    let e = four_parts _ _ _ _ _ _ _ _ (sym f.numbers ∙ g.numbers) in
    same_incident x.label y.label x.a y.a x.b y.b x.stamp.tick y.stamp.tick x.stamp.utc y.stamp.utc (sym f.label ∙ g.label) e.0 e.1 e.2
    (s.legal.utc_legal.whole ∙ ap pos e.3 ∙ sym t.legal.utc_legal.whole)
