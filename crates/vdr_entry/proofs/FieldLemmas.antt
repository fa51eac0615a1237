-- The fields of a record as the code reads them.
use Rattle.std.proofs.Common.{◌≡◌, ◌<◌, ◌+◌, ◌-◌, ◌^◌, ℕ, List, take, drop, refl, ap, ◌∙◌, sym, subst, arith, slice_index, pos, to_z, w64}
use Rattle.std.proofs.lemmas.Int.{to_z_pos}
use Rattle.vdr_bytes.specs.Numbers.{u16_at, u64_at}
use Rattle.vdr_terms.specs.Legality.{IsBytes}
use Rattle.vdr_terms.specs.Records.{Record}
use Rattle.vdr_entry.specs.declared.kind.Kind.{Kind}
use Rattle.vdr_entry.specs.Fields.{Carries, content_of}
use Rattle.vdr_entry.specs.Spotting.{payload_in, record_in, Suits, AreInRange, Spots}
use Rattle.vdr_entry.proofs.ReadingLemmas.{same_record, spotted_legal}

pub ranged : (p t u p' t' u' : ℕ) → p ≡ p' → t ≡ t' → u ≡ u' → AreInRange p t u → AreInRange p' t' u'
ranged p t u p' t' u' e1 e2 e3 r = record { place = omega (arith, e1, r.place); tick = omega (arith, e2, r.tick); utc = omega (arith, e3, r.utc) }

pub suited : (kind : Kind) (group n n' : ℕ) (xs xs' : List ℕ) → n ≡ n' → xs ≡ xs' → Suits kind group n xs → Suits kind group n' xs'
suited kind group n n' xs xs' e1 e2 s = subst (λ (ys : List ℕ). Suits kind group n' ys) e2 (subst (λ (m : ℕ). Suits kind group m xs) e1 s)

-- the payload as the code cuts it
pub payload_is_cut : (bytes : List ℕ) (len : ℕ) → len ≡ u16_at 2 bytes → take (44 + len - 44) (drop 44 bytes) ≡ payload_in bytes
unfolding payload_in
payload_is_cut bytes len e = ap (λ (n : ℕ). take n (drop 44 bytes)) (omega (arith, e))

-- the record that the code makes
pub read_is : (bytes : List ℕ) (kind : Kind) (items : List ℕ) (bits place number tick utc : ℕ) → Spots bytes kind → items ≡ payload_in bytes
    → bits ≡ u64_at 4 bytes → place ≡ u64_at 12 bytes → number ≡ u64_at 20 bytes → tick ≡ u64_at 28 bytes → utc ≡ u64_at 36 bytes
    → ◌≡◌ {A = Record} (record { content = content_of kind items; group = slice_index bytes 1; bits = bits; place = place; number = number; tick = tick; utc = to_z w64 utc }) (record_in kind bytes)
unfolding record_in
read_is bytes kind items bits place number tick utc s e0 e1 e2 e3 e4 e5 =
    let small : utc < 2 ^ 63 = omega (arith, e5, s.numbers.utc) in
    same_record (record_in kind bytes) _ _ _ _ _ _ _ (ap (λ (xs : List ℕ). content_of kind xs) e0) refl e1 e2 e3 e4 (to_z_pos w64 utc small ∙ ap (λ (n : ℕ). pos n) e5)

pub read_carried : (bytes : List ℕ) (kind : Kind) (items : List ℕ) (r : Record) → IsBytes bytes → Spots bytes kind → items ≡ payload_in bytes → r ≡ record_in kind bytes → Carries r items
unfolding record_in
read_carried bytes kind items r are_bytes s is same =
    let there : Carries (record_in kind bytes) items = record { legal = spotted_legal bytes kind are_bytes s; payload_is = is ∙ s.payload.payload_is } in
    subst (λ (x : Record). Carries x items) (sym same) there
