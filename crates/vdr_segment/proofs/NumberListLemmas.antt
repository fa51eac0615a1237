-- Several numbers of eight bytes, one after another.
use Rattle.std.proofs.Common.{◌≡◌, ◌≤◌, ◌<◌, ◌+◌, ◌*◌, ◌^◌, ℕ, zero, suc, List, [], ◌∷◌, ◌++◌, length, drop, refl, ap, ◌∙◌, sym, arith}
use Rattle.std.specs.List.{AllByRecursion}
use Rattle.std.proofs.lemmas.List.{append_assoc}
use Rattle.vdr_terms.specs.Legality.{IsBytes}
use Rattle.vdr_bytes.specs.Numbers.{le_u64, le_u64s, u64_at}
use Rattle.vdr_bytes.proofs.NumberLemmas.{spelled_u64, read_u64}

-- So many numbers from an offset on.
abbrev pub u64s_at : (count at : ℕ) → List ℕ → List ℕ
u64s_at zero at bytes = []
u64s_at (suc count) at bytes = u64_at at bytes ∷ u64s_at count (at + 8) bytes

-- what is read is spelled so
pub spelled_u64s : (count at : ℕ) (bytes : List ℕ) → IsBytes bytes → at + 8 * count ≤ length bytes → drop at bytes ≡ le_u64s (u64s_at count at bytes) ++ drop (at + 8 * count) bytes
spelled_u64s zero at bytes are_bytes within = ap (λ (j : ℕ). drop j bytes) (omega arith)
spelled_u64s (suc count) at bytes are_bytes within =
    let front : List ℕ = le_u64 (u64_at at bytes) in
    let more : List ℕ = le_u64s (u64s_at count (at + 8) bytes) in
    spelled_u64 at bytes are_bytes (omega (arith, within))
    ∙ ap (λ (xs : List ℕ). front ++ xs) (spelled_u64s count (at + 8) bytes are_bytes (omega (arith, within)))
    ∙ sym (append_assoc front more (drop (at + 8 + 8 * count) bytes))
    ∙ ap (λ (j : ℕ). (front ++ more) ++ drop j bytes) (omega arith)

-- what is spelled is read
pub read_u64s : (numbers : List ℕ) (at : ℕ) (bytes rest : List ℕ) → drop at bytes ≡ le_u64s numbers ++ rest → AllByRecursion (λ n. n < 2 ^ 64) numbers
    → (u64s_at (length numbers) at bytes ≡ numbers) × (drop (at + 8 * length numbers) bytes ≡ rest)
read_u64s [] at bytes rest is fit = (refl, ap (λ (j : ℕ). drop j bytes) (omega arith) ∙ is)
read_u64s (n ∷ numbers) at bytes rest is fit =
    let first = read_u64 at n bytes (le_u64s numbers ++ rest) (is ∙ append_assoc (le_u64 n) (le_u64s numbers) rest) fit.0 in
    let more = read_u64s numbers (at + 8) bytes rest first.1 fit.1 in (
      ap (λ (m : ℕ). m ∷ u64s_at (length numbers) (at + 8) bytes) first.0 ∙ ap (λ (ms : List ℕ). n ∷ ms) more.0,
      ap (λ (j : ℕ). drop j bytes) (omega arith) ∙ more.1,
    )
