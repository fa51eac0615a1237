-- A write of one byte, and what stands before and behind it.
use Rattle.std.proofs.Common.{◌≡◌, ◌≢◌, inl, ℕ, zero, suc, ◌+◌, ◌≤◌, List, [], ◌∷◌, ◌++◌, length, take, drop, refl, sym, ◌∙◌, ap, arith, length-take-le}
use Rattle.std.proofs.lemmas.List.{drop-drop}
use Rattle.std.proofs.lemmas.Option.{same_Some}
use Rattle.vdr_bytes.proofs.NumberLemmas.{drop-front}
use Rattle.vdr_outside.specs.Disk.{over}
use Rattle.vdr_outside.proofs.Bytes.{over_parts}
use Rattle.vdr_outside.proofs.Parts.{part_other}
use Rattle.vdr_segment.specs.Gates.{open_gate, IsOpenAt}

-- what stands before a write
pub before_write : (p : List ℕ) (n at : ℕ) (x : List ℕ) → n ≤ at → take n (over p at x) ≡ take n p
before_write p n at x le = part_other p 0 n at x (inl (omega (arith, le)))

-- from the write on
pub from_write : (p : List ℕ) (at : ℕ) (x : List ℕ) → at + length x ≤ length p → drop at (over p at x) ≡ x ++ drop (at + length x) p
from_write p at x fits =
    ap (λ (xs : List ℕ). drop at xs) (sym (over_parts p at x fits)) ∙ drop-front at (take at p) (x ++ drop (length x) (drop at p)) (length-take-le at p (omega (arith, fits)))
    ∙ ap (λ (xs : List ℕ). x ++ xs) (drop-drop (length x) at p)

-- a gate behind which something is written
pub gate_before : (p : List ℕ) (at : ℕ) (x : List ℕ) → 1 ≤ at → IsOpenAt (over p at x) 0 ≡ IsOpenAt p 0
gate_before [] at x behind = refl
gate_before (y ∷ p) zero x behind = absurd (omega (arith, behind))
gate_before (y ∷ p) (suc at) x behind = refl

-- the gate itself, opened
pub gate_opened : (p : List ℕ) → 1 ≤ length p → IsOpenAt (over p 0 (open_gate ∷ [])) 0
gate_opened [] some = absurd (omega (arith, some))
gate_opened (y ∷ []) some = refl
gate_opened (y ∷ z ∷ p) some = refl

-- with any other byte it is closed
pub gate_closed : (p : List ℕ) (y : ℕ) → y ≢ open_gate → IsOpenAt (over p 0 (y ∷ [])) 0 → ⊥
gate_closed [] y ne opened = let none : ⊥ = cc in none
gate_closed (a ∷ []) y ne opened = ne (same_Some y open_gate opened)
gate_closed (a ∷ b ∷ p) y ne opened = ne (same_Some y open_gate opened)

-- an open gate that is opened again
pub gate_again : (p : List ℕ) → IsOpenAt p 0 → over p 0 (open_gate ∷ []) ≡ p
gate_again [] opened = refl
gate_again (y ∷ []) opened = let is : y ≡ open_gate = same_Some y open_gate opened in ap (λ (z : ℕ). z ∷ []) (sym is)
gate_again (y ∷ z ∷ p) opened = let is : y ≡ open_gate = same_Some y open_gate opened in ap (λ (x : ℕ). x ∷ z ∷ p) (sym is)
