-- What one incident slot is after a write.
use Rattle.std.proofs.Common.{◌≡◌, ◌≢◌, ◌≤◌, ℕ, List, [], ◌∷◌, ◌++◌, length, drop, Option, None, Some, refl, sym, ap, subst, arith}
use Rattle.vdr_core.specs.Histories.{Incident}
use Rattle.vdr_outside.specs.Disk.{over}
use Rattle.vdr_segment.specs.Gates.{open_gate, IsOpenAt}
use Rattle.vdr_segment.proofs.Gates.{from_write, gate_before, gate_opened, gate_closed, gate_again}
use Rattle.vdr_incident.specs.Saves.{IsIncidentSlot, SpellsSave}
use Rattle.vdr_incident.proofs.Spelling.{one_save, spells_more}

pub one_slot : (bytes : List ℕ) (x y : Option Incident) → IsIncidentSlot bytes x → IsIncidentSlot bytes y → x ≡ y
one_slot bytes None None a b = refl
one_slot bytes None (Some y) a b = absurd (a b.0)
one_slot bytes (Some x) None a b = absurd (b a.0)
one_slot bytes (Some x) (Some y) a b = ap (λ (z : Incident). Some z) (one_save bytes x y a.1 b.1)

-- what stands behind a closed gate doesn't count
pub closed_behind : (p x : List ℕ) → IsIncidentSlot p None → IsIncidentSlot (over p 1 x) None
closed_behind p x closed opened = closed (subst (λ (T : Type 0). T) (gate_before p 1 x (omega arith)) opened)

-- the gate, with any byte that isn't the open one
pub closed_now : (p : List ℕ) (y : ℕ) → y ≢ open_gate → IsIncidentSlot (over p 0 (y ∷ [])) None
closed_now p y ne = gate_closed p y ne

-- an open one that is opened again
pub open_still : (p : List ℕ) (x : Incident) → IsIncidentSlot p (Some x) → IsIncidentSlot (over p 0 (open_gate ∷ [])) (Some x)
open_still p x is = subst (λ (xs : List ℕ). IsIncidentSlot xs (Some x)) (sym (gate_again p is.0)) is

-- the gate of a body
pub opened : (p body rest : List ℕ) (x : Incident) → 1 ≤ length p → drop 1 p ≡ body ++ rest → SpellsSave body x → IsIncidentSlot (over p 0 (open_gate ∷ [])) (Some x)
opened p body rest x some staged s = (
  gate_opened p some,
  subst (λ (xs : List ℕ). SpellsSave (drop 1 xs) x) (sym (from_write p 0 (open_gate ∷ []) (omega (arith, some))))
      (subst (λ (xs : List ℕ). SpellsSave xs x) (sym staged) (spells_more body rest x s)),
)

-- behind an open gate no save is spelled
pub no_slot : (p : List ℕ) (saved : Option Incident) → IsOpenAt p 0 → ((x : Incident) → SpellsSave (drop 1 p) x → ⊥) → IsIncidentSlot p saved → ⊥
no_slot p None opened none is = is opened
no_slot p (Some x) opened none is = none x is.1
