-- Gates, open and closed.
use Rattle.std.proofs.Common.{◌≡◌, ◌≢◌, ◌<◌, ◌+◌, ℕ, List, length, drop, slice_index, Some, ap, ◌∙◌, sym, arith, get_or-drop}
use Rattle.std.proofs.lemmas.List.{length-drop}
use Rattle.std.proofs.lemmas.Option.{slice_get_within, get_or_from_slice_get, slice_get-get_or}
use Rattle.vdr_segment.specs.Gates.{open_gate, closed_gate, IsOpenAt}

pub open_inside : (bytes : List ℕ) (at : ℕ) → IsOpenAt bytes at → at < length bytes
open_inside bytes at o = slice_get_within bytes at open_gate o

pub open_byte : (bytes : List ℕ) (at : ℕ) → IsOpenAt bytes at → slice_index bytes at ≡ open_gate
open_byte bytes at o = get_or_from_slice_get bytes at open_gate 0 o

pub open_by_byte : (bytes : List ℕ) (at : ℕ) → at < length bytes → slice_index bytes at ≡ open_gate → IsOpenAt bytes at
open_by_byte bytes at inside is = slice_get-get_or bytes at 0 inside ∙ ap (λ (n : ℕ). Some n) is

-- a gate seen from an offset on
pub open_behind : (bytes : List ℕ) (from at : ℕ) → IsOpenAt bytes (from + at) → IsOpenAt (drop from bytes) at
open_behind bytes from at o =
    open_by_byte (drop from bytes) at (omega (arith, length-drop from bytes, open_inside bytes (from + at) o)) (get_or-drop from bytes at 0 ∙ open_byte bytes (from + at) o)

pub open_within : (bytes : List ℕ) (from at : ℕ) → IsOpenAt (drop from bytes) at → IsOpenAt bytes (from + at)
open_within bytes from at o =
    open_by_byte bytes (from + at) (omega (arith, length-drop from bytes, open_inside (drop from bytes) at o)) (sym (get_or-drop from bytes at 0) ∙ open_byte (drop from bytes) at o)

pub zero_is_closed : closed_gate ≢ open_gate
zero_is_closed e = let bad : ⊥ = omega (arith, e) in bad
