-- The fields of an incident slot, as a reader meets them. No public clause cites them.
use Rattle.std.specs.Prelude.{◌≡◌, ◌<◌, ◌≤◌, ◌^◌, ℕ, true, List, slice_index, take, drop}
use Rattle.vdr_terms.specs.Stamps.{last_stamp}
use Rattle.vdr_terms.specs.Texts.{is_label}

abbrev pub label_size : List ℕ → ℕ
label_size bytes = slice_index bytes 33

abbrev pub label_in : List ℕ → List ℕ
label_in bytes = take (label_size bytes) (drop 34 bytes)

-- The label is legal.
pub record HasLabel (bytes : List ℕ) : Type 0 where
  pub size : label_size bytes ≤ 64
  pub legal : is_label (label_in bytes) ≡ true

-- The numbers are.
pub record AreInRange (a b tick utc : ℕ) : Type 0 where
  pub order : a ≤ b
  pub tick_low : tick < 2 ^ 63
  pub in_time : utc ≤ last_stamp
