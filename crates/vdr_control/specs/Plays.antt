-- The words that ask for a play (this project's profile).
use Rattle.std.specs.Prelude.{◌≡◌, ◌≤◌, ◌⊎◌, ℕ, ℤ, pos, List, ◌++◌, codes, decimal, ⊤}
use Rattle.vdr_terms.specs.Stamps.{IsStamp, last_stamp}
use Rattle.vdr_entry.specs.Utc.{utc_text}
use Rattle.vdr_entry.specs.declared.query.Medium.{Medium}
use Rattle.vdr_entry.specs.declared.query.Medium.TheVariants.{Capsule, LongTerm, Incident}
use Rattle.vdr_control.specs.Orders.{PlainOrder}
use Rattle.vdr_control.specs.Orders.PlainOrder.{Play}

-- An incident's id is 1 to 32.
abbrev pub IsMedium : Medium → Type 0
IsMedium Capsule = ⊤
IsMedium LongTerm = ⊤
IsMedium (Incident id) = (1 ≤ id) × (id ≤ 32)

abbrev pub medium_word : Medium → List ℕ
medium_word Capsule = codes "capsule"
medium_word LongTerm = codes "longterm"
medium_word (Incident id) = codes "incident-" ++ decimal id

-- The text of a stamp, or `-`, which stands for the stamp `unbounded`.
abbrev pub SpellsBound : (unbounded : ℤ) (word : List ℕ) (utc : ℤ) → Type 0
SpellsBound unbounded word utc = ((word ≡ codes "-") × (utc ≡ unbounded)) ⊎ (IsStamp utc × (word ≡ utc_text utc))

-- The words are those of this play, of which any text may be the channel.
abbrev pub SpellsPlay : (medium channel from to : List ℕ) → PlainOrder → Type 0
SpellsPlay medium channel from to (Play asked name since until) =
    (IsMedium asked × (medium ≡ medium_word asked)) × (channel ≡ name) × SpellsBound (pos 0) from since × SpellsBound (pos last_stamp) to until
SpellsPlay medium channel from to order = ⊥
