-- Which datagrams are recorded.
use Rattle.std.specs.Prelude.{ℕ, Bool, true, false, List, ◌∷◌, length, ◌&&◌, ◌||◌, ◌==◌, nat_lt, nat_le, if◌then◌else◌}
use Rattle.vdr_terms.specs.declared.datagram.Verdict.{Verdict}
use Rattle.vdr_terms.specs.declared.datagram.Verdict.TheVariants.{Yes, Bad, Large}

-- The longest datagram that is recorded, in bytes (IEC 61162-450: a UDP payload that fits one Ethernet frame).
abbrev pub largest : ℕ
largest = 1472

abbrev pub is_letter : ℕ → Bool
is_letter b = (nat_le 65 b && nat_le b 90) || (nat_le 97 b && nat_le b 122)

-- The bytes begin with a datagram token (IEC 61162-450): five ASCII letters and NUL.
abbrev pub has_token : List ℕ → Bool
has_token (a ∷ b ∷ c ∷ d ∷ e ∷ nul ∷ rest) = is_letter a && is_letter b && is_letter c && is_letter d && is_letter e && nul == 0
has_token _ = false

-- A datagram is recorded exactly at Yes.
abbrev pub verdict : List ℕ → Verdict
verdict bytes = if nat_lt largest (length bytes) then Large else if has_token bytes then Yes else Bad

abbrev pub is_yes : Verdict → Bool
is_yes Yes = true
is_yes Bad = false
is_yes Large = false

abbrev pub is_bad : Verdict → Bool
is_bad Yes = false
is_bad Bad = true
is_bad Large = false

abbrev pub is_large : Verdict → Bool
is_large Yes = false
is_large Bad = false
is_large Large = true
