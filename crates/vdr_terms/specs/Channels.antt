-- Channels, by which a recording is searched, and the bits of records (this project's profile).
use Rattle.std.specs.Prelude.{ℕ, ◌+◌, ◌-◌, ◌*◌, ◌^◌, List, [], ◌∷◌, length, ◌==◌, if◌then◌else◌}
use Rattle.vdr_terms.specs.Records.{Content}
use Rattle.vdr_terms.specs.Records.Content.{Start, Datagram, Gap, Stop}

-- The channels of a configuration: the group of each, and the bits that a group's datagram has.
pub record Channels : Type 0 where
  pub groups : List ℕ
  pub selects : ℕ → List ℕ → ℕ

abbrev pub no_channels : Channels
no_channels = record { groups = []; selects = λ g bytes. 0 }

-- Bit k for each channel k of the group.
abbrev pub group_bits : List ℕ → ℕ → ℕ
group_bits [] g = 0
group_bits (of ∷ groups) g = (if of == g then 1 else 0) + 2 * group_bits groups g

-- A Datagram has the bits of the channels that select it, a Gap those of its group's channels, Start and Stop those of all.
abbrev pub bits_of : Channels → ℕ → Content → ℕ
bits_of channels g (Datagram payload) = channels.selects g payload
bits_of channels g (Gap missed) = group_bits channels.groups g
bits_of channels g Start = 2 ^ length channels.groups - 1
bits_of channels g Stop = 2 ^ length channels.groups - 1
