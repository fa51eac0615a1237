-- What a configuration is: its parts and their ranges (this project's profile).
use Rattle.std.specs.Prelude.{◌≡◌, ◌≢◌, ℕ, ◌*◌, ◌≤◌, max, ◌&&◌, Bool, true, false, List, length, Option, Some, None, IfSome, IsSome, All, AllPairs, nat_le, slice_index_or}
use Rattle.vdr_terms.specs.declared.rate.Rate.{Rate}
use Rattle.vdr_config.specs.declared.profile.Profile.{Profile}
use Rattle.vdr_config.specs.declared.profile.Profile.TheVariants.{Ship, Bench}
use Rattle.vdr_config.specs.Names.{is_channel_name, is_formatter, is_source}

-- What a channel selects of its group. None: whatever it is.
pub data Selection : Type 0 where
  Sentence : (formatter source : Option (List ℕ)) → Selection
  Image : (source : Option (List ℕ)) → Selection
  Pcm : (microphone : ℕ) → Selection
  Opaque : Selection

-- A channel, by which a recording is searched.
pub record Selector : Type 0 where
  pub name : List ℕ
  pub group : ℕ
  pub kind : Selection

-- A configuration. At the number of each of the sixteen groups stands its rate, None where the group is not configured. The window
-- of the float-free medium is the capsule's where none was given.
pub record Configuration : Type 0 where
  pub profile : Profile
  pub capsule_seconds : ℕ
  pub long_seconds : ℕ
  pub float_seconds : ℕ
  pub float_given : Bool
  pub incident_seconds : ℕ
  pub incident_slots : ℕ
  pub segment : ℕ
  pub batch : ℕ
  pub queue : ℕ
  pub groups : List (Option Rate)
  pub channels : List Selector

-- The text, where it is given, passes.
abbrev pub if_given : (List ℕ → Bool) → Option (List ℕ) → Bool
if_given test None = true
if_given test (Some s) = test s

abbrev pub is_selection : Selection → Bool
is_selection (Sentence formatter source) = if_given is_formatter formatter && if_given is_source source
is_selection (Image source) = if_given is_source source
is_selection (Pcm microphone) = nat_le microphone 255
is_selection Opaque = true

abbrev pub IsRate : Rate → Type 0
IsRate r = (1 ≤ r.datagrams) × (r.datagrams ≤ 10_000) × (6 ≤ r.bytes) × (r.bytes ≤ 10_000_000)

-- What each configuration keeps.
pub record IsConfiguration (c : Configuration) : Type 0 where
  pub capsule_low : 1 ≤ c.capsule_seconds
  pub capsule_high : c.capsule_seconds ≤ 31_536_000
  pub long_low : 1 ≤ c.long_seconds
  pub long_high : c.long_seconds ≤ 31_536_000
  pub float_low : 1 ≤ c.float_seconds
  pub float_high : c.float_seconds ≤ max c.capsule_seconds c.long_seconds
  pub incident_low : 1 ≤ c.incident_seconds
  pub incident_high : c.incident_seconds ≤ c.long_seconds
  pub slots_low : 1 ≤ c.incident_slots
  pub slots_high : c.incident_slots ≤ 32
  pub segment_low : 8_192 ≤ c.segment
  pub segment_high : c.segment ≤ 16_777_216
  pub batch_low : 2_048 ≤ c.batch
  pub batch_high : c.batch ≤ 1_048_576
  pub four_batches : 4 * c.batch ≤ c.segment
  pub queue_low : 1 ≤ c.queue
  pub queue_high : c.queue ≤ 65_536
  pub sixteen : length c.groups ≡ 16
  pub some_group : (g : ℕ) × IsSome (slice_index_or c.groups g None)
  pub rates : All (λ g. IfSome g IsRate) c.groups
  pub few : length c.channels ≤ 64
  pub names : All (λ s. is_channel_name s.name ≡ true) c.channels
  pub selections : All (λ s. is_selection s.kind ≡ true) c.channels
  pub configured : All (λ s. IsSome (slice_index_or c.groups s.group None)) c.channels
  pub names_differ : AllPairs (λ s t. s.name ≢ t.name) c.channels

abbrev pub is_ship : Profile → Bool
is_ship Ship = true
is_ship Bench = false

-- A ship's windows are 48 hours, on the capsule and on the float-free medium, and 30 days at least (IEC 61996-1, IMO MSC.333(90)).
pub record HasShipWindows (c : Configuration) : Type 0 where
  pub capsule : 172_800 ≤ c.capsule_seconds
  pub long : 2_592_000 ≤ c.long_seconds
  pub float : 172_800 ≤ c.float_seconds
