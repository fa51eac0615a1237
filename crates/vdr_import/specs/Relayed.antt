-- A source that is read ahead, and a sink before which bytes are gathered.
use Rattle.std.specs.Prelude.{◌≡◌, ◌≤◌, ℕ, ◌-◌, ◌^◌, List, take, drop, Option, None, Some}
use Rattle.std.specs.Io.KnownBytes.{append_known}
use Rattle.vdr_outside.specs.Causes.{Rose}
use Rattle.vdr_outside.specs.Writes.{BeginsWith}
use Rattle.vdr_import.specs.declared.buffers.Buffer.{Buffer}
use Rattle.vdr_import.specs.declared.side.Side.{Side}
use Rattle.vdr_import.specs.declared.side.Side.TheVariants.{Input, Output}

-- the bytes that are on their way
abbrev pub held_in : Buffer → List ℕ
held_in b = drop b.from (take b.to b.bytes)

-- what is known now, where it was known
abbrev pub if_known : (all now : Option (List ℕ)) → Option (List ℕ)
if_known None now = None
if_known (Some xs) now = now

-- Of a text that was to be written the sink took a front, and the rest waits.
pub record Gathers (old new : Option (List ℕ)) (text waiting : List ℕ) : Type 0 where
  pub grown : BeginsWith old new
  pub whole : if_known old (append_known new waiting) ≡ append_known old text

-- how often a relay failed
abbrev pub faults_of : Option Side → ℕ
faults_of None = 0
faults_of (Some side) = 2 ^ 64 - 1

-- No count of faults falls, and that of the side that failed rose.
pub record Blames (failed : Option Side) (input input' output output' : ℕ) : Type 0 where
  pub later_input : input ≤ input'
  pub later_output : output ≤ output'
  pub input_rose : failed ≡ Some Input → Rose input input'
  pub output_rose : failed ≡ Some Output → Rose output output'
