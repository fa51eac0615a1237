-- Links in memory.
use Rattle.std.specs.Prelude.{◌≡◌, ◌↔◌, ℕ, List, [], ◌++◌, Contains}
use Rattle.vdr_outside.specs.Calls.{Asked}
use Rattle.vdr_outside.specs.declared.link.Heard.{Heard}
use Rattle.vdr_outside.specs.declared.link.Heard.TheVariants.{Quiet, Ended, Failed}

pub record LinkInMemory : Type 0 where
  pub left : List (List ℕ)  -- the lines not yet given
  pub replied : List ℕ  -- the bytes of all replies
  pub failing : List ℕ  -- the calls for a line that fail, by their numbers from 0
  pub quiet : List ℕ  -- the calls for a line that find none in time
  pub refusing : List ℕ  -- the replies that fail
  pub asked : Asked
  pub replies : ℕ  -- how many replies there were
  pub faults : ℕ  -- how many calls failed

-- What a link in memory answers to a call for a line, exactly.
pub record AnswersLine (link : LinkInMemory) (answer : Heard) : Type 0 where
  pub fails : (answer ≡ Failed) ↔ Contains link.failing link.asked.times
  pub quiet : (answer ≡ Quiet) ↔ ((Contains link.failing link.asked.times → ⊥) × Contains link.quiet link.asked.times)
  pub ended : (answer ≡ Ended) ↔ ((Contains link.failing link.asked.times → ⊥) × (Contains link.quiet link.asked.times → ⊥) × (link.left ≡ []))

pub record GatedLinkInMemory : Type 0 where
  pub awaited : List ℕ  -- how a reply has to begin
  pub answer : List ℕ  -- the first 64 bytes that were replied to the last line
  pub asked : Asked

-- The text begins with this front.
abbrev pub Begins : List ℕ → List ℕ → Type 0
Begins front text = (rest : List ℕ) × (text ≡ front ++ rest)
