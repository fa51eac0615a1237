-- How many bytes opening reads of the media, where what they hold is known otherwise.
use Rattle.std.proofs.Common.{◌≡◌, ◌<◌, ◌≤◌, ◌+◌, ℕ, List, get_or, subst, arith}
use Rattle.vdr_terms.specs.Slots.{slot_count}
use Rattle.vdr_config.specs.Configuration.{Configuration}
use Rattle.vdr_directory.specs.Sequence.{Placed}
use Rattle.vdr_media.proofs.Members.{of_all, of_each}
use Rattle.vdr_opening.specs.Costs.{ReadsToOpen, opening_bytes}
use Rattle.vdr_opening.specs.Media.{Contents}

-- what is read of a medium that holds this
abbrev WithinOf : (c : Configuration) (placed : List Placed) (m : ℕ) (sizes before now : List ℕ) → Type 0
WithinOf c placed m sizes before now = get_or now m 0 ≤ get_or before m 0 + opening_bytes 32768 c.segment (slot_count c.segment (get_or sizes m 0)) placed

within_as : (c d : Configuration) (placed other : List Placed) (m : ℕ) (sizes before now : List ℕ) → c ≡ d → placed ≡ other → WithinOf c placed m sizes before now → WithinOf d other m sizes before now
within_as c d placed other m sizes before now config same within =
    subst (λ (ps : List Placed). WithinOf d ps m sizes before now) same (subst (λ (e : Configuration). WithinOf e placed m sizes before now) config within)

pub reads_as : (x y : Contents) (sizes before now : List ℕ) → x.config ≡ y.config → x.further ≡ y.further → ((k : ℕ) → k < 2 + x.further → x.placed k ≡ y.placed k) → ReadsToOpen x sizes before now → ReadsToOpen y sizes before now
reads_as x y sizes before now config count same reads = record {
  each = of_all (λ m. WithinOf y.config (y.placed m) m sizes before now) y.further (λ k lt.
      let there : k < 2 + x.further = omega (arith, lt, count) in
      within_as x.config y.config (x.placed k) (y.placed k) k sizes before now config (same k there) (of_each (λ m. WithinOf x.config (x.placed m) m sizes before now) x.further reads.each k there));
  others = λ k above. reads.others k (omega (arith, above, count));
}

-- what was done before read nothing
pub reads_since : (x : Contents) (sizes were before mid now : List ℕ) → were ≡ sizes → mid ≡ before → ReadsToOpen x were mid now → ReadsToOpen x sizes before now
reads_since x sizes were before mid now size count reads =
    subst (λ (s : List ℕ). ReadsToOpen x s before now) size (subst (λ (n : List ℕ). ReadsToOpen x were n now) count reads)
