-- How a comparison ends, and why.
use Rattle.std.proofs.Common.{◌≡◌, ℕ, List, Result, Ok, Err, refl}
use Rattle.std.specs.Prelude.{sum}
use Rattle.vdr_outside.specs.Causes.{Rose}
use Rattle.vdr_outside.specs.declared.fault.PartRefused.TheVariants as parts
use Rattle.vdr_compare.specs.Media.{HasMediaCause}
use Rattle.vdr_compare.specs.declared.comparing.CompareRefused.TheVariants as compares
use Rattle.vdr_compare.specs.declared.difference.Verdict.{Verdict}
use Rattle.vdr_compare.specs.declared.difference.Verdict.TheVariants as verdict
use Rattle.vdr_compare.specs.declared.media.MediaRefused.{MediaRefused}
use Rattle.vdr_compare.specs.declared.media.MediaRefused.TheVariants.{Opening, Comparing}
use Rattle.vdr_command.specs.declared.status.Status.TheVariants.{MediaFault, OutputFault, Words}
use Rattle.vdr_readout.specs.Compares.{status_of_comparison}

module _ (before now : List ℕ) (printed prints : ℕ) where
  pub read_rose : (r : Result Verdict MediaRefused) → HasMediaCause before now printed prints r → status_of_comparison r ≡ MediaFault → Rose (sum before) (sum now)
  read_rose (Ok verdict.Same) h e = let none : ⊥ = cc in absurd none
  read_rose (Ok verdict.Configuration) h e = let none : ⊥ = cc in absurd none
  read_rose (Ok (verdict.Damaged m offset)) h e = let none : ⊥ = cc in absurd none
  read_rose (Ok (verdict.Differs place)) h e = let none : ⊥ = cc in absurd none
  read_rose (Ok (verdict.Lacks place)) h e = let none : ⊥ = cc in absurd none
  read_rose (Err (Opening parts.NoMemory)) h e = let none : ⊥ = cc in absurd none
  read_rose (Err (Opening (parts.Damaged m offset))) h e = let none : ⊥ = cc in absurd none
  read_rose (Err (Opening parts.Fault)) h e = h.opening refl
  read_rose (Err (Comparing compares.Fault)) h e = h.fault refl
  read_rose (Err (Comparing compares.Output)) h e = let none : ⊥ = cc in absurd none

  pub write_rose : (r : Result Verdict MediaRefused) → HasMediaCause before now printed prints r → status_of_comparison r ≡ OutputFault → Rose printed prints
  write_rose (Ok verdict.Same) h e = let none : ⊥ = cc in absurd none
  write_rose (Ok verdict.Configuration) h e = let none : ⊥ = cc in absurd none
  write_rose (Ok (verdict.Damaged m offset)) h e = let none : ⊥ = cc in absurd none
  write_rose (Ok (verdict.Differs place)) h e = let none : ⊥ = cc in absurd none
  write_rose (Ok (verdict.Lacks place)) h e = let none : ⊥ = cc in absurd none
  write_rose (Err (Opening parts.NoMemory)) h e = let none : ⊥ = cc in absurd none
  write_rose (Err (Opening (parts.Damaged m offset))) h e = let none : ⊥ = cc in absurd none
  write_rose (Err (Opening parts.Fault)) h e = let none : ⊥ = cc in absurd none
  write_rose (Err (Comparing compares.Fault)) h e = let none : ⊥ = cc in absurd none
  write_rose (Err (Comparing compares.Output)) h e = h.output refl

pub not_words : (r : Result Verdict MediaRefused) → status_of_comparison r ≡ Words → ⊥
not_words (Ok verdict.Same) e = cc
not_words (Ok verdict.Configuration) e = cc
not_words (Ok (verdict.Damaged m offset)) e = cc
not_words (Ok (verdict.Differs place)) e = cc
not_words (Ok (verdict.Lacks place)) e = cc
not_words (Err (Opening parts.NoMemory)) e = cc
not_words (Err (Opening (parts.Damaged m offset))) e = cc
not_words (Err (Opening parts.Fault)) e = cc
not_words (Err (Comparing compares.Fault)) e = cc
not_words (Err (Comparing compares.Output)) e = cc
