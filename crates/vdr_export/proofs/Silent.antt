-- Silence is written in pieces.
use Rattle.std.proofs.Common.{◌≡◌, ◌≤◌, ◌+◌, ◌-◌, ◌*◌, ◌++◌, ℕ, List, take, replicate, Option, sym, ap, subst, arith, ◌∙◌}
use Rattle.std.proofs.lemmas.List.{take-replicate, replicate-append-replicate}
use Rattle.std.proofs.KnownBytes.{Appends-trans}
use Rattle.std.specs.Io.KnownBytes.{Appends}
use Rattle.vdr_outside.specs.Writes.{AppendsFront}
use Rattle.vdr_outside.proofs.Known.{front-more}
use Rattle.vdr_export.specs.Sounds.{silence}

pub of_zeros : (n : ℕ) → n ≤ 512 → take (2 * n) (replicate 1024 0) ≡ silence n
of_zeros n few = take-replicate (2 * n) 1024 0 (omega (arith, few))

joined : (a b c : ℕ) → a + b ≡ c → silence a ++ silence b ≡ silence c
joined a b c is = let n : 2 * a + 2 * b ≡ 2 * c = omega (arith, is) in replicate-append-replicate (2 * a) (2 * b) 0 ∙ ap (λ (k : ℕ). replicate k 0) n

module _ (a b c : Option (List ℕ)) (samples left now : ℕ) (within : left ≤ samples) (part : now ≤ left) (written : Appends a b (silence (samples - left))) where
  pub silence_more : Appends b c (silence now) → Appends a c (silence (samples - (left - now)))
  silence_more p = subst (λ (l : List ℕ). Appends a c l) (joined (samples - left) now (samples - (left - now)) (omega (arith, within, part)))
      (Appends-trans a b c (silence (samples - left)) (silence now) written p)

  pub silence_front : AppendsFront b c (silence now) → AppendsFront a c (silence samples)
  silence_front p = front-more a b c (silence (samples - left)) (silence now) (silence (left - now)) (silence samples) whole written p
    where
      whole : silence samples ≡ silence (samples - left) ++ (silence now ++ silence (left - now))
      whole = sym (joined (samples - left) left samples (omega (arith, within))) ∙ ap (λ (l : List ℕ). silence (samples - left) ++ l) (sym (joined now (left - now) left (omega (arith, part))))
