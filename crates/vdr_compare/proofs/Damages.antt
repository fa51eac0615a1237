-- The lines of damage, one more at a time.
use Rattle.std.proofs.Common.{◌≡◌, ◌<◌, ℕ, zero, suc, List, [], ◌∷◌, ◌++◌, length, take, drop, get_or, refl, sym, ap, ◌∙◌, arith, append_assoc, Option}
use Rattle.std.specs.Io.KnownBytes.{Appends}
use Rattle.std.proofs.KnownBytes.{Appends-trans}
use Rattle.vdr_outside.specs.Writes.{AppendsFront}
use Rattle.vdr_outside.proofs.Known.{front-more}
use Rattle.vdr_rescue.specs.declared.findings.Finding.{Finding}
use Rattle.vdr_compare.specs.Conditions.{Condition, condition_text, configuration_line, damage_line, damage_lines}
use Rattle.vdr_compare.proofs.Going.{first_front, last_front}

pub damages_split : (m : ℕ) (xs : List Finding) (i : ℕ) (d : Finding) → i < length xs → damage_lines m xs ≡ damage_lines m (take i xs) ++ (damage_line m (get_or xs i d) ++ damage_lines m (drop (suc i) xs))
damages_split m [] i d lt = absurd (omega (arith, lt))
damages_split m (x ∷ xs) zero d lt = refl
damages_split m (x ∷ xs) (suc i) d lt =
    ap (λ (l : List ℕ). damage_line m x ++ l) (damages_split m xs i d (omega (arith, lt)))
    ∙ sym (append_assoc (damage_line m x) (damage_lines m (take i xs)) (damage_line m (get_or xs i d) ++ damage_lines m (drop (suc i) xs)))

-- How much of what is told before the places was printed, where a write failed.
module _ (k : Condition) where
  pub front_at_configuration : (a b : Option (List ℕ)) → AppendsFront a b (configuration_line k.alike) → AppendsFront a b (condition_text k)
  front_at_configuration a b f = first_front a b (configuration_line k.alike) (damage_lines 0 k.capsule ++ damage_lines 1 k.longterm) (condition_text k) refl f

  pub front_at_capsule : (a b c : Option (List ℕ)) → Appends a b (configuration_line k.alike) → AppendsFront b c (damage_lines 0 k.capsule) → AppendsFront a c (condition_text k)
  front_at_capsule a b c p f = front-more a b c (configuration_line k.alike) (damage_lines 0 k.capsule) (damage_lines 1 k.longterm) (condition_text k) refl p f

  pub front_at_longterm : (a b c d : Option (List ℕ)) → Appends a b (configuration_line k.alike) → Appends b c (damage_lines 0 k.capsule) → AppendsFront c d (damage_lines 1 k.longterm) → AppendsFront a d (condition_text k)
  front_at_longterm a b c d p q f =
      last_front a c d (configuration_line k.alike ++ damage_lines 0 k.capsule) (damage_lines 1 k.longterm) (condition_text k)
      (sym (append_assoc (configuration_line k.alike) (damage_lines 0 k.capsule) (damage_lines 1 k.longterm)))
      (Appends-trans a b c (configuration_line k.alike) (damage_lines 0 k.capsule) p q) f
