-- A text that is written piece by piece.
use Rattle.std.proofs.Common.{◌≡◌, ℕ, List, ◌++◌, Option, codes, refl, sym, ap, ◌∙◌, append_assoc}
use Rattle.std.specs.Prelude.{decimal}
use Rattle.std.specs.Io.KnownBytes.{Appends}
use Rattle.std.proofs.KnownBytes.{Appends-trans}
use Rattle.vdr_outside.specs.Writes.{AppendsFront}
use Rattle.vdr_config.specs.declared.bad.ConfigBad.{ConfigBad}
use Rattle.vdr_command.specs.Refusals.{number_of, key_of, refusal_line}
use Rattle.vdr_command.specs.StatusLine.{escaped_line}

-- the line up to the key, the key, and LF
pub refusal_is : (bad : ConfigBad) (front key : List ℕ) (n : ℕ) → n ≡ number_of bad → front ≡ codes "status 3 config " ++ decimal n ++ codes " " → key ≡ key_of bad
    → escaped_line front key ≡ refusal_line bad
unfolding refusal_line
refusal_is bad front key n number is path = rw (is, number, path) refl

-- a front of a later piece, once those before it were written
pub front_later : (old now new : Option (List ℕ)) (before piece rest text : List ℕ) → text ≡ before ++ (piece ++ rest) → Appends old now before → AppendsFront now new piece → AppendsFront old new text
front_later old now new before piece rest text is p f = (
  before ++ f.0,
  f.1 ++ rest,
  is ∙ ap (λ (xs : List ℕ). before ++ xs) (ap (λ (xs : List ℕ). xs ++ rest) f.2 ∙ append_assoc f.0 f.1 rest) ∙ sym (append_assoc before f.0 (f.1 ++ rest)),
  Appends-trans old now new before f.0 p f.3,
)
