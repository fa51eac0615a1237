-- What items say together.
use Rattle.std.proofs.Common.{◌≡◌, ◌≤◌, ◌+◌, min, ℕ, List, [], ◌∷◌, Option, Some, None, refl, arith}
use Rattle.std.specs.Option.{option_or}
use Rattle.vdr_tag.specs.Values.{TagValues, nothing, over, all_said}

or_none : {X : Type 0} (a : Option X) → option_or a None ≡ a
or_none None = refl
or_none (Some x) = refl

or_assoc : {X : Type 0} (a b c : Option X) → option_or (option_or a b) c ≡ option_or a (option_or b c)
or_assoc None b c = refl
or_assoc (Some x) b c = refl

-- The count of other items fits, which no more than 65,535 do.
pub record IsCounted (values : TagValues) : Type 0 where
  pub fits : values.others ≤ 65535

at_most : (n : ℕ) → min 65535 n ≤ 65535
at_most n = omega arith

pub IsCounted-over : (first later : TagValues) → IsCounted (over first later)
IsCounted-over first later = record { fits = at_most (first.others + later.others) }

pub IsCounted-all_said : (said : List TagValues) → IsCounted (all_said said)
IsCounted-all_said [] = record { fits = omega arith }
IsCounted-all_said (values ∷ said) = IsCounted-over values (all_said said)

capped : (n : ℕ) → n ≤ 65535 → min 65535 (n + 0) ≡ n
capped n h = omega arith

capped_zero : (n : ℕ) → n ≤ 65535 → min 65535 (0 + n) ≡ n
capped_zero n h = omega arith

capped_assoc : (a b c : ℕ) → min 65535 (min 65535 (a + b) + c) ≡ min 65535 (a + min 65535 (b + c))
capped_assoc a b c = omega arith

pub over-nothing : (values : TagValues) → IsCounted values → over values nothing ≡ values
over-nothing values h = λ i. record {
  source = or_none values.source i;
  destination = or_none values.destination i;
  line = or_none values.line i;
  group = or_none values.group i;
  time = or_none values.time i;
  relative = or_none values.relative i;
  text = or_none values.text i;
  others = capped values.others h.fits i;
}

pub nothing-over : (values : TagValues) → IsCounted values → over nothing values ≡ values
nothing-over values h = λ i. record values { others = capped_zero values.others h.fits i }

pub over_assoc : (a b c : TagValues) → over (over a b) c ≡ over a (over b c)
over_assoc a b c = λ i. record {
  source = or_assoc a.source b.source c.source i;
  destination = or_assoc a.destination b.destination c.destination i;
  line = or_assoc a.line b.line c.line i;
  group = or_assoc a.group b.group c.group i;
  time = or_assoc a.time b.time c.time i;
  relative = or_assoc a.relative b.relative c.relative i;
  text = or_assoc a.text b.text c.text i;
  others = capped_assoc a.others b.others c.others i;
}
