-- What is said of a feed that has no review.
use Rattle.std.specs.Prelude.{ℕ, Result, Ok, Err, ⊤}
use Rattle.vdr_review.specs.declared.reading.ReviewRefused.{ReviewRefused}
use Rattle.vdr_review.specs.declared.reading.ReviewRefused.TheVariants.{Input, Memory, Refused}

abbrev pub IfRefused : {T : Type 0} → Result T ReviewRefused → (ℕ → ℕ → Type 0) → Type 0
IfRefused (Ok x) P = ⊤
IfRefused (Err Input) P = ⊤
IfRefused (Err Memory) P = ⊤
IfRefused (Err (Refused number offset)) P = P number offset
