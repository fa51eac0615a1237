-- What stands in a sink after a write that failed.
use Rattle.std.proofs.Common.{◌≡◌, ℕ, List, ◌++◌, Option, Result, Ok, Err, OnErr, ap, ◌∙◌}
use Rattle.std.proofs.lemmas.List.{append_assoc}
use Rattle.vdr_outside.specs.Writes.{AppendsFront}

pub on_err : {T E : Type 0} (r : Result T E) (P : Type 0) → P → OnErr r P
on_err (Ok x) P p = tt
on_err (Err e) P p = p

-- a front of the text's first piece
pub front-first : (old new : Option (List ℕ)) (piece rest text : List ℕ) → text ≡ piece ++ rest → AppendsFront old new piece → AppendsFront old new text
front-first old new piece rest text is f =
    (f.0, f.1 ++ rest, is ∙ ap (λ (xs : List ℕ). xs ++ rest) f.2 ∙ append_assoc f.0 f.1 rest, f.3)
