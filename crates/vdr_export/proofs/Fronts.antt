-- Fronts of a text in two parts.
use Rattle.std.proofs.Common.{◌++◌, ℕ, List, [], Option, sym, ap, append-nil}
use Rattle.std.specs.Io.KnownBytes.{Appends}
use Rattle.vdr_outside.specs.Writes.{AppendsFront}
use Rattle.vdr_outside.proofs.Known.{front-more}

pub front_second : (a b c : Option (List ℕ)) (x y : List ℕ) → Appends a b x → AppendsFront b c y → AppendsFront a c (x ++ y)
front_second a b c x y p f = front-more a b c x y [] (x ++ y) (ap (λ (l : List ℕ). x ++ l) (sym (append-nil y))) p f

pub front_whole : (a b : Option (List ℕ)) (x : List ℕ) → Appends a b x → AppendsFront a b x
front_whole a b x p = (x, [], sym (append-nil x), p)
