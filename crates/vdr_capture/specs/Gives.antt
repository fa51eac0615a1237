-- What a port gave in several takes, and what it answered.
use Rattle.std.specs.Prelude.{◌≡◌, ◌<◌, ℕ, zero, suc, List, [], ◌++◌, map, Option, Some, None, ⊤}
use Rattle.vdr_terms.specs.Records.{Item}
use Rattle.vdr_outside.specs.Calls.{Asked, asked_again, other, ended, failed}
use Rattle.vdr_outside.specs.Takes.{Standing, cut}
use Rattle.vdr_capture.specs.declared.lane.Cause.{Cause}
use Rattle.vdr_capture.specs.declared.lane.Cause.TheVariants.{Ended, Failed, Turns}

-- A known list gets these at its end.
abbrev pub GainsAll : {A : Type 0} → Option (List A) → Option (List A) → List A → Type 0
GainsAll None new items = ⊤
GainsAll (Some xs) None items = ⊥
GainsAll (Some xs) (Some ys) items = ys ≡ xs ++ items

-- A known list loses these at its front.
abbrev pub LosesAll : {A : Type 0} → Option (List A) → Option (List A) → List A → Type 0
LosesAll None new items = ⊤
LosesAll (Some xs) None items = ⊥
LosesAll (Some xs) (Some ys) items = xs ≡ items ++ ys

-- Nothing is left of a known list.
abbrev pub NothingLeft : {A : Type 0} → Option (List A) → Option (List A) → Type 0
NothingLeft None new = ⊤
NothingLeft (Some xs) new = new ≡ Some []

-- The port gave these items: the first of those that were left, in order, each cut to 1,473 bytes.
pub record Gave (old new : Standing) (given : List Item) : Type 0 where
  pub whole : List Item
  pub are_cut : given ≡ map cut whole
  pub left : LosesAll old.left new.left whole
  pub taken : GainsAll old.taken new.taken given

-- After so many takes that gave a datagram or none in their time.
abbrev pub asked_often : ℕ → Asked → Asked
asked_often zero a = a
asked_often (suc n) a = asked_again (asked_often n a) other

-- A capture of at most so many takes ended by this cause: after so many takes that gave a datagram or none in their time, one
-- more answered that none is left, or failed; or all takes were made.
abbrev pub EndsBy : (turns others : ℕ) → Asked → Asked → Cause → Type 0
EndsBy turns others old new Ended = (others < turns) × (new ≡ asked_again (asked_often others old) ended)
EndsBy turns others old new Failed = (others < turns) × (new ≡ asked_again (asked_often others old) failed)
EndsBy turns others old new Turns = (others ≡ turns) × (new ≡ asked_often others old)
