-- Words that ask for a recording ask for nothing else.
use Rattle.std.proofs.Common.{◌≡◌, ℕ, Option, Some, sym, ◌∙◌}

pub one_number : (found : Option ℕ) (n m : ℕ) → found ≡ Some n → found ≡ Some m → m ≡ n
one_number found n m a b = let e : Some m ≡ Some n = sym b ∙ a in cc
