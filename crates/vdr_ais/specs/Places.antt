-- Where a key stands, or is to be put, among entries in order.
use Rattle.std.specs.Prelude.{◌≡◌, ◌<◌, ◌≤◌, ℕ, List, length, Some, slice_get}
use Rattle.std.specs.declared.cmp.Ordering.{Ordering}
use Rattle.std.specs.declared.cmp.Ordering.TheVariants.{Less, Equal, Greater}

-- It comes behind the first i: `order` says how it stands to another.
abbrev pub ComesBehind : {K X : Type 0} → (order : K → Ordering) → List (K × X) → ℕ → Type 0
ComesBehind {K} {X} order es i = (j : ℕ) (e : K × X) → j < i → slice_get es j ≡ Some e → order e.0 ≡ Greater

pub record IsAt {K X : Type 0} (order : K → Ordering) (es : List (K × X)) (i : ℕ) : Type 0 where
  pub within : i < length es
  pub behind : ComesBehind order es i
  pub here : (e : K × X) → slice_get es i ≡ Some e → order e.0 ≡ Equal

pub record IsGap {K X : Type 0} (order : K → Ordering) (es : List (K × X)) (i : ℕ) : Type 0 where
  pub within : i ≤ length es
  pub behind : ComesBehind order es i
  pub before : (e : K × X) → slice_get es i ≡ Some e → order e.0 ≡ Less
