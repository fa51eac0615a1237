-- Records whose bytes are the same.
use Rattle.std.proofs.Common.{◌≡◌, ◌++◌, ℕ, List, [], Bool, true, false, refl, sym, ap}
use Rattle.std.specs.Prelude.{◌↔◌, IsTrue}
use Rattle.std.proofs.lemmas.Slice.Eq.{bytes_eq-Decides}
use Rattle.vdr_terms.specs.Legality.{IsRecord}
use Rattle.vdr_terms.specs.Records.{Record}
use Rattle.vdr_entry.specs.Spelling.{record_bytes}
use Rattle.vdr_compare.specs.Standings.{is_same}

one_test : (P : Type 0) (a b : Bool) → IsTrue a ↔ P → IsTrue b ↔ P → a ≡ b
one_test P true true x y = refl
one_test P false false x y = refl
one_test P true false x y = sym (y.1 (x.0 refl))
one_test P false true x y = x.1 (y.0 refl)

pub same_bytes : (r s : Record) (b : Bool) → IsRecord r → IsRecord s
    → ((r s : Record) (x y : List ℕ) → IsRecord r → IsRecord s → record_bytes r ++ x ≡ record_bytes s ++ y → r ≡ s)
    → IsTrue b ↔ (r ≡ s) → b ≡ is_same r s
same_bytes r s b p q spelled same =
    let d = bytes_eq-Decides (record_bytes r) (record_bytes s) in
    one_test (r ≡ s) b (is_same r s) same (λ t. spelled r s [] [] p q (ap (λ (l : List ℕ). l ++ []) (d.0 t)), λ e. d.1 (ap record_bytes e))
