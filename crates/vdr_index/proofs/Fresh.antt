-- An index whose slots are all clear.
use Rattle.std.proofs.Common.{◌≡◌, ◌<◌, ◌+◌, ◌*◌, ◌^◌, ℕ, List, length, get_or, Option, Some, None, sym, ap, ◌∙◌, arith}
use Rattle.std.specs.Prelude.{replicate}
use Rattle.std.proofs.lemmas.List.{length-replicate, get_or-replicate}
use Rattle.std.proofs.lemmas.Option.{slice_get_within, get_or_from_slice_get, none-some}
use Rattle.vdr_index.specs.declared.known.Known.{Known}
use Rattle.vdr_index.specs.Indexes.{Keeps}
use Rattle.vdr_index.specs.Keys.{key_of, key_in, IsOrdered, AreNumbers}

module _ (n : ℕ) (kept : List (Option Known)) (order : List ℕ) (few : n < 2 ^ 32) (clear : kept ≡ replicate n None) (numbers : AreNumbers n order) where
  long : length kept ≡ n
  long = ap length clear ∙ length-replicate {A = Option Known} n None

  clear_at : (j : ℕ) → j < n → get_or kept j None ≡ None
  clear_at j lt = ap (λ (xs : List (Option Known)). get_or xs j None) clear ∙ get_or-replicate {A = Option Known} n j None None lt

  key_at : (i d : ℕ) → i < n → key_in kept (get_or order i d) ≡ 2 ^ 64 * 2 ^ 32 + i
  key_at i d lt = ap (key_in kept) (numbers.each i d lt) ∙ ap (key_of i) (clear_at i lt)

  none_kept : (j : ℕ) (k : Known) → Keeps kept j k → ⊥
  none_kept j k at = none-some k (sym (clear_at j (let lt = slice_get_within kept j (Some k) at in omega (arith, lt, long))) ∙ get_or_from_slice_get kept j (Some k) None at)

  pub fresh_ordered : IsOrdered kept order
  fresh_ordered = record {
    size = let s = numbers.size in omega (arith, s, long);
    few = omega (arith, few, long);
    low = λ j k at. absurd (none_kept j k at);
    within = λ k d lt. let s = numbers.size in let e = numbers.each k d (omega (arith, lt, s)) in omega (arith, e, lt, s, long);
    all = λ j lt. let s = numbers.size in (j, omega (arith, lt, s, long), numbers.each j j (omega (arith, lt, long)));
    rises = λ i j d lt within.
        let s = numbers.size in
        let a = key_at i d (omega (arith, lt, within, s)) in
        let b = key_at j d (omega (arith, within, s)) in
        omega (arith, a, b, lt);
  }
