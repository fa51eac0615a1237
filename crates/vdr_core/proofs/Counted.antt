-- Counts of items.
use Rattle.std.proofs.Common.{◌≡◌, ◌+◌, ℕ, suc, List, [], ◌∷◌, ◌++◌, length, Bool, true, false, cond, ◌&&◌, count_by, refl, sym, ap, ◌∙◌, arith, length-append}
use Rattle.std.proofs.lemmas.List.Sums.{sum_by-append}
use Rattle.std.proofs.lemmas.Bool.{and_from}
use Rattle.vdr_terms.specs.declared.counts.Counts.{Counts}
use Rattle.vdr_terms.specs.Records.{Record, Item, none_missed}
use Rattle.vdr_terms.specs.Datagrams.{verdict, is_yes, is_bad, is_large}
use Rattle.vdr_terms.specs.declared.datagram.Verdict.TheVariants.{Yes, Bad, Large}
use Rattle.vdr_terms.specs.Rates.{Limit, is_licensed}
use Rattle.vdr_core.specs.Accounts.{AreMissed}
use Rattle.vdr_terms.specs.Counting.{merged, one_full, one_bad, one_large}
use Rattle.vdr_core.specs.Taken.{AreCounted}

pub count_append : {X : Type 0} (p : X → Bool) (xs ys : List X) → count_by p (xs ++ ys) ≡ count_by p xs + count_by p ys
count_append p xs ys = sum_by-append (λ x. cond (p x) 1 0) xs ys

pub count_one : {X : Type 0} (p : X → Bool) (x : X) (b : Bool) → p x ≡ b → count_by p (x ∷ []) ≡ cond b 1 0
count_one p x b e = ap (λ b. 0 + cond b 1 0) e ∙ go b
  where
    go : (b : Bool) → 0 + cond b 1 0 ≡ cond b 1 0
    go true = refl
    go false = refl

pub count_yes : {X : Type 0} (p : X → Bool) (xs : List X) (x : X) → p x ≡ true → count_by p (xs ++ x ∷ []) ≡ suc (count_by p xs)
count_yes p xs x e =
    let a = count_append p xs (x ∷ []) in
    let b = count_one p x true e in
    omega (arith, a, b)

pub count_no : {X : Type 0} (p : X → Bool) (xs : List X) (x : X) → p x ≡ false → count_by p (xs ++ x ∷ []) ≡ count_by p xs
count_no p xs x e =
    let a = count_append p xs (x ∷ []) in
    let b = count_one p x false e in
    omega (arith, a, b)

pub length_snoc : {X : Type 0} (xs : List X) (x : X) → length (xs ++ x ∷ []) ≡ suc (length xs)
length_snoc xs x = let a = length-append xs (x ∷ []) in omega (arith, a)

pub none_counted : AreCounted none_missed []
none_counted = record { bad = refl; large = refl; rate = refl; all = refl }

pub counts_bad : (c : Counts) (items : List Item) (i : Item) → AreCounted c items → verdict i.bytes ≡ Bad → AreCounted (one_bad c) (items ++ i ∷ [])
counts_bad c items i h v = record {
  bad = ap suc h.bad ∙ sym (count_yes (λ (i : Item). is_bad (verdict i.bytes)) items i (ap is_bad v));
  large = h.large ∙ sym (count_no (λ (i : Item). is_large (verdict i.bytes)) items i (ap is_large v));
  rate = h.rate;
  all = let a = length_snoc items i in let b = h.all in omega (arith, a, b);
}

pub counts_large : (c : Counts) (items : List Item) (i : Item) → AreCounted c items → verdict i.bytes ≡ Large → AreCounted (one_large c) (items ++ i ∷ [])
counts_large c items i h v = record {
  bad = h.bad ∙ sym (count_no (λ (i : Item). is_bad (verdict i.bytes)) items i (ap is_bad v));
  large = ap suc h.large ∙ sym (count_yes (λ (i : Item). is_large (verdict i.bytes)) items i (ap is_large v));
  rate = h.rate;
  all = let a = length_snoc items i in let b = h.all in omega (arith, a, b);
}

pub counts_full : (c : Counts) (items : List Item) (i : Item) → AreCounted c items → verdict i.bytes ≡ Yes → AreCounted (one_full c) (items ++ i ∷ [])
counts_full c items i h v = record {
  bad = h.bad ∙ sym (count_no (λ (i : Item). is_bad (verdict i.bytes)) items i (ap is_bad v));
  large = h.large ∙ sym (count_no (λ (i : Item). is_large (verdict i.bytes)) items i (ap is_large v));
  rate = h.rate;
  all = let a = length_snoc items i in let b = h.all in omega (arith, a, b);
}

module _ (limit : Limit) (base : ℕ) (before : List Record) (g : ℕ) where
  abbrev licensed : Item → Bool
  licensed i = is_yes (verdict i.bytes) && is_licensed limit base before g i

  pub none_are_missed : AreMissed limit base before g none_missed []
  none_are_missed = record { bad = refl; large = refl; rate = omega arith; all = refl }

  -- what a worker counted joins what is pending
  pub missed_more : (p c : Counts) (xs ys : List Item) → AreMissed limit base before g p xs → AreCounted c ys → AreMissed limit base before g (merged p c) (xs ++ ys)
  missed_more p c xs ys h k = record {
    bad = let a = count_append (λ (i : Item). is_bad (verdict i.bytes)) xs ys in let b = h.bad in let d = k.bad in omega (arith, a, b, d);
    large = let a = count_append (λ (i : Item). is_large (verdict i.bytes)) xs ys in let b = h.large in let d = k.large in omega (arith, a, b, d);
    rate = let a = count_append licensed xs ys in let b = h.rate in let d = k.rate in omega (arith, a, b, d);
    all = let a = length-append xs ys in let b = h.all in let d = k.all in omega (arith, a, b, d);
  }

  -- one more that the records show as refused
  pub missed_rate : (p : Counts) (xs : List Item) (i : Item) → AreMissed limit base before g p xs → verdict i.bytes ≡ Yes → is_licensed limit base before g i ≡ true
      → AreMissed limit base before g (record { full = p.full; rate = suc p.rate; bad = p.bad; large = p.large }) (xs ++ i ∷ [])
  missed_rate p xs i h v l = record {
    bad = h.bad ∙ sym (count_no (λ (i : Item). is_bad (verdict i.bytes)) xs i (ap is_bad v));
    large = h.large ∙ sym (count_no (λ (i : Item). is_large (verdict i.bytes)) xs i (ap is_large v));
    rate = let a = count_yes licensed xs i (and_from _ _ (ap is_yes v) l) in let b = h.rate in omega (arith, a, b);
    all = let a = length_snoc xs i in let b = h.all in omega (arith, a, b);
  }
