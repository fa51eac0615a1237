-- The walk over a group's records: one more at the end, and the first of them.
use Rattle.std.proofs.Common.{◌≡◌, ◌+◌, ℕ, List, [], ◌∷◌, ◌++◌, length, refl, sym, ap, ◌∙◌, subst, arith, length-append, append_assoc, append-nil, add-zero}
use Rattle.vdr_terms.specs.Records.{Record, Item}
use Rattle.vdr_terms.specs.Rates.{Limit}
use Rattle.vdr_core.specs.Accounts.{AccountsFor, AllAccounted}

module _ (limit : Limit) (base : ℕ) where
  -- one more record, which accounts for the items that follow
  pub one_more : (before rs : List Record) (r : Record) (n : ℕ) (items mine : List Item)
      → AllAccounted limit base before rs n items
      → r.number ≡ n + length items
      → AccountsFor limit base (before ++ rs) r r.content mine
      → AllAccounted limit base before (rs ++ r ∷ []) n (items ++ mine)
  one_more before [] r n items mine h e a =
      subst (λ (xs : List Item). AllAccounted limit base before (r ∷ []) n (xs ++ mine)) (sym h)
      (mine, [], sym (append-nil mine), e ∙ (ap (λ (xs : List Item). n + length xs) h ∙ add-zero n), rw (append-nil before) at a, refl)
  one_more before (x ∷ rs) r n items mine (own, rest, split, number, fits, more) e a = (
    own,
    rest ++ mine,
    ap (λ (xs : List Item). xs ++ mine) split ∙ append_assoc own rest mine,
    number,
    fits,
    one_more (before ++ x ∷ []) rs r (n + length own) rest mine more
        (let b = length-append own rest in let c = ap length split in omega (arith, e, b, c))
        (subst (λ (xs : List Record). AccountsFor limit base xs r r.content mine) (sym (append_assoc before (x ∷ []) rs)) a),
  )

  -- the first records account for the first of the items
  pub first_part : (before rs more : List Record) (n : ℕ) (items : List Item) → AllAccounted limit base before (rs ++ more) n items
      → (kept lost : List Item) × (items ≡ kept ++ lost) × AllAccounted limit base before rs n kept
  first_part before [] more n items h = ([], items, refl, refl)
  first_part before (x ∷ rs) more n items (own, rest, split, number, fits, later) =
      let p = first_part (before ++ x ∷ []) rs more (n + length own) rest later in (
        own ++ p.0,
        p.1,
        split ∙ (ap (λ (xs : List Item). own ++ xs) p.2 ∙ sym (append_assoc own p.0 p.1)),
        (own, p.0, refl, number, fits, p.3),
      )
