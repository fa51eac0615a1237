-- Two media in step: what stands at the least place at hand, and what is ahead behind it.
use Rattle.std.proofs.Common.{◌≡◌, ℕ, Bool, true, false, List, [], ◌∷◌, Option, None, Some, refl, sym, ◌∙◌, subst, nat_lt, eqb}
use Rattle.std.specs.Prelude.{if◌then◌else◌}
use Rattle.vdr_terms.specs.Records.{Record}
use Rattle.vdr_rescue.specs.Cursors.{StepsTo}
use Rattle.vdr_compare.specs.declared.standing.Standing.{Standing}
use Rattle.vdr_compare.specs.declared.standing.Standing.TheVariants.{Both}
use Rattle.vdr_compare.specs.Sides.{AreAhead, GoesTo, IsAhead, SideState, behind, is_on_capsule, is_on_longterm, of_both, standing_at}
use Rattle.vdr_compare.specs.Standings.{capsule_alone, is_same, longterm_alone, standings}

some_is : (x y : Standing) → ◌≡◌ {A = Option Standing} (Some x) (Some y) → x ≡ y
some_is x y e = cc

some_none : (x : Standing) → ◌≡◌ {A = Option Standing} (Some x) None → ⊥
some_none x e = cc

none_some : (x : Standing) → ◌≡◌ {A = Option Standing} None (Some x) → ⊥
none_some x e = cc

split_by : (same less : Bool) (r s : Record) (rs ss : List Record)
    → (if same then Both r.place (is_same r s) ∷ standings rs ss else (if less then capsule_alone r ∷ standings rs (s ∷ ss) else longterm_alone s ∷ standings (r ∷ rs) ss))
    ≡ (if same then Both r.place (is_same r s) else (if less then capsule_alone r else longterm_alone s))
    ∷ standings (behind (is_on_capsule (if same then Both r.place (is_same r s) else (if less then capsule_alone r else longterm_alone s))) (r ∷ rs))
    (behind (is_on_longterm (if same then Both r.place (is_same r s) else (if less then capsule_alone r else longterm_alone s))) (s ∷ ss))
split_by true less r s rs ss = refl
split_by false true r s rs ss = refl
split_by false false r s rs ss = refl

both_split : (r s : Record) (rs ss : List Record) → standings (r ∷ rs) (s ∷ ss) ≡ of_both r s ∷ standings (behind (is_on_capsule (of_both r s)) (r ∷ rs)) (behind (is_on_longterm (of_both r s)) (s ∷ ss))
both_split r s rs ss = split_by (eqb r.place s.place) (nat_lt r.place s.place) r s rs ss

capsule_split : (r : Record) (rs : List Record) → standings (r ∷ rs) [] ≡ capsule_alone r ∷ standings (behind (is_on_capsule (capsule_alone r)) (r ∷ rs)) (behind (is_on_longterm (capsule_alone r)) [])
capsule_split r rs = refl

longterm_split : (s : Record) (ss : List Record) → standings [] (s ∷ ss) ≡ longterm_alone s ∷ standings (behind (is_on_capsule (longterm_alone s)) []) (behind (is_on_longterm (longterm_alone s)) (s ∷ ss))
longterm_split s ss = refl

-- Records begin with the one at hand, or there is none.
abbrev pub Starts : (more : Bool) → Record → List Record → Type 0
Starts true r records = (rest : List Record) × (records ≡ r ∷ rest)
Starts false r records = records ≡ []

pub starts : (bytes : List ℕ) (side : SideState) (records : List Record) → IsAhead bytes side records → Starts side.more side.item records
starts bytes side records a = by side.more a.1
  where
    by : (more : Bool) → StepsTo bytes more side.item side.cursor records a.0 → Starts more side.item records
    by true x = (x.0, x.1)
    by false x = x.0

split_at : (m n : Bool) (r s : Record) (xs ys : List Record) (x : Standing) → Starts m r xs → Starts n s ys → standing_at m r n s ≡ Some x
    → standings xs ys ≡ x ∷ standings (behind (is_on_capsule x) xs) (behind (is_on_longterm x) ys)
split_at true true r s xs ys x a b at =
    subst (λ (z : Standing). standings xs ys ≡ z ∷ standings (behind (is_on_capsule z) xs) (behind (is_on_longterm z) ys)) (some_is (of_both r s) x at)
    (subst (λ (us : List Record). standings us ys ≡ of_both r s ∷ standings (behind (is_on_capsule (of_both r s)) us) (behind (is_on_longterm (of_both r s)) ys)) (sym a.1)
    (subst (λ (vs : List Record). standings (r ∷ a.0) vs ≡ of_both r s ∷ standings (behind (is_on_capsule (of_both r s)) (r ∷ a.0)) (behind (is_on_longterm (of_both r s)) vs)) (sym b.1)
    (both_split r s a.0 b.0)))
split_at true false r s xs ys x a b at =
    subst (λ (z : Standing). standings xs ys ≡ z ∷ standings (behind (is_on_capsule z) xs) (behind (is_on_longterm z) ys)) (some_is (capsule_alone r) x at)
    (subst (λ (us : List Record). standings us ys ≡ capsule_alone r ∷ standings (behind true us) (behind false ys)) (sym a.1)
    (subst (λ (vs : List Record). standings (r ∷ a.0) vs ≡ capsule_alone r ∷ standings (behind true (r ∷ a.0)) (behind false vs)) (sym b) (capsule_split r a.0)))
split_at false true r s xs ys x a b at =
    subst (λ (z : Standing). standings xs ys ≡ z ∷ standings (behind (is_on_capsule z) xs) (behind (is_on_longterm z) ys)) (some_is (longterm_alone s) x at)
    (subst (λ (us : List Record). standings us ys ≡ longterm_alone s ∷ standings (behind false us) (behind true ys)) (sym a)
    (subst (λ (vs : List Record). standings [] vs ≡ longterm_alone s ∷ standings (behind false []) (behind true vs)) (sym b.1) (longterm_split s b.0)))
split_at false false r s xs ys x a b at = absurd (none_some x at)

none_at : (m n : Bool) (r s : Record) (xs ys : List Record) → Starts m r xs → Starts n s ys → standing_at m r n s ≡ None → standings xs ys ≡ []
none_at true true r s xs ys a b at = absurd (some_none (of_both r s) at)
none_at true false r s xs ys a b at = absurd (some_none (capsule_alone r) at)
none_at false true r s xs ys a b at = absurd (some_none (longterm_alone s) at)
none_at false false r s xs ys a b at = subst (λ (us : List Record). standings us ys ≡ []) (sym a) (subst (λ (vs : List Record). standings [] vs ≡ []) (sym b) refl)

module _ (b0 b1 : List ℕ) (c l : SideState) (ahead : List Standing) (a : AreAhead b0 b1 c l ahead) where
  pub goes_next : (d k : SideState) (x : Standing) → standing_at c.more c.item l.more l.item ≡ Some x
      → ((given : List Record) → IsAhead b0 c given → IsAhead b0 d (behind (is_on_capsule x) given))
      → ((given : List Record) → IsAhead b1 l given → IsAhead b1 k (behind (is_on_longterm x) given))
      → GoesTo b0 b1 (Some x) d k ahead
  goes_next d k x at f g = (
    standings (behind (is_on_capsule x) a.first) (behind (is_on_longterm x) a.second),
    a.are ∙ split_at c.more l.more c.item l.item a.first a.second x (starts b0 c a.first a.capsule_gives) (starts b1 l a.second a.longterm_gives) at,
    record {
      first = behind (is_on_capsule x) a.first;
      second = behind (is_on_longterm x) a.second;
      capsule_gives = f a.first a.capsule_gives;
      longterm_gives = g a.second a.longterm_gives;
      are = refl;
    },
  )

  pub goes_nowhere : standing_at c.more c.item l.more l.item ≡ None → ahead ≡ []
  goes_nowhere at = a.are ∙ none_at c.more l.more c.item l.item a.first a.second (starts b0 c a.first a.capsule_gives) (starts b1 l a.second a.longterm_gives) at
