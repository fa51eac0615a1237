-- The table of rates that the groups make.
use Rattle.std.proofs.Common.{◌≡◌, ℕ, suc, ◌<◌, ◌≤◌, Bool, true, false, ◌||◌, List, [], ◌∷◌, length, get_or, replicate, nat_eq, eq-eqb, Option, Some, None, All, refl, sym, subst, ◌∙◌, arith, inl, inr}
use Rattle.std.specs.Prelude.{IfSome, IsSome}
use Rattle.std.proofs.Math.ListN.{set, length-set}
use Rattle.std.proofs.lemmas.Bool.{eqb-true, cases_eq}
use Rattle.std.proofs.lemmas.List.{get_or-set_same, get_or-set_other, get_or-replicate}
use Rattle.std.proofs.lemmas.List.Elements.{All-set}
use Rattle.vdr_terms.specs.declared.rate.Rate.{Rate}
use Rattle.vdr_config.specs.declared.groups.GroupEntry.{GroupEntry}
use Rattle.vdr_config.specs.Configuration.{IsRate}
use Rattle.vdr_config.specs.Grammar.{table_of, has_group}
use Rattle.vdr_config.specs.Entries.{IsEntry}

rest_entries : (g : GroupEntry) (gs : List GroupEntry) → All IsEntry (g ∷ gs) → All IsEntry gs
rest_entries g gs h = λ k d lt. h (suc k) d (omega arith)

pub length-table_of : (table : List (Option Rate)) (gs : List GroupEntry) → length (table_of table gs) ≡ length table
length-table_of table [] = refl
length-table_of table (g ∷ gs) = length-table_of (set table g.number (Some g.rate)) gs ∙ length-set table g.number (Some g.rate)

pub rates_kept : (table : List (Option Rate)) (gs : List GroupEntry) → All (λ r. IfSome r IsRate) table → All IsEntry gs → All (λ r. IfSome r IsRate) (table_of table gs)
rates_kept table [] t h = t
rates_kept table (g ∷ gs) t h =
    let first : IsEntry g = h 0 g (omega arith) in
    let P = λ (r : Option Rate). IfSome r IsRate in
    rates_kept (set table g.number (Some g.rate)) gs (All-set P table g.number (Some g.rate) first.rate t) (rest_entries g gs h)

stays : (table : List (Option Rate)) (i n : ℕ) (r : Rate) → i < length table → IsSome (get_or table n None) → IsSome (get_or (set table i (Some r)) n None)
stays table i n r lt some =
    elim (cases_eq n i) [
      | inl same ↦ rw (same, get_or-set_same table i (Some r) None lt) refl
      | inr other ↦ rw (get_or-set_other table i n (Some r) None other) some
    ]

rate_stays : (table : List (Option Rate)) (gs : List GroupEntry) (n : ℕ) → length table ≡ 16 → All IsEntry gs → IsSome (get_or table n None) → IsSome (get_or (table_of table gs) n None)
rate_stays table [] n len h some = some
rate_stays table (g ∷ gs) n len h some =
    let first : IsEntry g = h 0 g (omega arith) in
    let below : g.number < 16 = first.number in
    rate_stays (set table g.number (Some g.rate)) gs n (length-set table g.number (Some g.rate) ∙ len) (rest_entries g gs h) (stays table g.number n g.rate (omega arith) some)

has_rate_at : (b : Bool) (table : List (Option Rate)) (g : GroupEntry) (gs : List GroupEntry) (n : ℕ) → nat_eq n g.number ≡ b → length table ≡ 16 → All IsEntry (g ∷ gs)
    → (has_group gs n ≡ true → IsSome (get_or (table_of (set table g.number (Some g.rate)) gs) n None)) → (b || has_group gs n) ≡ true → IsSome (get_or (table_of table (g ∷ gs)) n None)
has_rate_at true table g gs n is len h later e =
    let first : IsEntry g = h 0 g (omega arith) in
    let below : g.number < 16 = first.number in
    let same : n ≡ g.number = eqb-true n g.number is in
    let here : IsSome (get_or (set table g.number (Some g.rate)) n None) = rw (same, get_or-set_same table g.number (Some g.rate) None (omega arith)) refl in
    rate_stays (set table g.number (Some g.rate)) gs n (length-set table g.number (Some g.rate) ∙ len) (rest_entries g gs h) here
has_rate_at false table g gs n is len h later e = later e

-- a group that the text has is in the table
pub has_rate : (table : List (Option Rate)) (gs : List GroupEntry) (n : ℕ) → length table ≡ 16 → All IsEntry gs → has_group gs n ≡ true → IsSome (get_or (table_of table gs) n None)
has_rate table [] n len h e = absurd cc
has_rate table (g ∷ gs) n len h e =
    has_rate_at (nat_eq n g.number) table g gs n refl len h (has_rate (set table g.number (Some g.rate)) gs n (length-set table g.number (Some g.rate) ∙ len) (rest_entries g gs h)) e

abbrev no_rate : Option Rate
no_rate = None

-- a table with no rate
pub none_rates : All (λ r. IfSome r IsRate) (replicate 16 no_rate)
none_rates k d lt =
    let e : get_or (replicate 16 no_rate) k d ≡ no_rate = get_or-replicate 16 k no_rate d lt in
    let P = λ (r : Option Rate). IfSome r IsRate in
    subst P (sym e) tt

-- the table has the group that the text has first
pub some_rate : (table : List (Option Rate)) (gs : List GroupEntry) → length table ≡ 16 → All IsEntry gs → 1 ≤ length gs → (n : ℕ) × IsSome (get_or (table_of table gs) n None)
some_rate table [] len h one = absurd (omega arith)
some_rate table (g ∷ gs) len h one = (g.number, has_rate table (g ∷ gs) g.number len h (rw (eq-eqb g.number g.number refl) refl))
