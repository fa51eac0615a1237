-- Where Gaps stand in a run.
use Rattle.std.proofs.Common.{◌≡◌, ◌≤◌, ◌<◌, ◌+◌, ℕ, zero, suc, ℤ, List, [], ◌∷◌, ◌++◌, length, true, ◌&&◌, ◌==◌, refl, sym, ap, ◌∙◌, subst, arith, inl, inr, ⊎_elim, append-nil, true≢false}
use Rattle.std.specs.Prelude.{⊤}
use Rattle.std.proofs.lemmas.List.Elements.{filter-append}
use Rattle.std.proofs.lemmas.Bool.{cases_eq}
use Rattle.vdr_terms.specs.declared.counts.Counts.{Counts}
use Rattle.vdr_terms.specs.Records.{Record, has_items, is_gap, records_of}
use Rattle.vdr_terms.specs.Records.Content.{Stop}
use Rattle.vdr_core.specs.Accounts.{BeginsWithDatagram, IsClosing, GapsStand}
use Rattle.vdr_core.specs.Taken.{Captured}
use Rattle.vdr_core.specs.Runs.{RunStart}
use Rattle.vdr_terms.specs.Counting.{with_missed}
use Rattle.vdr_core.specs.Recorder.{Recorder, gap_of, gap_unless_none, gaps_below, next_in, tick_of}
use Rattle.vdr_core.proofs.Lanes.{added, gap_own, gap_other}

-- each Gap stands directly before a Datagram of its group
abbrev pub GapsPaired : List Record → Type 0
GapsPaired [] = ⊤
GapsPaired (r ∷ rs) = (is_gap r.content ≡ true → BeginsWithDatagram r.group rs) × GapsPaired rs

begins_more : (g : ℕ) (xs ys : List Record) → BeginsWithDatagram g xs → BeginsWithDatagram g (xs ++ ys)
begins_more g [] ys h = absurd h
begins_more g (x ∷ xs) ys h = h

pub paired_append : (xs ys : List Record) → GapsPaired xs → GapsPaired ys → GapsPaired (xs ++ ys)
paired_append [] ys h k = k
paired_append (x ∷ xs) ys h k = ((λ e. begins_more x.group xs ys (h.0 e)), paired_append xs ys h.1 k)

pub paired_added : (start : RunStart) (c : Captured) (tick place at first : ℕ) (missed : Counts) (k : ℕ) → GapsPaired (added start c tick place at first missed k)
paired_added start c tick place at first missed zero = ((λ e. absurd (true≢false (sym e))), tt)
paired_added start c tick place at first missed (suc k) = ((λ e. (refl, refl)), ((λ e. absurd (true≢false (sym e))), tt))

pub stand_paired : (xs : List Record) → GapsPaired xs → GapsStand xs
stand_paired [] h = tt
stand_paired (x ∷ xs) h = ((λ e. inl (h.0 e)), stand_paired xs h.1)

pub stand_closing : (cs : List Record) → IsClosing cs → GapsStand cs
stand_closing [] h = tt
stand_closing (r ∷ []) h = ((λ e. inr h), tt)
stand_closing (r ∷ next ∷ rs) h = ((λ e. inr h), stand_closing (next ∷ rs) h.1)

pub stand_closed : (xs cs : List Record) → GapsPaired xs → GapsStand cs → GapsStand (xs ++ cs)
stand_closed [] cs h k = k
stand_closed (x ∷ xs) cs h k = ((λ e. inl (begins_more x.group xs cs (h.0 e))), stand_closed xs cs h.1 k)

abbrev AllGaps : List Record → Type 0
AllGaps [] = ⊤
AllGaps (r ∷ rs) = (is_gap r.content ≡ true) × AllGaps rs

all_gaps_append : (xs ys : List Record) → AllGaps xs → AllGaps ys → AllGaps (xs ++ ys)
all_gaps_append [] ys h k = k
all_gaps_append (x ∷ xs) ys h k = (h.0, all_gaps_append xs ys h.1 k)

all_gaps_one : (start : RunStart) (g place first tick : ℕ) (utc : ℤ) (m : Counts) (k : ℕ) → AllGaps (gap_unless_none start g place first tick utc m k)
all_gaps_one start g place first tick utc m zero = tt
all_gaps_one start g place first tick utc m (suc k) = (refl, tt)

pub closes : (xs : List Record) (stop : Record) → stop.content ≡ Stop → AllGaps xs → IsClosing (xs ++ stop ∷ [])
closes [] stop e h = e
closes (x ∷ []) stop e h = (h.0, e)
closes (x ∷ y ∷ ys) stop e h = (h.0, closes (y ∷ ys) stop e h.1)

module _ (start : RunStart) (r : Recorder) (rest : ℕ → Counts) where
  -- the closing gap of a group, at a place
  abbrev closing_gap : ℕ → ℕ → List Record
  closing_gap g place = gap_of start g place (tick_of start r) r.utc (with_missed (rest g) (r.pending g))

  abbrev place_of : ℕ → ℕ
  place_of n = next_in start r.made + length (gaps_below n start r rest)

  pub all_gaps : (n : ℕ) → AllGaps (gaps_below n start r rest)
  all_gaps zero = tt
  all_gaps (suc g) = all_gaps_append (gaps_below g start r rest) (closing_gap g (place_of g)) (all_gaps g) (all_gaps_one start g (place_of g) _ (tick_of start r) r.utc _ _)

  split : (n g : ℕ) → records_of g (gaps_below n start r rest ++ closing_gap n (place_of n)) ≡ records_of g (gaps_below n start r rest) ++ records_of g (closing_gap n (place_of n))
  split n g = filter-append (λ (x : Record). has_items x.content && x.group == g) (gaps_below n start r rest) (closing_gap n (place_of n))

  pub no_gap : (n g : ℕ) → n ≤ g → records_of g (gaps_below n start r rest) ≡ []
  no_gap zero g l = refl
  no_gap (suc n) g l =
      split n g
      ∙ (ap (λ (xs : List Record). xs ++ records_of g (closing_gap n (place_of n))) (no_gap n g (omega arith))
      ∙ gap_other start n (place_of n) _ (tick_of start r) r.utc _ _ g (λ e. omega (arith, e)))

  pub own_gap : (n g : ℕ) → g < n → (place : ℕ) × (records_of g (gaps_below n start r rest) ≡ closing_gap g place)
  own_gap zero g l = absurd (omega arith)
  own_gap (suc n) g l = ⊎_elim here (λ (ne : g ≡ n → ⊥). before ne (own_gap n g (omega arith))) (cases_eq g n)
    where
      own : g ≡ n → records_of g (closing_gap n (place_of n)) ≡ closing_gap n (place_of n)
      own e = subst (λ (k : ℕ). records_of k (closing_gap n (place_of n)) ≡ closing_gap n (place_of n)) (sym e) (gap_own start n (place_of n) _ (tick_of start r) r.utc _ _)

      here : g ≡ n → (place : ℕ) × (records_of g (gaps_below n start r rest ++ closing_gap n (place_of n)) ≡ closing_gap g place)
      here e = subst (λ (k : ℕ). (place : ℕ) × (records_of g (gaps_below n start r rest ++ closing_gap n (place_of n)) ≡ closing_gap k place)) (sym e)
          (place_of n, split n g ∙ (ap (λ (xs : List Record). xs ++ records_of g (closing_gap n (place_of n))) (no_gap n g (omega (arith, e))) ∙ own e))

      before : (g ≡ n → ⊥) → (place : ℕ) × (records_of g (gaps_below n start r rest) ≡ closing_gap g place)
          → (place : ℕ) × (records_of g (gaps_below n start r rest ++ closing_gap n (place_of n)) ≡ closing_gap g place)
      before ne p = (
        p.0,
        split n g ∙ (ap (λ (xs : List Record). records_of g (gaps_below n start r rest) ++ xs) (gap_other start n (place_of n) _ (tick_of start r) r.utc _ _ g (λ e. ne (sym e)))
            ∙ (append-nil (records_of g (gaps_below n start r rest)) ∙ p.1)),
      )
