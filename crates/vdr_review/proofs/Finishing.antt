-- What is kept when the run is closed is, within the window, what a review prints.
use Rattle.std.proofs.Common.{◌≡◌, ◌≤◌, ◌+◌, ℕ, List, [], ◌∷◌, ◌++◌, filter, All, Bool, true, false, cond, Option, Some, refl, sym, ap, ◌∙◌, append_assoc}
use Rattle.std.proofs.lemmas.Bool.{cond-false, le-ltb}
use Rattle.std.proofs.lemmas.List.Elements.{All-head, All-tail, filter-append}
use Rattle.vdr_terms.specs.declared.counts.Counts.{Counts}
use Rattle.vdr_terms.specs.Records.{Record, FeedItem, has_items, second, last}
use Rattle.vdr_terms.specs.Rates.{Limit}
use Rattle.vdr_terms.specs.Windows.{in_window, window, window_before}
use Rattle.vdr_core.specs.Recorder.{closing, gaps_below, stop_of}
use Rattle.vdr_core.specs.Replay.{fed, rest_after, taken_of, IsReplay}
use Rattle.vdr_core.proofs.Meter.{last_snoc}
use Rattle.vdr_run.specs.Making.{closing_by, rest_of}
use Rattle.vdr_review.specs.declared.walk.Walk.{Walk}
use Rattle.vdr_review.specs.Review.{review_start, review_seconds, reviewed}
use Rattle.vdr_review.specs.Walks.{KeepsWindow, Tells, kept_of, second_in}

-- two tests, in either order
filter_swap : {A : Type 0} (p q : A → Bool) (xs : List A) → filter p (filter q xs) ≡ filter q (filter p xs)
filter_swap p q [] = refl
filter_swap {A} p q (x ∷ xs) = go (p x) (q x) refl refl (filter_swap p q xs)
  where
    go : (a b : Bool) → p x ≡ a → q x ≡ b → filter p (filter q xs) ≡ filter q (filter p xs) → filter p (cond (q x) (x ∷ filter q xs) (filter q xs)) ≡ filter q (cond (p x) (x ∷ filter p xs) (filter p xs))
    go true true e f h = simp (e, f) (ap (λ (ys : List A). x ∷ ys) h)
    go true false e f h = simp (e, f) h
    go false true e f h = simp (e, f) h
    go false false e f h = simp (e, f) h

-- what went is in no window that ends here
none_left : (now : ℕ) (gone : List Record) → All (λ r. second r.tick + review_seconds ≤ now) gone → filter (λ r. in_window (second r.tick) now review_seconds) gone ≡ []
none_left now [] old = refl
none_left now (r ∷ rs) old =
    cond-false (in_window (second r.tick) now review_seconds) (r ∷ filter (λ r. in_window (second r.tick) now review_seconds) rs) (filter (λ r. in_window (second r.tick) now review_seconds) rs)
    (out (All-head (λ (r : Record). second r.tick + review_seconds ≤ now) r rs old))
    ∙ none_left now rs (All-tail (λ (r : Record). second r.tick + review_seconds ≤ now) r rs old)
  where
    out : second r.tick + review_seconds ≤ now → in_window (second r.tick) now review_seconds ≡ false
    out l = le-ltb now (second r.tick + review_seconds) l

abbrev in_it : ℕ → Record → Bool
in_it now r = in_window (second r.tick) now review_seconds

-- What was made of the items, and then the close: of the whole, what is in its window is what is kept of both.
module _ (now : ℕ) (made gaps kept : List Record) (stop : Record) (k : KeepsWindow now made kept) (is : second stop.tick ≡ now) where
  abbrev all : List Record
  all = made ++ (gaps ++ stop ∷ [])

  abbrev closes : List Record
  closes = kept_of (gaps ++ stop ∷ [])

  newest : last all ≡ Some stop
  newest = ap last (sym (append_assoc made gaps (stop ∷ []))) ∙ last_snoc (made ++ gaps) stop

  window_is : window review_seconds all ≡ filter (in_it now) all
  window_is = ap (λ (r : Option Record). window_before r review_seconds all) newest ∙ ap (λ (n : ℕ). filter (in_it n) all) is

  kept_is : kept_of all ≡ k.gone ++ (kept ++ closes)
  kept_is = filter-append (λ (r : Record). has_items r.content) made (gaps ++ stop ∷ []) ∙ (ap (λ (xs : List Record). xs ++ closes) k.order ∙ append_assoc k.gone kept closes)

  ends : filter (in_it now) (kept ++ closes) ≡ kept_of (window review_seconds all)
  ends = sym (ap kept_of window_is
      ∙ (filter_swap (λ (r : Record). has_items r.content) (in_it now) all
      ∙ (ap (filter (in_it now)) kept_is
      ∙ (filter-append (in_it now) k.gone (kept ++ closes)
      ∙ ap (λ (xs : List Record). xs ++ filter (in_it now) (kept ++ closes)) (none_left now k.gone k.old)))))

-- what the walk keeps is, within the window, what is printed
pub finished : (limit : Limit) (feed : List FeedItem) (walk : Walk) (rest : List Counts) (more kept : List Record) → Tells limit walk feed → IsReplay (review_start limit)
    → rest_of rest ≡ rest_after feed → more ≡ closing_by (review_start limit) (taken_of [] feed) rest → kept ≡ walk.window ++ kept_of more
    → filter (in_it (second_in walk)) kept ≡ reviewed limit feed
unfolding reviewed closing_by
finished limit feed walk rest more kept t replay rests is kept_is =
    ap (filter (in_it (second_in walk))) (kept_is
    ∙ ap (λ (rs : List Record). walk.window ++ kept_of rs) (is ∙ ap (closing (review_start limit) (fed (review_start limit) feed)) rests))
    ∙ (ends (second_in walk) (fed (review_start limit) feed).made (gaps_below 16 (review_start limit) (fed (review_start limit) feed) (rest_after feed)) walk.window
    (stop_of (review_start limit) (fed (review_start limit) feed) (rest_after feed)) t.window (λ i. second (sym t.makes.base i + sym t.makes.greatest i))
    ∙ ap (λ (rs : List Record). kept_of (window review_seconds rs)) (sym (replay feed)))
