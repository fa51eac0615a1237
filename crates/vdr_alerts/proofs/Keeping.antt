-- What is told and kept of an alert, and alerts that a sentence of a list goes over one after the other.
use Rattle.std.proofs.Common.{◌≡◌, ◌∙◌, ◌<◌, ◌++◌, ◌∷◌, [], ℕ, zero, suc, Bool, List, Option, Some, ap, arith, drop, get_or, length, map, refl, set, sym, take}
use Rattle.std.specs.List.{flat_map}
use Rattle.std.proofs.Math.Numerals.{add-one}
use Rattle.vdr_values.specs.Values.{Value}
use Rattle.vdr_alerts.specs.Alerts.{Alert, Lists, Part, Tells, alert_cmp, alert_told, behind_list, is_whole, names, names_among, part_cmp, rest_told, title_told}
use Rattle.vdr_alerts.specs.Boards.{Board, board_behind, change_text, gone_text, saying_text, told_text, with_alert, with_part}
use Rattle.vdr_alerts.specs.Lines.{Mark}
use Rattle.vdr_alerts.specs.Rows.{put, same_row}

pub put_told : (rows : List Alert) (o : Option Alert) (a : Alert) → o ≡ Some a → put alert_cmp rows a ≡ with_alert rows o
put_told rows o a is = sym (ap (with_alert rows) is)

pub text_told : (m : Mark) (rows : List Alert) (o before : Option Alert) (a : Alert) (title rest : List ℕ) → before ≡ same_row alert_cmp rows a → o ≡ Some a
    → change_text m before a title rest ≡ told_text m rows o title rest
text_told m rows o before a title rest e is =
    ap (λ (x : Option Alert). change_text m x a title rest) e ∙ sym (ap (λ (x : Option Alert). told_text m rows x title rest) is)

pub names_all : (values : List (Option Value)) (a : Alert) (n : ℕ) (r : Bool) → r ≡ names_among values a n → n ≡ 30 → r ≡ names values a
unfolding names
names_all values a n r is end = is ∙ ap (names_among values a) end

module _ {A : Type 0} (f : A → A) where
  -- A list that is gone over up to this index.
  abbrev pub over : (n : ℕ) → List A → List A
  over n xs = map f (take n xs) ++ drop n xs

  pub at_next : (xs : List A) (i : ℕ) (d : A) → i < length xs → get_or (over i xs) i d ≡ get_or xs i d
  at_next [] i d lt = absurd (omega (arith, lt))
  at_next (x ∷ xs) zero d lt = refl
  at_next (x ∷ xs) (suc i) d lt = at_next xs i d (omega (arith, lt))

  pub one_over : (xs : List A) (i : ℕ) (d : A) → i < length xs → set (over i xs) i (f (get_or xs i d)) ≡ over (suc i) xs
  one_over [] i d lt = absurd (omega (arith, lt))
  one_over (x ∷ xs) zero d lt = refl
  one_over (x ∷ xs) (suc i) d lt = ap (λ (ys : List A). f x ∷ ys) (one_over xs i d (omega (arith, lt)))

module _ (m : Mark) (b : Board) (p : Part) (before : Option Part) (found : before ≡ same_row part_cmp b.parts p) (alert : Option Alert) (told : alert ≡ alert_told before p) where
  told_is : alert ≡ alert_told (same_row part_cmp b.parts p) p
  told_is = told ∙ ap (λ (o : Option Part). alert_told o p) found

  pub part_text : (title rest : List ℕ) → title ≡ title_told before p → rest ≡ rest_told p → told_text m b.alerts alert title rest ≡ saying_text m b (Tells p)
  part_text title rest t r =
      let titled : title ≡ title_told (same_row part_cmp b.parts p) p = t ∙ ap (λ (o : Option Part). title_told o p) found in
      λ i. told_text m b.alerts (told_is i) (titled i) (r i)

  pub part_kept : (parts : List Part) (alerts : List Alert) → parts ≡ with_part b.parts p → alerts ≡ with_alert b.alerts alert
      → ◌≡◌ {A = Board} (record { parts = parts; lists = b.lists; alerts = alerts }) (board_behind b (Tells p))
  part_kept parts alerts x y = let z = y ∙ ap (with_alert b.alerts) told_is in λ i. record { parts = x i; lists = b.lists; alerts = z i }

module _ (m : Mark) (b : Board) (p : Part) (values : List (Option Value)) (before : Option Part) (found : before ≡ same_row part_cmp b.lists p) (ended : Bool) (is : ended ≡ is_whole before p) where
  ended_is : ended ≡ is_whole (same_row part_cmp b.lists p) p
  ended_is = is ∙ ap (λ (o : Option Part). is_whole o p) found

  pub list_text : (rows : List Alert) → rows ≡ b.alerts → flat_map (gone_text m ended p values) rows ≡ saying_text m b (Lists p values)
  list_text rows r = ap (flat_map (gone_text m ended p values)) r ∙ ap (λ (e : Bool). flat_map (gone_text m e p values) b.alerts) ended_is
