-- The orders of alerts and of their sentences.
use Rattle.std.proofs.Common.{◌≡◌, ◌∙◌, ◌||◌, Bool, true, false, cond, List, [], ◌∷◌, map, Option, Some, None, refl, Less, nat_cmp}
use Rattle.std.specs.List.{AllByRecursion}
use Rattle.std.specs.Cmp.{IsTotalOrder}
use Rattle.std.specs.Cmp.Lexicographic.{options_total}
use Rattle.std.proofs.lemmas.Cmp.{nat_cmp_total, nat_list_cmp_total, on_total, then_total}
use Rattle.vdr_durability.proofs.SourceOrder.{source_total}
use Rattle.vdr_durability.specs.Sources.{is_same}
use Rattle.vdr_values.specs.Values.{Value}
use Rattle.vdr_alerts.specs.Alerts.{Alert, Lists, Part, Saying, Tells, alert_cmp, alert_told, behind_list, is_whole, leaves, part_cmp, stays}
use Rattle.vdr_alerts.specs.Boards.{Board, board_behind, with_alert}
use Rattle.vdr_alerts.specs.Rows.{AreOrdered, same_row}
use Rattle.vdr_alerts.specs.Views.{IsOrdered}
use Rattle.vdr_alerts.proofs.Ordered.{ordered_with}

pub part_total : IsTotalOrder part_cmp
part_total = then_total (on_total (λ (p : Part). p.source) source_total) (on_total (λ (p : Part). p.sequence) (options_total nat_cmp_total))

pub alert_total : IsTotalOrder alert_cmp
alert_total =
    then_total (on_total (λ (a : Alert). a.source) source_total)
    (then_total (on_total (λ (a : Alert). a.maker) nat_list_cmp_total)
    (then_total (on_total (λ (a : Alert). a.number) nat_cmp_total) (on_total (λ (a : Alert). a.instance) (options_total nat_cmp_total))))

alike : (b c : Bool) (x y : Alert) (l g m h : Bool) → alert_cmp (cond b (record x { listed = l; gone = g }) x) (cond c (record y { listed = m; gone = h }) y) ≡ alert_cmp x y
alike true true x y l g m h = refl
alike true false x y l g m h = refl
alike false true x y l g m h = refl
alike false false x y l g m h = refl

list_alike : (ended : Bool) (p : Part) (values : List (Option Value)) (x y : Alert) → alert_cmp (behind_list ended p values x) (behind_list ended p values y) ≡ alert_cmp x y
list_alike ended p values x y =
    alike (is_same x.source p.source) (is_same y.source p.source) x y (stays p values x) (x.gone || leaves ended p values x) (stays p values y) (y.gone || leaves ended p values y)

module _ (ended : Bool) (p : Part) (values : List (Option Value)) where
  all_alike : (x : Alert) (ys : List Alert) → AllByRecursion (λ later. alert_cmp x later ≡ Less) ys
      → AllByRecursion (λ later. alert_cmp (behind_list ended p values x) later ≡ Less) (map (behind_list ended p values) ys)
  all_alike x [] h = tt
  all_alike x (y ∷ ys) h = (list_alike ended p values x y ∙ h.0, all_alike x ys h.1)

  -- The alerts are in order behind a list of a source.
  list_ordered : (xs : List Alert) → AreOrdered alert_cmp xs → AreOrdered alert_cmp (map (behind_list ended p values) xs)
  list_ordered [] h = tt
  list_ordered (x ∷ xs) h = (all_alike x xs h.0, list_ordered xs h.1)

told_ordered : (alerts : List Alert) (o : Option Alert) → AreOrdered alert_cmp alerts → AreOrdered alert_cmp (with_alert alerts o)
told_ordered alerts None h = h
told_ordered alerts (Some a) h = ordered_with alert_cmp alert_total alerts a h

-- What is known is in order behind a sentence.
pub ordered_behind : (b : Board) (s : Saying) → IsOrdered b → IsOrdered (board_behind b s)
ordered_behind b (Tells p) h = record {
  parts = ordered_with part_cmp part_total b.parts _ h.parts;
  lists = h.lists;
  alerts = told_ordered b.alerts (alert_told (same_row part_cmp b.parts p) p) h.alerts;
}
ordered_behind b (Lists p values) h = record {
  parts = h.parts;
  lists = ordered_with part_cmp part_total b.lists _ h.lists;
  alerts = list_ordered (is_whole (same_row part_cmp b.lists p) p) p values b.alerts h.alerts;
}
