-- What a row of a table is compared with, and what the table is with it.
use Rattle.std.proofs.Common.{◌≡◌, ◌≤◌, ◌∙◌, ◌∷◌, ℕ, List, Option, Result, ap, subst, arith}
use Rattle.vdr_durability.specs.Sources.{Source, source_cmp}
use Rattle.vdr_alerts.specs.Rows.{IsPlaced, row_at, with_row}
use Rattle.vdr_watch.specs.Signs.{Alarm, Alarms, Beats, Heartbeat, Sign}
use Rattle.vdr_watch.specs.Supervision.{alarm_cmp, beat_cmp, last_state, latest, predecessor, states}
use Rattle.vdr_watch.specs.TableViews.{HasRoom}
use Rattle.vdr_alerts.specs.Lines.{Mark}
use Rattle.vdr_watch.specs.Texts.{beat_text}
use Rattle.vdr_watch.specs.declared.tables.Tables.{Tables}
use Rattle.vdr_alerts.proofs.Ordered.{find_placed, put_placed}
use Rattle.vdr_watch.proofs.Orders.{alarm_total, beat_found, beat_from, beat_total, latest_ordered, state_found, states_ordered}

module _ (met : List Sign) (rows : List Heartbeat) (is : rows ≡ latest met) (s t : Source) (same : s ≡ t) (place : Result ℕ ℕ) (p : IsPlaced (λ b. source_cmp b.source s) rows place) where
  pub predecessor_found : row_at place rows ≡ predecessor t met
  predecessor_found =
      ap (row_at place) is
      ∙ find_placed beat_cmp beat_total (latest met) (beat_from s) (latest_ordered met) place (subst (λ (xs : List Heartbeat). IsPlaced (λ b. source_cmp b.source s) xs place) is p)
      ∙ beat_found met (beat_from s) ∙ ap (λ (x : Source). predecessor x met) same

  pub kept_with_beat : (b : Heartbeat) → t ≡ b.source → with_row place rows b ≡ latest (Beats b ∷ met)
  kept_with_beat b own =
      let q : IsPlaced (λ x. source_cmp x.source s) (latest met) place = subst (λ (xs : List Heartbeat). IsPlaced (λ x. source_cmp x.source s) xs place) is p in
      ap (λ (xs : List Heartbeat). with_row place xs b) is
      ∙ put_placed beat_cmp beat_total (latest met) b (latest_ordered met) place (subst (λ (x : Source). IsPlaced (λ y. source_cmp y.source x) (latest met) place) (same ∙ own) q)

module _ (met : List Sign) (rows : List Alarm) (is : rows ≡ states met) (k : Alarm) (place : Result ℕ ℕ) (p : IsPlaced (λ a. alarm_cmp a k) rows place) where
  placed_in : IsPlaced (λ a. alarm_cmp a k) (states met) place
  placed_in = subst (λ (xs : List Alarm). IsPlaced (λ a. alarm_cmp a k) xs place) is p

  pub last_state_found : row_at place rows ≡ last_state k.source k.number met
  last_state_found = ap (row_at place) is ∙ find_placed alarm_cmp alarm_total (states met) k (states_ordered met) place placed_in ∙ state_found met k

  pub kept_with_state : (text : Option (List ℕ)) → with_row place rows k ≡ states (Alarms k text ∷ met)
  kept_with_state text = ap (λ (xs : List Alarm). with_row place xs k) is ∙ put_placed alarm_cmp alarm_total (states met) k (states_ordered met) place placed_in

pub beat_same : (m : Mark) (o p : Option Heartbeat) (x y : Option ℕ) → o ≡ p → x ≡ y → beat_text m o x ≡ beat_text m p y
beat_same m o p x y e f = λ i. beat_text m (e i) (f i)

pub room_less : (t : Tables) (m n : ℕ) → HasRoom t m → n ≤ m → HasRoom t n
room_less t m n room less = record {
  beats = omega (arith, room.beats, less);
  alarms = omega (arith, room.alarms, less);
  board = record { parts = omega (arith, room.board.parts, less); lists = omega (arith, room.board.lists, less); alerts = omega (arith, room.board.alerts, less) };
}
