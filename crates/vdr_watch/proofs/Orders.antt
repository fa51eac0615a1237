-- The orders of heartbeats and alarms, and what is found in their tables.
use Rattle.std.proofs.Common.{◌≡◌, ◌∙◌, ◌==◌, ◌&&◌, ℕ, Bool, true, false, cond, List, [], ◌∷◌, find, Option, Some, None, refl, Ordering, Less, Equal, Greater, nat_cmp, is_eq, nat_lt, arith}
use Rattle.std.specs.Cmp.{IsTotalOrder}
use Rattle.std.specs.Ordering.{ordering_then}
use Rattle.std.proofs.lemmas.Bool.{ltb-true, ne_eqb}
use Rattle.std.proofs.lemmas.Cmp.{nat_cmp_total, on_total, then_total}
use Rattle.vdr_durability.specs.Sources.{Source, is_same, source_cmp}
use Rattle.vdr_durability.proofs.SourceOrder.{is_same_by, source_total}
use Rattle.vdr_watch.specs.Signs.{Alarm, Alarms, Beats, Begins, Heartbeat, Says, Sign}
use Rattle.vdr_alerts.specs.Rows.{AreOrdered}
use Rattle.vdr_watch.specs.Supervision.{alarm_cmp, beat_cmp, board_of, last_state, latest, predecessor, states}
use Rattle.vdr_alerts.specs.Views.{IsOrdered}
use Rattle.vdr_alerts.proofs.Orders.{ordered_behind}
use Rattle.vdr_alerts.proofs.Ordered.{found_with, ordered_with, same_as}

pub beat_total : IsTotalOrder beat_cmp
beat_total = on_total (λ (b : Heartbeat). b.source) source_total

pub alarm_total : IsTotalOrder alarm_cmp
alarm_total = then_total (on_total (λ (a : Alarm). a.source) source_total) (on_total (λ (a : Alarm). a.number) nat_cmp_total)

-- Some heartbeat of the source.
abbrev pub beat_from : Source → Heartbeat
beat_from source = record { source = source; tick = 0; interval = 0; sequence = None }

pub latest_ordered : (met : List Sign) → AreOrdered beat_cmp (latest met)
latest_ordered [] = tt
latest_ordered (Begins ∷ met) = tt
latest_ordered (Beats b ∷ met) = ordered_with beat_cmp beat_total (latest met) b (latest_ordered met)
latest_ordered (Alarms a text ∷ met) = latest_ordered met
latest_ordered (Says s ∷ met) = latest_ordered met

pub states_ordered : (met : List Sign) → AreOrdered alarm_cmp (states met)
states_ordered [] = tt
states_ordered (Begins ∷ met) = states_ordered met
states_ordered (Beats b ∷ met) = states_ordered met
states_ordered (Says s ∷ met) = states_ordered met
states_ordered (Alarms a text ∷ met) = ordered_with alarm_cmp alarm_total (states met) a (states_ordered met)

pub board_ordered : (met : List Sign) → IsOrdered (board_of met)
board_ordered [] = record { parts = tt; lists = tt; alerts = tt }
board_ordered (Begins ∷ met) = board_ordered met
board_ordered (Beats b ∷ met) = board_ordered met
board_ordered (Alarms a text ∷ met) = board_ordered met
board_ordered (Says s ∷ met) = ordered_behind (board_of met) s (board_ordered met)

either : {A : Type 0} (b c : Bool) (x y z : Option A) → b ≡ c → y ≡ z → cond b x y ≡ cond c x z
either b c x y z e f = λ i. cond (e i) x (f i)

-- What is found of a source is its predecessor.
pub beat_found : (met : List Sign) (k : Heartbeat) → find (same_as beat_cmp beat_total k) (latest met) ≡ predecessor k.source met
beat_found [] k = refl
beat_found (Begins ∷ met) k = refl
beat_found (Beats b ∷ met) k =
    found_with beat_cmp beat_total (latest met) b k ∙ either (is_eq (beat_cmp b k)) (is_same b.source k.source) (Some b) _ _ (is_same_by b.source k.source) (beat_found met k)
beat_found (Alarms a text ∷ met) k = beat_found met k
beat_found (Says s ∷ met) k = beat_found met k

both : (o p : Ordering) → is_eq (ordering_then o p) ≡ is_eq o && is_eq p
both Less p = refl
both Equal p = refl
both Greater p = refl

same_number : (n m : ℕ) → is_eq (nat_cmp n m) ≡ (n == m)
same_number n m = by_tests (nat_lt n m) (n == m) (λ less. let l = ltb-true n m less in ne_eqb n m (λ same. absurd (omega (arith, l, same))))
  where
    by_tests : (t u : Bool) → (t ≡ true → u ≡ false) → is_eq (cond t Less (cond u Equal Greater)) ≡ u
    by_tests true true apart = let none = apart refl in let no : ⊥ = cc in absurd no
    by_tests true false apart = refl
    by_tests false true apart = refl
    by_tests false false apart = refl

pub state_found : (met : List Sign) (k : Alarm) → find (same_as alarm_cmp alarm_total k) (states met) ≡ last_state k.source k.number met
state_found [] k = refl
state_found (Begins ∷ met) k = state_found met k
state_found (Beats b ∷ met) k = state_found met k
state_found (Says s ∷ met) k = state_found met k
state_found (Alarms a text ∷ met) k =
    found_with alarm_cmp alarm_total (states met) a k ∙ either (is_eq (alarm_cmp a k)) (is_same a.source k.source && (a.number == k.number)) (Some a) _ _ test (state_found met k)
  where
    test : is_eq (alarm_cmp a k) ≡ is_same a.source k.source && (a.number == k.number)
    test = both (source_cmp a.source k.source) (nat_cmp a.number k.number) ∙ (λ i. is_same_by a.source k.source i && same_number a.number k.number i)
