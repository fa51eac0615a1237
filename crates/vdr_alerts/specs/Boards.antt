-- What is known of alerts, and what each sentence makes of it and tells (this project's profile).
use Rattle.std.specs.Prelude.{Bool, List, [], ◌∷◌, ◌++◌, ◌==◌, length, map, ℕ, codes, decimal, Option, Some, None, if◌then◌else◌}
use Rattle.std.specs.List.{concat, flat_map}
use Rattle.vdr_entry.specs.Escape.{escaped}
use Rattle.vdr_values.specs.Values.{Value}
use Rattle.vdr_alerts.specs.Alerts.{Alert, Lists, Part, Saying, Tells, alert_cmp, alert_told, as_kept, behind_list, is_known, is_whole, leaves, part_cmp, rest_told, title_told}
use Rattle.vdr_alerts.specs.Lines.{Mark, front_text, letter_text}
use Rattle.vdr_alerts.specs.Rows.{put, same_row}

-- The last sentence of ALF and of ALC for each group, source and sequential identifier, and the alerts; all in order.
pub record Board : Type 0 where
  pub parts : List Part
  pub lists : List Part
  pub alerts : List Alert

abbrev pub empty : Board
empty = record { parts = []; lists = []; alerts = [] }

abbrev pub with_part : List Part → Part → List Part
with_part parts p = put part_cmp parts (as_kept (same_row part_cmp parts p) p)

abbrev pub with_alert : List Alert → Option Alert → List Alert
with_alert alerts None = alerts
with_alert alerts (Some a) = put alert_cmp alerts a

-- What is known behind a sentence.
abbrev pub board_behind : Board → Saying → Board
board_behind b (Tells p) = record b { parts = with_part b.parts p; alerts = with_alert b.alerts (alert_told (same_row part_cmp b.parts p) p) }
board_behind b (Lists p values) = record b { lists = with_part b.lists p; alerts = map (behind_list (is_whole (same_row part_cmp b.lists p) p) p values) b.alerts }

abbrev pub number_text : Option ℕ → List ℕ
number_text None = codes "null"
number_text (Some n) = decimal n

-- PLACE UTC alert GROUP SOURCE IDENTIFIER INSTANCE PRIORITY STATE, and a space. The identifier is the mnemonic and the number.
abbrev pub alert_front : Mark → Alert → (state : List ℕ) → List ℕ
alert_front m a state =
    front_text m (codes " alert ") a.source
    ++ concat (a.maker ∷ decimal a.number ∷ codes " " ∷ number_text a.instance ∷ codes " " ∷ letter_text a.priority ∷ codes " " ∷ state ∷ codes " " ∷ [])

-- A title and the text of a second sentence, with a space between.
abbrev pub texts_text : (title rest : List ℕ) → List ℕ
texts_text title rest =
    if length rest == 0 then (if length title == 0 then codes "null" else escaped title)
    else if length title == 0 then escaped rest
    else escaped title ++ (codes " " ++ escaped rest)

abbrev pub alert_line : Mark → Alert → (title rest : List ℕ) → List ℕ
alert_line m a title rest = alert_front m a (letter_text a.state) ++ (texts_text title rest ++ codes "\n")

-- An alert is told at its first state, and where its priority or its state differs from the last one.
abbrev pub change_text : Mark → (before : Option Alert) → Alert → (title rest : List ℕ) → List ℕ
change_text m None a title rest = alert_line m a title rest
change_text m (Some q) a title rest = if is_known q a then [] else alert_line m a title rest

abbrev pub told_text : Mark → List Alert → Option Alert → (title rest : List ℕ) → List ℕ
told_text m alerts None title rest = []
told_text m alerts (Some a) title rest = change_text m (same_row alert_cmp alerts a) a title rest

-- An alert that stood and is in its source's list no more.
abbrev pub gone_text : Mark → (ended : Bool) → Part → List (Option Value) → Alert → List ℕ
gone_text m ended p values a = if leaves ended p values a then alert_front m a (codes "gone") ++ codes "null\n" else []

-- What a sentence shows behind what is known.
abbrev pub saying_text : Mark → Board → Saying → List ℕ
saying_text m b (Tells p) = told_text m b.alerts (alert_told (same_row part_cmp b.parts p) p) (title_told (same_row part_cmp b.parts p) p) (rest_told p)
saying_text m b (Lists p values) = flat_map (gone_text m (is_whole (same_row part_cmp b.lists p) p) p values) b.alerts
