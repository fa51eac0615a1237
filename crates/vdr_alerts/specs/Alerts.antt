-- Bridge alerts (IEC 61924-2; sentences ALF and ALC of IEC 61162-1): what identifies one, its state, and the sentences that tell of it.
use Rattle.std.specs.Prelude.{ℕ, zero, suc, ◌+◌, ◌*◌, ◌/◌, ◌%◌, Bool, true, false, not, ◌&&◌, ◌||◌, ◌==◌, nat_eq, nat_le, nat_lt, List, [], Option, Some, None, option_map, unwrap_or, bytes_eq, codes, if◌then◌else◌}
use Rattle.std.specs.Ordering.{nat_cmp, ordering_then}
use Rattle.std.specs.Option.{option_cmp, option_eq}
use Rattle.std.specs.Cmp.Lexicographic.{slice_cmp}
use Rattle.std.specs.declared.cmp.Ordering.{Ordering}
use Rattle.vdr_values.specs.Values.{Value, value_at, digits_in, letter_in, number_in, raw_in}
use Rattle.vdr_durability.specs.Sources.{Source, is_same, source_cmp}

-- An alert of a source: its identifier is the manufacturer's mnemonic code, empty for a standardized alert, and a number. Priority and state are
-- letters of ALF.
pub record Alert : Type 0 where
  pub source : Source
  pub maker : List ℕ
  pub number : ℕ
  pub instance : Option ℕ
  pub priority : Option ℕ
  pub state : Option ℕ
  pub listed : Bool  -- it was told, or listed, since its source's last list began
  pub gone : Bool  -- it stood, and its source's list did not have it; since then it was not told

-- By group, source, identifier and instance.
abbrev pub alert_cmp : Alert → Alert → Ordering
alert_cmp a b =
    ordering_then (source_cmp a.source b.source)
    (ordering_then (slice_cmp nat_cmp a.maker b.maker) (ordering_then (nat_cmp a.number b.number) (option_cmp nat_cmp a.instance b.instance)))

-- The alert is not gone, and neither its priority nor its state differs.
abbrev pub is_known : Alert → Alert → Bool
is_known q a = not q.gone && option_eq nat_eq q.priority a.priority && option_eq nat_eq q.state a.state

-- A sentence of so many, which the group, the source and the sequential identifier join; where it stands in a TAG group the group's code joins too.
-- Of ALF the alert, where its number is there, and the text.
pub record Part : Type 0 where
  pub source : Source
  pub sequence : Option ℕ
  pub code : Option ℕ
  pub total : ℕ
  pub number : ℕ
  pub alert : Option Alert
  pub text : List ℕ

-- By group, source and sequential identifier.
abbrev pub part_cmp : Part → Part → Ordering
part_cmp p q = ordering_then (source_cmp p.source q.source) (option_cmp nat_cmp p.sequence q.sequence)

-- The second comes next to the first.
abbrev pub is_next : Part → Part → Bool
is_next q p = option_eq nat_eq q.code p.code && q.total == p.total && nat_lt 0 q.number && p.number == q.number + 1

abbrev pub follows : (before : Option Part) → Part → Bool
follows None p = false
follows (Some q) p = is_next q p

-- All sentences before it are there, directly behind one another.
abbrev pub is_led : (before : Option Part) → Part → Bool
is_led before p = p.number == 1 || follows before p

-- It is the last one, and all are there.
abbrev pub is_whole : (before : Option Part) → Part → Bool
is_whole before p = is_led before p && p.number == p.total

-- What is kept of it: its number is 0 where one before it is not there.
abbrev pub as_kept : (before : Option Part) → Part → Part
as_kept before p = record p { number = if is_led before p then p.number else 0 }

-- The sentence that an alert's state is told by is the first.
abbrev pub first_of : (before : Option Part) → Part → Option Part
first_of before p = if p.number == 1 then Some p else before

abbrev pub alert_in : Option Part → Option Alert
alert_in None = None
alert_in (Some p) = p.alert

-- The alert that is told once this sentence is there: where it comes in two, only behind the second.
abbrev pub alert_told : (before : Option Part) → Part → Option Alert
alert_told before p = if is_whole before p then alert_in (first_of before p) else None

abbrev pub text_in : Option Part → List ℕ
text_in None = []
text_in (Some p) = p.text

-- The title, and the text of the second sentence.
abbrev pub title_told : (before : Option Part) → Part → List ℕ
title_told before p = text_in (first_of before p)

abbrev pub rest_told : Part → List ℕ
rest_told p = if p.number == 1 then [] else p.text

-- A whole number that is not below 0.
abbrev pub whole_number : Option (Bool × ℕ) → Option ℕ
whole_number None = None
whole_number (Some (negative, n)) = if negative || not (n % 1_000_000 == 0) then None else Some (n / 1_000_000)

-- An alert that has just been told.
abbrev pub alert_of : Source → (maker : Option (List ℕ)) → (number instance priority state : Option ℕ) → Option Alert
alert_of source maker (Some number) instance priority state =
    Some (record { source = source; maker = unwrap_or maker []; number = number; instance = instance; priority = priority; state = state; listed = true; gone = false })
alert_of source maker None instance priority state = None

abbrev pub part_of : Source → (code sequence total number : Option ℕ) → Option Alert → (text : Option (List ℕ)) → Option Part
part_of source code sequence (Some total) (Some number) alert text =
    Some (record { source = source; sequence = sequence; code = code; total = total; number = number; alert = alert; text = unwrap_or text [] })
part_of source code sequence _ _ alert text = None

-- ALF comes in one sentence or in two.
abbrev pub if_short : Option Part → Option Part
if_short None = None
if_short (Some p) = if nat_le p.total 2 then Some p else None

abbrev pub alert_part : Source → (code : Option ℕ) → List (Option Value) → Option Part
alert_part source code values =
    if_short (part_of source code (digits_in (value_at values 2)) (digits_in (value_at values 0)) (digits_in (value_at values 1))
    (alert_of source (raw_in (value_at values 7)) (whole_number (number_in (value_at values 8))) (whole_number (number_in (value_at values 9))) (letter_in (value_at values 5)) (letter_in (value_at values 6)))
    (raw_in (value_at values 12)))

abbrev pub list_part : Source → (code : Option ℕ) → List (Option Value) → Option Part
list_part source code values = part_of source code (digits_in (value_at values 2)) (digits_in (value_at values 0)) (digits_in (value_at values 1)) None None

-- The four fields from this one on identify the alert.
abbrev pub names_at : List (Option Value) → Alert → (at : ℕ) → Bool
names_at values a at =
    bytes_eq (unwrap_or (raw_in (value_at values at)) []) a.maker
    && option_eq nat_eq (whole_number (number_in (value_at values (at + 1)))) (Some a.number)
    && option_eq nat_eq (whole_number (number_in (value_at values (at + 2)))) a.instance

-- One of the first alerts of a sentence ALC, whose list begins with the fifth field.
abbrev pub names_among : List (Option Value) → Alert → (count : ℕ) → Bool
names_among values a zero = false
names_among values a (suc n) = names_at values a (4 + 4 * n) || names_among values a n

-- A sentence ALC lists the alert. It has up to thirty.
unfoldable pub names : List (Option Value) → Alert → Bool
names values a = names_among values a 30

-- An alert stands unless its state is normal, or it is gone.
abbrev pub stands : Alert → Bool
stands a = not a.gone && not (option_eq nat_eq a.state (Some 78))

-- It was told since the list of this sentence began, or is listed there.
abbrev pub stays : Part → List (Option Value) → Alert → Bool
stays p values a = names values a || (a.listed && not (p.number == 1))

-- It stood, and the list that ends with this sentence does not have it.
abbrev pub leaves : (ended : Bool) → Part → List (Option Value) → Alert → Bool
leaves ended p values a = ended && is_same a.source p.source && stands a && not (stays p values a)

-- The alert behind a sentence ALC.
abbrev pub behind_list : (ended : Bool) → Part → List (Option Value) → Alert → Alert
behind_list ended p values a =
    if is_same a.source p.source then record a { listed = stays p values a; gone = a.gone || leaves ended p values a } else a

-- A sentence of an alert, or of a list of alerts with its fields.
pub data Saying : Type 0 where
  Tells : (part : Part) → Saying
  Lists : (part : Part) (values : List (Option Value)) → Saying

-- What the sentence of a source says of alerts. ARC and ACN, a command and its refusal, tell no state.
abbrev pub saying_of : (formatter : List ℕ) → Source → (code : Option ℕ) → List (Option Value) → Option Saying
saying_of formatter source code values =
    if bytes_eq formatter (codes "ALF") then option_map Tells (alert_part source code values)
    else if bytes_eq formatter (codes "ALC") then option_map (λ p. Lists p values) (list_part source code values)
    else None
