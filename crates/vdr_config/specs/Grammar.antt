-- Which configuration a text is, or its first refusal with the path of the key (this project's profile).
use Rattle.std.specs.Prelude.{◌≡◌, ℕ, suc, ◌*◌, max, ◌&&◌, Bool, true, false, List, [], ◌∷◌, ◌++◌, length, replicate, slice_set, Option, Some, None, option_map, option_and_then, unwrap_or, is_some, nat_lt, nat_eq, bytes_eq, codes, decimal, Result, Ok, Err, ⊤, if◌then◌else◌}
use Rattle.std.specs.List.{list_any}
use Rattle.std.specs.Str.{is_utf8}
use Rattle.serde_json.specs.Data.{Data, Items, no_items, item, Members}
use Rattle.serde_json.specs.Find.{get, as_object}
use Rattle.serde_json.specs.Read.{read as read_text}
use Rattle.vdr_terms.specs.declared.rate.Rate.{Rate}
use Rattle.vdr_terms.specs.Groups.{group_numbered}
use Rattle.vdr_config.specs.declared.form.Shape.{Shape}
use Rattle.vdr_config.specs.declared.form.Shape.TheVariants as shapes
use Rattle.vdr_config.specs.declared.form.KindName.{KindName}
use Rattle.vdr_config.specs.declared.form.KindName.TheVariants as kinds
use Rattle.vdr_config.specs.declared.scope.Scope.{Scope}
use Rattle.vdr_config.specs.declared.scope.Scope.TheVariants as scopes
use Rattle.vdr_config.specs.declared.groups.GroupEntry.{GroupEntry}
use Rattle.vdr_config.specs.declared.reading.TopEntry.{TopEntry}
use Rattle.vdr_config.specs.declared.bad.ConfigBad.{ConfigBad}
use Rattle.vdr_config.specs.declared.bad.ConfigBad.TheVariants as bad
use Rattle.vdr_config.specs.Configuration.{Selection, Selector, Configuration, is_ship}
use Rattle.vdr_config.specs.Configuration.Selection.{Sentence, Image, Pcm, Opaque}
use Rattle.vdr_config.specs.Forms.{whole, text, choice, list, profile_named, kind_named, shape_of, unknown_key}
use Rattle.vdr_config.specs.Names.{is_channel_name, is_formatter, is_source}

infixl 10 ◌>>=◌
abbrev pub ◌>>=◌ : {A B : Type 0} → Result A ConfigBad → (A → Result B ConfigBad) → Result B ConfigBad
(Ok x) >>= f = f x
(Err e) >>= f = Err e

abbrev pub Refuses : {Y : Type 0} → ConfigBad → Result Y ConfigBad → Type 0
Refuses bad.NoMemory grammar = Unit {0}
Refuses e grammar = grammar ≡ Err e

-- What a function returned, as `view` sees it, is what the grammar gives, unless memory ran out.
abbrev pub Gives : {X Y : Type 0} → (X → Y) → Result X ConfigBad → Result Y ConfigBad → Type 0
Gives view (Ok x) grammar = grammar ≡ Ok (view x)
Gives view (Err e) grammar = Refuses e grammar

-- The path of a key of the object.
abbrev pub path : Scope → List ℕ → List ℕ
path scopes.Top k = k
path (scopes.Group i) k = codes "groups." ++ decimal i ++ codes "." ++ k
path (scopes.Channel i) k = codes "channels." ++ decimal i ++ codes "." ++ k

-- The path of the object itself.
abbrev pub element_path : Scope → List ℕ
element_path scopes.Top = []
element_path (scopes.Group i) = codes "groups." ++ decimal i
element_path (scopes.Channel i) = codes "channels." ++ decimal i

abbrev pub in_form : {A : Type 0} → List ℕ → Option A → Result A ConfigBad
in_form p None = Err (bad.Range p)
in_form p (Some x) = Ok x

abbrev pub needed_value : {A : Type 0} → List ℕ → (Data → Option A) → Option Data → Result A ConfigBad
needed_value p form None = Err (bad.MissingKey p)
needed_value p form (Some d) = in_form p (form d)

-- A key that must be there, in its form.
unfoldable pub needed_key : {A : Type 0} → Scope → List ℕ → (Data → Option A) → Data → Result A ConfigBad
needed_key at k form d = needed_value (path at k) form (get k d)

abbrev pub optional_value : {A : Type 0} → List ℕ → (Data → Option A) → Option Data → Result (Option A) ConfigBad
optional_value p form None = Ok None
optional_value p form (Some d) = in_form p (option_map Some (form d))

-- A key that may be there, in its form.
unfoldable pub optional_key : {A : Type 0} → Scope → List ℕ → (Data → Option A) → Data → Result (Option A) ConfigBad
optional_key at k form d = optional_value (path at k) form (get k d)

abbrev pub known_members : Scope → Option (List ℕ) → Result ⊤ ConfigBad
known_members at None = Ok tt
known_members at (Some k) = Err (bad.UnknownKey (path at k))

abbrev pub only_members : Scope → Shape → Option Members → Result ⊤ ConfigBad
only_members at shape None = Err (bad.Range (element_path at))
only_members at shape (Some ms) = known_members at (unknown_key shape ms)

-- An object with keys of the shape alone.
unfoldable pub only_keys : Scope → Shape → Data → Result ⊤ ConfigBad
only_keys at shape d = only_members at shape (as_object d)

-- What `read` gives of each element, the first at i.
unfoldable pub each_element : {A : Type 0} → (ℕ → Data → Result A ConfigBad) → ℕ → Items → Result (List A) ConfigBad
each_element read i no_items = Ok []
each_element read i (item d ds) = do
  first ← read i d
  others ← each_element read (suc i) ds
  Ok (first ∷ others)

-- A group's number and its rate.
unfoldable pub group_at : ℕ → Data → Result GroupEntry ConfigBad
group_at i d = do
  known ← only_keys (scopes.Group i) shapes.Group d
  number ← needed_key (scopes.Group i) (codes "name") (choice group_numbered) d
  datagrams ← needed_key (scopes.Group i) (codes "datagrams") (whole 1 10_000) d
  bytes ← needed_key (scopes.Group i) (codes "bytes") (whole 6 10_000_000) d
  Ok (record { number = number; rate = record { datagrams = datagrams; bytes = bytes } })

abbrev pub has_group : List GroupEntry → ℕ → Bool
has_group groups n = list_any (λ g. nat_eq n g.number) groups

-- The number of a group that is configured.
abbrev pub configured_number : List GroupEntry → List ℕ → Option ℕ
configured_number groups name = option_and_then (λ n. if has_group groups n then Some n else None) (group_numbered name)

unfoldable pub selection_at : Scope → KindName → Data → Result Selection ConfigBad
selection_at at kinds.Sentence d = do
  formatter ← optional_key at (codes "formatter") (text is_formatter) d
  source ← optional_key at (codes "source") (text is_source) d
  Ok (Sentence formatter source)
selection_at at kinds.Image d = do
  source ← optional_key at (codes "source") (text is_source) d
  Ok (Image source)
selection_at at kinds.Pcm d = do
  microphone ← needed_key at (codes "microphone") (whole 0 255) d
  Ok (Pcm microphone)
selection_at at kinds.Opaque d = Ok Opaque

unfoldable pub channel_at : List GroupEntry → ℕ → Data → Result Selector ConfigBad
channel_at groups i d = do
  known ← only_keys (scopes.Channel i) shapes.Channel d
  name ← needed_key (scopes.Channel i) (codes "name") (text is_channel_name) d
  group ← needed_key (scopes.Channel i) (codes "group") (choice (configured_number groups)) d
  kind ← needed_key (scopes.Channel i) (codes "kind") (choice kind_named) d
  own ← only_keys (scopes.Channel i) (shape_of kind) d
  selection ← selection_at (scopes.Channel i) kind d
  Ok (record { name = name; group = group; kind = selection })

-- The table with the rate of each group at its number.
abbrev pub table_of : List (Option Rate) → List GroupEntry → List (Option Rate)
table_of table [] = table
table_of table (g ∷ gs) = table_of (slice_set table g.number (Some g.rate)) gs

-- The index of the first that is the same as an earlier one, where these were seen already.
abbrev pub repeat_after : {A : Type 0} → (A → A → Bool) → List A → List A → Option ℕ
repeat_after same seen [] = None
repeat_after same seen (x ∷ xs) = if list_any (same x) seen then Some (length seen) else repeat_after same (seen ++ x ∷ []) xs

-- The index of the first that is the same as an earlier one.
abbrev pub first_repeat : {A : Type 0} → (A → A → Bool) → List A → Option ℕ
first_repeat same xs = repeat_after same [] xs

abbrev pub same_group : GroupEntry → GroupEntry → Bool
same_group a b = nat_eq a.number b.number

abbrev pub same_name : Selector → Selector → Bool
same_name a b = bytes_eq a.name b.name

abbrev pub none_repeated : Option ℕ → (ℕ → Scope) → Result ⊤ ConfigBad
none_repeated None at = Ok tt
none_repeated (Some i) at = Err (bad.Repeated (path (at i) (codes "name")))

abbrev pub refuse_if : Bool → ConfigBad → Result ⊤ ConfigBad
refuse_if true e = Err e
refuse_if false e = Ok tt

-- The single values of the top level, in the order of their keys.
unfoldable pub top_of : Data → Result TopEntry ConfigBad
top_of d = do
  profile ← needed_key scopes.Top (codes "profile") (choice profile_named) d
  capsule_seconds ← needed_key scopes.Top (codes "capsule_seconds") (whole 1 31_536_000) d
  long_seconds ← needed_key scopes.Top (codes "long_seconds") (whole 1 31_536_000) d
  float_seconds ← optional_key scopes.Top (codes "float_seconds") (whole 1 (max capsule_seconds long_seconds)) d
  incident_seconds ← needed_key scopes.Top (codes "incident_seconds") (whole 1 long_seconds) d
  incident_slots ← needed_key scopes.Top (codes "incident_slots") (whole 1 32) d
  segment ← needed_key scopes.Top (codes "segment") (whole 8_192 16_777_216) d
  batch ← needed_key scopes.Top (codes "batch") (whole 2_048 1_048_576) d
  queue ← needed_key scopes.Top (codes "queue") (whole 1 65_536) d
  Ok (record {
    profile = profile;
    capsule_seconds = capsule_seconds;
    long_seconds = long_seconds;
    float_seconds = unwrap_or float_seconds capsule_seconds;
    float_given = is_some float_seconds;
    incident_seconds = incident_seconds;
    incident_slots = incident_slots;
    segment = segment;
    batch = batch;
    queue = queue;
  })

-- What is wrong between values that are each in their forms.
unfoldable pub agreement : TopEntry → List GroupEntry → List Selector → Result ⊤ ConfigBad
agreement top groups channels = do
  groups_differ ← none_repeated (first_repeat same_group groups) scopes.Group
  names_differ ← none_repeated (first_repeat same_name channels) scopes.Channel
  capsule ← refuse_if (is_ship top.profile && nat_lt top.capsule_seconds 172_800) (bad.ShortWindow (codes "capsule_seconds"))
  long ← refuse_if (is_ship top.profile && nat_lt top.long_seconds 2_592_000) (bad.ShortWindow (codes "long_seconds"))
  segment ← refuse_if (nat_lt top.segment (4 * top.batch)) (bad.SmallSegment (codes "segment"))
  refuse_if (is_ship top.profile && nat_lt top.float_seconds 172_800) (bad.ShortWindow (codes "float_seconds"))

abbrev pub configuration_from : TopEntry → List GroupEntry → List Selector → Configuration
configuration_from top groups channels = record {
  profile = top.profile;
  capsule_seconds = top.capsule_seconds;
  long_seconds = top.long_seconds;
  float_seconds = top.float_seconds;
  float_given = top.float_given;
  incident_seconds = top.incident_seconds;
  incident_slots = top.incident_slots;
  segment = top.segment;
  batch = top.batch;
  queue = top.queue;
  groups = table_of (replicate 16 None) groups;
  channels = channels;
}

unfoldable pub configuration_of : Data → Result Configuration ConfigBad
configuration_of d = do
  known ← only_keys scopes.Top shapes.Top d
  top ← top_of d
  group_items ← needed_key scopes.Top (codes "groups") (list 1 16) d
  groups ← each_element group_at 0 group_items
  channel_items ← needed_key scopes.Top (codes "channels") (list 0 64) d
  channels ← each_element (channel_at groups) 0 channel_items
  agreed_on ← agreement top groups channels
  Ok (configuration_from top groups channels)

-- An object: any other value is refused as a text that is no JSON is.
abbrev pub of_value : Option Data → Result Configuration ConfigBad
of_value None = Err bad.Json
of_value (Some d) = if is_some (as_object d) then configuration_of d else Err bad.Json

-- The configuration that the bytes are, or their first refusal. Bytes that are no UTF-8 are no JSON.
unfoldable pub configuration : List ℕ → Result Configuration ConfigBad
configuration bytes = if nat_lt 16_380 (length bytes) then Err bad.TooLong else of_value (if is_utf8 bytes then read_text bytes else None)
