-- What a value of the configuration's text may be: a form gives the term that it stands for, or nothing.
use Rattle.std.specs.Prelude.{ℕ, ◌&&◌, Bool, List, [], ◌∷◌, Option, Some, None, option_and_then, nat_le, bytes_eq, codes, if◌then◌else◌}
use Rattle.std.specs.Ordering.{nat_cmp, is_lt}
use Rattle.std.specs.Cmp.Lexicographic.{slice_cmp}
use Rattle.std.specs.List.{list_any}
use Rattle.serde_json.specs.Data.{Data, Items, Members, no_members, member}
use Rattle.serde_json.specs.Find.{as_number, as_u64, as_str, as_array}
use Rattle.serde_json.specs.Events.{items_len}
use Rattle.vdr_config.specs.declared.profile.Profile.{Profile}
use Rattle.vdr_config.specs.declared.profile.Profile.TheVariants.{Ship, Bench}
use Rattle.vdr_config.specs.declared.form.Shape.{Shape}
use Rattle.vdr_config.specs.declared.form.Shape.TheVariants as shapes
use Rattle.vdr_config.specs.declared.form.KindName.{KindName}
use Rattle.vdr_config.specs.declared.form.KindName.TheVariants as kinds

abbrev pub if_passes : {A : Type 0} → (A → Bool) → A → Option A
if_passes test x = if test x then Some x else None

-- A whole number, written without a point and without an exponent, from `least` to `most`.
abbrev pub whole : ℕ → ℕ → Data → Option ℕ
whole least most d = option_and_then (if_passes (λ n. nat_le least n && nat_le n most)) (option_and_then as_u64 (as_number d))

-- A text that passes.
abbrev pub text : (List ℕ → Bool) → Data → Option (List ℕ)
text test d = option_and_then (if_passes test) (as_str d)

-- A text that names one of some things.
abbrev pub choice : {A : Type 0} → (List ℕ → Option A) → Data → Option A
choice chosen d = option_and_then chosen (as_str d)

-- An array of `least` to `most` elements.
abbrev pub list : ℕ → ℕ → Data → Option Items
list least most d = option_and_then (if_passes (λ ds. nat_le least (items_len ds) && nat_le (items_len ds) most)) (as_array d)

abbrev pub profile_named : List ℕ → Option Profile
profile_named s = if bytes_eq s (codes "ship") then Some Ship else (if bytes_eq s (codes "bench") then Some Bench else None)

abbrev pub kind_named : List ℕ → Option KindName
kind_named s =
    if bytes_eq s (codes "sentence") then Some kinds.Sentence
    else (if bytes_eq s (codes "image") then Some kinds.Image
    else (if bytes_eq s (codes "pcm") then Some kinds.Pcm
    else (if bytes_eq s (codes "opaque") then Some kinds.Opaque else None)))

-- The keys that an object of each shape may have.
abbrev pub keys_of : Shape → List (List ℕ)
keys_of shapes.Top =
    codes "profile" ∷ codes "capsule_seconds" ∷ codes "long_seconds" ∷ codes "float_seconds" ∷ codes "incident_seconds" ∷ codes "incident_slots" ∷ codes "segment" ∷ codes "batch" ∷ codes "queue" ∷ codes "groups" ∷ codes "channels" ∷ []
keys_of shapes.Group = codes "name" ∷ codes "datagrams" ∷ codes "bytes" ∷ []
keys_of shapes.Channel = codes "name" ∷ codes "group" ∷ codes "kind" ∷ codes "formatter" ∷ codes "source" ∷ codes "microphone" ∷ []
keys_of shapes.Sentence = codes "name" ∷ codes "group" ∷ codes "kind" ∷ codes "formatter" ∷ codes "source" ∷ []
keys_of shapes.Image = codes "name" ∷ codes "group" ∷ codes "kind" ∷ codes "source" ∷ []
keys_of shapes.Pcm = codes "name" ∷ codes "group" ∷ codes "kind" ∷ codes "microphone" ∷ []
keys_of shapes.Opaque = codes "name" ∷ codes "group" ∷ codes "kind" ∷ []

abbrev pub shape_of : KindName → Shape
shape_of kinds.Sentence = shapes.Sentence
shape_of kinds.Image = shapes.Image
shape_of kinds.Pcm = shapes.Pcm
shape_of kinds.Opaque = shapes.Opaque

unfoldable pub is_key : Shape → List ℕ → Bool
is_key shape k = list_any (bytes_eq k) (keys_of shape)

-- The lesser of two keys in the order of their bytes, where the second is there.
abbrev pub lesser : List ℕ → Option (List ℕ) → List ℕ
lesser k None = k
lesser k (Some l) = if is_lt (slice_cmp nat_cmp l k) then l else k

-- The least key that the shape has not.
abbrev pub unknown_key : Shape → Members → Option (List ℕ)
unknown_key shape no_members = None
unknown_key shape (member k d ms) = if is_key shape k then unknown_key shape ms else Some (lesser k (unknown_key shape ms))
