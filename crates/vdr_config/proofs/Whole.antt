-- What the text decides.
use Rattle.std.proofs.Common.{◌≡◌, ◌≤◌, ℕ, Bool, true, false, List, length, Some, None, Err, refl}
use Rattle.std.specs.Option.{is_some}
use Rattle.std.specs.Str.{IsUtf8, is_utf8}
use Rattle.std.proofs.lemmas.Bool.{le-ltb}
use Rattle.std.proofs.lemmas.Str.{IsUtf8-from_is_utf8, is_utf8-from_IsUtf8}
use Rattle.serde_json.specs.Data.{Data}
use Rattle.serde_json.specs.Find.{as_object}
use Rattle.serde_json.specs.Read.{read as read_text}
use Rattle.vdr_config.specs.declared.bad.ConfigBad.TheVariants as bad
use Rattle.vdr_config.specs.Grammar.{configuration, configuration_of}

pub is_configuration_of : (bytes : List ℕ) (d : Data) → length bytes ≤ 16_380 → IsUtf8 bytes → read_text bytes ≡ Some d → is_some (as_object d) ≡ true → configuration bytes ≡ configuration_of d
unfolding configuration
is_configuration_of bytes d short utf8 is object = rw (le-ltb 16_380 (length bytes) short, is_utf8-from_IsUtf8 bytes utf8, is, object) refl

no_json : (bytes : List ℕ) (b : Bool) → is_utf8 bytes ≡ b → length bytes ≤ 16_380 → (IsUtf8 bytes → read_text bytes ≡ None) → configuration bytes ≡ Err bad.Json
unfolding configuration
no_json bytes true e short none = rw (le-ltb 16_380 (length bytes) short, e, none (IsUtf8-from_is_utf8 bytes e)) refl
no_json bytes false e short none = rw (le-ltb 16_380 (length bytes) short, e) refl

-- bytes that are no text, or a text that is not read
pub is_no_json : (bytes : List ℕ) → length bytes ≤ 16_380 → (IsUtf8 bytes → read_text bytes ≡ None) → configuration bytes ≡ Err bad.Json
is_no_json bytes short none = no_json bytes (is_utf8 bytes) refl short none
