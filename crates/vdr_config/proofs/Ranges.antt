-- What a configuration that is a text keeps: no more than 32 incident slots, and an incident no longer than the long-term window.
use Rattle.std.proofs.Common.{◌≡◌, ◌≤◌, ℕ, Bool, true, false, List, length, Option, Some, None, Result, Ok, Err, codes, if◌then◌else◌, ⊎_elim, refl, sym, ap, ◌∙◌, subst}
use Rattle.std.specs.Prelude.{max, nat_lt, nat_le, option_and_then, ◌&&◌}
use Rattle.std.specs.Option.{is_some}
use Rattle.std.specs.Str.{is_utf8}
use Rattle.std.proofs.lemmas.Bool.{and_parts, cases_Bool, cond-true, cond-false, leb-true}
use Rattle.serde_json.specs.Data.{Data, Num}
use Rattle.serde_json.specs.Find.{as_number, as_object, as_u64, get}
use Rattle.serde_json.specs.Read.{read as read_text}
use Rattle.vdr_config.specs.declared.bad.ConfigBad.{ConfigBad}
use Rattle.vdr_config.specs.declared.bad.ConfigBad.TheVariants as bad
use Rattle.vdr_config.specs.declared.form.Shape.TheVariants as shapes
use Rattle.vdr_config.specs.declared.reading.TopEntry.{TopEntry}
use Rattle.vdr_config.specs.declared.scope.Scope.TheVariants as scopes
use Rattle.vdr_config.specs.Configuration.{Configuration}
use Rattle.vdr_config.specs.Forms.{choice, if_passes, list, profile_named, whole}
use Rattle.vdr_config.specs.Grammar.{◌>>=◌, agreement, channel_at, configuration, configuration_from, configuration_of, each_element, group_at, in_form, needed_key, needed_value, of_value, only_keys, optional_key, top_of}

abbrev HasRanges : Configuration → Type 0
HasRanges c = (c.incident_slots ≤ 32) × (c.incident_seconds ≤ c.long_seconds)

same_ok : {A : Type 0} (a b : A) → ◌≡◌ {A = Result A ConfigBad} (Ok a) (Ok b) → a ≡ b
same_ok a b e = cc

no_ok : {A : Type 0} (e : ConfigBad) (a : A) → ◌≡◌ {A = Result A ConfigBad} (Err e) (Ok a) → ⊥
no_ok e a is = cc

-- What succeeds succeeded at its first step.
first_ok : {A B : Type 0} (r : Result A ConfigBad) (f : A → Result B ConfigBad) (y : B) → (r >>= f) ≡ Ok y → (x : A) × (r ≡ Ok x) × (f x ≡ Ok y)
first_ok (Ok x) f y e = (x, refl, e)
first_ok (Err b) f y e = absurd (no_ok b y e)

passed : (test : ℕ → Bool) (p : List ℕ) (k n : ℕ) (b : Bool) → test k ≡ b → in_form p (if_passes test k) ≡ Ok n → test n ≡ true
passed test p k n true is e = subst (λ (m : ℕ). test m ≡ true) (same_ok k n (sym (ap (in_form p) (cond-true (test k) (Some k) None is)) ∙ e)) is
passed test p k n false is e = absurd (no_ok (bad.Range p) n (sym (ap (in_form p) (cond-false (test k) (Some k) None is)) ∙ e))

absent : (p : List ℕ) (n : ℕ) (o : Option ℕ) → o ≡ None → in_form p o ≡ Ok n → ⊥
absent p n o is e = no_ok (bad.Range p) n (sym (ap (in_form p) is) ∙ e)

-- A whole number that is read is no more than the most.
within : (p : List ℕ) (least most n : ℕ) (o : Option Data) → needed_value p (whole least most) o ≡ Ok n → n ≤ most
within p least most n None e = absurd (no_ok (bad.MissingKey p) n e)
within p least most n (Some d) e = by_number (as_number d) refl
  where
    test : ℕ → Bool
    test n = nat_le least n && nat_le n most

    by_value : (num : Num) → as_number d ≡ Some num → (o : Option ℕ) → as_u64 num ≡ o → n ≤ most
    by_value num is None value = absurd (absent p n (whole least most d) (ap (λ (o : Option Num). option_and_then (if_passes test) (option_and_then as_u64 o)) is ∙ ap (option_and_then (if_passes test)) value) e)
    by_value num is (Some k) value =
        leb-true n most (and_parts (nat_le least n) (nat_le n most) (passed test p k n (test k) refl
        (sym (ap (in_form p) (ap (λ (o : Option Num). option_and_then (if_passes test) (option_and_then as_u64 o)) is ∙ ap (option_and_then (if_passes test)) value)) ∙ e))).1

    by_number : (o : Option Num) → as_number d ≡ o → n ≤ most
    by_number None is = absurd (absent p n (whole least most d) (ap (λ (o : Option Num). option_and_then (if_passes test) (option_and_then as_u64 o)) is) e)
    by_number (Some num) is = by_value num is (as_u64 num) refl

-- The first value that is read, of several.
next : {A : Type 0} (k : List ℕ) (form : Data → Option A) (d : Data) (f : A → Result TopEntry ConfigBad) (top : TopEntry) → (needed_key scopes.Top k form d >>= f) ≡ Ok top
    → (x : A) × (needed_key scopes.Top k form d ≡ Ok x) × (f x ≡ Ok top)
next k form d f top e = first_ok (needed_key scopes.Top k form d) f top e

next_optional : {A : Type 0} (k : List ℕ) (form : Data → Option A) (d : Data) (f : Option A → Result TopEntry ConfigBad) (top : TopEntry) → (optional_key scopes.Top k form d >>= f) ≡ Ok top
    → (x : Option A) × (optional_key scopes.Top k form d ≡ Ok x) × (f x ≡ Ok top)
next_optional k form d f top e = first_ok (optional_key scopes.Top k form d) f top e

is_whole : (k : List ℕ) (least most : ℕ) (d : Data) (n : ℕ) → needed_key scopes.Top k (whole least most) d ≡ Ok n → n ≤ most
unfolding needed_key
is_whole k least most d n e = within k least most n (get k d) e

top_ranges : (d : Data) (top : TopEntry) → top_of d ≡ Ok top → (top.incident_slots ≤ 32) × (top.incident_seconds ≤ top.long_seconds)
unfolding top_of
top_ranges d top e =
    let profile = next (codes "profile") (choice profile_named) d _ top e in
    let capsule = next (codes "capsule_seconds") (whole 1 31_536_000) d _ top profile.2 in
    let long = next (codes "long_seconds") (whole 1 31_536_000) d _ top capsule.2 in
    let float = next_optional (codes "float_seconds") (whole 1 (max capsule.0 long.0)) d _ top long.2 in
    let incident = next (codes "incident_seconds") (whole 1 long.0) d _ top float.2 in
    let slots = next (codes "incident_slots") (whole 1 32) d _ top incident.2 in
    let segment = next (codes "segment") (whole 8_192 16_777_216) d _ top slots.2 in
    let batch = next (codes "batch") (whole 2_048 1_048_576) d _ top segment.2 in
    let queue = next (codes "queue") (whole 1 65_536) d _ top batch.2 in
    let is = same_ok _ top queue.2 in
    subst (λ (t : TopEntry). (t.incident_slots ≤ 32) × (t.incident_seconds ≤ t.long_seconds)) is
    (is_whole (codes "incident_slots") 1 32 d slots.0 slots.1, is_whole (codes "incident_seconds") 1 long.0 d incident.0 incident.1)

of_data : (d : Data) (c : Configuration) → configuration_of d ≡ Ok c → HasRanges c
unfolding configuration_of
of_data d c e =
    let known = first_ok (only_keys scopes.Top shapes.Top d) _ c e in
    let top = first_ok (top_of d) _ c known.2 in
    let items = first_ok (needed_key scopes.Top (codes "groups") (list 1 16) d) _ c top.2 in
    let groups = first_ok (each_element group_at 0 items.0) _ c items.2 in
    let channel_items = first_ok (needed_key scopes.Top (codes "channels") (list 0 64) d) _ c groups.2 in
    let channels = first_ok (each_element (channel_at groups.0) 0 channel_items.0) _ c channel_items.2 in
    let agreed = first_ok (agreement top.0 groups.0 channels.0) _ c channels.2 in
    subst HasRanges (same_ok (configuration_from top.0 groups.0 channels.0) c agreed.2) (top_ranges d top.0 top.1)

by_value : (o : Option Data) (c : Configuration) → of_value o ≡ Ok c → HasRanges c
by_value None c e = absurd (no_ok bad.Json c e)
by_value (Some d) c e = go (is_some (as_object d)) refl
  where
    go : (b : Bool) → is_some (as_object d) ≡ b → HasRanges c
    go true is = of_data d c (sym (cond-true (is_some (as_object d)) (configuration_of d) (Err bad.Json) is) ∙ e)
    go false is = absurd (no_ok bad.Json c (sym (cond-false (is_some (as_object d)) (configuration_of d) (Err bad.Json) is) ∙ e))

pub ranges_of : (text : List ℕ) (c : Configuration) → configuration text ≡ Ok c → HasRanges c
unfolding configuration
ranges_of text c e = ⊎_elim
    (λ (long : nat_lt 16_380 (length text) ≡ true). absurd (no_ok bad.TooLong c (sym (cond-true (nat_lt 16_380 (length text)) (Err bad.TooLong) (of_value (if is_utf8 text then read_text text else None)) long) ∙ e)))
    (λ (short : nat_lt 16_380 (length text) ≡ false). by_value (if is_utf8 text then read_text text else None) c
    (sym (cond-false (nat_lt 16_380 (length text)) (Err bad.TooLong) (of_value (if is_utf8 text then read_text text else None)) short) ∙ e))
    (cases_Bool (nat_lt 16_380 (length text)))
