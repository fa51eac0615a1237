-- The incident slots of a medium, one more at a time.
use Rattle.std.proofs.Common.{◌≡◌, ◌≤◌, ◌+◌, ℕ, List, length, Option, Some, None, sym, ap, ◌∙◌, subst, arith, add-one, length-append}
use Rattle.std.proofs.lemmas.List.{length_push}
use Rattle.vdr_core.specs.Histories.{Incident}
use Rattle.vdr_outside.specs.Parts.{part}
use Rattle.vdr_incident.specs.Tables.{place_of}
use Rattle.vdr_rescue.specs.Saves.{AreSaves, SavesState, ShowsSave, pin_in, with_save}

pub saves_more : (bytes : List ℕ) (n : ℕ) (s t : SavesState) (shown : Option (Option Incident)) → AreSaves bytes n t → ShowsSave (part bytes (place_of n) 256) shown → s ≡ with_save n shown t
    → AreSaves bytes (n + 1) s
saves_more bytes n s t shown are shows is = subst (λ (k : ℕ). AreSaves bytes k s) (sym (add-one n)) (shown, shows, t, are, is)

few_pins : (saved : Option Incident) → length (pin_in saved) ≤ 1
few_pins None = omega arith
few_pins (Some x) = omega arith

pub table_more : (n : ℕ) (shown : Option (Option Incident)) (t : SavesState) → length t.table ≡ n → length (with_save n shown t).table ≡ n + 1
table_more n (Some saved) t is = length_push t.table saved ∙ ap (λ (k : ℕ). k + 1) is
table_more n None t is = length_push t.table None ∙ ap (λ (k : ℕ). k + 1) is

pub pins_more : (n : ℕ) (shown : Option (Option Incident)) (t : SavesState) → length t.pins ≤ n → length (with_save n shown t).pins ≤ n + 1
pins_more n (Some saved) t le = omega (arith, le, length-append t.pins (pin_in saved), few_pins saved)
pins_more n None t le = omega (arith, le)

pub bad_more : (n : ℕ) (shown : Option (Option Incident)) (t : SavesState) → length t.bad ≤ n → length (with_save n shown t).bad ≤ n + 1
bad_more n (Some saved) t le = omega (arith, le)
bad_more n None t le = omega (arith, le, length_push t.bad (place_of n))
