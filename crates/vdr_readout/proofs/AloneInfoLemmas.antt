-- What is told of one medium alone, from what each call says.
use Rattle.std.proofs.Common.{◌≡◌, ◌≤◌, ◌∙◌, ℕ, zero, suc, List, Option, Some, None, length, Ok, refl, sym, ap, subst}
use Rattle.vdr_terms.specs.Slots.{slot_count}
use Rattle.vdr_core.specs.Histories.{Incident}
use Rattle.vdr_outside.specs.Parts.{part}
use Rattle.vdr_config.specs.Configuration.{Configuration}
use Rattle.vdr_config.specs.Grammar.{configuration}
use Rattle.vdr_media.specs.Medium.{HoldsText}
use Rattle.vdr_media.proofs.Rooms.{text_fits}
use Rattle.vdr_incident.specs.Tables.{place_of}
use Rattle.vdr_incident.proofs.Slot.{one_slot}
use Rattle.vdr_opening.specs.Media.{HoldsConfigText}
use Rattle.vdr_opening.proofs.ContentsHeld.{one_text}
use Rattle.vdr_opening.proofs.Fronts.{one_config}
use Rattle.vdr_segment.specs.declared.area.Area.{Area}
use Rattle.vdr_rescue.specs.Alones.{AloneState, IsAloneOn}
use Rattle.vdr_rescue.specs.Saves.{AreSaves, SavesState, ShowsSave, saved_slots, with_save}
use Rattle.vdr_info.specs.declared.held.Held.{Held}
use Rattle.vdr_info.specs.Helds.{none_held}
use Rattle.vdr_info.specs.Infos.{TellerState}
use Rattle.vdr_info.specs.Used.{AreUsed}
use Rattle.vdr_info.proofs.InfoLemmas.{one_used}
use Rattle.vdr_readout.specs.Informs.{IsToldAlone, below_text}

-- The text that was read is that of the configuration.
text_of_config : (c : Configuration) (text bytes : List ℕ) → HoldsConfigText c bytes → HoldsText text bytes → length text ≤ 16380 → configuration text ≡ Ok c
text_of_config c text bytes h holds short = ap configuration (one_text text h.text bytes holds h.holds short (text_fits h.text c h.reads)) ∙ h.reads

pub no_text : (c : Configuration) (bytes : List ℕ) → HoldsConfigText c bytes → ((text : List ℕ) → length text ≤ 16380 → HoldsText text bytes → ⊥) → ⊥
no_text c bytes h none = none h.text (text_fits h.text c h.reads) h.holds

module _ (m : ℕ) (bytes : List ℕ) (a : AloneState) (alone : IsAloneOn m bytes a) (area : Area) (medium : area.medium ≡ m) (segment : area.segment ≡ a.config.segment)
    (slots : area.slots ≡ slot_count a.config.segment (length bytes)) where
  pub told_alone : (used : ℕ) (text below : List ℕ) → AreUsed area.segment bytes area.slots used → HoldsText text bytes → length text ≤ 16380 → below ≡ below_text a.saves.table text
      → IsToldAlone m bytes (record { held = none_held area.medium area.segment area.slots used; below = below })
  told_alone used text below are holds short is = record {
    config = a.config;
    text = text;
    holds = holds;
    reads = text_of_config a.config text bytes alone.config holds short;
    used = used;
    are = subst (λ (n : ℕ). AreUsed a.config.segment bytes n used) slots (subst (λ (s : ℕ). AreUsed s bytes area.slots used) segment are);
    saves = a.saves;
    saved = alone.saves;
    is = λ i. record { held = none_held (medium i) (segment i) (slots i) used; below = is i };
  }

-- What a teller is made of.
pub teller_is : (teller : TellerState) (held other : Held) (below : List ℕ) → teller ≡ record { held = held; below = below } → held ≡ other → teller ≡ record { held = other; below = below }
teller_is teller held other below made is = made ∙ (λ i. record { held = is i; below = below })

-- Incident slots show one table.
saved_once : (bytes : List ℕ) (a b : Option (Option Incident)) → ShowsSave bytes a → ShowsSave bytes b → a ≡ b
saved_once bytes None None x y = refl
saved_once bytes None (Some t) x y = absurd (x t y)
saved_once bytes (Some s) None x y = absurd (y s x)
saved_once bytes (Some s) (Some t) x y = ap (λ (o : Option Incident). Some o) (one_slot bytes s t x y)

one_saves : (bytes : List ℕ) (n : ℕ) (s t : SavesState) → AreSaves bytes n s → AreSaves bytes n t → s ≡ t
one_saves bytes zero s t x y = x ∙ sym y
one_saves bytes (suc n) s t x y =
    x.4 ∙ ap (λ (o : Option (Option Incident)). with_save n o x.2) (saved_once (part bytes (place_of n) 256) x.0 y.0 x.1 y.1)
    ∙ ap (with_save n y.0) (one_saves bytes n x.2 y.2 x.3 y.3) ∙ sym y.4

-- There is one such thing to tell.
pub one_told : (m : ℕ) (bytes : List ℕ) (x y : TellerState) → IsToldAlone m bytes x → IsToldAlone m bytes y → x ≡ y
one_told m bytes x y h k = h.is ∙ same ∙ sym k.is
  where
    text : h.text ≡ k.text
    text = one_text h.text k.text bytes h.holds k.holds (text_fits h.text h.config h.reads) (text_fits k.text k.config k.reads)

    config : h.config ≡ k.config
    config = one_config k.text h.config k.config (subst (λ (t : List ℕ). configuration t ≡ Ok h.config) text h.reads) k.reads

    used : h.used ≡ k.used
    used = one_used k.config.segment bytes (slot_count k.config.segment (length bytes)) h.used k.used
        (subst (λ (c : Configuration). AreUsed c.segment bytes (slot_count c.segment (length bytes)) h.used) config h.are) k.are

    saves : h.saves ≡ k.saves
    saves = one_saves bytes (saved_slots m k.config) h.saves k.saves (subst (λ (c : Configuration). AreSaves bytes (saved_slots m c) h.saves) config h.saved) k.saved

    same : ◌≡◌ {A = TellerState} (record { held = none_held m h.config.segment (slot_count h.config.segment (length bytes)) h.used; below = below_text h.saves.table h.text })
        (record { held = none_held m k.config.segment (slot_count k.config.segment (length bytes)) k.used; below = below_text k.saves.table k.text })
    same = λ i. record { held = none_held m (config i).segment (slot_count (config i).segment (length bytes)) (used i); below = below_text (saves i).table (text i) }
