-- A legible medium that is read alone gives all that stands on it.
use Rattle.std.proofs.Common.{◌≡◌, ℕ, Bool, true, false, List, [], ◌∷◌, ◌++◌, length, map, take, drop, All, Any, Contains, Option, Some, None, refl, sym, ap, ◌∙◌, subst, arith}
use Rattle.std.specs.Prelude.{IfSome, if◌then◌else◌, slice_get}
use Rattle.std.specs.List.Sorted.{IsPermutation}
use Rattle.std.proofs.lemmas.List.{take-take}
use Rattle.std.proofs.lemmas.List.Elements.{All-cons, All-contains, All-head, All-nil}
use Rattle.std.proofs.lemmas.List.Sorted.{All-permutation}
use Rattle.vdr_terms.specs.Records.{Record}
use Rattle.vdr_terms.specs.Slots.{slot_count}
use Rattle.vdr_core.specs.Histories.{Incident}
use Rattle.vdr_outside.specs.Disk.{Image, content}
use Rattle.vdr_config.specs.Configuration.{Configuration}
use Rattle.vdr_config.specs.Sizes.{window_of}
use Rattle.vdr_durability.specs.Soundness.{IsUnbroken}
use Rattle.vdr_durability.proofs.Lists.{all_from}
use Rattle.vdr_segment.proofs.Holding.{slot_of}
use Rattle.vdr_media.specs.Medium.{IsSuperblock}
use Rattle.vdr_directory.specs.Holds.{HoldsPlaced}
use Rattle.vdr_directory.specs.Lookup.{HoldAll}
use Rattle.vdr_directory.specs.Order.{HasPlace, RunsOn}
use Rattle.vdr_directory.specs.Sequence.{Placed, all_records}
use Rattle.vdr_directory.proofs.Known.{runs_on}
use Rattle.vdr_opening.specs.Media.{Contents, HoldsConfigText, HoldsContents, IsMedium, members_with}
use Rattle.vdr_rescue.specs.declared.findings.Finding.{Finding}
use Rattle.vdr_rescue.specs.declared.findings.Finding.TheVariants.{Closed}
use Rattle.vdr_rescue.specs.declared.found.Found.TheVariants.{Whole}
use Rattle.vdr_rescue.specs.declared.fronts.Head.{Head}
use Rattle.vdr_rescue.specs.declared.lacking.Places.{Places}
use Rattle.vdr_rescue.specs.declared.told.Told.{Told}
use Rattle.vdr_rescue.specs.Alones.{IsOfKind, Rescue, RefusesAlone, Rescued}
use Rattle.vdr_rescue.specs.Findings.{Account, as_closed, as_damaged, as_missing, closes, damages, damages_when, faults, found_in, is_empty, lacks, owed_by, places_of}
use Rattle.vdr_rescue.specs.Fronts.{AreFronts}
use Rattle.vdr_rescue.specs.Lacking.{last_second, missing}
use Rattle.vdr_ring.specs.Whole.{KeepsAll}
use Rattle.vdr_rescue.specs.Legible.{FindsNothing, GivesAll}
use Rattle.vdr_rescue.specs.Readings.{AreRead}
use Rattle.vdr_rescue.specs.Saves.{AreSaves, saved_slots}
use Rattle.vdr_rescue.proofs.AloneAnswer.{as_refused}
use Rattle.vdr_rescue.proofs.OneAnswer.{one_configuration, one_reading}
use Rattle.vdr_rescue.proofs.LegalFronts.{AreFrontsOf, closed_of, fronts_of, head_of, order_of}
use Rattle.vdr_rescue.proofs.LegalReading.{IsHere, are_read, told_of}
use Rattle.vdr_rescue.proofs.LegalRuns.{last_second_of}
use Rattle.vdr_rescue.proofs.LegalLacks.{Keeps, nothing_lacks}
use Rattle.vdr_rescue.proofs.LegalSaves.{AreSavesOf, place_found, saves_here}

-- Findings of which all but the gates are none

no_fault : (segment : ℕ) (ps : List Placed) → faults segment (map head_of ps) (map told_of ps) ≡ []
no_fault segment [] = refl
no_fault segment (p ∷ ps) = no_fault segment ps

no_more : (xs : List ℕ) → IsPermutation [] xs → xs ≡ []
no_more xs moved = go xs (All-permutation (λ (x : ℕ). ⊥) [] xs moved (All-nil (λ (x : ℕ). ⊥)))
  where
    go : (xs : List ℕ) → All (λ (x : ℕ). ⊥) xs → xs ≡ []
    go [] h = refl
    go (x ∷ xs) h = absurd (All-head (λ (x : ℕ). ⊥) x xs h)

all_closed : (xs : List ℕ) → All (λ finding. (offset : ℕ) × (finding ≡ Closed offset)) (map as_closed xs)
all_closed [] = All-nil (λ finding. (offset : ℕ) × (finding ≡ Closed offset))
all_closed (x ∷ xs) = All-cons (λ finding. (offset : ℕ) × (finding ≡ Closed offset)) (Closed x) (map as_closed xs) (x, refl) (all_closed xs)

closed_whole : (xs : List ℕ) → found_in (map as_closed xs) ≡ Whole
closed_whole [] = refl
closed_whole (x ∷ xs) = closed_whole xs

only_closed : (x : Account) → lacks x ≡ [] → x.legal ≡ true → x.bad ≡ [] → x.headless ≡ [] → faults x.segment x.heads x.told ≡ [] → damages x ≡ []
only_closed x lack legal bad headless none =
    ap (λ (l : List Places). damages_when (is_empty l) x) lack
    ∙ ap (λ (b : Bool). (if b then [] else 0 ∷ []) ++ x.bad ++ places_of x.segment x.headless ++ faults x.segment x.heads x.told ++ []) legal
    ∙ ap (λ (l : List ℕ). [] ++ l ++ places_of x.segment x.headless ++ faults x.segment x.heads x.told ++ []) bad
    ∙ ap (λ (l : List ℕ). [] ++ [] ++ places_of x.segment l ++ faults x.segment x.heads x.told ++ []) headless
    ∙ ap (λ (l : List ℕ). [] ++ [] ++ [] ++ l ++ []) none

-- One medium

module _ (m : ℕ) (c : Configuration) (text : List ℕ) (placed : List Placed) (bytes : List ℕ) (medium : IsMedium m c text placed bytes) where
  config_text : HoldsConfigText c bytes
  config_text = record { text = text; holds = medium.front.configured.holds_text; reads = medium.front.configured.reads }

  of_kind : IsOfKind m bytes
  of_kind =
      let s = medium.front.superblock in
      record {
        room = s.room;
        kind = sym (take-take 6 22 (drop 1 bytes) (omega arith)) ∙ ap (take 6) s.fields;
      }

  pub never_refused : (offset : ℕ) → RefusesAlone m bytes offset → ⊥
  never_refused offset r = as_refused m offset bytes c of_kind config_text r

  held : HoldsPlaced c.segment (slot_count c.segment (length bytes)) placed bytes
  held = medium.segments.holds

  all_runs : All RunsOn placed
  all_runs = all_from RunsOn placed (runs_on None placed medium.segments.order)

  all_here : All (IsHere c.segment bytes) placed
  all_here = all_from (IsHere c.segment bytes) placed (λ p n. slot_of c.segment p.slot held.slots (Some p.segment) bytes held.holds (All-contains (λ p. slice_get held.slots p.slot ≡ Some (Some p.segment)) placed p held.sequence.there n))

  module _ (x : Rescue) (k : Rescued m bytes x) where
    pub config_is : x.config ≡ c
    config_is = one_configuration x.config c bytes k.config config_text

    fronts_are : AreFrontsOf held.slots (length held.slots) k.fronts
    fronts_are =
        let s = medium.front.superblock.segment_low in
        fronts_of c.segment bytes held.slots (omega (arith, s)) held.holds (length held.slots) (omega arith) k.fronts
        (subst (λ (n : ℕ). AreFronts c.segment bytes n k.fronts) (sym held.all_slots) (subst (λ (d : Configuration). AreFronts d.segment bytes (slot_count d.segment (length bytes)) k.fronts) config_is k.are))

    order_is : k.order ≡ map head_of placed
    order_is = order_of held.slots placed held.sequence k.fronts fronts_are medium.segments.order k.order k.sorted

    read_here : AreRead c.segment bytes None 0 (map head_of placed) k.told x.given
    read_here = subst (λ (hs : List Head). AreRead c.segment bytes None 0 hs k.told x.given) order_is (subst (λ (d : Configuration). AreRead d.segment bytes None 0 k.order k.told x.given) config_is k.read)

    one_answer : (k.told ≡ map told_of placed) × (x.given ≡ all_records placed)
    one_answer = one_reading c.segment bytes None 0 (map head_of placed) k.told (map told_of placed) x.given (all_records placed) read_here
        (are_read c.segment bytes None 0 placed medium.segments.order (omega arith) all_here)

    pub given_is : x.given ≡ all_records placed
    given_is = one_answer.1

    pub saved_here : AreSaves bytes (saved_slots m c) k.saves
    saved_here = subst (λ (d : Configuration). AreSaves bytes (saved_slots m d) k.saves) config_is k.saved

    legal_is : k.legal ≡ true
    legal_is = k.superblock.1 (subst (λ (d : Configuration). IsSuperblock m d.segment bytes) (sym config_is) medium.front.superblock)

    module _ (y : Contents) (is : y.placed m ≡ placed) (saves : AreSavesOf y m k.saves) (keeps : KeepsAll (window_of c m) (slot_count c.segment (length bytes)) placed) where
      abbrev account : Account
      account = record {
        segment = x.config.segment;
        slots = slot_count x.config.segment (length bytes);
        legal = k.legal;
        bad = k.saves.bad;
        torn = k.fronts.torn;
        headless = k.fronts.headless;
        closed = k.fronts.closed;
        last_closed = k.fronts.last_closed;
        heads = k.order;
        told = k.told;
        seconds = window_of x.config m;
        pins = k.saves.pins;
      }

      kept : Keeps (owed_by account) k.saves.pins placed
      kept = record {
        order = medium.segments.order;
        held = λ pin n. let h = saves.held pin n in (h.0, subst (λ (ps : List Placed). HoldAll pin.a pin.b ps) is h.1);
        unbroken = subst (λ (d : Configuration). IsUnbroken (window_of d m) (all_records placed)) (sym config_is) keeps.unbroken;
        whole = λ many. keeps.whole (let n = closed_of held.slots placed held.sequence k.fronts fronts_are in let size = held.all_slots in omega (arith, many, n, size));
        newest = λ r e. ap last_second one_answer.0 ∙ last_second_of placed all_runs r e;
      }

      lacks_none : lacks account ≡ []
      lacks_none =
          ap (λ (hs : List Head). missing (owed_by account) k.saves.pins None false hs k.told) order_is
          ∙ ap (λ (ts : List Told). missing (owed_by account) k.saves.pins None false (map head_of placed) ts) one_answer.0
          ∙ nothing_lacks (owed_by account) k.saves.pins placed kept

      no_damage : damages account ≡ []
      no_damage = only_closed account lacks_none legal_is saves.bad fronts_are.headless
          (ap (λ (hs : List Head). faults x.config.segment hs k.told) order_is ∙ ap (λ (ts : List Told). faults x.config.segment (map head_of placed) ts) one_answer.0 ∙ no_fault x.config.segment placed)

      gates_alone : x.findings ≡ map as_closed (closes account)
      gates_alone =
          let f = k.findings in
          let none : f.damaged ≡ [] = no_more f.damaged (subst (λ (l : List ℕ). IsPermutation l f.damaged) no_damage f.moved) in
          f.are ∙ ap (λ (l : List Places). map as_missing l ++ map as_damaged f.damaged ++ map as_closed (closes account)) lacks_none
          ∙ ap (λ (l : List ℕ). [] ++ map as_damaged l ++ map as_closed (closes account)) none

      pub finds_nothing : FindsNothing x
      finds_nothing = record {
        lines = subst (λ (fs : List Finding). All (λ finding. (offset : ℕ) × (finding ≡ Closed offset)) fs) (sym gates_alone) (all_closed (closes account));
        whole = ap found_in gates_alone ∙ closed_whole (closes account);
      }

-- Legible media

module _ (image : Image) (y : Contents) (m : ℕ) (holds : HoldsContents image y) (there : Contains (members_with y.further) m) where
  the_medium : IsMedium m y.config y.text (y.placed m) (content image m)
  the_medium = All-contains (λ m. IsMedium m y.config y.text (y.placed m) (content image m)) (members_with y.further) m holds.media there

  pub legible_opens : (offset : ℕ) → RefusesAlone m (content image m) offset → ⊥
  legible_opens offset r = never_refused m y.config y.text (y.placed m) (content image m) the_medium offset r

  module _ (x : Rescue) (k : Rescued m (content image m) x) where
    the_saves : AreSavesOf y m k.saves
    the_saves = saves_here image y m k.saves holds there (saved_here m y.config y.text (y.placed m) (content image m) the_medium x k)

    given_all : x.given ≡ all_records (y.placed m)
    given_all = given_is m y.config y.text (y.placed m) (content image m) the_medium x k

    pub legible_gives : GivesAll y m x
    legible_gives = record {
      config = config_is m y.config y.text (y.placed m) (content image m) the_medium x k;
      given = given_all;
      table = λ e. k.table ∙ the_saves.table e;
      places = λ incident e live place low high.
          let listed : Contains y.table (Some incident) = subst (λ (t : List (Option Incident)). Contains t (Some incident)) (k.table ∙ the_saves.table e) live in
          let all : HoldAll incident.a incident.b (y.placed 1) = All-contains (λ slot. IfSome slot (λ incident. HoldAll incident.a incident.b (y.placed 1))) y.table (Some incident) holds.there listed in
          subst (λ (rs : List Record). Any (λ r. r.place ≡ place) rs) (sym given_all)
          (place_found place (y.placed m) (all_runs m y.config y.text (y.placed m) (content image m) the_medium) (subst (λ (n : ℕ). Any (HasPlace place) (y.placed n)) (sym e) (all place low high)));
    }

    pub legible_finds : KeepsAll (window_of y.config m) (slot_count y.config.segment (length (content image m))) (y.placed m) → FindsNothing x
    legible_finds keeps = finds_nothing m y.config y.text (y.placed m) (content image m) the_medium x k y refl the_saves keeps
