-- What opening reads of an image is one, and of a legible image so much of its contents.
use Rattle.std.proofs.Common.{◌≡◌, ◌<◌, ◌+◌, ℕ, List, map, length, All, Option, Some, None, arith, ◌∙◌, ap, sym, subst, ◌↔◌}
use Rattle.std.specs.Prelude.{IfSome}
use Rattle.std.proofs.lemmas.List.Elements.{All-weaker}
use Rattle.vdr_terms.specs.Records.{Record, last}
use Rattle.vdr_terms.specs.Slots.{slot_count}
use Rattle.vdr_core.specs.Histories.{Incident}
use Rattle.vdr_durability.specs.Readings.{EndsMeet}
use Rattle.vdr_outside.specs.Disk.{Image, content}
use Rattle.vdr_config.specs.Configuration.{Configuration}
use Rattle.vdr_directory.specs.Sequence.{Placed}
use Rattle.vdr_directory.specs.Order.{AreInOrder}
use Rattle.vdr_directory.specs.Knowns.{known_of}
use Rattle.vdr_directory.specs.Lookup.{HoldAll}
use Rattle.vdr_directory.specs.Opening.{AreKnown}
use Rattle.vdr_directory.specs.Telling.{HoldAllBy}
use Rattle.vdr_directory.proofs.ByKnowns.{in_order_known}
use Rattle.vdr_directory.proofs.Knowing.{known_held}
use Rattle.vdr_directory.proofs.LastKnown.{last_batch_known, last_record_known}
use Rattle.vdr_directory.proofs.OneAnswer.{one_known}
use Rattle.vdr_directory.proofs.TellingBy.{hold_all_by}
use Rattle.vdr_ring.proofs.Records.{records_are}
use Rattle.vdr_media.proofs.Members.{of_all, of_each}
use Rattle.vdr_opening.specs.Media.{members_with, further_in, Contents, HasKnowns, HoldsContents, HoldsParts, IsMedium, IsMediumBy, parts_of, reading_of}
use Rattle.vdr_opening.specs.Refusals.{AreLegal}
use Rattle.vdr_opening.proofs.ContentsHeld.{one_front, table_once}
use Rattle.vdr_opening.proofs.SameEnds.{EndsAlike, alike_back, same_ends}

-- What is known of the slots of a medium is one.
one_knowns : {c d : Configuration} {ps qs : List Placed} {bytes : List ℕ} → c ≡ d → HasKnowns c ps bytes → HasKnowns d qs bytes → ps ≡ qs
one_knowns {c} {d} {ps} {qs} {bytes} same h k =
    one_known d.segment (slot_count d.segment (length bytes)) bytes ps qs
    (subst (λ (e : Configuration). AreKnown e.segment (slot_count e.segment (length bytes)) bytes ps) same h.are) k.are

-- Media of which all that is read is legal

module _ {image : Image} {c d : Configuration} {s t : List ℕ} {ps qs : ℕ → List Placed} (h : AreLegal image c s ps) (k : AreLegal image d t qs) where
  pub one_config : c ≡ d
  one_config = (one_front (h.each 0 0 (omega arith)).front (k.each 0 0 (omega arith)).front).0

  pub one_configured_text : s ≡ t
  one_configured_text = (one_front (h.each 0 0 (omega arith)).front (k.each 0 0 (omega arith)).front).1

  pub one_placed_known : (m : ℕ) → m < 2 + further_in image → ps m ≡ qs m
  one_placed_known m lt =
      one_knowns one_config (of_each (λ k. IsMediumBy k c s (ps k) (content image k)) (further_in image) h.each m lt).segments
      (of_each (λ k. IsMediumBy k d t (qs k) (content image k)) (further_in image) k.each m lt).segments

  pub one_long_term : ps 1 ≡ qs 1
  one_long_term = one_placed_known 1 (omega arith)

-- Parts

pub are_legal : {image : Image} {x : Contents} → HoldsParts image x → AreLegal image x.config x.text x.placed
are_legal {image} {x} h = record { each = subst (λ (n : ℕ). All (λ m. IsMediumBy m x.config x.text (x.placed m) (content image m)) (members_with n)) h.further h.media }

pub parts_table : {image : Image} {x y : Contents} → HoldsParts image x → HoldsParts image y → x.table ≡ y.table
parts_table h k = table_once (one_config (are_legal h) (are_legal k)) h.table k.table

-- Of a legible medium they are what is known of its segments.
pub medium_known : (m : ℕ) (c : Configuration) (text : List ℕ) (placed : List Placed) (bytes : List ℕ) → IsMedium m c text placed bytes → IsMediumBy m c text (map known_of placed) bytes
medium_known m c text placed bytes h =
    let low = h.front.superblock.segment_low in
    record {
      front = h.front;
      segments = record {
        are = known_held c.segment (slot_count c.segment (length bytes)) bytes placed (omega (arith, low)) h.segments.holds;
        order = in_order_known c.segment (slot_count c.segment (length bytes)) bytes placed (omega (arith, low)) h.segments.holds h.segments.order;
      };
    }

each_known : (image : Image) (x : Contents) → HoldsContents image x → All (λ m. IsMediumBy m x.config x.text (map known_of (x.placed m)) (content image m)) (members_with x.further)
each_known image x h =
    of_all (λ m. IsMediumBy m x.config x.text (map known_of (x.placed m)) (content image m)) x.further
    (λ k lt. medium_known k x.config x.text (x.placed k) (content image k) (of_each (λ m. IsMedium m x.config x.text (x.placed m) (content image m)) x.further h.media k lt))

pub contents_legal : (image : Image) (x : Contents) → HoldsContents image x → AreLegal image x.config x.text (parts_of x).placed
contents_legal image x h = record {
  each = subst (λ (n : ℕ). All (λ m. IsMediumBy m x.config x.text (map known_of (x.placed m)) (content image m)) (members_with n)) h.further (each_known image x h);
}

there_known : (placed known : List Placed) → ((a b : ℕ) → HoldAll a b placed → HoldAllBy a b known) → (slot : Option Incident)
    → IfSome slot (λ incident. HoldAll incident.a incident.b placed) → IfSome slot (λ incident. HoldAllBy incident.a incident.b known)
there_known placed known places None h = h
there_known placed known places (Some incident) h = places incident.a incident.b h

-- The places that they hold are known of them.
pub legible : (image : Image) (x : Contents) → HoldsContents image x → HoldsParts image (parts_of x)
legible image x h =
    let long_term = h.media 1 0 (omega arith) in
    record {
      further = h.further;
      media = each_known image x h;
      table = h.table;
      there = All-weaker (λ slot. IfSome slot (λ incident. HoldAll incident.a incident.b (x.placed 1))) (λ slot. IfSome slot (λ incident. HoldAllBy incident.a incident.b (map known_of (x.placed 1))))
          (there_known (x.placed 1) (map known_of (x.placed 1)) (λ a b. hold_all_by a b (x.placed 1) long_term.segments.order)) x.table h.there;
    }

-- And they end as it does.

alike : (x : Contents) (m : ℕ) → AreInOrder (x.placed m) → EndsAlike (reading_of (parts_of x)) (reading_of x) m
alike x m order = record {
  batch = last_batch_known None (x.placed m) order;
  newest = ap (λ (records : List Record). last records) (records_are (map known_of (x.placed m))) ∙ last_record_known None (x.placed m) order ∙ ap (λ (records : List Record). last records) (sym (records_are (x.placed m)));
}

pub ends_known : (image : Image) (x : Contents) → HoldsContents image x → All (EndsAlike (reading_of (parts_of x)) (reading_of x)) (members_with x.further)
ends_known image x h =
    of_all (EndsAlike (reading_of (parts_of x)) (reading_of x)) x.further
    (λ k lt. alike x k (of_each (λ m. IsMedium m x.config x.text (x.placed m) (content image m)) x.further h.media k lt).segments.order)

-- So their ends meet where its do.
pub meet_known : (image : Image) (x : Contents) → HoldsContents image x → EndsMeet (members_with x.further) (reading_of (parts_of x)) ↔ EndsMeet (members_with x.further) (reading_of x)
meet_known image x h =
    let ends = ends_known image x h in (
      same_ends (reading_of (parts_of x)) (reading_of x) (members_with x.further) ends,
      same_ends (reading_of x) (reading_of (parts_of x)) (members_with x.further) (alike_back (reading_of (parts_of x)) (reading_of x) (members_with x.further) ends),
    )
