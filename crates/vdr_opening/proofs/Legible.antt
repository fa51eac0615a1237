-- How media are opened that are legible: what is read of them is so much of their contents.
use Rattle.std.proofs.Common.{◌≡◌, ◌∙◌, ◌+◌, ◌<◌, ℕ, List, get_or, length, sym, ap, subst}
use Rattle.std.specs.Prelude.{All}
use Rattle.vdr_durability.specs.Readings.{EndsMeet}
use Rattle.vdr_outside.specs.Disk.{Disk, Image, Unchanged, content}
use Rattle.vdr_outside.proofs.Moments.{unchanged_join}
use Rattle.vdr_config.specs.Configuration.{Configuration}
use Rattle.vdr_directory.specs.Sequence.{batches_in}
use Rattle.vdr_ring.specs.Rings.{RingState}
use Rattle.vdr_ring.specs.Rings as rings
use Rattle.vdr_ring.proofs.Still.{reads_still}
use Rattle.vdr_media.proofs.Members.{of_all, of_each}
use Rattle.vdr_opening.specs.Media.{members_with, Contents, HoldsContents, HoldsParts, IsMedium, parts_of, reading_of}
use Rattle.vdr_opening.specs.Answers.{IsMissing, IsOpened, OpenedState, ring_at}
use Rattle.vdr_opening.specs.Parts.{KeepsRings, ReadsLegal}
use Rattle.vdr_opening.proofs.ContentsHeld.{table_once}
use Rattle.vdr_opening.proofs.PartsHeld.{are_legal, contents_legal, ends_known, one_config, one_configured_text, one_placed_known}
use Rattle.vdr_opening.proofs.SameEnds.{EndsAlike, alike_join, same_end, same_ends, same_missing}

module _ {tells tells_images : Type 0} (x : Contents) where
  -- The ring on each of the media reads as its segments.
  abbrev pub AreRead : List RingState → Disk tells tells_images → Type 0
  AreRead on disk = All (λ m. rings.Reads (ring_at on m) (x.placed m) disk) (members_with x.further)

  pub are_read : (on new : List RingState) (before after : Disk tells tells_images) → KeepsRings on new before after → AreRead on before → AreRead new after
  are_read on new before after kept read i d lt = kept.reads (get_or (members_with x.further) i d) (x.placed (get_or (members_with x.further) i d)) (read i d lt)

  pub lent_read : (on lent : List RingState) (before after : Disk tells tells_images) → lent ≡ on → Unchanged before after → AreRead on before → AreRead lent after
  lent_read on lent before after is still read =
      subst (λ (l : List RingState). AreRead l after) (sym is) (λ i d lt. reads_still (ring_at on (get_or (members_with x.further) i d)) (x.placed (get_or (members_with x.further) i d)) before after still (read i d lt))

  module _ (start : Disk tells tells_images) (told : tells) (found : Contents) (parts : HoldsParts start.reads found) (h : HoldsContents start.reads x) where
    config_is : found.config ≡ x.config
    config_is = one_config (are_legal parts) (contents_legal start.reads x h)

    text_is : found.text ≡ x.text
    text_is = one_configured_text (are_legal parts) (contents_legal start.reads x h)

    read_at : (m : ℕ) (ring : RingState) (one : Disk tells tells_images) → Unchanged start one → ReadsLegal m found.config found.text ring one → IsMedium m x.config x.text (x.placed m) (content start.reads m) → rings.Reads ring (x.placed m) one
    read_at m ring one same reads legal =
        let configured : IsMedium m found.config x.text (x.placed m) (content start.reads m) = subst (λ (c : Configuration). IsMedium m c x.text (x.placed m) (content start.reads m)) (sym config_is) legal in
        let worded : IsMedium m found.config found.text (x.placed m) (content start.reads m) = subst (λ (text : List ℕ). IsMedium m found.config text (x.placed m) (content start.reads m)) (sym text_is) configured in
        reads (x.placed m) (subst (λ (image : Image). IsMedium m found.config found.text (x.placed m) (content image m)) (sym (same.reads told)) worded)

    -- rings that read as their medium does where that is legal
    pub all_read : (on : List RingState) (one : Disk tells tells_images) → Unchanged start one → All (λ m. ReadsLegal m found.config found.text (ring_at on m) one) (members_with x.further) → AreRead on one
    all_read on one same each =
        of_all (λ m. rings.Reads (ring_at on m) (x.placed m) one) x.further
        (λ k lt. read_at k (ring_at on k) one same (of_each (λ m. ReadsLegal m found.config found.text (ring_at on m) one) x.further each k lt)
        (of_each (λ m. IsMedium m x.config x.text (x.placed m) (content start.reads m)) x.further h.media k lt))

    pub further_is : found.further ≡ x.further
    further_is = parts.further ∙ sym h.further

    -- what was found ends as the contents do
    ends_alike : All (EndsAlike (reading_of found) (reading_of x)) (members_with x.further)
    ends_alike =
        alike_join (reading_of found) (reading_of (parts_of x)) (reading_of x) (members_with x.further)
        (of_all (EndsAlike (reading_of found) (reading_of (parts_of x))) x.further
        (λ k lt. same_end (ap batches_in (one_placed_known (are_legal parts) (contents_legal start.reads x h) k (subst (λ (n : ℕ). k < 2 + n) h.further lt)))))
        (ends_known start.reads x h)

    pub is_opened : (one last : Disk tells tells_images) → Unchanged start one → Unchanged one last → (o : OpenedState) → o.config ≡ found.config → o.table ≡ found.table → length o.rings ≡ 2 + x.further → AreRead o.rings last
        → EndsMeet (members_with x.further) (reading_of found) × IsMissing (members_with x.further) o.missing o.lacking (reading_of found) → IsOpened o x last
    is_opened one last same still o opened_config opened_table count read ends = record {
      holds = subst (λ (image : Image). HoldsContents image x) (sym ((unchanged_join start one last same still).reads told)) h;
      meet = same_ends (reading_of found) (reading_of x) (members_with x.further) ends_alike ends.0;
      config = opened_config ∙ config_is;
      count = count;
      rings = read;
      table = opened_table ∙ table_once config_is parts.table h.table;
      missing = same_missing (reading_of found) (reading_of x) x.further o.missing o.lacking ends_alike ends.1;
    }
