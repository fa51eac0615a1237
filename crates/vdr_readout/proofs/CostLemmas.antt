-- How many bytes a command that reads records out reads of the media.
use Rattle.std.proofs.Common.{◌≡◌, ◌<◌, ◌≤◌, ◌*◌, ℕ, Bool, List, [], length, get_or, Option, Some, None, refl, sym, ap, ◌∙◌, subst, arith}
use mathlib.Core.List.{Sublist, sublist-append_left}
use Rattle.vdr_terms.specs.Queries.{Query, Span}
use Rattle.vdr_terms.specs.Slots.{slot_count}
use Rattle.vdr_core.specs.Histories.{Incident, Opening}
use Rattle.vdr_durability.specs.Playback.{medium_of}
use Rattle.vdr_outside.specs.Disk.{Image, Unchanged, content}
use Rattle.vdr_config.specs.Configuration.{Configuration}
use Rattle.vdr_entry.specs.Queries.{asked_medium}
use Rattle.vdr_entry.specs.declared.query.Medium.{Medium}
use Rattle.vdr_entry.specs.declared.query.Medium.TheVariants as played
use Rattle.vdr_directory.specs.Holds.{HoldsPlaced}
use Rattle.vdr_directory.specs.Sequence.{Placed}
use Rattle.vdr_directory.proofs.CostLemmas.{reads_more}
use Rattle.vdr_media.proofs.Members.{of_each}
use Rattle.vdr_media.proofs.Two.{of_all}
use Rattle.vdr_opening.specs.Answers.{further_on}
use Rattle.vdr_ring.specs.Openings.{IsRingOf}
use Rattle.vdr_opening.specs.Costs.{ReadsToOpen}
use Rattle.vdr_opening.specs.Media.{Contents, opening_of, parts_of}
use Rattle.vdr_ring.specs.Budgets.{budget}
use Rattle.vdr_vault.specs.Plays.{AreOfSegments, ring_for, span_in, whole_budget}
use Rattle.vdr_vault.specs.Vaults.{AreRings, IsReadable, IsReadableAt, VaultState, ring_of}
use Rattle.vdr_vault.specs.Visits.{ReadsEachOnce}
use Rattle.vdr_command.specs.Outside.{MediaSeen}
use Rattle.vdr_readout.specs.Reads.{AskedPlay, MeetAll, ReadsFew, query_of}

is_member : (medium : Medium) → medium_of (asked_medium medium) < 2
is_member played.Capsule = omega arith
is_member played.LongTerm = omega arith
is_member (played.Incident id) = omega arith

-- These segments, said of a medium's number, of its slots and of its image in other words.
holds_as : (k m s t n p : ℕ) (placed : List Placed) (i j : Image) → k ≡ m → s ≡ t → n ≡ p → i ≡ j → HoldsPlaced s n placed (content i k) → HoldsPlaced t p placed (content j m)
holds_as k m s t n p placed i j medium segment slots image holds =
    subst (λ (h : Image). HoldsPlaced t p placed (content h m)) image (subst (λ (h : ℕ). HoldsPlaced t h placed (content i m)) slots
    (subst (λ (h : ℕ). HoldsPlaced h n placed (content i m)) segment (subst (λ (h : ℕ). HoldsPlaced s n placed (content i h)) medium holds)))

-- Segments that meet a query, whose bytes are as many as it reads at most.
record MetFew (query : Query) (vault : VaultState) (placed : ℕ → List Placed) (span : Option Span) : Type 0 where
  pub met : List Placed
  pub some : Sublist met (placed (medium_of query.medium))
  pub meet : MeetAll query span met
  pub most : whole_budget vault query ≤ vault.config.segment * length met

module _ (query : Query) (vault : VaultState) (placed : ℕ → List Placed) (segment : (ring_for vault query).segment ≡ vault.config.segment) where
  met_few : (span : Option Span) → AreOfSegments query vault placed span → MetFew query vault placed span
  met_few None are = record {
    met = [];
    some = sublist-append_left [] (placed (medium_of query.medium));
    meet = refl;
    most = subst (λ (n : ℕ). n ≤ vault.config.segment * 0) (sym are) (omega arith);
  }
  met_few (Some span) are = record {
    met = are.1.met;
    some = are.1.some;
    meet = are.1.meet;
    most = subst (λ (n : ℕ). n ≤ vault.config.segment * length are.1.met) (sym are.0)
        (subst (λ (s : ℕ). budget (ring_for vault query) query span None ≤ s * length are.1.met) segment are.1.enough);
  }

module _ {tells tells_images : Type 0} (old mid new : MediaSeen tells tells_images) (query : Query) (vault : VaultState) (placed : ℕ → List Placed) (opening : Opening)
    (member : medium_of query.medium < 2) (rings : AreRings vault mid.disk.sizes) (still : Unchanged mid.disk new.disk) (readable : IsReadable opening [] vault placed mid.disk) (told : tells) where
  ring_is : (m : ℕ) → m < 2 → IsRingOf vault.config mid.disk.sizes m (ring_of vault m)
  ring_is m lt = of_each (λ k. IsRingOf vault.config mid.disk.sizes k (ring_of vault k)) (further_on vault.rings) rings.each m (omega (arith, lt))

  held_at : (m : ℕ) → m < 2 → HoldsPlaced vault.config.segment (slot_count vault.config.segment (get_or new.disk.sizes m 0)) (placed m) (content new.disk.reads m)
  held_at m lt =
      let its = ring_is m lt in
      let at = of_each (λ k. IsReadableAt opening [] k (ring_of vault k) (placed k) mid.disk) (further_on vault.rings) readable.media m (omega (arith, lt)) in
      holds_as _ _ _ _ _ _ (placed m) mid.disk.reads new.disk.reads its.medium its.segment
      (its.slots ∙ ap (λ (sizes : List ℕ). slot_count vault.config.segment (get_or sizes m 0)) (sym still.sizes)) (sym (still.reads told)) (at.reads.settled.reads told)

  -- by the configuration and the incidents that the vault keeps
  few_of : (further : ℕ) (text : List ℕ) (held : ℕ → List Placed) (filled : ℕ → Bool) → AreOfSegments query vault placed (span_in vault placed query.medium) → ReadsEachOnce query vault mid.bytes_read new.bytes_read
      → ReadsToOpen (parts_of (record { further = further; config = vault.config; text = text; placed = held; table = vault.table; filled = filled })) old.disk.sizes old.bytes_read mid.bytes_read
      → ReadsFew query (record { further = further; config = vault.config; text = text; placed = held; table = vault.table; filled = filled }) old new
  few_of further text held filled are once opens =
      let few = met_few query vault placed (ring_is (medium_of query.medium) member).segment (span_in vault placed query.medium) are in
      record {
        placed = placed;
        holds = of_all (λ m. HoldsPlaced vault.config.segment (slot_count vault.config.segment (get_or new.disk.sizes m 0)) (placed m) (content new.disk.reads m)) held_at;
        met = few.met;
        some = few.some;
        meet = few.meet;
        opened = mid.bytes_read;
        to_open = opens;
        to_read = reads_more (medium_of query.medium) (whole_budget vault query) (vault.config.segment * length few.met) mid.bytes_read new.bytes_read few.most once;
      }

-- Contents with another configuration and other incidents, which are the same.
same_contents : (x : Contents) (config : Configuration) (table : List (Option Incident)) → config ≡ x.config → table ≡ x.table
    → ◌≡◌ {A = Contents} (record { further = x.further; config = config; text = x.text; placed = x.placed; table = table; filled = x.filled }) x
same_contents x config table configs tables = λ i. record { further = x.further; config = configs i; text = x.text; placed = x.placed; table = tables i; filled = x.filled }

pub reads_few : {tells tells_images : Type 0} (asked : AskedPlay) (old mid new : MediaSeen tells tells_images) (query : Query) (vault : VaultState) (x : Contents) (placed : ℕ → List Placed)
    → query ≡ query_of vault.config asked.medium asked.channel asked.from asked.to → AreRings vault mid.disk.sizes → Unchanged mid.disk new.disk → IsReadable (opening_of x) [] vault placed mid.disk → tells
    → AreOfSegments query vault placed (span_in vault placed query.medium) → ReadsEachOnce query vault mid.bytes_read new.bytes_read
    → vault.config ≡ x.config → vault.table ≡ x.table → ReadsToOpen (parts_of x) old.disk.sizes old.bytes_read mid.bytes_read
    → ReadsFew (query_of x.config asked.medium asked.channel asked.from asked.to) x old new
reads_few asked old mid new query vault x placed is rings still readable told are once config table opens =
    let q : Query = query_of vault.config asked.medium asked.channel asked.from asked.to in
    let same = same_contents x vault.config vault.table config table in
    subst (λ (y : Contents). ReadsFew (query_of y.config asked.medium asked.channel asked.from asked.to) y old new) same
    (few_of old mid new q vault placed (opening_of x) (is_member asked.medium) rings still readable told x.further x.text x.placed x.filled
    (subst (λ (p : Query). AreOfSegments p vault placed (span_in vault placed p.medium)) is are)
    (subst (λ (p : Query). ReadsEachOnce p vault mid.bytes_read new.bytes_read) is once)
    (subst (λ (y : Contents). ReadsToOpen (parts_of y) old.disk.sizes old.bytes_read mid.bytes_read) (sym same) opens))
