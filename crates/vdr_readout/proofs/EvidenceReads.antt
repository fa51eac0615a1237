-- The text of the configuration is read between opening and a visit: what is said of the visit is so of the media as they were opened.
use Rattle.std.specs.Prelude.{Bool, Option, sum, true, false, ⊤}
use Rattle.std.proofs.Common.{◌≡◌, ◌≤◌, ◌<◌, ◌⊎◌, inr, ℕ, pos, List, [], length, get_or, Result, Err, refl, sym, subst, arith}
use Rattle.vdr_terms.specs.Queries.{Query}
use Rattle.vdr_terms.specs.Records.{Record}
use Rattle.vdr_durability.specs.Readings.{AreLevel, EndsMeet}
use Rattle.vdr_durability.specs.Playback.{medium_of}
use Rattle.vdr_outside.specs.Causes.{NoneFalls, Rose}
use Rattle.vdr_outside.specs.Disk.{Disk, SameBut, Unchanged, content}
use Rattle.vdr_outside.specs.declared.fault.PartRefused.{PartRefused}
use Rattle.vdr_outside.specs.declared.fault.PartRefused.TheVariants as parts
use Rattle.vdr_outside.proofs.Counts.{sum_rose}
use Rattle.vdr_config.specs.Configuration.{Configuration}
use Rattle.vdr_directory.specs.Opening.{HasFaultCause}
use Rattle.vdr_entry.specs.declared.query.Medium.TheVariants.{Capsule}
use Rattle.vdr_media.specs.Medium.{HoldsText}
use Rattle.vdr_media.proofs.Rooms.{text_fits}
use Rattle.vdr_media.proofs.Members.{of_each}
use Rattle.vdr_opening.specs.Answers.{further_on}
use Rattle.vdr_ring.specs.Openings.{IsRingOf}
use Rattle.vdr_ring.proofs.CursorReading.{other_read}
use Rattle.vdr_opening.specs.Media.{members_with, Contents, HasFront, HoldsContents, IsMedium, IsMediumBy, opening_of, reading_of}
use Rattle.vdr_opening.specs.Parts.{HasRoomBefore}
use Rattle.vdr_opening.specs.declared.refused.OpenRefused.{OpenRefused}
use Rattle.vdr_opening.proofs.ContentsHeld.{one_text}
use Rattle.vdr_vault.specs.Openings.{OpensAtEachMoment}
use Rattle.vdr_vault.specs.Plays.{ReadsOn, TellsDamageOf}
use Rattle.vdr_vault.specs.Refusals.{HasVisitCause}
use Rattle.vdr_vault.specs.Vaults.{AreRings, IsReadable, ShowsHistory, VaultState, ring_of}
use Rattle.vdr_vault.specs.Visits.{HasOnlyRead, HasVisited}
use Rattle.vdr_vault.proofs.Playing.{judged_over, readable_still, stands_still}
use Rattle.vdr_vault.proofs.Reading.{damaged_before}
use Rattle.vdr_vault.proofs.Stepping.{intact_over, met_over}
use Rattle.vdr_recorder.specs.Looks.{HasLooked}
use Rattle.vdr_recorder.specs.Recordings.{HasRecorded, RecorderState}
use Rattle.vdr_recorder.proofs.Looking.{looked, looks_join}
use Rattle.vdr_recorder.proofs.Visits.{looked_as}
use Rattle.vdr_visit.specs.Refusals.{IsAccepted, lacks_channel, lacks_incident}
use Rattle.vdr_visit.specs.declared.visit_refused.VisitRefused.{VisitRefused}
use Rattle.vdr_visit.specs.declared.visit_refused.VisitRefused.TheVariants as stops
use Rattle.vdr_command.specs.Opened.{WasRecorded}
use Rattle.vdr_command.specs.Outside.{MediaSeen}
use Rattle.vdr_command.specs.declared.status.Status.{Status}
use Rattle.vdr_command.specs.declared.status.Status.TheVariants.{Damaged, MediaFault, NoMemory}
use Rattle.vdr_command.proofs.OpenedLemmas.{OpenedOn}
use Rattle.vdr_readout.specs.Reads.{AskedPlay, PlayEnds, all_records, query_of}
use Rattle.vdr_readout.specs.Telling.{status_of_part}
use Rattle.vdr_readout.proofs.ReadLemmas.{Wants, read_ends, wanted_so}

-- ---- the text

-- There is room for it on the capsule.
pub room_before : (vault : VaultState) (sizes : List ℕ) → AreRings vault sizes → HasRoomBefore 0 sizes
room_before vault sizes rings =
    let its = of_each (λ k. IsRingOf vault.config sizes k (ring_of vault k)) (further_on vault.rings) rings.each 0 (omega arith) in
    let there = its.room.there in
    let room = its.room.room in
    record {
      there = subst (λ (m : ℕ). m < length sizes) its.medium there;
      room = subst (λ (m : ℕ). 32768 ≤ get_or sizes m 0) its.medium (omega (arith, room));
    }

-- What the capsule holds in front of its slots is the text that the contents have.
text_is : (c : Configuration) (of text bytes : List ℕ) → HasFront 0 c of bytes → HoldsText text bytes → length text ≤ 16380 → text ≡ of
text_is c of text bytes front holds short =
    one_text text of bytes holds front.configured.holds_text short (text_fits of c front.configured.reads)

module _ {tells tells_images : Type 0} (old mid : Disk tells tells_images) (others : tells → SameBut 1 old.reads mid.reads) where
  capsule_is : tells → content mid.reads 0 ≡ content old.reads 0
  capsule_is t = others t 0 (λ is. let none : ⊥ = omega (arith, is) in none)

  pub text_held : (x : Contents) → tells → HoldsContents old.reads x → (text : List ℕ) → HoldsText text (content mid.reads 0) → length text ≤ 16380 → text ≡ x.text
  text_held x t holds text held short =
      text_is x.config x.text text (content old.reads 0) (of_each (λ m. IsMedium m x.config x.text (x.placed m) (content old.reads m)) x.further holds.media 0 (omega arith)).front
      (subst (λ (bytes : List ℕ). HoldsText text bytes) (capsule_is t) held) short

  -- There is one where the media were opened.
  pub has_text : (vault : VaultState) → OpenedOn old vault → tells → ((text : List ℕ) → length text ≤ 16380 → HoldsText text (content mid.reads 0) → ⊥) → ⊥
  has_text vault parts t none =
      let p = parts t in
      let front = (of_each (λ m. IsMediumBy m p.1.config p.1.text (p.1.placed m) (content old.reads m)) p.1.further p.2.media 0 (omega arith)).front in
      none p.1.text (text_fits p.1.text p.1.config front.configured.reads)
      (subst (λ (bytes : List ℕ). HoldsText p.1.text bytes) (sym (capsule_is t)) front.configured.holds_text)

-- ---- a read of it

module _ {tells tells_images : Type 0} (query : Query) (vault : VaultState) (before now : Disk tells tells_images) (same : Unchanged before now) where
  reads_on : ReadsOn (medium_of query.medium) vault vault
  reads_on = record { vault = refl; count = refl; ring = refl; others = λ k other. refl }

  -- The vault stands on what it stood on.
  only_read : (bytes : List ℕ) → AreRings vault before.sizes → HasOnlyRead query vault vault before now bytes bytes
  only_read bytes rings =
      let m = medium_of query.medium in
      let read = other_read (ring_of vault m) before now same in
      record {
        vault = reads_on;
        rings = subst (λ (sizes : List ℕ). AreRings vault sizes) (sym same.sizes) rings;
        unchanged = same;
        counts = λ k other. refl;
        judged = judged_over m vault vault before now reads_on read;
        stands = stands_still m vault vault before now reads_on read;
        readable = readable_still m vault vault before now reads_on read;
      }

  -- What was visited after it is what was visited before.
  pub visited_before : {R : Type 0} {Has : List Record → Type 0} {Stops : List Record → R → Type 0} {line : List Record → Record → List ℕ} {whole : List Record → List ℕ} {was next : Option (List ℕ)} {ended : Result ⊤ (VisitRefused R)}
      → AreRings vault before.sizes → HasVisited query vault now Has Stops line whole was next ended → HasVisited query vault before Has Stops line whole was next ended
  visited_before rings v =
      let over = (only_read [] rings).readable in
      record {
        seen = v.seen;
        made = v.made;
        are = λ opening events placed t h. v.are opening events placed t (over opening events placed h);
        front = λ opening events placed t h. v.front opening events placed t (over opening events placed h);
      }

  -- Damage that is told then is so before.
  pub damage_before : (Names : (m offset : ℕ) → Type 0) (done : Type 0) → AreRings vault before.sizes → TellsDamageOf query vault now Names done → TellsDamageOf query vault before Names done
  damage_before Names done rings after =
      let judged = (only_read [] rings).judged in
      record {
        medium = after.medium;
        damaged = λ m offset named told were. damaged_before (medium_of query.medium) vault vault before now reads_on same told m offset (after.damaged m offset named told (judged were));
        met = λ m offset named told were. met_over query vault vault reads_on before now same told offset (after.met m offset named told (judged were));
        whole = λ ended told were apart. intact_over query vault vault reads_on before now same told (after.whole ended told (judged were) apart);
      }

  -- It is a look.
  pub text_looked : (r : RecorderState) → r.vault ≡ vault → (bytes faults_before faults_now : List ℕ) (answered : Type 0) → AreRings vault before.sizes → HasVisitCause (medium_of query.medium) r.vault.failed faults_before faults_now answered
      → HasLooked query r r before now bytes bytes faults_before faults_now answered
  text_looked r is bytes faults_before faults_now answered rings cause =
      looked query r r.vault before now bytes bytes faults_before faults_now answered (subst (λ (v : VaultState). HasOnlyRead query v v before now bytes bytes) (sym is) (only_read bytes rings)) cause

no_cause : (m : ℕ) (failed : Bool) (before now : List ℕ) (answered : Type 0) → (answered → ⊥) → NoneFalls before now → HasVisitCause m failed before now answered
no_cause m failed before now answered never later = record { later = later; on_medium = λ a. absurd (never a); in_all = λ a. absurd (never a) }

-- It, and a visit behind it, are a look.
pub both_looked : {tells tells_images : Type 0} (query : Query) (r after : RecorderState) (mid between new : Disk tells tells_images) (read read_now faults faults_between faults_now : List ℕ) (answered : Type 0)
    → Unchanged mid between → AreRings r.vault mid.sizes → NoneFalls faults faults_between
    → HasLooked query r after between new read read_now faults_between faults_now answered → HasLooked query r after mid new read read_now faults faults_now answered
both_looked query r after mid between new read read_now faults faults_between faults_now answered same rings later visit =
    looked_as query r after mid new read read_now faults faults_now (⊥ ⊎ answered) answered (λ a. inr a)
    (looks_join query r r after mid between new read read read_now faults faults_between faults_now ⊥ answered
    (text_looked query r.vault mid between same r refl read faults faults_between ⊥ rings (no_cause (medium_of query.medium) r.vault.failed faults faults_between ⊥ (λ a. a) later)) visit)

-- ---- where it is refused

module _ {tells tells_images : Type 0} (asked : AskedPlay) (old mid new : MediaSeen tells tells_images) (r : RecorderState) (query : Query) (wants : Wants r.vault.config asked.medium asked.channel asked.from asked.to query)
    (works : r.vault.failed ≡ false) (parts_are : OpenedOn old.disk r.vault)
    (opened : (x : Contents) → tells → HoldsContents old.disk.reads x → WasRecorded x
    → (t0 : ℕ) × (old.disk.clock ≤ t0) × (t0 ≤ mid.disk.clock) × HasRecorded (opening_of x) [] t0 r mid.disk)
    (readable : (x : Contents) → tells → HoldsContents old.disk.reads x → AreLevel (members_with x.further) (reading_of x) → IsReadable (opening_of x) [] r.vault x.placed mid.disk)
    (later : NoneFalls old.faults mid.faults) (others : tells → SameBut 1 old.disk.reads mid.disk.reads)
    {T : Type 0} (result : Result T OpenRefused)
    (moments : (x : Contents) → tells → HoldsContents old.disk.reads x → EndsMeet (members_with x.further) (reading_of x) → WasRecorded x → OpensAtEachMoment old.disk mid.disk result (ShowsHistory (opening_of x) []))
    (rings : AreRings r.vault mid.disk.sizes) (same : Unchanged mid.disk new.disk) where
  true_false : {P : Type 0} (b : Bool) → b ≡ true → b ≡ false → P
  true_false b t f = let none : ⊥ = cc in absurd none

  -- The media as they were opened, but for what was read of them since.
  abbrev held : MediaSeen tells tells_images
  held = record { disk = mid.disk; faults = mid.faults; bytes_read = new.bytes_read }

  module _ (there : lacks_channel (length r.vault.config.channels) query.channel ≡ false) (lives : lacks_incident r.vault.table query.medium ≡ false) where
    is_accepted : {R : Type 0} (ended : Result ⊤ (VisitRefused R)) → (ended ≡ Err stops.NoChannel → ⊥) → (ended ≡ Err stops.NoIncident → ⊥)
        → IsAccepted (lacks_channel (length r.vault.config.channels) query.channel) (lacks_incident r.vault.table query.medium) ended
    is_accepted ended channel incident = record {
      channel = (λ e. absurd (channel e), λ lacks. true_false _ lacks there);
      incident = (λ e. absurd (incident e), λ lacks. true_false _ lacks.1 lives);
    }

    -- There was no memory for it.
    memory_ends : NoneFalls mid.faults new.faults → PlayEnds asked old new NoMemory
    memory_ends falls =
        let ended : Result ⊤ (VisitRefused Status) = Err (stops.Own NoMemory) in
        read_ends asked old held new r r query ended wants works parts_are opened readable
        (is_accepted ended (λ e. let none : ⊥ = cc in none) (λ e. let none : ⊥ = cc in none))
        (λ opening events placed m offset t h e. let none : ⊥ = cc in none)
        (record { met = λ m offset e. let none : ⊥ = cc in absurd none; whole = λ e. let none : ⊥ = cc in absurd none })
        (text_looked query r.vault mid.disk new.disk same r refl new.bytes_read mid.faults new.faults (ended ≡ Err stops.Fault) rings
        (no_cause (medium_of query.medium) r.vault.failed mid.faults new.faults (ended ≡ Err stops.Fault) (λ e. let none : ⊥ = cc in none) falls))
        later others (λ (s : Status). s) tt result moments

    -- It is said to be too long, which it never is where the media tell what they read as.
    damaged_ends : (k offset : ℕ) → (tells → ⊥) → NoneFalls mid.faults new.faults → PlayEnds asked old new (Damaged k offset)
    damaged_ends k offset never falls =
        let ended : Result ⊤ (VisitRefused Status) = Err (stops.Damaged k offset) in
        read_ends asked old held new r r query ended wants works parts_are opened readable
        (is_accepted ended (λ e. let none : ⊥ = cc in none) (λ e. let none : ⊥ = cc in none))
        (λ opening events placed m at t h e. never t)
        (record { met = λ m at e t. absurd (never t); whole = λ e t. absurd (never t) })
        (text_looked query r.vault mid.disk new.disk same r refl new.bytes_read mid.faults new.faults (ended ≡ Err stops.Fault) rings
        (no_cause (medium_of query.medium) r.vault.failed mid.faults new.faults (ended ≡ Err stops.Fault) (λ e. let none : ⊥ = cc in none) falls))
        later others (λ (s : Status). s) tt result moments

  -- The capsule failed. That is said as of a play of all its records.
  abbrev capsule : AskedPlay
  capsule = record { medium = Capsule; channel = all_records; from = pos 0; to = pos 0 }

  abbrev of_capsule : Query
  of_capsule = query_of r.vault.config Capsule all_records (pos 0) (pos 0)

  fault_ends : NoneFalls mid.faults new.faults → Rose (get_or mid.faults 0 0) (get_or new.faults 0 0) → PlayEnds asked old new MediaFault
  fault_ends falls rose =
      let ended : Result ⊤ (VisitRefused Status) = Err stops.Fault in
      let whole : Rose (sum mid.faults) (sum new.faults) = sum_rose mid.faults new.faults 0 falls.same_media falls.none_falls rose in
      let ends : PlayEnds capsule old new MediaFault =
      read_ends capsule old held new r r of_capsule ended (wanted_so r.vault.config Capsule all_records (pos 0) (pos 0) of_capsule refl (λ lacks. lacks.0 refl)) works parts_are opened readable
      (record {
        channel = ((λ e. let none : ⊥ = cc in absurd none), (λ lacks. let none : ⊥ = cc in absurd none));
        incident = ((λ e. let none : ⊥ = cc in absurd none), (λ lacks. let is = lacks.1 in let none : ⊥ = cc in absurd none));
      })
      (λ opening events placed m offset t h e. let none : ⊥ = cc in none)
      (record { met = λ m offset e. let none : ⊥ = cc in absurd none; whole = λ e. let none : ⊥ = cc in absurd none })
      (text_looked of_capsule r.vault mid.disk new.disk same r refl new.bytes_read mid.faults new.faults (ended ≡ Err stops.Fault) rings
      (record { later = falls; on_medium = λ e. inr rose; in_all = λ e. inr whole }))
      later others (λ (s : Status). s) tt result moments in
      record {
        media = record {
          unformatted = λ e. let none : ⊥ = cc in absurd none;
          damaged = tt;
          fault = ends.media.fault;
          openable = λ done. absurd done;
          others = ends.media.others;
          blank = ends.media.blank;
          kept = ends.media.kept;
        };
        no_channel = λ e. let none : ⊥ = cc in absurd none;
        no_incident = tt;
        whole = λ e. let none : ⊥ = cc in absurd none;
      }

  -- How the command ends the media then.
  pub part_ends : lacks_channel (length r.vault.config.channels) query.channel ≡ false → lacks_incident r.vault.table query.medium ≡ false → {U : Type 0} (read : Result U PartRefused) (part : PartRefused) → read ≡ Err part
      → ((k offset : ℕ) → read ≡ Err (parts.Damaged k offset) → tells → (text : List ℕ) → length text ≤ 16380 → HoldsText text (content mid.disk.reads 0) → ⊥)
      → HasFaultCause 0 mid.faults new.faults read → PlayEnds asked old new (status_of_part part)
  part_ends there lives read parts.NoMemory is damaged cause = memory_ends there lives cause.later
  part_ends there lives read (parts.Damaged k offset) is damaged cause =
      damaged_ends there lives k offset (λ t. has_text old.disk mid.disk others r.vault parts_are t (damaged k offset is t)) cause.later
  part_ends there lives read parts.Fault is damaged cause = fault_ends cause.later (cause.rose is)
