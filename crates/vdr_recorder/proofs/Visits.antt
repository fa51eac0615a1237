-- What visits of a recorder leave: one, none, or two.
use Rattle.std.proofs.Common.{◌≡◌, ℕ, List, true, Option, Result, Ok, Err, length, inl, inr, refl, sym, ap, subst}
use Rattle.std.specs.Bool.{⊤}
use Rattle.vdr_core.specs.Histories.{Incident}
use Rattle.vdr_durability.specs.Playback.{medium_of, selected}
use Rattle.vdr_terms.specs.Queries.{Medium, Query}
use Rattle.vdr_terms.specs.Records.{Record}
use Rattle.vdr_outside.specs.declared.media.Media.{Ghosts as MediaTells}
use Rattle.vdr_outside.specs.Disk.{Disk, Unchanged}
use Rattle.vdr_outside.specs.Writes.{AppendsFront}
use Rattle.vdr_outside.proofs.Counts.{none_fell}
use Rattle.vdr_outside.proofs.Moments.{unchanged_none}
use Rattle.vdr_config.specs.Configuration.{Configuration}
use Rattle.vdr_ring.specs.Meets.{AreApart}
use Rattle.vdr_visit.specs.Refusals.{lacks_channel, lacks_incident}
use Rattle.vdr_visit.specs.Visits.{AreVisited, HasHanded, ReadEnd, end_of}
use Rattle.vdr_visit.specs.Visits.ReadEnd.{AllRead, CutOff, ReadDamaged, ReadFault}
use Rattle.vdr_visit.specs.declared.visit_refused.VisitRefused.{VisitRefused}
use Rattle.vdr_visit.specs.declared.visit_refused.VisitRefused.TheVariants as stops
use Rattle.vdr_vault.specs.Plays.{ReadsOn, TellsDamageOf}
use Rattle.vdr_vault.specs.Vaults.{AreJudged, AreRings, VaultState}
use Rattle.vdr_vault.specs.Refusals.{HasVisitCause}
use Rattle.vdr_vault.specs.Visits.{HasOnlyRead, HasVisited}
use Rattle.vdr_vault.proofs.Reading.{damaged_before, reads_keep}
use Rattle.vdr_vault.proofs.Stepping.{intact_over, met_over, same_index}
use Rattle.vdr_recorder.specs.Looks.{HasLooked}
use Rattle.vdr_recorder.specs.Reads.{HasRead, Selects}
use Rattle.vdr_recorder.specs.Recordings.{RecorderState}
use Rattle.vdr_recorder.proofs.Looking.{looked, looks_join}

-- A look is one by any other answer that comes only with the first.
pub looked_as : {tells tells_images : Type 0} (query : Query) (r t : RecorderState) (old new : Disk tells tells_images) (read_before read_now faults_before faults_now : List ℕ) (first second : Type 0) → (second → first)
    → HasLooked query r t old new read_before read_now faults_before faults_now first → HasLooked query r t old new read_before read_now faults_before faults_now second
looked_as query r t old new read_before read_now faults_before faults_now first second of h = record {
  read = h.read;
  maker = h.maker;
  is_open = h.is_open;
  done = h.done;
  cause = record { later = h.cause.later; on_medium = λ is. h.cause.on_medium (of is); in_all = λ is. h.cause.in_all (of is) };
}

-- Nothing was read.
pub still : {tells tells_images : Type 0} (query : Query) (vault : VaultState) (disk : Disk tells tells_images) (read : List ℕ) → AreRings vault disk.sizes → HasOnlyRead query vault vault disk disk read read
still query vault disk read rings = record {
  vault = record { vault = refl; count = refl; ring = refl; others = λ k other. refl };
  rings = rings;
  unchanged = unchanged_none disk;
  counts = λ k other. refl;
  judged = λ judged. judged;
  stands = λ opening events placed h. h;
  readable = λ opening events placed h. h;
}

-- Where nothing was called, nothing was done, and a fault comes of a write that had failed before.
pub looked_nothing : {tells tells_images : Type 0} (query : Query) (r : RecorderState) (disk : Disk tells tells_images) (read faults : List ℕ) (answered : Type 0) → (answered → r.vault.failed ≡ true) → AreRings r.vault disk.sizes
    → HasLooked query r r disk disk read read faults faults answered
looked_nothing query r disk read faults answered had rings = looked query r r.vault disk disk read read faults faults answered (still query r.vault disk read rings)
    (record { later = none_fell faults; on_medium = λ is. inl (had is); in_all = λ is. inl (had is) })

module _ {tells tells_images : Type 0} (query : Query) (vault : VaultState) (disk : Disk tells tells_images) where
  none_told : (Names : (m offset : ℕ) → Type 0) → ((m offset : ℕ) → Names m offset → ⊥) → (done : Type 0) → (done → ⊥) → TellsDamageOf query vault disk Names done
  none_told Names never done none = record {
    medium = λ m offset named. absurd (never m offset named);
    damaged = λ m offset named. absurd (never m offset named);
    met = λ m offset named. absurd (never m offset named);
    whole = λ ended. absurd (none ended);
  }

  -- What is named so, and done so, is in other words.
  pub told_as : (Names Others : (m offset : ℕ) → Type 0) (ended done : Type 0) → ((m offset : ℕ) → Others m offset → Names m offset) → (done → ended)
      → TellsDamageOf query vault disk Names ended → TellsDamageOf query vault disk Others done
  told_as Names Others ended done from of told = record {
    medium = λ m offset named. told.medium m offset (from m offset named);
    damaged = λ m offset named. told.damaged m offset (from m offset named);
    met = λ m offset named. told.met m offset (from m offset named);
    whole = λ d. told.whole (of d);
  }

-- What is said after a read is so of what stood before it.
told_before : {tells tells_images : Type 0} (query : Query) (old new : VaultState) (before now : Disk tells tells_images) (Names : (m offset : ℕ) → Type 0) (done : Type 0)
    → ReadsOn (medium_of query.medium) old new → Unchanged before now → (AreJudged old before → AreJudged new now)
    → TellsDamageOf query new now Names done → TellsDamageOf query old before Names done
told_before query old new before now Names done reads unchanged judged after = record {
  medium = after.medium;
  damaged = λ m offset named told were.
      damaged_before (medium_of query.medium) old new before now reads unchanged told m offset (after.damaged m offset named told (judged were));
  met = λ m offset named told were. met_over query old new reads before now unchanged told offset (after.met m offset named told (judged were));
  whole = λ ended told were apart.
      intact_over query old new reads before now unchanged told (after.whole ended told (judged were) (subst AreApart (sym (same_index query old new reads)) apart));
}

module _ {M : Type 0} (media : MediaTells M) (query : Query) where
  -- What was read changes neither channels nor incidents.
  pub channels_stay : (r s : RecorderState) (x y : M) (end : ReadEnd) → HasRead media query r s x y end → (k : Option ℕ) → lacks_channel (length s.vault.config.channels) k ≡ lacks_channel (length r.vault.config.channels) k
  channels_stay r s x y end h k = ap (λ (c : Configuration). lacks_channel (length c.channels) k) (reads_keep (medium_of query.medium) r.vault s.vault h.looked.read.vault).0

  pub incidents_stay : (r s : RecorderState) (x y : M) (end : ReadEnd) → HasRead media query r s x y end → (m : Medium) → lacks_incident s.vault.table m ≡ lacks_incident r.vault.table m
  incidents_stay r s x y end h m = ap (λ (table : List (Option Incident)). lacks_incident table m) (reads_keep (medium_of query.medium) r.vault s.vault h.looked.read.vault).1

  -- Nor which records are selected.
  pub still_selects : (r s : RecorderState) (x y : M) (end : ReadEnd) → HasRead media query r s x y end → (records : List Record) → Selects media r x query records → Selects media s y query records
  still_selects r s x y end h records t = record {
    told = t.told;
    opening = t.opening;
    events = t.events;
    placed = t.placed;
    readable = h.looked.read.readable t.opening t.events t.placed t.readable;
    are = t.are;
  }

  pub no_visit : (r : RecorderState) (x : M) → AreRings r.vault (media.disk x).sizes → HasRead media query r r x x CutOff
  no_visit r x rings = record {
    looked = looked_nothing query r (media.disk x) (media.bytes_read x) (media.faults x) (CutOff ≡ ReadFault) (λ is. let none : ⊥ = cc in absurd none) rings;
    damage = none_told query r.vault (media.disk x) (λ m offset. CutOff ≡ ReadDamaged m offset) (λ m offset is. let none : ⊥ = cc in none) (CutOff ≡ AllRead) (λ is. let none : ⊥ = cc in none);
  }

  pub failed_before : (r : RecorderState) (x : M) → AreRings r.vault (media.disk x).sizes → r.vault.failed ≡ true → HasRead media query r r x x ReadFault
  failed_before r x rings had = record {
    looked = looked_nothing query r (media.disk x) (media.bytes_read x) (media.faults x) (ReadFault ≡ ReadFault) (λ is. had) rings;
    damage = none_told query r.vault (media.disk x) (λ m offset. ReadFault ≡ ReadDamaged m offset) (λ m offset is. let none : ⊥ = cc in none) (ReadFault ≡ AllRead) (λ is. let none : ⊥ = cc in none);
  }

  pub visit_cut : (r s : RecorderState) (x y : M) (end : ReadEnd) → HasRead media query r s x y end → HasRead media query r s x y CutOff
  visit_cut r s x y end h = record {
    looked = looked_as query r s (media.disk x) (media.disk y) _ _ _ _ (end ≡ ReadFault) (CutOff ≡ ReadFault) (λ is. let none : ⊥ = cc in absurd none) h.looked;
    damage = none_told query r.vault (media.disk x) (λ m offset. CutOff ≡ ReadDamaged m offset) (λ m offset is. let none : ⊥ = cc in none) (CutOff ≡ AllRead) (λ is. let none : ⊥ = cc in none);
  }

  pub two_visits : (r s t : RecorderState) (x y z : M) (end : ReadEnd) → HasRead media query r s x y AllRead → HasRead media query s t y z end → HasRead media query r t x z end
  two_visits r s t x y z end h k = record {
    looked = looked_as query r t (media.disk x) (media.disk z) _ _ _ _ _ (end ≡ ReadFault) (λ is. inr is) (looks_join query r s t _ _ _ _ _ _ _ _ _ _ _ h.looked k.looked);
    damage = told_before query r.vault s.vault (media.disk x) (media.disk y) (λ m offset. end ≡ ReadDamaged m offset) (end ≡ AllRead)
        h.looked.read.vault h.looked.read.unchanged h.looked.read.judged k.damage;
  }

  -- One visit, by what the vault says of it.
  pub one_visit : {R : Type 0} {Has : List Record → Type 0} {Stops : List Record → R → Type 0} {line : List Record → Record → List ℕ} {whole : List Record → List ℕ} {was now : Option (List ℕ)} (r : RecorderState) (x : M)
      (result : Result ⊤ (VisitRefused R)) → HasVisited query r.vault (media.disk x) Has Stops line whole was now result → HasHanded (Selects media r x query) Has Stops line whole was now result
  one_visit {whole = whole} {was = was} {now = now} r x result v = record {
    seen = v.seen;
    made = v.made;
    are = λ records t. subst (λ (l : List Record). AreVisited v.seen l result) (sym t.are) (v.are t.opening t.events t.placed t.told t.readable);
    front = λ records t. subst (λ (l : List Record). AppendsFront was now (whole l)) (sym t.are) (v.front t.opening t.events t.placed t.told t.readable);
  }

  -- And back.
  pub visited_so : {R : Type 0} {Has : List Record → Type 0} {Stops : List Record → R → Type 0} {line : List Record → Record → List ℕ} {whole : List Record → List ℕ} {was now : Option (List ℕ)} (r : RecorderState) (x : M)
      (result : Result ⊤ (VisitRefused R)) → HasHanded (Selects media r x query) Has Stops line whole was now result → HasVisited query r.vault (media.disk x) Has Stops line whole was now result
  visited_so r x result v = record {
    seen = v.seen;
    made = v.made;
    are = λ opening events placed told readable. v.are (selected opening events query) (record { told = told; opening = opening; events = events; placed = placed; readable = readable; are = refl });
    front = λ opening events placed told readable. v.front (selected opening events query) (record { told = told; opening = opening; events = events; placed = placed; readable = readable; are = refl });
  }

  -- How it ended, by the result.
  pub read_so : {R : Type 0} (r : RecorderState) (after : VaultState) (x y : M) (result : Result ⊤ (VisitRefused R)) → HasOnlyRead query r.vault after (media.disk x) (media.disk y) (media.bytes_read x) (media.bytes_read y)
      → HasVisitCause (medium_of query.medium) r.vault.failed (media.faults x) (media.faults y) (result ≡ Err stops.Fault)
      → TellsDamageOf query r.vault (media.disk x) (λ m offset. result ≡ Err (stops.Damaged m offset)) (result ≡ Ok tt) → HasRead media query r (record r { vault = after }) x y (end_of result)
  read_so {R} r after x y result read cause told = record {
    looked = looked query r after (media.disk x) (media.disk y) _ _ _ _ (end_of result ≡ ReadFault) read
        (record { later = cause.later; on_medium = λ is. cause.on_medium (fault_is result is); in_all = λ is. cause.in_all (fault_is result is) });
    damage = told_as query r.vault (media.disk x) _ _ _ _ (damage_is result) (all_is result) told;
  }
    where
      fault_is : (e : Result ⊤ (VisitRefused R)) → end_of e ≡ ReadFault → e ≡ Err stops.Fault
      fault_is (Ok all) is = let none : ⊥ = cc in absurd none
      fault_is (Err stops.NoChannel) is = let none : ⊥ = cc in absurd none
      fault_is (Err stops.NoIncident) is = let none : ⊥ = cc in absurd none
      fault_is (Err stops.Fault) is = refl
      fault_is (Err (stops.Damaged m offset)) is = let none : ⊥ = cc in absurd none
      fault_is (Err stops.Output) is = let none : ⊥ = cc in absurd none
      fault_is (Err (stops.Own reason)) is = let none : ⊥ = cc in absurd none

      damage_is : (e : Result ⊤ (VisitRefused R)) (m offset : ℕ) → end_of e ≡ ReadDamaged m offset → e ≡ Err (stops.Damaged m offset)
      damage_is (Ok all) m offset is = let none : ⊥ = cc in absurd none
      damage_is (Err stops.NoChannel) m offset is = let none : ⊥ = cc in absurd none
      damage_is (Err stops.NoIncident) m offset is = let none : ⊥ = cc in absurd none
      damage_is (Err stops.Fault) m offset is = let none : ⊥ = cc in absurd none
      damage_is (Err (stops.Damaged k at)) m offset is = cc
      damage_is (Err stops.Output) m offset is = let none : ⊥ = cc in absurd none
      damage_is (Err (stops.Own reason)) m offset is = let none : ⊥ = cc in absurd none

      all_is : (e : Result ⊤ (VisitRefused R)) → end_of e ≡ AllRead → e ≡ Ok tt
      all_is (Ok all) is = refl
      all_is (Err stops.NoChannel) is = let none : ⊥ = cc in absurd none
      all_is (Err stops.NoIncident) is = let none : ⊥ = cc in absurd none
      all_is (Err stops.Fault) is = let none : ⊥ = cc in absurd none
      all_is (Err (stops.Damaged m offset)) is = let none : ⊥ = cc in absurd none
      all_is (Err stops.Output) is = let none : ⊥ = cc in absurd none
      all_is (Err (stops.Own reason)) is = let none : ⊥ = cc in absurd none
