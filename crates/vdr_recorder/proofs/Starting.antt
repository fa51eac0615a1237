-- A run's Start is an event of the recorder's history.
use Rattle.std.proofs.Common.{◌≡◌, ◌≤◌, ◌^◌, ℕ, ℤ, List, [], All, true, false, Option, Some, None, Result, Ok, Err, IfSome, option_map, inl, inr, refl, sym, ap, ◌∙◌, subst, arith}
use Rattle.std.proofs.lemmas.List.Elements.{All-contains}
use Rattle.vdr_terms.specs.Legality.{IsRecord}
use Rattle.vdr_terms.specs.Records.{Record, last}
use Rattle.vdr_terms.specs.Stamps.{IsStamp}
use Rattle.vdr_core.specs.Histories.{Event, Opening, Settings, last_stamp, stamp_of}
use Rattle.vdr_core.specs.Histories.Act.{Commit}
use Rattle.vdr_core.specs.Recorder.{begun}
use Rattle.vdr_core.specs.RunStates.{next_start, state_left}
use Rattle.vdr_core.specs.Runs.{RunStart, Stamp, base_after}
use Rattle.vdr_durability.proofs.Lists.{last_contained}
use Rattle.vdr_durability.specs.Keeping.{IsWhole}
use Rattle.vdr_durability.proofs.Whole.{whole_has_not_failed}
use Rattle.vdr_outside.specs.Disk.{Disk, content}
use Rattle.vdr_config.specs.Configuration.{Configuration}
use Rattle.vdr_config.specs.Sizes.{limits_in}
use Rattle.vdr_datagram.specs.Channels.{channels_of}
use Rattle.vdr_durability.specs.Commits.{IsDoneIn}
use Rattle.vdr_directory.specs.Sequence.{all_records}
use Rattle.vdr_directory.specs.Holds.{HoldsPlaced}
use Rattle.vdr_ring.proofs.Beginning.{legal_batches}
use Rattle.vdr_vault.specs.Vaults.{VaultState, of_stamp, ring_of, tick_utc}
use Rattle.vdr_vault.proofs.ShownHistory.{held_at}
use Rattle.vdr_ring.proofs.Records.{all_legal}
use Rattle.vdr_recorder.specs.Making.{MakesBy}
use Rattle.vdr_recorder.specs.Recordings.{HasDone, HasRecorded, KeepsEvent, RecorderState}
use Rattle.vdr_recorder.specs.declared.run.StartRefused.{StartRefused}
use Rattle.vdr_recorder.specs.declared.run.StartRefused.TheVariants.{Place, Tick, Fault}
use Rattle.vdr_run.specs.Starts.{start_with}
use Rattle.vdr_run.specs.Starts as starts
use Rattle.vdr_recorder.proofs.Continuing.{left_channels, left_limits, left_stamp}
use Rattle.vdr_recorder.proofs.Running.{has_done}

-- What a vault tells of the last record.
abbrev told_of : Option Record → Option (ℕ × ℤ)
told_of o = option_map tick_utc o

told_stamp : (o : Option Record) → option_map of_stamp (stamp_of o None) ≡ told_of o
told_stamp None = refl
told_stamp (Some r) = refl

-- What a vault tells of a stamp is read back.
pub same_stamp : (o : Option Stamp) → option_map starts.stamp_of (option_map of_stamp o) ≡ o
same_stamp None = refl
same_stamp (Some stamp) = refl

last_legal : (records : List Record) → All IsRecord records → IfSome (told_of (last records)) (λ told. IsStamp told.1)
last_legal records legal = go (last records) refl
  where
    go : (o : Option Record) → last records ≡ o → IfSome (told_of o) (λ told. IsStamp told.1)
    go None e = tt
    go (Some r) e = (All-contains IsRecord records r legal (last_contained records r e)).utc

module _ {tells tells_images : Type 0} (opening : Opening) (events : List Event) (t0 : ℕ) (r : RecorderState) (old : Disk tells tells_images) (h : HasRecorded opening events t0 r old) (works : r.vault.failed ≡ false) where
  held : tells → HoldsPlaced (ring_of r.vault 0).segment (ring_of r.vault 0).slots ((h.works works).standing.placed 0) (content old.reads 0)
  held told = held_at opening events r.vault.config 0 (ring_of r.vault 0) ((h.works works).standing.placed 0) old ((h.works works).standing.stands.media 0 0 (omega arith)) told

  -- The vault tells the last stamp of the history.
  pub stamp_is : option_map starts.stamp_of r.vault.last ≡ last_stamp opening events
  stamp_is = ap (option_map starts.stamp_of) (h.works works).standing.stands.newest ∙ same_stamp (last_stamp opening events)

  newest_is : r.vault.last ≡ told_of (last (all_records ((h.works works).standing.placed 0)))
  newest_is = (h.works works).standing.stands.newest ∙ ap (option_map of_stamp) (h.works works).standing.stands.stamp ∙ told_stamp (last (all_records ((h.works works).standing.placed 0)))

  stamp_legal : tells → IfSome r.vault.last (λ told. IsStamp told.1)
  stamp_legal tells = subst (λ (o : Option (ℕ × ℤ)). IfSome o (λ told. IsStamp told.1)) (sym newest_is)
      (last_legal (all_records ((h.works works).standing.placed 0)) (all_legal ((h.works works).standing.placed 0) (legal_batches (ring_of r.vault 0).segment (ring_of r.vault 0).slots ((h.works works).standing.placed 0) (content old.reads 0) (held tells))))

  whole : IsWhole events
  whole = (whole_has_not_failed events).1 (sym h.failed ∙ works)

  -- So the maker begins the run that comes next.
  begins_next : start_with r.vault.config r.vault.next_place r.vault.last ≡ next_start (state_left opening events)
  begins_next =
      let settings = (h.works works).standing.stands.settings in
      let limits : limits_in r.vault.config.groups ≡ (state_left opening events).start.limits = sym (ap (λ (s : Settings). s.limits) settings) ∙ sym (left_limits opening events whole) in
      let channels : channels_of r.vault.config ≡ (state_left opening events).start.channels = sym (ap (λ (s : Settings). s.channels) settings) ∙ sym (left_channels opening events whole) in
      let here : r.vault.next_place ≡ (state_left opening events).place = h.told.place in
      let latest : option_map starts.stamp_of r.vault.last ≡ (state_left opening events).last = stamp_is ∙ sym (left_stamp opening events whole) in
      λ i. record { limits = limits i; channels = channels i; place = here i; last = latest i }

  -- And by what the vault tells, its stamp brought into the range.
  pub starts_next : tells → (config : Configuration) → config ≡ r.vault.config → (place : ℕ) → place ≡ r.vault.next_place
      → (told near : Option (ℕ × ℤ)) → told ≡ r.vault.last → (IfSome told (λ told. IsStamp told.1) → near ≡ told) → start_with config place near ≡ next_start (state_left opening events)
  starts_next tells config same place at told near is keeps =
      let nearest = keeps (subst (λ (o : Option (ℕ × ℤ)). IfSome o (λ told. IsStamp told.1)) (sym is) (stamp_legal tells)) ∙ is in
      (λ i. start_with (same i) (at i) (nearest i)) ∙ begins_next

  pub start_goes_on : r.is_open ≡ false → IsDoneIn opening.settings.limits r.vault.config.batch (state_left opening events) (Commit (begun (next_start (state_left opening events))).made [])
  start_goes_on is_closed = inr (inl (record { is_closed = sym (h.works works).open_is ∙ is_closed; made = refl; none = refl }))

  -- The Start that it makes is committed.
  pub start_event : r.is_open ≡ false → (start : RunStart) → start ≡ next_start (state_left opening events) → (records : List Record) → records ≡ (begun start).made
      → (after : VaultState) (new : Disk tells tells_images)
      → (IsDoneIn opening.settings.limits r.vault.config.batch (state_left opening events) (Commit records []) → KeepsEvent opening events t0 (Commit records []) after old new)
      → KeepsEvent opening events t0 (Commit (begun (next_start (state_left opening events))).made []) after old new
  start_event is_closed start begins records are after new kept =
      let is : records ≡ (begun (next_start (state_left opening events))).made = are ∙ ap (λ (start : RunStart). (begun start).made) begins in
      subst (λ (rs : List Record). KeepsEvent opening events t0 (Commit rs []) after old new) is
      (kept (subst (λ (rs : List Record). IsDoneIn opening.settings.limits r.vault.config.batch (state_left opening events) (Commit rs [])) (sym is) (start_goes_on is_closed)))

  pub start_done : (after : RecorderState) (new : Disk tells tells_images)
      → KeepsEvent opening events t0 (Commit (begun (next_start (state_left opening events))).made []) after.vault old new
      → (after.vault.failed ≡ false → (after.is_open ≡ true) × MakesBy after.vault.config (next_start (state_left opening events)) [] after.maker)
      → HasDone opening events t0 (Commit (begun (next_start (state_left opening events))).made []) after old new
  start_done after new k begins = has_done opening events t0 r old h works (Commit (begun (next_start (state_left opening events))).made []) after new k (λ goes. ((begins goes).0, λ again. (begins goes).1))

-- The base is late by the one as by the other.
pub late_by : (told last : Option (ℕ × ℤ)) → told ≡ last → 2 ^ 62 ≤ base_after (option_map starts.stamp_of told) → 2 ^ 62 ≤ base_after (option_map starts.stamp_of last)
late_by told last same late = subst (λ (o : Option (ℕ × ℤ)). 2 ^ 62 ≤ base_after (option_map starts.stamp_of o)) same late

-- The answers differ.
pub place_or_tick : ◌≡◌ {A = Result (Unit {0}) StartRefused} (Err Place) (Err Tick) → ⊥
place_or_tick e = cc

pub fault_or_place : (result : Result (Unit {0}) StartRefused) → result ≡ Err Fault → result ≡ Err Place → ⊥
fault_or_place result a b = cc

pub fault_or_tick : (result : Result (Unit {0}) StartRefused) → result ≡ Err Fault → result ≡ Err Tick → ⊥
fault_or_tick result a b = cc

pub ok_or_place : ◌≡◌ {A = Result (Unit {0}) StartRefused} (Ok tt) (Err Place) → ⊥
ok_or_place e = cc

pub ok_or_tick : ◌≡◌ {A = Result (Unit {0}) StartRefused} (Ok tt) (Err Tick) → ⊥
ok_or_tick e = cc
