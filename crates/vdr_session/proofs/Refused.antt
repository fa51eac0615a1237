-- A run that is refused before the latch is made, and what is told of it.
use Rattle.std.proofs.Common.{◌≡◌, ◌≢◌, inl, inr, ◌<◌, ◌≤◌, ◌^◌, ℕ, ℤ, Bool, List, [], Option, None, option_map, refl, sym, ap, ◌∙◌, subst, arith, ◌↔◌}
use Rattle.std.specs.Prelude.{sum}
use Rattle.std.proofs.lemmas.List.Elements.{All-nil}
use Rattle.vdr_terms.specs.Records.{none_missed}
use Rattle.vdr_core.specs.Histories.{Event, Opening}
use Rattle.vdr_core.specs.Runs.{base_after}
use Rattle.vdr_intake.specs.Ends.{QueueId, Taking}
use Rattle.vdr_outside.specs.Disk.{Disk, Image, content}
use Rattle.vdr_outside.specs.Causes.{NoneFalls}
use Rattle.vdr_outside.specs.declared.port.Port.{Ghosts as PortTells}
use Rattle.vdr_outside.proofs.Counts.{none_fell}
use Rattle.vdr_capture.specs.declared.lane.Lane.{Lane}
use Rattle.vdr_capture.specs.declared.sums.Outcome.{Outcome}
use Rattle.vdr_capture.specs.declared.sums.Outcome.TheVariants.{Done, NoMemory, Place, Tick, MediaFault, PortFault, LinkFault}
use Rattle.vdr_run.specs.Starts.{stamp_of}
use Rattle.vdr_vault.specs.Vaults.{VaultState}
use Rattle.vdr_recorder.specs.Recordings.{HasRecorded, RecorderState}
use Rattle.vdr_recorder.specs.Watched.{Watched}
use Rattle.vdr_recorder.proofs.Starting.{same_stamp}
use Rattle.vdr_recorder.proofs.Telling.{tells_none}
use Rattle.vdr_session.specs.declared.mark.Mark.{Mark}
use Rattle.vdr_session.specs.declared.records.Began.{Began}
use Rattle.vdr_session.specs.declared.records.Began.TheVariants as starts
use Rattle.vdr_session.specs.Ended.{EndsRun, HasEnded, IsToldAs, IsWithFailures}
use Rattle.vdr_session.specs.Sessions.{DecidedBy, DecidesSession, IsRefusedBy, IsUnbegun}
use Rattle.vdr_session.specs.Standing.{Before, IsNoRefusal, StartMeans}
use Rattle.vdr_session.proofs.Origins.{none_failed}

-- What is told with the failures of ports and links

pub decides_with : (place base : ℕ) (outcome end : Outcome) → IsWithFailures outcome end → DecidedBy place base outcome → DecidedBy place base end
decides_with place base outcome end (inl same) h = subst (DecidedBy place base) (sym same) h
decides_with place base outcome end (inr (done, inl (g, is))) h = subst (DecidedBy place base) (sym is) (subst (DecidedBy place base) done h)
decides_with place base outcome end (inr (done, inr (i, is))) h = subst (DecidedBy place base) (sym is) (subst (DecidedBy place base) done h)

pub unbegun_before : (outcome end : Outcome) → IsWithFailures outcome end → IsUnbegun end → IsUnbegun outcome
unbegun_before outcome end (inl same) h = subst IsUnbegun same h
unbegun_before outcome end (inr (done, inl (g, is))) h = absurd (subst IsUnbegun is h)
unbegun_before outcome end (inr (done, inr (i, is))) h = absurd (subst IsUnbegun is h)

-- a start at the latch that was not begun met a fault
pub fault_told : (began : Began) → (began ≡ starts.Begun → ⊥) → IsNoRefusal began → IsToldAs began MediaFault
fault_told starts.Begun ne unrefused = absurd (ne refl)
fault_told starts.Place ne unrefused = absurd (unrefused.place refl)
fault_told starts.Tick ne unrefused = absurd (unrefused.tick refl)
fault_told starts.Fault ne unrefused = refl

module _ {P : Type 0} (port_tells : PortTells P) {tells tells_images : Type 0} (turns : ℕ) (configured : ℕ → Bool) (queues : List (Option QueueId)) (takers : List (Option Taking)) (lanes : List (Lane P)) (before : Before) (opened : Opening → ℕ → Type 0)
    (sizes faults : List ℕ) (beside : Began → List Mark → Type 0) (rests : (began : Began) → (began ≡ starts.Begun → ⊥) → beside began []) (r : RecorderState) (disk : Disk tells tells_images) (now : List ℕ) (w : Watched)
    (sizes_are : disk.sizes ≡ sizes) (faults_are : now ≡ faults) (heard : w ≡ before.heard)
    (was : (before.clock ≡ disk.clock) × ((i : Image) → disk.now i → before.now i) × ((t : ℕ) (i : Image) → disk.since t i → before.since t i) × (disk.reads ≡ before.reads) × ((t : ℕ) (i : Image) → disk.until t i ↔ before.until t i))
    (has : (opening : Opening) (t0 : ℕ) → opened opening t0 → HasRecorded opening [] t0 r disk) where
  -- no event was made
  ends : (outcome : Outcome) → (outcome ≡ Done → ⊥) → (opening : Opening) (t0 : ℕ) → opened opening t0 → EndsRun before opening [] t0 (λ _. none_missed) outcome r disk w
  ends outcome never opening t0 b = record {
    events = [];
    behind = [];
    front = refl;
    has = has opening t0 b;
    passes = record {
      later = (let c = was.0 in omega (arith, c));
      each = λ i since. inl (was.1 i (disk.only_now i (subst (λ (t : ℕ). disk.since t i) was.0 since)));
      earlier = λ t i early since. inl (was.2 t i since);
      past = λ t i early. was.4 t i;
    };
    heard = tells_none (λ _. heard);
    pending = inl (All-nil (λ (e : Event). e.moment ≢ None));
    records = inl refl;
    closed = λ e. absurd (never e);
  }

  place_is : (opening : Opening) (t0 : ℕ) → opened opening t0 → r.vault.next_place ≡ opening.next_place
  place_is opening t0 b = (has opening t0 b).told.place

  base_is : (opening : Opening) (t0 : ℕ) → opened opening t0 → base_after (option_map stamp_of r.vault.last) ≡ base_after opening.last
  base_is opening t0 b = ap (λ (o : Option (ℕ × ℤ)). base_after (option_map stamp_of o)) (has opening t0 b).told.stamp ∙ ap base_after (same_stamp opening.last)

  ended : (began : Began) (outcome : Outcome) → (began ≡ starts.Begun → ⊥) → (began ≡ starts.Fault → ⊥) → (outcome ≡ Done → ⊥) → (outcome ≡ MediaFault → ⊥) → IsToldAs began outcome
      → ((opening : Opening) (t0 : ℕ) → opened opening t0 → StartMeans opening began)
      → HasEnded port_tells turns configured queues takers takers lanes lanes before opened sizes faults beside outcome r disk now w
  ended began outcome ne no_fault never no_media told_as means = record {
    marks = [];
    began = began;
    besides = rests began ne;
    missed_rose = (let none = none_failed in let same = ap sum faults_are in omega (arith, none, same));
    lanes = record {
      ran = λ is. absurd (ne is);
      refused = λ _. record { none = refl; refused = refl; idle = λ _. (refl, refl); fails = λ e. absurd (no_fault e); lanes = refl; takers = refl };
    };
    told_as = told_as;
    rest = λ _. none_missed;
    missed = λ is. absurd (ne is);
    quiet = λ _ g. refl;
    works = λ e. absurd (never e);
    later = subst (λ (fs : List ℕ). NoneFalls fs now) faults_are (none_fell now);
    rose = λ e. absurd (no_media e);
    sizes_are = sizes_are;
    elsewhere = λ told n apart. ap (λ (image : Image). content image n) was.3;
    told = λ told opening t0 b. (ends outcome never opening t0 b, means opening t0 b);
  }

  pub refused_ends : (outcome : Outcome) → IsRefusedBy r.vault outcome → HasEnded port_tells turns configured queues takers takers lanes lanes before opened sizes faults beside outcome r disk now w
  refused_ends Done h = absurd h
  refused_ends NoMemory h = absurd h
  refused_ends Place h = ended starts.Place Place (λ e. cc) (λ e. cc) (λ e. cc) (λ e. cc) refl (λ opening t0 b. subst (λ (n : ℕ). 2 ^ 62 ≤ n) (place_is opening t0 b) h)
  refused_ends Tick h = ended starts.Tick Tick (λ e. cc) (λ e. cc) (λ e. cc) (λ e. cc) refl
      (λ opening t0 b. (subst (λ (n : ℕ). n < 2 ^ 62) (place_is opening t0 b) h.0, subst (λ (n : ℕ). 2 ^ 62 ≤ n) (base_is opening t0 b) h.1))
  refused_ends MediaFault h = absurd h
  refused_ends (PortFault g) h = absurd h
  refused_ends (LinkFault i) h = absurd h

-- What was refused is told so.
pub refused_decides : (vault : VaultState) (outcome : Outcome) → IsRefusedBy vault outcome → DecidesSession vault outcome
refused_decides vault Done h = absurd h
refused_decides vault NoMemory h = absurd h
refused_decides vault Place h = h
refused_decides vault Tick h = h
refused_decides vault MediaFault h = absurd h
refused_decides vault (PortFault g) h = absurd h
refused_decides vault (LinkFault i) h = absurd h
