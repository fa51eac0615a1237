-- How a vault stands once media are opened: the batch that some of them lack was appended to those, or there was none.
use Rattle.std.proofs.Common.{◌≡◌, ◌≢◌, ◌⊎◌, inl, inr, ℕ, Bool, ◌+◌, ◌<◌, ◌≤◌, ◌==◌, List, [], true, false, All, Option, Some, None, option_map, length, take, drop, ◌∷◌, ◌++◌, append-nil, Result, Ok, refl, sym, ap, ◌∙◌, subst, arith}
use Rattle.std.specs.Prelude.{⊤}
use Rattle.std.proofs.lemmas.Bool.{cases_lt, eqb-true, true≢false}
use Rattle.std.proofs.lemmas.List.{nil_from_length, take-append-drop}
use Rattle.std.proofs.lemmas.List.Elements.{All-append, All-weaker}
use Rattle.std.proofs.lemmas.Result.{on_ok_weaker}
use Rattle.vdr_terms.specs.Records.{Record, last}
use Rattle.vdr_terms.specs.Needs.{cost, usable, Sizes}
use Rattle.vdr_terms.specs.Order.{AreInOrder as RecordsAreInOrder}
use Rattle.vdr_terms.specs.Sizes.{batch_size}
use Rattle.vdr_core.specs.Histories.{Incident, stamp_of}
use Rattle.vdr_durability.specs.Retention.{Retains, Pin}
use Rattle.vdr_durability.specs.Victims.{ArePinsOf}
use Rattle.vdr_durability.specs.Readings.{records_on, restored, next_after, AreLevel, IsPassedOn, Reading}
use Rattle.vdr_durability.specs.Shown.{pins_of, pins_on, given_with}
use Rattle.vdr_durability.specs.Soundness.{IsUnbroken}
use Rattle.vdr_durability.proofs.Restored.{passed_leads}
use Rattle.vdr_outside.specs.Disk.{Disk, Image, content, Durable}
use Rattle.vdr_outside.specs.Moments.{AtEachMoment}
use Rattle.vdr_outside.specs.declared.fault.Fault.{Fault}
use Rattle.vdr_outside.proofs.Moments.{size_read, moments_none, moments_weaken}
use Rattle.vdr_config.specs.Configuration.{Configuration, IsConfiguration}
use Rattle.vdr_config.specs.Sizes.{sizes_of, window_of}
use Rattle.vdr_media.proofs.Members.{of_all, of_each}
use Rattle.vdr_segment.specs.Slots.{SameFront}
use Rattle.vdr_directory.specs.Sequence.{Placed, all_records, batches_in}
use Rattle.vdr_directory.specs.Order.{AreInOrder}
use Rattle.vdr_directory.specs.Holds.{HoldsPlaced}
use Rattle.vdr_ring.specs.Rings.{RingState}
use Rattle.vdr_ring.specs.Rings as rings
use Rattle.vdr_ring.specs.Regularity.{AreRegular, MissOneAtMost}
use Rattle.vdr_ring.specs.Stages.{AreStages, Stages}
use Rattle.vdr_ring.specs.Taking.{IsGiven, Waits}
use Rattle.vdr_ring.specs.Openings.{IsRingOf}
use Rattle.vdr_ring.specs.Whole.{KeepsAll, is_filled}
use Rattle.vdr_incident.specs.Tables.{HoldsTable}
use Rattle.vdr_opening.specs.Settings.{settings_of}
use Rattle.vdr_opening.specs.Answers.{AreRingsOf, IsMissing, IsOpened, further_on, ring_at}
use Rattle.vdr_opening.specs.Media.{further_in, members_with, Contents, IsMedium, opening_of, reading_of, AreThere, HasFront, slots_on}
use Rattle.vdr_vault.specs.Openings.{EndsWithin, GoesOnBehind, Reconciles, opened_with}
use Rattle.vdr_vault.specs.Passes.{Passed, Passes, pins_at}
use Rattle.vdr_vault.specs.Vaults.{AreRings, HoldsHistory, VaultState, Stands, of_stamp, reading_with, ring_of, tick_utc}
use Rattle.vdr_vault.specs.Regularity.{AreSound, IsRegularMedium, IsUnbrokenMedium, LacksNothing}
use Rattle.vdr_vault.proofs.Kept.{keeps_after, keeps_all, slots_there}
use Rattle.vdr_vault.proofs.Members.{chosen, chosen_is, ring_is}
use Rattle.vdr_vault.proofs.OpenContents.{held_durable}
use Rattle.vdr_vault.proofs.Untouched.{reads_below}
use Rattle.vdr_vault.proofs.ReconcileBatch.{HasIt, IsPassing, Lacks, LacksIt, appending_within, first_place, held_within, lacked_goes_on}
use Rattle.vdr_vault.proofs.ReconcileImages.{Having, appending_shown, done_has, done_keeps, done_opened, kept_has}
use Rattle.vdr_vault.proofs.ShownImages.{front_stays, table_stays}
use Rattle.vdr_vault.proofs.ShownPlaces.{stamp_told}
use Rattle.vdr_vault.proofs.Sounding.{AreOpened, level_opened, opened_shown}

-- How the vault stands once media are opened.

module _ {tells tells_images : Type 0} where
  -- What the vault reads of the media.
  pub record ReadsVault (x : Contents) (vault : VaultState) (placed : ℕ → List Placed) (disk : Disk tells tells_images) : Type 0 where
    pub working : vault.failed ≡ false
    pub config : vault.config ≡ x.config
    pub table : vault.table ≡ x.table
    pub count : length vault.rings ≡ 2 + x.further
    pub version : (i : Image) → disk.now i → x.further ≡ further_in i
    pub read_version : tells → x.further ≡ further_in disk.reads
    pub rings_are : AreRings vault disk.sizes
    pub reads : (k : ℕ) → k < 2 + x.further → rings.Reads (ring_of vault k) (placed k) disk
    pub fronts : tells → (k : ℕ) → k < 2 + x.further → HasFront k x.config x.text (content disk.reads k)
    pub incidents : tells → HoldsTable x.config.incident_slots x.table (content disk.reads 1)
    pub slots : length x.table ≡ x.config.incident_slots
    pub next : vault.next_place ≡ next_after (last (all_records (placed 0)))
    pub last_is : vault.last ≡ option_map tick_utc (last (all_records (placed 0)))
    pub keeps : (k : ℕ) → k < 2 + x.further → KeepsAll (ring_of vault k).seconds (ring_of vault k).slots (placed k)

  module _ (x : Contents) (vault : VaultState) (placed : ℕ → List Placed) (disk : Disk tells tells_images) (sound : AreSound x) (opened : AreOpened x placed) (v : ReadsVault x vault placed disk) where
    abbrev n : ℕ
    n = x.further

    abbrev given : ℕ → List Record
    given m = records_on (restored (members_with n) (reading_of x)) m

    all_given : (m : ℕ) → given_with (opening_of x) [] m ≡ given m
    all_given m = append-nil (given m)

    same_count : further_on vault.rings ≡ n
    same_count = let count = v.count in omega (arith, count)

    history : (m : ℕ) → m < 2 + n → HoldsHistory (opening_of x) [] vault.config m (ring_of vault m) (placed m) disk
    history m lt = subst (λ (c : Configuration). HoldsHistory (opening_of x) [] c m (ring_of vault m) (placed m) disk) (sym v.config) (record {
      is_its = subst (λ (c : Configuration). IsRingOf c disk.sizes m (ring_of vault m)) v.config (ring_is v.rings_are m (let count = v.count in omega (arith, lt, count)));
      reads = v.reads m lt;
      front = λ told. v.fronts told m lt;
      regular = of_each (λ m. AreRegular (cost (sizes_of x.config)) (usable (sizes_of x.config)) x.config.batch (placed m)) n opened.regular m lt;
      order = subst RecordsAreInOrder (sym (all_given m)) (of_each (IsRegularMedium x) n sound.regular m lt).order;
      retains = subst (λ (rs : List Record). Retains (window_of x.config m) (pins_on m x.table) rs (all_records (placed m))) (sym (all_given m))
          (of_each (λ m. Retains (window_of x.config m) (pins_on m x.table) (given m) (all_records (placed m))) n opened.retains m lt);
      pins = of_each (λ m. ArePinsOf (sizes_of x.config) m (all_records (placed m)) (pins_on m x.table)) n opened.pins m lt;
      unbroken = subst (IsUnbroken (window_of x.config m)) (sym (all_given m)) (of_each (IsUnbrokenMedium x) n sound.unbroken m lt);
      keeps = v.keeps m lt;
    })

    ends_given : last (given 0) ≡ last (all_records (placed 0))
    ends_given = sym (opened.retains 0 0 (omega arith)).window.newest

    next_is : next_after (last (given 0)) + 0 ≡ next_after (last (all_records (placed 0)))
    next_is = (let e : next_after (last (given 0)) + 0 ≡ next_after (last (given 0)) = omega arith in e) ∙ ap next_after ends_given

    pub opened_stands : Stands (opening_of x) [] vault placed disk
    opened_stands = record {
      settings = ap (λ (c : Configuration). settings_of c x.text) (sym v.config);
      working = v.working;
      media = subst (λ (k : ℕ). All (λ m. HoldsHistory (opening_of x) [] vault.config m (ring_of vault m) (placed m) disk) (members_with k)) (sym same_count)
          (of_all (λ m. HoldsHistory (opening_of x) [] vault.config m (ring_of vault m) (placed m) disk) n history);
      level = subst (λ (k : ℕ). AreLevel (members_with k) (reading_with x.text placed vault.table)) (sym same_count) opened.level;
      incidents_are = v.table;
      slots = ap length v.table ∙ v.slots ∙ ap (λ (c : Configuration). c.incident_slots) (sym v.config);
      version = λ i now. same_count ∙ v.version i now;
      read_version = λ told. same_count ∙ v.read_version told;
      table = λ told. subst (λ (p : ℕ × List (Option Incident)). HoldsTable p.0 p.1 (content disk.reads 1)) (λ i. ((sym v.config i).incident_slots, sym v.table i)) (v.incidents told);
      there = subst (λ (t : List (Option Incident)). AreThere t (placed 1)) (sym v.table) opened.there;
      goes_on = v.next ∙ sym next_is;
      newest = v.last_is ∙ stamp_told (last (all_records (placed 0))) ∙ ap (λ (o : Option Record). option_map of_stamp (stamp_of o None)) (sym ends_given);
      place = next_is;
      stamp = ap (λ (o : Option Record). stamp_of o None) ends_given;
    }

-- The appended batch, or none: what each moment shows, and how the vault stands.

pub none_of_length : (records : List Record) → (length records == 0) ≡ true → records ≡ []
none_of_length records e = nil_from_length records (eqb-true (length records) 0 e)

pub some_of_length : (records : List Record) → (length records == 0) ≡ false → records ≢ []
some_of_length records e = λ none. true≢false (ap (λ (rs : List Record). length rs == 0) (sym none) ∙ e)

-- A batch without records is on its way to no medium.
no_batch : (n lacking : ℕ) (r : Reading) → IsPassedOn (members_with n) (take lacking (members_with n)) (drop lacking (members_with n)) [] r → AreLevel (members_with n) r
no_batch n lacking r passed = subst (All Level) (take-append-drop lacking (members_with n))
    (All-append Level (take lacking (members_with n)) (drop lacking (members_with n)) (λ i d lt. passed.given_end i d lt ∙ sym leads) (λ i d lt. absurd (true≢false (sym (passed.waiting_end i d lt)))))
  where
    Level : ℕ → Type 0
    Level m = last (r.batches m) ≡ last (r.batches 0)

    leads : last (r.batches 0) ≡ Some []
    leads = passed_leads (members_with n) (take lacking (members_with n)) (drop lacking (members_with n)) [] r passed

none_missing : (n : ℕ) (missing : List Record) (lacking : ℕ) (r : Reading) → missing ≡ [] → IsMissing (members_with n) missing lacking r → AreLevel (members_with n) r
none_missing n missing lacking r none (inl (e, level)) = level
none_missing n missing lacking r none (inr passed) = no_batch n lacking r (subst (λ (rs : List Record). IsPassedOn (members_with n) (take lacking (members_with n)) (drop lacking (members_with n)) rs r) none passed)

some_missing : (n : ℕ) (missing : List Record) (lacking : ℕ) (r : Reading) → missing ≢ [] → IsMissing (members_with n) missing lacking r
    → IsPassedOn (members_with n) (take lacking (members_with n)) (drop lacking (members_with n)) missing r
some_missing n missing lacking r some (inl (e, level)) = absurd (some e)
some_missing n missing lacking r some (inr passed) = passed

module _ {tells tells_images : Type 0} where
  module _ (x : Contents) (vault : VaultState) (missing : List Record) (lacking : ℕ) (disk : Disk tells tells_images) (told : tells) (working : vault.failed ≡ false) (are : AreRings vault disk.sizes)
      (o : IsOpened (opened_with vault missing lacking) x disk) where
    inside : (k : ℕ) → k < 2 + x.further → k < length vault.rings
    inside k lt = let count = o.count in omega (arith, lt, count)

    its : (m : ℕ) → m < 2 + x.further → IsRingOf x.config disk.sizes m (ring_of vault m)
    its m lt = subst (λ (c : Configuration). IsRingOf c disk.sizes m (ring_of vault m)) o.config (ring_is are m (inside m lt))

    reads : (m : ℕ) → m < 2 + x.further → rings.Reads (ring_of vault m) (x.placed m) disk
    reads = of_each (λ m. rings.Reads (ring_of vault m) (x.placed m) disk) x.further o.rings

    media : (m : ℕ) → m < 2 + x.further → IsMedium m x.config x.text (x.placed m) (content disk.reads m)
    media = of_each (λ m. IsMedium m x.config x.text (x.placed m) (content disk.reads m)) x.further o.holds.media

    durable : (m : ℕ) → m < 2 + x.further → Durable m disk
    durable m lt = subst (λ (k : ℕ). Durable k disk) (its m lt).medium (reads m lt).settled.durable

    all_durable : All (λ m. Durable m disk) (members_with x.further)
    all_durable = of_all (λ m. Durable m disk) x.further durable

    -- What the rings keep, of sound media.
    ring_keeps_as_read : AreSound x → (m : ℕ) → m < 2 + x.further → KeepsAll (ring_of vault m).seconds (ring_of vault m).slots (x.placed m)
    ring_keeps_as_read sound m lt =
        let is = its m lt in
        let same = of_each (λ m. x.filled m ≡ is_filled (slots_on x.config disk.reads m) (x.placed m)) x.further o.holds.filled m lt in
        let k = keeps_all x m (slots_on x.config disk.reads m) same (of_each (LacksNothing x) x.further sound.kept m lt) in
        let slots = slots_there x.config disk.sizes m (ring_of vault m) (content disk.reads m) is (size_read disk m told) in
        subst (λ (p : ℕ × ℕ). KeepsAll p.0 p.1 (x.placed m)) (λ i. (sym is.seconds i, sym slots i)) k

    -- No batch is missing
    pub within_level : AtEachMoment disk disk (EndsWithin x)
    within_level = moments_none disk _ (λ i now. held_within x i o.meet (held_durable x disk all_durable o.holds i now))

    pub reconciled_level : AreSound x → GoesOnBehind x vault → missing ≡ [] → Reconciles x vault disk disk (Ok tt)
    reconciled_level sound behind none =
        let opened = level_opened x sound.regular (All-weaker (λ m. IsMedium m x.config x.text (x.placed m) (content disk.reads m)) (λ m. AreInOrder (x.placed m)) (λ m h. h.segments.order) (members_with x.further) o.holds.media) o.holds.there
        (none_missing x.further missing lacking (reading_of x) none o.missing) in
        record {
          moments = moments_none disk _ (λ i now. opened_shown x x.filled x.placed i opened sound (held_durable x disk all_durable o.holds i now));
          done = (
            x.placed,
            opened_stands x vault x.placed disk sound opened (record {
              working = working;
              config = o.config;
              table = o.table;
              count = o.count;
              version = λ i now. o.holds.further;
              read_version = λ t. o.holds.further;
              rings_are = are;
              reads = reads;
              fronts = λ _ k lt. (media k lt).front;
              incidents = λ _. o.holds.table;
              slots = o.holds.table.size;
              next = behind.place;
              last_is = behind.newest;
              keeps = ring_keeps_as_read sound;
            }),
          );
        }

    -- One is, and it was appended, or the append failed.
    module _ (some : missing ≢ []) (behind : (0 < lacking) × (lacking < length vault.rings)) (ranges : IsConfiguration vault.config) (fits : 64 + batch_size missing + 1 ≤ vault.config.segment) (pins : List Pin) (pins_are : pins ≡ pins_of vault.table)
        (after : List RingState) (new : Disk tells tells_images) (result : Result ⊤ Fault)
        (call : (ordered : Bool) (sizes : Sizes) (placed : ℕ → List Placed) (first : ℕ) (all : ℕ → List Record) → tells
        → ((k : ℕ) → lacking ≤ k → k < length vault.rings → Waits ordered sizes (ring_of vault k) (pins_at k pins) (placed k) first (all k) missing disk)
        → Passed ordered lacking vault.rings after pins placed first missing disk new result) where
      abbrev ring : ℕ → RingState
      ring = ring_of vault

      lacks : Lacks x missing lacking ring disk
      lacks = record {
        told = told;
        holds = o.holds;
        some = behind.0;
        within = let high = behind.1 in let count = o.count in omega (arith, high, count);
        passed = some_missing x.further missing lacking (reading_of x) some o.missing;
        durable = durable;
        is_its = its;
        reads = λ k lt. subst (λ (m : ℕ). HoldsPlaced (ring k).segment (ring k).slots (x.placed k) (content disk.reads m)) (its k lt).medium ((reads k lt).settled.reads told);
        ranges = subst IsConfiguration o.config ranges;
        fits = subst (λ (c : Configuration). 64 + batch_size missing + 1 ≤ c.segment) o.config fits;
      }

      below : (k : ℕ) → k < length vault.rings → k < 2 + x.further
      below k lt = let count = o.count in omega (arith, lt, count)

      waits : (k : ℕ) → lacking ≤ k → k < length vault.rings → Waits false (sizes_of x.config) (ring k) (pins_at k (pins_of x.table)) (x.placed k) (first_place missing) (all_records (x.placed k)) missing disk
      waits k low lt = record { reads = reads k (below k lt); goes_on = lacked_goes_on x missing lacking ring disk lacks k low (below k lt); may = λ told. absurd (true≢false (sym told)) }

      passed : Passed false lacking vault.rings after (pins_of x.table) x.placed (first_place missing) missing disk new result
      passed =
          let is : pins ≡ pins_of x.table = pins_are ∙ ap pins_of o.table in
          subst (λ (ps : List Pin). Passed false lacking vault.rings after ps x.placed (first_place missing) missing disk new result) is
          (call false (sizes_of x.config) x.placed (first_place missing) (λ k. all_records (x.placed k)) told
          (λ k low lt. subst (λ (ps : List Pin). Waits false (sizes_of x.config) (ring k) (pins_at k ps) (x.placed k) (first_place missing) (all_records (x.placed k)) missing disk) (sym is) (waits k low lt)))

      passing : AtEachMoment disk new (IsPassing x missing lacking ring disk lacks)
      passing = subst (λ (count : ℕ). AtEachMoment disk new (Passes (LacksIt x missing lacking ring disk lacks) (HasIt x missing lacking ring disk lacks) lacking count disk.now)) o.count passed.moments

      -- Whole batches stand on the media at every moment, sound or not.
      pub within_append :
          ((size count seconds : ℕ) (pins : List Pin) (placed : List Placed) (first : ℕ) (records : List Record) (stages : Stages) → AreStages size count seconds pins placed first records stages
          → MissOneAtMost stages.closed placed × (batches_in stages.begun ≡ batches_in stages.closed) × (batches_in stages.done ≡ batches_in stages.closed ++ records ∷ [])
          × (batches_in stages.left ≡ batches_in stages.done))
          → AtEachMoment disk new (EndsWithin x)
      within_append batches = moments_weaken disk new _ _ passing (appending_within x missing lacking ring disk lacks (λ k stages made. batches _ _ _ _ _ _ _ stages made))

      -- Where they are sound the vault stands then.
      module _ (sound : AreSound x) (goes_on : GoesOnBehind x vault) (size : length after ≡ length vault.rings) (untouched : (k : ℕ) → k < lacking → ring_at after k ≡ ring k) (rings_after : AreRingsOf vault.config new.sizes after)
          (fronts : tells → (k : ℕ) → SameFront (content disk.reads k) (content new.reads k)) (others : tells → (k : ℕ) → (k < lacking) ⊎ (length vault.rings ≤ k) → content new.reads k ≡ content disk.reads k) where
        -- The segments that medium k has with it.
        record HasNow (k : ℕ) (now : List Placed) : Type 0 where
          pub has : Having x missing lacking ring disk lacks sound k now
          pub reads : rings.Reads (ring_at after k) now new
          pub keeps : KeepsAll (ring_at after k).seconds (ring_at after k).slots now

        has_now : ((k : ℕ) → lacking ≤ k → k < length vault.rings → IsGiven (ring k) (ring_at after k) (pins_at k (pins_of x.table)) (x.placed k) (first_place missing) missing new)
            → (k : ℕ) → k < 2 + x.further → (now : List Placed) × HasNow k now
        has_now given k lt = elim (cases_lt k lacking) [
          | inl early ↦ (
            x.placed k,
            record {
              has = kept_has x missing lacking ring disk lacks sound k early;
              reads = subst (λ (r : RingState). rings.Reads r (x.placed k) new) (sym (untouched k early))
                  (reads_below lacking (length vault.rings) (ring k) (x.placed k) disk new (subst (λ (m : ℕ). m < lacking) (sym (its k lt).medium) early) passed.moments others (reads k lt));
              keeps = subst (λ (r : RingState). KeepsAll r.seconds r.slots (x.placed k)) (sym (untouched k early)) (ring_keeps_as_read sound k lt);
            },
          )
          | inr low ↦
              let g = given k low (inside k lt) in (
                g.stages.left,
                record {
                  has = done_has x missing lacking ring disk lacks sound k low lt g.stages g.are g.stages.left (inr refl) g.reads.order;
                  reads = g.reads;
                  keeps = keeps_after x.config k (ring k) (ring_at after k) g.stages.left disk new told (its k lt)
                      (subst (λ (c : Configuration). IsRingOf c new.sizes k (ring_at after k)) o.config (ring_is rings_after k (let there = inside k lt in omega (arith, there, size)))) (fronts told k)
                      (done_keeps x missing lacking ring disk lacks sound k low lt g.stages g.are g.stages.left (inr refl) g.reads.order);
                },
              )
        ]

        stands : (now : ℕ → List Placed) → ((k : ℕ) → k < 2 + x.further → HasNow k (now k)) → Stands (opening_of x) [] (record vault { rings = after }) now new
        stands now is =
            let opened = done_opened x missing lacking ring disk lacks sound now (λ k lt. (is k lt).has) in
            opened_stands x (record vault { rings = after }) now new sound opened (record {
              working = working;
              config = o.config;
              table = o.table;
              count = size ∙ o.count;
              version = λ i there. o.holds.further;
              read_version = λ t. o.holds.further;
              rings_are = rings_after;
              reads = λ k lt. (is k lt).reads;
              fronts = λ t k lt. front_stays (content disk.reads k) (content new.reads k) (fronts t k) k x.config x.text (media k lt).front;
              incidents = λ t. table_stays (content disk.reads 1) (content new.reads 1) (fronts t 1) x.config.incident_slots x.table lacks.ranges.slots_high o.holds.table;
              slots = o.holds.table.size;
              next = goes_on.place ∙ ap next_after (first_ends now is);
              last_is = goes_on.newest ∙ ap (option_map tick_utc) (first_ends now is);
              keeps = λ k lt. (is k lt).keeps;
            })
          where
            first_ends : (now : ℕ → List Placed) → ((k : ℕ) → k < 2 + x.further → HasNow k (now k)) → last (all_records (x.placed 0)) ≡ last (all_records (now 0))
            first_ends now is =
                (kept_has x missing lacking ring disk lacks sound 0 behind.0).retains.window.newest ∙ sym (is 0 (omega arith)).has.retains.window.newest

        pub reconciled_append : Reconciles x (record vault { rings = after }) disk new result
        reconciled_append = record {
          moments = moments_weaken disk new _ _ passing (appending_shown x missing lacking ring disk lacks sound);
          done = on_ok_weaker result
              (λ given. (chosen [] HasNow (2 + x.further) (has_now given), stands (chosen [] HasNow (2 + x.further) (has_now given)) (chosen_is [] HasNow (2 + x.further) (has_now given)))) passed.done;
        }
