-- Media that are brought up show what they showed, and the vault stands over them.
use Rattle.std.proofs.Common.{◌≡◌, inl, inr, ⊎_elim, ◌<◌, ◌≤◌, ℕ, List, None, refl, sym, ap, ◌∙◌, subst, arith, Result, ◌+◌, length, []}
use Rattle.std.specs.Prelude.{IfSome, ⊤}
use Rattle.std.proofs.lemmas.List.Elements.{All-weaker}
use Rattle.std.proofs.lemmas.Option.{IfSome_then}
use Rattle.std.proofs.lemmas.Result.{on_ok_weaker}
use Rattle.vdr_terms.specs.Needs.{cost}
use Rattle.vdr_terms.specs.Records.{Record, last}
use Rattle.vdr_core.specs.Histories.{Event, Opening, Settings, incidents, stamp_of}
use Rattle.vdr_durability.specs.Layout.{Batches}
use Rattle.vdr_durability.specs.Regular.{IsPaced}
use Rattle.vdr_durability.specs.Retention.{Retains}
use Rattle.vdr_durability.specs.Victims.{ArePinsOf}
use Rattle.vdr_durability.specs.Keeping.{Extends}
use Rattle.vdr_durability.specs.Readings.{AreLevel, next_after}
use Rattle.vdr_durability.specs.Shown.{given_with, pins_on}
use Rattle.vdr_durability.specs.Soundness.{IsUnbroken}
use Rattle.vdr_durability.specs.Media.{IsAppended}
use Rattle.vdr_outside.specs.declared.fault.Fault.{Fault}
use Rattle.vdr_outside.specs.Disk.{Disk, Image, content}
use Rattle.vdr_outside.specs.Moments.{AtEachMoment}
use Rattle.vdr_outside.proofs.Moments.{moments_join, moments_weaken, now_after, size_read}
use Rattle.vdr_config.specs.Sizes.{sizes_of, window_of}
use Rattle.vdr_segment.specs.Slots.{SameFront}
use Rattle.vdr_directory.specs.Sequence.{Placed, all_records, batches_in, segments_in}
use Rattle.vdr_directory.specs.Order.{AreInOrder}
use Rattle.vdr_directory.specs.Holds.{HoldsPlaced}
use Rattle.vdr_directory.specs.Lookup.{HoldAll}
use Rattle.vdr_directory.specs.Bringing.{AreAlike}
use Rattle.vdr_directory.proofs.Bringing.{alike_batches, alike_segments}
use Rattle.vdr_ring.specs.Rings.{RingState}
use Rattle.vdr_ring.specs.Rings as rings
use Rattle.vdr_ring.specs.Bringing.{HasBroughtUp}
use Rattle.vdr_ring.proofs.AlikeMedia.{alike_holds, alike_records}
use Rattle.vdr_media.proofs.Members.{of_all, of_each}
use Rattle.vdr_opening.specs.Media.{further_in}
use Rattle.vdr_opening.specs.Answers.{further_on, members_on}
use Rattle.vdr_vault.proofs.Members.{chosen, chosen_is}
use Rattle.vdr_opening.specs.Answers.{AreRingsOf, ring_at}
use Rattle.vdr_ring.specs.Whole.{is_filled}
use Rattle.vdr_ring.proofs.KeptPlaces.{kept_alike}
use Rattle.vdr_opening.specs.Media.{AreThere, Contents, IsMedium, members_with, slots_on}
use Rattle.vdr_vault.specs.Bringing.{AllStayAlike}
use Rattle.vdr_vault.specs.Calls.{Commits, MayCommit}
use Rattle.vdr_vault.specs.Vaults.{HoldsHistory, ShowsHistory, Stands, VaultState, contents_of, reading_with, ring_of}
use Rattle.vdr_vault.proofs.Kept.{filled_there, keeps_after}
use Rattle.vdr_vault.proofs.CommitImages.{legible_with}
use Rattle.vdr_vault.proofs.Members.{ring_is}
use Rattle.vdr_vault.proofs.ShownHistory.{sound_alone}
use Rattle.vdr_vault.proofs.ShownImages.{front_stays, shown_level, table_stays}
use Rattle.vdr_vault.proofs.Sounding.{IsSoundAlone, sound_level}
use Rattle.vdr_ring.proofs.Exact.{alike_regular}

module _ {tells tells_images : Type 0} (opening : Opening) (events : List Event) (vault : VaultState) (placed : ℕ → List Placed) (old : Disk tells tells_images) (stands : Stands opening events vault placed old) where
  abbrev n : ℕ
  n = further_on vault.rings

  history : (m : ℕ) → m < 2 + n → HoldsHistory opening events vault.config m (ring_of vault m) (placed m) old
  history = of_each (λ m. HoldsHistory opening events vault.config m (ring_of vault m) (placed m) old) n stands.media

  rings_after : (after : List RingState) → length after ≡ length vault.rings → n ≡ further_on after
  rings_after after size = omega (arith, size)

  pub rings_read : (m : ℕ) → m < 2 + n → rings.Reads (ring_of vault m) (placed m) old
  rings_read m lt = (history m lt).reads

  module _ (told : tells) (few : vault.config.incident_slots ≤ 32) where
    -- Other segments that are alike.
    module _ (now : ℕ → List Placed) (alike : (m : ℕ) → m < 2 + n → AreAlike (placed m) (now m)) where
      same_records : (m : ℕ) → m < 2 + n → all_records (placed m) ≡ all_records (now m)
      same_records m lt = sym (alike_records (placed m) (now m) (alike m lt))

      same_end : (m : ℕ) → m < 2 + n → last (batches_in (now m)) ≡ last (batches_in (placed m))
      same_end m lt = ap last (alike_batches (placed m) (now m) (alike m lt))

      level : AreLevel (members_with n) (reading_with opening.settings.text now vault.table)
      level = of_all (λ m. last (batches_in (now m)) ≡ last (batches_in (now 0))) n
          (λ k lt. same_end k lt ∙ of_each (λ m. last (batches_in (placed m)) ≡ last (batches_in (placed 0))) n stands.level k lt ∙ sym (same_end 0 (omega arith)))

      there : AreThere vault.table (now 1)
      there = All-weaker (λ slot. IfSome slot (λ incident. HoldAll incident.a incident.b (placed 1))) (λ slot. IfSome slot (λ incident. HoldAll incident.a incident.b (now 1)))
          (λ slot h. IfSome_then slot h (λ incident. alike_holds (placed 1) (now 1) (alike 1 (omega arith)) incident.a incident.b)) vault.table stands.there

      retained : (m : ℕ) → m < 2 + n → Retains (opening.settings.seconds m) (pins_on m (incidents opening events)) (given_with opening events m) (all_records (now m))
      retained m lt = subst (Retains (opening.settings.seconds m) (pins_on m (incidents opening events)) (given_with opening events m)) (same_records m lt) (history m lt).retains

      sound : (m : ℕ) → m < 2 + n → IsSoundAlone vault.config m (ring_of vault m).slots (now m) vault.table (all_records (now m))
      sound m lt =
          let was = sound_alone opening events vault.config m (ring_of vault m) (placed m) vault.table old (history m lt) (ap (λ (s : Settings). s.seconds m) stands.settings) stands.incidents_are in
          record {
            regular = alike_regular _ _ _ (placed m) (now m) (alike m lt) was.regular;
            pins = subst (λ (rs : List Record). ArePinsOf (sizes_of vault.config) m rs (pins_on m vault.table)) (same_records m lt) was.pins;
            unbroken = subst (IsUnbroken (window_of vault.config m)) (same_records m lt) was.unbroken;
            keeps = kept_alike _ _ (placed m) (now m) (alike m lt) was.keeps;
          }

      -- An image that holds them shows the events.
      shows : (i : Image) → n ≡ further_in i → ((m : ℕ) → m < 2 + n → HoldsPlaced (ring_of vault m).segment (ring_of vault m).slots (now m) (content i m) × AreInOrder (now m) × SameFront (content old.reads m) (content i m)) → ShowsHistory opening events i
      shows i version holds =
          let x : Contents = contents_of opening vault now vault.table in
          shown_level opening events x i (record {
            further = version;
            media = of_all (λ m. IsMedium m vault.config opening.settings.text (now m) (content i m)) n
                (λ m lt. legible_with opening events vault.config m (ring_of vault m) (placed m) old (history m lt) told (now m) (content i m) (holds m lt).2 (holds m lt).0 (holds m lt).1);
            table = table_stays (content old.reads 1) (content i 1) (holds 1 (omega arith)).2 vault.config.incident_slots vault.table few (stands.table told);
            there = there;
            filled = of_all (λ m. is_filled (ring_of vault m).slots (now m) ≡ is_filled (slots_on vault.config i m) (now m)) n
                (λ m lt. filled_there vault.config old.sizes m (ring_of vault m) (now m) (content i m) (history m lt).is_its ((holds m lt).2.size ∙ size_read old m told));
          })
          (sound_level x (λ m. (ring_of vault m).slots) (of_all (λ m. is_filled (ring_of vault m).slots (now m) ≡ is_filled (ring_of vault m).slots (now m)) n (λ m lt. refl)) level (of_all (λ m. AreInOrder (now m)) n (λ m lt. (holds m lt).1)) sound)
          refl stands.incidents_are level (of_all (λ m. Retains (opening.settings.seconds m) (pins_on m (incidents opening events)) (given_with opening events m) (all_records (now m))) n retained)

      -- A vault whose rings read them stands.
      stands_alike : (after : List RingState) (new : Disk tells tells_images) → AreRingsOf vault.config new.sizes after → length after ≡ length vault.rings → ((i : Image) → new.now i → n ≡ further_in i) → ((m : ℕ) → SameFront (content old.reads m) (content new.reads m))
          → ((m : ℕ) → m < 2 + n → rings.Reads (ring_at after m) (now m) new) → Stands opening events (record vault { rings = after }) now new
      stands_alike after new are size version fronts reads = record {
        settings = stands.settings;
        working = stands.working;
        media = of_all (λ m. HoldsHistory opening events vault.config m (ring_at after m) (now m) new) (further_on after) (λ m inside.
            let lt : m < 2 + n = omega (arith, inside, size) in
            let was = history m lt in
            record {
              is_its = ring_is are m (let both = are.two in omega (arith, inside, both));
              reads = reads m lt;
              front = λ _. front_stays (content old.reads m) (content new.reads m) (fronts m) m vault.config opening.settings.text (was.front told);
              regular = (sound m lt).regular;
              order = was.order;
              retains = retained m lt;
              pins = subst (λ (rs : List Record). ArePinsOf (sizes_of vault.config) m rs (pins_on m (incidents opening events))) (same_records m lt) was.pins;
              unbroken = was.unbroken;
              keeps = keeps_after vault.config m (ring_of vault m) (ring_at after m) (now m) old new told was.is_its (ring_is are m (let both = are.two in omega (arith, inside, both))) (fronts m) (kept_alike _ _ (placed m) (now m) (alike m lt) was.keeps);
            });
        level = subst (λ (k : ℕ). AreLevel (members_with k) (reading_with opening.settings.text now vault.table)) (rings_after after size) level;
        incidents_are = stands.incidents_are;
        slots = stands.slots;
        version = λ i there. sym (rings_after after size) ∙ version i there;
        read_version = λ told. sym (rings_after after size) ∙ stands.read_version told;
        table = λ _. table_stays (content old.reads 1) (content new.reads 1) (fronts 1) vault.config.incident_slots vault.table few (stands.table told);
        there = there;
        goes_on = stands.goes_on;
        newest = stands.newest;
        place = stands.place ∙ ap (λ (rs : List Record). next_after (last rs)) (same_records 0 (omega arith));
        stamp = stands.stamp ∙ ap (λ (rs : List Record). stamp_of (last rs) None) (same_records 0 (omega arith));
      }

    -- While all media are brought up the events are shown.
    module _ (two : 2 ≤ length vault.rings) (mid : Disk tells tells_images) (moments : AtEachMoment old mid (AllStayAlike vault.rings placed old.reads old.now)) where
      -- Segments of medium m that are alike, in an image.
      record AlikeIn (i : Image) (m : ℕ) (ps : List Placed) : Type 0 where
        pub alike : AreAlike (placed m) ps
        pub holds : HoldsPlaced (ring_of vault m).segment (ring_of vault m).slots ps (content i m)
        pub order : AreInOrder ps
        pub front : SameFront (content old.reads m) (content i m)

      alike_in : (i : Image) → AllStayAlike vault.rings placed old.reads old.now i → (m : ℕ) → m < 2 + n → (ps : List Placed) × AlikeIn i m ps
      alike_in i stay m lt = let at = stay.each m (omega (arith, lt, two)) in (at.0.now, record { alike = at.0.alike; holds = at.0.holds; order = at.0.order; front = at.1 })

      brought_shows : AtEachMoment old mid (ShowsHistory opening events)
      brought_shows = moments_weaken old mid _ _ moments (λ i stay.
          let are = chosen_is [] (AlikeIn i) (2 + n) (alike_in i stay) in
          shows (chosen [] (AlikeIn i) (2 + n) (alike_in i stay)) (λ m lt. (are m lt).alike) i (stands.version stay.image stay.was) (λ m lt. ((are m lt).holds, (are m lt).order, (are m lt).front)))

      pub brought_extends : (e : Event) → Extends (ShowsHistory opening) events e old mid
      brought_extends e = moments_weaken old mid _ _ brought_shows (λ i s. inr (inl s))

      version_mid : (i : Image) → mid.now i → n ≡ further_in i
      version_mid i there = let stay = now_after old mid _ moments i there in stands.version stay.image stay.was

      -- Segments of medium m that are alike, which its ring reads.
      record AlikeOn (after : List RingState) (m : ℕ) (ps : List Placed) : Type 0 where
        pub alike : AreAlike (placed m) ps
        pub reads : rings.Reads (ring_at after m) ps mid

      -- What is committed behind that is committed to the media of before.
      pub committed_behind : (after : List RingState) → AreRingsOf vault.config mid.sizes after → length after ≡ length vault.rings → ((m : ℕ) → SameFront (content old.reads m) (content mid.reads m))
          → ((m : ℕ) → m < length vault.rings → HasBroughtUp (placed m) (ring_of vault m) (ring_at after m) mid)
          → (e : Event) (records : List Record) (behind : VaultState) (new : Disk tells tells_images) (result : Result ⊤ Fault) → length behind.rings ≡ length vault.rings → MayCommit (members_on vault.rings) opening events vault.config placed records
          → ((now : ℕ → List Placed) → Stands opening events (record vault { rings = after }) now mid → MayCommit (members_on after) opening events vault.config now records → Commits opening events e records now behind mid new result)
          → Commits opening events e records placed behind old new result
      committed_behind after are size fronts brought e records behind new result size_behind may call =
          let found : (m : ℕ) → m < 2 + n → (ps : List Placed) × AlikeOn after m ps = λ m lt. let at = brought m (omega (arith, lt, two)) in (at.now, record { alike = at.alike; reads = at.reads }) in
          let now = chosen [] (AlikeOn after) (2 + n) found in
          let is = chosen_is [] (AlikeOn after) (2 + n) found in
          let alike : (m : ℕ) → m < 2 + n → AreAlike (placed m) (now m) = λ m lt. (is m lt).alike in
          let made = call now (stands_alike now alike after mid are size version_mid fronts (λ m lt. (is m lt).reads)) (record {
            places = may.places;
            paced = of_all (λ m. IsPaced (cost (sizes_of vault.config)) vault.config.batch (segments_in (now m)) records) (further_on after) (λ m inside.
                let lt : m < 2 + n = omega (arith, inside, size) in
                subst (λ (s : List Batches). IsPaced (cost (sizes_of vault.config)) vault.config.batch s records) (sym (alike_segments (placed m) (now m) (alike m lt)))
                (of_each (λ m. IsPaced (cost (sizes_of vault.config)) vault.config.batch (segments_in (placed m)) records) n may.paced m lt));
          }) in
          record {
            moments = moments_join old mid new _ (brought_extends e) (moments_weaken mid new _ _ made.moments (λ i s. ⊎_elim (λ was. inr (inl (now_after old mid _ brought_shows i was))) (λ s. inr s) s));
            done = on_ok_weaker result (λ done. (
              done.0,
              done.1,
              of_all (λ m. IsAppended (segments_in (placed m)) records (segments_in (done.0 m))) (further_on behind.rings) (λ m inside.
                  subst (λ (s : List Batches). IsAppended s records (segments_in (done.0 m))) (alike_segments (placed m) (now m) (alike m (omega (arith, inside, size_behind))))
                  (of_each (λ m. IsAppended (segments_in (now m)) records (segments_in (done.0 m))) (further_on behind.rings) done.2 m inside)),
            )) made.done;
          }
