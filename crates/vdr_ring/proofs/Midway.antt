-- A cursor goes from segment to segment until it finds a record.
use Rattle.std.proofs.Common.{◌≡◌, ◌<◌, ◌≤◌, ◌+◌, ◌-◌, ◌*◌, ◌^◌, ℕ, List, get_or, Option, Some, IfSome, sym, ap, ◌∙◌, subst, arith}
use Rattle.std.proofs.Common.{Bool, true, false, Result, Ok, Err, OnOk}
use Rattle.std.proofs.lemmas.Result.{on_ok_weaker}
use Rattle.vdr_terms.specs.Records.{Record}
use Rattle.vdr_terms.specs.Queries.{Query, Span}
use Rattle.vdr_outside.specs.declared.media.Media.{Ghosts as MediaTells}
use Rattle.vdr_outside.specs.Causes.{Rose}
use Rattle.vdr_outside.specs.Disk.{Disk, Image, content}
use Rattle.vdr_outside.proofs.Counts.{rose_after}
use Rattle.vdr_directory.specs.Sequence.{Placed}
use Rattle.vdr_ring.specs.Rings.{RingState, Reads}
use Rattle.vdr_ring.specs.Damage.{IsDamagedIn, IsIntact}
use Rattle.vdr_ring.specs.Meets.{AreApart, IsKnownToMeet}
use Rattle.vdr_ring.specs.Visits.{HasJudged, StandsAmong, VisitState, slot_read}
use Rattle.vdr_ring.specs.declared.refused.ReadRefused.{ReadRefused}
use Rattle.vdr_ring.specs.declared.refused.ReadRefused.TheVariants.{Fault, Damaged}
use Rattle.vdr_ring.proofs.Judging.{IsAmong as IsAmongRecords}
use Rattle.vdr_ring.specs.declared.cursor.Standing.{Standing}
use Rattle.vdr_ring.specs.Budgets.{Spends, budget}
use Rattle.vdr_ring.specs.Passing.{ArePassedIntact, IsReached, PassesOver, StandsToMeet}
use Rattle.vdr_ring.specs.Steps.{JudgesHere, KeepsStep, NamesDamage, TellsDamage}
use Rattle.vdr_ring.specs.Walks.{CursorState, Slots, AreLeft, AreLeftBehind, GivesHere, MayStep, GivesNext, CountsOn, HasRead}
use Rattle.vdr_ring.specs.Walks.{reached_in, segments_left, slots_read, steps_left}
use Rattle.vdr_ring.proofs.Passing.{holds_reached}
use Rattle.vdr_ring.proofs.CursorReading.{counts_join, read_join, same_slots}

-- Slots that read so have the visit between their records.
abbrev IsAmong : Slots → VisitState → Type 0
IsAmong slots visit = (slot : ℕ) → visit.slot ≡ Some slot → IsAmongRecords (slots slot) visit.position

-- A segment that is left outweighs all steps in one.
fewer : (a b r s : ℕ) → a < b → a * 2 ^ 24 + (2 ^ 24 - r) ≤ b * 2 ^ 24 + (2 ^ 24 - s)
fewer a b r s less = omega (arith, less)

-- no answer is a refusal as well
pub not_refused : (e : ReadRefused) → Ok false ≡ Err e → ⊥
not_refused e is = cc

-- nor is it both
pub found_or_none : ◌≡◌ {A = Result Bool ReadRefused} (Ok true) (Ok false) → ⊥
found_or_none is = cc

-- what holds on Ok holds where it is Ok
on_ok_at : {P : Type 0} {r : Result Bool ReadRefused} {found : Bool} → r ≡ Ok found → OnOk r P → P
on_ok_at {P} is h = subst (λ (r : Result Bool ReadRefused). OnOk r P) is h

-- What a step in one segment finds of these records, over slots that read so.
abbrev FindsHere : Query → Span → Slots → List Placed → List Record → CursorState → Result Bool ReadRefused → Type 0
FindsHere query span slots placed records new result =
    GivesHere records result new.visit.item (AreLeft slots placed query (Some span) new) (AreLeftBehind slots placed query (Some span) new)

-- What a step finds of them.
abbrev pub FindsNext : Query → Span → Slots → List Placed → List Record → CursorState → Result Bool ReadRefused → Type 0
FindsNext query span slots placed records new result = GivesNext records result new.visit.item (AreLeft slots placed query (Some span) new)

module _ {tells tells_images : Type 0} where
  -- A cursor stands in a segment that meets the query, by what the ring knew of it as well as by what it knows.
  module _ (query : Query) (span : Span) {initial after : RingState} {before later : Disk tells tells_images} (standing : Option Standing)
      (read : HasRead initial after before later) where
    pub meets_at_start : StandsToMeet query span after standing → StandsToMeet query span initial standing
    meets_at_start meets = subst (λ (r : RingState). StandsToMeet query span r standing) read.ring meets

    pub meets_at_end : StandsToMeet query span initial standing → StandsToMeet query span after standing
    meets_at_end meets = subst (λ (r : RingState). StandsToMeet query span r standing) (sym read.ring) meets

  -- What a step in one segment says of the records.
  abbrev pub StepsHere : Query → Span → RingState → Disk tells tells_images → (c new : CursorState) → Result Bool ReadRefused → Type 0
  StepsHere query span ring disk c new result = tells → (placed : List Placed) (records : List Record) → Reads ring placed disk
      → AreLeft (slots_read ring disk) placed query (Some span) c records → FindsHere query span (slots_read ring disk) placed records new result

module _ {M : Type 0} where
  -- Between two steps: what was left at the start is so still, and what was passed since is intact.
  pub record IsMidway (media : MediaTells M) (query : Query) (span : Span) (initial ring : RingState) (start c : CursorState) (before now : M) : Type 0 where
    pub read : HasRead initial ring (media.disk before) (media.disk now)
    pub counts : CountsOn initial.medium (media.bytes_read before) (media.bytes_read now) (media.faults before) (media.faults now)
    pub spent : get_or (media.bytes_read now) initial.medium 0 + budget ring query span c.standing
        ≤ get_or (media.bytes_read before) initial.medium 0 + budget initial query span start.standing
    pub may : MayStep ring c
    pub among : media.tells → HasJudged initial (media.disk before) → StandsAmong initial (media.disk before) start.visit
        → StandsAmong initial (media.disk before) c.visit
    pub meets : StandsToMeet query span initial start.standing → StandsToMeet query span initial c.standing
    pub passed : media.tells → HasJudged initial (media.disk before) → AreApart initial.directory.index → StandsToMeet query span initial start.standing
        → ArePassedIntact query span initial (media.disk before) start.standing → ArePassedIntact query span initial (media.disk before) c.standing
    pub onward : steps_left c ≤ steps_left start
    pub left : media.tells → (placed : List Placed) (records : List Record) → Reads initial placed (media.disk before)
        → AreLeft (slots_read initial (media.disk before)) placed query (Some span) start records
        → AreLeft (slots_read initial (media.disk before)) placed query (Some span) c records

  module _ {media : MediaTells M} {query : Query} {span : Span} {initial ring : RingState} {start c : CursorState} {before now : M}
      (midway : IsMidway media query span initial ring start c before now) where
    -- the ring is on the same medium
    on_medium : ring.medium ≡ initial.medium
    on_medium = ap (λ (r : RingState). r.medium) midway.read.ring

    -- each slot reads as at the start
    same_since : media.tells → slots_read ring (media.disk now) ≡ slots_read initial (media.disk before)
    same_since told = same_slots initial ring (media.disk before) (media.disk now) midway.read told

    -- a visit that stood between the records of its slot at the start still does
    among_now : (visit : VisitState) → media.tells → StandsAmong initial (media.disk before) visit → StandsAmong ring (media.disk now) visit
    among_now visit told stands = subst (λ (slots : Slots). IsAmong slots visit) (sym (same_since told)) stands

    -- a segment is entered behind a step that found none in the own one
    pub entered_onward : (behind new : CursorState) → behind.standing ≡ c.standing → segments_left new.standing < segments_left behind.standing
        → steps_left new ≤ steps_left start
    entered_onward behind new stands less =
        let same = ap segments_left stands in
        let lower : segments_left new.standing < segments_left c.standing = omega (arith, same, less) in
        let gone = fewer (segments_left new.standing) (segments_left c.standing) (reached_in new.standing new.visit) (reached_in c.standing c.visit) lower in
        let before_it = midway.onward in omega (arith, gone, before_it)

    -- A further step in the segment, as one from the start.
    module _ {after : RingState} {new : CursorState} {later : M} {result : Result Bool ReadRefused}
        (keeps : KeepsStep media query span ring after c new now later result) where
      -- what it counts
      counts_since : CountsOn initial.medium (media.bytes_read before) (media.bytes_read later) (media.faults before) (media.faults later)
      counts_since =
          counts_join initial.medium (media.bytes_read before) (media.bytes_read now) (media.bytes_read later)
          (media.faults before) (media.faults now) (media.faults later) midway.counts
          (subst (λ (m : ℕ). CountsOn m (media.bytes_read now) (media.bytes_read later) (media.faults now) (media.faults later)) on_medium keeps.counts)

      -- what it spends
      spends_since : Spends initial.medium (budget initial query span start.standing) (budget after query span new.standing)
          (media.bytes_read before) (media.bytes_read later) result
      spends_since =
          let had = budget ring query span c.standing in
          let has = budget after query span new.standing in
          let here = subst (λ (m : ℕ). Spends m had has (media.bytes_read now) (media.bytes_read later) result) on_medium keeps.spends in
          let spent = midway.spent in
          record {
            within = let a = here.within in omega (arith, a, spent);
            left = on_ok_weaker result (λ (a : get_or (media.bytes_read later) initial.medium 0 + budget after query span new.standing
                ≤ get_or (media.bytes_read now) initial.medium 0 + budget ring query span c.standing). omega (arith, a, spent)) here.left;
          }

      -- after Ok no more is left than was
      pub left_since : (found : Bool) → result ≡ Ok found → get_or (media.bytes_read later) initial.medium 0 + budget after query span new.standing
          ≤ get_or (media.bytes_read before) initial.medium 0 + budget initial query span start.standing
      left_since found is = on_ok_at is spends_since.left

      pub keeps_since : (out : Result Bool ReadRefused) → result ≡ out → KeepsStep media query span initial after start new before later out
      keeps_since out is =
          subst (λ (r : Result Bool ReadRefused). KeepsStep media query span initial after start new before later r) is
          (record {
            read = read_join initial ring after (media.disk before) (media.disk now) (media.disk later) midway.read keeps.read;
            counts = counts_since;
            spends = spends_since;
            may = keeps.may;
            item = keeps.item;
            onward = λ is. let a = keeps.onward is in let b = midway.onward in omega (arith, a, b);
            cause = λ is.
                rose_after (get_or (media.faults before) initial.medium 0) (get_or (media.faults now) initial.medium 0)
                (get_or (media.faults later) initial.medium 0) (midway.counts.later.none_falls initial.medium)
                (subst (λ (m : ℕ). Rose (get_or (media.faults now) m 0) (get_or (media.faults later) m 0)) on_medium (keeps.cause is));
          })

    -- What it says of damage, as one from the start.
    module _ {new : CursorState} {result : Result Bool ReadRefused} (judges : JudgesHere ring (media.disk now) c new result) where
      among_since : media.tells → HasJudged initial (media.disk before) → StandsAmong initial (media.disk before) start.visit
          → StandsAmong initial (media.disk before) new.visit
      among_since told judged stands =
          subst (λ (slots : Slots). IsAmong slots new.visit) (same_since told)
          (judges.among told (midway.read.judged judged) (among_now c.visit told (midway.among told judged stands)))

      pub meets_since : StandsToMeet query span initial start.standing → StandsToMeet query span initial new.standing
      meets_since meets = subst (StandsToMeet query span initial) (sym judges.standing) (midway.meets meets)

      passed_since : media.tells → HasJudged initial (media.disk before) → AreApart initial.directory.index
          → StandsToMeet query span initial start.standing → ArePassedIntact query span initial (media.disk before) start.standing
          → ArePassedIntact query span initial (media.disk before) new.standing
      passed_since told judged apart meets passed =
          subst (ArePassedIntact query span initial (media.disk before)) (sym judges.standing) (midway.passed told judged apart meets passed)

      named_since : (m offset : ℕ) → result ≡ Err (Damaged m offset) → media.tells → HasJudged initial (media.disk before)
          → StandsAmong initial (media.disk before) start.visit → NamesDamage initial (media.disk before) new offset
      named_since m offset is told judged stands =
          let named = judges.named m offset is told (midway.read.judged judged) (among_now c.visit told (midway.among told judged stands)) in
          let slot = named.segment.slot in
          let damaged =
          subst (λ (i : Image). IsDamagedIn ring.segment slot (content i ring.medium) offset) (midway.read.unchanged.reads told) named.damaged in
          record {
            segment = named.segment;
            stands = named.stands;
            within = subst (λ (r : RingState). slot < r.slots) midway.read.ring named.within;
            damaged = subst (λ (r : RingState). IsDamagedIn r.segment slot (content (media.disk before).reads r.medium) offset) midway.read.ring damaged;
          }

      -- a record was found, or the step was refused
      pub tells_since : (out : Result Bool ReadRefused) → result ≡ out → (out ≡ Ok false → ⊥)
          → TellsDamage query span initial (media.disk before) start new out
      tells_since out is other = record {
        among = among_since;
        meets = meets_since;
        passed = passed_since;
        whole = λ none. absurd (other none);
        medium = λ m offset refused. judges.medium m offset (is ∙ refused) ∙ on_medium;
        named = λ m offset refused. named_since m offset (is ∙ refused);
      }

      -- None was found, and the next segment that meets the query was looked for.
      module _ {after : RingState} {later : M} (read : HasRead initial after (media.disk before) (media.disk later)) {to : Option Standing} {entered : Bool}
          (none : result ≡ Ok false)
          (passes : AreApart after.directory.index → StandsToMeet query span after new.standing → PassesOver query span after new.standing to entered) where
        passes_since : AreApart initial.directory.index → StandsToMeet query span initial start.standing
            → PassesOver query span initial new.standing to entered
        passes_since apart meets =
            let apart_then = subst (λ (r : RingState). AreApart r.directory.index) (sym read.ring) apart in
            let p = subst (λ (r : RingState). PassesOver query span r new.standing to entered) read.ring
            (passes apart_then (meets_at_end query span new.standing read (meets_since meets))) in
            record { behind = p.behind; all = p.all }

        -- the own segment is intact
        own_intact : media.tells → HasJudged initial (media.disk before) → IfSome new.standing (λ s. IsIntact (slot_read initial s.slot (media.disk before)))
        own_intact told judged =
            let here = on_ok_at none judges.intact told (midway.read.judged judged) in
            subst (λ (o : Option Standing). IfSome o (λ s. IsIntact (slot_read initial s.slot (media.disk before)))) (sym judges.standing)
            (subst (λ (slots : Slots). IfSome c.standing (λ s. IsIntact (slots s.slot))) (same_since told) here)

        -- and so are all that the cursor has reached
        reached_intact : media.tells → HasJudged initial (media.disk before) → AreApart initial.directory.index
            → StandsToMeet query span initial start.standing → ArePassedIntact query span initial (media.disk before) start.standing
            → (slot seq : ℕ) → IsKnownToMeet query span initial.directory.index slot seq → IsReached new.standing slot seq
            → IsIntact (slot_read initial slot (media.disk before))
        reached_intact told judged apart meets passed slot seq known =
            holds_reached (λ n. IsIntact (slot_read initial n (media.disk before))) new.standing slot seq (own_intact told judged)
            (passed_since told judged apart meets passed slot seq known)

        -- all that are behind it then
        pub passed_then : media.tells → HasJudged initial (media.disk before) → AreApart initial.directory.index
            → StandsToMeet query span initial start.standing → ArePassedIntact query span initial (media.disk before) start.standing
            → ArePassedIntact query span initial (media.disk before) to
        passed_then told judged apart meets passed slot seq known is =
            reached_intact told judged apart meets passed slot seq known ((passes_since apart meets).behind slot seq known is)

        -- there is no next one
        pub tells_done : entered ≡ false → TellsDamage query span initial (media.disk before) start new (Ok false)
        tells_done last = record {
          among = among_since;
          meets = meets_since;
          passed = passed_since;
          whole = λ is told judged apart meets passed slot seq known.
              reached_intact told judged apart meets passed slot seq known ((passes_since apart meets).all last slot seq known);
          medium = λ m offset is. absurd (not_refused (Damaged m offset) is);
          named = λ m offset is. absurd (not_refused (Damaged m offset) is);
        }

    -- What it finds, as one from the start.
    module _ (new : CursorState) (result : Result Bool ReadRefused) (steps : StepsHere query span ring (media.disk now) c new result) (told : media.tells)
        (placed : List Placed) (records : List Record) (reads : Reads initial placed (media.disk before))
        (are_left : AreLeft (slots_read initial (media.disk before)) placed query (Some span) start records) where
      gives_since : (out : Result Bool ReadRefused) → result ≡ out → FindsHere query span (slots_read initial (media.disk before)) placed records new out
      gives_since out is =
          let same = same_since told in
          let left = subst (λ (slots : Slots). AreLeft slots placed query (Some span) c records) (sym same) (midway.left told placed records reads are_left) in
          subst (FindsHere query span (slots_read initial (media.disk before)) placed records new) is
          (subst (λ (slots : Slots). FindsHere query span slots placed records new result) same
          (steps told placed records (midway.read.reads placed reads) left))

      -- a record was found
      pub found_next : result ≡ Ok true → FindsNext query span (slots_read initial (media.disk before)) placed records new (Ok true)
      found_next is = gives_since (Ok true) is

      -- no record is ahead in the segment
      pub is_behind : result ≡ Ok false → AreLeftBehind (slots_read initial (media.disk before)) placed query (Some span) new records
      is_behind is = (gives_since (Ok false) is).1

      -- the step was refused
      pub refused_next : (e : ReadRefused) (out : Result Bool ReadRefused) → result ≡ Err e → out ≡ Err e
          → FindsNext query span (slots_read initial (media.disk before)) placed records new out
      refused_next e out is passed =
          subst (FindsNext query span (slots_read initial (media.disk before)) placed records new) (sym passed) (go e (gives_since (Err e) is))
        where
          go : (e : ReadRefused) → FindsHere query span (slots_read initial (media.disk before)) placed records new (Err e)
              → FindsNext query span (slots_read initial (media.disk before)) placed records new (Err e)
          go Fault h = h
          go (Damaged m offset) h = h
