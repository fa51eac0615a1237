-- What a command that reads records out says of damage, from what opening and one read of the recorder ensure.
use Rattle.std.specs.Prelude.{Contains}
use Rattle.std.proofs.Common.{◌≡◌, ◌<◌, ◌+◌, ℕ, List, Option, Some, None, sym, ap, subst, ◌∙◌, arith}
use Rattle.vdr_terms.specs.Queries.{Query, Span}
use Rattle.vdr_core.specs.Histories as histories
use Rattle.vdr_outside.specs.Disk.{Disk, Image, Unchanged, content}
use Rattle.vdr_config.specs.Configuration.{Configuration}
use Rattle.vdr_entry.specs.Queries.{asked_medium}
use Rattle.vdr_entry.specs.declared.query.Medium.{Medium}
use Rattle.vdr_entry.specs.declared.query.Medium.TheVariants.{Capsule, LongTerm, Incident}
use Rattle.vdr_durability.specs.Playback.{medium_of}
use Rattle.vdr_index.specs.declared.known.Known.{Known}
use Rattle.vdr_directory.specs.Knowns.{AreInOrderBy}
use Rattle.vdr_directory.specs.Opening.{slot_bytes}
use Rattle.vdr_directory.specs.Sequence.{Placed, seq_of}
use Rattle.vdr_directory.specs.Telling.{TellsBy}
use Rattle.vdr_ring.specs.Damage.{IsDamagedIn, IsIntact}
use Rattle.vdr_ring.specs.Openings.{IsRingOf}
use Rattle.vdr_ring.specs.Rings.{RingState}
use Rattle.vdr_media.proofs.Members.{of_each}
use Rattle.vdr_opening.specs.Answers.{further_on}
use Rattle.vdr_opening.specs.Media.{Contents, HoldsParts, IsMediumBy}
use Rattle.vdr_vault.specs.Openings.{IsLeftAsRead, IsToldBy, TellsOfParts}
use Rattle.vdr_vault.specs.Plays.{IsKnownToMeetIn, KnowsToMeet, MeetsFor, MeetsWithin, TellsDamageOf, ring_for, span_among, span_by}
use Rattle.vdr_vault.specs.Vaults.{AreJudged, AreRings, IsDamagedOn, VaultState, ring_of}
use Rattle.vdr_vault.proofs.Stepping.{damaged_still}
use Rattle.vdr_readout.specs.Reads.{AreIntactAsked, AskedPlay, IsMetDamage, MeetsAsked, number_asked, query_of}

-- The medium that is asked for is one of the two.
asked_two : (medium : Medium) → medium_of (asked_medium medium) < 2
asked_two Capsule = omega arith
asked_two LongTerm = omega arith
asked_two (Incident id) = omega arith

-- A ring knows one number of the segment in a slot.
one_number : (query : Query) (span : Option Span) (ring : RingState) (slot a b : ℕ) → IsKnownToMeetIn query span ring slot a → IsKnownToMeetIn query span ring slot b → a ≡ b
one_number query None ring slot a b first second = absurd first
one_number query (Some span) ring slot a b first second =
    let both : Some (Some first.known) ≡ Some (Some second.known) = sym first.there ∙ second.there in
    let same : first.known ≡ second.known = cc in sym first.number ∙ ap (λ (k : Known). k.seq) same ∙ second.number

module _ {tells tells_images : Type 0} where
  -- What is said of damage by what opening read: where it is named, and that none is passed over once the work is done.
  pub record IsTold (asked : AskedPlay) (old new : Disk tells tells_images) (vault : VaultState) (Names : (m offset : ℕ) → Type 0) (done : Type 0) : Type 0 where
    pub met : (m offset : ℕ) → Names m offset → tells → (x : Contents) → HoldsParts old.reads x → IsToldBy x vault → IsMetDamage asked x new m offset
    pub whole : done → tells → (x : Contents) → HoldsParts old.reads x → IsToldBy x vault → AreIntactAsked asked x new

  -- The query is that of what is asked for, and the media were read alone since they were opened.
  module _ (asked : AskedPlay) (old mid new : Disk tells tells_images) (vault : VaultState) (query : Query) (Names : (m offset : ℕ) → Type 0) (done : Type 0)
      (is : query ≡ query_of vault.config asked.medium asked.channel asked.from asked.to)
      (known : (x : Contents) → tells → HoldsParts old.reads x → TellsOfParts x vault)
      (judged : tells → AreJudged vault mid)
      (rings : AreRings vault mid.sizes)
      (law : (query : Query) (vault : VaultState) (known : ℕ → List Placed) → TellsBy (ring_for vault query).slots (known (medium_of query.medium)) (ring_for vault query).directory
      → AreInOrderBy (known (medium_of query.medium)) → KnowsToMeet query vault known)
      (unchanged : Unchanged mid new)
      (damage : TellsDamageOf query vault mid Names done) where
    abbrev m : ℕ
    m = number_asked asked

    its : IsRingOf vault.config mid.sizes m (ring_of vault m)
    its = of_each (λ k. IsRingOf vault.config mid.sizes k (ring_of vault k)) (further_on vault.rings) rings.each m (let two = asked_two asked.medium in omega (arith, two))

    module _ (t : tells) (x : Contents) (holds : HoldsParts old.reads x) (told : IsToldBy x vault) where
      abbrev wanted : Query
      wanted = query_of x.config asked.medium asked.channel asked.from asked.to

      wanted_is : query ≡ wanted
      wanted_is = is ∙ ap (λ (c : Configuration). query_of c asked.medium asked.channel asked.from asked.to) told.config

      tells_so : TellsDamageOf wanted vault mid Names done
      tells_so = subst (λ (q : Query). TellsDamageOf q vault mid Names done) wanted_is damage

      span_is : span_among vault.config vault.table x.placed wanted.medium ≡ span_among x.config x.table x.placed wanted.medium
      span_is =
          ap (λ (c : Configuration). span_among c vault.table x.placed wanted.medium) told.config
          ∙ ap (λ (table : List (Option histories.Incident)). span_among x.config table x.placed wanted.medium) told.table

      segment_is : (ring_of vault m).segment ≡ x.config.segment
      segment_is = its.segment ∙ ap (λ (c : Configuration). c.segment) told.config

      -- what the slots read as at the exit
      content_is : content mid.reads (ring_of vault m).medium ≡ content new.reads m
      content_is = ap (λ (k : ℕ). content mid.reads k) its.medium ∙ ap (λ (i : Image). content i m) (sym (unchanged.reads t))

      inside : m < 2 + x.further
      inside = let two = asked_two asked.medium in omega (arith, two)

      knows : IsLeftAsRead x m → KnowsToMeet wanted vault x.placed
      knows left =
          law wanted vault x.placed (of_each (λ k. IsLeftAsRead x k → TellsBy (ring_of vault k).slots (x.placed k) (ring_of vault k).directory) x.further (known x t holds) m inside left)
          (of_each (λ k. IsMediumBy k x.config x.text (x.placed k) (content old.reads k)) x.further holds.media m inside).segments.order

      meets_asked : (p : Placed) → Contains (x.placed m) p → MeetsWithin wanted (span_among vault.config vault.table x.placed wanted.medium) p → MeetsAsked asked x p
      meets_asked p there meets = record { there = there; meets = subst (λ (span : Option Span). MeetsWithin wanted span p) span_is meets }

      known_here : KnowsToMeet wanted vault x.placed → (p : Placed) → MeetsAsked asked x p → MeetsFor wanted vault p.slot (seq_of p)
      known_here by p meets = by.of_part p meets.there (subst (λ (span : Option Span). MeetsWithin wanted span p) (sym span_is) meets.meets)

      intact_here : (slot : ℕ) → IsIntact (slot_bytes (ring_of vault m).segment slot (content mid.reads (ring_of vault m).medium)) → IsIntact (slot_bytes x.config.segment slot (content new.reads m))
      intact_here slot seen =
          subst (λ (bytes : List ℕ). IsIntact (slot_bytes x.config.segment slot bytes)) content_is
          (subst (λ (segment : ℕ). IsIntact (slot_bytes segment slot (content mid.reads (ring_of vault m).medium))) segment_is seen)

      met_here : (k offset : ℕ) → Names k offset → IsMetDamage asked x new k offset
      met_here k offset named = record {
        medium = tells_so.medium k offset named;
        damaged = subst (λ (c : Configuration). IsDamagedOn c new k offset) told.config
            (damaged_still vault.config mid new unchanged.sizes (unchanged.reads t) k offset (tells_so.damaged k offset named t (judged t)));
        met = λ left.
            let at = tells_so.met k offset named t (judged t) in
            let on = tells_so.medium k offset named in
            let by = knows (subst (λ (j : ℕ). IsLeftAsRead x j) on left) in
            let part = by.is_part at.slot at.seq at.meets in
            let p = part.0 in
            let number = one_number wanted (span_by vault wanted.medium) (ring_of vault m) at.slot (seq_of p) at.seq
            (subst (λ (slot : ℕ). MeetsFor wanted vault slot (seq_of p)) part.2 (by.of_part p part.1 part.3)) at.meets in (
              p,
              record {
                meets = meets_asked p part.1 part.3;
                damaged = subst (λ (bytes : List ℕ). IsDamagedIn x.config.segment p.slot bytes offset) (content_is ∙ ap (λ (j : ℕ). content new.reads j) (sym on))
                    (subst (λ (slot : ℕ). IsDamagedIn x.config.segment slot (content mid.reads (ring_of vault m).medium) offset) (sym part.2)
                    (subst (λ (segment : ℕ). IsDamagedIn segment at.slot (content mid.reads (ring_of vault m).medium) offset) segment_is at.damaged));
                first = λ q meets less.
                    subst (λ (j : ℕ). IsIntact (slot_bytes x.config.segment q.slot (content new.reads j))) (sym on)
                    (intact_here q.slot (at.first by.apart q.slot (seq_of q) (known_here by q meets) (subst (λ (n : ℕ). seq_of q < n) number less)));
              },
            );
      }

      whole_here : done → AreIntactAsked asked x new
      whole_here ended left p meets = let by = knows left in intact_here p.slot (tells_so.whole ended t (judged t) by.apart p.slot (seq_of p) (known_here by p meets))

    pub told_so : IsTold asked old new vault Names done
    told_so = record {
      met = λ k offset named t x holds told. met_here t x holds told k offset named;
      whole = λ ended t x holds told. whole_here t x holds told ended;
    }
