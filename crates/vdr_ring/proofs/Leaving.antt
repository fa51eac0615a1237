-- A medium at every moment until the segment that a batch leaves behind has its summary.
use Rattle.std.proofs.Common.{◌≡◌, ◌≢◌, ◌⊎◌, ℕ, List, [], ◌∷◌, ◌++◌, slice_get, Option, Some, None, Result, OnOk, inl, inr, ⊎_elim, refl, sym, ap, ◌∙◌, subst, append_assoc}
use Rattle.std.proofs.lemmas.Option.{none-some, same_Some}
use Rattle.std.proofs.lemmas.Result.{on_ok_weaker}
use Rattle.std.proofs.lemmas.List.{same_from_push}
use Rattle.vdr_terms.specs.Records.{Record, last}
use Rattle.vdr_terms.proofs.Somewhere.{any_left, any_right}
use Rattle.vdr_entry.specs.declared.summary.Summary.{Summary}
use Rattle.vdr_outside.specs.Disk.{Disk}
use Rattle.vdr_outside.specs.Moments.{ChangesOnly, Settled}
use Rattle.vdr_outside.proofs.Moments.{changes_weaken, changes_join}
use Rattle.vdr_segment.specs.Segments.{Segment}
use Rattle.vdr_segment.specs.Slots.{HoldsSlots, HoldsEither, slots_with_summary}
use Rattle.vdr_durability.specs.Retention.{Pin}
use Rattle.vdr_durability.proofs.Lists.{last_contained}
use Rattle.vdr_directory.specs.Sequence.{Placed}
use Rattle.vdr_directory.specs.Directories.{DirectoryState}
use Rattle.vdr_directory.specs.Holds.{HoldsPlaced, HoldsAny, Tells}
use Rattle.vdr_directory.specs.Growing.{with_batch_in}
use Rattle.vdr_directory.specs.Leaving.{IsLeftBehind, LeavesNone, summarized}
use Rattle.vdr_directory.proofs.Runs.{ends_with, nil_from_last}
use Rattle.vdr_directory.proofs.Ordering.{newest_in_place}
use Rattle.vdr_directory.proofs.Behind.{exact_known, tells_left, which_left}
use Rattle.vdr_ring.specs.Rings.{RingState, IsSameRing, Reads}
use Rattle.vdr_ring.specs.Stages.{Stages, BeginsAnew, IsWritten, IsLeft}
use Rattle.vdr_ring.proofs.Staging.{Finds, leaves_closed, newest_before, left_in_its_order}
use Rattle.vdr_ring.proofs.Beginning.{next_segment}
use Rattle.vdr_ring.proofs.Summarizing.{summarized_moments, summarized_settled}

-- The same stages, but for the last.
abbrev pub leaving : Stages → List Placed → Stages
leaving stages left = record { closed = stages.closed; begun = stages.begun; done = stages.done; left = left }

-- What a segment that is left behind comes to.
abbrev pub left_by : (stages : Stages) (records : List Record) (slot : ℕ) (s : Summary) → IsLeftBehind stages.begun slot s → List Placed
left_by stages records slot s b = b.older ++ summarized b.left s ∷ with_batch_in b.newest records ∷ []

module _ (size count seconds : ℕ) (pins : List Pin) (placed : List Placed) (first : ℕ) (records : List Record) (stages : Stages) where
  pub still_written : (left : List Placed) → IsWritten size count seconds pins placed first records stages → IsWritten size count seconds pins placed first records (leaving stages left)
  still_written left (inl g) = inl (record { older = g.older; newest = g.newest; split = g.split; bare = g.bare; room = g.room; closed = g.closed; begun = g.begun; done = g.done })
  still_written left (inr b) = inr (record { no_room = b.no_room; slot = b.slot; place = b.place; begun = b.begun; done = b.done })

  -- the segment into which the batch goes
  record Grows : Type 0 where
    older : List Placed
    newest : Placed
    begun : stages.begun ≡ older ++ newest ∷ []
    done : stages.done ≡ older ++ with_batch_in newest records ∷ []

  grows : IsWritten size count seconds pins placed first records stages → Grows
  grows (inl g) = record { older = g.older; newest = g.newest; begun = g.begun ∙ g.split; done = g.done }
  grows (inr b) = record { older = stages.closed; newest = _; begun = b.begun; done = b.done }

  module _ (w : IsWritten size count seconds pins placed first records stages) (slot : ℕ) (s : Summary) (b : IsLeftBehind stages.begun slot s) where
    pub done_behind : stages.done ≡ b.older ++ b.left ∷ with_batch_in b.newest records ∷ []
    done_behind =
        let g = grows w in
        let same = same_from_push g.older (b.older ++ b.left ∷ []) g.newest b.newest (sym g.begun ∙ b.split ∙ sym (append_assoc b.older (b.left ∷ []) (b.newest ∷ []))) in
        g.done ∙ (λ i. (same.0 i) ++ with_batch_in (same.1 i) records ∷ []) ∙ append_assoc b.older (b.left ∷ []) (with_batch_in b.newest records ∷ [])

    pub leaves : IsLeft records (leaving stages (left_by stages records slot s b))
    leaves = inr (record { slot = slot; summary = s; behind = b; done = done_behind; left = refl })

  -- what the last stage is, whatever becomes of the call
  module _ (slots : List (Option Segment)) (t : DirectoryState) (finds : Finds size count seconds slots placed first records) (tells : Tells count placed t) where
    behind_new : (b : BeginsAnew size count seconds pins placed first records stages) → LeavesNone stages.begun ⊎ ((slot : ℕ) × (s : Summary) × IsLeftBehind stages.begun slot s)
    behind_new b = go (last stages.closed) refl
      where
        go : (o : Option Placed) → last stages.closed ≡ o → LeavesNone stages.begun ⊎ ((slot : ℕ) × (s : Summary) × IsLeftBehind stages.begun slot s)
        go None e =
            let new = next_segment placed b.slot first in
            let alone : stages.begun ≡ new ∷ [] = b.begun ∙ ap (λ (ps : List Placed). ps ++ new ∷ []) (nil_from_last stages.closed e) in
            inl (λ p f _. alone ∙ ap (λ (x : Placed). x ∷ []) (same_Some new p (sym (ap last alone) ∙ f)))
        go (Some q) e =
            let new = next_segment placed b.slot first in
            let w = ends_with stages.closed q e in
            let is : last placed ≡ Some q = sym (leaves_closed size count seconds pins slots placed first records stages finds b).newest ∙ e in
            let none = (newest_in_place placed q finds.order is).1.precedes in
            let exact = exact_known count placed t tells q (last_contained placed q is) (newest_before size count seconds pins slots placed first records stages finds b q is) none in
            inr (
              q.slot,
              exact.0,
              record {
                older = w.older;
                left = q;
                newest = new;
                split = b.begun ∙ ap (λ (ps : List Placed). ps ++ new ∷ []) w.split ∙ append_assoc w.older (q ∷ []) (new ∷ []);
                empty = refl;
                at = refl;
                none = none;
                exact = exact.1;
              },
            )

    behind : IsWritten size count seconds pins placed first records stages → LeavesNone stages.begun ⊎ ((slot : ℕ) × (s : Summary) × IsLeftBehind stages.begun slot s)
    behind (inl g) = subst (λ (ps : List Placed). LeavesNone ps ⊎ ((slot : ℕ) × (s : Summary) × IsLeftBehind ps slot s)) (sym g.begun) (which_left count placed t tells (λ two. finds.order))
    behind (inr b) = behind_new b

    pub left_any : IsWritten size count seconds pins placed first records stages → (left : List Placed) × IsLeft records (leaving stages left)
    left_any w =
        ⊎_elim
        (λ (none : LeavesNone stages.begun). let r : (left : List Placed) × IsLeft records (leaving stages left) = (stages.done, inl (none, refl)) in r)
        (λ (k : (slot : ℕ) × (s : Summary) × IsLeftBehind stages.begun slot s). (left_by stages records k.0 k.1 k.2, leaves w k.0 k.1 k.2))
        (behind w)

-- Nothing is left behind, or until it is written.
module _ {tells tells_images : Type 0} (m segment count : ℕ) (placed : List Placed) (stages : Stages) (left : List Placed) (old mid : Disk tells tells_images) where
  pub done_before : ChangesOnly m (HoldsAny segment count (placed ∷ stages.closed ∷ stages.begun ∷ stages.done ∷ [])) old mid
      → ChangesOnly m (HoldsAny segment count (placed ∷ stages.closed ∷ stages.begun ∷ stages.done ∷ left ∷ [])) old mid
  done_before moments =
      changes_weaken m _ (HoldsAny segment count (placed ∷ stages.closed ∷ stages.begun ∷ stages.done ∷ left ∷ [])) old mid moments
      (λ b h. any_left (λ (ps : List Placed). HoldsPlaced segment count ps b) (placed ∷ stages.closed ∷ stages.begun ∷ stages.done ∷ []) (left ∷ []) h)

-- The summary is written.
module _ {tells tells_images : Type 0} (r q : RingState) (placed : List Placed) (stages : Stages) (records : List Record) (slot : ℕ) (s : Summary) (b : IsLeftBehind stages.begun slot s)
    (done : stages.done ≡ b.older ++ b.left ∷ with_batch_in b.newest records ∷ []) (old mid new : Disk tells tells_images) (told : tells) (same : IsSameRing r q) (reads : Reads q stages.done mid) where
  abbrev newest : Placed
  newest = with_batch_in b.newest records

  abbrev before : List Placed
  before = b.older ++ b.left ∷ newest ∷ []

  abbrev after : List Placed
  after = left_by stages records slot s b

  abbrev settled : Settled q.medium (HoldsPlaced q.segment q.slots before) mid
  settled = subst (λ (ps : List Placed). Settled q.medium (HoldsPlaced q.segment q.slots ps) mid) done reads.settled

  pub left_moments : ChangesOnly r.medium (HoldsAny r.segment r.slots (placed ∷ stages.closed ∷ stages.begun ∷ stages.done ∷ [])) old mid
      → ((slots : List (Option Segment)) (g : Segment) → Settled q.medium (HoldsSlots q.segment slots) mid → slice_get slots slot ≡ Some (Some g) → g.header.summary ≡ None
      → ChangesOnly q.medium (HoldsEither q.segment slots (slots_with_summary slots slot g s)) mid new)
      → ChangesOnly r.medium (HoldsAny r.segment r.slots (placed ∷ stages.closed ∷ stages.begun ∷ stages.done ∷ left_by stages records slot s b ∷ [])) old new
  left_moments first moments =
      changes_join r.medium (HoldsAny r.segment r.slots (placed ∷ stages.closed ∷ stages.begun ∷ stages.done ∷ after ∷ [])) old mid new (done_before r.medium r.segment r.slots placed stages after old mid first)
      (subst (λ (ps : List Placed). ChangesOnly r.medium (HoldsAny r.segment r.slots (placed ∷ stages.closed ∷ stages.begun ∷ ps ∷ after ∷ [])) mid new) (sym done)
      (subst (λ (k : ℕ × ℕ × ℕ). ChangesOnly k.0 (HoldsAny k.1 k.2 (placed ∷ stages.closed ∷ stages.begun ∷ before ∷ after ∷ [])) mid new) (λ i. (same.medium i, same.segment i, same.slots i))
      (changes_weaken q.medium _ (HoldsAny q.segment q.slots (placed ∷ stages.closed ∷ stages.begun ∷ before ∷ after ∷ [])) mid new
      (summarized_moments q.medium q.segment q.slots b.older b.left (newest ∷ []) slot s b.at b.none mid new told settled moments)
      (λ x h. any_right (λ (ps : List Placed). HoldsPlaced q.segment q.slots ps x) (placed ∷ stages.closed ∷ stages.begun ∷ []) (before ∷ after ∷ []) h))))

  pub left_reads : {T E : Type 0} (result : Result T E) → records ≢ [] → IsLeft records (leaving stages (left_by stages records slot s b)) → q.loaded ≡ None → q.bare ≡ []
      → ((slots : List (Option Segment)) (g : Segment) → Settled q.medium (HoldsSlots q.segment slots) mid → slice_get slots slot ≡ Some (Some g) → g.header.summary ≡ None
      → OnOk result (Settled q.medium (HoldsSlots q.segment (slots_with_summary slots slot g s)) new))
      → OnOk result (Reads q (left_by stages records slot s b) new)
  left_reads result some is loaded none_bare settled_now =
      on_ok_weaker result
      (λ (now : Settled q.medium (HoldsPlaced q.segment q.slots after) new). record {
        settled = now;
        order = left_in_its_order records (leaving stages after) some reads.order is;
        directory = tells_left q.slots b.older b.left (newest ∷ []) s q.directory b.none b.exact (subst (λ (ps : List Placed). Tells q.slots ps q.directory) done reads.directory);
        loaded = λ j bad. absurd (none-some j (sym loaded ∙ bad));
        bare = inl none_bare;
      })
      (summarized_settled q.medium q.segment q.slots b.older b.left (newest ∷ []) slot s b.at b.none mid new told settled result settled_now)
