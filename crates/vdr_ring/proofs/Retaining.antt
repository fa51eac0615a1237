-- What a ring retains at each stage of an append.
use Rattle.std.proofs.Common.{◌≡◌, ◌≢◌, ℕ, ◌<◌, ◌≤◌, ◌⊎◌, inl, inr, List, [], ◌∷◌, ◌++◌, length, All, Contains, Option, Some, refl, sym, ap, ◌∙◌, subst, arith, append_assoc}
use Rattle.std.proofs.lemmas.List.{map-append}
use Rattle.std.proofs.lemmas.List.Elements.{All-nil, All-cons, Contains-append_right}
use Rattle.vdr_terms.specs.Records.{Record, last}
use Rattle.vdr_terms.specs.Needs.{Sizes, cost, usable}
use Rattle.vdr_terms.specs.Sizes.{records_size}
use Rattle.vdr_durability.specs.Layout.{Batches, batches_size, records_in}
use Rattle.vdr_durability.specs.Regular.{FollowOn, IsPaced, IsRegular}
use Rattle.vdr_durability.specs.Retention.{Pin, Retains}
use Rattle.vdr_durability.specs.Victims.{MayGo}
use Rattle.vdr_durability.proofs.Lists.{contains_here, last_behind}
use Rattle.vdr_durability.proofs.Appended.{batch_retains, begin_retains, close_retains, remove_stays_paced}
use Rattle.vdr_durability.proofs.Paced.{append_stays_regular, begin_stays_paced, begin_stays_regular, remove_stays_regular}
use Rattle.vdr_directory.specs.Sequence.{Placed, batches_of, segments_in, all_records}
use Rattle.vdr_directory.specs.Closed.{IsFull, IsLeastClosed}
use Rattle.vdr_directory.specs.Growing.{new_segment, next_seq, with_batch_in}
use Rattle.vdr_directory.proofs.Leaving.{left_segments}
use Rattle.vdr_ring.specs.Stages.{AreStages, BeginsAnew, GoesOn, HasRoom, IsLeft, IsOldest, IsVictim, Stages}
use Rattle.vdr_ring.specs.Regularity.{AreLaidOut, AreRegular, IsAllowed}
use Rattle.vdr_ring.proofs.Exact.{laid_out_same, stages_exact}
use Rattle.vdr_ring.proofs.Oldest.{Ends, empty, ends, ends_of, full_newest, may_go, newest_regular, regular_newest, segments_push, segments_split, victim_is_oldest}

-- The victim closed, or a slot closed already

-- a medium without segments, or one whose newest has no room for the batch
AreFull : (sizes : Sizes) (closed : List Placed) → Type 0
AreFull sizes closed =
    (closed ≡ []) ⊎ ((older : List Placed) × (newest : Placed) × (closed ≡ older ++ newest ∷ []) × IsRegular (cost sizes) (usable sizes) sizes.batch (segments_in older) (batches_of newest)
    × (usable sizes < batches_size (batches_of newest)))

record LeavesClosed (sizes : Sizes) (seconds : ℕ) (pins : List Pin) (placed closed : List Placed) (records : List Record) : Type 0 where
  retained : (all : List Record) → Retains seconds pins all (all_records placed) → Retains seconds pins all (all_records closed)
  full : AreFull sizes closed
  paced : IsPaced (cost sizes) sizes.batch (segments_in closed) records

module _ (sizes : Sizes) (m size count seconds : ℕ) (pins : List Pin) (records : List Record) where
  closed_already : (placed : List Placed) → Ends placed → IsAllowed sizes m size count seconds pins placed records → ((p : Placed) → last placed ≡ Some p → HasRoom size p records → ⊥)
      → LeavesClosed sizes seconds pins placed placed records
  unfolding AreFull
  closed_already placed empty h no_room = record { retained = λ all k. k; full = inl refl; paced = h.paced }
  closed_already placed (ends older newest) h no_room = record {
    retained = λ all k. k;
    full = inr (
      older,
      newest,
      refl,
      newest_regular (cost sizes) (usable sizes) sizes.batch older newest h.regular.layout,
      full_newest sizes m size count seconds pins (older ++ newest ∷ []) records newest h (no_room newest (last_behind older newest [])),
    );
    paced = h.paced;
  }

  closed_victim : (before : List Placed) (victim : Placed) (after : List Placed) → Ends after → after ≢ [] → IsAllowed sizes m size count seconds pins (before ++ victim ∷ after) records
      → ((p : Placed) → last (before ++ victim ∷ after) ≡ Some p → HasRoom size p records → ⊥) → MayGo seconds pins (all_records (before ++ victim ∷ after)) (batches_of victim)
      → LeavesClosed sizes seconds pins (before ++ victim ∷ after) (before ++ after) records
  unfolding AreFull
  closed_victim before victim after empty some h no_room go = absurd (some refl)
  closed_victim before victim after (ends rest newest) some h no_room go = record {
    retained = λ all k. subst (λ (ss : List Batches). Retains seconds pins all (records_in ss)) (sym (map-append batches_of before (rest ++ newest ∷ [])))
        (close_retains seconds pins all (segments_in before) (batches_of victim) (segments_in (rest ++ newest ∷ [])) h.some may_go
        (subst (λ (ss : List Batches). Retains seconds pins all (records_in ss)) (segments_split before victim (rest ++ newest ∷ [])) k));
    full = inr (
      before ++ rest,
      newest,
      sym (append_assoc before rest (newest ∷ [])),
      subst (λ (ss : List Batches). IsRegular (cost sizes) (usable sizes) sizes.batch ss (batches_of newest)) (sym (map-append batches_of before rest))
          (remove_stays_regular (cost sizes) (usable sizes) sizes.batch (segments_in before) (batches_of victim) (segments_in rest) (batches_of newest)
          (subst (λ (ss : List Batches). IsRegular (cost sizes) (usable sizes) sizes.batch ss (batches_of newest)) (segments_split before victim rest)
          (newest_regular (cost sizes) (usable sizes) sizes.batch (before ++ victim ∷ rest) newest
          (subst (λ (ps : List Placed). AreLaidOut (cost sizes) (usable sizes) sizes.batch ps) (sym (append_assoc before (victim ∷ rest) (newest ∷ []))) h.regular.layout)))),
      full_newest sizes m size count seconds pins (before ++ victim ∷ (rest ++ newest ∷ [])) records newest h
          (no_room newest (ap last (sym (append_assoc before (victim ∷ rest) (newest ∷ []))) ∙ last_behind (before ++ victim ∷ rest) newest [])),
    );
    paced = subst (λ (ss : List Batches). IsPaced (cost sizes) sizes.batch ss records) (sym (map-append batches_of before (rest ++ newest ∷ [])))
        (remove_stays_paced (cost sizes) sizes.batch seconds pins (segments_in before) (batches_of victim) (segments_in (rest ++ newest ∷ [])) records h.some may_go
        (subst (λ (ss : List Batches). IsPaced (cost sizes) sizes.batch ss records) (segments_split before victim (rest ++ newest ∷ [])) h.paced));
  }
    where
      may_go : MayGo seconds pins (records_in (segments_in before ++ batches_of victim ∷ segments_in (rest ++ newest ∷ []))) (batches_of victim)
      may_go = subst (λ (ss : List Batches). MayGo seconds pins (records_in ss) (batches_of victim)) (segments_split before victim (rest ++ newest ∷ [])) go

  leaves_closed : (placed : List Placed) (first : ℕ) (stages : Stages) → IsAllowed sizes m size count seconds pins placed records → BeginsAnew size count seconds pins placed first records stages
      → LeavesClosed sizes seconds pins placed stages.closed records
  leaves_closed placed first stages h b = go b.place
    where
      removed : (before : List Placed) (victim : Placed) (after : List Placed) → IsOldest seconds pins placed before victim after × (after ≢ []) → LeavesClosed sizes seconds pins placed (before ++ after) records
      removed before victim after k =
          subst (λ (ps : List Placed). LeavesClosed sizes seconds pins ps (before ++ after) records) (sym k.0.split)
          (closed_victim before victim after (ends_of after) k.1
          (subst (λ (ps : List Placed). IsAllowed sizes m size count seconds pins ps records) k.0.split h)
          (subst (λ (ps : List Placed). (p : Placed) → last ps ≡ Some p → HasRoom size p records → ⊥) k.0.split b.no_room)
          (subst (λ (ps : List Placed). MayGo seconds pins (all_records ps) (batches_of victim)) k.0.split
          (may_go sizes m size count seconds pins placed records h victim
          (subst (λ (ps : List Placed). Contains ps victim) (sym k.0.split) (Contains-append_right before (victim ∷ after) victim (contains_here victim after))) k.0.may_go)))

      go : (IsLeastClosed count placed b.slot × (stages.closed ≡ placed))
          ⊎ (IsFull count placed × (before : List Placed) × (victim : Placed) × (after : List Placed) × IsVictim seconds pins placed before victim after × (b.slot ≡ victim.slot) × (stages.closed ≡ before ++ after))
          → LeavesClosed sizes seconds pins placed stages.closed records
      go (inl k) = subst (λ (ps : List Placed). LeavesClosed sizes seconds pins placed ps records) (sym k.1) (closed_already placed (ends_of placed) h b.no_room)
      go (inr k) = subst (λ (ps : List Placed). LeavesClosed sizes seconds pins placed ps records) (sym k.6)
          (removed k.1 k.2 k.3 (victim_is_oldest sizes m size count seconds pins placed records k.1 k.2 k.3 h k.0 k.4))

-- A segment begun, and the batch in it

record LeavesStages (sizes : Sizes) (seconds : ℕ) (pins : List Pin) (placed : List Placed) (records : List Record) (stages : Stages) : Type 0 where
  retained_closed : (all : List Record) → Retains seconds pins all (all_records placed) → Retains seconds pins all (all_records stages.closed)
  retained_begun : (all : List Record) → Retains seconds pins all (all_records placed) → Retains seconds pins all (all_records stages.begun)
  retained_done : (all : List Record) → Retains seconds pins all (all_records placed) → Retains seconds pins (all ++ records) (all_records stages.done)
  layout_closed : AreLaidOut (cost sizes) (usable sizes) sizes.batch stages.closed
  layout_begun : AreLaidOut (cost sizes) (usable sizes) sizes.batch stages.begun
  layout_done : AreLaidOut (cost sizes) (usable sizes) sizes.batch stages.done

follows_all : (sizes : Sizes) (seconds : ℕ) (pins : List Pin) (all : List Record) (placed : List Placed) (records : List Record) → IsPaced (cost sizes) sizes.batch (segments_in placed) records
    → Retains seconds pins all (all_records placed) → FollowOn (last all) records
follows_all sizes seconds pins all placed records paced k = subst (λ (o : Option Record). FollowOn o records) k.window.newest paced.order

-- the batch behind those of the newest
batch_stays : (sizes : Sizes) (older : List Placed) (newest : Placed) (records : List Record) → IsRegular (cost sizes) (usable sizes) sizes.batch (segments_in older) (batches_of newest)
    → IsPaced (cost sizes) sizes.batch (segments_in (older ++ newest ∷ [])) records → AreLaidOut (cost sizes) (usable sizes) sizes.batch (older ++ with_batch_in newest records ∷ [])
batch_stays sizes older newest records h paced =
    regular_newest (cost sizes) (usable sizes) sizes.batch older (with_batch_in newest records)
    (append_stays_regular (cost sizes) (usable sizes) sizes.batch (segments_in older) (batches_of newest) records h
    (subst (λ (ss : List Batches). IsPaced (cost sizes) sizes.batch ss records) (segments_push older newest) paced))

batch_kept : (seconds : ℕ) (pins : List Pin) (all : List Record) (older : List Placed) (newest : Placed) (records : List Record) → FollowOn (last all) records
    → Retains seconds pins all (all_records (older ++ newest ∷ [])) → Retains seconds pins (all ++ records) (all_records (older ++ with_batch_in newest records ∷ []))
batch_kept seconds pins all older newest records follows k =
    subst (λ (ss : List Batches). Retains seconds pins (all ++ records) (records_in ss)) (sym (segments_push older (with_batch_in newest records)))
    (batch_retains seconds pins all records (segments_in older) (batches_of newest) follows
    (subst (λ (ss : List Batches). Retains seconds pins all (records_in ss)) (segments_push older newest) k))

segment_kept : (seconds : ℕ) (pins : List Pin) (all : List Record) (closed : List Placed) (slot seq first : ℕ) → Retains seconds pins all (all_records closed)
    → Retains seconds pins all (all_records (closed ++ new_segment slot seq first ∷ []))
segment_kept seconds pins all closed slot seq first k =
    subst (λ (ss : List Batches). Retains seconds pins all (records_in ss)) (sym (segments_push closed (new_segment slot seq first))) (begin_retains seconds pins all (segments_in closed) k)

nothing_regular : (cost usable batch : ℕ) → IsRegular cost usable batch [] []
nothing_regular cost usable batch = record {
  order = tt;
  filled = All-nil (λ s. usable < batches_size s);
  batches = All-cons (λ s. All (λ b. (0 < length b) × (records_size b ≤ batch)) s) [] [] (All-nil (λ b. (0 < length b) × (records_size b ≤ batch)))
      (All-nil (λ s. All (λ b. (0 < length b) × (records_size b ≤ batch)) s));
  paced = λ s. omega arith;
}

new_regular : (sizes : Sizes) (closed : List Placed) → AreFull sizes closed → IsRegular (cost sizes) (usable sizes) sizes.batch (segments_in closed) []
unfolding AreFull
new_regular sizes closed (inl e) = subst (λ (ps : List Placed). IsRegular (cost sizes) (usable sizes) sizes.batch (segments_in ps) []) (sym e) (nothing_regular (cost sizes) (usable sizes) sizes.batch)
new_regular sizes closed (inr (older, newest, e, h, full)) =
    subst (λ (ss : List Batches). IsRegular (cost sizes) (usable sizes) sizes.batch ss []) (sym (ap segments_in e ∙ segments_push older newest))
    (begin_stays_regular (cost sizes) (usable sizes) sizes.batch (segments_in older) (batches_of newest) full h)

closed_regular : (sizes : Sizes) (closed : List Placed) → AreFull sizes closed → AreLaidOut (cost sizes) (usable sizes) sizes.batch closed
unfolding AreFull
closed_regular sizes closed (inl e) = inl e
closed_regular sizes closed (inr (older, newest, e, h, full)) =
    subst (λ (ps : List Placed). AreLaidOut (cost sizes) (usable sizes) sizes.batch ps) (sym e) (regular_newest (cost sizes) (usable sizes) sizes.batch older newest h)

begins_anew : (sizes : Sizes) (m size count seconds : ℕ) (pins : List Pin) (placed : List Placed) (first : ℕ) (records : List Record) (stages : Stages) → IsAllowed sizes m size count seconds pins placed records
    → BeginsAnew size count seconds pins placed first records stages → LeavesStages sizes seconds pins placed records stages
begins_anew sizes m size count seconds pins placed first records stages h b =
    let k = leaves_closed sizes m size count seconds pins records placed first stages h b in
    let new : Placed = new_segment b.slot (next_seq (last placed)) first in
    let regular : IsRegular (cost sizes) (usable sizes) sizes.batch (segments_in stages.closed) [] = new_regular sizes stages.closed k.full in
    let paced : IsPaced (cost sizes) sizes.batch (segments_in (stages.closed ++ new ∷ [])) records =
    subst (λ (ss : List Batches). IsPaced (cost sizes) sizes.batch ss records) (sym (segments_push stages.closed new)) (begin_stays_paced (cost sizes) sizes.batch (segments_in stages.closed) records k.paced) in
    record {
      retained_closed = k.retained;
      retained_begun = λ all r. subst (λ (ps : List Placed). Retains seconds pins all (all_records ps)) (sym b.begun)
          (segment_kept seconds pins all stages.closed b.slot (next_seq (last placed)) first (k.retained all r));
      retained_done = λ all r. subst (λ (ps : List Placed). Retains seconds pins (all ++ records) (all_records ps)) (sym b.done)
          (batch_kept seconds pins all stages.closed new records (follows_all sizes seconds pins all placed records h.paced r)
          (segment_kept seconds pins all stages.closed b.slot (next_seq (last placed)) first (k.retained all r)));
      layout_closed = closed_regular sizes stages.closed k.full;
      layout_begun = subst (λ (ps : List Placed). AreLaidOut (cost sizes) (usable sizes) sizes.batch ps) (sym b.begun)
          (regular_newest (cost sizes) (usable sizes) sizes.batch stages.closed new regular);
      layout_done = subst (λ (ps : List Placed). AreLaidOut (cost sizes) (usable sizes) sizes.batch ps) (sym b.done) (batch_stays sizes stages.closed new records regular paced);
    }

goes_on : (sizes : Sizes) (m size count seconds : ℕ) (pins : List Pin) (placed : List Placed) (records : List Record) (stages : Stages) → IsAllowed sizes m size count seconds pins placed records
    → GoesOn size placed records stages → LeavesStages sizes seconds pins placed records stages
goes_on sizes m size count seconds pins placed records stages h g = record {
  retained_closed = λ all r. subst (λ (ps : List Placed). Retains seconds pins all (all_records ps)) (sym g.closed) r;
  retained_begun = λ all r. subst (λ (ps : List Placed). Retains seconds pins all (all_records ps)) (sym g.begun) r;
  retained_done = λ all r. subst (λ (ps : List Placed). Retains seconds pins (all ++ records) (all_records ps)) (sym g.done)
      (batch_kept seconds pins all g.older g.newest records (follows_all sizes seconds pins all placed records h.paced r)
      (subst (λ (ps : List Placed). Retains seconds pins all (all_records ps)) g.split r));
  layout_closed = subst (λ (ps : List Placed). AreLaidOut (cost sizes) (usable sizes) sizes.batch ps) (sym g.closed) h.regular.layout;
  layout_begun = subst (λ (ps : List Placed). AreLaidOut (cost sizes) (usable sizes) sizes.batch ps) (sym g.begun) h.regular.layout;
  layout_done = subst (λ (ps : List Placed). AreLaidOut (cost sizes) (usable sizes) sizes.batch ps) (sym g.done)
      (batch_stays sizes g.older g.newest records
      (newest_regular (cost sizes) (usable sizes) sizes.batch g.older g.newest (subst (λ (ps : List Placed). AreLaidOut (cost sizes) (usable sizes) sizes.batch ps) g.split h.regular.layout))
      (subst (λ (ps : List Placed). IsPaced (cost sizes) sizes.batch (segments_in ps) records) g.split h.paced));
}

leaves_stages : (sizes : Sizes) (m size count seconds : ℕ) (pins : List Pin) (placed : List Placed) (first : ℕ) (records : List Record) (stages : Stages) → IsAllowed sizes m size count seconds pins placed records
    → AreStages size count seconds pins placed first records stages → LeavesStages sizes seconds pins placed records stages
leaves_stages sizes m size count seconds pins placed first records stages h (inl g, _) = goes_on sizes m size count seconds pins placed records stages h g
leaves_stages sizes m size count seconds pins placed first records stages h (inr b, _) = begins_anew sizes m size count seconds pins placed first records stages h b

-- The segment that the batch leaves behind gets its summary: nothing that is recorded changes.
pub same_segments : (records : List Record) (stages : Stages) → IsLeft records stages → segments_in stages.left ≡ segments_in stages.done
same_segments records stages (inl none) = ap segments_in none.1
same_segments records stages (inr l) =
    ap segments_in l.left ∙ left_segments l.behind.older l.behind.left (with_batch_in l.behind.newest records ∷ []) l.summary ∙ ap segments_in (sym l.done)

-- What each stage retains, and that it is regular

module _ (sizes : Sizes) (m size count seconds : ℕ) (pins : List Pin) (placed : List Placed) (first : ℕ) where
  pub closed_retains : (all records : List Record) (stages : Stages) → IsAllowed sizes m size count seconds pins placed records → AreStages size count seconds pins placed first records stages
      → Retains seconds pins all (all_records placed) → Retains seconds pins all (all_records stages.closed)
  closed_retains all records stages h s = (leaves_stages sizes m size count seconds pins placed first records stages h s).retained_closed all

  pub begun_retains : (all records : List Record) (stages : Stages) → IsAllowed sizes m size count seconds pins placed records → AreStages size count seconds pins placed first records stages
      → Retains seconds pins all (all_records placed) → Retains seconds pins all (all_records stages.begun)
  begun_retains all records stages h s = (leaves_stages sizes m size count seconds pins placed first records stages h s).retained_begun all

  pub done_retains : (all records : List Record) (stages : Stages) → IsAllowed sizes m size count seconds pins placed records → AreStages size count seconds pins placed first records stages
      → Retains seconds pins all (all_records placed) → Retains seconds pins (all ++ records) (all_records stages.done)
  done_retains all records stages h s = (leaves_stages sizes m size count seconds pins placed first records stages h s).retained_done all

  pub left_retains : (all records : List Record) (stages : Stages) → IsAllowed sizes m size count seconds pins placed records → AreStages size count seconds pins placed first records stages
      → Retains seconds pins all (all_records placed) → Retains seconds pins (all ++ records) (all_records stages.left)
  left_retains all records stages h s r = subst (λ (ss : List Batches). Retains seconds pins (all ++ records) (records_in ss)) (sym (same_segments records stages s.1)) (done_retains all records stages h s r)

  pub stages_regular : (records : List Record) (stages : Stages) → IsAllowed sizes m size count seconds pins placed records → AreStages size count seconds pins placed first records stages
      → AreRegular (cost sizes) (usable sizes) sizes.batch stages.closed × AreRegular (cost sizes) (usable sizes) sizes.batch stages.begun × AreRegular (cost sizes) (usable sizes) sizes.batch stages.done
      × AreRegular (cost sizes) (usable sizes) sizes.batch stages.left
  stages_regular records stages h s =
      let k = leaves_stages sizes m size count seconds pins placed first records stages h s in
      let e = stages_exact size count seconds pins placed first records stages h.regular.exact s in (
        record { layout = k.layout_closed; exact = e.0 },
        record { layout = k.layout_begun; exact = e.1 },
        record { layout = k.layout_done; exact = e.2 },
        record { layout = laid_out_same (cost sizes) (usable sizes) sizes.batch stages.done stages.left (same_segments records stages s.1) k.layout_done; exact = e.3 },
      )
