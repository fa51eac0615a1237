-- What a medium retains at each moment of an append.
use Rattle.std.proofs.Common.{ℕ, ◌+◌, ◌<◌, ◌≤◌, List, [], ◌∷◌, ◌++◌, Contains, Option, ◌≡◌, refl, sym, ◌∙◌, subst, arith, append-nil}
use Rattle.std.proofs.lemmas.List.Sums.{sum_by-cons, sum_by-append}
use Rattle.std.proofs.lemmas.List.Elements.{All-contains, All-nil, All-weaker, Contains-append_right}
use Rattle.std.proofs.lemmas.Grind.{flat_map-append}
use Rattle.vdr_terms.specs.Records.{Record, second, last}
use Rattle.vdr_terms.specs.Windows.{window}
use Rattle.vdr_durability.specs.Layout.{Batches, records_in, segment_records}
use Rattle.vdr_durability.specs.Retention.{AreAmong, AreOutside, HaveNoPlace, Holds, HoldsPlaces, IsNoEarlier, Pin, Retains}
use Rattle.vdr_durability.specs.Victims.{MayGo}
use Rattle.vdr_durability.specs.Regular.{FollowOn, IsPaced}
use Rattle.vdr_durability.specs.Layout.{batches_size_at}
use Rattle.vdr_durability.proofs.Lists.{all_from, contains_flat, contains_here}
use Rattle.vdr_durability.proofs.Retained.{IsRecent, recent, in_the_window, remove_keeps, append_keeps, append_keeps_places, remove_keeps_places}
use Rattle.vdr_durability.proofs.Following.{follow_no_earlier}
use Rattle.vdr_durability.proofs.Paced.{records_with}

-- A shorter window is held too.
pub holds_less : (fewer seconds : ℕ) (all held : List Record) → fewer ≤ seconds → Holds seconds all held → Holds fewer all held
holds_less fewer seconds all held less h = record {
  own = h.own;
  newest = h.newest;
  recent = all_from (Contains held) (window fewer all) (λ r k.
      let w : IsRecent fewer all r = recent fewer all r k in
      let close : second w.newest.tick < second r.tick + fewer = w.close in
      All-contains (Contains held) (window seconds all) r h.recent
      (in_the_window seconds all r (record { newest = w.newest; ends = w.ends; there = w.there; close = omega (arith, close, less) })));
}

-- What is outside the window of what the medium has is outside that of all.
pub outside_all : (seconds : ℕ) (all held records : List Record) → Holds seconds all held → AreAmong records held → AreOutside seconds held records → AreOutside seconds all records
outside_all seconds all held records h own outside = all_from (λ r. Contains (window seconds all) r → ⊥) records (λ r m k.
    let w : IsRecent seconds all r = recent seconds all r k in
    All-contains (λ r. Contains (window seconds held) r → ⊥) records r outside m
    (in_the_window seconds held r (record { newest = w.newest; ends = h.newest ∙ w.ends; there = All-contains (Contains held) records r own m; close = w.close })))

-- A batch at the end.
pub append_retains : (seconds : ℕ) (pins : List Pin) (all held b : List Record) → IsNoEarlier (last all) (last (all ++ b)) → Retains seconds pins all held → Retains seconds pins (all ++ b) (held ++ b)
append_retains seconds pins all held b later h = record {
  window = append_keeps seconds all held b later h.window;
  places = All-weaker (λ pin. HoldsPlaces all held pin.a pin.b) (λ pin. HoldsPlaces (all ++ b) (held ++ b) pin.a pin.b) (λ pin k. append_keeps_places all held b pin.a pin.b k) pins h.places;
}

-- Into the newest segment.
pub fit_retains : (seconds : ℕ) (pins : List Pin) (all b : List Record) (older : List Batches) (newest : Batches) → IsNoEarlier (last all) (last (all ++ b))
    → Retains seconds pins all (records_in (older ++ newest ∷ [])) → Retains seconds pins (all ++ b) (records_in (older ++ (newest ++ b ∷ []) ∷ []))
fit_retains seconds pins all b older newest later h = subst (λ (rs : List Record). Retains seconds pins (all ++ b) rs) (sym (records_with older newest b))
    (append_retains seconds pins all (records_in (older ++ newest ∷ [])) b later h)

pub batch_retains : (seconds : ℕ) (pins : List Pin) (all b : List Record) (older : List Batches) (newest : Batches) → FollowOn (last all) b
    → Retains seconds pins all (records_in (older ++ newest ∷ [])) → Retains seconds pins (all ++ b) (records_in (older ++ (newest ++ b ∷ []) ∷ []))
batch_retains seconds pins all b older newest follows h = fit_retains seconds pins all b older newest (follow_no_earlier all b follows) h

-- Once the gate of a segment that may go is closed.
pub close_retains : (seconds : ℕ) (pins : List Pin) (all : List Record) (before : List Batches) (victim : Batches) (after : List Batches) → 0 < seconds
    → MayGo seconds pins (records_in (before ++ victim ∷ after)) victim
    → Retains seconds pins all (records_in (before ++ victim ∷ after)) → Retains seconds pins all (records_in (before ++ after))
close_retains seconds pins all before victim after some may_go h = subst (λ (rs : List Record). Retains seconds pins all rs) (sym (flat_map-append segment_records before after)) (record {
  window = remove_keeps seconds all (records_in before) (segment_records victim) (records_in after) some
      (outside_all seconds all (records_in (before ++ victim ∷ after)) (segment_records victim) h.window there may_go.old)
      (subst (λ (rs : List Record). Holds seconds all rs) split h.window);
  places = all_from (λ pin. HoldsPlaces all (records_in before ++ records_in after) pin.a pin.b) pins (λ pin m.
      remove_keeps_places all (records_in before) (segment_records victim) (records_in after) pin.a pin.b
      (All-contains (λ pin. HaveNoPlace pin.a pin.b (segment_records victim)) pins pin may_go.free m)
      (subst (λ (rs : List Record). HoldsPlaces all rs pin.a pin.b) split (All-contains (λ pin. HoldsPlaces all (records_in (before ++ victim ∷ after)) pin.a pin.b) pins pin h.places m)));
})
  where
    split : records_in (before ++ victim ∷ after) ≡ records_in before ++ (segment_records victim ++ records_in after)
    split = flat_map-append segment_records before (victim ∷ after)

    there : AreAmong (segment_records victim) (records_in (before ++ victim ∷ after))
    there = all_from (Contains (records_in (before ++ victim ∷ after))) (segment_records victim) (λ r m. contains_flat segment_records (before ++ victim ∷ after) victim r (Contains-append_right before (victim ∷ after) victim (contains_here victim after)) m)

-- Once a segment is begun, still empty.
pub begin_retains : (seconds : ℕ) (pins : List Pin) (all : List Record) (segments : List Batches) → Retains seconds pins all (records_in segments) → Retains seconds pins all (records_in (segments ++ [] ∷ []))
begin_retains seconds pins all segments h = subst (λ (rs : List Record). Retains seconds pins all rs) (sym (flat_map-append segment_records segments ([] ∷ []) ∙ append-nil (records_in segments))) h

-- A batch that may come next may still come once the gate of a segment that may go is closed.
pub remove_stays_paced : (cost batch seconds : ℕ) (pins : List Pin) (before : List Batches) (victim : Batches) (after : List Batches) (b : List Record) → 0 < seconds
    → MayGo seconds pins (records_in (before ++ victim ∷ after)) victim → IsPaced cost batch (before ++ victim ∷ after) b → IsPaced cost batch (before ++ after) b
remove_stays_paced cost batch seconds pins before victim after b some may_go p = record {
  some = p.some;
  short = p.short;
  order = subst (λ (o : Option Record). FollowOn o b) (sym same_last) p.order;
  paced = λ s.
      let a = sum_by-append (batches_size_at s) before (victim ∷ after) in
      let c = sum_by-append (batches_size_at s) before after in
      let d = sum_by-cons (batches_size_at s) victim after in
      let e = p.paced s in
      omega (arith, a, c, d, e);
}
  where
    held : List Record
    held = records_in (before ++ victim ∷ after)

    itself : Holds seconds held held
    itself = record {
      own = all_from (Contains held) held (λ r m. m);
      newest = refl;
      recent = all_from (Contains held) (window seconds held) (λ r m. (recent seconds held r m).there);
    }

    same_last : last (records_in (before ++ after)) ≡ last (records_in (before ++ victim ∷ after))
    same_last = (close_retains seconds [] held before victim after some (record { old = may_go.old; free = All-nil (λ pin. HaveNoPlace pin.a pin.b (segment_records victim)) })
        (record { window = itself; places = All-nil (λ pin. HoldsPlaces held held pin.a pin.b) })).window.newest
