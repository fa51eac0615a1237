-- The end of a medium's records, at each step of an append and as a medium is opened.
use Rattle.std.proofs.Common.{◌≡◌, ◌≢◌, ◌<◌, ◌-◌, ℕ, ℤ, List, [], ◌∷◌, ◌++◌, length, get_or, take, Option, Some, None, option_map, refl, sym, ap, ◌∙◌, arith, append-nil}
use Rattle.std.specs.Prelude.{slice_get, MatchOption}
use Rattle.std.specs.Option.{IsSomeAnd}
use Rattle.std.proofs.lemmas.Option.{none-some, same_Some, slice_get-get_or}
use Rattle.std.proofs.lemmas.Grind.{flat_map-append}
use Rattle.vdr_terms.specs.Records.{Record, last_after, last, second}
use Rattle.vdr_durability.specs.Victims.{IsLastSecond}
use Rattle.vdr_durability.proofs.Lists.{last_behind}
use Rattle.vdr_index.specs.declared.extent.Extent.{Extent}
use Rattle.vdr_index.specs.Extents.{records_in, first_records, extent_between, extent_of}
use Rattle.vdr_directory.specs.declared.newest.Ending.{Ending}
use Rattle.vdr_directory.specs.Sequence.{Placed, batches_of, records_of, batches_in, all_records}
use Rattle.vdr_directory.specs.Directories.{ending_by, later}
use Rattle.vdr_directory.specs.Growing.{with_batch_in}
use Rattle.vdr_directory.proofs.Runs.{last_at, nil_from_last}
use Rattle.vdr_directory.proofs.Ordering.{NewestHasRecords, last_in_newest}
use Rattle.vdr_directory.proofs.Ends.{none_recorded, newest_recorded, records_of_all}

-- The end of batches.
abbrev pub ending_in : List (List Record) → Option Ending
ending_in batches = option_map ending_by (extent_of batches)

-- by the lists of records and of first records alone
abbrev ending_from : (records firsts : List Record) → Option Ending
ending_from records firsts = option_map ending_by (extent_between (slice_get records 0) (last records) (last firsts))

-- batches have no records and no first ones, or both
data AreBoth : List Record → List Record → Type 0 where
  neither : AreBoth [] []
  both : {r : Record} {rs : List Record} {f : Record} {fs : List Record} → AreBoth (r ∷ rs) (f ∷ fs)

are_both : (bs : List (List Record)) → AreBoth (records_in bs) (first_records bs)
are_both [] = neither
are_both ([] ∷ bs) = are_both bs
are_both ((r ∷ rs) ∷ bs) = both

later_by : (rs fs ss gs : List Record) → AreBoth rs fs → AreBoth ss gs → ending_from (rs ++ ss) (fs ++ gs) ≡ later (ending_from rs fs) (ending_from ss gs)
later_by [] [] [] [] neither k = refl
later_by [] [] [] (g ∷ gs) neither k = elim k [ ]
later_by [] [] (s ∷ ss) [] neither k = elim k [ ]
later_by [] [] (s ∷ ss) (g ∷ gs) neither k = refl
later_by [] (f ∷ fs) ss gs h k = elim h [ ]
later_by (r ∷ rs) [] ss gs h k = elim h [ ]
later_by (r ∷ rs) (f ∷ fs) [] [] h k =
    ap (λ (xs : List Record). ending_from (r ∷ xs) (f ∷ fs ++ [])) (append-nil rs) ∙ ap (λ (xs : List Record). ending_from (r ∷ rs) (f ∷ xs)) (append-nil fs)
later_by (r ∷ rs) (f ∷ fs) [] (g ∷ gs) h k = elim k [ ]
later_by (r ∷ rs) (f ∷ fs) (s ∷ ss) [] h k = elim k [ ]
later_by (r ∷ rs) (f ∷ fs) (s ∷ ss) (g ∷ gs) h k =
    ap (λ (o : Option Record). option_map ending_by (extent_between (Some r) o (last (f ∷ fs ++ g ∷ gs)))) (last_behind (r ∷ rs) s ss)
    ∙ ap (λ (o : Option Record). option_map ending_by (extent_between (Some r) (Some (last_after s ss)) o)) (last_behind (f ∷ fs) g gs)

-- Batches behind others

pub ending_append : (bs cs : List (List Record)) → ending_in (bs ++ cs) ≡ later (ending_in bs) (ending_in cs)
ending_append bs cs =
    ap (λ (rs : List Record). ending_from rs (first_records (bs ++ cs))) (flat_map-append (λ (b : List Record). b) bs cs)
    ∙ ap (λ (fs : List Record). ending_from (records_in bs ++ records_in cs) fs) (flat_map-append (λ (b : List Record). take 1 b) bs cs)
    ∙ later_by (records_in bs) (first_records bs) (records_in cs) (first_records cs) (are_both bs) (are_both cs)

pub batches_append : (xs ys : List Placed) → batches_in (xs ++ ys) ≡ batches_in xs ++ batches_in ys
batches_append xs ys = flat_map-append batches_of xs ys

pub ending_behind : (xs ys : List Placed) → ending_in (batches_in (xs ++ ys)) ≡ later (ending_in (batches_in xs)) (ending_in (batches_in ys))
ending_behind xs ys = ap ending_in (batches_append xs ys) ∙ ending_append (batches_in xs) (batches_in ys)

-- one more segment
pub ending_push : (xs : List Placed) (p : Placed) → ending_in (batches_in (xs ++ p ∷ [])) ≡ later (ending_in (batches_in xs)) (ending_in (batches_of p))
ending_push xs p = ending_behind xs (p ∷ []) ∙ ap (λ (bs : List (List Record)). later (ending_in (batches_in xs)) (ending_in bs)) (append-nil (batches_of p))

-- one more batch, which has records
pub ending_of_batch : (f : Record) (rs : List Record) → ending_in ((f ∷ rs) ∷ []) ≡ Some (record { place = (last_after f rs).place; tick = (last_after f rs).tick; utc = (last_after f rs).utc; batch = f.place })
ending_of_batch f rs = ap (λ (xs : List Record). option_map ending_by (extent_between (Some f) (Some (last_after f xs)) (Some f))) (append-nil rs)

pub ending_read : (records : List Record) (f r : Record) (e : Ending) → 0 < length records → f ≡ get_or records 0 f → r ≡ get_or records (length records - 1) r
    → e ≡ record { place = r.place; tick = r.tick; utc = r.utc; batch = f.place } → Some e ≡ ending_in (records ∷ [])
ending_read [] f r e some first newest is = absurd (omega (arith, some))
ending_read (x ∷ xs) f r e some first newest is =
    let same : last_after x xs ≡ r = same_Some (last_after x xs) r (sym (last_at (x ∷ xs)) ∙ slice_get-get_or (x ∷ xs) (length (x ∷ xs) - 1) r (omega arith) ∙ ap (λ (y : Record). Some y) (sym newest)) in
    ap (λ (y : Ending). Some y) is
    ∙ ap (λ (p : Record × Record). Some (record { place = p.0.place; tick = p.0.tick; utc = p.0.utc; batch = p.1.place })) (λ i. (sym same i, first i))
    ∙ sym (ending_of_batch x xs)

pub ending_done : (older : List Placed) (newest : Placed) (records : List Record) (e : Option Ending) → 0 < length records → e ≡ ending_in (records ∷ [])
    → e ≡ ending_in (batches_in (older ++ with_batch_in newest records ∷ []))
ending_done older newest [] e some is = absurd (omega (arith, some))
ending_done older newest (f ∷ rs) e some is =
    let one = ending_of_batch f rs in
    is ∙ one ∙ sym (ending_push older (with_batch_in newest (f ∷ rs))
    ∙ ap (later (ending_in (batches_in older))) (ending_append (batches_of newest) ((f ∷ rs) ∷ []))
    ∙ ap (λ (o : Option Ending). later (ending_in (batches_in older)) (later (ending_in (batches_of newest)) o)) one)

-- A segment goes that is not the newest

some_in : (placed : List Placed) (p : Placed) → NewestHasRecords placed → last placed ≡ Some p → (e : Ending) × (ending_in (batches_in placed) ≡ Some e)
some_in placed p newest is = go (extent_of (batches_in placed)) refl
  where
    go : (o : Option Extent) → extent_of (batches_in placed) ≡ o → (e : Ending) × (ending_in (batches_in placed) ≡ Some e)
    go None e =
        let none = ap last (sym (records_of_all placed) ∙ (none_recorded (batches_in placed) e).0) in
        absurd (newest p is (nil_from_last (records_of p) (sym (last_in_newest placed p newest is) ∙ none)))
    go (Some x) e = (ending_by x, ap (option_map ending_by) e)

pub ending_closed : (before : List Placed) (v : Placed) (after : List Placed) → after ≢ [] → NewestHasRecords (before ++ v ∷ after)
    → ending_in (batches_in (before ++ after)) ≡ ending_in (batches_in (before ++ v ∷ after))
ending_closed before v [] some newest = absurd (some refl)
ending_closed before v (a ∷ rest) some newest =
    let e = some_in (a ∷ rest) (last_after a rest) (λ p is. newest p (last_behind before v (a ∷ rest) ∙ is)) refl in
    ending_behind before (a ∷ rest) ∙ ap (later (ending_in (batches_in before))) e.1
    ∙ sym (ending_behind before (v ∷ a ∷ rest)
    ∙ ap (later (ending_in (batches_in before))) (ending_append (batches_of v) (batches_in (a ∷ rest)))
    ∙ ap (λ (o : Option Ending). later (ending_in (batches_in before)) (later (ending_in (batches_of v)) o)) e.1)

-- What the end tells

from_none : (o : Option Extent) → option_map ending_by o ≡ None → o ≡ None
from_none None is = refl
from_none (Some x) is = absurd (none-some (ending_by x) (sym is))

from_some : (o : Option Extent) (e : Ending) → option_map ending_by o ≡ Some e → (x : Extent) × (o ≡ Some x) × (ending_by x ≡ e)
from_some None e is = absurd (none-some e is)
from_some (Some x) e is = (x, refl, same_Some (ending_by x) e is)

module _ (placed : List Placed) where
  none_there : ending_in (batches_in placed) ≡ None → all_records placed ≡ []
  none_there is = sym (records_of_all placed) ∙ (none_recorded (batches_in placed) (from_none (extent_of (batches_in placed)) is)).0

  last_none : ending_in (batches_in placed) ≡ None → None ≡ option_map {U = ℕ × ℕ × ℤ} (λ r. (r.place, r.tick, r.utc)) (last (all_records placed))
  last_none is = ap (λ (rs : List Record). option_map {U = ℕ × ℕ × ℤ} (λ r. (r.place, r.tick, r.utc)) (last rs)) (sym (none_there is))

  batch_none : ending_in (batches_in placed) ≡ None → None ≡ option_map (λ r. r.place) (last (first_records (batches_in placed)))
  batch_none is = ap (λ (rs : List Record). option_map (λ (r : Record). r.place) (last rs)) (sym (none_recorded (batches_in placed) (from_none (extent_of (batches_in placed)) is)).1)

  pub second_none : ending_in (batches_in placed) ≡ None → IsLastSecond 0 (all_records placed)
  second_none is newest e = absurd (none-some newest (sym (ap last (none_there is)) ∙ e))

  -- the last record
  record IsLast (e : Ending) : Type 0 where
    r : Record
    is : last (all_records placed) ≡ Some r
    place : e.place ≡ r.place
    tick : e.tick ≡ r.tick
    utc : e.utc ≡ r.utc

  is_last : (e : Ending) → ending_in (batches_in placed) ≡ Some e → IsLast e
  is_last e is =
      let f = from_some (extent_of (batches_in placed)) e is in
      let k = newest_recorded _ _ _ f.0 f.1 in
      record {
        r = k.r;
        is = sym (ap last (records_of_all placed)) ∙ k.is;
        place = ap (λ (y : Ending). y.place) (sym f.2) ∙ k.place;
        tick = ap (λ (y : Ending). y.tick) (sym f.2) ∙ k.tick;
        utc = ap (λ (y : Ending). y.utc) (sym f.2) ∙ k.utc;
      }

  last_some : (e : Ending) → ending_in (batches_in placed) ≡ Some e → ◌≡◌ {A = Option (ℕ × ℕ × ℤ)} (Some (e.place, e.tick, e.utc)) (option_map {U = ℕ × ℕ × ℤ} (λ r. (r.place, r.tick, r.utc)) (last (all_records placed)))
  last_some e is =
      let k = is_last e is in
      ap (λ (p : ℕ × ℕ × ℤ). Some p) (λ i. (k.place i, k.tick i, k.utc i)) ∙ ap (option_map {U = ℕ × ℕ × ℤ} (λ (r : Record). (r.place, r.tick, r.utc))) (sym k.is)

  batch_some : (e : Ending) → ending_in (batches_in placed) ≡ Some e → Some e.batch ≡ option_map (λ r. r.place) (last (first_records (batches_in placed)))
  batch_some e is =
      let f = from_some (extent_of (batches_in placed)) e is in
      ap (λ (y : Ending). Some y.batch) (sym f.2) ∙ begun _ _ _ f.0 f.1
    where
      begun : (a b c : Option Record) (x : Extent) → extent_between a b c ≡ Some x → Some x.last_batch ≡ option_map (λ r. r.place) c
      begun None b c x e = cc
      begun (Some f) None c x e = cc
      begun (Some f) (Some r) None x e = cc
      begun (Some f) (Some r) (Some g) x e = ap (λ (y : Extent). Some y.last_batch) (sym (same_Some _ x e))

  pub second_some : (e : Ending) (s : ℕ) → ending_in (batches_in placed) ≡ Some e → s ≡ second e.tick → IsLastSecond s (all_records placed)
  second_some e s is at newest same =
      let k = is_last e is in
      at ∙ ap second (k.tick ∙ ap (λ (r : Record). r.tick) (same_Some k.r newest (sym k.is ∙ same)))

  -- what is kept of the end
  pub last_told : (o : Option Ending) → o ≡ ending_in (batches_in placed) → option_map {U = ℕ × ℕ × ℤ} (λ e. (e.place, e.tick, e.utc)) o ≡ option_map {U = ℕ × ℕ × ℤ} (λ r. (r.place, r.tick, r.utc)) (last (all_records placed))
  last_told None is = last_none (sym is)
  last_told (Some e) is = last_some e (sym is)

  pub batch_told : (o : Option Ending) → o ≡ ending_in (batches_in placed) → option_map (λ e. e.batch) o ≡ option_map (λ r. r.place) (last (first_records (batches_in placed)))
  batch_told None is = batch_none (sym is)
  batch_told (Some e) is = batch_some e (sym is)

-- what `map` gives, where its closure computes f
pub mapped : {A B : Type 0} (f : A → B) (o : Option A) (m : Option B) (Q : A → B → Type 0) → MatchOption o (m ≡ None) (λ x. IsSomeAnd m (Q x)) → ((x : A) (y : B) → Q x y → y ≡ f x) → m ≡ option_map f o
mapped f None m Q h computes = h
mapped f (Some x) None Q h computes = absurd h
mapped f (Some x) (Some y) Q h computes = ap (λ (z : _). Some z) (computes x y h)
