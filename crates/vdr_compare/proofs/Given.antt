-- The records that a medium gives, whatever its bytes are: each is legal, and their places rise.
use Rattle.std.proofs.Common.{◌≡◌, ◌≤◌, ◌<◌, ◌+◌, ℕ, Bool, true, filter, eqb, List, [], ◌∷◌, ◌++◌, All, Option, Some, None, sym, subst, arith}
use Rattle.std.specs.Prelude.{nat_le}
use Rattle.std.proofs.lemmas.Bool.{cond_both, eqb-true, leb-true}
use Rattle.std.proofs.lemmas.List.Elements.{All-append, All-cons, All-contains, All-filter, All-head, All-nil, All-tail, filter_passes}
use Rattle.vdr_terms.specs.Legality.{IsRecord}
use Rattle.vdr_terms.specs.Records.{Record}
use Rattle.vdr_terms.specs.Sizes.{batch_size}
use Rattle.vdr_index.specs.Extents.{records_in}
use Rattle.vdr_durability.proofs.Lists.{all_from}
use Rattle.vdr_directory.specs.Opening.{slot_bytes}
use Rattle.vdr_rescue.specs.declared.fronts.Head.{Head}
use Rattle.vdr_rescue.specs.declared.told.Told.{Told}
use Rattle.vdr_rescue.specs.Alones.{Rescue, Rescued}
use Rattle.vdr_rescue.specs.Given.{AreLegalFrom, above, in_place}
use Rattle.vdr_rescue.specs.Readings.{AreRead, IsRead, floor_behind}
use Rattle.vdr_compare.specs.Laws.{PlacesRise}

-- Of one segment

legal_from : (segment : List ℕ) (at : ℕ) (batches : List (List Record)) → AreLegalFrom segment at batches → All IsRecord (records_in batches)
legal_from segment at [] h = All-nil IsRecord
legal_from segment at (b ∷ bs) h = All-append IsRecord b (records_in bs) h.0.legal.legal (legal_from segment (at + batch_size b) bs h.1)

legal_in_place : (place : ℕ) (rs : List Record) → All IsRecord rs → All IsRecord (in_place place rs)
legal_in_place place [] h = h
legal_in_place place (r ∷ rs) h =
    let more = legal_in_place (place + 1) rs (All-tail IsRecord r rs h) in
    cond_both (eqb r.place place) (r ∷ in_place (place + 1) rs) (in_place (place + 1) rs) (All IsRecord)
    (λ _. All-cons IsRecord r (in_place (place + 1) rs) (All-head IsRecord r rs h) more)
    (λ _. more)

-- Places rise from this one on.
pub record RisesFrom (place : ℕ) (rs : List Record) : Type 0 where
  pub rise : PlacesRise rs
  pub low : All (λ r. place ≤ r.place) rs

above_it : (n : ℕ) (rs : List Record) → All (λ r. n + 1 ≤ r.place) rs → All (λ later. n < later.place) rs
above_it n rs h = all_from (λ later. n < later.place) rs (λ r there. let a = All-contains (λ r. n + 1 ≤ r.place) rs r h there in omega (arith, a))

from_next : (n : ℕ) (rs : List Record) → All (λ later. n < later.place) rs → All (λ r. n + 1 ≤ r.place) rs
from_next n rs h = all_from (λ r. n + 1 ≤ r.place) rs (λ r there. let a = All-contains (λ later. n < later.place) rs r h there in omega (arith, a))

no_less : (m n : ℕ) (rs : List Record) → m ≤ n → All (λ r. n ≤ r.place) rs → All (λ r. m ≤ r.place) rs
no_less m n rs le h = all_from (λ r. m ≤ r.place) rs (λ r there. let a = All-contains (λ r. n ≤ r.place) rs r h there in omega (arith, le, a))

in_place_rises : (place : ℕ) (rs : List Record) → RisesFrom place (in_place place rs)
in_place_rises place [] = record { rise = tt; low = All-nil (λ r. place ≤ r.place) }
in_place_rises place (r ∷ rs) =
    let more = in_place_rises (place + 1) rs in
    cond_both (eqb r.place place) (r ∷ in_place (place + 1) rs) (in_place (place + 1) rs) (RisesFrom place)
    (λ e. let here : r.place ≡ place = eqb-true r.place place e in record {
      rise = (above_it r.place (in_place (place + 1) rs) (no_less (r.place + 1) (place + 1) (in_place (place + 1) rs) (omega (arith, here)) more.low), more.rise);
      low = All-cons (λ r. place ≤ r.place) r (in_place (place + 1) rs) (omega (arith, here)) (no_less place (place + 1) (in_place (place + 1) rs) (omega arith) more.low);
    })
    (λ _. record { rise = more.rise; low = no_less place (place + 1) (in_place (place + 1) rs) (omega arith) more.low })

filter_rises : (p : Record → Bool) (rs : List Record) → PlacesRise rs → PlacesRise (filter p rs)
filter_rises p [] h = tt
filter_rises p (r ∷ rs) h =
    cond_both (p r) (r ∷ filter p rs) (filter p rs) PlacesRise
    (λ _. (All-filter p (λ later. r.place < later.place) rs h.0, filter_rises p rs h.1))
    (λ _. filter_rises p rs h.1)

above_rises : (floor : ℕ) (rs : List Record) → PlacesRise rs → RisesFrom floor (above floor rs)
above_rises floor rs h = record {
  rise = filter_rises (λ r. nat_le floor r.place) rs h;
  low = all_from (λ r. floor ≤ r.place) (above floor rs) (λ r there.
      leb-true floor r.place (All-contains (λ r. nat_le floor r.place ≡ true) (above floor rs) r (filter_passes (λ r. nat_le floor r.place) rs) there));
}

-- Of all segments, one behind another

floor_no_less : (floor : ℕ) (rs : List Record) → RisesFrom floor rs → floor ≤ floor_behind floor rs
floor_no_less floor [] h = omega arith
floor_no_less floor (r ∷ rs) h =
    let a = floor_no_less (r.place + 1) rs (record { rise = h.rise.1; low = from_next r.place rs h.rise.0 }) in
    let b : floor ≤ r.place = All-head (λ r. floor ≤ r.place) r rs h.low in omega (arith, a, b)

below_behind : (floor : ℕ) (rs : List Record) → PlacesRise rs → All (λ r. r.place < floor_behind floor rs) rs
below_behind floor [] h = All-nil (λ r. r.place < floor)
below_behind floor (r ∷ rs) h =
    let a = floor_no_less (r.place + 1) rs (record { rise = h.1; low = from_next r.place rs h.0 }) in
    All-cons (λ s. s.place < floor_behind (r.place + 1) rs) r rs (omega (arith, a)) (below_behind (r.place + 1) rs h.1)

joined_rise : (next : ℕ) (xs ys : List Record) → PlacesRise xs → All (λ r. r.place < next) xs → RisesFrom next ys → PlacesRise (xs ++ ys)
joined_rise next [] ys h below k = k.rise
joined_rise next (x ∷ xs) ys h below k = (
  All-append (λ later. x.place < later.place) xs ys h.0 (all_from (λ later. x.place < later.place) ys (λ later there.
      let a = All-head (λ r. r.place < next) x xs below in
      let b = All-contains (λ r. next ≤ r.place) ys later k.low there in omega (arith, a, b))),
  joined_rise next xs ys h.1 (All-tail (λ r. r.place < next) x xs below) k,
)

module _ (segment : ℕ) (bytes : List ℕ) where
  pub given_rises : (before : Option ℕ) (floor : ℕ) (hs : List Head) (ts : List Told) (given : List Record) → AreRead segment bytes before floor hs ts given → RisesFrom floor given
  given_rises before floor [] [] given h = subst (RisesFrom floor) (sym h) (record { rise = tt; low = All-nil (λ r. floor ≤ r.place) })
  given_rises before floor [] (t ∷ ts) given h = absurd h
  given_rises before floor (g ∷ hs) [] given h = absurd h
  given_rises before floor (g ∷ hs) (t ∷ ts) given h =
      let r : IsRead (slot_bytes segment g.slot bytes) before floor g t h.0 = h.1 in
      let here : RisesFrom floor h.0 =
      subst (RisesFrom floor) (sym r.are) (above_rises floor r.all (subst PlacesRise (sym r.gives.are) (in_place_rises g.first (records_in r.gives.batches)).rise)) in
      let more : RisesFrom (floor_behind floor h.0) h.2.0 = given_rises (Some g.seq) (floor_behind floor h.0) hs ts h.2.0 h.2.1 in
      let low = floor_no_less floor h.0 here in
      subst (RisesFrom floor) (sym h.2.2) (record {
        rise = joined_rise (floor_behind floor h.0) h.0 h.2.0 here.rise (below_behind floor h.0 here.rise) more;
        low = All-append (λ r. floor ≤ r.place) h.0 h.2.0 here.low (no_less floor (floor_behind floor h.0) h.2.0 low more.low);
      })

  pub given_legal : (before : Option ℕ) (floor : ℕ) (hs : List Head) (ts : List Told) (given : List Record) → AreRead segment bytes before floor hs ts given → All IsRecord given
  given_legal before floor [] [] given h = subst (All IsRecord) (sym h) (All-nil IsRecord)
  given_legal before floor [] (t ∷ ts) given h = absurd h
  given_legal before floor (g ∷ hs) [] given h = absurd h
  given_legal before floor (g ∷ hs) (t ∷ ts) given h =
      let r : IsRead (slot_bytes segment g.slot bytes) before floor g t h.0 = h.1 in
      let all : All IsRecord r.all =
      subst (All IsRecord) (sym r.gives.are) (legal_in_place g.first (records_in r.gives.batches) (legal_from (slot_bytes segment g.slot bytes) 64 r.gives.batches r.gives.legal)) in
      let here : All IsRecord h.0 = subst (All IsRecord) (sym r.are) (All-filter (λ s. nat_le floor s.place) IsRecord r.all all) in
      subst (All IsRecord) (sym h.2.2) (All-append IsRecord h.0 h.2.0 here (given_legal (Some g.seq) (floor_behind floor h.0) hs ts h.2.0 h.2.1))

pub rescued_rises : (m : ℕ) (bytes : List ℕ) (x : Rescue) → Rescued m bytes x → PlacesRise x.given
rescued_rises m bytes x h = (given_rises x.config.segment bytes None 0 h.order h.told x.given h.read).rise

pub rescued_legal : (m : ℕ) (bytes : List ℕ) (x : Rescue) → Rescued m bytes x → All IsRecord x.given
rescued_legal m bytes x h = given_legal x.config.segment bytes None 0 h.order h.told x.given h.read
