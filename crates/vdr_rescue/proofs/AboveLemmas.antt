-- What is given of places that are not below a floor, and from the front of a segment on.
use Rattle.std.proofs.Common.{◌≡◌, ◌≤◌, ◌<◌, ◌+◌, ◌^◌, ℕ, List, [], ◌∷◌, ◌++◌, All, Bool, true, false, min, refl, sym, ap, ◌∙◌, arith, ⊎_elim}
use Rattle.std.specs.Prelude.{◌↔◌, ◌==◌, if◌then◌else◌, nat_le}
use Rattle.std.proofs.lemmas.Bool.{cases_lt}
use Rattle.std.proofs.lemmas.List.Elements.{All-append, All-nil, All-tail, All-head}
use Rattle.vdr_terms.specs.Records.{Record}
use Rattle.vdr_terms.specs.Legality.{IsRecord}
use Rattle.vdr_terms.specs.Sizes.{batch_size}
use Rattle.vdr_index.specs.Extents.{records_in}
use Rattle.vdr_index.proofs.StepLemmas.{left_none, none_left}
use Rattle.vdr_rescue.specs.declared.given.Stand.{Stand}
use Rattle.vdr_rescue.specs.Given.{AreLegalFrom, GivenBy, Gives, GivesAbove, above, front, in_place}

-- One record more, which is above the floor or below it

pub above_here : (floor : ℕ) (r : Record) (rs : List Record) → nat_le floor r.place ≡ true → above floor (r ∷ rs) ≡ r ∷ above floor rs
above_here floor r rs here = ap (λ (b : Bool). if b then r ∷ above floor rs else above floor rs) here

above_low : (floor : ℕ) (r : Record) (rs : List Record) → nat_le floor r.place ≡ false → above floor (r ∷ rs) ≡ above floor rs
above_low floor r rs here = ap (λ (b : Bool). if b then r ∷ above floor rs else above floor rs) here

module _ (segment : List ℕ) (s next : Stand) (floor : ℕ) (r : Record) (step : (rs : List Record) → Gives segment s rs ↔ ((more : List Record) × (rs ≡ r ∷ more) × Gives segment next more)) where
  pub above_step : nat_le floor r.place ≡ true → (rs : List Record) → GivesAbove segment s floor rs ↔ ((more : List Record) × (rs ≡ r ∷ more) × GivesAbove segment next floor more)
  above_step here rs = (
    λ g. let x = (step g.all).0 g.gives in
        (above floor x.0, g.are ∙ ap (above floor) x.1 ∙ above_here floor r x.0 here, record { all = x.0; gives = x.2; are = refl }),
    λ x. let g = x.2 in record {
      all = r ∷ g.all;
      gives = (step (r ∷ g.all)).1 (g.all, refl, g.gives);
      are = x.1 ∙ ap (λ (ys : List Record). r ∷ ys) g.are ∙ sym (above_here floor r g.all here);
    },
  )

  pub above_on : nat_le floor r.place ≡ false → (rs : List Record) → GivesAbove segment s floor rs ↔ GivesAbove segment next floor rs
  above_on low rs = (
    λ g. let x = (step g.all).0 g.gives in record { all = x.0; gives = x.2; are = g.are ∙ ap (above floor) x.1 ∙ above_low floor r x.0 low },
    λ g. record {
      all = r ∷ g.all;
      gives = (step (r ∷ g.all)).1 (g.all, refl, g.gives);
      are = g.are ∙ sym (above_low floor r g.all low);
    },
  )

pub above_none : (segment : List ℕ) (s : Stand) (floor : ℕ) → ((rs : List Record) → Gives segment s rs ↔ (rs ≡ [])) → (rs : List Record) → GivesAbove segment s floor rs ↔ (rs ≡ [])
above_none segment s floor none rs = (
  λ g. g.are ∙ ap (above floor) ((none g.all).0 g.gives),
  λ e. record { all = []; gives = (none []).1 refl; are = e },
)

-- From the front of a segment on

all_legal : (segment : List ℕ) (at : ℕ) (batches : List (List Record)) → AreLegalFrom segment at batches → All IsRecord (records_in batches)
all_legal segment at [] h = All-nil IsRecord
all_legal segment at (b ∷ bs) h = All-append IsRecord b (records_in bs) h.0.legal.legal (all_legal segment (at + batch_size b) bs h.1)

in_place_none : (place : ℕ) (records : List Record) → 2 ^ 63 ≤ place → All IsRecord records → in_place place records ≡ []
in_place_none place [] high legal = refl
in_place_none place (r ∷ rs) high legal =
    let first : IsRecord r = All-head IsRecord r rs legal in
    let other : r.place == place ≡ false = search (arith, first.place, high) in
    ap (λ (b : Bool). if b then r ∷ in_place (place + 1) rs else in_place (place + 1) rs) other ∙ in_place_none (place + 1) rs (omega (arith, high)) (All-tail IsRecord r rs legal)

capped : (first : ℕ) (records : List Record) → All IsRecord records → in_place (min first (2 ^ 63)) records ≡ in_place first records
capped first records legal = ⊎_elim
    (λ (low : first < 2 ^ 63). ap (λ (n : ℕ). in_place n records) (let e : min first (2 ^ 63) ≡ first = omega (arith, low) in e))
    (λ (high : 2 ^ 63 ≤ first). in_place_none (min first (2 ^ 63)) records (omega (arith, high)) legal ∙ sym (in_place_none first records high legal))
    (cases_lt first (2 ^ 63))

pub given_front : (segment : List ℕ) (first : ℕ) (records : List Record) → GivenBy segment first records ↔ Gives segment (front first) records
given_front segment first records = (
  λ g. record {
    all = records_in g.batches;
    ahead = record { left = []; batches = g.batches; here = left_none segment 64 64 (omega arith); behind = g.legal; are = refl };
    are = g.are ∙ sym (capped first (records_in g.batches) (all_legal segment 64 g.batches g.legal));
  },
  λ g. let h = g.ahead in record {
    batches = h.batches;
    legal = h.behind;
    are = g.are ∙ ap (in_place (min first (2 ^ 63))) (h.are ∙ ap (λ (xs : List Record). xs ++ records_in h.batches) (none_left segment 64 64 h.left (omega arith) h.here))
        ∙ capped first (records_in h.batches) (all_legal segment 64 h.batches h.behind);
  },
)
