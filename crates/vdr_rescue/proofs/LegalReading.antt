-- What segments give that stand in a legal order: all their records.
use Rattle.std.proofs.Common.{◌≡◌, ◌≤◌, ◌+◌, ℕ, suc, Bool, true, false, List, [], ◌∷◌, length, map, take, drop, All, Option, Some, None, refl, sym, ap, ◌∙◌, subst, arith}
use Rattle.std.specs.Prelude.{◌||◌, IfSome, nat_lt, not}
use Rattle.std.proofs.lemmas.Bool.{le-leb, lt-ltb}
use Rattle.std.proofs.lemmas.List.Elements.{All-head, All-tail}
use Rattle.vdr_terms.specs.Records.{Record}
use Rattle.vdr_terms.specs.Order.{NeverFalls, RunOn}
use Rattle.vdr_entry.specs.declared.summary.Summary.{Summary}
use Rattle.vdr_segment.specs.declared.header.Header.{Header}
use Rattle.vdr_segment.specs.Segments.{IsSlot}
use Rattle.vdr_segment.proofs.BatchListLemmas.{one_batches}
use Rattle.vdr_segment.proofs.SegmentLemmas.{one_header}
use Rattle.vdr_index.specs.Extents.{records_in}
use Rattle.vdr_directory.specs.Opening.{slot_bytes}
use Rattle.vdr_directory.specs.Order.{Agrees, AreInPlace, MayFollow, RunsOn, next_place}
use Rattle.vdr_directory.specs.Sequence.{Placed, all_records, batches_of, first_of, records_of, seq_of}
use Rattle.vdr_ring.specs.Damage.{AgreeBy}
use Rattle.vdr_rescue.specs.declared.told.Told.{Told}
use Rattle.vdr_rescue.specs.Given.{above}
use Rattle.vdr_rescue.specs.Judging.{AreOff, IsOutOfOrder, JudgesAlone, falls_behind, strays}
use Rattle.vdr_rescue.specs.Readings.{AreRead, IsRead, floor_behind}
use Rattle.vdr_rescue.specs.Runs.{run_behind}
use Rattle.vdr_rescue.proofs.AboveLemmas.{above_here}
use Rattle.vdr_rescue.proofs.GivenLemmas.{in_place_all, legal_whole}
use Rattle.vdr_rescue.proofs.LegalFronts.{head_of}

abbrev pub told_of : Placed → Told
told_of p = record { fault = None; run = run_behind None (records_of p) }

-- Records whose places run on from the floor on, or from above it

above_all : (floor first : ℕ) (rs : List Record) → floor ≤ first → RunOn first rs → above floor rs ≡ rs
above_all floor first [] le h = refl
above_all floor first (r ∷ rs) le h =
    let at = h.0 in
    above_here floor r rs (le-leb floor r.place (omega (arith, le, at))) ∙ ap (λ (xs : List Record). r ∷ xs) (above_all floor (suc first) rs (omega (arith, le)) h.1)

floor_after : (floor first : ℕ) (rs : List Record) → floor ≤ first → RunOn first rs → floor_behind floor rs ≤ first + length rs
floor_after floor first [] le h = omega (arith, le)
floor_after floor first (r ∷ rs) le h = let at = h.0 in let rest = floor_after (r.place + 1) (suc first) rs (omega (arith, at)) h.1 in omega (arith, rest)

-- A segment is not damaged, and does not stray

agree_by : (p : Placed) (o : Option Summary) → RunsOn p → IfSome o (Agrees p) → AgreeBy o (first_of p) (batches_of p)
agree_by p None runs a = tt
agree_by p (Some s) runs a = record {
  within = record { places = runs.places; ticks = runs.ticks; count = let e = a.count in omega (arith, e); covered = a.covered };
  count = a.count;
}

whole_alone : (bytes : List ℕ) (p : Placed) → IsSlot bytes (Some p.segment) → RunsOn p → IfSome p.segment.header.summary (Agrees p) → JudgesAlone bytes None
whole_alone bytes p is runs agrees = (
  λ opened. (p.segment.header, is.1.header, p.segment.batches, is.1.batches, agree_by p p.segment.header.summary runs agrees),
  in_order,
)
  where
    in_order : IsOutOfOrder bytes → ⊥
    in_order x =
        let off : AreOff bytes (first_of p) = subst (λ (h : Header). AreOff bytes h.first) (one_header (take 64 bytes) x.header p.segment.header x.is is.1.header) x.off in
        let same : p.segment.batches ≡ off.batches = one_batches (drop 64 bytes) p.segment.batches off.batches is.1.batches off.are in
        off.off (subst (λ (bs : List (List Record)). RunOn (first_of p) (records_in bs) × NeverFalls 0 (records_in bs)) same (runs.places, runs.ticks))

none_of : (a b c : Bool) → a ≡ false → b ≡ false → c ≡ false → a || (b || c) ≡ false
none_of false false false x y z = refl
none_of true b c x y z = absurd (let none : ⊥ = cc in none)
none_of false true c x y z = absurd (let none : ⊥ = cc in none)
none_of false false true x y z = absurd (let none : ⊥ = cc in none)

not_less : (a b : ℕ) → b ≤ a → nat_lt a b ≡ false
not_less a b le = search (arith, le)

-- the segment that was read before
abbrev pub seq_before : Option Placed → Option ℕ
seq_before None = None
seq_before (Some q) = Some (seq_of q)

abbrev reach : Option Placed → ℕ
reach None = 0
reach (Some q) = next_place q

never_behind : (o : Option Placed) (p : Placed) → MayFollow o p → falls_behind (seq_before o) (seq_of p) ≡ false
never_behind None p h = refl
never_behind (Some q) p h = ap not (lt-ltb (seq_of q) (seq_of p) h.seq)

reached : (o : Option Placed) (p : Placed) (floor : ℕ) → MayFollow o p → floor ≤ reach o → floor ≤ first_of p
reached None p floor h le = omega (arith, le)
reached (Some q) p floor h le = let place = h.place in omega (arith, le, place)

never_strays : (o : Option Placed) (p : Placed) (floor : ℕ) → MayFollow o p → RunsOn p → floor ≤ first_of p → strays (seq_before o) floor (head_of p) ≡ false
never_strays o p floor h runs le =
    none_of (falls_behind (seq_before o) (seq_of p)) (nat_lt (first_of p) floor) (nat_lt (first_of p) (seq_of p)) (never_behind o p h) (not_less (first_of p) floor le) (not_less (first_of p) (seq_of p) runs.by_place)

-- One segment after another

module _ (segment : ℕ) (bytes : List ℕ) where
  abbrev pub IsHere : Placed → Type 0
  IsHere p = IsSlot (slot_bytes segment p.slot bytes) (Some p.segment)

  is_read : (o : Option Placed) (floor : ℕ) (p : Placed) → IsHere p → RunsOn p → IfSome p.segment.header.summary (Agrees p) → MayFollow o p → floor ≤ first_of p
      → IsRead (slot_bytes segment p.slot bytes) (seq_before o) floor (head_of p) (told_of p) (records_of p)
  is_read o floor p here runs agrees follows le = record {
    all = records_of p;
    gives = record {
      batches = p.segment.batches;
      legal = legal_whole (slot_bytes segment p.slot bytes) 64 p.segment.batches here.1.batches;
      are = sym (in_place_all (first_of p) (records_of p) runs.places);
    };
    are = sym (above_all floor (first_of p) (records_of p) le runs.places);
    run = refl;
    fault = (whole_alone (slot_bytes segment p.slot bytes) p here runs agrees, never_strays o p floor follows runs le);
  }

  pub are_read : (o : Option Placed) (floor : ℕ) (ps : List Placed) → AreInPlace o ps → floor ≤ reach o → All IsHere ps
      → AreRead segment bytes (seq_before o) floor (map head_of ps) (map told_of ps) (all_records ps)
  are_read o floor [] h le here = refl
  are_read o floor (p ∷ ps) h le here =
      let runs = h.0.runs_on in
      let from = reached o p floor h.0.follows le in
      let on : floor_behind floor (records_of p) ≤ next_place p = floor_after floor (first_of p) (records_of p) from runs.places in (
        records_of p,
        is_read o floor p (All-head IsHere p ps here) runs h.0.agrees h.0.follows from,
        (all_records ps, are_read (Some p) (floor_behind floor (records_of p)) ps h.1 on (All-tail IsHere p ps here), refl),
      )
