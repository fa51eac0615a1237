-- A query of all records selects all that a medium gives.
use Rattle.std.proofs.Common.{◌≡◌, ℤ, pos, Bool, true, List, [], ◌∷◌, All, Option, None, refl, sym, ap, ◌∙◌, subst, arith}
use Rattle.std.specs.Prelude.{int_le, unsigned_abs, ◌&&◌}
use Rattle.std.proofs.lemmas.Bool.{cond-true, le-leb}
use Rattle.std.proofs.lemmas.List.Elements.{All-head, All-tail}
use Rattle.vdr_terms.specs.Legality.{IsRecord}
use Rattle.vdr_terms.specs.Queries.{Query}
use Rattle.vdr_terms.specs.Queries.Medium.{WindowOf}
use Rattle.vdr_terms.specs.Records.{Record}
use Rattle.vdr_terms.specs.Stamps.{IsStamp, last_stamp}
use Rattle.vdr_core.specs.Histories.{Incident}
use Rattle.vdr_rescue.specs.Visiting.{selected_by, selects}

abbrev pub all_of : Query
all_of = record { medium = WindowOf 0; channel = None; from = pos 0; to = pos last_stamp }

stamp_within : (utc : ℤ) → IsStamp utc → int_le (pos 0) utc && int_le utc (pos last_stamp) ≡ true
stamp_within utc h =
    let high : int_le (pos (unsigned_abs utc)) (pos last_stamp) ≡ true = le-leb (unsigned_abs utc) last_stamp h.in_time in
    let low : int_le (pos 0) (pos (unsigned_abs utc)) ≡ true = le-leb 0 (unsigned_abs utc) (omega arith) in
    subst (λ (z : ℤ). int_le (pos 0) z && int_le z (pos last_stamp) ≡ true) (sym h.whole)
    (ap (λ (b : Bool). b && int_le (pos (unsigned_abs utc)) (pos last_stamp)) low ∙ high)

pub all_selected : (table : List (Option Incident)) (given : List Record) → All IsRecord given → selected_by table all_of given ≡ given
all_selected table [] h = refl
all_selected table (r ∷ rs) h =
    let more = all_selected table rs (All-tail IsRecord r rs h) in
    cond-true (selects table all_of r) (r ∷ selected_by table all_of rs) (selected_by table all_of rs) (stamp_within r.utc (All-head IsRecord r rs h).utc)
    ∙ ap (λ (xs : List Record). r ∷ xs) more
