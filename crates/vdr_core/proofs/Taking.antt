-- What the recorder takes keeps each lane's account.
use Rattle.std.proofs.Common.{◌≡◌, ◌+◌, ℕ, max, List, [], ◌∷◌, ◌++◌, length, Bool, true, false, ◌&&◌, ◌==◌, refl, sym, ap, ◌∙◌, subst, arith, ⊎_elim, append-nil, append_assoc, true≢false}
use Rattle.std.proofs.lemmas.Bool.{cases_eq, eq-eqb, ne_eqb, cond-true, cond-false}
use Rattle.std.proofs.lemmas.List.Elements.{filter-append}
use Rattle.std.proofs.lemmas.List.Sums.{fold-append}
use Rattle.vdr_terms.specs.Records.{Record, total, second, has_items, records_of}
use Rattle.vdr_core.specs.Runs.{RunStart, base_of}
use Rattle.vdr_terms.specs.Counting.{Pending, merged, with_missed, past_datagram, past_refusal}
use Rattle.vdr_core.specs.Recorder.{Recorder, begun, next_in, tick_of, tick_with, gap_of, with_pending, passed, admits, took, taken_all, recorder_after}
use Rattle.vdr_core.specs.Machine.{Lane, idle, with_queue}
use Rattle.vdr_core.specs.Law.{Admits}
use Rattle.vdr_core.specs.Taken.{Captured}
use Rattle.vdr_core.proofs.Meter.{same_admitted}
use Rattle.vdr_core.proofs.Lanes.{Inv, inv_idle, inv_grows, inv_refused, inv_admitted, added, added_own, added_other}
use Rattle.vdr_core.proofs.Gaps.{GapsPaired, paired_append, paired_added}

-- each lane is as the recorder has it
abbrev pub AllLanes : RunStart → Recorder → (ℕ → Lane) → Type 0
AllLanes start r lanes = (g : ℕ) → Inv (start.limits g) (base_of start) (tick_of start r) g (records_of g r.made) (r.pending g) (lanes g)

more_made : (made new : List Record) (g : ℕ) → records_of g (made ++ new) ≡ records_of g made ++ records_of g new
more_made made new g = filter-append (λ (r : Record). has_items r.content && r.group == g) made new

module _ (start : RunStart) (ok : Admits start.limits) (r : Recorder) (c : Captured) (rest : List Captured) (lanes now : ℕ → Lane)
    (front : (lanes c.group).queue ≡ c ∷ rest) (mine : now c.group ≡ with_queue rest (lanes c.group)) (others : (h : ℕ) → (c.group ≡ h → ⊥) → now h ≡ lanes h)
    (all : AllLanes start r lanes) where
  passed_keeps : (passes : Bool) → admits start r c ≡ passes → AllLanes start (passed passes start c (tick_with start r c) r (with_missed c.missed (r.pending c.group))) now
  passed_keeps false e h = ⊎_elim here there (cases_eq c.group h)
    where
      tick : ℕ
      tick = base_of start + max r.greatest c.received

      p : Pending
      p = past_refusal (with_missed c.missed (r.pending c.group))

      Goal : ℕ → Type 0
      Goal k = Inv (start.limits k) (base_of start) (base_of start + max r.greatest c.received) k (records_of k r.made) (with_pending r.pending c.group (past_refusal (with_missed c.missed (r.pending c.group))) k) (now k)

      at : Goal c.group
      at = subst (λ (x : Pending × Lane). Inv (start.limits c.group) (base_of start) (base_of start + max r.greatest c.received) c.group (records_of c.group r.made) x.0 x.1)
          (λ i. (sym (cond-true (c.group == c.group) p (r.pending c.group) (eq-eqb c.group c.group refl)) i, sym mine i))
          (inv_refused start (tick_of start r) tick (records_of c.group r.made) (r.pending c.group) (lanes c.group) c rest front (omega arith) (omega arith) (ok c.group)
          (same_admitted (start.limits c.group) c.group r.made (second tick) (length c.bytes) ∙ e) (all c.group))

      here : c.group ≡ h → Goal h
      here same = subst Goal same at

      there : (c.group ≡ h → ⊥) → Goal h
      there ne = subst (λ (x : Pending × Lane). Inv (start.limits h) (base_of start) (base_of start + max r.greatest c.received) h (records_of h r.made) x.0 x.1)
          (λ i. (sym (cond-false (h == c.group) p (r.pending h) (ne_eqb h c.group (λ q. ne (sym q)))) i, sym (others h ne) i))
          (inv_grows (start.limits h) (base_of start) h (tick_of start r) tick (records_of h r.made) (r.pending h) (lanes h) (omega arith) (all h))
  passed_keeps true e h = ⊎_elim here there (cases_eq c.group h)
    where
      tick : ℕ
      tick = base_of start + max r.greatest c.received

      before : Pending
      before = with_missed c.missed (r.pending c.group)

      p : Pending
      p = past_datagram (with_missed c.missed (r.pending c.group))

      gap : List Record
      gap = gap_of start c.group (next_in start r.made) tick c.utc before

      place : ℕ
      place = next_in start r.made + length gap

      new : List Record
      new = added start c tick (next_in start r.made) place before.first before.missed (total before.missed)

      Goal : ℕ → Type 0
      Goal k = Inv (start.limits k) (base_of start) tick k (records_of k (r.made ++ new)) (with_pending r.pending c.group p k) (now k)

      at : Goal c.group
      at = subst (λ (x : List Record × Pending × Lane). Inv (start.limits c.group) (base_of start) tick c.group x.0 x.1 x.2)
          (λ i. (
            sym (more_made r.made new c.group ∙ ap (λ (xs : List Record). records_of c.group r.made ++ xs) (added_own start c tick (next_in start r.made) place before.first before.missed (total before.missed))) i,
            sym (cond-true (c.group == c.group) p (r.pending c.group) (eq-eqb c.group c.group refl)) i,
            sym mine i,
          ))
          (inv_admitted start (tick_of start r) tick (records_of c.group r.made) (r.pending c.group) (lanes c.group) c rest (next_in start r.made) place front (omega arith)
          (same_admitted (start.limits c.group) c.group r.made (second tick) (length c.bytes) ∙ e) (all c.group))

      here : c.group ≡ h → Goal h
      here same = subst Goal same at

      there : (c.group ≡ h → ⊥) → Goal h
      there ne = subst (λ (x : List Record × Pending × Lane). Inv (start.limits h) (base_of start) tick h x.0 x.1 x.2)
          (λ i. (
            sym (more_made r.made new h ∙ (ap (λ (xs : List Record). records_of h r.made ++ xs) (added_other start c tick (next_in start r.made) place before.first before.missed (total before.missed) h ne) ∙ append-nil (records_of h r.made))) i,
            sym (cond-false (h == c.group) p (r.pending h) (ne_eqb h c.group (λ q. ne (sym q)))) i,
            sym (others h ne) i,
          ))
          (inv_grows (start.limits h) (base_of start) h (tick_of start r) tick (records_of h r.made) (r.pending h) (lanes h) (omega arith) (all h))

  pub took_keeps : AllLanes start (took start r c) now
  took_keeps = passed_keeps (admits start r c) refl

pub begun_lanes : (start : RunStart) → AllLanes start (begun start) (λ g. idle)
begun_lanes start g = inv_idle (start.limits g) (base_of start) g (tick_of start (begun start))

-- gaps and growth of what is made
pub took_paired : (start : RunStart) (r : Recorder) (c : Captured) → GapsPaired r.made → GapsPaired (took start r c).made
took_paired start r c h = go (admits start r c)
  where
    go : (passes : Bool) → GapsPaired (passed passes start c (tick_with start r c) r (with_missed c.missed (r.pending c.group))).made
    go false = h
    go true = paired_append r.made _ h (paired_added start c (tick_with start r c) _ _ _ (merged (r.pending c.group).missed c.missed) _)

took_grows : (start : RunStart) (r : Recorder) (c : Captured) → (more : List Record) × ((took start r c).made ≡ r.made ++ more)
took_grows start r c = go (admits start r c)
  where
    go : (passes : Bool) → (more : List Record) × ((passed passes start c (tick_with start r c) r (with_missed c.missed (r.pending c.group))).made ≡ r.made ++ more)
    go false = ([], sym (append-nil r.made))
    go true = (_, refl)

pub all_paired : (start : RunStart) (r : Recorder) (items : List Captured) → GapsPaired r.made → GapsPaired (taken_all start r items).made
all_paired start r [] h = h
all_paired start r (c ∷ items) h = all_paired start (took start r c) items (took_paired start r c h)

pub all_grows : (start : RunStart) (r : Recorder) (items : List Captured) → (more : List Record) × ((taken_all start r items).made ≡ r.made ++ more)
all_grows start r [] = ([], sym (append-nil r.made))
all_grows start r (c ∷ items) =
    let p = took_grows start r c in
    let q = all_grows start (took start r c) items in
    (p.0 ++ q.0, q.1 ∙ (ap (λ (xs : List Record). xs ++ q.0) p.1 ∙ append_assoc r.made p.0 q.0))

pub begun_paired : (start : RunStart) → GapsPaired (begun start).made
begun_paired start = ((λ e. absurd (true≢false (sym e))), tt)

pub made_paired : (start : RunStart) (items : List Captured) → GapsPaired (recorder_after start items).made
made_paired start items = all_paired start (begun start) items (begun_paired start)

pub one_more_taken : (start : RunStart) (items : List Captured) (c : Captured) → recorder_after start (items ++ c ∷ []) ≡ took start (recorder_after start items) c
one_more_taken start items c = fold-append (took start) (begun start) items (c ∷ [])

pub more_taken : (start : RunStart) (items more : List Captured) → recorder_after start (items ++ more) ≡ taken_all start (recorder_after start items) more
more_taken start items more = fold-append (took start) (begun start) items more
