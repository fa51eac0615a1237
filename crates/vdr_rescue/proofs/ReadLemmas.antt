-- One medium alone as what is read.
use Rattle.std.proofs.Common.{◌≡◌, ℕ, List, get_or, Option, None, Result, Ok, Err, refl, sym, ap, ◌∙◌, subst}
use Rattle.std.specs.Bool.{⊤}
use Rattle.vdr_terms.specs.Records.{Record}
use Rattle.vdr_terms.specs.Queries.{Query}
use Rattle.vdr_core.specs.Histories as histories
use Rattle.vdr_outside.specs.declared.media.Media.{Ghosts as MediaTells}
use Rattle.vdr_outside.specs.Causes.{Rose}
use Rattle.vdr_outside.specs.Disk.{Image, content}
use Rattle.vdr_outside.proofs.Counts.{none_fell, none_falls_join, rose_after}
use Rattle.vdr_outside.proofs.Moments.{unchanged_join, unchanged_none}
use Rattle.vdr_visit.specs.Visits.{ReadEnd, end_of}
use Rattle.vdr_visit.specs.declared.visit_refused.VisitRefused.{VisitRefused}
use Rattle.vdr_visit.specs.declared.visit_refused.VisitRefused.TheVariants.{NoChannel, NoIncident, Fault, Damaged, Output, Own}
use Rattle.vdr_segment.specs.declared.area.Area.{Area}
use Rattle.vdr_segment.specs.Areas.{HasRoom}
use Rattle.vdr_rescue.specs.declared.fronts.Head.{Head}
use Rattle.vdr_rescue.specs.declared.told.Told.{Told}
use Rattle.vdr_rescue.specs.Alones.{AloneState, IsReadThrough, IsSameMedium, LeavesAlone, Selects}
use Rattle.vdr_rescue.specs.Costs.{ReadsNoOther}
use Rattle.vdr_rescue.specs.Cursors.{CursorState, at_front}
use Rattle.vdr_rescue.specs.Readings.{AreRead}
use Rattle.vdr_rescue.specs.Saves.{SavesState}
use Rattle.vdr_rescue.specs.Visiting.{IsLeft, selected_by}

-- All that is left at the front

pub selects_left : (bytes : List ℕ) (a : AloneState) (query : Query) (records : List Record) → Selects bytes a query records → (all : List Told) × IsLeft bytes a.saves.table (at_front a.cursor) query records all
selects_left bytes a query records s = (s.told, record { given = s.given; ends = (s.told, s.read, refl); are = s.are })

pub left_through : (bytes : List ℕ) (table : List (Option histories.Incident)) (c : CursorState) (query : Query) (records : List Record) (all : List Told) → IsLeft bytes table (at_front c) query records all
    → (given : List Record) × IsReadThrough bytes c all given
left_through bytes table c query records all l =
    let e = l.ends in
    (l.given, subst (λ (ts : List Told). AreRead c.area.segment bytes None 0 c.heads ts l.given) (sym e.2) e.1)

-- How a visit ended

pub end_all : {R : Type 0} (r : Result ⊤ (VisitRefused R)) → end_of r ≡ ReadEnd.AllRead → r ≡ Ok tt
end_all (Ok all) e = refl
end_all (Err NoChannel) e = absurd (let none : ⊥ = cc in none)
end_all (Err NoIncident) e = absurd (let none : ⊥ = cc in none)
end_all (Err Fault) e = absurd (let none : ⊥ = cc in none)
end_all (Err (Damaged m offset)) e = absurd (let none : ⊥ = cc in none)
end_all (Err Output) e = absurd (let none : ⊥ = cc in none)
end_all (Err (Own reason)) e = absurd (let none : ⊥ = cc in none)

pub end_fault : {R : Type 0} (r : Result ⊤ (VisitRefused R)) → end_of r ≡ ReadEnd.ReadFault → r ≡ Err Fault
end_fault (Ok all) e = absurd (let none : ⊥ = cc in none)
end_fault (Err NoChannel) e = absurd (let none : ⊥ = cc in none)
end_fault (Err NoIncident) e = absurd (let none : ⊥ = cc in none)
end_fault (Err Fault) e = refl
end_fault (Err (Damaged m offset)) e = absurd (let none : ⊥ = cc in none)
end_fault (Err Output) e = absurd (let none : ⊥ = cc in none)
end_fault (Err (Own reason)) e = absurd (let none : ⊥ = cc in none)

pub end_damaged : {R : Type 0} (r : Result ⊤ (VisitRefused R)) (k at : ℕ) → end_of r ≡ ReadEnd.ReadDamaged k at → (m : ℕ) × (offset : ℕ) × (r ≡ Err (Damaged m offset))
end_damaged (Ok all) k at e = absurd (let none : ⊥ = cc in none)
end_damaged (Err NoChannel) k at e = absurd (let none : ⊥ = cc in none)
end_damaged (Err NoIncident) k at e = absurd (let none : ⊥ = cc in none)
end_damaged (Err Fault) k at e = absurd (let none : ⊥ = cc in none)
end_damaged (Err (Damaged m offset)) k at e = (m, offset, refl)
end_damaged (Err Output) k at e = absurd (let none : ⊥ = cc in none)
end_damaged (Err (Own reason)) k at e = absurd (let none : ⊥ = cc in none)

-- The same medium on media that read the same

module _ (a b : AloneState) (same : IsSameMedium a b) where
  pub same_config : b.config ≡ a.config
  same_config = ap (λ (s : AloneState). s.config) same.kept

  pub same_saves : b.saves ≡ a.saves
  same_saves = ap (λ (s : AloneState). s.saves) same.kept

  pub read_kept : (was now : Image) (told : List Told) (given : List Record) → now ≡ was → IsReadThrough (content was a.cursor.area.medium) a.cursor told given
      → IsReadThrough (content now b.cursor.area.medium) b.cursor told given
  read_kept was now told given reads r =
      subst (λ (image : Image). AreRead b.cursor.area.segment (content image b.cursor.area.medium) None 0 b.cursor.heads told given) (sym reads)
      (subst (λ (hs : List Head). AreRead b.cursor.area.segment (content was b.cursor.area.medium) None 0 hs told given) (sym same.heads)
      (subst (λ (area : Area). AreRead area.segment (content was area.medium) None 0 a.cursor.heads told given) (sym same.area) r))

  pub read_back : (was now : Image) (told : List Told) (given : List Record) → now ≡ was → IsReadThrough (content now b.cursor.area.medium) b.cursor told given
      → IsReadThrough (content was a.cursor.area.medium) a.cursor told given
  read_back was now told given reads r =
      subst (λ (area : Area). AreRead area.segment (content was area.medium) None 0 a.cursor.heads told given) same.area
      (subst (λ (hs : List Head). AreRead b.cursor.area.segment (content was b.cursor.area.medium) None 0 hs told given) same.heads
      (subst (λ (image : Image). AreRead b.cursor.area.segment (content image b.cursor.area.medium) None 0 b.cursor.heads told given) reads r))

  pub selects_kept : (query : Query) (records : List Record) (was now : Image) → now ≡ was → Selects (content was a.cursor.area.medium) a query records → Selects (content now b.cursor.area.medium) b query records
  selects_kept query records was now reads s = record {
    told = s.told;
    given = s.given;
    read = read_kept was now s.told s.given reads s.read;
    are = s.are ∙ ap (λ (saves : SavesState). selected_by saves.table query s.given) (sym same_saves);
  }

pub same_join : (a b c : AloneState) → IsSameMedium a b → IsSameMedium b c → IsSameMedium a c
same_join a b c h k = record {
  kept = k.kept ∙ ap (λ (s : AloneState). record s { cursor = c.cursor }) h.kept;
  area = k.area ∙ h.area;
  heads = k.heads ∙ h.heads;
}

module _ {M : Type 0} (media : MediaTells M) where
  pub leaves_none : (a : AloneState) (x : M) → HasRoom a.cursor.area (media.disk x).sizes → LeavesAlone media a a x x ReadEnd.CutOff
  leaves_none a x room = record {
    same = record { kept = refl; area = refl; heads = refl };
    room = room;
    unchanged = unchanged_none (media.disk x);
    others = λ k other. refl;
    later = none_fell (media.faults x);
    rose = λ e. absurd (let none : ⊥ = cc in none);
    undamaged = λ m offset e. let none : ⊥ = cc in none;
    found = λ e. absurd (let none : ⊥ = cc in none);
  }

  pub leaves_cut : (a b : AloneState) (x y : M) (end : ReadEnd) → LeavesAlone media a b x y end → LeavesAlone media a b x y ReadEnd.CutOff
  leaves_cut a b x y end h = record {
    same = h.same;
    room = h.room;
    unchanged = h.unchanged;
    others = h.others;
    later = h.later;
    rose = λ e. absurd (let none : ⊥ = cc in none);
    undamaged = λ m offset e. let none : ⊥ = cc in none;
    found = λ e. absurd (let none : ⊥ = cc in none);
  }

  pub leaves_join : (a b c : AloneState) (x y z : M) (first end : ReadEnd) → LeavesAlone media a b x y first → LeavesAlone media b c y z end → LeavesAlone media a c x z end
  leaves_join a b c x y z first end h k =
      let medium : b.cursor.area.medium ≡ a.cursor.area.medium = ap (λ (area : Area). area.medium) h.same.area in
      record {
        same = same_join a b c h.same k.same;
        room = k.room;
        unchanged = unchanged_join (media.disk x) (media.disk y) (media.disk z) h.unchanged k.unchanged;
        others = λ j other. subst (λ (m : ℕ). ReadsNoOther m (media.bytes_read y) (media.bytes_read z)) medium k.others j other ∙ h.others j other;
        later = none_falls_join (media.faults x) (media.faults y) (media.faults z) h.later k.later;
        rose = λ e. rose_after (get_or (media.faults x) a.cursor.area.medium 0) (get_or (media.faults y) a.cursor.area.medium 0) (get_or (media.faults z) a.cursor.area.medium 0) (h.later.none_falls a.cursor.area.medium)
            (subst (λ (m : ℕ). Rose (get_or (media.faults y) m 0) (get_or (media.faults z) m 0)) medium (k.rose e));
        undamaged = k.undamaged;
        found = λ e told. let f = k.found e told in (f.0, read_back a b h.same (media.disk x).reads (media.disk y).reads c.cursor.told f.0 (h.unchanged.reads told) f.1);
      }
