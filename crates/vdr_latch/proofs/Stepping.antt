-- What the steps of the latch have in common.
use Rattle.std.proofs.Common.{◌≡◌, ℕ, ◌+◌, Bool, true, false, true≢false, List, [], ◌∷◌, Option, Some, None, set, get_or, cond, inl, inr, refl, ap, sym, ◌∙◌, subst, arith}
use Rattle.std.specs.Prelude.{slice_index, is_some}
use Rattle.std.proofs.lemmas.List.{set-get_or}
use mathlib.Core.Option.{Option as Place, some}
use lib.ListN.{get_elem?}
use Rattle.atomic_table.specs.Table.{State, keeps, stepped}
use Rattle.atomic_table.proofs.Lists.{set_again}
use Rattle.vdr_latch.specs.declared.view.View.{View}
use Rattle.vdr_latch.specs.Views.{waits}
use Rattle.vdr_latch.specs.Rule.{Somewhere, Fits, IsLeft, IsKept}
use Rattle.vdr_latch.proofs.Seats.{set_there, sum_set, count_same, everywhere_set, somewhere_set, differ_same}

pub off : false ≡ true → ⊥
off e = true≢false (sym e)

pub no_ticket : (ticket : Option ℕ) (t : ℕ) → ticket ≡ None → ticket ≡ Some t → ⊥
no_ticket ticket t p q = let e : None ≡ Some t = sym p ∙ q in cc (e)

module _ {E T : Type 0} (leaves : List E → T → Type 0) (leading : E → Bool) where
  pub serving_is : (s : State (Option T) (View E)) (h : IsKept leaves leading s) → slice_index s.words 0 ≡ h.serving
  serving_is s h = ap (λ ws. get_or ws 0 0) h.words

  pub next_is : (s : State (Option T) (View E)) (h : IsKept leaves leading s) → slice_index s.words 1 ≡ h.next
  next_is s h = ap (λ ws. get_or ws 1 0) h.words

  -- a step that changes nothing
  pub unchanged : (s : State (Option T) (View E)) (i id : ℕ) (cs : List (ℕ × Option T)) (v : View E) → IsKept leaves leading s → get_elem? s.views id ≡ some v
      → IsKept leaves leading (stepped s i (slice_index s.words i) id cs v keeps)
  unchanged s i id cs v h at = subst (λ (y : List ℕ × List (View E)). IsKept leaves leading record { words = y.0; homes = s.homes; views = y.1 })
      (λ k. (sym (set-get_or s.words i 0) k, sym (set_again s.views id v at) k)) h

  -- the value stays where it is, while a seat changes that is not in turn
  pub value_stays : (history : List E) (homes : List (Place (Option T))) (views : List (View E)) (id : ℕ) (v w : View E) → get_elem? views id ≡ some v → v.in_turn ≡ false
      → IsLeft leaves leading history homes views → IsLeft leaves leading history homes (set views id w)
  value_stays history homes views id v w at out (inl x) = inl x
  value_stays history homes views id v w at out (inr x) = inr (somewhere_set (λ (u : View E). u.in_turn ≡ true) views id v w at (λ p. absurd (off (sym out ∙ p))) x.0, x.1)

  -- A seat sees the whole history. It keeps its parts and its ticket, and leads or not as before.
  pub sees : (s : State (Option T) (View E)) (h : IsKept leaves leading s) (id : ℕ) (v w : View E) (homes : List (Place (Option T))) → get_elem? s.views id ≡ some v
      → w.parts ≡ v.parts → w.leads ≡ v.leads → w.ticket ≡ v.ticket → w.seen ≡ h.history → Fits leaves leading h.serving h.next h.history w
      → IsLeft leaves leading h.history homes (set s.views id w)
      → IsKept leaves leading record { words = set s.words 0 (slice_index s.words 0); homes = homes; views = set s.views id w }
  sees s h id v w homes at parts leads ticket seen fits value = record {
    serving = h.serving;
    next = h.next;
    history = h.history;
    words = set-get_or s.words 0 0 ∙ h.words;
    room = h.room;
    served = h.served;
    queue = let c = count_same waits s.views id v w at (ap is_some ticket) in let q = h.queue in omega arith;
    differ = differ_same s.views id v w at ticket h.differ;
    leader = count_same (λ (u : View E). u.leads) s.views id v w at leads ∙ h.leader;
    parts = let c = sum_set (λ (u : View E). u.parts) s.views id v w at in let p = h.parts in omega arith;
    fits = everywhere_set (Fits leaves leading h.serving h.next h.history) s.views id w fits (λ j u _ e. h.fits j u e);
    whole = (id, w, set_there s.views id v w at, inl seen);
    value = value;
  }
