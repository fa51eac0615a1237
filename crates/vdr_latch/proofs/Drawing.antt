-- Drawing a ticket keeps the rule.
use Rattle.std.proofs.Common.{◌≡◌, ◌≢◌, ℕ, ◌+◌, ◌^◌, ◌<◌, Bool, true, false, List, ◌∷◌, Option, Some, None, set, eqb, cond, refl, ap, sym, ◌∙◌, arith}
use Rattle.std.specs.Prelude.{slice_index, is_some}
use mathlib.Core.Option.{some, none}
use lib.ListN.{get_elem?}
use prog.Atomic.{either}
use Rattle.atomic_table.specs.Table.{State, Me, Act, step, keeps, stepped, Valid, Allows, carried_after}
use Rattle.atomic_table.proofs.Lists.{exchanged}
use Rattle.vdr_latch.specs.declared.view.View.{View}
use Rattle.vdr_latch.specs.Views.{waits}
use Rattle.vdr_latch.specs.Rule.{Fits, IsKept}
use Rattle.vdr_latch.specs.Steps.{drew, Draws}
use Rattle.vdr_latch.proofs.Seats.{sum_set, count_same, count_more, everywhere_set, somewhere_set, differ_set}
use Rattle.vdr_latch.proofs.Stepping.{off, next_is, unchanged, value_stays}

module _ {E T : Type 0} (leaves : List E → T → Type 0) (leading : E → Bool) where
  drawn : (s : State (Option T) (View E)) (id : ℕ) (cs : List (ℕ × Option T)) (v : View E) (old : ℕ) → IsKept leaves leading s → get_elem? s.views id ≡ some v → 0 < v.parts → v.ticket ≡ None → v.in_turn ≡ false
      → old + 1 < 2 ^ 64 → slice_index s.words 1 ≡ old → IsKept leaves leading (stepped s 1 (old + 1) id cs (drew old v) keeps)
  drawn s id cs v old h at some_part idle out small is =
      let w : View E = drew old v in
      let now : h.next ≡ old = sym (next_is leaves leading s h) ∙ is in
      let mine = h.fits id v at in
      let queue = h.queue in
      record {
        serving = h.serving;
        next = old + 1;
        history = h.history;
        words = ap (λ ws. set ws 1 (old + 1)) h.words;
        room = small;
        served = h.served;
        queue = let c = count_more waits s.views id v w at (ap is_some idle) refl in omega arith;
        differ = differ_set s.views id w h.differ (λ t has j u _ at_u has'. let e : old ≡ t = cc (has) in let d = (h.fits j u at_u).ticket t has' in absurd (omega arith));
        leader = count_same (λ (u : View E). u.leads) s.views id v w at refl ∙ h.leader;
        parts = let c = sum_set (λ (u : View E). u.parts) s.views id v w at in let p = h.parts in omega arith;
        fits = everywhere_set (Fits leaves leading h.serving (old + 1) h.history) s.views id w
            record {
              known = mine.known;
              told = mine.told;
              ticket = λ t has. let e : old ≡ t = cc (has) in (omega arith, omega arith);
              turn = λ p. absurd (off (sym out ∙ p));
              spent = λ p. absurd (omega arith);
            }
            (λ j u _ e. let f = h.fits j u e in record { known = f.known; told = f.told; ticket = λ t has. let d = f.ticket t has in (d.0, omega arith); turn = f.turn; spent = f.spent });
        whole = somewhere_set _ s.views id v w at (λ p. p) h.whole;
        value = value_stays leaves leading h.history s.homes s.views id v w at out h.value;
      }

  pub draws : (slots id : ℕ) (m : Me (Option T) (View E)) (old : ℕ) → 0 < m.0.parts → m.0.ticket ≡ None → m.0.in_turn ≡ false → old + 1 < 2 ^ 64
      → Allows (IsKept leaves leading) slots id m 1 (λ n. either (eqb n old) (old + 1) n) (Draws (step slots 1 old (old + 1) none) m)
  draws slots id m old some_part idle out small s h _ at _ =
      let n = slice_index s.words 1 in
      exchanged n old (old + 1) (λ k. (w : View E) × (a : Act (Option T)) × Valid s.homes m.1 a × IsKept leaves leading (stepped s 1 k id m.1 w a) × Draws (step slots 1 old (old + 1) none) m n (w, carried_after m.1 a))
      (λ e. (drew old m.0, keeps, tt, drawn s id m.1 m.0 old h at some_part idle out small e, ((λ _. refl), λ ne. absurd (ne e))))
      (λ ne. (m.0, keeps, tt, unchanged leaves leading s 1 id m.1 m.0 h at, ((λ e. absurd (ne e)), λ _. refl)))
