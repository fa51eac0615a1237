-- Joining two passes keeps the rule.
use Rattle.std.proofs.Common.{◌≡◌, ◌≢◌, ◌⊎◌, ℕ, ◌<◌, Bool, true, false, List, [], ◌∷◌, set, None, inl, inr, refl, ap, sym, ◌∙◌, subst, ⊎_elim, arith}
use Rattle.std.specs.Prelude.{is_some}
use mathlib.Core.Logic.{dite}
use mathlib.Core.Option.{some}
use mathlib.Core.List.{IsPrefix, nil-sublist}
use native.Mathlib.Decide.{ℕ_discrete}
use lib.ListN.{get_elem?}
use Rattle.atomic_table.specs.Table.{Joins}
use Rattle.atomic_table.proofs.Lists.{set_else}
use Rattle.vdr_latch.specs.declared.view.View.{View}
use Rattle.vdr_latch.specs.Views.{spent, waits}
use Rattle.vdr_latch.specs.Rule.{Somewhere, Fits, IsKept}
use Rattle.vdr_latch.specs.Steps.{joined}
use Rattle.vdr_latch.proofs.Prefixes.{prefix_none}
use Rattle.vdr_latch.proofs.Seats.{set_there, same_at, sum_set, count_same, everywhere_set, differ_set, differ_same}
use Rattle.vdr_latch.proofs.Stepping.{off, no_ticket, value_stays}

module _ {E T : Type 0} (leaves : List E → T → Type 0) (leading : E → Bool) where
  pub joins : (id : ℕ) (v : View E) (other : ℕ) (w : View E) → 0 < v.parts → v.in_turn ≡ false → v.told ≡ [] → w.leads ≡ false → w.ticket ≡ None → w.in_turn ≡ false → w.told ≡ []
      → Joins (IsKept leaves leading) id v other w (joined v w) spent
  joins id v other w some_part out told w_leads w_idle w_out w_told s h at two at' =
      let b : View E = joined v w in
      let views : List (View E) = set s.views id b in
      let was : get_elem? s.views other ≡ some w = sym (set_else s.views id other b two) ∙ at' in
      let mine = h.fits id v at in
      let theirs = h.fits other w was in
      record {
        serving = h.serving;
        next = h.next;
        history = h.history;
        words = h.words;
        room = h.room;
        served = h.served;
        queue = let c = count_same waits s.views id v b at refl in let d = count_same waits views other w spent at' (sym (ap is_some w_idle)) in let q = h.queue in omega arith;
        differ = differ_set views other spent (differ_same s.views id v b at refl h.differ) (λ t has j u _ _ _. no_ticket None t refl has);
        leader = let c = count_same (λ (u : View E). u.leads) s.views id v b at refl in let d = count_same (λ (u : View E). u.leads) views other w spent at' (sym w_leads) in let l = h.leader in omega arith;
        parts = let c = sum_set (λ (u : View E). u.parts) s.views id v b at in let d = sum_set (λ (u : View E). u.parts) views other w spent at' in let p = h.parts in omega arith;
        fits = everywhere_set (Fits leaves leading h.serving h.next h.history) views other spent
            record {
              known = record { begins = (h.history, refl); stands = nil-sublist h.history; led = λ p. absurd (off p) };
              told = (h.history, refl);
              ticket = λ t has. absurd (no_ticket None t refl has);
              turn = λ p. absurd (off p);
              spent = λ _. refl;
            }
            (λ j u _ e. everywhere_set (Fits leaves leading h.serving h.next h.history) s.views id b
            record { known = mine.known; told = theirs.known.begins; ticket = mine.ticket; turn = mine.turn; spent = λ p. absurd (omega arith) }
            (λ j u _ e. h.fits j u e) j u e);
        whole = whole_after h.whole;
        value = value_stays leaves leading h.history s.homes views other w spent at' w_out (value_stays leaves leading h.history s.homes s.views id v b at out h.value);
      }
    where
      -- a seat that was told nothing, and yet of the whole history
      none_yet : [] ≡ h.history → v.seen ≡ h.history
      none_yet e = let p : IsPrefix v.seen [] = subst (λ l. IsPrefix v.seen l) (sym e) (h.fits id v at).known.begins in prefix_none v.seen p ∙ e

      here : get_elem? (set (set s.views id (joined v w)) other spent) id ≡ some (joined v w)
      here = set_else (set s.views id (joined v w)) other id spent (λ e. two (sym e)) ∙ set_there s.views id v (joined v w) at

      -- who has seen the whole history is the other, or this one, or one far from both
      whole_after : Somewhere (λ (u : View E). (u.seen ≡ h.history) ⊎ (u.told ≡ h.history)) s.views → Somewhere (λ (u : View E). (u.seen ≡ h.history) ⊎ (u.told ≡ h.history)) (set (set s.views id (joined v w)) other spent)
      whole_after x = dite (ℕ_discrete x.0 other)
          (λ same.
          let was : get_elem? s.views other ≡ some w = sym (set_else s.views id other (joined v w) two) ∙ at' in
          let u_w : x.1 ≡ w = same_at s.views other x.0 w x.1 was x.2 same in
          (id, joined v w, here, ⊎_elim (λ p. inr (ap (λ (u : View E). u.seen) (sym u_w) ∙ p)) (λ p. inl (none_yet (sym w_told ∙ (ap (λ (u : View E). u.told) (sym u_w) ∙ p)))) x.3))
          (λ apart. dite (ℕ_discrete x.0 id)
          (λ same.
          let u_v : x.1 ≡ v = same_at s.views id x.0 v x.1 at x.2 same in
          (id, joined v w, here, ⊎_elim (λ p. inl (ap (λ (u : View E). u.seen) (sym u_v) ∙ p)) (λ p. inl (none_yet (sym told ∙ (ap (λ (u : View E). u.told) (sym u_v) ∙ p)))) x.3))
          (λ far. (x.0, x.1, set_else (set s.views id (joined v w)) other x.0 spent apart ∙ (set_else s.views id x.0 (joined v w) far ∙ x.2), x.3)))
