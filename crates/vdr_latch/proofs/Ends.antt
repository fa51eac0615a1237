-- The latch as it is opened keeps the rule, and what is known as it is closed.
use Rattle.std.proofs.Common.{◌≡◌, ◌≢◌, ◌⊎◌, ℕ, zero, suc, ◌<◌, ◌^◌, Bool, true, false, List, [], ◌∷◌, Option, Some, None, inl, inr, refl, ap, sym, ◌∙◌, subst, ⊎_elim, arith, lit<}
use mathlib.Core.Logic.{dite}
use mathlib.Core.Option.{some, none, some-injective, some-ne-none}
use mathlib.Core.List.{IsPrefix}
use mathlib.Core.List.Sublist
use native.Mathlib.Decide.{ℕ_discrete}
use lib.ListN.{get_elem?}
use Rattle.atomic_table.specs.Table.{opening, Final, Seen}
use Rattle.vdr_latch.specs.declared.view.View.{View}
use Rattle.vdr_latch.specs.Passes.{Knows}
use Rattle.vdr_latch.specs.Views.{founder, spent, view_of}
use Rattle.vdr_latch.specs.Rule.{Everywhere, Somewhere, TicketsDiffer, Fits, IsKept}
use Rattle.vdr_latch.proofs.Prefixes.{prefix_none}
use Rattle.vdr_latch.proofs.Seats.{same_at, sum_two, count_here}
use Rattle.vdr_latch.proofs.Stepping.{off, no_ticket}

module _ {E T : Type 0} (leaves : List E → T → Type 0) (leading : E → Bool) where
  pub opens : (x : T) → leaves [] x → IsKept leaves leading (opening (0 ∷ 0 ∷ []) (Some x ∷ []) founder)
  opens x left = record {
    serving = 0;
    next = 0;
    history = [];
    words = refl;
    room = lit< tt;
    served = refl;
    queue = refl;
    differ = alone;
    leader = refl;
    parts = refl;
    fits = only founder_fits;
    whole = (0, founder, refl, inl refl);
    value = inl (x, refl, left);
  }
    where
      founder_fits : Fits leaves leading 0 0 [] founder
      founder_fits = record {
        known = record { begins = ([], refl); stands = Sublist.refl []; led = λ _. refl };
        told = ([], refl);
        ticket = λ t has. absurd (no_ticket None t refl has);
        turn = λ p. absurd (off p);
        spent = λ p. absurd (omega arith);
      }

      only : Fits leaves leading 0 0 [] founder → Everywhere (Fits leaves leading 0 0 []) (founder ∷ [])
      only f zero v e = subst (λ u. Fits leaves leading 0 0 [] u) (some-injective founder v e) f
      only f (suc by) v e = absurd (some-ne-none v (sym e))

      alone : TicketsDiffer (founder {E = E} ∷ [])
      alone zero zero t v w p q a b = refl
      alone zero (suc j) t v w p q a b = absurd (some-ne-none w (sym q))
      alone (suc i) j t v w p q a b = absurd (some-ne-none v (sym p))

  -- Who has all parts leads and has seen the whole history, and the value is at home.
  closes : (id : ℕ) (v : View E) (ws : List ℕ) (xs : List (Option T)) → v.parts ≡ 2 ^ 33 → v.in_turn ≡ false → v.told ≡ [] → Final (Seen (IsKept leaves leading) id v) ws xs
      → ((x : T) × (get_elem? xs 0 ≡ some (Some x)) × leaves v.seen x) × (v.leads ≡ true) × Knows leading v.leads v.seen v.own v.seen
  closes id v ws xs all out told f =
      let s = f.0 in
      let h = f.1.0 in
      let at = f.1.1 in
      let mine = h.fits id v at in
      let idle : (j : ℕ) (u : View E) → j ≢ id → get_elem? s.views j ≡ some u → u ≡ spent =
      λ j u other e. let t = sum_two (λ (u : View E). u.parts) s.views id j v u at e other in let p = h.parts in (h.fits j u e).spent (omega arith) in
      let none_yet : [] ≡ h.history → v.seen ≡ h.history = λ e. prefix_none v.seen (subst (λ l. IsPrefix v.seen l) (sym e) mine.known.begins) ∙ e in
      let seen : v.seen ≡ h.history = dite (ℕ_discrete h.whole.0 id)
      (λ same.
      let u_v : h.whole.1 ≡ v = same_at s.views id h.whole.0 v h.whole.1 at h.whole.2 same in
      ⊎_elim (λ p. ap (λ (u : View E). u.seen) (sym u_v) ∙ p) (λ p. none_yet (sym told ∙ (ap (λ (u : View E). u.told) (sym u_v) ∙ p))) h.whole.3)
      (λ other.
      let gone : h.whole.1 ≡ spent = idle h.whole.0 h.whole.1 other h.whole.2 in
      ⊎_elim (λ p. none_yet (sym (ap (λ (u : View E). u.seen) gone) ∙ p)) (λ p. none_yet (sym (ap (λ (u : View E). u.told) gone) ∙ p)) h.whole.3) in
      let value = ⊎_elim
      (λ (x : (x : T) × (s.homes ≡ some (Some x) ∷ []) × leaves h.history x).
      (x.0, f.4 0 (Some x.0) (ap (λ l. get_elem? l 0) x.1), subst (λ l. leaves l x.0) (sym seen) x.2))
      (λ (x : Somewhere (λ (u : View E). u.in_turn ≡ true) s.views × (s.homes ≡ none ∷ [])).
      let who = x.0 in
      dite (ℕ_discrete who.0 id)
      (λ same. absurd (off (sym out ∙ (ap (λ (u : View E). u.in_turn) (sym (same_at s.views id who.0 v who.1 at who.2 same)) ∙ who.3))))
      (λ other. absurd (off (sym (ap (λ (u : View E). u.in_turn) (idle who.0 who.1 other who.2)) ∙ who.3))))
      h.value in
      let leads = count_here (λ (u : View E). u.leads) s.views id v at (λ j u other e. ap (λ (u : View E). u.leads) (idle j u other e)) h.leader in
      (value, leads, subst (λ l. Knows leading v.leads v.seen v.own l) (sym seen) mine.known)

  -- The same of the seat that a badge's view became.
  pub closes_badge : (views : List (View E)) (id : ℕ) (v : View E) (ws : List ℕ) (xs : List (Option T)) → views ≡ v ∷ [] → (view_of views).parts ≡ 2 ^ 33 → (view_of views).in_turn ≡ false → (view_of views).told ≡ [] → Final (Seen (IsKept leaves leading) id v) ws xs
      → ((x : T) × (get_elem? xs 0 ≡ some (Some x)) × leaves (view_of views).seen x) × ((view_of views).leads ≡ true) × Knows leading (view_of views).leads (view_of views).seen (view_of views).own (view_of views).seen
  closes_badge views id v ws xs is all out told f =
      let e : view_of views ≡ v = ap view_of is in
      let P : View E → Type 0 = λ u. (u.parts ≡ 2 ^ 33) × (u.in_turn ≡ false) × (u.told ≡ []) in
      let Q : View E → Type 0 = λ u. ((x : T) × (get_elem? xs 0 ≡ some (Some x)) × leaves u.seen x) × (u.leads ≡ true) × Knows leading u.leads u.seen u.own u.seen in
      let p = subst P e (all, out, told) in
      subst Q (sym e) (closes id v ws xs p.0 p.1 p.2 f)
