-- Serving the next keeps the rule: one event joins the history.
use Rattle.std.proofs.Common.{◌≡◌, ◌≢◌, ℕ, ◌+◌, ◌%◌, ◌^◌, ◌<◌, ◌≤◌, Bool, true, false, List, [], ◌∷◌, ◌++◌, length, set, cond, Option, Some, None, inl, inr, refl, ap, sym, ◌∙◌, subst, append-nil, length-append, arith}
use Rattle.std.specs.Prelude.{slice_index, is_some}
use Rattle.std.specs.List.{filter}
use Rattle.std.proofs.Math.Nat.{mod-eq_of_lt}
use Rattle.std.proofs.lemmas.List.Elements.{filter-append}
use mathlib.Core.Option.{Option as Place, none, some}
use mathlib.Core.List.{IsPrefix, sublist-append_left}
use mathlib.Core.List.Sublist
use lib.ListN.{get_elem?}
use Rattle.atomic_table.specs.Table.{State, Me, step, gives, stepped, Allows}
use Rattle.vdr_latch.specs.declared.view.View.{View}
use Rattle.vdr_latch.specs.Passes.{Knows}
use Rattle.vdr_latch.specs.Views.{waits}
use Rattle.vdr_latch.specs.Rule.{Fits, IsLeft, IsKept}
use Rattle.vdr_latch.specs.Steps.{served, Serves}
use Rattle.vdr_latch.proofs.Prefixes.{prefix_self, prefix_more}
use Rattle.vdr_latch.proofs.Seats.{set_there, sum_set, count_same, count_less, count_once, everywhere_set, differ_set}
use Rattle.vdr_latch.proofs.Stepping.{off, no_ticket, serving_is}

module _ {E : Type 0} (leading : E → Bool) where
  -- the leading events, where one more does not lead
  led_not : (history : List E) (e : E) → leading e ≡ false → filter leading (history ++ e ∷ []) ≡ filter leading history
  led_not history e p =
      let only : filter leading (e ∷ []) ≡ [] = ap (λ b. cond b (e ∷ []) []) p in
      filter-append leading history (e ∷ []) ∙ (ap (λ l. filter leading history ++ l) only ∙ append-nil (filter leading history))

  -- one more event in the history and among the own ones
  led_too : (history own : List E) (e : E) → filter leading history ≡ filter leading own → filter leading (history ++ e ∷ []) ≡ filter leading (own ++ e ∷ [])
  led_too history own e p = filter-append leading history (e ∷ []) ∙ (ap (λ l. l ++ filter leading (e ∷ [])) p ∙ sym (filter-append leading own (e ∷ [])))

  -- who knew the history knows the history with one event more, its own
  pub knows_more : (leads : Bool) (seen own history : List E) (e : E) → Knows leading leads seen own history → Knows leading leads (history ++ e ∷ []) (own ++ e ∷ []) (history ++ e ∷ [])
  knows_more leads seen own history e k = record {
    begins = prefix_self (history ++ e ∷ []);
    stands = Sublist.append k.stands (Sublist.refl (e ∷ []));
    led = λ p. led_too history own e (k.led p);
  }

module _ {E T : Type 0} (leaves : List E → T → Type 0) (leading : E → Bool) where
  adds : (s : State (Option T) (View E)) (id : ℕ) (v : View E) (y : Option T) (left : T) (e : E) (h : IsKept leaves leading s) → get_elem? s.views id ≡ some v → 0 < v.parts → v.in_turn ≡ true → y ≡ Some left
      → leaves (v.seen ++ e ∷ []) left → (v.leads ≡ false → leading e ≡ false)
      → IsKept leaves leading (stepped s 0 ((slice_index s.words 0 + 1) % 2 ^ 64) id ((0, y) ∷ []) (served (e ∷ []) v) gives)
  adds s id v y left e h at some_part in_turn is leave lead =
      let w : View E = served (e ∷ []) v in
      let mine = h.fits id v at in
      let turn = mine.turn in_turn in
      let ticket = mine.ticket h.serving turn.0 in
      let history = h.history ++ e ∷ [] in
      let room = h.room in
      let small : h.serving + 1 < 2 ^ 64 = omega arith in
      let next : (slice_index s.words 0 + 1) % 2 ^ 64 ≡ h.serving + 1 = ap (λ (k : ℕ). (k + 1) % 2 ^ 64) (serving_is leaves leading s h) ∙ mod-eq_of_lt small in
      let seen : v.seen ++ e ∷ [] ≡ history = ap (λ l. l ++ e ∷ []) turn.1 in
      record {
        serving = h.serving + 1;
        next = h.next;
        history = history;
        words = (λ k. set (h.words k) 0 (next k));
        room = room;
        served = let l = h.served in omega (arith, length-append h.history (e ∷ []));
        queue = let c = count_less waits s.views id v w at (ap is_some turn.0) refl in let q = h.queue in omega arith;
        differ = differ_set s.views id w h.differ (λ t has j u _ _ _. no_ticket None t refl has);
        leader = count_same (λ (u : View E). u.leads) s.views id v w at refl ∙ h.leader;
        parts = let c = sum_set (λ (u : View E). u.parts) s.views id v w at in let p = h.parts in omega arith;
        fits = everywhere_set (Fits leaves leading (h.serving + 1) h.next history) s.views id w
            record {
              known = subst (λ l. Knows leading v.leads l (v.own ++ e ∷ []) history) (sym seen) (knows_more leading v.leads v.seen v.own h.history e mine.known);
              told = (history, refl);
              ticket = λ t has. absurd (no_ticket None t refl has);
              turn = λ p. absurd (off p);
              spent = λ p. absurd (omega arith);
            }
            (λ j u other at_u.
            let f = h.fits j u at_u in
            record {
              known = record {
                begins = prefix_more u.seen h.history (e ∷ []) f.known.begins;
                stands = Sublist.trans f.known.stands (sublist-append_left h.history (e ∷ []));
                led = λ p. led_not leading h.history e (lead (count_once (λ (x : View E). x.leads) s.views id j v u at at_u other h.leader p)) ∙ f.known.led p;
              };
              told = prefix_more u.told h.history (e ∷ []) f.told;
              ticket = λ t has. let d = f.ticket t has in let far : t ≢ h.serving = λ same. other (h.differ j id h.serving u v at_u at (has ∙ ap Some same) turn.0) in (omega arith, d.1);
              turn = λ p. absurd (other (h.differ j id h.serving u v at_u at (f.turn p).0 turn.0));
              spent = f.spent;
            });
        whole = (id, w, set_there s.views id v w at, inl seen);
        value = inl (left, home_is h.value, subst (λ l. leaves l left) seen leave);
      }
    where
      home_is : IsLeft leaves leading h.history s.homes s.views → set s.homes 0 (some y) ≡ some (Some left) ∷ []
      home_is (inl x) = ap (λ l. set l 0 (some y)) x.1 ∙ ap (λ z. some z ∷ []) is
      home_is (inr x) = ap (λ l. set l 0 (some y)) x.1 ∙ ap (λ z. some z ∷ []) is

  pub serves : (slots id : ℕ) (v : View E) (y : Option T) (left : T) (e : E) → 0 < v.parts → v.in_turn ≡ true → y ≡ Some left → leaves (v.seen ++ e ∷ []) left → (v.leads ≡ false → leading e ≡ false)
      → Allows (IsKept leaves leading) slots id (v, (0, y) ∷ []) 0 (λ n. (n + 1) % 2 ^ 64) (Serves (e ∷ []) (step slots 0 1 0 none) (v, (0, y) ∷ []))
  serves slots id v y left e some_part in_turn is leave lead s h _ at _ = (served (e ∷ []) v, gives, tt, adds s id v y left e h at some_part in_turn is leave lead, refl)
