-- Looking whether one is in turn keeps the rule, and so does learning what has happened.
use Rattle.std.proofs.Common.{◌≡◌, ◌≢◌, ◌⊎◌, ℕ, ◌<◌, Bool, true, false, List, [], ◌∷◌, Option, Some, refl, ap, sym, ◌∙◌, ⊎_elim, inl, inr, set, arith}
use Rattle.std.specs.Prelude.{slice_index}
use mathlib.Core.Logic.{dite}
use mathlib.Core.Option.{some, none}
use native.Mathlib.Decide.{ℕ_discrete}
use lib.ListN.{get_elem?}
use Rattle.atomic_table.specs.Table.{State, Me, Act, step, keeps, takes, stepped, Valid, Allows, carried_after}
use Rattle.vdr_latch.specs.declared.view.View.{View}
use Rattle.vdr_latch.specs.Passes.{Knows}
use Rattle.vdr_latch.specs.Rule.{Somewhere, Fits, IsKept}
use Rattle.vdr_latch.specs.Steps.{entered, Looks, informed, Learns}
use Rattle.vdr_latch.proofs.Prefixes.{prefix_self}
use Rattle.vdr_latch.proofs.Seats.{set_there, same_at}
use Rattle.vdr_latch.proofs.Stepping.{off, serving_is, unchanged, value_stays, sees}

module _ {E T : Type 0} (leaves : List E → T → Type 0) (leading : E → Bool) where
  -- the seat whose ticket is served takes the slot
  taken : (s : State (Option T) (View E)) (id : ℕ) (cs : List (ℕ × Option T)) (v : View E) (x : T) (h : IsKept leaves leading s) → get_elem? s.views id ≡ some v → 0 < v.parts
      → v.ticket ≡ Some h.serving → s.homes ≡ some (Some x) ∷ []
      → IsKept leaves leading (stepped s 0 (slice_index s.words 0) id cs (entered h.history v) (takes 0 (Some x)))
  taken s id cs v x h at some_part served home =
      let w : View E = entered h.history v in
      let mine = h.fits id v at in
      sees leaves leading s h id v w (set s.homes 0 none) at refl refl refl refl
      record {
        known = record { begins = prefix_self h.history; stands = mine.known.stands; led = mine.known.led };
        told = (h.history, refl);
        ticket = mine.ticket;
        turn = λ _. (served, refl);
        spent = λ p. absurd (omega arith);
      }
      (inr ((id, w, set_there s.views id v w at, refl), ap (λ l. set l 0 none) home))

  pub looks : (slots id : ℕ) (m : Me (Option T) (View E)) (t : ℕ) → 0 < m.0.parts → m.0.ticket ≡ Some t → m.0.in_turn ≡ false
      → Allows (IsKept leaves leading) slots id m 0 (λ n. n) (Looks leaves leading (step slots 0 0 0 none) m)
  looks slots id m t some_part ticket out s h _ at _ =
      let n = slice_index s.words 0 in
      let serving = serving_is leaves leading s h in
      let mine = h.fits id m.0 at in
      let Goal : Type 0 = (w : View E) × (a : Act (Option T)) × Valid s.homes m.1 a × IsKept leaves leading (stepped s 0 n id m.1 w a) × Looks leaves leading (step slots 0 0 0 none) m n (w, carried_after m.1 a) in
      let in_turn : n ≡ t → Goal = λ e.
      let found : m.0.ticket ≡ Some n = ticket ∙ ap Some (sym e) in
      let mine_is : m.0.ticket ≡ Some h.serving = found ∙ ap Some serving in
      ⊎_elim
      (λ (x : (x : T) × (s.homes ≡ some (Some x) ∷ []) × leaves h.history x). (
        entered h.history m.0,
        takes 0 (Some x.0),
        ap (λ l. get_elem? l 0) x.1,
        taken s id m.1 m.0 x.0 h at some_part mine_is x.1,
        ((λ _. (h.history, x.0, refl, h.served ∙ sym serving, x.2, mine.known)), λ ne. absurd (ne found)),
      ))
      (λ (x : Somewhere (λ (u : View E). u.in_turn ≡ true) s.views × (s.homes ≡ none ∷ [])).
      let other = x.0 in
      let theirs = (h.fits other.0 other.1 other.2).turn other.3 in
      let one : other.0 ≡ id = h.differ other.0 id h.serving other.1 m.0 other.2 at theirs.0 mine_is in
      let same : other.1 ≡ m.0 = same_at s.views id other.0 m.0 other.1 at other.2 one in
      absurd (off (sym out ∙ (ap (λ (u : View E). u.in_turn) (sym same) ∙ other.3))))
      h.value in
      let not_yet : n ≢ t → Goal = λ ne.
      (m.0, keeps, tt, unchanged leaves leading s 0 id m.1 m.0 h at, ((λ found. let e : Some t ≡ Some n = sym ticket ∙ found in absurd (ne (let e' : n ≡ t = cc (e) in e'))), λ _. refl)) in
      dite (ℕ_discrete n t) in_turn not_yet

  pub learns : (slots id : ℕ) (m : Me (Option T) (View E)) → 0 < m.0.parts → m.0.in_turn ≡ false → Allows (IsKept leaves leading) slots id m 0 (λ n. n) (Learns leading (step slots 0 0 0 none) m)
  learns slots id m some_part out s h _ at _ =
      let v : View E = m.0 in
      let w : View E = informed h.history v in
      let mine = h.fits id v at in
      let kept = sees leaves leading s h id v w s.homes at refl refl refl refl
      record {
        known = record { begins = prefix_self h.history; stands = mine.known.stands; led = mine.known.led };
        told = (h.history, refl);
        ticket = mine.ticket;
        turn = λ p. absurd (off (sym out ∙ p));
        spent = λ p. absurd (omega arith);
      }
      (value_stays leaves leading h.history s.homes s.views id v w at out h.value) in
      (w, keeps, tt, kept, (h.history, refl, mine.told, mine.known))
