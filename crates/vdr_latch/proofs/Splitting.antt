-- Splitting a pass keeps the rule.
use Rattle.std.proofs.Common.{◌≡◌, ℕ, ◌<◌, Bool, true, false, List, [], ◌∷◌, ◌++◌, set, None, inl, inr, refl, ◌∙◌, arith}
use Rattle.std.proofs.lemmas.List.Sums.{sum_by_push}
use mathlib.Core.List.{nil-sublist}
use lib.ListN.{get_elem?}
use Rattle.atomic_table.specs.Table.{Splits}
use Rattle.vdr_latch.specs.declared.view.View.{View}
use Rattle.vdr_latch.specs.Views.{waits}
use Rattle.vdr_latch.specs.Rule.{Fits, IsLeft, IsKept}
use Rattle.vdr_latch.specs.Steps.{fewer, follower}
use Rattle.vdr_latch.proofs.Seats.{sum_set, count_same, count_snoc, everywhere_set, everywhere_snoc, somewhere_set, somewhere_snoc, differ_same, differ_snoc}
use Rattle.vdr_latch.proofs.Stepping.{off, no_ticket, value_stays}

module _ {E T : Type 0} (leaves : List E → T → Type 0) (leading : E → Bool) where
  pub splits : (id : ℕ) (v : View E) → 1 < v.parts → v.in_turn ≡ false → Splits (IsKept leaves leading) id v (fewer v) (follower v)
  splits id v more out s h at =
      let w : View E = fewer v in
      let r : View E = follower v in
      let views : List (View E) = set s.views id w in
      let mine = h.fits id v at in
      record {
        serving = h.serving;
        next = h.next;
        history = h.history;
        words = h.words;
        room = h.room;
        served = h.served;
        queue = let c = count_snoc waits views r refl ∙ count_same waits s.views id v w at refl in let q = h.queue in omega arith;
        differ = differ_snoc views r (differ_same s.views id v w at refl h.differ) refl;
        leader = count_snoc (λ (u : View E). u.leads) views r refl ∙ (count_same (λ (u : View E). u.leads) s.views id v w at refl ∙ h.leader);
        parts = let c = sum_set (λ (u : View E). u.parts) s.views id v w at in let d = sum_by_push (λ (u : View E). u.parts) views r in let p = h.parts in omega arith;
        fits = everywhere_snoc (Fits leaves leading h.serving h.next h.history) views r
            record {
              known = record { begins = mine.known.begins; stands = nil-sublist h.history; led = λ p. absurd (off p) };
              told = (h.history, refl);
              ticket = λ t has. absurd (no_ticket None t refl has);
              turn = λ p. absurd (off p);
              spent = λ p. absurd (omega arith);
            }
            (everywhere_set (Fits leaves leading h.serving h.next h.history) s.views id w
            record { known = mine.known; told = mine.told; ticket = mine.ticket; turn = mine.turn; spent = λ p. absurd (omega arith) }
            (λ j u _ e. h.fits j u e));
        whole = somewhere_snoc _ views r (somewhere_set _ s.views id v w at (λ p. p) h.whole);
        value = one_more (value_stays leaves leading h.history s.homes s.views id v w at out h.value);
      }
    where
      one_more : IsLeft leaves leading h.history s.homes (set s.views id (fewer v)) → IsLeft leaves leading h.history s.homes (set s.views id (fewer v) ++ follower v ∷ [])
      one_more (inl x) = inl x
      one_more (inr x) = inr (somewhere_snoc (λ (u : View E). u.in_turn ≡ true) (set s.views id (fewer v)) (follower v) x.0, x.1)
