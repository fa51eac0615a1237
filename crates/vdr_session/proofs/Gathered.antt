-- What all ports gave, by what was popped of each and what is still queued.
use Rattle.std.proofs.Common.{◌≡◌, ◌<◌, ◌≤◌, ◌++◌, ℕ, zero, suc, true, false, List, [], All, Option, None, length, get_or, ⊎_elim, refl, sym, ap, ◌∙◌, subst, append-nil, arith}
use Rattle.std.proofs.Math.Dec.{leb}
use Rattle.std.proofs.lemmas.Bool.Decides.{leb_tells}
use Rattle.std.proofs.lemmas.List.{get_or_past}
use Rattle.vdr_core.specs.Taken.{AllFeed, Captured, Feeds, of_group}
use Rattle.vdr_terms.specs.declared.counts.Counts.{Counts}
use Rattle.vdr_intake.specs.Ends.{QueueId, Taking}
use Rattle.vdr_outside.specs.declared.port.Port.{Ghosts as PortTells}
use Rattle.vdr_capture.specs.declared.lane.Lane.{Lane}
use Rattle.vdr_session.specs.Feeding.{LaneFed}
use Rattle.vdr_session.specs.Lanes.{ArePopped, popped_by}
use Rattle.vdr_session.proofs.Popped.{of_appended, of_others, of_own, same_or_not}

-- those of the groups below n, one group after another
abbrev pub gather : (ℕ → List Captured) → ℕ → List Captured
gather q zero = []
gather q (suc n) = gather q n ++ q n

module _ (q : ℕ → List Captured) (own : (k : ℕ) → All (λ c. c.group ≡ k) (q k)) where
  pub gathered_beyond : (n g : ℕ) → n ≤ g → of_group g (gather q n) ≡ []
  gathered_beyond zero g high = refl
  gathered_beyond (suc n) g high =
      of_appended g (gather q n) (q n)
      ∙ ap (λ (xs : List Captured). xs ++ of_group g (q n)) (gathered_beyond n g (omega (arith, high)))
      ∙ of_others n g (q n) (own n) (λ e. omega (arith, e, high))

  pub gathered : (n g : ℕ) → g < n → of_group g (gather q n) ≡ q g
  gathered zero g small = absurd (omega (arith, small))
  gathered (suc n) g small =
      of_appended g (gather q n) (q n)
      ∙ same_or_not g n
      (λ e. ap (λ (xs : List Captured). xs ++ of_group g (q n)) (gathered_beyond n g (omega (arith, e)))
      ∙ ap (λ (k : ℕ). of_group k (q n)) e ∙ of_own n (q n) (own n) ∙ ap q (sym e))
      (λ ne. ap (λ (xs : List Captured). xs ++ of_group g (q n)) (gathered n g (omega (arith, small, ne)))
      ∙ ap (λ (xs : List Captured). q g ++ xs) (of_others n g (q n) (own n) (λ e. ne (sym e))) ∙ append-nil (q g))

pub none_gathered : (q : ℕ → List Captured) (n : ℕ) → ((k : ℕ) → k < n → q k ≡ []) → gather q n ≡ []
none_gathered q zero none = refl
none_gathered q (suc n) none = ap (λ (xs : List Captured). xs ++ q n) (none_gathered q n (λ k small. none k (omega (arith, small)))) ∙ none n (omega arith)

module _ {P : Type 0} (tells : PortTells P) (turns : ℕ) (queues : List (Option QueueId)) (takers : List (Option Taking)) (old new : List (Lane P)) (d : Lane P) (rest : ℕ → Counts)
    (sixteen : length takers ≡ 16) (items : List Captured) (popped : ArePopped items takers)
    (h : (g : ℕ) → LaneFed tells turns g (get_or queues g None) (get_or takers g None) (get_or old g d) (get_or new g d) (rest g)) where
  abbrev behind : List Captured
  behind = gather (λ g. (h g).queued) 16

  each_group : (g : ℕ) → of_group g (items ++ behind) ≡ popped_by (get_or takers g None) ++ (h g).queued
  each_group g =
      of_appended g items behind
      ∙ ⊎_elim
      (λ (t : (leb 16 g ≡ true) × (16 ≤ g)).
      ap (λ (xs : List Captured). xs ++ of_group g behind) (popped.beyond g t.1)
      ∙ gathered_beyond (λ g. (h g).queued) (λ k. (h k).own) 16 g t.1
      ∙ sym (ap (λ (o : Option Taking). popped_by o ++ (h g).queued) (get_or_past takers g None (omega (arith, sixteen, t.1))) ∙ ((h g).beyond t.1).1))
      (λ (t : (leb 16 g ≡ false) × (g < 16)).
      ap (λ (xs : List Captured). xs ++ of_group g behind) (popped.each g t.1)
      ∙ ap (λ (xs : List Captured). popped_by (get_or takers g None) ++ xs) (gathered (λ g. (h g).queued) (λ k. (h k).own) 16 g t.1))
      (leb_tells 16 g)

  -- What was popped and then what is queued, of all groups, is what the ports gave.
  pub all_feed : AllFeed (items ++ gather (λ g. (h g).queued) 16) rest (λ g. (h g).given)
  all_feed = record {
    lanes = λ g. subst (λ (xs : List Captured). Feeds g xs (rest g) (h g).given) (sym (each_group g)) (h g).feeds;
    beyond = λ g high. ((h g).beyond high).0;
  }
