-- What opening a medium finds or refuses, once its fronts are read, sorted and surveyed.
use Rattle.std.proofs.Common.{◌≡◌, ℕ, zero, suc, List, [], ◌∷◌, get_or, slice_get, All, Some, None, inl, inr, sym, ap, ◌∙◌, subst}
use Rattle.std.proofs.lemmas.Option.{same_Some, none-some}
use Rattle.vdr_segment.specs.Slots.{place_of}
use Rattle.vdr_directory.specs.declared.entry.Entry.{Entry}
use Rattle.vdr_directory.specs.Sequence.{Placed}
use Rattle.vdr_directory.specs.Knowns.{AreInOrderBy, BreaksBy}
use Rattle.vdr_directory.specs.Entries.{Describe}
use Rattle.vdr_directory.specs.Opening.{AreKnown, Refuses}
use Rattle.vdr_directory.specs.Fronts.{TellFronts, IsSurveyed, BreaksAmong, Finds}
use Rattle.vdr_directory.proofs.Sequencing.{Sequenced, sequenced_sooner, sequenced_slots, sequenced_fronts}
use Rattle.vdr_directory.proofs.Finding.{Knowing, are_known, knowing}
use Rattle.vdr_directory.proofs.Refusing.{refuses_batch}

described_slot : (ps : List Placed) (es : List Entry) (i : ℕ) (d : Entry) (x : Placed) → Describe ps es → slice_get ps i ≡ Some x → (get_or es i d).slot ≡ x.slot
described_slot [] es i d x h at = absurd (none-some x at)
described_slot (p ∷ ps) [] i d x h at = absurd h
described_slot (p ∷ ps) (e ∷ es) zero d x h at = h.0.slot ∙ ap (λ (q : Placed). q.slot) (same_Some p x at)
described_slot (p ∷ ps) (e ∷ es) (suc i) d x h at = described_slot ps es i d x h.1 at

module _ (segment n : ℕ) (bytes : List ℕ) (read sorted done : List Entry) (h : Sequenced n read sorted done) (fronts : TellFronts segment n bytes read) where
  pub batch_refused : (offset : ℕ) → BreaksAmong segment bytes done offset → Refuses segment n bytes offset
  batch_refused offset b =
      inr (inl (refuses_batch segment bytes n done (sequenced_slots n read sorted done h) (sequenced_fronts n read sorted done h segment bytes fronts) (sequenced_sooner n read sorted done h) offset b))

  module _ (surveys : All (IsSurveyed segment bytes) done) where
    all_fronts : TellFronts segment n bytes done
    all_fronts = sequenced_fronts n read sorted done h segment bytes fronts

    all_known : Knowing segment bytes done
    all_known = knowing segment bytes done all_fronts.headers surveys

    are : AreKnown segment n bytes all_known.known
    are = are_known segment n bytes done (sequenced_slots n read sorted done h) all_fronts (sequenced_sooner n read sorted done h) all_known

    -- `final` is the list of entries in the end, and `slice` what is lent of it
    pub order_refused : (final slice : List Entry) (i : ℕ) (e : Entry) (offset : ℕ) → final ≡ done → slice ≡ final → ((placed : List Placed) → Describe placed slice → (x : Placed) × (slice_get placed i ≡ Some x) × BreaksBy None placed x)
        → e ≡ get_or final i e → offset ≡ place_of segment e.slot → Refuses segment n bytes offset
    order_refused final slice i e offset final_is slice_is breaks at is =
        let b = breaks all_known.known (subst (λ (es : List Entry). Describe all_known.known es) (sym (slice_is ∙ final_is)) all_known.describe) in
        let same : e.slot ≡ b.0.slot = ap (λ (x : Entry). x.slot) (at ∙ ap (λ (es : List Entry). get_or es i e) final_is) ∙ described_slot all_known.known done i e b.0 all_known.describe b.1 in
        inr (inr (record { known = all_known.known; are = are; here = b.0; breaks = b.2; at = is ∙ ap (λ (j : ℕ). place_of segment j) same }))

    pub found : (final slice : List Entry) → final ≡ done → slice ≡ final → ((placed : List Placed) → Describe placed slice → AreInOrderBy placed) → Finds segment n bytes final
    found final slice final_is slice_is order = record {
      known = all_known.known;
      are = are;
      order = order all_known.known (subst (λ (es : List Entry). Describe all_known.known es) (sym (slice_is ∙ final_is)) all_known.describe);
      describe = subst (λ (es : List Entry). Describe all_known.known es) (sym final_is) all_known.describe;
    }
