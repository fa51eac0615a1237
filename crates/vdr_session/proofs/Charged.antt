-- What a batch is charged for the items that it takes.
use Rattle.std.proofs.Common.{◌≡◌, ◌≤◌, ◌+◌, ◌-◌, ◌/◌, ◌++◌, ℕ, List, [], length, Option, Some, None, get_or, ◌⊎◌, inl, inr, ⊎_elim, sym, ap, ◌∙◌, subst, append_assoc, append-nil, arith}
use Rattle.vdr_terms.specs.Rates.{Limit}
use Rattle.vdr_core.specs.Taken.{Captured}
use Rattle.vdr_run.specs.Charges.{Foretells, TakesWithin}
use Rattle.vdr_run.specs.Sizes.{FitAfter, bytes_of}
use Rattle.vdr_run.specs.declared.charges.Charges.{Charges}
use Rattle.vdr_session.specs.Heads.{ChargesHeld, IsFilled, IsNext, IsOldest, IsTooLong}
use Rattle.vdr_session.specs.Lanes.{held}

-- The held item, as it is told to the charges.
pub held_charged : (limits : ℕ → Limit) (popped : List Captured) (c told : Captured) (head : Option Captured) (left : ℕ) (after : Charges) (result : Option ℕ) → head ≡ Some c → told ≡ c
    → TakesWithin limits popped told left after result → ChargesHeld limits popped head left after result
held_charged limits popped c told head left after (Some size) is same t =
    subst (λ (h : Option Captured). ChargesHeld limits popped h left after (Some size)) (ap (λ (x : Captured). Some x) same ∙ sym is) (omega arith, t.0, t.1, t.2)
held_charged limits popped c told head left after None is same t =
    subst (λ (h : Option Captured). ChargesHeld limits popped h left after None) (ap (λ (x : Captured). Some x) same ∙ sym is) (inr t.0, t.1)

pub none_charged : (limits : ℕ → Limit) (popped : List Captured) (head : Option Captured) (left : ℕ) (charges : Charges) → head ≡ None → Foretells limits popped charges
    → ChargesHeld limits popped head left charges None
none_charged limits popped head left charges none h = (inl none, h)

-- What is known of the charges of a batch of so many bytes that has these items.
pub record AreCharged (limits : ℕ → Limit) (popped items : List Captured) (left room : ℕ) (charges : Charges) : Type 0 where
  pub foretells : Foretells limits (popped ++ items) charges
  pub bytes : bytes_of limits (popped ++ items) + left ≡ bytes_of limits popped + room

pub none_taken : (limits : ℕ → Limit) (popped items : List Captured) (room : ℕ) (charges : Charges) → items ≡ [] → Foretells limits popped charges → AreCharged limits popped items room room charges
none_taken limits popped items room charges none h =
    subst (λ (xs : List Captured). AreCharged limits popped xs room room charges) (sym none) (record {
      foretells = subst (λ (xs : List Captured). Foretells limits xs charges) (sym (append-nil popped)) h;
      bytes = ap (λ (xs : List Captured). bytes_of limits xs + room) (append-nil popped);
    })

module _ (limits : ℕ → Limit) (popped items : List Captured) (left room : ℕ) (charges : Charges) (a : AreCharged limits popped items left room charges) where
  pub fit_so_far : FitAfter limits popped items room
  fit_so_far = let bytes = a.bytes in omega (arith, bytes)

  -- One more item.
  pub one_more : (head : Option Captured) (more : List Captured) (after : Charges) (size : ℕ) → more ≡ items ++ held head → ChargesHeld limits (popped ++ items) head left after (Some size)
      → AreCharged limits popped more (left - size) room after
  one_more head more after size is c =
      let same : (popped ++ items) ++ held head ≡ popped ++ more = append_assoc popped items (held head) ∙ ap (λ (xs : List Captured). popped ++ xs) (sym is) in record {
        foretells = subst (λ (xs : List Captured). Foretells limits xs after) same c.3;
        bytes =
            let bytes = a.bytes in
            let grown = c.1 in
            let fits = c.2 in
            let e = ap (λ (xs : List Captured). bytes_of limits xs) same in
            omega (arith, bytes, grown, fits, e);
      }

  -- No further one.
  pub ends_there : (heads : List (Option Captured)) (after : Charges) → IsNext limits (popped ++ items) heads left (room / 50 ≤ length items) after None
      → AreCharged limits popped items left room after × IsFilled limits popped items heads room
  ends_there heads after n = (
    record { foretells = n.1; bytes = a.bytes },
    ⊎_elim
        (λ (full : room / 50 ≤ length items). inl full)
        (λ (ends : (g : ℕ) × IsOldest heads g × IsTooLong limits (popped ++ items) (get_or heads g None) left). inr (ends.0, ends.1, too_long (get_or heads ends.0 None) ends.2))
        n.0,
  )
    where
      too_long : (head : Option Captured) → IsTooLong limits (popped ++ items) head left → (head ≡ None) ⊎ (FitAfter limits popped (items ++ held head) room → ⊥)
      too_long head (inl none) = inl none
      too_long head (inr long) = inr (λ fits.
          let bytes = a.bytes in
          let same = ap (λ (xs : List Captured). bytes_of limits xs) (append_assoc popped items (held head)) in
          omega (arith, bytes, long, same, fits))
