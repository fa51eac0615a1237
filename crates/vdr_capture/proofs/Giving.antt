-- What a port gave, take by take.
use Rattle.std.proofs.Common.{◌≡◌, ℕ, ℤ, List, [], ◌∷◌, ◌++◌, map, Option, Some, None, refl, sym, ap, ◌∙◌, subst, append_assoc, append-nil}
use Rattle.std.proofs.lemmas.List.{map-append}
use Rattle.vdr_terms.specs.Records.{Item}
use Rattle.vdr_outside.specs.Told.{Stays, Gains, Loses, NoneLeft}
use Rattle.vdr_outside.specs.Takes.{Standing, Waits, Gives, cut}
use Rattle.vdr_capture.specs.Gives.{GainsAll, LosesAll, NothingLeft, Gave}

gains_none : {A : Type 0} (a : Option (List A)) → GainsAll a a []
gains_none None = tt
gains_none (Some xs) = sym (append-nil xs)

pub loses_none : {A : Type 0} (a : Option (List A)) → LosesAll a a []
loses_none None = tt
loses_none (Some xs) = refl

gains_more : {A : Type 0} (a b c : Option (List A)) (xs : List A) (x : A) → GainsAll a b xs → Gains b c x → GainsAll a c (xs ++ x ∷ [])
gains_more None b c xs x p q = tt
gains_more (Some a) None c xs x p q = absurd p
gains_more (Some a) (Some b) None xs x p q = absurd q
gains_more (Some a) (Some b) (Some c) xs x p q = q ∙ ap (λ l. l ++ x ∷ []) p ∙ append_assoc a xs (x ∷ [])

pub loses_more : {A : Type 0} (a b c : Option (List A)) (xs : List A) (x : A) → LosesAll a b xs → Loses b c x → LosesAll a c (xs ++ x ∷ [])
loses_more None b c xs x p q = tt
loses_more (Some a) None c xs x p q = absurd p
loses_more (Some a) (Some b) None xs x p q = absurd q
loses_more (Some a) (Some b) (Some c) xs x p q = p ∙ ap (λ l. xs ++ l) q ∙ sym (append_assoc xs (x ∷ []) c)

gains_stays : {A : Type 0} (a b c : Option (List A)) (xs : List A) → GainsAll a b xs → Stays b c → GainsAll a c xs
gains_stays None b c xs p q = tt
gains_stays (Some a) None c xs p q = absurd p
gains_stays (Some a) (Some b) None xs p q = absurd q
gains_stays (Some a) (Some b) (Some c) xs p q = q ∙ p

pub loses_stays : {A : Type 0} (a b c : Option (List A)) (xs : List A) → LosesAll a b xs → Stays b c → LosesAll a c xs
loses_stays None b c xs p q = tt
loses_stays (Some a) None c xs p q = absurd p
loses_stays (Some a) (Some b) None xs p q = absurd q
loses_stays (Some a) (Some b) (Some c) xs p q = p ∙ ap (λ l. xs ++ l) (sym q)

pub gave_none : (s : Standing) → Gave s s []
gave_none s = record { whole = []; are_cut = refl; left = loses_none s.left; taken = gains_none s.taken }

pub gave_waits : (a b c : Standing) (given : List Item) (into : List ℕ) → Gave a b given → Waits b c into → Gave a c given
gave_waits a b c given into h w = record {
  whole = h.whole;
  are_cut = h.are_cut;
  left = loses_stays a.left b.left c.left h.whole h.left w.left;
  taken = gains_stays a.taken b.taken c.taken given h.taken w.taken;
}

pub gave_more : (a b c : Standing) (given : List Item) (received : ℕ) (utc : ℤ) (into : List ℕ) → Gave a b given → Gives b c received utc into
    → Gave a c (given ++ record { received = received; utc = utc; bytes = into } ∷ [])
gave_more a b c given received utc into h g =
    let here : Item = record { received = received; utc = utc; bytes = into } in
    let is_cut : cut g.item ≡ here = λ i. record { received = g.received_is i; utc = g.utc_is i; bytes = sym g.bytes i } in record {
      whole = h.whole ++ g.item ∷ [];
      are_cut = ap (λ (l : List Item). l ++ here ∷ []) h.are_cut ∙ ap (λ (i : Item). map cut h.whole ++ i ∷ []) (sym is_cut) ∙ sym (map-append cut h.whole (g.item ∷ []));
      left = loses_more a.left b.left c.left h.whole g.item h.left g.left;
      taken = subst (λ (i : Item). GainsAll a.taken c.taken (given ++ i ∷ [])) is_cut (gains_more a.taken b.taken c.taken given (cut g.item) h.taken g.taken);
    }

-- a take that answers that none is left, after those that gave these items
pub nothing_left : {A : Type 0} (a b c : Option (List A)) (xs : List A) → LosesAll a b xs → Stays b c → NoneLeft b → NothingLeft a c
nothing_left None b c xs p q none = tt
nothing_left (Some a) None c xs p q none = absurd p
nothing_left (Some a) (Some b) None xs p q none = absurd q
nothing_left (Some a) (Some b) (Some c) xs p q none = ap (λ l. Some l) (q ∙ none)
