-- What a visit of a vault's media is, once its end is known.
use Rattle.std.proofs.Common.{◌≡◌, ℕ, List, [], Option, Bool, true, false, Result, Ok, Err}
use Rattle.std.proofs.Common.{refl, sym, ◌∙◌, subst}
use Rattle.std.specs.Bool.{⊤}
use Rattle.std.proofs.KnownBytes.{Appends-nil}
use Rattle.vdr_terms.specs.Queries.{Query}
use Rattle.vdr_terms.specs.Records.{Record}
use Rattle.vdr_durability.specs.Playback.{selected}
use Rattle.vdr_outside.specs.Disk.{Disk}
use Rattle.vdr_visit.specs.Prints.{text_of, whole_text}
use Rattle.vdr_visit.specs.Refusals.{unanswered}
use Rattle.vdr_visit.specs.Visits.{AreVisited, HasMade}
use Rattle.vdr_visit.specs.declared.visit_refused.VisitRefused.{VisitRefused}
use Rattle.vdr_visit.specs.declared.visit_refused.VisitRefused.TheVariants as visits
use Rattle.vdr_visit.proofs.Printing.{front_of_none, front_of_whole}
use Rattle.vdr_vault.specs.Vaults.{VaultState}
use Rattle.vdr_vault.specs.Visits.{HasVisited}
use Rattle.vdr_vault.proofs.Damages.{IsTold, none_told}

-- What is no damage.
module _ {R : Type 0} (m offset : ℕ) (out : Result ⊤ (VisitRefused R)) where
  not_channel : out ≡ Err visits.NoChannel → out ≡ Err (visits.Damaged m offset) → ⊥
  not_channel is damage = cc

  not_incident : out ≡ Err visits.NoIncident → out ≡ Err (visits.Damaged m offset) → ⊥
  not_incident is damage = cc

-- A visit of each record ended before their end.
module _ {tells tells_images R : Type 0} {query : Query} {vault : VaultState} {disk : Disk tells tells_images} {Has : List Record → Type 0}
    {Stops : List Record → R → Type 0} {line : List Record → Record → List ℕ} {was now : Option (List ℕ)} {ended : Result ⊤ (VisitRefused R)}
    (v : HasVisited query vault disk Has Stops line (text_of line) was now ended) where
  pub ended_early : (last : List Record → List ℕ) (stop : VisitRefused R) (out : Result ⊤ (VisitRefused R)) → ended ≡ Err stop → out ≡ Err stop
      → HasVisited query vault disk Has Stops line (whole_text line last) was now out
  ended_early last stop out was_is is = record {
    seen = v.seen;
    made = subst (HasMade (Has v.seen) (Stops v.seen) line (whole_text line last v.seen) v.seen was now) (sym is)
        (by stop (subst (λ (o : Result ⊤ (VisitRefused R)). HasMade (Has v.seen) (Stops v.seen) line (text_of line v.seen) v.seen was now o) was_is v.made));
    are = λ opening events placed told readable.
        subst (AreVisited v.seen (selected opening events query)) (was_is ∙ sym is) (v.are opening events placed told readable);
    front = λ opening events placed told readable.
        let records = selected opening events query in
        front_of_whole was now (text_of line records) (last records) (v.front opening events placed told readable);
  }
    where
      by : (e : VisitRefused R) → HasMade (Has v.seen) (Stops v.seen) line (text_of line v.seen) v.seen was now (Err e)
          → HasMade (Has v.seen) (Stops v.seen) line (whole_text line last v.seen) v.seen was now (Err e)
      by visits.NoChannel m = m
      by visits.NoIncident m = m
      by visits.Fault m = m
      by (visits.Damaged k offset) m = m
      by visits.Output m = m
      by (visits.Own reason) m = m

-- Nothing was read.
module _ {tells tells_images R : Type 0} (query : Query) (vault : VaultState) (disk : Disk tells tells_images) (Has : List Record → Type 0)
    (Stops : List Record → R → Type 0) (line : List Record → Record → List ℕ) (whole : List Record → List ℕ) (was : Option (List ℕ)) (has : Has []) where
  none_visited : (stop : VisitRefused R) → HasMade (Has []) (Stops []) line (whole []) [] was was (Err stop)
      → ((records : List Record) → AreVisited [] records (Err stop)) → (out : Result ⊤ (VisitRefused R)) → out ≡ Err stop
      → HasVisited query vault disk Has Stops line whole was was out
  none_visited stop made are out is = record {
    seen = [];
    made = subst (HasMade (Has []) (Stops []) line (whole []) [] was was) (sym is) made;
    are = λ opening events placed told readable. subst (AreVisited [] (selected opening events query)) (sym is) (are (selected opening events query));
    front = λ opening events placed told readable. front_of_none was (whole (selected opening events query));
  }

  -- What is asked for is not there.
  pub not_asked : (no_channel no_incident : Bool) (stop : VisitRefused R) (asked out : Result ⊤ (VisitRefused R))
      → asked ≡ unanswered no_channel no_incident → asked ≡ Err stop → out ≡ Err stop → HasVisited query vault disk Has Stops line whole was was out
  not_asked true no_incident stop asked out answered is so =
      let channel = so ∙ sym is ∙ answered in
      none_visited visits.NoChannel (has, Appends-nil was) (λ records. (records, refl)) out channel
  not_asked false true stop asked out answered is so =
      let incident = so ∙ sym is ∙ answered in
      none_visited visits.NoIncident (has, Appends-nil was) (λ records. (records, refl)) out incident
  not_asked false false stop asked out answered is so = absurd (clash stop asked answered is)
    where
      clash : (stop : VisitRefused R) (asked : Result ⊤ (VisitRefused R)) → asked ≡ Ok tt → asked ≡ Err stop → ⊥
      clash stop asked ok err = cc

-- Then no damage is told.
pub undamaged_so : {tells tells_images R : Type 0} (query : Query) (vault : VaultState) (disk : Disk tells tells_images) (no_channel no_incident : Bool) (stop : VisitRefused R) (asked out : Result ⊤ (VisitRefused R))
    → asked ≡ unanswered no_channel no_incident → asked ≡ Err stop → out ≡ Err stop → IsTold query vault disk out
undamaged_so query vault disk true no_incident stop asked out answered is so =
    let channel = so ∙ sym is ∙ answered in
    none_told query vault disk visits.NoChannel out channel (λ m offset damage. not_channel m offset out channel damage)
undamaged_so query vault disk false true stop asked out answered is so =
    let incident = so ∙ sym is ∙ answered in
    none_told query vault disk visits.NoIncident out incident (λ m offset damage. not_incident m offset out incident damage)
undamaged_so {R = R} query vault disk false false stop asked out answered is so = absurd (clash stop asked answered is)
  where
    clash : (stop : VisitRefused R) (asked : Result ⊤ (VisitRefused R)) → asked ≡ Ok tt → asked ≡ Err stop → ⊥
    clash stop asked ok err = cc

pub not_begun : {tells tells_images R : Type 0} (query : Query) (vault : VaultState) (disk : Disk tells tells_images) → IsTold {R = R} query vault disk (Err visits.Fault)
not_begun {R = R} query vault disk = none_told query vault disk visits.Fault (Err visits.Fault) refl (λ m offset damage. clash m offset damage)
  where
    clash : (m offset : ℕ) → ◌≡◌ {A = Result ⊤ (VisitRefused R)} (Err visits.Fault) (Err (visits.Damaged m offset)) → ⊥
    clash m offset damage = cc
