-- Turns of a play: what they read, and what they print.
use Rattle.std.proofs.Common.{◌≡◌, inl, inr, ⊎_elim, ℕ, List, [], get_or, Bool, true, Result, Ok, Err, refl, sym, ap, ◌∙◌}
use Rattle.std.specs.Prelude.{sum}
use Rattle.vdr_outside.specs.Causes.{NoneFalls, Rose}
use Rattle.vdr_outside.proofs.Counts.{none_falls_join, rose_after, sum_not_less}
use Rattle.vdr_terms.specs.Queries.{Query}
use Rattle.vdr_core.specs.Histories.{Event, Opening}
use Rattle.vdr_durability.specs.Playback.{medium_of}
use Rattle.vdr_outside.specs.declared.media.Media.{Ghosts as MediaTells}
use Rattle.vdr_entry.specs.declared.query.Query.{Query as Asked}
use Rattle.vdr_entry.specs.Queries.{asked}
use Rattle.vdr_play.specs.Streams.{Seen, nothing_seen}
use Rattle.vdr_ring.specs.declared.refused.ReadRefused.{ReadRefused}
use Rattle.vdr_ring.specs.declared.refused.ReadRefused.TheVariants.{Fault}
use Rattle.vdr_vault.specs.Keeps.{KeepsPlayed}
use Rattle.vdr_vault.specs.Plays.{HasReadCause}
use Rattle.vdr_vault.specs.Refusals.{HasVisitCause}
use Rattle.vdr_vault.specs.Stretches.{IsWhole, ReadsForTurn}
use Rattle.vdr_vault.specs.Vaults.{VaultState}
use Rattle.vdr_vault.specs.Visits.{HasOnlyRead}
use Rattle.vdr_vault.specs.declared.stretch.Part.{Part}
use Rattle.vdr_vault.specs.declared.stretch.Part.TheVariants.{Over, Upto}
use Rattle.vdr_vault.specs.declared.stretch.Part.TheVariants as parts
use Rattle.vdr_vault.specs.declared.stretch.Stretch.{Stretch}
use Rattle.vdr_recorder.specs.declared.resume.Going.{Going}
use Rattle.vdr_recorder.specs.declared.resume.Going.TheVariants.{All, Gone}
use Rattle.vdr_recorder.specs.Resuming.{IsPlaying}

-- What was read

module _ {M T : Type 0} (media : MediaTells M) (query : Query) (old new : VaultState) (before after : M) (result : Result T ReadRefused)
    (keeps : KeepsPlayed media (medium_of query.medium) old new before after) (reads : ReadsForTurn media (medium_of query.medium) old new before after result) where
  pub only_read : HasOnlyRead query old new (media.disk before) (media.disk after) (media.bytes_read before) (media.bytes_read after)
  only_read = record {
    vault = keeps.vault;
    rings = keeps.rings;
    unchanged = keeps.unchanged;
    counts = reads.counts;
    judged = keeps.judged;
    stands = keeps.stands;
    readable = keeps.readable;
  }

-- A fault that is answered is that of the read.
pub cause_so : {T U : Type 0} (m : ℕ) (failed : Bool) (before now : List ℕ) (result : Result T ReadRefused) (out : Result U ReadRefused) → HasReadCause m failed before now result
    → (out ≡ Err Fault → result ≡ Err Fault) → HasVisitCause m failed before now (out ≡ Err Fault)
cause_so m failed before now result out cause of = record {
  later = cause.later;
  on_medium = λ is. cause.on_medium (of is);
  in_all = λ is. cause.in_all (of is);
}

-- The same of a read behind others.
pub cause_behind : {T U : Type 0} (m : ℕ) (failed : Bool) (start before now : List ℕ) (result : Result T ReadRefused) (out : Result U ReadRefused) → NoneFalls start before
    → HasReadCause m failed before now result → (out ≡ Err Fault → result ≡ Err Fault) → HasVisitCause m failed start now (out ≡ Err Fault)
cause_behind m failed start before now result out later cause of = record {
  later = none_falls_join start before now later cause.later;
  on_medium = λ is. ⊎_elim
      (λ (had : failed ≡ true). inl had)
      (λ (rose : Rose (get_or before m 0) (get_or now m 0)). inr (rose_after (get_or start m 0) (get_or before m 0) (get_or now m 0) (later.none_falls m) rose))
      (cause.on_medium (of is));
  in_all = λ is. ⊎_elim
      (λ (had : failed ≡ true). inl had)
      (λ (rose : Rose (sum before) (sum now)). inr (rose_after (sum start) (sum before) (sum now) (sum_not_less start before later.same_media later.none_falls) rose))
      (cause.in_all (of is));
}

-- It was refused so.
pub refused_so : {T U : Type 0} (result : Result T ReadRefused) (out : Result U ReadRefused) (was is : ReadRefused) → result ≡ Err was → out ≡ Err was → out ≡ Err is → result ≡ Err is
refused_so {U = U} result out was is so there here = so ∙ ap Err (same was is (sym there ∙ here))
  where
    same : (a b : ReadRefused) → ◌≡◌ {A = Result U ReadRefused} (Err a) (Err b) → a ≡ b
    same a b eq = cc

pub not_refused : {T U : Type 0} (result : Result T ReadRefused) (out : Result U ReadRefused) (x : U) (is : ReadRefused) → out ≡ Ok x → out ≡ Err is → result ≡ Err is
not_refused result out x is there here = let none : ⊥ = cc in absurd none

-- A play is begun

pub begun : (opening : Opening) (events : List Event) (query : Asked) (stretch : Stretch) (seen : Seen) → seen ≡ nothing_seen → IsWhole opening events (asked query) stretch
    → IsPlaying opening events [] (record { query = query; stretch = stretch; tracks = seen })
begun opening events query stretch seen is whole = record {
  front = [];
  selects = whole.selects;
  text = refl;
  seen = is;
  closed = whole.closed;
}

-- A turn that reads nothing

pub over_not_gone : (part : Part) → part ≡ Over → part ≡ parts.Gone → ⊥
over_not_gone part over gone = cc

pub upto_not_gone : (part : Part) (end : ℕ) → part ≡ Upto end → part ≡ parts.Gone → ⊥
upto_not_gone part end upto gone = cc

pub all_not_gone : (place : ℕ) → ◌≡◌ {A = Result Going ReadRefused} (Ok All) (Ok (Gone place)) → ⊥
all_not_gone place is = cc

pub err_not_gone : (refused : ReadRefused) (place : ℕ) → ◌≡◌ {A = Result Going ReadRefused} (Err refused) (Ok (Gone place)) → ⊥
err_not_gone refused place is = cc

-- Behind a part nothing is gone.
pub passed_not_gone : (going : Going) (place : ℕ) → (going ≡ Gone place → ⊥) → ◌≡◌ {A = Result Going ReadRefused} (Ok going) (Ok (Gone place)) → ⊥
passed_not_gone going place there gone = there (same going gone)
  where
    same : (g : Going) → ◌≡◌ {A = Result Going ReadRefused} (Ok g) (Ok (Gone place)) → g ≡ Gone place
    same g is = cc
