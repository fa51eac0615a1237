use Rattle.std.proofs.Common.{rules, ℕ, List, [], All, inl, inr, sym, subst, ◌∙◌}
use Rattle.std.proofs.lemmas.Result.{IfOk-weaker}
use Rattle.vdr_durability.specs.Readings.{AreLevel, EndsMeet}
use Rattle.vdr_outside.specs.Disk.{Durable, Image}
use Rattle.vdr_outside.proofs.Moments.{moments_and_reads, moments_weaken}
use Rattle.vdr_media.specs.Formatted.{IsFormatted, IsUnformatted}
use Rattle.vdr_directory.specs.Sequence.{Placed}
use Rattle.vdr_opening.specs.Media.{members_in, members_with, Contents, HoldsContents, HoldsParts, opening_of, reading_of}
use Rattle.vdr_opening.specs.Refusals.{IsRefused}
use Rattle.vdr_vault.specs.Vaults.{IsReadable, VaultState, ShowsHistory, Stands}
use Rattle.vdr_vault.specs.Openings.{IsToldBy, TellsOfParts}
use Rattle.vdr_vault.specs.Regularity.{AreSound}
use Rattle.vdr_opening.specs.Costs.{ReadsToOpen}
use Rattle.vdr_vault.proofs.OpenCosts.{reads_since}
use Rattle.vdr_vault.proofs.OpenMoments.{cause_after, goes_on_synced, within_synced}
use Rattle.vdr_vault.proofs.vault.Vault.open.Goals as goal

-- what was read of the media with this image, and the vault tells of it
abbrev HasParts : Image → VaultState → Type 0
HasParts image vault = IsFormatted image × (x : Contents) × HoldsParts image x × EndsMeet (members_with x.further) (reading_of x) × IsToldBy x vault

pub returns-clause-moments : goal.returns-clause-moments
returns-clause-moments g c x told holds meet regular = inr (goes_on_synced (ShowsHistory (opening_of x) []) (g.M.Media.disk c.args.media.now) (g.M.Media.disk c.sync_all.new.media) (g.M.Media.disk c.open_synced.new.media)
    c.sync_all.ensures.moments ((c.open_synced.ensures.meanwhile x told c.in-Ok.ensures.durable (subst (λ (i : Image). HoldsContents i x) (sym (c.sync_all.ensures.reads told)) holds)).moments meet regular))

pub returns-clause-missing : goal.returns-clause-missing
returns-clause-missing g c x told holds =
    let mid = subst (λ (i : Image). HoldsContents i x) (sym (c.sync_all.ensures.reads told)) holds in
    record {
      level = λ level.
          let same = (c.open_synced.ensures.meanwhile x told c.in-Ok.ensures.durable mid).level level in (
            moments_and_reads (g.M.Media.disk c.args.media.now) (g.M.Media.disk c.sync_all.new.media) (g.M.Media.disk c.open_synced.new.media) (λ i. (g.M.Media.disk c.args.media.now).now i) c.sync_all.ensures.moments same,
            same.reads told ∙ c.sync_all.ensures.reads told,
          );
      missing = λ meet. within_synced x (g.M.Media.disk c.args.media.now) (g.M.Media.disk c.sync_all.new.media) (g.M.Media.disk c.open_synced.new.media) c.sync_all.ensures.moments
          ((c.open_synced.ensures.meanwhile x told c.in-Ok.ensures.durable mid).within meet);
    }

pub returns-in_default-clause-missing : goal.returns-in_default-clause-missing
returns-in_default-clause-missing g c x told holds = record {
  level = λ level. (c.sync_all.ensures.moments, c.sync_all.ensures.reads told);
  missing = λ meet. moments_weaken (g.M.Media.disk c.args.media.now) (g.M.Media.disk c.sync_all.new.media) _ _ c.sync_all.ensures.moments (λ i now. inl now);
}

pub returns-clause-opened : goal.returns-clause-opened
returns-clause-opened g c = record {
  opened = IfOk-weaker c.open_synced.result
      (λ vault. (x : Contents) → g.M.Media.tells → All (λ m. Durable m (g.M.Media.disk c.sync_all.new.media)) (members_in (g.M.Media.disk c.sync_all.new.media).reads) → HoldsContents (g.M.Media.disk c.sync_all.new.media).reads x → AreSound x
      → (placed : ℕ → List Placed) × Stands (opening_of x) [] vault placed (g.M.Media.disk c.open_synced.new.media))
      (λ vault. (x : Contents) → g.M.Media.tells → HoldsContents (g.M.Media.disk c.args.media.now).reads x → AreSound x
      → (placed : ℕ → List Placed) × Stands (opening_of x) [] vault placed (g.M.Media.disk c.open_synced.new.media))
      (λ vault h x told holds regular. h x told c.in-Ok.ensures.durable (subst (λ (i : Image). HoldsContents i x) (sym (c.sync_all.ensures.reads told)) holds) regular)
      c.open_synced.ensures.opened;
  parts = IfOk-weaker c.open_synced.result
      (λ vault. g.M.Media.tells → HasParts (g.M.Media.disk c.sync_all.new.media).reads vault)
      (λ vault. g.M.Media.tells → HasParts (g.M.Media.disk c.args.media.now).reads vault)
      (λ vault h told. subst (λ (i : Image). HasParts i vault) (c.sync_all.ensures.reads told) (h told))
      c.open_synced.ensures.parts;
  known = IfOk-weaker c.open_synced.result
      (λ vault. (x : Contents) → g.M.Media.tells → HoldsParts (g.M.Media.disk c.sync_all.new.media).reads x → TellsOfParts x vault)
      (λ vault. (x : Contents) → g.M.Media.tells → HoldsParts (g.M.Media.disk c.args.media.now).reads x → TellsOfParts x vault)
      (λ vault h x told holds. h x told (subst (λ (i : Image). HoldsParts i x) (sym (c.sync_all.ensures.reads told)) holds))
      c.open_synced.ensures.known;
  contents = IfOk-weaker c.open_synced.result
      (λ vault. (x : Contents) → g.M.Media.tells → All (λ m. Durable m (g.M.Media.disk c.sync_all.new.media)) (members_in (g.M.Media.disk c.sync_all.new.media).reads) → HoldsContents (g.M.Media.disk c.sync_all.new.media).reads x
      → EndsMeet (members_with x.further) (reading_of x) × IsToldBy x vault)
      (λ vault. (x : Contents) → g.M.Media.tells → HoldsContents (g.M.Media.disk c.args.media.now).reads x → EndsMeet (members_with x.further) (reading_of x) × IsToldBy x vault)
      (λ vault h x told holds. h x told c.in-Ok.ensures.durable (subst (λ (i : Image). HoldsContents i x) (sym (c.sync_all.ensures.reads told)) holds))
      c.open_synced.ensures.contents;
  readable = IfOk-weaker c.open_synced.result
      (λ vault. (x : Contents) → g.M.Media.tells → All (λ m. Durable m (g.M.Media.disk c.sync_all.new.media)) (members_in (g.M.Media.disk c.sync_all.new.media).reads) → HoldsContents (g.M.Media.disk c.sync_all.new.media).reads x
      → AreLevel (members_with x.further) (reading_of x) → IsReadable (opening_of x) [] vault x.placed (g.M.Media.disk c.open_synced.new.media))
      (λ vault. (x : Contents) → g.M.Media.tells → HoldsContents (g.M.Media.disk c.args.media.now).reads x → AreLevel (members_with x.further) (reading_of x)
      → IsReadable (opening_of x) [] vault x.placed (g.M.Media.disk c.open_synced.new.media))
      (λ vault h x told holds level. h x told c.in-Ok.ensures.durable (subst (λ (i : Image). HoldsContents i x) (sym (c.sync_all.ensures.reads told)) holds) level)
      c.open_synced.ensures.readable;
  works = search rules;
  judged = search rules;
  rings = search rules;
}

pub returns-clause-refused : goal.returns-clause-refused
returns-clause-refused g c = record {
  unformatted = search rules;
  damaged = λ m offset is told. subst (λ (i : Image). IsFormatted i × IsRefused i m offset) (c.sync_all.ensures.reads told) (c.open_synced.ensures.damaged m offset is told c.in-Ok.ensures.durable);
  untouched = search rules;
  blank = λ told un. moments_and_reads (g.M.Media.disk c.args.media.now) (g.M.Media.disk c.sync_all.new.media) (g.M.Media.disk c.open_synced.new.media) (λ i. (g.M.Media.disk c.args.media.now).now i)
      c.sync_all.ensures.moments (c.open_synced.ensures.blank told (subst IsUnformatted (sym (c.sync_all.ensures.reads told)) un));
}

pub returns-clause-writes : goal.returns-clause-writes
returns-clause-writes g c = record {
  others = search rules;
  sizes = search rules;
  cause = cause_after _ _ _ _ _ c.sync_all.ensures.cause.later c.open_synced.ensures.cause;
}

pub returns-clause-bytes : goal.returns-clause-bytes
returns-clause-bytes g c = IfOk-weaker c.open_synced.result
    (λ vault. (x : Contents) → g.M.Media.tells → HoldsParts (g.M.Media.disk c.sync_all.new.media).reads x
    → ReadsToOpen x (g.M.Media.disk c.sync_all.new.media).sizes (g.M.Media.bytes_read c.sync_all.new.media) (g.M.Media.bytes_read c.open_synced.new.media))
    (λ vault. (x : Contents) → g.M.Media.tells → HoldsParts (g.M.Media.disk c.args.media.now).reads x
    → ReadsToOpen x (g.M.Media.disk c.args.media.now).sizes (g.M.Media.bytes_read c.args.media.now) (g.M.Media.bytes_read c.open_synced.new.media))
    (λ vault h x told holds. reads_since x _ _ _ _ _ c.sync_all.ensures.sizes c.sync_all.ensures.counts (h x told (subst (λ (i : Image). HoldsParts i x) (sym (c.sync_all.ensures.reads told)) holds)))
    c.open_synced.ensures.bytes
