use Rattle.std.proofs.Common.{◌<◌, inl, inr, ℕ, Some, Err, sym, ap, ◌∙◌, arith}
use Rattle.vdr_terms.specs.Records.{Record}
use Rattle.vdr_terms.specs.Windows.{window}
use Rattle.vdr_directory.specs.Sequence.{all_records}
use Rattle.vdr_ring.specs.declared.refused.ReadRefused.{ReadRefused}
use Rattle.vdr_vault.specs.Vaults.{ring_of}
use Rattle.vdr_vault.specs.Saves.{first_in_window}
use Rattle.vdr_vault.proofs.Refusals.{cause_of_read, damage_handed_on, damage_is}
use Rattle.vdr_vault.proofs.Budgeting.{counts_on, rose_on}
use Rattle.vdr_vault.proofs.Members.{ring_is}
use Rattle.vdr_vault.proofs.Playing.{rings_still}
use Rattle.vdr_vault.proofs.Stepping.{damaged_there, in_no_slot, on_medium}
use Rattle.vdr_vault.proofs.OfWindow.{first_is, never_damaged, never_none}
use Rattle.vdr_vault.proofs.vault.Vault.first_of_incident.Goals as goal

pub returns-in_err-step_on-clause-undamaged : goal.returns-in_err-step_on-clause-undamaged
returns-in_err-step_on-clause-undamaged g c placed newest m offset told reads ends at is =
    let some : 0 < c.incident_seconds-seconds.result = c.incident_seconds-seconds.ensures.some in
    never_damaged (ring_of c.args.self.now 1) (g.M.Media.disk c.args.media.now) placed reads told c.incident_seconds-seconds.result c.args.last_second some newest ends at c.new-cursor.result c.new-cursor.ensures.standing _ _ _
    (c.step_on.ensures.plays told placed (window c.incident_seconds-seconds.result (all_records placed)) reads) m offset
    (c.in_err-step_on.was ∙ ap (λ (e : ReadRefused). Err e) (damage_handed_on m offset c.in_err-step_on.field-0.0 c.from_residual.result c.from_residual.ensures.1 is))

pub returns-then-not-branch-clause-undamaged : goal.returns-then-not-branch-clause-undamaged
returns-then-not-branch-clause-undamaged g c placed newest m offset told reads ends at is =
    let some : 0 < c.incident_seconds-seconds.result = c.incident_seconds-seconds.ensures.some in
    never_none (ring_of c.args.self.now 1) (g.M.Media.disk c.args.media.now) placed reads told c.incident_seconds-seconds.result c.args.last_second some newest ends at c.new-cursor.result c.new-cursor.ensures.standing _ _ _
    (c.step_on.ensures.plays told placed (window c.incident_seconds-seconds.result (all_records placed)) reads) c.in_ok-step_on.field-0 c.in_ok-step_on.was c.if-not-branch.true

pub returns-clause-found : goal.returns-clause-found
returns-clause-found g c placed newest told reads ends at =
    let some : 0 < c.incident_seconds-seconds.result = c.incident_seconds-seconds.ensures.some in
    ap (λ (n : ℕ). first_in_window n (all_records placed)) (sym c.incident_seconds-seconds.ensures.seconds)
    ∙ first_is (ring_of c.args.self.now 1) (g.M.Media.disk c.args.media.now) placed reads told c.incident_seconds-seconds.result c.args.last_second some newest ends at c.new-cursor.result c.new-cursor.ensures.standing _ _ _
    (c.step_on.ensures.plays told placed (window c.incident_seconds-seconds.result (all_records placed)) reads) c.in_ok-step_on.field-0 c.in_ok-step_on.was c.if-not-branch.false c.in-Some.item.now (sym c.in-Some.ensures)
    ∙ ap (λ (r : Record). Some r.place) (sym c.item-2.view_is)

pub returns-in_err-step_on-clause-damaged : goal.returns-in_err-step_on-clause-damaged
returns-in_err-step_on-clause-damaged g c m offset is =
    let damage = c.in_err-step_on.was ∙ ap (λ (e : ReadRefused). Err e) (damage_handed_on m offset c.in_err-step_on.field-0.0 c.from_residual.result c.from_residual.ensures.1 is) in
    let disk = g.M.Media.disk c.args.media.now in (
      on_medium _ _ c.args.self.now 1 (omega arith) disk c.requires.rings c.new-cursor.result c.step_on.new.cursor c.step_on.result c.step_on.ensures.tells m
          offset damage,
      λ told judged. inr (damaged_there _ _ c.args.self.now 1 (omega arith) disk c.requires.rings c.new-cursor.result c.step_on.new.cursor c.step_on.result
          c.step_on.ensures.tells told judged
          (in_no_slot (ring_of c.args.self.now 1) disk c.new-cursor.result.visit c.new-cursor.ensures.slot) m offset damage),
    )

pub returns-then-not-branch-clause-damaged : goal.returns-then-not-branch-clause-damaged
returns-then-not-branch-clause-damaged g c m offset is = let at = damage_is 1 0 m offset is in (at.0, λ told judged. inl at.1)

pub returns-in_err-step_on-clause-cause : goal.returns-in_err-step_on-clause-cause
returns-in_err-step_on-clause-cause g c =
    let medium = (ring_is c.requires.rings 1 (omega arith)).medium in
    cause_of_read (g.M.Media.faults c.args.media.now) (g.M.Media.faults c.step_on.new.media) c.in_err-step_on.field-0.0 c.step_on.result c.from_residual.result
    c.step_on.ensures.keeps.counts.later
    (λ e. rose_on 1 _ _ _ medium (c.step_on.ensures.keeps.cause e)) c.in_err-step_on.was c.from_residual.ensures.1

pub returns-in_err-step_on-clause-counts : goal.returns-in_err-step_on-clause-counts
returns-in_err-step_on-clause-counts g c = (counts_on 1 _ _ _ _ _ (ring_is c.requires.rings 1 (omega arith)).medium c.step_on.ensures.keeps.counts).others

pub returns-then-not-branch-clause-counts : goal.returns-then-not-branch-clause-counts
returns-then-not-branch-clause-counts g c = (counts_on 1 _ _ _ _ _ (ring_is c.requires.rings 1 (omega arith)).medium c.step_on.ensures.keeps.counts).others

pub returns-clause-counts : goal.returns-clause-counts
returns-clause-counts g c = (counts_on 1 _ _ _ _ _ (ring_is c.requires.rings 1 (omega arith)).medium c.step_on.ensures.keeps.counts).others

pub returns-then-not-branch-clause-rings : goal.returns-then-not-branch-clause-rings
returns-then-not-branch-clause-rings g c =
    rings_still 1 c.args.self.now c.step_on.new.self (g.M.Media.disk c.args.media.now) (g.M.Media.disk c.step_on.new.media) c.step_on.ensures.vault
    c.step_on.ensures.keeps.read c.requires.rings

pub returns-clause-rings : goal.returns-clause-rings
returns-clause-rings g c =
    rings_still 1 c.args.self.now c.step_on.new.self (g.M.Media.disk c.args.media.now) (g.M.Media.disk c.step_on.new.media) c.step_on.ensures.vault
    c.step_on.ensures.keeps.read c.requires.rings

pub returns-in_err-step_on-clause-rings : goal.returns-in_err-step_on-clause-rings
returns-in_err-step_on-clause-rings g c =
    rings_still 1 c.args.self.now c.step_on.new.self (g.M.Media.disk c.args.media.now) (g.M.Media.disk c.step_on.new.media) c.step_on.ensures.vault
    c.step_on.ensures.keeps.read c.requires.rings
