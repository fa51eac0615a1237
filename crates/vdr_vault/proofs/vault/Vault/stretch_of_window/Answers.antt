use Rattle.std.proofs.Common.{◌/◌, ◌∙◌, ℕ, sym, ap, subst, arith}
use Rattle.std.specs.Prelude.{IfOk}
use Rattle.vdr_terms.specs.Windows.{window}
use Rattle.vdr_config.specs.Sizes.{window_of}
use Rattle.vdr_directory.specs.Sequence.{all_records}
use Rattle.vdr_ring.specs.declared.refused.ReadRefused.TheVariants.{Damaged}
use Rattle.vdr_vault.specs.Vaults.{VaultState, ring_of}
use Rattle.vdr_vault.specs.Stretches.{IsWindowOf}
use Rattle.vdr_vault.proofs.Budgeting.{counts_on, rose_on}
use Rattle.vdr_vault.proofs.Members.{ring_is}
use Rattle.vdr_vault.proofs.OfWindow.{first_is, never_damaged, never_none}
use Rattle.vdr_vault.proofs.Stepped.{begun_cause, begun_error, begun_nowhere, begun_window, newest_told, newest_untold}
use Rattle.vdr_vault.proofs.Stepping.{damaged_there, in_no_slot, on_medium}
use Rattle.vdr_vault.proofs.vault.Vault.stretch_of_window.Goals as goal

pub returns-clause-begins : goal.returns-clause-begins
returns-clause-begins g c placed told reads =
    let disk = g.M.Media.disk c.args.media.now in
    let seconds = c.window-seconds.result in
    let newest = newest_told (all_records placed) c.in-Some.place c.in-Some.tick c.in-Some.field-0-2 c.last.result (c.last.ensures.last placed (rw (sym c.ring.ensures) at reads.directory)) c.in-Some.is in
    let plays = c.step_on-found.ensures.plays told placed (window seconds (all_records placed)) reads in
    let at = ap (λ (t : ℕ). t / 1000) newest.2.1 in
    subst (λ (n : ℕ). IfOk c.begun.result (IsWindowOf n (all_records placed)))
    (c.window-seconds.ensures.window ∙ ap (λ (s : VaultState). window_of s.config c.args.m) c.self.view_is)
    (begun_window seconds (all_records placed) c.in-Some.place newest.0 newest.1 newest.2.0 c.step_on-found.result c.step_on-found.new.cursor.visit.item c.begun.result c.begun.ensures
    (first_is (ring_of c.args.self.now c.args.m) disk placed reads told seconds _ c.window-seconds.ensures.low newest.0 newest.1 at c.new-cursor.result c.new-cursor.ensures.standing _ _ _ plays)
    (never_none (ring_of c.args.self.now c.args.m) disk placed reads told seconds _ c.window-seconds.ensures.low newest.0 newest.1 at c.new-cursor.result c.new-cursor.ensures.standing _ _ _ plays)
    (λ e none. c.step_on-found.ensures.keeps.item.1 e none))

pub returns-in_default-clause-begins : goal.returns-in_default-clause-begins
returns-in_default-clause-begins g c placed told reads =
    begun_nowhere _ (all_records placed) _ (newest_untold (all_records placed) c.last.result (c.last.ensures.last placed (rw (sym c.ring.ensures) at reads.directory)) c.in_default.is) (omega arith)

pub returns-clause-undamaged : goal.returns-clause-undamaged
returns-clause-undamaged g c placed k offset told reads is =
    let disk = g.M.Media.disk c.args.media.now in
    let seconds = c.window-seconds.result in
    let newest = newest_told (all_records placed) c.in-Some.place c.in-Some.tick c.in-Some.field-0-2 c.last.result (c.last.ensures.last placed (rw (sym c.ring.ensures) at reads.directory)) c.in-Some.is in
    never_damaged (ring_of c.args.self.now c.args.m) disk placed reads told seconds _ c.window-seconds.ensures.low newest.0 newest.1 (ap (λ (t : ℕ). t / 1000) newest.2.1) c.new-cursor.result c.new-cursor.ensures.standing _ _ _
    (c.step_on-found.ensures.plays told placed (window seconds (all_records placed)) reads) k offset
    (begun_error c.step_on-found.result c.step_on-found.new.cursor.visit.item c.in-Some.place c.begun.result c.begun.ensures (Damaged k offset) is)

pub returns-clause-damaged : goal.returns-clause-damaged
returns-clause-damaged g c k offset is =
    let damage = begun_error c.step_on-found.result c.step_on-found.new.cursor.visit.item c.in-Some.place c.begun.result c.begun.ensures (Damaged k offset) is in
    let disk = g.M.Media.disk c.args.media.now in (
      on_medium _ _ c.args.self.now c.args.m c.requires.member disk c.requires.rings c.new-cursor.result c.step_on-found.new.cursor c.step_on-found.result c.step_on-found.ensures.tells k
          offset damage,
      λ told judged. damaged_there _ _ c.args.self.now c.args.m c.requires.member disk c.requires.rings c.new-cursor.result c.step_on-found.new.cursor c.step_on-found.result
          c.step_on-found.ensures.tells told judged
          (in_no_slot (ring_of c.args.self.now c.args.m) disk c.new-cursor.result.visit c.new-cursor.ensures.slot) k offset damage,
    )

pub returns-clause-counts : goal.returns-clause-counts
returns-clause-counts g c = (counts_on c.args.m _ _ _ _ _ (ring_is c.requires.rings c.args.m (let two = c.requires.rings.two in let member = c.requires.member in omega (arith, member, two))).medium c.step_on-found.ensures.keeps.counts).others

pub returns-clause-cause : goal.returns-clause-cause
returns-clause-cause g c =
    let medium = (ring_is c.requires.rings c.args.m (let two = c.requires.rings.two in let member = c.requires.member in omega (arith, member, two))).medium in
    begun_cause c.args.m _ _ c.step_on-found.result c.step_on-found.new.cursor.visit.item c.in-Some.place c.begun.result c.begun.ensures
    (counts_on c.args.m _ _ _ _ _ medium c.step_on-found.ensures.keeps.counts).later
    (λ e. rose_on c.args.m _ _ _ medium (c.step_on-found.ensures.keeps.cause e))
