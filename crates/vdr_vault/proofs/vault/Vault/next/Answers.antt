use Rattle.std.proofs.Common.{◌<◌, rules, arith, false, Option, Some, Ok, Err, sym, ap, ◌∙◌, subst}
use Rattle.std.proofs.lemmas.Bool.{false≢true}
use Rattle.vdr_terms.specs.Queries.{Span}
use Rattle.vdr_durability.specs.Playback.{medium_of}
use Rattle.vdr_entry.specs.Queries.{asked, asked_medium}
use Rattle.vdr_vault.specs.Vaults.{VaultState}
use Rattle.vdr_index.specs.Indexes.{span_as}
use Rattle.vdr_ring.specs.declared.refused.ReadRefused.TheVariants.{Fault}
use Rattle.vdr_ring.specs.Walks.{AreLeft, slots_read}
use Rattle.vdr_vault.specs.Plays.{budget_for, ring_for}
use Rattle.vdr_vault.proofs.Budgeting.{spends_for, spends_nothing}
use Rattle.vdr_vault.proofs.Coming.{gives_to_come, holds_on, none_to_come}
use Rattle.vdr_vault.proofs.Members.{ring_is}
use Rattle.vdr_vault.proofs.Playing.{judged_over, readable_still, rings_still, stands_still}
use Rattle.vdr_vault.proofs.Stepping.{reads_for_play, steps_among, steps_nowhere}
use Rattle.vdr_vault.proofs.vault.Vault.next.Goals as goal

pub returns-clause-plays : goal.returns-clause-plays
returns-clause-plays g c opening events placed records told stands left =
    let query = asked c.args.query.now in
    let before = g.M.Media.disk c.args.media.now in
    let now = g.M.Media.disk c.step_on.new.media in
    let m = medium_of (asked_medium c.args.query.now.medium) in
    let at_medium = c.number_of.ensures.number in
    let span = c.in-Some.ensures.last placed (λ k d within. (stands.media k d within).reads.directory) in
    let reads = (holds_on opening events c.args.self.now placed before stands c.args.query.now.medium).reads in
    let is_left = subst (λ (o : Option Span). AreLeft (slots_read (ring_for c.args.self.now query) before) (placed m) query o c.args.cursor.now records) (sym span) left in
    gives_to_come query c.args.self.now c.step_on.new.self before now placed (Some (span_as c.in-Some.span)) c.step_on.new.cursor records c.step_on.result told
    (rw at_medium at c.step_on.ensures.vault) (rw at_medium at c.step_on.ensures.keeps.read) span
    ((rw at_medium at c.step_on.ensures.plays) told (placed m) records reads is_left)

pub returns-then-self-clause-plays : goal.returns-then-self-clause-plays
returns-then-self-clause-plays g c opening events placed records told stands left =
    absurd (false≢true (sym stands.working ∙ sym (ap (λ (s : VaultState). s.failed) c.self.view_is) ∙ c.if-self.true))

pub returns-in_default-clause-plays : goal.returns-in_default-clause-plays
returns-in_default-clause-plays g c opening events placed records told stands left =
    none_to_come (asked c.args.query.now) c.args.self.now (g.M.Media.disk c.args.media.now) placed c.args.cursor.now c.new-in_default.result records
    (sym (c.in_default.ensures.last placed (λ k d within. (stands.media k d within).reads.directory))) c.new-in_default.ensures.standing c.new-in_default.ensures.item left

pub returns-clause-keeps : goal.returns-clause-keeps
returns-clause-keeps g c =
    let before = g.M.Media.disk c.args.media.now in
    let now = g.M.Media.disk c.step_on.new.media in
    let vault = rw c.number_of.ensures.number at c.step_on.ensures.vault in
    let read = rw c.number_of.ensures.number at c.step_on.ensures.keeps.read in
    record {
      vault = vault;
      rings = rings_still _ c.args.self.now c.step_on.new.self before now vault read c.requires.rings;
      stands = stands_still _ c.args.self.now c.step_on.new.self before now vault read;
      judged = judged_over _ c.args.self.now c.step_on.new.self before now vault read;
      readable = readable_still _ c.args.self.now c.step_on.new.self before now vault read;
      unchanged = search rules;
    }

pub returns-clause-reads : goal.returns-clause-reads
returns-clause-reads g c =
    let query = asked c.args.query.now in
    let member : medium_of query.medium < 2 = rw c.number_of.ensures.number at c.number_of.ensures.member in
    reads_for_play g.M.Media query (span_as c.in-Some.span) c.args.self.now c.step_on.new.self c.args.cursor.now c.step_on.new.cursor c.args.media.now
    c.step_on.new.media c.step_on.result
    c.requires.rings member (rw c.number_of.ensures.number at c.step_on.ensures.keeps)
    (sym (ap (λ (s : VaultState). s.failed) c.self.view_is) ∙ c.if-self.false)

pub returns-clause-steps : goal.returns-clause-steps
returns-clause-steps g c =
    let query = asked c.args.query.now in
    let member : medium_of query.medium < 2 = rw c.number_of.ensures.number at c.number_of.ensures.member in
    steps_among g.M.Media query (span_as c.in-Some.span) c.args.self.now c.step_on.new.self c.args.cursor.now c.step_on.new.cursor c.args.media.now
    c.step_on.new.media c.step_on.result
    c.requires.rings member (rw c.number_of.ensures.number at c.step_on.ensures.keeps) (rw c.number_of.ensures.number at c.step_on.ensures.vault)
    (sym c.in-Some.ensures.kept)
    (rw c.number_of.ensures.number at c.step_on.ensures.tells)

pub returns-then-self-clause-steps : goal.returns-then-self-clause-steps
returns-then-self-clause-steps g c =
    steps_nowhere g.M.Media (asked c.args.query.now) _ _ c.args.cursor.now c.new.result c.args.media.now c.args.media.now (Err Fault) c.new.ensures.standing
    c.new.ensures.slot
    (λ k offset e. let no : ⊥ = cc in no) (λ e. let no : ⊥ = cc in no) (λ e. let no : ⊥ = cc in absurd no)

pub returns-in_default-clause-steps : goal.returns-in_default-clause-steps
returns-in_default-clause-steps g c =
    steps_nowhere g.M.Media (asked c.args.query.now) _ _ c.args.cursor.now c.new-in_default.result c.args.media.now c.args.media.now (Ok false)
    c.new-in_default.ensures.standing
    c.new-in_default.ensures.slot (λ k offset e. let no : ⊥ = cc in no) (λ e. let no : ⊥ = cc in no) (λ e. sym c.in_default.ensures.kept)

pub returns-then-self-clause-spends : goal.returns-then-self-clause-spends
returns-then-self-clause-spends g c = record { within = omega arith; left = tt }

pub returns-in_default-clause-spends : goal.returns-in_default-clause-spends
returns-in_default-clause-spends g c =
    let query = asked c.args.query.now in
    spends_nothing (medium_of query.medium) query c.args.self.now (budget_for c.args.self.now query c.args.cursor.now.standing) c.new-in_default.result.standing (g.M.Media.bytes_read c.args.media.now)
    (sym c.in_default.ensures.kept)

pub returns-clause-spends : goal.returns-clause-spends
returns-clause-spends g c =
    let query = asked c.args.query.now in
    let member : medium_of query.medium < 2 = rw c.number_of.ensures.number at c.number_of.ensures.member in
    let keeps = rw c.number_of.ensures.number at c.step_on.ensures.keeps in
    spends_for query c.args.self.now c.step_on.new.self (span_as c.in-Some.span) c.args.cursor.now.standing c.step_on.new.cursor.standing
    (g.M.Media.bytes_read c.args.media.now)
    (g.M.Media.bytes_read c.step_on.new.media) c.step_on.result (sym c.in-Some.ensures.kept) (rw c.number_of.ensures.number at c.step_on.ensures.vault)
    (ring_is c.requires.rings (medium_of query.medium) (let two = c.requires.rings.two in omega (arith, member, two))).medium keeps.spends
