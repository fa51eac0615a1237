use Rattle.std.proofs.Common.{◌<◌, rules, Err, refl, sym, ap, ◌∙◌}
use Rattle.std.proofs.lemmas.Bool.{false≢true}
use Rattle.vdr_terms.specs.Queries.Span.{Places}
use Rattle.vdr_durability.specs.Playback.{medium_of}
use Rattle.vdr_entry.specs.Queries.{asked}
use Rattle.vdr_vault.specs.Vaults.{VaultState}
use Rattle.vdr_ring.specs.declared.refused.ReadRefused.TheVariants.{Fault}
use Rattle.vdr_vault.proofs.Coming.{holds_on}
use Rattle.vdr_vault.proofs.Playing.{judged_over, readable_still, rings_still, stands_still}
use Rattle.vdr_vault.proofs.Stretched.{gives_within}
use Rattle.vdr_vault.proofs.Stepped.{reads_turn, steps_unstepped, steps_within}
use Rattle.vdr_vault.proofs.Stepping.{reads_for_play}
use Rattle.vdr_vault.proofs.vault.Vault.step_within.Goals as goal

pub returns-clause-plays : goal.returns-clause-plays
returns-clause-plays g c opening events placed records told stands left =
    let query = asked c.args.query.now in
    let before = g.M.Media.disk c.args.media.now in
    let at_medium = c.number_of.ensures.number in
    let reads = (holds_on opening events c.args.self.now placed before stands c.args.query.now.medium).reads in
    gives_within query c.args.part c.args.self.now c.step_on.new.self before (g.M.Media.disk c.step_on.new.media) placed c.step_on.new.cursor records c.step_on.result told
    (rw at_medium at c.step_on.ensures.keeps.read)
    ((rw at_medium at c.step_on.ensures.plays) told (placed (medium_of query.medium)) records reads left)

pub returns-then-self-clause-plays : goal.returns-then-self-clause-plays
returns-then-self-clause-plays g c opening events placed records told stands left =
    absurd (false≢true (sym stands.working ∙ sym (ap (λ (s : VaultState). s.failed) c.self.view_is) ∙ c.if-self.true))

pub returns-clause-keeps : goal.returns-clause-keeps
returns-clause-keeps g c =
    let before = g.M.Media.disk c.args.media.now in
    let now = g.M.Media.disk c.step_on.new.media in
    let vault = rw c.number_of.ensures.number at c.step_on.ensures.vault in
    let read = rw c.number_of.ensures.number at c.step_on.ensures.keeps.read in
    record {
      vault = vault;
      rings = rings_still _ c.args.self.now c.step_on.new.self before now vault read c.requires.rings;
      stands = stands_still _ c.args.self.now c.step_on.new.self before now vault read;
      judged = judged_over _ c.args.self.now c.step_on.new.self before now vault read;
      readable = readable_still _ c.args.self.now c.step_on.new.self before now vault read;
      unchanged = search rules;
    }

pub returns-clause-reads : goal.returns-clause-reads
returns-clause-reads g c =
    let query = asked c.args.query.now in
    let member : medium_of query.medium < 2 = rw c.number_of.ensures.number at c.number_of.ensures.member in
    reads_turn g.M.Media (medium_of query.medium) _ _ _ _ _
    (reads_for_play g.M.Media query (Places c.args.part.next c.args.part.last) c.args.self.now c.step_on.new.self c.args.cursor.now c.step_on.new.cursor c.args.media.now
    c.step_on.new.media c.step_on.result
    c.requires.rings member (rw c.number_of.ensures.number at c.step_on.ensures.keeps)
    (sym (ap (λ (s : VaultState). s.failed) c.self.view_is) ∙ c.if-self.false))

pub returns-clause-steps : goal.returns-clause-steps
returns-clause-steps g c =
    let query = asked c.args.query.now in
    let member : medium_of query.medium < 2 = rw c.number_of.ensures.number at c.number_of.ensures.member in
    steps_within g.M.Media query c.args.part c.args.self.now c.step_on.new.self c.args.cursor.now c.step_on.new.cursor c.args.media.now
    c.step_on.new.media c.step_on.result
    c.requires.rings member (rw c.number_of.ensures.number at c.step_on.ensures.keeps)
    (rw c.number_of.ensures.number at c.step_on.ensures.tells)

pub returns-then-self-clause-steps : goal.returns-then-self-clause-steps
returns-then-self-clause-steps g c =
    steps_unstepped g.M.Media (asked c.args.query.now) c.args.part _ _ c.args.cursor.now c.new.result c.args.media.now c.args.media.now (Err Fault) c.new.ensures.slot refl refl
