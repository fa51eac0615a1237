use Rattle.std.proofs.Common.{refl, subst, ◌∙◌, ap, unsigned_abs}
use Rattle.vdr_core.specs.Histories.{Incident}
use Rattle.vdr_terms.proofs.Stamping.{stamp_kept}
use Rattle.vdr_incident.specs.Saves.{SpellsSave}
use Rattle.vdr_incident.proofs.Spelling.{save_put}
use Rattle.vdr_incident.proofs.save.Save.body.Goals as goal

pub returns-clause-spells : goal.returns-clause-spells
returns-clause-spells c =
    let x : Incident = record { label = c.self.inside.label.items; a = c.self.inside.a; b = c.self.inside.b; stamp = record { tick = c.self.inside.tick; utc = c.self.inside.utc } } in
    let spelled : SpellsSave c.put-2.new.into x =
    save_put x c.unsigned_abs.result _ _ _ _ _ _ c.self.invariant (c.unsigned_abs.ensures.value ∙ ap unsigned_abs (stamp_kept c.self.inside.utc c.self.invariant.utc_legal)) c.as_slice-label.ensures.value refl refl
    c.put_u64s.ensures c.put.ensures c.put-2.ensures in
    subst (λ (y : Incident). SpellsSave c.put-2.new.into y) c.self.view_is spelled
