use Rattle.std.proofs.Common.{◌∷◌, [], List, ℕ, refl, rules, subst}
use Rattle.vdr_bytes.specs.Numbers.{le_u32}
use Rattle.vdr_evidence.specs.Files.{Heading}
use Rattle.vdr_verify.specs.Standing.{Stands}
use Rattle.vdr_verify.proofs.Heads.{behind_heading}
use Rattle.vdr_verify.proofs.heading.read_heading.Goals as goal

pub returns-clause-reads : goal.returns-clause-reads
returns-clause-reads g c = λ first is.
    let token = c.in_ok-read_token.ensures.stage first is in
    let text = c.in_ok-text.ensures.stage first token in
    let medium = c.in_ok-medium.ensures.stage first text.0 text.2 in
    let at_medium = subst (λ (l : List ℕ). Stands first (g.I.Source.left c.read_medium.new.input) c.read_medium.new.reader (text.0 ∷ l ∷ [])) medium.1 medium.2 in
    let incident = c.in_ok-incident.ensures.stage first text.0 text.1.config_is at_medium in
    let of_medium = c.in_ok-medium.medium ∷ [] in
    let at_incident = subst (λ (l : List ℕ). Stands first (g.I.Source.left c.read_incident.new.input) c.read_incident.new.reader (text.0 ∷ of_medium ∷ l ∷ [])) incident.1 incident.2 in
    let label = c.in_ok-label.ensures.stage first text.0 of_medium at_incident in
    let query = c.in_ok-query.ensures.stage first text.0 of_medium (le_u32 c.in_ok-incident.incident) label.0 text.1.config_is label.2 in
    let h : Heading = record { text = text.0; medium = c.in_ok-medium.medium; incident = c.in_ok-incident.incident; label = label.0; query = query.0 } in (
      h,
      record {
        heading = record { parts = query.2.legal; small = search rules; config = c.in_ok-text.field-0.config; read = text.1.config_is; asks = query.1.1 };
        text_is = text.1.text_is;
        config_is = text.1.config_is;
        digest_is = text.1.digest_is;
        medium_is = refl;
        incident_is = refl;
        label_is = label.1;
        query_is = query.1.0;
      },
      behind_heading first _ _ h query.2,
    )
