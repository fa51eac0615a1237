-- What a file holds of which something was kept, and what is selected of it.
use Rattle.std.proofs.Common.{◌≡◌, ◌∙◌, ℕ, List, [], Option, Some, true, refl, sym, ap, subst}
use Rattle.std.specs.Prelude.{IfSome, filter}
use Rattle.vdr_terms.specs.Queries.{Query, matches}
use Rattle.vdr_terms.specs.Records.{Record}
use Rattle.vdr_core.proofs.Meter.{filter_twice}
use Rattle.vdr_config.specs.Configuration.{Configuration}
use Rattle.vdr_durability.specs.Playback.{extent}
use Rattle.vdr_entry.specs.Queries.{asked_medium}
use Rattle.vdr_entry.specs.declared.query.Medium.{Medium}
use Rattle.vdr_evidence.specs.Files.{evidence_bytes, heading_bytes}
use Rattle.vdr_opening.specs.Media.{Contents, opening_of}
use Rattle.vdr_verify.specs.Visiting.{IsLeftWhole, selected_in}
use Rattle.vdr_verify.specs.declared.evidence.Evidence.{Evidence}
use Rattle.vdr_readout.specs.Reads.{AskedPlay, query_of, records_asked}
use Rattle.vdr_from.specs.Held.{Held, IsEvidenceOf, IsKept, records_held}
use Rattle.vdr_from.specs.Laws.{query_asked}

-- What the file holds, by what was kept of it.
pub record HoldsSo (whole : Option (List ℕ)) (kept : Evidence) (bytes : List ℕ) : Type 0 where
  pub x : Held
  pub is : IsEvidenceOf bytes x
  pub config_is : x.config ≡ kept.head.config
  pub left : (query : Query) → IsLeftWhole whole kept query (selected_in query x.records)

pub holds_so : (whole : Option (List ℕ)) (kept : Evidence) → IsKept whole kept → (bytes : List ℕ) → whole ≡ Some bytes → HoldsSo whole kept bytes
holds_so whole kept is bytes known =
    let spelled : bytes ≡ evidence_bytes (heading_bytes is.0) is.1 = subst (λ (o : Option (List ℕ)). IfSome o (λ b. b ≡ evidence_bytes (heading_bytes is.0) is.1)) known is.3 in
    record {
      x = record { config = kept.head.config; records = is.1 };
      is = record {
        heading = is.0;
        is = record { query = kept.head.asked; heading = is.2.head.heading; legal = is.2.legal; spelled = spelled };
        config_is = is.2.head.config_is;
      };
      config_is = refl;
      left = λ query. record { heading = is.0; all = is.1; of = is.2; is = known ∙ ap (λ (l : List ℕ). Some l) spelled; are = refl };
    }

-- What the query selects that stands for these words.
pub selects_so : (whole : Option (List ℕ)) (kept : Evidence) (asked : AskedPlay) (query : Query) → query ≡ query_of kept.head.config asked.medium asked.channel asked.from asked.to
    → (bytes : List ℕ) (h : HoldsSo whole kept bytes) → IsLeftWhole whole kept query (records_held h.x asked)
unfolding records_held
selects_so whole kept asked query is bytes h =
    subst (λ (q : Query). IsLeftWhole whole kept q (selected_in (query_of h.x.config asked.medium asked.channel asked.from asked.to) h.x.records)) (sym is)
    (subst (λ (c : Configuration). IsLeftWhole whole kept (query_of c asked.medium asked.channel asked.from asked.to) (selected_in (query_of h.x.config asked.medium asked.channel asked.from asked.to) h.x.records)) h.config_is
    (h.left (query_of h.x.config asked.medium asked.channel asked.from asked.to)))

pub selects_as_media : (x : Contents) (y : Held) (wide asked : AskedPlay) → y.config ≡ x.config → y.records ≡ records_asked x wide → asked.medium ≡ wide.medium
    → ((r : Record) → matches (query_asked x.config asked) r ≡ true → matches (query_asked x.config wide) r ≡ true) → records_held y asked ≡ records_asked x asked
unfolding records_held records_asked
selects_as_media x y wide asked config records medium narrows =
    ap (λ (c : Configuration). selected_in (query_asked c asked) y.records) config
    ∙ ap (λ (rs : List Record). selected_in (query_asked x.config asked) rs) records
    ∙ filter_twice (matches (query_asked x.config asked)) (matches (query_asked x.config wide)) narrows (extent (opening_of x) [] (asked_medium wide.medium))
    ∙ ap (λ (m : Medium). filter (matches (query_asked x.config asked)) (extent (opening_of x) [] (asked_medium m))) (sym medium)
