use Rattle.std.proofs.Common.{◌∙◌, ◌++◌, ℕ, List, ap, sym, subst}
use Rattle.sha2.specs.Hashers.{Holds256}
use Rattle.vdr_evidence.specs.Files.{one_more, record_parts}
use Rattle.vdr_evidence.proofs.Parts.{count_more, parts_more, some_more}
use Rattle.vdr_evidence.proofs.writer.EvidenceWriter.add.Goals as goal

pub returns : goal.returns
returns c heading seen item is written = record {
  heading_is = written.heading_is;
  hashed = subst (λ (m : List ℕ). Holds256 c.update.new.self m) (ap (λ (l : List ℕ). (heading ++ record_parts seen) ++ l) is ∙ parts_more heading seen item) (c.update.ensures (heading ++ record_parts seen) written.hashed);
  count_is = c.saturating_add-self.ensures ∙ ap (λ (n : ℕ). one_more n item) written.count_is ∙ count_more seen item;
  begun_is = sym (some_more seen item);
}
