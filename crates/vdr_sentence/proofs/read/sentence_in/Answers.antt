use Rattle.std.proofs.Common.{◌∙◌, ap, sym, subst, ℕ, List, Some}
use Rattle.vdr_bytes.specs.Checksum.{checksum}
use Rattle.vdr_sentence.specs.Addresses.{address_of, is_address}
use Rattle.vdr_sentence.specs.Sentences.{IsContent}
use Rattle.vdr_sentence.proofs.Readings.{IsChecked, legal_content, address_of-covered}
use Rattle.vdr_sentence.proofs.read.sentence_in.Goals as goal

pub invariant_of-result : goal.invariant_of-result
invariant_of-result c =
    let text = c.args.frame.body.now in
    let covers = c.in-Some.ensures.found.0 in
    let checked : IsChecked text = record {
      characters = sym c.if-not-are_body_characters.ensures;
      address = ap is_address (sym c.address_of-address.ensures) ∙ sym c.if-not-is_address.ensures;
      checked = c.in-Some.ensures.found.1 ∙ ap Some (c.if-written-computed.false ∙ c.checksum-computed.ensures ∙ ap checksum covers);
    } in
    record {
      legal = subst (λ (content : List ℕ). IsContent c.args.frame.start content) (sym covers) (legal_content c.args.frame.start text c.args.frame.begins c.args.frame.short checked);
      addressed = c.address_of-address.ensures ∙ address_of-covered text checked ∙ ap address_of (sym covers);
    }
