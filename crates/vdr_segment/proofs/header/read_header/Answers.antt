use Rattle.std.proofs.Common.{◌≡◌, ℕ, [], ◌∷◌, ◌++◌, length, arith, ap, ◌∙◌}
use Rattle.vdr_terms.specs.Legality.{IsBytes}
use Rattle.vdr_segment.proofs.NumberListLemmas.{u64s_at}
use Rattle.vdr_segment.proofs.HeaderLemmas.{header_spelled}
use Rattle.vdr_segment.proofs.header.read_header.Goals as goal

pub returns-clause-found : goal.returns-clause-found
returns-clause-found c =
    let are_bytes : IsBytes c.args.bytes.now = c.fits-bytes in
    let long : length c.args.bytes.now ≡ 64 = c.told-bytes in
    let numbers : c.u64_at.result ∷ c.u64_at-2.result ∷ [] ≡ u64s_at 2 1 c.args.bytes.now =
    ap (λ (n : ℕ). n ∷ c.u64_at-2.result ∷ []) c.u64_at.ensures ∙ ap (λ (n : ℕ). u64s_at 1 1 c.args.bytes.now ++ n ∷ []) c.u64_at-2.ensures in
    record {
      gate = _;
      part = _;
      spelled = header_spelled c.args.bytes.now _ _ are_bytes long numbers c.if-bytes-ne0.false c.if-bytes-ne0-2.false;
      told = c.summary_in.ensures.told;
      fits = record {
        seq = omega (arith, c.u64_at.type_inv);
        first = omega (arith, c.u64_at-2.type_inv);
        summary = c.summary_in.ensures.fits;
      };
    }
