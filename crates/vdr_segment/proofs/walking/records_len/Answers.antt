use Rattle.std.proofs.Common.{ℕ, List, subst, sym, ◌∙◌, refl, arith}
use Rattle.std.proofs.lemmas.Bool.{false≢true}
use Rattle.vdr_terms.specs.Legality.{IsBytes}
use Rattle.vdr_segment.specs.Batches.{AreRecords}
use Rattle.vdr_segment.proofs.WalkLemmas.{batch_found, batch_shows, cut_is}
use Rattle.vdr_segment.proofs.walking.records_len.Goals.{then-len-eq0-via-then-len-eq0, then-len-eq0-via-else-len-eq0+then-bytes-least-2}
use Rattle.vdr_segment.proofs.walking.records_len.Goals as goal

pub returns-then-len-eq0-clause-none : goal.returns-then-len-eq0-clause-none
returns-then-len-eq0-clause-none c = λ rs h.
    let s = batch_shows c.args.bytes.now rs h in
    elim c.then-len-eq0.branch [
      | then-len-eq0-via-then-len-eq0 w ↦ omega (arith, w.if-len-eq0.true, c.u32_at-len.ensures, s.size, s.some)
      | then-len-eq0-via-else-len-eq0+then-bytes-least-2 w ↦ omega (arith, w.if-bytes-least-2.true, c.u32_at-len.ensures, s.size, s.room)
    ]

pub returns-then-not-are_records-clause-none : goal.returns-then-not-are_records-clause-none
returns-then-not-are_records-clause-none c = λ rs h.
    let s = batch_shows c.args.bytes.now rs h in
    let len_is = c.u32_at-len.ensures ∙ s.size in
    absurd (false≢true (c.if-not-are_records.ensures.1 (rs, subst (λ (xs : List ℕ). AreRecords xs rs) (sym (cut_is c.args.bytes.now _ _ len_is)) s.records)))

pub returns-clause-found : goal.returns-clause-found
returns-clause-found c =
    let are_bytes : IsBytes c.args.bytes.now = λ i. omega (arith, c.type_inv.bytes i) in
    let a = c.if-not-are_records.ensures.0 refl in
    let f = batch_found c.args.bytes.now c.u32_at-len.result a.0 are_bytes c.requires c.u32_at-len.ensures (omega (arith, c.u32_at-len.type_inv)) (omega (arith, c.if-len-eq0.false))
    (omega (arith, c.if-bytes-least-2.false, c.if-bytes-least.false)) (subst (λ (xs : List ℕ). AreRecords xs a.0) (cut_is c.args.bytes.now _ _ refl) a.1) in
    (a.0, f.0, f.1)
