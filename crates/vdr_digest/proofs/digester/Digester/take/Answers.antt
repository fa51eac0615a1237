use Rattle.std.proofs.Common.{◌∙◌, List, ℕ, cond, Option, ap, sym, subst, ◌++◌, ◌∷◌, []}
use Rattle.sha2.specs.Hashers.{Holds256}
use Rattle.vdr_terms.specs.Records.{Record}
use Rattle.vdr_digest.specs.Digests.{held_behind, hour_line, is_hour_of, line_at, lines_before}
use Rattle.vdr_digest.specs.Held.{HoldsHour}
use Rattle.vdr_digest.specs.Spans.{span_with}
use Rattle.vdr_digest.specs.declared.span.Span.{Span}
use Rattle.vdr_digest.proofs.Holding.{held_more, kept, kept_hour, lines_more, span_more}
use Rattle.vdr_digest.proofs.digester.Digester.take.Goals as goal

pub returns-clause-visited : goal.returns-clause-visited
returns-clause-visited c seen visited =
    let r = c.args.item.now in
    let held = held_behind seen in
    let left = subst (λ (n : ℕ). HoldsHour c.line_before-text.new.self (kept held n)) c.hour_in.ensures (c.line_before-text.ensures.left held visited.held) in
    let line = c.as_slice.ensures.value ∙ c.line_before-text.ensures.text held visited.held in
    record {
      held = subst (λ (rs : List Record). HoldsHour c.add.new.self rs) (held_more seen r) (c.add.ensures (kept held _) left (kept_hour held r));
      lines = subst (λ (m : List ℕ). Holds256 c.update.new.self m) (ap (λ (t : List ℕ). lines_before seen ++ t) (line ∙ ap (λ (n : ℕ). cond (is_hour_of held n) [] (hour_line held)) c.hour_in.ensures) ∙ sym (lines_more seen r)) (c.update.ensures (lines_before seen) visited.lines);
      all = c.with.ensures ∙ ap (λ (s : Option Span). span_with s r) visited.all ∙ span_more seen r;
    }
