use Rattle.std.proofs.Common.{◌≡◌, ◌∙◌, ℕ, pos, List, refl, sym, ap}
use Rattle.vdr_terms.specs.Records.{Record}
use Rattle.vdr_control.specs.Orders.PlainOrder.{Tell as TellOrder}
use Rattle.vdr_control.specs.declared.order.Telling.{Telling}
use Rattle.vdr_teller.specs.Tellings.{told_text}
use Rattle.vdr_teller.proofs.Wholes.{all_shown, sources_whole, targets_whole}
use Rattle.vdr_reply.proofs.telling.answer_tell.Goals as goal

-- told as it is told of this
told_as : (telling telling' : Telling) (records : List Record) (text : List ℕ) → telling ≡ telling' → text ≡ told_text telling' records → text ≡ told_text telling records
told_as telling telling' records text same is = is ∙ ap (λ (t : Telling). told_text t records) (sym same)

pub returns-in-Sources-clause-answered : goal.returns-in-Sources-clause-answered
returns-in-Sources-clause-answered g c = λ opening events t0 told h.
    c.tell.ensures.answered c.new-counter.result (TellOrder c.args.medium c.args.telling) opening events t0 refl
    (c.query_told-query.ensures, λ records. told_as c.args.telling _ records _ c.in-Sources.is (sources_whole c.new-counter.result.table records c.new-counter.ensures)) told h

pub returns-in-Watch-clause-answered : goal.returns-in-Watch-clause-answered
returns-in-Watch-clause-answered g c = λ opening events t0 told h.
    c.tell-in-Watch.ensures.answered c.new-watcher.result (TellOrder c.args.medium c.args.telling) opening events t0 c.new-watcher.ensures
    (c.query_told-query.ensures, λ records. told_as c.args.telling _ records _ c.in-Watch.is (all_shown records)) told h

pub returns-in-Targets-clause-answered : goal.returns-in-Targets-clause-answered
returns-in-Targets-clause-answered g c = λ opening events t0 told h.
    c.tell-in-Targets.ensures.answered c.new-lookout.result (TellOrder c.args.medium c.args.telling) opening events t0 c.new-lookout.ensures
    (c.query_told-query.ensures, λ records. told_as c.args.telling _ records _ c.in-Targets.is (targets_whole (pos 0) records)) told h

pub returns-in-Digest-clause-answered : goal.returns-in-Digest-clause-answered
returns-in-Digest-clause-answered g c = λ opening events t0 told h.
    c.tell-in-Digest.ensures.answered c.new-digester.result (TellOrder c.args.medium c.args.telling) opening events t0 (c.new-digester.ensures, c.new-digester.ensures)
    (c.query_told-query.ensures, λ records. told_as c.args.telling _ records _ c.in-Digest.is (c.law_of_digests.ensures records)) told h
