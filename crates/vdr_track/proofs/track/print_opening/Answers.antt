use Rattle.std.proofs.Common.{◌++◌, List, ℕ, [], ap, sym, subst, append_assoc}
use Rattle.std.specs.List.{flat_map}
use Rattle.std.specs.Io.KnownBytes.{Appends}
use Rattle.std.proofs.KnownBytes.{Appends-nil, Appends-trans}
use Rattle.std.proofs.lemmas.List.{append-nil}
use Rattle.std.proofs.lemmas.Result.{on_ok_weaker}
use Rattle.vdr_outside.specs.Writes.{AppendsFront}
use Rattle.vdr_outside.proofs.Known.{front-more}
use Rattle.vdr_track.specs.Texts.{entity, name_end, opening, opening_tags}
use Rattle.vdr_track.proofs.track.print_opening.Goals as goal

pub returns-in_err-write_all-clause-front : goal.returns-in_err-write_all-clause-front
returns-in_err-write_all-clause-front g c =
    front-more _ _ _ [] opening_tags (flat_map entity c.args.source.now ++ name_end) _ (append_assoc opening_tags (flat_map entity c.args.source.now) name_end) (Appends-nil _)
    (subst (λ (t : List ℕ). AppendsFront (g.O.Sink.taken c.args.out.now) (g.O.Sink.taken c.write_all.new.sink) t) c.opening_tags.ensures c.in_err-write_all.ensures.front)

pub returns-in_err-print_name-clause-front : goal.returns-in_err-print_name-clause-front
returns-in_err-print_name-clause-front g c =
    front-more _ _ _ opening_tags (flat_map entity c.args.source.now) name_end _ (append_assoc opening_tags (flat_map entity c.args.source.now) name_end)
    (subst (λ (t : List ℕ). Appends (g.O.Sink.taken c.args.out.now) (g.O.Sink.taken c.write_all.new.sink) t) c.opening_tags.ensures c.in_ok-write_all.ensures.all) c.in_err-print_name.ensures.front

pub returns-clause-all : goal.returns-clause-all
returns-clause-all g c =
    let tags = subst (λ (t : List ℕ). Appends (g.O.Sink.taken c.args.out.now) (g.O.Sink.taken c.write_all.new.sink) t) c.opening_tags.ensures c.in_ok-write_all.ensures.all in
    let written = Appends-trans _ _ _ _ _ tags c.in_ok-print_name.ensures.all in
    on_ok_weaker c.write_all-2.result
    (λ last. subst (λ (t : List ℕ). Appends (g.O.Sink.taken c.args.out.now) (g.O.Sink.taken c.write_all-2.new.sink) (opening_tags ++ flat_map entity c.args.source.now ++ t)) c.name_end.ensures (Appends-trans _ _ _ _ _ written last))
    c.write_all-2.ensures.all

pub returns-clause-front : goal.returns-clause-front
returns-clause-front g c =
    let tags = subst (λ (t : List ℕ). Appends (g.O.Sink.taken c.args.out.now) (g.O.Sink.taken c.write_all.new.sink) t) c.opening_tags.ensures c.in_ok-write_all.ensures.all in
    let written = Appends-trans _ _ _ _ _ tags c.in_ok-print_name.ensures.all in
    front-more _ _ _ (opening_tags ++ flat_map entity c.args.source.now) name_end [] (opening c.args.source.now) (ap (λ (t : List ℕ). opening_tags ++ flat_map entity c.args.source.now ++ t) (sym (append-nil name_end))) written
    (subst (λ (t : List ℕ). AppendsFront (g.O.Sink.taken c.print_name.new.out) (g.O.Sink.taken c.write_all-2.new.sink) t) c.name_end.ensures c.write_all-2.ensures.front)
