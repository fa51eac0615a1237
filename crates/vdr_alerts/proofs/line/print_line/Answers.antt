use Rattle.std.proofs.Common.{◌++◌, List, ℕ, rules, ap, Bor}
use Rattle.std.specs.List.{flat_map}
use Rattle.vdr_durability.specs.Sources.{Source}
use Rattle.vdr_alerts.proofs.Writing.{both_all, both_front, first_front, front_is}
use Rattle.vdr_alerts.proofs.line.print_line.Goals as goal

pub returns-in_err-print_words-clause-front : goal.returns-in_err-print_words-clause-front
returns-in_err-print_words-clause-front g c =
    let source : Source = record { group = c.args.group; name = c.args.name.now } in
    let told : List ℕ = flat_map (λ (piece : Bor (List ℕ)). piece.now) c.args.told.now in
    let is = front_is c.args.mark.now c.args.word.now source c.as_bytes-place.result.now c.as_slice.result.now c.as_bytes.result.now (search rules) (search rules) (search rules) in
    first_front (g.O.Sink.taken c.args.out.now) _ (g.O.Sink.taken c.args.out.now) _ _ _ (ap (λ (xs : List ℕ). xs ++ told) is) c.in_err-print_words.ensures.front

pub returns-clause-all : goal.returns-clause-all
returns-clause-all g c =
    let source : Source = record { group = c.args.group; name = c.args.name.now } in
    let told : List ℕ = flat_map (λ (piece : Bor (List ℕ)). piece.now) c.args.told.now in
    let is = front_is c.args.mark.now c.args.word.now source c.as_bytes-place.result.now c.as_slice.result.now c.as_bytes.result.now (search rules) (search rules) (search rules) in
    both_all _ _ _ _ _ _ (ap (λ (xs : List ℕ). xs ++ told) is) c.in_ok-print_words.ensures.all c.write_pieces.result c.write_pieces.ensures.all

pub returns-clause-front : goal.returns-clause-front
returns-clause-front g c =
    let source : Source = record { group = c.args.group; name = c.args.name.now } in
    let told : List ℕ = flat_map (λ (piece : Bor (List ℕ)). piece.now) c.args.told.now in
    let is = front_is c.args.mark.now c.args.word.now source c.as_bytes-place.result.now c.as_slice.result.now c.as_bytes.result.now (search rules) (search rules) (search rules) in
    both_front _ _ _ _ _ _ (ap (λ (xs : List ℕ). xs ++ told) is) c.in_ok-print_words.ensures.all c.write_pieces.ensures.front
