use Rattle.std.proofs.Common.{rules, nat_cmp}
use Rattle.std.proofs.lemmas.Cmp.{nat_cmp_total}
use Rattle.std.proofs.lemmas.List.Sorted.{answers_always}
use Rattle.vdr_ais.proofs.Entries.{searched}
use Rattle.vdr_ais.proofs.ships.place_of.Goals as goal

pub returns-clause-found : goal.returns-clause-found
returns-clause-found c =
    let by_key = c.binary_search_by_key.ensures.position (λ ship. ship.0) (answers_always _ _ _ (λ f a r g called. search rules)) in
    (searched nat_cmp nat_cmp_total c.args.mmsi c.args.ships.now c.requires c.binary_search_by_key.result c.binary_search_by_key.ensures.bound by_key).0

pub returns-clause-absent : goal.returns-clause-absent
returns-clause-absent c =
    let by_key = c.binary_search_by_key.ensures.position (λ ship. ship.0) (answers_always _ _ _ (λ f a r g called. search rules)) in
    (searched nat_cmp nat_cmp_total c.args.mmsi c.args.ships.now c.requires c.binary_search_by_key.result c.binary_search_by_key.ensures.bound by_key).1
