-- The lengths of a group's payloads in a second.
use Rattle.std.proofs.Common.{◌≡◌, ◌==◌, ◌&&◌, ℕ, Bool, List, ◌++◌, length, filter}
use Rattle.std.proofs.lemmas.List.{map-append}
use Rattle.std.proofs.lemmas.List.Elements.{filter-append}
use Rattle.vdr_terms.specs.Records.{Record, second, payload_of, is_datagram, datagrams_of}
use Rattle.vdr_terms.specs.Rates.{lengths_in}

abbrev of_group : ℕ → Record → Bool
of_group g r = is_datagram r.content && (r.group == g)

abbrev size_of : Record → ℕ
size_of r = length (payload_of r.content)

-- They are those of the first records and then of the others.
pub lengths_in-append : (g s : ℕ) (xs ys : List Record) → lengths_in g s (xs ++ ys) ≡ lengths_in g s xs ++ lengths_in g s ys
lengths_in-append g s xs ys =
    rw (filter-append (of_group g) xs ys, filter-append (λ (r : Record). second r.tick == s) (datagrams_of g xs) (datagrams_of g ys))
    (map-append size_of (filter (λ (r : Record). second r.tick == s) (datagrams_of g xs)) (filter (λ (r : Record). second r.tick == s) (datagrams_of g ys)))
