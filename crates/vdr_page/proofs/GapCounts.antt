-- How many Gaps a group has.
use Rattle.std.proofs.Common.{◌≡◌, ◌≤◌, ◌<◌, ◌+◌, ◌==◌, ◌∙◌, ℕ, suc, Bool, true, false, cond, List, [], ◌∷◌, fold, get_or, length, set, Option, Some, None, refl, sym, ap, arith}
use Rattle.std.specs.Prelude.{option_to_list}
use Rattle.std.specs.List.{cons_option}
use Rattle.std.proofs.lemmas.Bool.{eqb-false, eqb-true}
use Rattle.std.proofs.lemmas.Grind.{get_or-set_at}
use Rattle.std.proofs.lemmas.List.{get_or-replicate, get_or-set_other, length-set}
use Rattle.vdr_terms.specs.declared.counts.Counts.{Counts}
use Rattle.vdr_terms.specs.Records.{Content, Record}
use Rattle.vdr_terms.specs.Records.Content.{Start, Datagram, Gap, Stop}
use Rattle.vdr_page.specs.Laws.{GapsAreCounted}
use Rattle.vdr_page.specs.Missed.{gap_at, gaps_in, missed_of}
use Rattle.vdr_page.specs.Opens.{Open, gaps_of, nothing_open, open_after}

many : {X : Type 0} (o : Option X) (xs : List X) → length (cons_option o xs) ≡ length (option_to_list o) + length xs
many None xs = let none : ◌≡◌ {A = ℕ} (length xs) (0 + length xs) = omega arith in none
many (Some x) xs = let one : ◌≡◌ {A = ℕ} (suc (length xs)) (1 + length xs) = omega arith in one

no_more : (n : ℕ) → n ≡ n + 0
no_more n = omega arith

module _ (step group : ℕ) (own : group ≤ 15) where
  none_said : (b : Bool) (n : ℕ) → n ≡ n + length (option_to_list (cond {A = Option Counts} b None None))
  none_said true n = no_more n
  none_said false n = no_more n

  sixteen : (o : Open) (r : Record) (content : Content) → length o.counts ≡ 16 → length (open_after step o r content).counts ≡ 16
  sixteen o r Start h = h
  sixteen o r (Datagram payload) h = h
  sixteen o r (Gap missed) h = length-set o.counts r.group (gaps_of o r + 1) ∙ h
  sixteen o r Stop h = h

  one_more : (o : Open) (r : Record) (missed : Counts) → length o.counts ≡ 16 → (b : Bool) → (r.group == group) ≡ b
      → get_or (set o.counts r.group (gaps_of o r + 1)) group 0 ≡ get_or o.counts group 0 + length (option_to_list (cond b (Some missed) None))
  one_more o r missed h true e =
      let same : r.group ≡ group = eqb-true r.group group e in
      let within : r.group < length o.counts = omega (arith, own, same, h) in
      get_or-set_at o.counts r.group group (gaps_of o r + 1) 0 (sym same) within ∙ ap (λ g. get_or o.counts g 0 + 1) same
  one_more o r missed h false e = get_or-set_other o.counts r.group group (gaps_of o r + 1) 0 (λ same. eqb-false r.group group e (sym same)) ∙ no_more (get_or o.counts group 0)

  after : (o : Open) (r : Record) (content : Content) → length o.counts ≡ 16
      → get_or (open_after step o r content).counts group 0 ≡ get_or o.counts group 0 + length (option_to_list (cond (r.group == group) (missed_of content) None))
  after o r Start h = none_said (r.group == group) (get_or o.counts group 0)
  after o r (Datagram payload) h = none_said (r.group == group) (get_or o.counts group 0)
  after o r (Gap missed) h = one_more o r missed h (r.group == group) refl
  after o r Stop h = none_said (r.group == group) (get_or o.counts group 0)

  behind : (o : Open) (rs : List Record) → length o.counts ≡ 16
      → get_or (fold (λ (o : Open) (r : Record). open_after step o r r.content) o rs).counts group 0 ≡ get_or o.counts group 0 + length (gaps_in group rs)
  behind o [] h = no_more (get_or o.counts group 0)
  behind o (r ∷ rs) h =
      let first : ℕ = get_or o.counts group 0 in
      let here : ℕ = length (option_to_list (gap_at group r)) in
      let later : ℕ = length (gaps_in group rs) in
      let sum : ◌≡◌ {A = ℕ} ((first + here) + later) (first + (here + later)) = omega arith in
      behind (open_after step o r r.content) rs (sixteen o r r.content h) ∙ ap (λ n. n + later) (after o r r.content h) ∙ sum ∙ ap (λ n. first + n) (sym (many (gap_at group r) (gaps_in group rs)))

pub gaps_are_counted : GapsAreCounted
gaps_are_counted step seen r own =
    let none : get_or nothing_open.counts r.group 0 ≡ 0 = get_or-replicate 16 r.group 0 0 (omega (arith, own)) in
    let nothing : ◌≡◌ {A = ℕ} (0 + length (gaps_in r.group seen)) (length (gaps_in r.group seen)) = omega arith in
    behind step r.group own nothing_open seen refl ∙ ap (λ n. n + length (gaps_in r.group seen)) none ∙ nothing
