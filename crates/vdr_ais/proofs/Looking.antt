-- Looking back by what is pending.
use Rattle.std.proofs.Common.{◌≡◌, ◌<◌, ◌∙◌, ◌++◌, ◌-◌, ℕ, zero, suc, Bool, true, false, cond, List, [], ◌∷◌, ◌&&◌, ◌==◌, nat_lt, map, filter, Option, Some, None, option_map, refl, sym, ap, arith, if◌then◌else◌}
use Rattle.std.proofs.lemmas.Bool.Decides.{nat_tests}
use Rattle.vdr_ais.proofs.Keys.{same_key}
use Rattle.vdr_ais.specs.Lines.{Key, Line, Part, is_same}
use Rattle.vdr_ais.specs.Messages.{goes_before, led_by, message_at, message_behind, parts_of}
use Rattle.vdr_ais.specs.Pending.{Entries, HasRead, Pending, Stands, ended_by, front_in, next_pending, pending_in}

one_part : (pending : Pending) (p : Part) (total n : ℕ) (led : Option (List ℕ)) → (n ≡ 0 → led ≡ Some []) → (0 < n → led ≡ front_in pending total n)
    → (if goes_before total (suc n) p then option_map (λ front. front ++ p.sixes) led else None) ≡ front_in (next_pending pending p) total (suc n)
one_part pending p total n led none some = grind (arith, nat_tests)

pub step_stands : (back : List Part) (pending : Pending) (p : Part) → Stands back pending → Stands (p ∷ back) (next_pending pending p)
step_stands back pending p h total zero = one_part pending p total zero (Some []) (λ e. refl) (λ lt. absurd (omega (arith, lt)))
step_stands back pending p h total (suc n) = one_part pending p total (suc n) (led_by total (suc n) back) (λ e. absurd (omega (arith, e))) (λ lt. h total n)

one_end : (pending : Pending) (p : Part) (led : Option (List ℕ)) → (p.number ≡ 1 → led ≡ Some []) → (1 < p.number → led ≡ front_in pending p.total (p.number - 1))
    → (if nat_lt 0 p.number && (p.number == p.total) then option_map (λ front. record { sixes = front ++ p.sixes; fill = p.fill }) led else None) ≡ ended_by pending p
one_end pending p led one more = grind (arith, nat_tests)

pub step_ends : (back : List Part) (pending : Pending) (p : Part) → Stands back pending → message_at back p ≡ ended_by pending p
step_ends back pending p h = one_end pending p (led_by p.total (p.number - 1) back) first later
  where
    first : p.number ≡ 1 → led_by p.total (p.number - 1) back ≡ Some []
    first e = let none : p.number - 1 ≡ 0 = omega (arith, e) in ap (λ n. led_by p.total n back) none

    later : 1 < p.number → led_by p.total (p.number - 1) back ≡ front_in pending p.total (p.number - 1)
    later lt =
        let is : p.number - 1 ≡ suc (p.number - 2) = omega (arith, lt) in
        ap (λ n. led_by p.total n back) is ∙ h p.total (p.number - 2) ∙ sym (ap (λ n. front_in pending p.total n) is)

-- One more line, by what has begun of each key.
pub read_more : (back : List Line) (line : Line) (es new : Entries) → HasRead back es
    → ((q : Key) → pending_in new q ≡ (if is_same q line.key then next_pending (pending_in es line.key) line.part else pending_in es q)) → HasRead (line ∷ back) new
read_more back line es new h is q total n = go (is_same q line.key) refl ∙ sym (ap (λ v. front_in v total (suc n)) (is q))
  where
    go : (t : Bool) → is_same q line.key ≡ t
        → led_by total (suc n) (map (λ l. l.part) (cond t (line ∷ filter (λ l. is_same q l.key) back) (filter (λ l. is_same q l.key) back)))
        ≡ front_in (if t then next_pending (pending_in es line.key) line.part else pending_in es q) total (suc n)
    go true e = step_stands (parts_of q back) (pending_in es q) line.part (h q) total n ∙ ap (λ k. front_in (next_pending (pending_in es k) line.part) total (suc n)) (same_key q line.key e)
    go false e = h q total n

pub ends_so : (back : List Line) (line : Line) (es : Entries) → HasRead back es → message_behind back line ≡ ended_by (pending_in es line.key) line.part
ends_so back line es h = step_ends (parts_of line.key back) (pending_in es line.key) line.part (h line.key)
