-- Which message ends at a line: a look back over the lines with the same key (IEC 61162-1, sentences VDM and VDO).
use Rattle.std.specs.Prelude.{ℕ, zero, suc, ◌-◌, Bool, ◌&&◌, ◌==◌, nat_lt, List, [], ◌∷◌, ◌++◌, map, filter, Option, Some, None, option_map, if◌then◌else◌}
use Rattle.vdr_ais.specs.Bits.{Message}
use Rattle.vdr_ais.specs.Lines.{Key, Line, Part, is_same}

-- A part behind which another may come: it has this number and total, and no bits that fill it up.
abbrev pub goes_before : (total number : ℕ) → Part → Bool
goes_before total number p = (p.total == total) && ((p.number == number) && (p.fill == 0))

-- Looking back over these parts, the latest first: the numbers of the parts 1 to n of `total`, where these are the latest n.
abbrev pub led_by : (total n : ℕ) → (back : List Part) → Option (List ℕ)
led_by total zero back = Some []
led_by total (suc n) [] = None
led_by total (suc n) (p ∷ back) = if goes_before total (suc n) p then option_map (λ front. front ++ p.sixes) (led_by total n back) else None

-- The message that ends at a part behind these: the last of its total, with those before it directly behind one another.
abbrev pub message_at : (back : List Part) → Part → Option Message
message_at back p =
    if nat_lt 0 p.number && (p.number == p.total)
    then option_map (λ front. record { sixes = front ++ p.sixes; fill = p.fill }) (led_by p.total (p.number - 1) back)
    else None

-- The parts of the lines with this key.
abbrev pub parts_of : Key → List Line → List Part
parts_of key lines = map (λ l. l.part) (filter (λ l. is_same key l.key) lines)

-- The message that ends at a line behind these, the latest first.
abbrev pub message_behind : (back : List Line) → Line → Option Message
message_behind back line = message_at (parts_of line.key back) line.part
