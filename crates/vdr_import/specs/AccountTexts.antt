-- The account of a capture's packets, as text (this project's profile).
use Rattle.std.specs.Prelude.{ℕ, zero, suc, ◌+◌, ◌&&◌, ◌||◌, ◌==◌, nat_lt, if◌then◌else◌, List, [], ◌++◌, codes, decimal, get_or}
use Rattle.vdr_terms.specs.Groups.{group_name}
use Rattle.vdr_pcap.specs.declared.account.Account.{Account}

-- a word and a number
abbrev pub number_line : (word : List ℕ) → ℕ → List ℕ
number_line word n = word ++ codes " " ++ decimal n ++ codes "\n"

-- the same of a number that is not 0
abbrev pub line_if : (word : List ℕ) → ℕ → List ℕ
line_if word n = if n == 0 then [] else number_line word n

-- The datagrams to the port of a group, where there is one: those that were captured whole, and the others.
abbrev pub group_line : (group whole cut : ℕ) → List ℕ
group_line group whole cut =
    if whole == 0 && cut == 0 then []
    else group_name group ++ codes " whole " ++ decimal whole ++ codes " cut " ++ decimal cut ++ codes "\n"

-- the lines of the groups below n, in their order
unfoldable pub groups_below : ℕ → Account → List ℕ
groups_below zero a = []
groups_below (suc g) a = groups_below g a ++ group_line g (get_or a.whole g 0) (get_or a.cut g 0)

-- The causes, of which each has a row: link, short, protocol, ipv6, fragment, malformed and port; behind them the ports 60017 to 60064, of
-- the standard's other groups; and then a stamp that is none, and a block that is not read.
abbrev pub cause_word : (row : ℕ) → List ℕ
cause_word row =
    if row == 0 then codes "link"
    else if row == 1 then codes "short"
    else if row == 2 then codes "protocol"
    else if row == 3 then codes "ipv6"
    else if row == 4 then codes "fragment"
    else if row == 5 then codes "malformed"
    else if row == 6 then codes "port"
    else if row == 55 then codes "stamp"
    else codes "block"

abbrev pub row_word : (row : ℕ) → List ℕ
row_word row = if nat_lt row 7 || nat_lt 54 row then cause_word row else codes "port-" ++ decimal (60_010 + row)

-- The packets that were left out for a cause, where there is one.
abbrev pub left_line : (row n : ℕ) → List ℕ
left_line row n = if n == 0 then [] else codes "left " ++ row_word row ++ codes " " ++ decimal n ++ codes "\n"

unfoldable pub left_below : ℕ → Account → List ℕ
left_below zero a = []
left_below (suc row) a = left_below row a ++ left_line row (get_or a.left row 0)

-- The account: all packets, what became of them, those that the capture lost itself, and the items with a stamp below one before.
unfoldable pub account_text : Account → (lost : ℕ) → List ℕ
account_text a lost = number_line (codes "packets") a.packets ++ groups_below 16 a ++ left_below 57 a ++ line_if (codes "lost") lost ++ line_if (codes "back") a.back
