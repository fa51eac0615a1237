-- What one packet or block comes to.
use Rattle.std.proofs.Common.{◌≡◌, ◌≢◌, ◌≤◌, ◌<◌, ◌+◌, ◌-◌, ◌^◌, ◌&&◌, ◌||◌, ℕ, suc, Bool, true, false, cond, List, [], ◌∷◌, ◌++◌, length, Option, None, Some, refl, ap, ◌∙◌, sym, subst, arith}
use Rattle.std.specs.Prelude.{nat_lt}
use Rattle.std.specs.Io.KnownBytes.{Consumes, IsAtEnd}
use Rattle.std.proofs.KnownBytes.{Consumes-trans, Consumes-nil}
use Rattle.std.proofs.lemmas.Bool.{le-leb, lt-leb, ltb-false, or_parts}
use Rattle.std.proofs.lemmas.List.{append_assoc, append-nil}
use Rattle.std.proofs.lemmas.Grind.{flat_map-append}
use Rattle.vdr_terms.specs.Records.{FeedItem}
use Rattle.vdr_feed.specs.declared.item.Item.{Item}
use Rattle.vdr_pcap.specs.Account.{Datagram, counted, datagram_of, item_from, items_from, no_account}
use Rattle.vdr_pcap.specs.Blocks.{beginning, further, parsed}
use Rattle.vdr_pcap.specs.Capture.{AreParts, Course, Ended, IsPart, Part, Refused as Refuses, Takes, course_after, is_some, is_too_much, no_course, pieces_of, step, step_of, text}
use Rattle.vdr_pcap.specs.Packets.{Ends, Nothing, Parsed, Piece, Reads, Refuses as Refused, Standing, Unread}
use Rattle.vdr_pcap.specs.Seen.{IfKnown, Tells, TellsOrEnds, front_piece}
use Rattle.vdr_pcap.specs.Steps.{Begins, Finds, Gives, Passes, RefusesAt, Settles, SettlesPiece, StepsBy}
use Rattle.vdr_pcap.specs.Taken.{item_held}
use Rattle.vdr_pcap.specs.declared.account.Account.{Account}
use Rattle.vdr_pcap.specs.declared.form.Form.{Form}
use Rattle.vdr_pcap.specs.declared.form.Form.TheVariants.{Unbegun, Packets, Blocks}
use Rattle.vdr_pcap.specs.declared.steps.Stepped.{Stepped}
use Rattle.vdr_pcap.specs.declared.steps.Stepped.TheVariants as stepped
use Rattle.vdr_pcap.specs.declared.unit.Unit.{Unit as Found}
use Rattle.vdr_pcap.specs.declared.unit.Unit.TheVariants as found
use Rattle.vdr_pcap.proofs.Local.{local_further}
use Rattle.vdr_pcap.proofs.Telling.{known}

or_true : (b : Bool) → b || true ≡ true
or_true true = refl
or_true false = refl

some_of : (o : Option Datagram) → o ≢ None → is_some o ≡ true
some_of None h = absurd (h refl)
some_of (Some d) h = refl

pub too_many : (limit offset items size : ℕ) (p : Piece) → datagram_of p ≢ None → limit ≤ items → is_too_much limit offset items size p ≡ true
too_many limit offset items size p some full =
    (λ i. nat_lt (2 ^ 64 - 1) (offset + size) || (some_of (datagram_of p) some i && le-leb limit items full i)) ∙ or_true (nat_lt (2 ^ 64 - 1) (offset + size))

and_false : (b : Bool) → b && false ≡ false
and_false true = refl
and_false false = refl

pub room_for : (limit offset items size : ℕ) (p : Piece) → offset + size < 2 ^ 64 → items < limit → is_too_much limit offset items size p ≡ false
room_for limit offset items size p fits few =
    (λ i. lt-leb (suc (2 ^ 64 - 1)) (offset + size) (omega (arith, fits)) i || (is_some (datagram_of p) && lt-leb limit items few i)) ∙ and_false (is_some (datagram_of p))

-- ---- one step

pub if_known : (a : Option (List ℕ)) (P Q : List ℕ → Type 0) → ((bytes : List ℕ) → P bytes → Q bytes) → IfKnown a P → IfKnown a Q
if_known None P Q more p = tt
if_known (Some xs) P Q more p = more xs p

-- nothing is read of nothing
none_read : (f : Form) (s : Standing) (size : ℕ) (next : Standing) (p : Piece) → further f s [] ≡ Reads size next p → ⊥
none_read Unbegun s size next p e = cc
none_read (Packets big nano link) s size next p e = cc
none_read (Blocks big) s size next p e = cc

some_read : (s : Standing) (bytes : List ℕ) (size : ℕ) (next : Standing) (p : Piece) → parsed s bytes ≡ Reads size next p → 0 < length bytes
some_read s [] size next p e = absurd (none_read s.form s size next p e)
some_read s (b ∷ bytes) size next p e = positive (length bytes) where
  positive : (n : ℕ) → 0 < suc n
  positive n = omega arith

-- a part of these bytes
takes : (limit : ℕ) (c : Course) (s' : Standing) (size : ℕ) (p : Piece) (bytes : List ℕ) → parsed c.standing bytes ≡ Reads size s' p → is_too_much limit c.offset c.account.items size p ≡ false
    → step limit true c bytes ≡ Takes size (record { standing = s'; offset = c.offset + size; account = counted p c.account }) p
takes limit c s' size p bytes e fits =
    ap (λ (x : Parsed). step_of limit c x) e
    ∙ ap (λ (b : Bool). cond b (Refuses 7) (Takes size (record { standing = s'; offset = c.offset + size; account = counted p c.account }) p)) fits

pub passes : (left now : Option (List ℕ)) (limit : ℕ) (c : Course) (s' : Standing) (offset' : ℕ) (a' : Account) (size : ℕ) (p : Piece) (bytes : List ℕ) (items : List FeedItem)
    → length bytes ≡ size → Consumes left now bytes → parsed c.standing bytes ≡ Reads size s' p → is_too_much limit c.offset c.account.items size p ≡ false
    → offset' ≡ c.offset + size → a' ≡ counted p c.account → item_from c.account (datagram_of p) ≡ items
    → Passes left now limit c (record { standing = s'; offset = offset'; account = a' }) items
passes left now limit c s' offset' a' size p bytes items long read e fits at count is =
    let some : 0 < length bytes = some_read c.standing bytes size s' p e in
    record {
      part = record { bytes = bytes; next = record { standing = s'; offset = c.offset + size; account = counted p c.account }; piece = p };
      bytes = read;
      legal = record { is = takes limit c s' size p bytes e fits ∙ ap (λ (n : ℕ). Takes n (record { standing = s'; offset = c.offset + size; account = counted p c.account }) p) (sym long) };
      items_are = is;
      stands = λ i. record { standing = s'; offset = at i; account = count i };
      longer = omega (arith, some, long, at);
      fits = (let low : c.offset + size ≤ 2 ^ 64 - 1 = ltb-false (2 ^ 64 - 1) (c.offset + size) (or_parts _ _ fits).0 in omega (arith, low, at));
    }

piece_steps : (left now : Option (List ℕ)) (limit : ℕ) (c : Course) (s' : Standing) (offset' : ℕ) (a' : Account) (size : ℕ) (p : Piece) (bytes : List ℕ) (old new : Item) (st : Stepped)
    → 0 + length bytes ≡ size → Consumes left now bytes → parsed c.standing bytes ≡ Reads size s' p → SettlesPiece limit c.offset offset' c.account a' size p old new st
    → StepsBy left now limit c (record { standing = s'; offset = offset'; account = a' }) old new st
piece_steps left now limit c s' offset' a' size p bytes old new stepped.Ended long read e s = absurd s
piece_steps left now limit c s' offset' a' size p bytes old new (stepped.Refused number) long read e s = (
  known left now bytes (λ b. step limit true c b ≡ Refuses number) read
      (λ rest is. ap (λ (x : Parsed). step_of limit c x) (local_further c.standing.form c.standing bytes rest size s' p e)
      ∙ (ap (λ (b : Bool). cond b (Refuses 7) (Takes size (record { standing = s'; offset = c.offset + size; account = counted p c.account }) p)) s.1
      ∙ ap (λ (n : ℕ). Refuses n) (sym s.0))),
  s.2,
)
piece_steps left now limit c s' offset' a' size p bytes old new stepped.Passed long read e s =
    let n : 0 + length bytes ≡ size = long in
    (passes left now limit c s' offset' a' size p bytes [] (omega (arith, n)) read e s.0 s.1 s.2 (ap (λ (d : Option Datagram). item_from c.account d) s.3), s.4)
piece_steps left now limit c s' offset' a' size p bytes old new stepped.Item long read e s =
    let n : 0 + length bytes ≡ size = long in
    passes left now limit c s' offset' a' size p bytes (item_held new ∷ []) (omega (arith, n)) read e s.0 s.1 s.2 s.3

-- what was read and settled is a step
pub steps_by : (left now : Option (List ℕ)) (limit : ℕ) (c : Course) (s' : Standing) (offset' : ℕ) (a' : Account) (u : Found) (front : List ℕ) (old new : Item) (st : Stepped)
    → Tells left now (parsed c.standing) 0 u s' front → Settles limit c.offset offset' c.account a' u front old new st
    → StepsBy left now limit c (record { standing = s'; offset = offset'; account = a' }) old new st
steps_by left now limit c s' offset' a' (found.Refuses number) front old new st t s =
    subst (λ (x : Stepped). StepsBy left now limit c (record { standing = s'; offset = offset'; account = a' }) old new x) (sym s.0)
    (if_known left (λ b. parsed c.standing b ≡ Refused number) (λ b. step limit true c b ≡ Refuses number) (λ b e. ap (λ (x : Parsed). step_of limit c x) e) t, s.1)
steps_by left now limit c s' offset' a' (found.Says size) front old new st t s = piece_steps left now limit c s' offset' a' size Nothing t.0 old new st t.1 t.2 t.3 s
steps_by left now limit c s' offset' a' (found.Unread size) front old new st t s = piece_steps left now limit c s' offset' a' size Unread t.0 old new st t.1 t.2 t.3 s
steps_by left now limit c s' offset' a' (found.Packet size link stamp kept) front old new st t s =
    piece_steps left now limit c s' offset' a' size (front_piece link stamp kept front) t.0 old new st t.1 t.2 t.3 s

-- the end of the input
pub step_ends : (limit : ℕ) (c : Course) → parsed c.standing [] ≡ Ends → step limit true c [] ≡ Ended
step_ends limit c e = ap (λ (x : Parsed). step_of limit c x) e

-- ---- one step after another

-- a part says how far the capture has come
next_of : (limit : ℕ) (c : Course) (x : Parsed) (size : ℕ) (next : Course) (p : Piece) → step_of limit c x ≡ Takes size next p → next.account ≡ counted p c.account
next_of limit c Ends size next p e = absurd (clash e) where
  clash : Ended ≡ Takes size next p → ⊥
  clash h = cc
next_of limit c (Refused number) size next p e = absurd (clash e) where
  clash : Refuses number ≡ Takes size next p → ⊥
  clash h = cc
next_of limit c (Reads n s q) size next p e = go (is_too_much limit c.offset c.account.items n q) e
  where
    go : (b : Bool) → cond b (Refuses 7) (Takes n (record { standing = s; offset = c.offset + n; account = counted q c.account }) q) ≡ Takes size next p → next.account ≡ counted p c.account
    go true h = absurd (clash h) where
      clash : Refuses 7 ≡ Takes size next p → ⊥
      clash k = cc
    go false h =
        let same : record { standing = s; offset = c.offset + n; account = counted q c.account } ≡ next = cc in
        let piece : q ≡ p = cc in
        ap (λ (x : Course). x.account) (sym same) ∙ ap (λ (x : Piece). counted x c.account) piece

pub account_is : (limit : ℕ) (c : Course) (p : Part) → IsPart limit true c p → p.next.account ≡ counted p.piece c.account
account_is limit c p is = next_of limit c (parsed c.standing p.bytes) (length p.bytes) p.next p.piece is.is

parts_more : (limit : ℕ) (c : Course) (parts : List Part) (p : Part) → AreParts limit true c parts → IsPart limit true (course_after c parts) p → AreParts limit true c (parts ++ p ∷ [])
parts_more limit c [] p legal next = (next, tt)
parts_more limit c (q ∷ parts) p legal next = (legal.0, parts_more limit q.next parts p legal.1 next)

after_more : (c : Course) (parts : List Part) (p : Part) → course_after c (parts ++ p ∷ []) ≡ p.next
after_more c [] p = refl
after_more c (q ∷ parts) p = after_more q.next parts p

items_more : (limit : ℕ) (c : Course) (parts : List Part) (p : Part) → AreParts limit true c parts
    → items_from c.account (pieces_of (parts ++ p ∷ [])) ≡ items_from c.account (pieces_of parts) ++ item_from (course_after c parts).account (datagram_of p.piece)
items_more limit c [] p legal = append-nil (item_from c.account (datagram_of p.piece))
items_more limit c (q ∷ parts) p legal =
    let count : q.next.account ≡ counted q.piece c.account = account_is limit c q legal.0 in
    ap (λ (l : List FeedItem). item_from c.account (datagram_of q.piece) ++ l)
    (ap (λ (a : Account). items_from a (pieces_of (parts ++ p ∷ []))) (sym count)
    ∙ (items_more limit q.next parts p legal.1
    ∙ ap (λ (a : Account). items_from a (pieces_of parts) ++ item_from (course_after q.next parts).account (datagram_of p.piece)) count))
    ∙ sym (append_assoc (item_from c.account (datagram_of q.piece)) (items_from (counted q.piece c.account) (pieces_of parts)) (item_from (course_after q.next parts).account (datagram_of p.piece)))

-- nothing was read yet
pub gives_none : (left : Option (List ℕ)) (limit : ℕ) (c : Course) → Gives left left limit c c []
gives_none left limit c = record { parts = []; bytes = Consumes-nil left; legal = tt; items_are = refl; stands = refl }

text_more : (parts : List Part) (p : Part) → text (parts ++ p ∷ []) ≡ text parts ++ p.bytes
text_more parts p = flat_map-append (λ (q : Part). q.bytes) parts (p ∷ []) ∙ ap (λ (t : List ℕ). text parts ++ t) (append-nil p.bytes)

-- one part more
pub gives_more : (left mid now : Option (List ℕ)) (limit : ℕ) (first c c' : Course) (items : List FeedItem) → Gives left mid limit first c [] → Passes mid now limit c c' items
    → Gives left now limit first c' items
gives_more left mid now limit first c c' items g p = record {
  parts = g.parts ++ p.part ∷ [];
  bytes = subst (λ (t : List ℕ). Consumes left now t) (sym (text_more g.parts p.part)) (Consumes-trans left mid now (text g.parts) p.part.bytes g.bytes p.bytes);
  legal = parts_more limit first g.parts p.part g.legal (subst (λ (d : Course). IsPart limit true d p.part) g.stands p.legal);
  items_are = items_more limit first g.parts p.part g.legal
      ∙ (ap (λ (l : List FeedItem). l ++ item_from (course_after first g.parts).account (datagram_of p.part.piece)) g.items_are
      ∙ (ap (λ (d : Course). item_from d.account (datagram_of p.part.piece)) (sym g.stands) ∙ p.items_are));
  stands = p.stands ∙ sym (after_more first g.parts p.part);
}

-- the end behind them
pub gives_end : (left mid now : Option (List ℕ)) (limit : ℕ) (first c c' : Course) → Gives left mid limit first c [] → Consumes mid now [] → c' ≡ c → Gives left now limit first c' []
gives_end left mid now limit first c c' g read same = record {
  parts = g.parts;
  bytes = subst (λ (t : List ℕ). Consumes left now t) (append-nil (text g.parts)) (Consumes-trans left mid now (text g.parts) [] g.bytes read);
  legal = g.legal;
  items_are = g.items_are;
  stands = same ∙ g.stands;
}

-- a refusal behind them
pub refuses_at : (left mid : Option (List ℕ)) (limit : ℕ) (first c : Course) (number offset : ℕ) → Gives left mid limit first c [] → IfKnown mid (λ b. step limit true c b ≡ Refuses number) → offset ≡ c.offset
    → IfKnown left (λ b. RefusesAt limit first b number offset)
refuses_at left mid limit first c number offset g fault at =
    known left mid (text g.parts) (λ b. RefusesAt limit first b number offset) g.bytes
    (λ rest is. record {
      parts = g.parts;
      rest = rest;
      bytes_are = refl;
      legal = g.legal;
      no_items = g.items_are;
      refused = ap (λ (d : Course). step limit true d rest) (sym g.stands) ∙ subst (λ (o : Option (List ℕ)). IfKnown o (λ b. step limit true c b ≡ Refuses number)) is fault;
      offset_is = at ∙ ap (λ (d : Course). d.offset) g.stands;
    })

-- what a read of a packet or block found
pub end_of : (a b : Option (List ℕ)) (p : List ℕ → Parsed) (s s' : Standing) (front : List ℕ) (o : Option Found) → TellsOrEnds a b p s s' front o → o ≡ None
    → Consumes a b [] × IsAtEnd b × (p [] ≡ Ends) × (s' ≡ s)
end_of a b p s s' front o t e = subst (λ (x : Option Found). TellsOrEnds a b p s s' front x) e t

pub unit_of : (a b : Option (List ℕ)) (p : List ℕ → Parsed) (s s' : Standing) (front : List ℕ) (o : Option Found) (u : Found) → TellsOrEnds a b p s s' front o → o ≡ Some u → Tells a b p 0 u s' front
unit_of a b p s s' front o u t e = subst (λ (x : Option Found). TellsOrEnds a b p s s' front x) e t

-- the steps up to one that is not passed
pub finds : (left mid now : Option (List ℕ)) (limit : ℕ) (first c c' : Course) (held old new : Item) (st : Stepped) → Gives left mid limit first c [] → old ≡ held → StepsBy mid now limit c c' old new st
    → (st ≡ stepped.Passed → ⊥) → Finds left now limit first c' held new st
finds left mid now limit first c c' held old new stepped.Ended g e s h =
    (gives_end left mid now limit first c c' g s.0 s.3, s.1, ap (λ (d : Course). step limit true d []) s.3 ∙ s.2, s.4 ∙ e)
finds left mid now limit first c c' held old new (stepped.Refused number) g e s h = refuses_at left mid limit first c number c'.offset g s.0 s.1
finds left mid now limit first c c' held old new stepped.Passed g e s h = absurd (h refl)
finds left mid now limit first c c' held old new stepped.Item g e s h = gives_more left mid now limit first c c' (item_held new ∷ []) g s

-- ---- the beginning

-- no capture that begins is too much
begins : (limit size : ℕ) → size < 2 ^ 64 → is_too_much limit 0 0 size Nothing ≡ false
begins limit size fits = (λ i. lt-leb (suc (2 ^ 64 - 1)) (0 + size) (omega (arith, fits)) i || false)

-- a header was read
pub begins_with : (a b : Option (List ℕ)) (limit : ℕ) (c : Course) (s' : Standing) (size : ℕ) (front : List ℕ) → c ≡ no_course → Tells a b (beginning c.standing) 0 (found.Says size) s' front → size < 2 ^ 64
    → Begins a b limit (record { standing = s'; offset = size; account = c.account })
begins_with a b limit c s' size front first t fits =
    let long : 0 + length t.0 ≡ size = t.1 in
    let many : size ≡ length t.0 = omega (arith, long) in
    record {
      part = record { bytes = t.0; next = record { standing = s'; offset = 0 + size; account = no_account }; piece = Nothing };
      bytes = t.2;
      legal = record {
        is = ap (λ (x : Parsed). step_of limit no_course x) (ap (λ (d : Course). beginning d.standing t.0) (sym first) ∙ t.3)
            ∙ (ap (λ (b : Bool). cond b (Refuses 7) (Takes size (record { standing = s'; offset = 0 + size; account = no_account }) Nothing)) (begins limit size fits)
            ∙ ap (λ (n : ℕ). Takes n (record { standing = s'; offset = 0 + size; account = no_account }) Nothing) many);
      };
      nothing = refl;
      stands = (λ i. record { standing = s'; offset = zero_more size i; account = (ap (λ (d : Course). d.account) first) i });
    }
  where
    zero_more : (n : ℕ) → n ≡ 0 + n
    zero_more n = omega arith
