-- A reader goes on in a capture, item by item.
use Rattle.std.proofs.Common.{◌≡◌, ◌≤◌, ◌<◌, ◌+◌, ◌^◌, ℕ, Bool, true, false, List, [], ◌∷◌, ◌++◌, length, Option, None, Some, Err, refl, ap, ◌∙◌, sym, subst, arith}
use Rattle.std.specs.Io.KnownBytes.{Appends, Consumes, IsAtEnd}
use Rattle.std.proofs.KnownBytes.{Appends-trans, Consumes-trans}
use Rattle.std.proofs.lemmas.List.{append_assoc, append-nil}
use Rattle.vdr_terms.specs.Records.{FeedItem}
use Rattle.vdr_outside.specs.Writes.{AppendsFront}
use Rattle.vdr_feed.specs.Feed.{feed, feed_header, longest_feed, spelling}
use Rattle.vdr_pcap.specs.Seen.{IfKnown as IfTold}
use Rattle.vdr_feed.proofs.Progress.{feed_more}
use Rattle.vdr_pcap.specs.Account.{datagram_of, item_from, items_from, items_of, no_account}
use Rattle.vdr_pcap.specs.Capture.{AreParts, Course, Ended, Part, Refused as Refuses, course_after, is_begun, no_course, pieces_of, step, step_after, text}
use Rattle.vdr_pcap.specs.Packets.{Piece}
use Rattle.vdr_pcap.specs.Reader.{GivesHeader, GivesItem, IfRefused, Reading, reading_at}
use Rattle.vdr_pcap.specs.Steps.{Gives, RefusesAt}
use Rattle.vdr_pcap.specs.declared.fault.CaptureFault.{CaptureFault}
use Rattle.vdr_pcap.specs.declared.fault.CaptureFault.TheVariants.{Refused as IsRefusal}
use Rattle.vdr_feed.specs.declared.item.Item.{Item}
use Rattle.vdr_import.specs.Counts.{counted_text, course_text}
use Rattle.vdr_import.specs.AccountTexts.{account_text}
use Rattle.vdr_import.specs.Counts.{lost_of}
use Rattle.vdr_import.specs.Imports.{IfCaptured, IfReached, IfRefusedBehind, imported}
use Rattle.vdr_import.specs.Progress.{HasRead}
use Rattle.vdr_import.proofs.Parts.{account_after, capture_more, course_more, items_behind, items_grow, offset_after, text_more}

pub imported_is : (parts : List Part) → is_begun parts ≡ true → imported parts ≡ feed (items_of (pieces_of parts))
imported_is [] begins = let none : ⊥ = cc in absurd none
imported_is (p ∷ parts) begins = refl

small : longest_feed < 2 ^ 64
small = omega arith

-- ---- the header

pub read_first : (first now : Option (List ℕ)) (limit : ℕ) (r : Reading) → limit ≡ longest_feed → GivesHeader first now limit r
    → (parts : List Part) × HasRead first now r parts × (imported parts ≡ feed_header)
read_first first now limit r is given =
    let gives : GivesHeader first now longest_feed r = subst (λ (l : ℕ). GivesHeader first now l r) is given in
    let b = gives.0 in
    let are : AreParts longest_feed false no_course (b.part ∷ []) = (b.legal, tt) in
    let few = (items_grow longest_feed false no_course (b.part ∷ []) small (omega arith) are).1 in
    let none : items_of (b.part.piece ∷ []) ≡ [] = ap (λ (p : Piece). item_from no_account (datagram_of p) ++ []) b.nothing in (
      b.part ∷ [],
      record {
        read = subst (λ (t : List ℕ). Consumes first now t) (sym (append-nil b.part.bytes)) b.bytes;
        legal = are;
        begins = refl;
        limit = ap (λ (x : Reading). x.limit) gives.1;
        course = b.stands;
        few = subst (λ (c : Course). c.account.items ≤ longest_feed) (sym b.stands) few;
        begun = ap (λ (x : Reading). x.begun) gives.1;
        going = ap (λ (x : Reading). x.stopped) gives.1;
      },
      ap feed none ∙ append-nil feed_header,
    )

-- ---- items

-- what it has read, with what was read behind it
pub record GoesOn (first now : Option (List ℕ)) (r r' : Reading) (parts : List Part) (items : List FeedItem) : Type 0 where
  pub all : List Part
  pub read : HasRead first now r' all
  pub imports : imported all ≡ feed (items_of (pieces_of parts) ++ items)
  pub grown : r'.course.account.items ≡ r.course.account.items + length items

pub read_next : (first before now : Option (List ℕ)) (r r' : Reading) (parts : List Part) (items : List FeedItem) → HasRead first before r parts
    → Gives before now r.limit r.course r'.course items → r' ≡ reading_at r.limit r'.course → GoesOn first now r r' parts items
read_next first before now r r' parts items s g is =
    let moved : AreParts longest_feed true (course_after no_course parts) g.parts =
    subst (λ (l : ℕ). AreParts l true (course_after no_course parts) g.parts) s.limit (subst (λ (c : Course). AreParts r.limit true c g.parts) s.course g.legal) in
    let legal : AreParts longest_feed true r.course g.parts = subst (λ (l : ℕ). AreParts l true r.course g.parts) s.limit g.legal in
    let more = capture_more longest_feed parts g.parts s.begins s.legal moved in
    let counts = items_grow longest_feed true r.course g.parts small s.few legal in
    let count : length (items_from r.course.account (pieces_of g.parts)) ≡ length items = ap (λ (xs : List FeedItem). length xs) g.items_are in
    let stands : r'.course ≡ course_after no_course (parts ++ g.parts) =
    g.stands ∙ ap (λ (c : Course). course_after c g.parts) s.course ∙ sym (course_more no_course parts g.parts) in
    let items_of_all : items_of (pieces_of (parts ++ g.parts)) ≡ items_of (pieces_of parts) ++ items =
    items_behind longest_feed parts g.parts s.legal
    ∙ ap (λ (c : Course). items_of (pieces_of parts) ++ items_from c.account (pieces_of g.parts)) (sym s.course)
    ∙ ap (λ (xs : List FeedItem). items_of (pieces_of parts) ++ xs) g.items_are in
    record {
      all = parts ++ g.parts;
      read = record {
        read = subst (λ (t : List ℕ). Consumes first now t) (sym (text_more parts g.parts)) (Consumes-trans first before now (text parts) (text g.parts) s.read g.bytes);
        legal = more.0;
        begins = more.1;
        limit = ap (λ (x : Reading). x.limit) is ∙ s.limit;
        course = stands;
        few = subst (λ (c : Course). c.account.items ≤ longest_feed) (sym g.stands) counts.1;
        begun = ap (λ (x : Reading). x.begun) is;
        going = ap (λ (x : Reading). x.stopped) is;
      };
      imports = imported_is (parts ++ g.parts) more.1 ∙ ap feed items_of_all;
      grown = ap (λ (c : Course). c.account.items) g.stands ∙ counts.0 ∙ ap (λ (n : ℕ). r.course.account.items + n) count;
    }

-- ---- the end

-- what is known of the input at its end
pub read_whole : (P : List Part → Type 0) (first now : Option (List ℕ)) (limit : ℕ) (r : Reading) (parts : List Part) → HasRead first now r parts → IsAtEnd now
    → limit ≡ longest_feed → step limit true r.course [] ≡ Ended → P parts → IfCaptured first P
read_whole P None now limit r parts s at is ended p = tt
read_whole P (Some bytes) None limit r parts s at is ended p = absurd s.read
read_whole P (Some bytes) (Some rest) limit r parts s at is ended p =
    let spelled : bytes ≡ text parts ++ [] = s.read ∙ ap (λ (t : List ℕ). text parts ++ t) at in
    let here : step longest_feed true (course_after no_course parts) [] ≡ Ended =
    subst (λ (l : ℕ). step l true (course_after no_course parts) [] ≡ Ended) is (subst (λ (c : Course). step limit true c [] ≡ Ended) s.course ended) in
    let behind : step_after longest_feed parts [] ≡ Ended = ap (λ b. step longest_feed b (course_after no_course parts) []) s.begins ∙ here in
    (parts, record { whole = record { spelled = spelled; legal = s.legal }; ended = behind }, p)

pub read_part : (P : List Part → Type 0) (first now : Option (List ℕ)) (r : Reading) (parts : List Part) → HasRead first now r parts → P parts → IfReached first P
read_part P None now r parts s p = tt
read_part P (Some bytes) None r parts s p = absurd s.read
read_part P (Some bytes) (Some rest) r parts s p = (parts, (rest, record { spelled = s.read; legal = s.legal }), p)

pub read_refused : (P : List Part → Type 0) (first now : Option (List ℕ)) (r : Reading) (parts : List Part) (number offset : ℕ) → HasRead first now r parts
    → IfTold now (λ bytes. RefusesAt r.limit r.course bytes number offset)
    → ((all : List Part) → imported all ≡ imported parts → P all) → IfRefusedBehind first number offset P
read_refused P None now r parts number offset s refused p = tt
read_refused P (Some bytes) None r parts number offset s refused p = absurd s.read
read_refused P (Some bytes) (Some rest) r parts number offset s refused p =
    let moved : AreParts longest_feed true (course_after no_course parts) refused.parts =
    subst (λ (l : ℕ). AreParts l true (course_after no_course parts) refused.parts) s.limit (subst (λ (c : Course). AreParts r.limit true c refused.parts) s.course refused.legal) in
    let more = capture_more longest_feed parts refused.parts s.begins s.legal moved in
    let all : List Part = parts ++ refused.parts in
    let spelled : bytes ≡ text all ++ refused.rest =
    s.read ∙ ap (λ (t : List ℕ). text parts ++ t) refused.bytes_are ∙ sym (append_assoc (text parts) (text refused.parts) refused.rest)
    ∙ ap (λ (t : List ℕ). t ++ refused.rest) (sym (text_more parts refused.parts)) in
    let course : course_after r.course refused.parts ≡ course_after no_course all =
    ap (λ (c : Course). course_after c refused.parts) s.course ∙ sym (course_more no_course parts refused.parts) in
    let here : step longest_feed true (course_after no_course all) refused.rest ≡ Refuses number =
    subst (λ (l : ℕ). step l true (course_after no_course all) refused.rest ≡ Refuses number) s.limit
    (subst (λ (c : Course). step r.limit true c refused.rest ≡ Refuses number) course refused.refused) in
    let fault : step_after longest_feed all refused.rest ≡ Refuses number = ap (λ b. step longest_feed b (course_after no_course all) refused.rest) more.1 ∙ here in
    let at : offset ≡ length (text all) =
    refused.offset_is ∙ ap (λ (c : Course). c.offset) course ∙ offset_after longest_feed false no_course all more.0 ∙ zero_more (length (text all)) in
    let none : items_of (pieces_of all) ≡ items_of (pieces_of parts) =
    items_behind longest_feed parts refused.parts s.legal
    ∙ ap (λ (c : Course). items_of (pieces_of parts) ++ items_from c.account (pieces_of refused.parts)) (sym s.course)
    ∙ ap (λ (xs : List FeedItem). items_of (pieces_of parts) ++ xs) refused.no_items
    ∙ append-nil (items_of (pieces_of parts)) in (
      all,
      (refused.rest, record { front = record { spelled = spelled; legal = more.0 }; fault = fault; offset_is = at }),
      p all (imported_is all more.1 ∙ ap feed none ∙ sym (imported_is parts s.begins)),
    )
  where
    zero_more : (n : ℕ) → 0 + n ≡ n
    zero_more n = omega arith

-- what is refused at the beginning
pub first_refused : (P : List Part → Type 0) (first : Option (List ℕ)) (limit number offset : ℕ) → limit ≡ longest_feed
    → (offset ≡ 0) × IfTold first (λ bytes. step limit false no_course bytes ≡ Refuses number) → P [] → IfRefusedBehind first number offset P
first_refused P None limit number offset is refused p = tt
first_refused P (Some bytes) limit number offset is refused p =
    let fault = subst (λ (l : ℕ). step l false no_course bytes ≡ Refuses number) is refused.1 in
    ([], (bytes, record { front = record { spelled = refl; legal = tt }; fault = fault; offset_is = refused.0 }), p)

pub first_reached : (P : List Part → Type 0) (first : Option (List ℕ)) → P [] → IfReached first P
first_reached P None p = tt
first_reached P (Some bytes) p = ([], (bytes, record { spelled = refl; legal = tt }), p)

-- ---- what is written

pub front_behind : (a b c : Option (List ℕ)) (before text : List ℕ) → Appends a b before → AppendsFront b c text → AppendsFront a c (before ++ text)
front_behind a b c before text did f =
    (before ++ f.0, f.1, ap (λ (t : List ℕ). before ++ t) f.2 ∙ sym (append_assoc before f.0 f.1), Appends-trans a b c before f.0 did f.3)

-- the feed with one item more
pub imports_more : (parts all : List Part) (i : FeedItem) → is_begun parts ≡ true → imported all ≡ feed (items_of (pieces_of parts) ++ i ∷ []) → imported all ≡ imported parts ++ spelling i
imports_more parts all i begins is = is ∙ feed_more (items_of (pieces_of parts)) i ∙ ap (λ (t : List ℕ). t ++ spelling i) (sym (imported_is parts begins))

-- ---- the account

pub course_counts : (first now : Option (List ℕ)) (r : Reading) (parts : List Part) → HasRead first now r parts → course_text r.course ≡ counted_text parts
course_counts first now r parts s =
    ap course_text s.course
    ∙ ap (λ a. account_text a (lost_of (course_after no_course parts).standing)) (account_after longest_feed false no_course parts s.legal)

-- ---- what a reader gives, once it is known which

pub gave_true : (before now : Option (List ℕ)) (r r' : Reading) (held : Item) (more : Bool) → more ≡ true → GivesItem before now r r' held more → GivesItem before now r r' held true
gave_true before now r r' held true is gave = gave
gave_true before now r r' held false is gave = let none : ⊥ = cc in absurd none

pub gave_false : (before now : Option (List ℕ)) (r r' : Reading) (held : Item) (more : Bool) → more ≡ false → GivesItem before now r r' held more → GivesItem before now r r' held false
gave_false before now r r' held true is gave = let none : ⊥ = cc in absurd none
gave_false before now r r' held false is gave = gave

-- with nothing more to be imported
pub imports_same : (parts all : List Part) → is_begun parts ≡ true → imported all ≡ feed (items_of (pieces_of parts) ++ []) → imported all ≡ imported parts
imports_same parts all begins is = is ∙ ap feed (append-nil (items_of (pieces_of parts))) ∙ sym (imported_is parts begins)

-- what is said of a refusal, once it is known which
pub refusal_told : (T : Type 0) (P : ℕ → ℕ → Type 0) (e : CaptureFault) (number offset : ℕ) → e ≡ IsRefusal number offset → IfRefused {T = T} (Err e) P → P number offset
refusal_told T P e number offset is told = subst (λ (f : CaptureFault). IfRefused {T = T} (Err f) P) is told

-- the same refusal by equal numbers
pub refused_as : (P : List Part → Type 0) (first : Option (List ℕ)) (number n offset at : ℕ) → number ≡ n → offset ≡ at → IfRefusedBehind first number offset P → IfRefusedBehind first n at P
refused_as P first number n offset at same_number same_offset told =
    subst (λ (k : ℕ). IfRefusedBehind first k at P) same_number (subst (λ (k : ℕ). IfRefusedBehind first number k P) same_offset told)
