-- What is gathered of the bytes that were read ahead.
use Rattle.std.proofs.Common.{◌≡◌, ◌≤◌, ◌++◌, ◌∙◌, ℕ, List, [], ◌∷◌, drop, Option, None, Some, Result, Ok, Err, OnErr, ap, sym, subst, arith, append_assoc}
use Rattle.std.specs.Io.KnownBytes.{Consumes, prepend_known}
use Rattle.vdr_terms.specs.Records.{FeedItem}
use Rattle.vdr_feed.specs.Feed.{spelling}
use Rattle.vdr_outside.specs.Writes.{AppendsFront}
use Rattle.vdr_pcap.specs.Capture.{Course, Part, text}
use Rattle.vdr_pcap.specs.Reader.{Reading, reading_at}
use Rattle.vdr_pcap.specs.Steps.{Gives}
use Rattle.vdr_pcap.proofs.StepLemmas.{gives_none}
use Rattle.vdr_import.specs.Imports.{imported}
use Rattle.vdr_import.specs.Progress.{FailsSo, GoesOn}
use Rattle.vdr_import.specs.Relayed.{Gathers}
use Rattle.vdr_import.proofs.Progress.{imports_more, imports_same, read_next, read_part}
use Rattle.vdr_import.proofs.Relaying.{gathers_more, gathers_on, gathers_some}

-- what was taken of the bytes ahead was taken of all that is left
taken_of_all : (bytes rest part : List ℕ) (left : Option (List ℕ)) → Consumes (Some bytes) (Some rest) part → Consumes (prepend_known bytes left) (prepend_known rest left) part
taken_of_all bytes rest part None p = tt
taken_of_all bytes rest part (Some ys) p = ap (λ (b : List ℕ). b ++ ys) p ∙ append_assoc part rest ys

given_of_all : (bytes rest : List ℕ) (left : Option (List ℕ)) (limit : ℕ) (c c' : Course) (items : List FeedItem) → Gives (Some bytes) (Some rest) limit c c' items
    → Gives (prepend_known bytes left) (prepend_known rest left) limit c c' items
given_of_all bytes rest left limit c c' items g =
    record { parts = g.parts; bytes = taken_of_all bytes rest (text g.parts) left g.bytes; legal = g.legal; items_are = g.items_are; stands = g.stands }

-- the bytes that were looked at are those ahead
pub taken_ahead : (bytes ahead ahead' : List ℕ) (size limit : ℕ) (c c' : Course) (items : List FeedItem) → bytes ≡ ahead → ahead' ≡ drop size ahead
    → Gives (Some bytes) (Some (drop size bytes)) limit c c' items → Gives (Some ahead) (Some ahead') limit c c' items
taken_ahead bytes ahead ahead' size limit c c' items looked passed g =
    subst (λ (b : List ℕ). Gives (Some ahead) (Some b) limit c c' items) (sym passed) (subst (λ (b : List ℕ). Gives (Some b) (Some (drop size b)) limit c c' items) looked g)

-- nothing was gathered yet
pub goes_nowhere : (ahead : List ℕ) (r : Reading) (t : Option (List ℕ)) (w : List ℕ) → GoesOn ahead ahead r r t t w w
goes_nowhere ahead r t w = λ first left begin h. (h, omega arith)

-- a packet that is left out
pub goes_past : (ahead0 ahead ahead' : List ℕ) (r0 r r' : Reading) (t0 t : Option (List ℕ)) (w0 w : List ℕ) → GoesOn ahead0 ahead r0 r t0 t w0 w
    → Gives (Some ahead) (Some ahead') r.limit r.course r'.course [] → r' ≡ reading_at r.limit r'.course → GoesOn ahead0 ahead' r0 r' t0 t w0 w
goes_past ahead0 ahead ahead' r0 r r' t0 t w0 w on gives is = λ first left begin h.
    let g = on first left begin h in
    let next = read_next first (prepend_known ahead left) (prepend_known ahead' left) r r' g.0.parts [] g.0.read (given_of_all ahead ahead' left r.limit r.course r'.course [] gives) is in (
      record {
        parts = next.all;
        read = next.read;
        gathers = subst (λ (text : List ℕ). Gathers begin t text w) (sym (imports_same g.0.parts next.all g.0.read.begins next.imports)) g.0.gathers;
      },
      (let more : r.course.account.items ≤ r'.course.account.items = omega (arith, next.grown) in omega (arith, g.1, more)),
    )

-- nothing was taken
pub goes_same : (ahead0 ahead : List ℕ) (r0 r r' : Reading) (t0 t : Option (List ℕ)) (w0 w : List ℕ) → GoesOn ahead0 ahead r0 r t0 t w0 w
    → r'.course ≡ r.course → r' ≡ reading_at r.limit r'.course → GoesOn ahead0 ahead r0 r' t0 t w0 w
goes_same ahead0 ahead r0 r r' t0 t w0 w on same is =
    goes_past ahead0 ahead ahead r0 r r' t0 t w0 w on
    (subst (λ (c : Course). Gives (Some ahead) (Some ahead) r.limit r.course c []) (sym same) (gives_none (Some ahead) r.limit r.course)) is

-- one that is an item
pub goes_on : (ahead0 ahead ahead' : List ℕ) (r0 r r' : Reading) (t0 t t' : Option (List ℕ)) (w0 w w' : List ℕ) (i : FeedItem) → GoesOn ahead0 ahead r0 r t0 t w0 w
    → Gives (Some ahead) (Some ahead') r.limit r.course r'.course (i ∷ []) → r' ≡ reading_at r.limit r'.course → Gathers t t' (w ++ spelling i) w' → GoesOn ahead0 ahead' r0 r' t0 t' w0 w'
goes_on ahead0 ahead ahead' r0 r r' t0 t t' w0 w w' i on gives is pushed = λ first left begin h.
    let g = on first left begin h in
    let next = read_next first (prepend_known ahead left) (prepend_known ahead' left) r r' g.0.parts (i ∷ []) g.0.read (given_of_all ahead ahead' left r.limit r.course r'.course (i ∷ []) gives) is in (
      record {
        parts = next.all;
        read = next.read;
        gathers = subst (λ (text : List ℕ). Gathers begin t' text w') (sym (imports_more g.0.parts next.all i g.0.read.begins next.imports))
            (gathers_on begin t t' (imported g.0.parts ++ spelling i) (w ++ spelling i) w' (gathers_more begin t (imported g.0.parts) w (spelling i) g.0.gathers) pushed);
      },
      (let more : r.course.account.items ≤ r'.course.account.items = omega (arith, next.grown) in omega (arith, g.1, more)),
    )

-- its bytes were not taken
pub goes_no_further : (ahead0 ahead : List ℕ) (r0 r : Reading) (t0 t t' : Option (List ℕ)) (w0 w w' : List ℕ) → GoesOn ahead0 ahead r0 r t0 t w0 w → Gathers t t' w w' → FailsSo ahead0 r0 t0 t' w0
goes_no_further ahead0 ahead r0 r t0 t t' w0 w w' on front = λ first left begin h.
    let g = on first left begin h in
    read_part (λ (parts : List Part). AppendsFront begin t' (imported parts)) first (prepend_known ahead left) r g.0.parts g.0.read
    (gathers_some begin t' (imported g.0.parts) w' (gathers_on begin t t' (imported g.0.parts) w w' g.0.gathers front))

-- what is so of an error, whichever it is
pub of_an_error : {T E : Type 0} (r : Result T E) (P : Type 0) → P → OnErr r P
of_an_error (Ok x) P p = tt
of_an_error (Err e) P p = p
