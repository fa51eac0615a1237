-- What reads of so many bytes come to, one after another.
use Rattle.std.proofs.Common.{◌≡◌, ◌≤◌, ◌<◌, ◌+◌, ℕ, Bool, true, false, List, ◌++◌, length, Option, None, Some, Result, Ok, Err, IfOk, arith, subst}
use Rattle.std.specs.Io.KnownBytes.{Consumes, IsAtEnd}
use Rattle.std.proofs.KnownBytes.{Consumes-trans}
use Rattle.std.proofs.lemmas.List.{length-append}
use Rattle.vdr_pcap.specs.Seen.{Fills, Passes, Takes}

-- what is said of an answer without a fault
pub if_ok : {T E : Type 0} (r : Result T E) (P Q : T → Type 0) → ((x : T) → P x → Q x) → IfOk r P → IfOk r Q
if_ok (Ok x) P Q more p = more x p
if_ok (Err e) P Q more p = p

-- fewer than so many bytes were read, and the input ended
abbrev pub Short : (a b : Option (List ℕ)) → ℕ → Type 0
Short a b n = (part : List ℕ) × (length part < n) × Consumes a b part × IsAtEnd b

abbrev pub Whole : (a b : Option (List ℕ)) → ℕ → Type 0
Whole a b n = (bytes : List ℕ) × (length bytes ≡ n) × Consumes a b bytes

pub filled : (a b : Option (List ℕ)) (buffer : List ℕ) (whole : Bool) → Fills a b buffer whole → whole ≡ true → Consumes a b buffer
filled a b buffer true p e = p
filled a b buffer false p e = let bad : ⊥ = cc in absurd bad

pub unfilled : (a b : Option (List ℕ)) (buffer : List ℕ) (whole : Bool) → Fills a b buffer whole → whole ≡ false → Short a b (length buffer)
unfilled a b buffer false p e = p
unfilled a b buffer true p e = let bad : ⊥ = cc in absurd bad

pub passed : (a b : Option (List ℕ)) (n : ℕ) (whole : Bool) → Passes a b n whole → whole ≡ true → Whole a b n
passed a b n true p e = p
passed a b n false p e = let bad : ⊥ = cc in absurd bad

pub unpassed : (a b : Option (List ℕ)) (n : ℕ) (whole : Bool) → Passes a b n whole → whole ≡ false → Short a b n
unpassed a b n false p e = p
unpassed a b n true p e = let bad : ⊥ = cc in absurd bad

-- a short read is short of more
pub shorter : (a b : Option (List ℕ)) (k n : ℕ) → k ≤ n → Short a b k → Short a b n
shorter a b k n more q = let few : length q.0 < k = q.1 in (q.0, omega (arith, few, more), q.2, q.3)

-- behind a front a short read is short of both
pub short_after : (a b c : Option (List ℕ)) (front : List ℕ) (k n : ℕ) → Consumes a b front → length front + k ≤ n → Short b c k → Short a c n
short_after a b c front k n read within q =
    let few : length q.0 < k = q.1 in
    (front ++ q.0, omega (arith, length-append front q.0, few, within), Consumes-trans a b c front q.0 read q.2, q.3)

pub whole_after : (a b c : Option (List ℕ)) (front : List ℕ) (k n : ℕ) → Consumes a b front → length front + k ≡ n → Whole b c k → Whole a c n
whole_after a b c front k n read is q =
    let long : length q.0 ≡ k = q.1 in
    (front ++ q.0, omega (arith, length-append front q.0, long, is), Consumes-trans a b c front q.0 read q.2)

-- ---- what was read with a value

pub took : {T : Type 0} (a b : Option (List ℕ)) (n : ℕ) (P : List ℕ → T → Type 0) (o : Option T) (x : T) → Takes a b n P o → o ≡ Some x
    → (bytes : List ℕ) × (length bytes ≡ n) × Consumes a b bytes × P bytes x
took {T} a b n P o x t e = subst (λ (v : Option T). Takes a b n P v) e t

pub not_took : {T : Type 0} (a b : Option (List ℕ)) (n : ℕ) (P : List ℕ → T → Type 0) (o : Option T) → Takes a b n P o → o ≡ None → Short a b n
not_took {T} a b n P o t e = subst (λ (v : Option T). Takes a b n P v) e t

-- what is said of the value follows from what was said of another
pub takes_more : {T : Type 0} (a b : Option (List ℕ)) (n : ℕ) (P Q : List ℕ → T → Type 0) → ((bytes : List ℕ) (x : T) → length bytes ≡ n → P bytes x → Q bytes x)
    → (o : Option T) → Takes a b n P o → Takes a b n Q o
takes_more a b n P Q more None t = t
takes_more a b n P Q more (Some x) t = (t.0, t.1, t.2, more t.0 x t.1 t.3)
