-- How what was read tells what stands at the front of the bytes left.
use Rattle.std.proofs.Common.{◌≡◌, ◌≤◌, ◌<◌, ◌+◌, ℕ, suc, Bool, cond, List, [], ◌++◌, length, Option, None, Some, refl, ap, ◌∙◌, sym, subst, arith}
use Rattle.std.specs.Prelude.{nat_lt}
use Rattle.std.specs.Io.KnownBytes.{Consumes, IsAtEnd}
use Rattle.std.proofs.KnownBytes.{Consumes-trans}
use Rattle.std.proofs.lemmas.Bool.{le-leb, lt-leb}
use Rattle.std.proofs.lemmas.List.{length-append, append-nil}
use Rattle.vdr_pcap.specs.Packets.{Parsed, Refuses, Standing}
use Rattle.vdr_pcap.specs.Seen.{HasSize, IfKnown, Tells, parsed_as}
use Rattle.vdr_pcap.specs.declared.unit.Unit.{Unit as Found}
use Rattle.vdr_pcap.specs.declared.unit.Unit.TheVariants as found

-- what is known of the bytes left, once a front of them is at hand
pub known : (a b : Option (List ℕ)) (front : List ℕ) (P : List ℕ → Type 0) → Consumes a b front → ((rest : List ℕ) → b ≡ Some rest → P (front ++ rest)) → IfKnown a P
known None b front P is all = tt
known (Some xs) None front P is all = absurd is
known (Some xs) (Some rest) front P is all = subst P (sym is) (all rest refl)

pub always : (a : Option (List ℕ)) (P : List ℕ → Type 0) → ((bytes : List ℕ) → P bytes) → IfKnown a P
always None P all = tt
always (Some xs) P all = all xs

-- a test that a list is too short, where it is and where it is not
pub too_short : {A : Type 0} (n m : ℕ) (x y : A) → n < m → cond (nat_lt n m) x y ≡ x
too_short n m x y h = ap (λ (b : Bool). cond b x y) (le-leb (suc n) m h)

pub long_enough : {A : Type 0} (n m : ℕ) (x y : A) → m ≤ n → cond (nat_lt n m) x y ≡ y
long_enough n m x y h = ap (λ (b : Bool). cond b x y) (lt-leb (suc n) m (omega (arith, h)))

-- the input ended before so many bytes
pub ended : (a b : Option (List ℕ)) (k number : ℕ) (p : List ℕ → Parsed) → ((bytes : List ℕ) → length bytes < k → p bytes ≡ Refuses number)
    → (part : List ℕ) × (length part < k) × Consumes a b part × IsAtEnd b → IfKnown a (λ bytes. p bytes ≡ Refuses number)
ended a b k number p short q =
    known a b q.0 (λ bytes. p bytes ≡ Refuses number) q.2
    (λ rest is.
    let none : rest ≡ [] = subst (λ (o : Option (List ℕ)). IsAtEnd o) is q.3 in
    let few : length q.0 < k = q.1 in
    let total : length (q.0 ++ rest) ≡ length q.0 = length-append q.0 rest ∙ ap (λ (r : List ℕ). length q.0 + length r) none ∙ omega arith in
    short (q.0 ++ rest) (omega (arith, total, few)))

-- a front was read, and what stands behind it tells
pub behind : (a b c : Option (List ℕ)) (p q : List ℕ → Parsed) (before further : ℕ) (front : List ℕ) (u : Found) (s : Standing) (f : List ℕ)
    → Consumes a b front → before + length front ≡ further → ((rest : List ℕ) → p (front ++ rest) ≡ q rest) → Tells b c q further u s f → Tells a c p before u s f
behind a b c p q before further front (found.Refuses number) s f read size same tells =
    known a b front (λ bytes. p bytes ≡ Refuses number) read
    (λ rest is. same rest ∙ (let at : IfKnown (Some rest) (λ bytes. q bytes ≡ Refuses number) = subst (λ (o : Option (List ℕ)). IfKnown o (λ bytes. q bytes ≡ Refuses number)) is tells in at))
behind a b c p q before further front (found.Says size) s f read long same t =
    let n : further + length t.0 ≡ size = t.1 in
    (front ++ t.0, omega (arith, length-append front t.0, long, n), Consumes-trans a b c front t.0 read t.2, same t.0 ∙ t.3)
behind a b c p q before further front (found.Unread size) s f read long same t =
    let n : further + length t.0 ≡ size = t.1 in
    (front ++ t.0, omega (arith, length-append front t.0, long, n), Consumes-trans a b c front t.0 read t.2, same t.0 ∙ t.3)
behind a b c p q before further front (found.Packet size link stamp kept) s f read long same t =
    let n : further + length t.0 ≡ size = t.1 in
    (front ++ t.0, omega (arith, length-append front t.0, long, n), Consumes-trans a b c front t.0 read t.2, same t.0 ∙ t.3)

-- all of it was read
pub read_whole : (a b : Option (List ℕ)) (p : List ℕ → Parsed) (before : ℕ) (bytes : List ℕ) (u : Found) (s : Standing) (f : List ℕ)
    → Consumes a b bytes → HasSize u (before + length bytes) → ((rest : List ℕ) → p (bytes ++ rest) ≡ parsed_as u s f) → Tells a b p before u s f
read_whole a b p before bytes (found.Refuses number) s f read size is = known a b bytes (λ xs. p xs ≡ Refuses number) read (λ rest _. is rest)
read_whole a b p before bytes (found.Says size) s f read long is = (bytes, long, read, ap p (sym (append-nil bytes)) ∙ is [])
read_whole a b p before bytes (found.Unread size) s f read long is = (bytes, long, read, ap p (sym (append-nil bytes)) ∙ is [])
read_whole a b p before bytes (found.Packet size link stamp kept) s f read long is = (bytes, long, read, ap p (sym (append-nil bytes)) ∙ is [])
