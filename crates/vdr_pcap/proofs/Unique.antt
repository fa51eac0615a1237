-- A capture is read in one way.
use Rattle.std.proofs.Common.{◌≡◌, ℕ, Bool, true, false, List, [], ◌∷◌, ◌++◌, length, take, drop, refl, ap, ◌∙◌, sym, subst}
use Rattle.std.proofs.lemmas.List.{append_assoc, take_at, drop_at}
use Rattle.vdr_pcap.specs.Capture.{AreParts, Course, IsPart, Part, Reaches, Step, Ended, Refused, Takes, course_after, no_course, step, step_after, text}
use Rattle.vdr_pcap.specs.Law.{NoCaptureIsRefused, OneCapture, OneRefusal}
use Rattle.vdr_pcap.proofs.Local.{local_step}

abbrev begun_after : Bool → List Part → Bool
begun_after b [] = b
begun_after b (p ∷ parts) = true

-- nothing more is taken
abbrev IsStop : Step → Type 0
IsStop Ended = Unit {0}
IsStop (Refused number) = Unit {0}
IsStop (Takes size next piece) = ⊥

abbrev Stops : (limit : ℕ) → (begun : Bool) → Course → List Part → List ℕ → Type 0
Stops limit begun c parts rest = IsStop (step limit (begun_after begun parts) (course_after c parts) rest)

later : (limit : ℕ) (c : Course) (parts : List Part) (rest : List ℕ) → IsStop (step limit true (course_after c parts) rest) → Stops limit true c parts rest
later limit c [] rest s = s
later limit c (p ∷ parts) rest s = s

taken : (limit : ℕ) (begun : Bool) (c : Course) (p : Part) (rest : List ℕ) → IsPart limit begun c p → step limit begun c (p.bytes ++ rest) ≡ Takes (length p.bytes) p.next p.piece
taken limit begun c p rest is = local_step limit begun c p.bytes rest (length p.bytes) p.next p.piece is.is

no_part : (limit : ℕ) (begun : Bool) (c : Course) (p : Part) (rest more : List ℕ) → IsPart limit begun c p → IsStop (step limit begun c rest) → rest ≡ p.bytes ++ more → ⊥
no_part limit begun c p rest more is stop e = subst (λ (s : Step). IsStop s) (ap (λ (b : List ℕ). step limit begun c b) e ∙ taken limit begun c p more is) stop

-- one part
same_part : (limit : ℕ) (begun : Bool) (c : Course) (p q : Part) (rest more : List ℕ) → IsPart limit begun c p → IsPart limit begun c q → p.bytes ++ rest ≡ q.bytes ++ more
    → (p ≡ q) × (rest ≡ more)
same_part limit begun c p q rest more a b e =
    let both : Takes (length p.bytes) p.next p.piece ≡ Takes (length q.bytes) q.next q.piece =
    sym (taken limit begun c p rest a) ∙ (ap (λ (x : List ℕ). step limit begun c x) e ∙ taken limit begun c q more b) in
    let long : length p.bytes ≡ length q.bytes = cc in
    let next : p.next ≡ q.next = cc in
    let piece : p.piece ≡ q.piece = cc in
    let bytes : p.bytes ≡ q.bytes = sym (take_at p.bytes rest (length p.bytes) refl) ∙ (ap (λ (x : List ℕ). take (length p.bytes) x) e ∙ take_at q.bytes more (length p.bytes) (sym long)) in
    let behind : rest ≡ more = sym (drop_at p.bytes rest (length p.bytes) refl) ∙ (ap (λ (x : List ℕ). drop (length p.bytes) x) e ∙ drop_at q.bytes more (length p.bytes) (sym long)) in
    ((λ i. record { bytes = bytes i; next = next i; piece = piece i }), behind)

unique : (limit : ℕ) (begun : Bool) (c : Course) (parts others : List Part) (rest more : List ℕ) → AreParts limit begun c parts → AreParts limit begun c others
    → Stops limit begun c parts rest → Stops limit begun c others more → text parts ++ rest ≡ text others ++ more → (parts ≡ others) × (rest ≡ more)
unique limit begun c [] [] rest more a b s t e = (refl, e)
unique limit begun c [] (q ∷ qs) rest more a b s t e = absurd (no_part limit begun c q rest (text qs ++ more) b.0 s (e ∙ append_assoc q.bytes (text qs) more))
unique limit begun c (p ∷ ps) [] rest more a b s t e = absurd (no_part limit begun c p more (text ps ++ rest) a.0 t (sym e ∙ append_assoc p.bytes (text ps) rest))
unique limit begun c (p ∷ ps) (q ∷ qs) rest more a b s t e =
    let here = same_part limit begun c p q (text ps ++ rest) (text qs ++ more) a.0 b.0 (sym (append_assoc p.bytes (text ps) rest) ∙ (e ∙ append_assoc q.bytes (text qs) more)) in
    let at : q.next ≡ p.next = ap (λ (x : Part). x.next) (sym here.0) in
    let next = unique limit true p.next ps qs rest more a.1 (subst (λ (d : Course). AreParts limit true d qs) at b.1)
    (later limit p.next ps rest s) (later limit p.next qs more (subst (λ (d : Course). IsStop (step limit true (course_after d qs) more)) at t)) here.1 in
    ((λ i. here.0 i ∷ next.0 i), next.1)

first : (limit : ℕ) (parts : List Part) (rest : List ℕ) → IsStop (step_after limit parts rest) → Stops limit false no_course parts rest
first limit [] rest s = s
first limit (p ∷ parts) rest s = s

both : (limit : ℕ) (bytes : List ℕ) (parts others : List Part) (rest more : List ℕ) → Reaches limit bytes parts rest → Reaches limit bytes others more
    → IsStop (step_after limit parts rest) → IsStop (step_after limit others more) → (parts ≡ others) × (rest ≡ more)
both limit bytes parts others rest more r q s t =
    unique limit false no_course parts others rest more r.legal q.legal (first limit parts rest s) (first limit others more t) (sym r.spelled ∙ q.spelled)

stop_of_end : (s : Step) → s ≡ Ended → IsStop s
stop_of_end s e = subst (λ (x : Step). IsStop x) (sym e) tt

stop_of_refusal : (s : Step) (number : ℕ) → s ≡ Refused number → IsStop s
stop_of_refusal s number e = subst (λ (x : Step). IsStop x) (sym e) tt

pub one_capture : OneCapture
one_capture limit bytes parts others a b = (both limit bytes parts others [] [] a.whole b.whole (stop_of_end _ a.ended) (stop_of_end _ b.ended)).0

pub no_capture_is_refused : NoCaptureIsRefused
no_capture_is_refused limit bytes parts number offset a r =
    let same = both limit bytes parts r.0 [] r.1 a.whole r.2.front (stop_of_end _ a.ended) (stop_of_refusal _ number r.2.fault) in
    let clash : Ended ≡ Refused number = sym a.ended ∙ ((λ i. step_after limit (same.0 i) (same.1 i)) ∙ r.2.fault) in
    let none : ⊥ = cc in none

pub one_refusal : OneRefusal
one_refusal limit bytes number offset other at r q =
    let same = both limit bytes r.0 q.0 r.1 q.1 r.2.front q.2.front (stop_of_refusal _ number r.2.fault) (stop_of_refusal _ other q.2.fault) in
    let faults : Refused number ≡ Refused other = sym r.2.fault ∙ ((λ i. step_after limit (same.0 i) (same.1 i)) ∙ q.2.fault) in
    let numbers : number ≡ other = cc in
    (numbers, r.2.offset_is ∙ (ap (λ (parts : List Part). length (text parts)) same.0 ∙ sym q.2.offset_is))
