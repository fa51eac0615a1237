-- A line asks for one file at most.
use Rattle.std.proofs.Common.{◌≡◌, ℕ, ℤ, pos, Bool, true, false, List, [], ◌∷◌, ◌++◌, length, get_or, drop, codes, decimal, refl, ap, subst, sym, ◌∙◌, arith}
use Rattle.std.proofs.lemmas.Fmt.{decimal_injective}
use Rattle.vdr_terms.specs.Stamps.{last_stamp}
use Rattle.vdr_entry.specs.declared.query.Medium.{Medium}
use Rattle.vdr_control.specs.Exports.{HasFileWords, IsExportLine, file_words}
use Rattle.vdr_control.specs.Orders.{PlainOrder}
use Rattle.vdr_control.specs.Orders.PlainOrder.{Export, Play}
use Rattle.vdr_control.specs.Plays.{SpellsBound, SpellsPlay}
use Rattle.vdr_control.specs.Words.{words}
use Rattle.vdr_control.specs.declared.export.Exporting.{Exporting}
use Rattle.vdr_control.specs.declared.export.Exporting.TheVariants.{Picture, Sound}
use Rattle.vdr_control.proofs.PlayLemmas.{HaveOwnTexts, one_bound, one_medium}

abbrev word : ℕ → List (List ℕ) → List ℕ
word n list = get_or list n []

-- The words of two files of one text.
both : (e g : Exporting) (text : List ℕ) (m n : Medium) (c d : List ℕ) (f h t u : ℤ) (x : HasFileWords text m c f t e) (y : HasFileWords text n d h u g)
    → file_words e x.name c x.since x.until ≡ file_words g y.name d y.since y.until
both e g text m n c d f h t u x y = sym x.cut ∙ y.cut

-- One play, and so one order of the same file.
one_span : HaveOwnTexts → (e g : Exporting) (text : List ℕ) (m n : Medium) (c d : List ℕ) (f h t u : ℤ) (x : HasFileWords text m c f t e) (y : HasFileWords text n d h u g)
    → x.name ≡ y.name → c ≡ d → x.since ≡ y.since → x.until ≡ y.until → e ≡ g → Export m c f t e ≡ Export n d h u g
one_span own e g text m n c d f h t u x y name channel since until same =
    let medium : m ≡ n = one_medium m n x.spelled.0.0 y.spelled.0.0 (sym x.spelled.0.1 ∙ name ∙ y.spelled.0.1) in
    let from : f ≡ h = one_bound own (pos 0) x.since f h x.spelled.2 (subst (λ (w : List ℕ). SpellsBound (pos 0) w h) (sym since) y.spelled.2) in
    let to : t ≡ u = one_bound own (pos last_stamp) x.until t u x.spelled.3 (subst (λ (w : List ℕ). SpellsBound (pos last_stamp) w u) (sym until) y.spelled.3) in
    λ i. Export (medium i) (channel i) (from i) (to i) (same i)

one_sound : HaveOwnTexts → (text : List ℕ) (m n : Medium) (c d : List ℕ) (f h t u : ℤ) (a b : Bool) → HasFileWords text m c f t (Sound a) → HasFileWords text n d h u (Sound b)
    → Export m c f t (Sound a) ≡ Export n d h u (Sound b)
one_sound own text m n c d f h t u false false x y =
    let w = both (Sound false) (Sound false) text m n c d f h t u x y in
    one_span own (Sound false) (Sound false) text m n c d f h t u x y (ap (word 0) w) (ap (word 1) w) (ap (word 2) w) (ap (word 3) w) refl
one_sound own text m n c d f h t u true true x y =
    let w = both (Sound true) (Sound true) text m n c d f h t u x y in
    one_span own (Sound true) (Sound true) text m n c d f h t u x y (ap (word 0) w) (ap (word 1) w) (ap (word 2) w) (ap (word 3) w) refl
one_sound own text m n c d f h t u false true x y = let bad : ⊥ = omega (arith, ap length (both (Sound false) (Sound true) text m n c d f h t u x y)) in absurd bad
one_sound own text m n c d f h t u true false x y = let bad : ⊥ = omega (arith, ap length (both (Sound true) (Sound false) text m n c d f h t u x y)) in absurd bad

one_picture : HaveOwnTexts → (text : List ℕ) (m n : Medium) (c d : List ℕ) (f h t u : ℤ) (s o : List ℕ) (a b : ℕ) → HasFileWords text m c f t (Picture s a) → HasFileWords text n d h u (Picture o b)
    → Export m c f t (Picture s a) ≡ Export n d h u (Picture o b)
one_picture own text m n c d f h t u s o a b x y =
    let w = both (Picture s a) (Picture o b) text m n c d f h t u x y in
    let source : s ≡ o = ap (word 2) w in
    let block : a ≡ b = decimal_injective a b (omega (arith, x.legal.1)) (omega (arith, y.legal.1)) (ap (word 3) w) in
    one_span own (Picture s a) (Picture o b) text m n c d f h t u x y (ap (word 0) w) (ap (word 1) w) (ap (word 4) w) (ap (word 5) w) (λ i. Picture (source i) (block i))

-- The text behind a front is one.
pub behind_so : (n : ℕ) (front line a b : List ℕ) → ((rest : List ℕ) → drop n (front ++ rest) ≡ rest) → line ≡ front ++ a → line ≡ front ++ b → b ≡ a
behind_so n front line a b drops x y = sym (drops b) ∙ ap (λ (l : List ℕ). drop n l) (sym y ∙ x) ∙ drops a

pub one_sound_line : HaveOwnTexts → (line : List ℕ) (m n : Medium) (c d : List ℕ) (f h t u : ℤ) (a b : Bool) → IsExportLine line m c f t (Sound a) → IsExportLine line n d h u (Sound b)
    → Export m c f t (Sound a) ≡ Export n d h u (Sound b)
one_sound_line own line m n c d f h t u a b x y =
    one_sound own x.rest m n c d f h t u a b x.spelled
    (subst (λ (text : List ℕ). HasFileWords text n d h u (Sound b)) (behind_so 4 (codes "WAV ") line x.rest y.rest (λ rest. refl) x.begins y.begins) y.spelled)

pub one_picture_line : HaveOwnTexts → (line : List ℕ) (m n : Medium) (c d : List ℕ) (f h t u : ℤ) (s o : List ℕ) (a b : ℕ) → IsExportLine line m c f t (Picture s a) → IsExportLine line n d h u (Picture o b)
    → Export m c f t (Picture s a) ≡ Export n d h u (Picture o b)
one_picture_line own line m n c d f h t u s o a b x y =
    one_picture own x.rest m n c d f h t u s o a b x.spelled
    (subst (λ (text : List ℕ). HasFileWords text n d h u (Picture o b)) (behind_so 8 (codes "PICTURE ") line x.rest y.rest (λ rest. refl) x.begins y.begins) y.spelled)

-- ---- the words of a text that are told apart

spells_so : (order : PlainOrder) (a b c d e f g h : List ℕ) → a ≡ e → b ≡ f → c ≡ g → d ≡ h → SpellsPlay e f g h order → SpellsPlay a b c d order
spells_so order a b c d e f g h p q r s spells =
    subst (λ (w : List ℕ × List ℕ × List ℕ × List ℕ). SpellsPlay w.0 w.1 w.2 w.3 order) (λ i. (sym p i, sym q i, sym r i, sym s i)) spells

-- A sound by its numbers has four words.
pub sound_words : (text a b c d : List ℕ) → words text ≡ a ∷ b ∷ c ∷ d ∷ [] → (m : Medium) (n : List ℕ) (f t : ℤ) (timed : Bool) → HasFileWords text m n f t (Sound timed) → SpellsPlay a b c d (Play m n f t)
sound_words text a b c d cut m n f t false x =
    let w : a ∷ b ∷ c ∷ d ∷ [] ≡ x.name ∷ n ∷ x.since ∷ x.until ∷ [] = sym cut ∙ x.cut in
    spells_so (Play m n f t) a b c d x.name n x.since x.until (ap (word 0) w) (ap (word 1) w) (ap (word 2) w) (ap (word 3) w) x.spelled
sound_words text a b c d cut m n f t true x = let bad : ⊥ = omega (arith, ap length (sym cut ∙ x.cut)) in absurd bad

-- One on its time line has five.
pub timed_words : (text a b c d e : List ℕ) → words text ≡ a ∷ b ∷ c ∷ d ∷ e ∷ [] → (m : Medium) (n : List ℕ) (f t : ℤ) (timed : Bool) → HasFileWords text m n f t (Sound timed) → SpellsPlay a b c d (Play m n f t) × (e ≡ codes "timed")
timed_words text a b c d e cut m n f t true x =
    let w : a ∷ b ∷ c ∷ d ∷ e ∷ [] ≡ x.name ∷ n ∷ x.since ∷ x.until ∷ codes "timed" ∷ [] = sym cut ∙ x.cut in
    (spells_so (Play m n f t) a b c d x.name n x.since x.until (ap (word 0) w) (ap (word 1) w) (ap (word 2) w) (ap (word 3) w) x.spelled, ap (word 4) w)
timed_words text a b c d e cut m n f t false x = let bad : ⊥ = omega (arith, ap length (sym cut ∙ x.cut)) in absurd bad

-- An image has six.
pub picture_words : (text a b s k c d : List ℕ) → words text ≡ a ∷ b ∷ s ∷ k ∷ c ∷ d ∷ [] → (m : Medium) (n : List ℕ) (f t : ℤ) (source : List ℕ) (block : ℕ) → HasFileWords text m n f t (Picture source block)
    → SpellsPlay a b c d (Play m n f t) × (s ≡ source) × (k ≡ decimal block)
picture_words text a b s k c d cut m n f t source block x =
    let w : a ∷ b ∷ s ∷ k ∷ c ∷ d ∷ [] ≡ x.name ∷ n ∷ source ∷ decimal block ∷ x.since ∷ x.until ∷ [] = sym cut ∙ x.cut in
    (spells_so (Play m n f t) a b c d x.name n x.since x.until (ap (word 0) w) (ap (word 1) w) (ap (word 4) w) (ap (word 5) w) x.spelled, ap (word 2) w, ap (word 3) w)

-- A line that begins so asks for a sound, and one that begins so for an image.
pub no_sound_line : (line text : List ℕ) → line ≡ codes "WAV " ++ text → ((m : Medium) (n : List ℕ) (f t : ℤ) (timed : Bool) → HasFileWords text m n f t (Sound timed) → ⊥)
    → (m : Medium) (n : List ℕ) (f t : ℤ) (e : Exporting) → IsExportLine line m n f t e → ⊥
no_sound_line line text begins none m n f t (Sound timed) x =
    none m n f t timed (subst (λ (l : List ℕ). HasFileWords l m n f t (Sound timed)) (behind_so 4 (codes "WAV ") line text x.rest (λ rest. refl) begins x.begins) x.spelled)
no_sound_line line text begins none m n f t (Picture source block) x = omega (arith, ap (λ (l : List ℕ). get_or l 0 0) (sym begins ∙ x.begins))

pub no_picture_line : (line text : List ℕ) → line ≡ codes "PICTURE " ++ text → ((m : Medium) (n : List ℕ) (f t : ℤ) (source : List ℕ) (block : ℕ) → HasFileWords text m n f t (Picture source block) → ⊥)
    → (m : Medium) (n : List ℕ) (f t : ℤ) (e : Exporting) → IsExportLine line m n f t e → ⊥
no_picture_line line text begins none m n f t (Sound timed) x = omega (arith, ap (λ (l : List ℕ). get_or l 0 0) (sym begins ∙ x.begins))
no_picture_line line text begins none m n f t (Picture source block) x =
    none m n f t source block (subst (λ (l : List ℕ). HasFileWords l m n f t (Picture source block)) (behind_so 8 (codes "PICTURE ") line text x.rest (λ rest. refl) begins x.begins) x.spelled)
