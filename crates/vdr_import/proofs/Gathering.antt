-- What was written and what waits, by how the import ended.
use Rattle.std.proofs.Common.{◌≡◌, ◌∙◌, ◌++◌, List, [], Option, ℕ, Result, Ok, Err, OnOk, OnErr, IsErrOf, None, Some, refl, arith, ap, sym, subst, append_assoc}
use Rattle.std.specs.Prelude.{⊤}
use Rattle.vdr_outside.specs.Causes.{HasCause, Rose}
use Rattle.vdr_outside.specs.Writes.{AppendsFront}
use Rattle.vdr_outside.specs.declared.fault.Failed.{Failed}
use Rattle.vdr_feed.specs.declared.item.Item.{Item}
use Rattle.vdr_pcap.specs.Capture.{Part}
use Rattle.vdr_pcap.specs.Reader.{Reading}
use Rattle.vdr_import.specs.Imports.{HasCauses, IfCaptured, IfReached, IfRefusedBehind, Imports, imported}
use Rattle.vdr_import.specs.Progress.{GathersFeed, GivesNext, HasRead}
use Rattle.vdr_import.specs.Relayed.{Gathers}
use Rattle.vdr_import.specs.declared.refused.ImportRefused.{ImportRefused}
use Rattle.vdr_import.specs.declared.refused.ImportRefused.TheVariants.{Input, Output, Refused}
use Rattle.vdr_import.proofs.Progress.{read_part, read_refused}
use Rattle.vdr_import.proofs.Relaying.{gathers_none, gathers_on, gathers_some}

-- a front of a text is one of a longer text
pub front_of_more : (a b : Option (List ℕ)) (text more : List ℕ) → AppendsFront a b text → AppendsFront a b (text ++ more)
front_of_more a b text more f = (f.0, f.1 ++ more, ap (λ (t : List ℕ). t ++ more) f.2 ∙ append_assoc f.0 f.1 more, f.3)

-- no item was read, for this reason
pub ended_so : (first before now left : Option (List ℕ)) (r r' : Reading) (held : Item) (t0 t t' : Option (List ℕ)) (w w' : List ℕ) (refused : ImportRefused) (parts : List Part)
    → HasRead first before r parts → Gathers t0 t (imported parts) w → GivesNext before now r r' held (Err refused) → Gathers t t' w w' → GathersFeed first left t0 t' w' (Err refused)
ended_so first before now left r r' held t0 t t' w w' Input parts s gathered gives handed =
    read_part (λ (ps : List Part). Gathers t0 t' (imported ps) w') first before r parts s (gathers_on t0 t t' (imported parts) w w' gathered handed)
ended_so first before now left r r' held t0 t t' w w' Output parts s gathered gives handed =
    read_part (λ (ps : List Part). AppendsFront t0 t' (imported ps)) first before r parts s (gathers_some t0 t' (imported parts) w' (gathers_on t0 t t' (imported parts) w w' gathered handed))
ended_so first before now left r r' held t0 t t' w w' (Refused number offset) parts s gathered gives handed =
    read_refused (λ (ps : List Part). Gathers t0 t' (imported ps) w') first before r parts number offset s gives
    (λ all same. subst (λ (text : List ℕ). Gathers t0 t' text w') (sym same) (gathers_on t0 t t' (imported parts) w w' gathered handed))

-- ---- the last write

-- what is said of the packets and blocks, turned into something else
captured_as : (left : Option (List ℕ)) (P Q : List Part → Type 0) → ((parts : List Part) → P parts → Q parts) → IfCaptured left P → IfCaptured left Q
captured_as None P Q f c = tt
captured_as (Some bytes) P Q f c = (c.0, c.1, f c.0 c.2)

refused_so : (left : Option (List ℕ)) (number offset : ℕ) (P Q : List Part → Type 0) → ((parts : List Part) → P parts → Q parts) → IfRefusedBehind left number offset P → IfRefusedBehind left number offset Q
refused_so None number offset P Q f c = tt
refused_so (Some bytes) number offset P Q f c = (c.0, c.1, f c.0 c.2)

reached_as : (left : Option (List ℕ)) (P Q : List Part → Type 0) → ((parts : List Part) → P parts → Q parts) → IfReached left P → IfReached left Q
reached_as None P Q f c = tt
reached_as (Some bytes) P Q f c = (c.0, c.1, f c.0 c.2)

whole_reached : (left : Option (List ℕ)) (P : List Part → Type 0) → IfCaptured left P → IfReached left P
whole_reached None P c = tt
whole_reached (Some bytes) P c = (c.0, ([], c.1.whole), c.2)

refused_reached : (left : Option (List ℕ)) (number offset : ℕ) (P : List Part → Type 0) → IfRefusedBehind left number offset P → IfReached left P
refused_reached None number offset P c = tt
refused_reached (Some bytes) number offset P c = (c.0, (c.1.0, c.1.1.front), c.2)

-- all that waited was written
pub written_so : (left now t0 t t' : Option (List ℕ)) (w w' : List ℕ) (ended : Result ⊤ ImportRefused) → GathersFeed left now t0 t w ended → Gathers t t' w w' → w' ≡ []
    → (ended ≡ Err Output → ⊥) → Imports left now t0 t' ended
written_so left now t0 t t' w w' (Ok x) g h none other = (g.0, captured_as left _ _ (λ parts p. gathers_none t0 t' (imported parts) w' (gathers_on t0 t t' (imported parts) w w' p h) none) g.1)
written_so left now t0 t t' w w' (Err (Refused number offset)) g h none other =
    refused_so left number offset _ _ (λ parts p. gathers_none t0 t' (imported parts) w' (gathers_on t0 t t' (imported parts) w w' p h) none) g
written_so left now t0 t t' w w' (Err Input) g h none other = reached_as left _ _ (λ parts p. gathers_none t0 t' (imported parts) w' (gathers_on t0 t t' (imported parts) w w' p h) none) g
written_so left now t0 t t' w w' (Err Output) g h none other = absurd (other refl)

-- the last write failed
pub not_written : (left now t0 t t' : Option (List ℕ)) (w w' : List ℕ) (ended : Result ⊤ ImportRefused) → GathersFeed left now t0 t w ended → Gathers t t' w w'
    → (ended ≡ Err Output → ⊥) → Imports left now t0 t' (Err Output)
not_written left now t0 t t' w w' (Ok x) g h other =
    reached_as left _ _ (λ parts p. gathers_some t0 t' (imported parts) w' (gathers_on t0 t t' (imported parts) w w' p h)) (whole_reached left _ g.1)
not_written left now t0 t t' w w' (Err (Refused number offset)) g h other =
    reached_as left _ _ (λ parts p. gathers_some t0 t' (imported parts) w' (gathers_on t0 t t' (imported parts) w w' p h)) (refused_reached left number offset _ g)
not_written left now t0 t t' w w' (Err Input) g h other = reached_as left _ _ (λ parts p. gathers_some t0 t' (imported parts) w' (gathers_on t0 t t' (imported parts) w w' p h)) g
not_written left now t0 t t' w w' (Err Output) g h other = absurd (other refl)

-- how it ended, once what waited was written so
pub imports_so : (left now t0 t t' : Option (List ℕ)) (w w' : List ℕ) (ended result : Result ⊤ ImportRefused) (written : Result ⊤ Failed) → GathersFeed left now t0 t w ended → Gathers t t' w w'
    → OnOk written (w' ≡ []) → (ended ≡ Err Output → ⊥) → OnOk written (result ≡ ended) → OnErr written (result ≡ Err Output) → Imports left now t0 t' result
imports_so left now t0 t t' w w' ended result (Ok x) g h none other same blamed = subst (λ (r : Result ⊤ ImportRefused). Imports left now t0 t' r) (sym same) (written_so left now t0 t t' w w' ended g h none other)
imports_so left now t0 t t' w w' ended result (Err e) g h none other same blamed = subst (λ (r : Result ⊤ ImportRefused). Imports left now t0 t' r) (sym blamed) (not_written left now t0 t t' w w' ended g h other)

pub causes_so : (i i' o o' o'' : ℕ) (ended result : Result ⊤ ImportRefused) (written : Result ⊤ Failed) → HasCauses i i' o o' ended → HasCause o' o'' written
    → OnOk written (result ≡ ended) → OnErr written (result ≡ Err Output) → HasCauses i i' o o'' result
causes_so i i' o o' o'' ended result (Ok x) h cause same blamed = record {
  later_input = h.later_input;
  later_output = omega (arith, h.later_output, cause.later);
  input_rose = λ e. h.input_rose (subst (λ (r : Result ⊤ ImportRefused). IsErrOf r Input) same e);
  output_rose = λ e. let rose = h.output_rose (subst (λ (r : Result ⊤ ImportRefused). IsErrOf r Output) same e) in omega (arith, rose, cause.later);
}
causes_so i i' o o' o'' ended result (Err f) h cause same blamed = record {
  later_input = h.later_input;
  later_output = omega (arith, h.later_output, cause.later);
  input_rose = λ e. absurd (clash (subst (λ (r : Result ⊤ ImportRefused). IsErrOf r Input) blamed e));
  output_rose = λ e. let rose : Rose o' o'' = cause.failed in omega (arith, rose, h.later_output);
}
  where
    clash : IsErrOf {T = ⊤} {E = ImportRefused} (Err Output) Input → ⊥
    clash e = cc

-- the output failed before
pub failed_so : (left now t0 t : Option (List ℕ)) (w : List ℕ) (ended : Result ⊤ ImportRefused) → ended ≡ Err Output → GathersFeed left now t0 t w ended → Imports left now t0 t ended
failed_so left now t0 t w ended is g =
    subst (λ (r : Result ⊤ ImportRefused). Imports left now t0 t r) (sym is) (subst (λ (r : Result ⊤ ImportRefused). GathersFeed left now t0 t w r) is g)
