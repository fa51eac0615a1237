-- What is told of evidence.
use Rattle.std.proofs.Common.{◌≡◌, ◌+◌, ◌-◌, ◌^◌, ℕ, List, [], ◌∷◌, ◌++◌, min, Option, None, Some, IfSome, Err, Result, refl, ap, ◌∙◌, sym, subst, append-nil, codes}
use Rattle.std.proofs.KnownBytes.{Consumes-nil}
use Rattle.std.specs.Io.KnownBytes.{Appends}
use Rattle.std.specs.List.{fold}
use Rattle.sha2.specs.Sha256.{sha256}
use Rattle.vdr_outside.specs.Writes.{AppendsFront}
use Rattle.vdr_terms.specs.Records.{Record}
use Rattle.vdr_evidence.specs.Files.{Heading, evidence_bytes, heading_bytes, one_more}
use Rattle.vdr_verify.specs.Accounts.{account_of, account_with, no_account}
use Rattle.vdr_verify.specs.Closings.{IsBehindMark}
use Rattle.vdr_verify.specs.Heads.{IsHeadOf}
use Rattle.vdr_verify.specs.Legal.{AreNext, IsHeading}
use Rattle.vdr_verify.specs.Lists.{HasListed, IsBehindRecords}
use Rattle.vdr_verify.specs.Standing.{IsBehind, Refuses}
use Rattle.vdr_verify.specs.Texts.{digest_line, evidence_text, heading_lines, record_lines}
use Rattle.vdr_verify.specs.Verifies.{IfEvidence, Tells, Verifies}
use Rattle.vdr_verify.specs.Reading.{HasRead}
use Rattle.vdr_verify.specs.declared.account.Account.{Account}
use Rattle.vdr_verify.specs.declared.heading.Head.{Head}
use Rattle.vdr_verify.specs.declared.query.Asked.{Asked}
use Rattle.vdr_verify.specs.declared.reader.Reader.{Reader}
use Rattle.vdr_verify.specs.declared.records.Listed.{Listed}
use Rattle.vdr_verify.specs.declared.refused.VerifyRefused.{VerifyRefused}
use Rattle.vdr_verify.specs.declared.refused.VerifyRefused.TheVariants.{Illegal, Input, NoMemory, Output}

-- ---- the lines

pub four : (t a b c d : List ℕ) → t ++ a ++ b ++ c ++ d ≡ t ++ (a ++ b ++ c ++ d)
four [] a b c d = refl
four (x ∷ t) a b c d = ap (λ (l : List ℕ). x ∷ l) (four t a b c d)

pub nine : (t a b c d e f g h i : List ℕ) → t ++ a ++ b ++ c ++ d ++ e ++ f ++ g ++ h ++ i ≡ t ++ (a ++ b ++ c ++ d ++ e ++ f ++ g ++ h ++ i)
nine [] a b c d e f g h i = refl
nine (x ∷ t) a b c d e f g h i = ap (λ (l : List ℕ). x ∷ l) (nine t a b c d e f g h i)

-- ---- from one step to the next

pub begun : (first : Option (List ℕ)) (reader : Reader) → HasRead reader [] → IsBehind first first reader []
begun first reader is = record { consumed = Consumes-nil first; held = is }

-- what a step refused is refused
pub passes_out : {A T : Type 0} (first now : Option (List ℕ)) (items : T → List ℕ) (F : Result A VerifyRefused → Type 0) (r : Result A VerifyRefused) (out : Result T VerifyRefused) (e : VerifyRefused) → r ≡ Err e → out ≡ Err e → F r
    → (F (Err e) → Refuses first e) → Tells items first now out
passes_out {A} {T} first now items F r out e was is given told =
    subst (λ (o : Result T VerifyRefused). Tells items first now o) (sym is) (told (subst (λ (o : Result A VerifyRefused). F o) was given))

pub refused_out : {A T : Type 0} (G : Result T VerifyRefused → Type 0) (F : Result A VerifyRefused → Type 0) (r : Result A VerifyRefused) (out : Result T VerifyRefused) (e : VerifyRefused) → r ≡ Err e → out ≡ Err e → F r
    → (F (Err e) → G (Err e)) → G out
refused_out {A} {T} G F r out e was is given told = subst G (sym is) (told (subst F was given))

pub before_records : (first left : Option (List ℕ)) (reader : Reader) (q : Asked) (h : Heading) → IsHeading h q → IsBehind first left reader (heading_bytes h) → IsBehindRecords first left reader q None h []
before_records first left reader q h is behind = record {
  holds = record { heading = is; legal = tt };
  behind = subst (λ (l : List ℕ). IsBehind first left reader l) (sym (append-nil (heading_bytes h))) behind;
  spot_is = refl;
}

counted_so : (a : Account) (n : ℕ) (records : List Record) → a.records ≡ n → (fold account_with a records).records ≡ fold one_more n records
counted_so a n [] e = e
counted_so a n (r ∷ records) e = counted_so (account_with a r) (one_more n r) records (ap (λ (m : ℕ). min (m + 1) (2 ^ 64 - 1)) e)

pub before_number : (first left : Option (List ℕ)) (reader : Reader) (q : Asked) (h : Heading) (listed : Listed) (is : HasListed first left reader q h listed) → IsBehindMark first left reader q h is.records listed.account.records listed.end
before_number first left reader q h listed is = record {
  holds = is.holds;
  behind = is.behind;
  number_is = ap (λ (a : Account). a.records) is.account_is ∙ counted_so no_account 0 is.records refl;
  offset_is = is.end_is;
}

-- ---- the text

pub told_text : (head : Head) (h : Heading) (account : Account) (records : List Record) (digest bytes text : List ℕ) → IsHeadOf head h → account ≡ account_of records → digest ≡ sha256 bytes
    → text ≡ heading_lines head.digest head.medium head.incident head.label.items head.query.items ++ record_lines account ++ digest_line (codes "sha256 ") digest → text ≡ evidence_text bytes h records
told_text head h account records digest bytes text is counts hash e =
    e ∙ (λ i. heading_lines (is.digest_is i) (is.medium_is i) (is.incident_is i) (is.label_is i) (is.query_is i) ++ record_lines (counts i) ++ digest_line (codes "sha256 ") (hash i))

pub told : (first : Option (List ℕ)) (text : List ℕ) (h : Heading) (q : Asked) (records : List Record) → IsHeading h q → AreNext q [] records → IfSome first (λ bytes. bytes ≡ evidence_bytes (heading_bytes h) records)
    → text ≡ evidence_text (evidence_bytes (heading_bytes h) records) h records → IfEvidence first (λ other. text ≡ other)
told None text h q records heading legal is e = tt
told (Some bytes) text h q records heading legal is e = record {
  heading = h;
  records = records;
  is = record { query = q; heading = heading; legal = legal; spelled = is };
  told = e ∙ ap (λ (l : List ℕ). evidence_text l h records) (sym is);
}

-- ---- what is printed

pub if_evidence : (first : Option (List ℕ)) (P Q : List ℕ → Type 0) → ((text : List ℕ) → P text → Q text) → IfEvidence first P → IfEvidence first Q
if_evidence None P Q f is = tt
if_evidence (Some bytes) P Q f is = record { heading = is.heading; records = is.records; is = is.is; told = f (evidence_text bytes is.heading is.records) is.told }

pub printed : (first old new : Option (List ℕ)) (text : List ℕ) → Appends old new text → IfEvidence first (λ other. text ≡ other) → IfEvidence first (Appends old new)
printed first old new text wrote is = if_evidence first (λ other. text ≡ other) (Appends old new) (λ other same. subst (λ (l : List ℕ). Appends old new l) same wrote) is

pub printed_front : (first old new : Option (List ℕ)) (text : List ℕ) → AppendsFront old new text → IfEvidence first (λ other. text ≡ other) → IfEvidence first (AppendsFront old new)
printed_front first old new text wrote is = if_evidence first (λ other. text ≡ other) (AppendsFront old new) (λ other same. subst (λ (l : List ℕ). AppendsFront old new l) same wrote) is

pub refused_so : (left now taken taken' : Option (List ℕ)) (refused : VerifyRefused) → Refuses left refused → Verifies left now taken taken' (Err refused)
refused_so left now taken taken' Input is = tt
refused_so left now taken taken' NoMemory is = tt
refused_so left now taken taken' Output is = absurd is
refused_so left now taken taken' (Illegal part offset) is = is
