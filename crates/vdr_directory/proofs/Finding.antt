-- What opening knows of a medium, by its fronts and its surveys.
use Rattle.std.proofs.Common.{◌≡◌, ◌<◌, ℕ, List, [], ◌∷◌, map, drop, All, Option, Some, None, refl, sym, ◌∙◌, subst}
use Rattle.std.proofs.lemmas.List.Elements.{All-nil, All-cons, All-head, All-tail}
use Rattle.vdr_entry.specs.declared.summary.Summary.{Summary}
use Rattle.vdr_index.specs.declared.extent.Survey.{Survey}
use Rattle.vdr_index.specs.Surveys.{Surveys}
use Rattle.vdr_directory.specs.declared.entry.Entry.{Entry}
use Rattle.vdr_directory.specs.Sequence.{Placed}
use Rattle.vdr_directory.specs.Entries.{Describes, Describe, SurveysUnless, slot_of}
use Rattle.vdr_directory.specs.Opening.{AreBatchesRead, AreKnown, headed_of, slot_bytes}
use Rattle.vdr_directory.specs.Fronts.{HasHeader, HasSurveyUnless, TellFronts, IsSurveyed}
use Rattle.vdr_directory.proofs.Sequencing.{AreSooner}
use Rattle.vdr_directory.proofs.Refusing.{Heads, Head_all, are_headers}

-- its batches are those that opening reads
abbrev pub IsRead : (segment : ℕ) (bytes : List ℕ) → Placed → Type 0
IsRead segment bytes p = AreBatchesRead p.segment.header.summary (drop 64 (slot_bytes segment p.slot bytes)) p.segment.batches

record Knows (segment : ℕ) (bytes : List ℕ) (e : Entry) : Type 0 where
  placed : Placed
  describes : Describes placed e
  heads : Heads segment bytes e (headed_of placed)
  read : IsRead segment bytes placed

knows : (segment : ℕ) (bytes : List ℕ) (e : Entry) → HasHeader segment bytes e → IsSurveyed segment bytes e → Knows segment bytes e
knows segment bytes e h s = go e.summary e.survey h.summary refl s
  where
    go : (o : Option Summary) (v : Option Survey) → o ≡ h.header.summary → e.survey ≡ v → HasSurveyUnless segment e.slot bytes e.first o v → Knows segment bytes e
    go None None o_is v_is k = absurd k
    go None (Some v) o_is v_is k = record {
      placed = record { slot = e.slot; segment = record { header = h.header; batches = k.batches } };
      describes = record {
        slot = refl;
        seq = h.seq;
        first = h.first;
        summary = h.summary;
        survey = subst (λ (x : Option Summary × Option Survey). SurveysUnless x.0 h.header.first k.batches x.1) (λ i. (o_is i, sym v_is i)) (subst (λ (n : ℕ). Surveys n k.batches v) h.first k.tells);
      };
      heads = record { slot = refl; seq = sym h.seq; summary = sym h.summary; front = h.front };
      read = subst (λ (o : Option Summary). AreBatchesRead o (drop 64 (slot_bytes segment e.slot bytes)) k.batches) o_is k.legal;
    }
    go (Some t) v o_is v_is k = record {
      placed = record { slot = e.slot; segment = record { header = h.header; batches = [] } };
      describes = record {
        slot = refl;
        seq = h.seq;
        first = h.first;
        summary = h.summary;
        survey = subst (λ (o : Option Summary). SurveysUnless o h.header.first [] e.survey) o_is (v_is ∙ k);
      };
      heads = record { slot = refl; seq = sym h.seq; summary = sym h.summary; front = h.front };
      read = subst (λ (o : Option Summary). AreBatchesRead o (drop 64 (slot_bytes segment e.slot bytes)) []) o_is refl;
    }

-- The segments of the entries.
pub record Knowing (segment : ℕ) (bytes : List ℕ) (es : List Entry) : Type 0 where
  pub known : List Placed
  pub describe : Describe known es
  pub heads : Head_all segment bytes es (map headed_of known)
  pub read : All (IsRead segment bytes) known

pub knowing : (segment : ℕ) (bytes : List ℕ) (es : List Entry) → All (HasHeader segment bytes) es → All (IsSurveyed segment bytes) es → Knowing segment bytes es
knowing segment bytes [] headers surveys = record { known = []; describe = tt; heads = tt; read = All-nil (IsRead segment bytes) }
knowing segment bytes (e ∷ es) headers surveys =
    let k : Knows segment bytes e = knows segment bytes e (All-head (HasHeader segment bytes) e es headers) (All-head (IsSurveyed segment bytes) e es surveys) in
    let rest : Knowing segment bytes es = knowing segment bytes es (All-tail (HasHeader segment bytes) e es headers) (All-tail (IsSurveyed segment bytes) e es surveys) in
    record { known = k.placed ∷ rest.known; describe = (k.describes, rest.describe); heads = (k.heads, rest.heads); read = All-cons (IsRead segment bytes) k.placed rest.known k.read rest.read }

pub are_known : (segment n : ℕ) (bytes : List ℕ) (es : List Entry) → All (λ j. j < n) (map slot_of es) → TellFronts segment n bytes es → AreSooner es → (k : Knowing segment bytes es) → AreKnown segment n bytes k.known
are_known segment n bytes es within fronts sooner k = record { headers = are_headers segment bytes n es within fronts sooner (map headed_of k.known) k.heads; batches = k.read }
