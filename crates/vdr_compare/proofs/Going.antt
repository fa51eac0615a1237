-- Places that were gone over, and what is left of them.
use Rattle.std.proofs.Common.{◌≡◌, ◌++◌, ℕ, List, [], ◌∷◌, Option, None, Result, Ok, Err, refl, sym, ap, ◌∙◌, subst, append_assoc, append-nil}
use Rattle.std.specs.Io.KnownBytes.{Appends}
use Rattle.std.proofs.KnownBytes.{Appends-nil, Appends-trans}
use Rattle.vdr_outside.specs.Writes.{AppendsFront}
use Rattle.vdr_outside.proofs.Known.{front-more}
use Rattle.vdr_compare.specs.declared.difference.Verdict.{Verdict}
use Rattle.vdr_compare.specs.declared.comparing.CompareRefused.{CompareRefused}
use Rattle.vdr_compare.specs.declared.standing.Standing.{Standing}
use Rattle.vdr_compare.specs.declared.standing.Windows.{Windows}
use Rattle.vdr_compare.specs.declared.tally.Tally.{Tally}
use Rattle.vdr_compare.specs.Comparisons.{Compares, comparison_text}
use Rattle.vdr_compare.specs.Conditions.{Condition, condition_text, first_verdict}
use Rattle.vdr_compare.specs.Differences.{differences, joined, lines_of, same_line, same_places}
use Rattle.vdr_compare.specs.Sides.{AreAhead, GoesTo, SideState}
use Rattle.vdr_compare.specs.Tallies.{Tallies, TellsLeft, left_text, left_verdict, tally_with, text_at}
use Rattle.vdr_compare.proofs.Telling.{text_step, verdict_step}

-- A front of the first piece of a text, and of the last.
pub first_front : (a b : Option (List ℕ)) (piece rest whole : List ℕ) → whole ≡ piece ++ rest → AppendsFront a b piece → AppendsFront a b whole
first_front a b piece rest whole is f = front-more a a b [] piece rest whole is (Appends-nil a) f

pub last_front : (a b c : Option (List ℕ)) (before piece whole : List ℕ) → whole ≡ before ++ piece → Appends a b before → AppendsFront b c piece → AppendsFront a c whole
last_front a b c before piece whole is p f = front-more a b c before piece [] whole (is ∙ ap (λ (l : List ℕ). before ++ l) (sym (append-nil piece))) p f

pub record IsGoneOver (b0 b1 : List ℕ) (capsule longterm : SideState) (was now : Tally) (ahead : List Standing) (old new : Option (List ℕ)) : Type 0 where
  pub rest : List Standing
  pub are_ahead : AreAhead b0 b1 capsule longterm rest
  pub text : List ℕ
  pub printed : Appends old new text
  pub is : left_text was ahead ≡ text ++ left_text now rest
  pub verdict_is : left_verdict was ahead ≡ left_verdict now rest

pub gone_none : (b0 b1 : List ℕ) (c l : SideState) (t : Tally) (ahead : List Standing) (out : Option (List ℕ)) → AreAhead b0 b1 c l ahead → IsGoneOver b0 b1 c l t t ahead out out
gone_none b0 b1 c l t ahead out a = record { rest = ahead; are_ahead = a; text = []; printed = Appends-nil out; is = refl; verdict_is = refl }

module _ (b0 b1 : List ℕ) (c l d k : SideState) (was now : Tally) (ahead : List Standing) (old new : Option (List ℕ)) (g : IsGoneOver b0 b1 c l was now ahead old new) where
  pub front_here : AppendsFront old new (left_text was ahead)
  front_here = (g.text, left_text now g.rest, g.is, g.printed)

  module _ (s : Standing) (more : List Standing) (next : g.rest ≡ s ∷ more) where
    here : left_text was ahead ≡ g.text ++ (text_at now s ++ left_text (tally_with now s) more)
    here = g.is ∙ ap (λ (l : List ℕ). g.text ++ l) (ap (left_text now) next ∙ text_step now s more)

    pub front_next : (out : Option (List ℕ)) → AppendsFront new out (text_at now s) → AppendsFront old out (left_text was ahead)
    front_next out f = front-more old new out g.text (text_at now s) (left_text (tally_with now s) more) (left_text was ahead) here g.printed f

    pub gone_next : (out : Option (List ℕ)) (then : Tally) → then ≡ tally_with now s → Appends new out (text_at now s) → AreAhead b0 b1 d k more → IsGoneOver b0 b1 d k was then ahead old out
    gone_next out then is_next p a = record {
      rest = more;
      are_ahead = a;
      text = g.text ++ text_at now s;
      printed = Appends-trans old new out g.text (text_at now s) g.printed p;
      is = here ∙ ap (λ (t : Tally). g.text ++ (text_at now s ++ left_text t more)) (sym is_next) ∙ sym (append_assoc g.text (text_at now s) (left_text then more));
      verdict_is = g.verdict_is ∙ ap (left_verdict now) next ∙ verdict_step now s more ∙ ap (λ (t : Tally). left_verdict t more) (sym is_next);
    }

  pub gone_all : {E : Type 0} → g.rest ≡ [] → Tallies {E = E} was ahead old new (Ok now)
  gone_all none = record {
    front = front_here;
    done = (g.text, g.printed, g.is ∙ ap (λ (r : List Standing). g.text ++ left_text now r) none, g.verdict_is ∙ ap (left_verdict now) none);
  }

-- A step, where the bytes of the media are named otherwise.
pub step_on : (b0 b1 d0 d1 : List ℕ) (c l d k : SideState) (o p : Option Standing) → d0 ≡ b0 → d1 ≡ b1 → o ≡ p
    → ((ahead : List Standing) → AreAhead d0 d1 c l ahead → GoesTo d0 d1 o d k ahead) → (ahead : List Standing) → AreAhead b0 b1 c l ahead → GoesTo b0 b1 p d k ahead
step_on b0 b1 d0 d1 c l d k o p first second is step =
    subst (λ (x : Option Standing). (ahead : List Standing) → AreAhead b0 b1 c l ahead → GoesTo b0 b1 x d k ahead) is
    (subst (λ (x : List ℕ). (ahead : List Standing) → AreAhead x b1 c l ahead → GoesTo x b1 o d k ahead) first
    (subst (λ (x : List ℕ). (ahead : List Standing) → AreAhead d0 x c l ahead → GoesTo d0 x o d k ahead) second step))

-- How a comparison ends that failed.
pub tallies_failed : {E : Type 0} (was : Tally) (ahead : List Standing) (old new : Option (List ℕ)) (r : Result Tally E) (e : E) → r ≡ Err e → AppendsFront old new (left_text was ahead) → Tallies was ahead old new r
tallies_failed {E} was ahead old new r e is front = subst (λ (x : Result Tally E). Tallies was ahead old new x) (sym is) (record { front = front; done = tt })

pub tells_failed : {E : Type 0} (t : Tally) (ahead : List Standing) (old new : Option (List ℕ)) (r : Result Verdict E) (e : E) → r ≡ Err e → AppendsFront old new (left_text t ahead) → TellsLeft t ahead old new r
tells_failed {E} t ahead old new r e is front = subst (λ (x : Result Verdict E). TellsLeft t ahead old new x) (sym is) front

pub compares_failed : (k : Condition) (w : Windows) (places : List Standing) (old new : Option (List ℕ)) (r : Result Verdict CompareRefused) (e : CompareRefused) → r ≡ Err e
    → AppendsFront old new (comparison_text k w places) → Compares k w places old new r
compares_failed k w places old new r e is front = subst (λ (x : Result Verdict CompareRefused). Compares k w places old new x) (sym is) front

pub nothing_printed : (out : Option (List ℕ)) (whole : List ℕ) → AppendsFront out out whole
nothing_printed out whole = ([], whole, refl, Appends-nil out)

-- Behind what is told before the places.
abbrev pub tally_before : Condition → Windows → Tally
tally_before k w = record { windows = w; waiting = None; same = None; verdict = first_verdict k }

pub compares_behind : (k : Condition) (w : Windows) (places : List Standing) (t : Tally) (old mid new : Option (List ℕ)) (r : Result Verdict CompareRefused)
    → t ≡ tally_before k w → Appends old mid (condition_text k) → TellsLeft t places mid new r → Compares k w places old new r
compares_behind k w places t old mid new r is printed tells =
    by r (subst (λ (x : Tally). TellsLeft x places mid new r) is tells)
  where
    by : (r : Result Verdict CompareRefused) → TellsLeft (tally_before k w) places mid new r → Compares k w places old new r
    by (Ok verdict) x = (Appends-trans old mid new (condition_text k) (left_text (tally_before k w) places) printed x.0, x.1)
    by (Err why) x = last_front old mid new (condition_text k) (left_text (tally_before k w) places) (comparison_text k w places) refl printed x

-- The same where the bytes of the media are named otherwise.
pub ahead_on : (b0 b1 d0 d1 : List ℕ) (c l : SideState) (ahead : List Standing) → b0 ≡ d0 → b1 ≡ d1 → AreAhead b0 b1 c l ahead → AreAhead d0 d1 c l ahead
ahead_on b0 b1 d0 d1 c l ahead first second a =
    subst (λ (x : List ℕ). AreAhead d0 x c l ahead) second (subst (λ (x : List ℕ). AreAhead x b1 c l ahead) first a)

pub front_of_condition : (k : Condition) (w : Windows) (places : List Standing) (old new : Option (List ℕ)) → AppendsFront old new (condition_text k) → AppendsFront old new (comparison_text k w places)
front_of_condition k w places old new f =
    first_front old new (condition_text k) (lines_of (joined (differences w places)) ++ same_line (same_places places)) (comparison_text k w places) refl f

pub compares_as : (k l : Condition) (v w : Windows) (places : List Standing) (old new : Option (List ℕ)) (r : Result Verdict CompareRefused) → k ≡ l → v ≡ w → Compares k v places old new r → Compares l w places old new r
compares_as k l v w places old new r same is c = subst (λ (x : Condition). Compares x w places old new r) same (subst (λ (x : Windows). Compares k x places old new r) is c)
