use Rattle.std.proofs.Common.{arith, ◌≡◌, ◌≤◌, ◌∙◌, ℕ, true, false, pos, ◌+ℤ◌, ap, subst, zero-add, w64, ℤ, to_z}
use Rattle.std.proofs.lemmas.Int.{to_z_pos}
use Rattle.std.specs.Prelude.{unsigned_abs}
use Rattle.jiff.proofs.SpanFacts.{signed_arith, date_add-days, can_add-days}
use Rattle.jiff.specs.Words.{epoch_day, IsEpochDay, IsYmd, IsOnly}
use Rattle.jiff_core.specs.Calendar.{days_from_civil}
use Rattle.jiff_core.specs.declared.civil.date.Date.{Date}
use Rattle.jiff_core.specs.declared.span.Span.{Span}
use Rattle.jiff_core.specs.declared.unit.Unit.TheVariants.{Day}
use Rattle.jiff_core.proofs.StandardFacts.{known_days}
use Rattle.vdr_entry.proofs.utc.date_of.Goals as goal

start_day : (d : Date) → IsYmd (pos 1970) (pos 1) (pos 1) d → epoch_day d ≡ pos 0
start_day d is =
    let month : d.month ≡ 1 = ap (λ (z : ℤ). unsigned_abs z) is.1 in
    let day : d.day ≡ 1 = ap (λ (z : ℤ). unsigned_abs z) is.2 in
    ap (λ (z : ℤ). days_from_civil z d.month d.day) is.0 ∙ ap (λ (k : ℕ). days_from_civil (pos 1970) k d.day) month
    ∙ ap (λ (k : ℕ). days_from_civil (pos 1970) 1 k) day ∙ known_days.0

only_days : (n : ℕ) (s : Span) → n ≤ 2_932_896 → IsOnly Day (to_z w64 n) s → IsOnly Day (pos n) s
only_days n s few only = subst (λ (z : ℤ). IsOnly Day z s) (to_z_pos w64 n (omega (arith, few))) only

reached : (d : Date) (n : ℕ) → epoch_day d ≡ pos 0 → n ≤ 2_932_896 → IsEpochDay (epoch_day d +ℤ pos n)
reached d n zero_is few = (omega (arith, signed_arith, zero_is), omega (arith, signed_arith, zero_is, few))

pub unreachable-requires : goal.unreachable-requires
unreachable-requires c =
    let start : epoch_day c.date.result ≡ pos 0 = start_day c.date.result c.date.ensures in
    let only : IsOnly Day (pos c.args.days) c.days.result = only_days c.args.days c.days.result c.requires c.days.ensures in
    let can = can_add-days c.date.result (pos c.args.days) c.days.result only in
    let wrong : false ≡ true = c.in_default.ensures.succeeds.1 (can.1 (reached c.date.result c.args.days start c.requires)) in
    cc

pub returns : goal.returns
returns c =
    let start : epoch_day c.date.result ≡ pos 0 = start_day c.date.result c.date.ensures in
    let only : IsOnly Day (pos c.args.days) c.days.result = only_days c.args.days c.days.result c.requires c.days.ensures in
    c.in-Ok.ensures.value ∙ date_add-days c.date.result (pos c.args.days) c.days.result only ∙ ap (λ (z : ℤ). z +ℤ pos c.args.days) start ∙ ap (λ (k : ℕ). pos k) (zero-add c.args.days)
