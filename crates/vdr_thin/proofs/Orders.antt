-- The orders of points and of series.
use Rattle.std.proofs.Common.{◌≡◌, refl, ap, arith, Equal}
use Rattle.std.specs.Cmp.{IsTotalOrder}
use Rattle.std.proofs.lemmas.Cmp.{nat_cmp_total, nat_list_cmp_total, on_total, then_total}
use Rattle.vdr_durability.specs.Sources.{Source}
use Rattle.vdr_durability.proofs.SourceOrder.{one_where}
use Rattle.vdr_thin.specs.declared.kind.Kind.{Kind}
use Rattle.vdr_thin.specs.declared.kind.Kind.TheVariants.{Value, Position, Ship}
use Rattle.vdr_thin.specs.Runs.{Point, point_cmp}
use Rattle.vdr_thin.specs.Tables.{Key, Row, key_cmp, rank, row_cmp}

pub point_total : IsTotalOrder point_cmp
point_total = on_total (λ (p : Point). p.number) nat_cmp_total

pub key_total : IsTotalOrder key_cmp
key_total = then_total (on_total (λ (k : Key). rank k.kind) nat_cmp_total) (on_total (λ (k : Key). k.text) nat_list_cmp_total)

pub row_total : IsTotalOrder row_cmp
row_total = on_total (λ (r : Row). r.key) key_total

same_kind : (k l : Kind) → rank k ≡ rank l → k ≡ l
same_kind Value Value e = refl
same_kind Value Position e = absurd (omega (arith, e))
same_kind Value Ship e = absurd (omega (arith, e))
same_kind Position Value e = absurd (omega (arith, e))
same_kind Position Position e = refl
same_kind Position Ship e = absurd (omega (arith, e))
same_kind Ship Value e = absurd (omega (arith, e))
same_kind Ship Position e = absurd (omega (arith, e))
same_kind Ship Ship e = refl

-- Keys that count as the same are one.
pub same_key : (k l : Key) → key_cmp k l ≡ Equal → k ≡ l
same_key k l e =
    let p = one_where (record { group = rank k.kind; name = k.text }) (record { group = rank l.kind; name = l.text }) e in
    let kind : k.kind ≡ l.kind = same_kind k.kind l.kind (ap (λ (s : Source). s.group) p) in
    let text : k.text ≡ l.text = ap (λ (s : Source). s.name) p in
    λ i. record { kind = kind i; text = text i }
