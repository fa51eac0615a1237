-- What has begun, by the entries.
use Rattle.std.proofs.Common.{◌≡◌, ◌∙◌, ℕ, suc, Bool, true, false, [], List, length, set, get_or, unwrap_or, Option, Some, None, IsSome, nat_lt, refl, sym, ap, subst, arith, if◌then◌else◌, is_eq}
use Rattle.std.specs.List.{insert}
use Rattle.std.specs.Map.{lookup, keys_of}
use Rattle.std.specs.BTreeMap.{insert_entry, is_at}
use Rattle.std.specs.List.Sorted.{IsStrictlySortedBy}
use Rattle.std.proofs.lemmas.Bool.{false≢true}
use Rattle.std.proofs.lemmas.Bool.Decides.{nat_tests}
use Rattle.std.proofs.lemmas.Cmp.{eq_by_cmp_equiv, tied_itself}
use Rattle.std.proofs.lemmas.Map.Entries.{lookup-filter-values, option_filter}
use Rattle.std.proofs.lemmas.Map.Keys.{IsDistinct-from_sorted}
use Rattle.std.proofs.lemmas.Option.{slice_get_read}
use Rattle.vdr_ais.specs.Lines.{Key, Line, Part, is_same}
use Rattle.vdr_ais.specs.Pending.{AreEntries, Entries, HasNoFewer, HasPlace, HasRead, Pending, begun, front_in, idle, key_cmp, next_pending, pending_in}
use Rattle.vdr_ais.specs.Places.{IsAt, IsGap}
use Rattle.vdr_ais.proofs.Entries.{at_some, filter_insert, look_at, look_gap, lookup_with, put_at, put_in, sorted_with}
use Rattle.vdr_ais.proofs.Keys.{key_total, same_by}

pub no_entries : AreEntries []
unfolding IsStrictlySortedBy
no_entries = tt

pub still_entries : (k : Key) (v : Pending) (es : Entries) → AreEntries es → AreEntries (insert_entry key_cmp es k v)
still_entries k v es s = sorted_with key_cmp key_total k v es s

pub place_with : (k : Key) (v : Pending) (es : Entries) → HasPlace (insert_entry key_cmp es k v) k
place_with k v es = subst IsSome (sym (lookup_with key_cmp key_total k k v es ∙ ap (λ o. if is_eq o then Some v else lookup (is_at (key_cmp k)) es) (tied_itself key_total k))) refl

pub places_stay : (k : Key) (v : Pending) (es : Entries) (q : Key) → HasPlace es q → HasPlace (insert_entry key_cmp es k v) q
places_stay k v es q has = subst IsSome (sym (lookup_with key_cmp key_total k q v es)) (go (is_eq (key_cmp q k)))
  where
    go : (t : Bool) → IsSome (if t then Some v else lookup (is_at (key_cmp q)) es)
    go true = refl
    go false = has

pub pending_with : (k q : Key) (v : Pending) (es : Entries) → pending_in (insert_entry key_cmp es k v) q ≡ (if is_same q k then v else pending_in es q)
pending_with k q v es = ap (λ o. unwrap_or o idle) (lookup_with key_cmp key_total k q v es) ∙ go (is_eq (key_cmp q k)) ∙ ap (λ t. if t then v else pending_in es q) (same_by q k)
  where
    go : (t : Bool) → unwrap_or (if t then Some v else lookup (is_at (key_cmp q)) es) idle ≡ (if t then v else pending_in es q)
    go true = refl
    go false = refl

-- Where an entry of the key is.
pub place_found : (k : Key) (es : Entries) (i : ℕ) → IsAt (key_cmp k) es i → HasPlace es k
place_found k es i p = let here = at_some es i p.within in subst IsSome (sym (look_at key_cmp key_total k es i here.0 p here.1)) refl

pub pending_found : (k : Key) (es : Entries) (i : ℕ) (here : Key × Pending) → IsAt (key_cmp k) es i → here ≡ get_or es i here → here.1 ≡ pending_in es k
pending_found k es i here p at = sym (ap (λ o. unwrap_or o idle) (look_at key_cmp key_total k es i here p (slice_get_read es (length es) i here refl p.within at)))

pub set_found : (k : Key) (v : Pending) (es : Entries) (i : ℕ) (here : Key × Pending) → IsAt (key_cmp k) es i → here ≡ get_or es i here → set es i (here.0, v) ≡ insert_entry key_cmp es k v
set_found k v es i here p at = sym (put_at key_cmp k v es i here p (slice_get_read es (length es) i here refl p.within at))

-- Where none is.
pub no_place : (k : Key) (es : Entries) (i : ℕ) → AreEntries es → IsGap (key_cmp k) es i → HasPlace es k → ⊥
no_place k es i s p has = false≢true (subst IsSome (look_gap key_cmp key_total k es i s p) has)

pub no_fewer : (es : Entries) → HasNoFewer es es
no_fewer es = record { same = refl; places = λ key has. has }

pub no_fewer_twice : (a b c : Entries) → HasNoFewer a b → HasNoFewer b c → HasNoFewer a c
no_fewer_twice a b c f g = record { same = g.same ∙ f.same; places = λ key has. g.places key (f.places key has) }

pub room_made : (k : Key) (es new : Entries) (i : ℕ) → IsGap (key_cmp k) es i → new ≡ insert es i (k, idle) → AreEntries es → AreEntries new × HasPlace new k × HasNoFewer es new
room_made k es new i p is s =
    let with : new ≡ insert_entry key_cmp es k idle = is ∙ sym (put_in key_cmp k idle es i p) in (
      subst AreEntries (sym with) (still_entries k idle es s),
      subst (λ xs. HasPlace xs k) (sym with) (place_with k idle es),
      record {
        same = ap begun is ∙ filter_insert (λ (e : Key × Pending). nat_lt 0 e.1.parts) (k, idle) refl es i;
        places = λ q has. subst (λ xs. HasPlace xs q) (sym with) (places_stay k idle es q has);
      },
    )

-- What stands there shows alike among those that have begun.
begun_option : (o : Option Pending) (total n : ℕ) → front_in (unwrap_or (option_filter (λ p. nat_lt 0 p.parts) o) idle) total (suc n) ≡ front_in (unwrap_or o idle) total (suc n)
begun_option None total n = refl
begun_option (Some p) total n = grind (arith, nat_tests)

pub begun_same : (es : Entries) → AreEntries es → (q : Key) (total n : ℕ) → front_in (pending_in (begun es) q) total (suc n) ≡ front_in (pending_in es q) total (suc n)
begun_same es s q total n =
    ap (λ o. front_in (unwrap_or o idle) total (suc n)) (lookup-filter-values (eq_by_cmp_equiv key_total) (λ (p : Pending). nat_lt 0 p.parts) q es (IsDistinct-from_sorted key_cmp (keys_of es) s))
    ∙ begun_option (lookup (is_at (key_cmp q)) es) total n

-- So it is the same to have read lines by the one and by the other.
pub read_begun : (back : List Line) (es : Entries) → AreEntries es → HasRead back es → HasRead back (begun es)
read_begun back es s h q total n = h q total n ∙ sym (begun_same es s q total n)

pub read_all : (back : List Line) (es : Entries) → AreEntries es → HasRead back (begun es) → HasRead back es
read_all back es s h q total n = h q total n ∙ begun_same es s q total n

-- What one more part makes of the entries.
pub joined : (k : Key) (p : Part) (es new : Entries) (i : ℕ) (here there : Key × Pending) → IsAt (key_cmp k) es i → here ≡ get_or es i here → there ≡ (here.0, next_pending here.1 p) → new ≡ set es i there
    → new ≡ insert_entry key_cmp es k (next_pending (pending_in es k) p)
joined k p es new i here there at is next set_is =
    set_is ∙ ap (λ (e : Key × Pending). set es i e) next ∙ set_found k (next_pending here.1 p) es i here at is
    ∙ ap (λ (v : Pending). insert_entry key_cmp es k (next_pending v p)) (pending_found k es i here at is)

-- And what they show then.
pub shown_with : (k q : Key) (p : Part) (es new : Entries) → new ≡ insert_entry key_cmp es k (next_pending (pending_in es k) p)
    → pending_in new q ≡ (if is_same q k then next_pending (pending_in es k) p else pending_in es q)
shown_with k q p es new is = ap (λ (xs : Entries). pending_in xs q) is ∙ pending_with k q (next_pending (pending_in es k) p) es
