-- Calls on a file, one after another, and the place of a file that was locked.
use Rattle.std.proofs.Common.{◌≡◌, ℕ, List, [], ◌∷◌, ◌++◌, Option, Some, None, subst, sym, ap, refl}
use Rattle.vdr_adapters.specs.Files.{Call, FileSeen, IsFile, IsPlaced, Makes, open_for, place_of, placed}
use Rattle.vdr_adapters.specs.Files.Call.{Length, Lock}
use Rattle.vdr_adapters.specs.declared.folder.Access.{Access}
use Rattle.vdr_adapters.specs.declared.folder.Access.TheVariants.{Full, Reading}

pub two_calls : (s0 s1 s2 : Option FileSeen) (it : FileSeen) (a b : Call) → IsFile s0 it → Makes s0 s1 (a ∷ []) → Makes s1 s2 (b ∷ [])
    → IsFile s2 (record it { calls = (it.calls ++ a ∷ []) ++ b ∷ [] })
two_calls None s1 s2 it a b is first second =
    let none : s2 ≡ None = subst (λ (s : Option FileSeen). Makes s s2 (b ∷ [])) first second in
    subst (λ (s : Option FileSeen). IsFile s (record it { calls = (it.calls ++ a ∷ []) ++ b ∷ [] })) (sym none) tt
two_calls (Some file) s1 s2 it a b is first second =
    let some : s2 ≡ Some (record file { calls = (file.calls ++ a ∷ []) ++ b ∷ [] }) = subst (λ (s : Option FileSeen). Makes s s2 (b ∷ [])) first second in
    subst (λ (s : Option FileSeen). IsFile s (record it { calls = (it.calls ++ a ∷ []) ++ b ∷ [] })) (sym some)
    (ap (λ (f : FileSeen). record f { calls = (f.calls ++ a ∷ []) ++ b ∷ [] }) is)

pub is_placed : {F : Type 0} (seen : F → Option FileSeen) (file : F) (name mark : List ℕ) (access : Access) (size : ℕ)
    → IsFile (seen file) (record { name = name; mark = mark; access = access; calls = Length size ∷ Lock access ∷ [] }) → IsPlaced seen (placed file access) name mark access size
is_placed seen file name mark Full size is = (refl, is)
is_placed seen file name mark Reading size is = (refl, is)

pub place_is : {F : Type 0} (file : F) (access : Access) → place_of (open_for access) (Some file) ≡ placed file access
place_is file Full = refl
place_is file Reading = refl
