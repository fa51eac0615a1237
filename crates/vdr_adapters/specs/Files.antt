-- The calls on the file of a medium, and which of them a call on the medium makes (this project's profile).
use Rattle.std.specs.Prelude.{◌≡◌, ℕ, Bool, true, false, List, [], ◌∷◌, ◌++◌, Option, Some, None, ⊤}
use Rattle.vdr_adapters.specs.declared.folder.Access.{Access}
use Rattle.vdr_adapters.specs.declared.folder.Access.TheVariants.{Full, Reading}
use Rattle.vdr_adapters.specs.declared.file.State.{State}
use Rattle.vdr_adapters.specs.declared.file.State.TheVariants as states

-- What stands at the name of a medium.
pub data Place (F : Type 0) : Type 0 where
  Missing : Place F
  Shut : Place F  -- there is a file, and it can't be opened or is locked
  Open : (file : F) → Place F
  ReadOnly : (file : F) → Place F

abbrev pub place_by : {F : Type 0} → State → F → Place F
place_by states.Missing file = Missing
place_by states.Shut file = Shut
place_by states.Open file = Open file
place_by states.ReadOnly file = ReadOnly file

-- The place of a medium of this state: a file that is not there is not open.
abbrev pub place_of : {F : Type 0} → State → Option F → Place F
place_of states.Missing None = Missing
place_of states.Shut None = Shut
place_of states.Open None = Shut
place_of states.ReadOnly None = Shut
place_of state (Some file) = place_by state file

pub data Call : Type 0 where
  Length : (n : ℕ) → Call  -- its length was asked for, and is n
  Lock : (access : Access) → Call  -- it was locked, alone or as one of those who read
  Read : (at n : ℕ) → Call  -- n bytes were asked for, from `at` on
  Write : (at : ℕ) (bytes : List ℕ) → Call  -- the bytes were written, from `at` on
  Sync : Call  -- its data was synced
  Leave : Call  -- its mark was left beside it

-- A file as it tells of itself.
pub record FileSeen : Type 0 where
  pub name : List ℕ  -- by which it was opened in its folder
  pub mark : List ℕ  -- the name of the mark that is left beside it
  pub access : Access  -- for which it was opened
  pub calls : List Call  -- that were made on it, the first one first

-- The file tells that it is this one, if it tells anything.
abbrev pub IsFile : Option FileSeen → FileSeen → Type 0
IsFile None it = ⊤
IsFile (Some file) it = file ≡ it

-- These calls were made on the file, and no other, where it tells that. A file that tells nothing never does.
abbrev pub Makes : Option FileSeen → Option FileSeen → List Call → Type 0
Makes None new calls = new ≡ None
Makes (Some old) new calls = new ≡ Some (record old { calls = old.calls ++ calls })

-- The call, and behind one that failed the mark.
abbrev pub or_left : (succeeds : Bool) → Call → List Call
or_left true call = call ∷ []
or_left false call = call ∷ Leave ∷ []

-- The state of a medium whose file is open for this access.
abbrev pub open_for : Access → State
open_for Full = states.Open
open_for Reading = states.ReadOnly

abbrev pub placed : {F : Type 0} → F → Access → Place F
placed file Full = Open file
placed file Reading = ReadOnly file

module _ {F : Type 0} (seen : F → Option FileSeen) where
  -- The place of a medium is the file that was opened for this access by this name, was asked for its length, which is the medium's, and
  -- was locked for the access. Or nothing is open.
  abbrev pub IsPlaced : Place F → (name mark : List ℕ) → (access : Access) → (size : ℕ) → Type 0
  IsPlaced Missing name mark access size = size ≡ 0
  IsPlaced Shut name mark access size = ⊤
  IsPlaced (Open file) name mark access size = (access ≡ Full) × IsFile (seen file) (record { name = name; mark = mark; access = Full; calls = Length size ∷ Lock Full ∷ [] })
  IsPlaced (ReadOnly file) name mark access size = (access ≡ Reading) × IsFile (seen file) (record { name = name; mark = mark; access = Reading; calls = Length size ∷ Lock Reading ∷ [] })

  abbrev pub IsOpenFile : Place F → (F → Type 0) → Type 0
  IsOpenFile Missing P = ⊥
  IsOpenFile Shut P = ⊥
  IsOpenFile (Open file) P = P file
  IsOpenFile (ReadOnly file) P = ⊥

  abbrev pub IsReadFile : Place F → (F → Type 0) → Type 0
  IsReadFile Missing P = ⊥
  IsReadFile Shut P = ⊥
  IsReadFile (Open file) P = ⊥
  IsReadFile (ReadOnly file) P = P file

  -- The place stays, and on its file just these calls were made: on one that is open for all, and on one that is only read.
  abbrev pub MakesAt : (old new : Place F) → (on_open on_read : List Call) → Type 0
  MakesAt Missing new on_open on_read = new ≡ Missing
  MakesAt Shut new on_open on_read = new ≡ Shut
  MakesAt (Open file) new on_open on_read = IsOpenFile new (λ now. Makes (seen file) (seen now) on_open)
  MakesAt (ReadOnly file) new on_open on_read = IsReadFile new (λ now. Makes (seen file) (seen now) on_read)
