-- How the media of a folder are opened (this project's profile).
use Rattle.std.specs.Prelude.{ℕ, Option, codes}
use Rattle.vdr_adapters.specs.Files.{FileSeen, IsPlaced, Place}
use Rattle.vdr_adapters.specs.declared.folder.Access.{Access}

-- Each medium is the file of its own name, opened and locked for this access, or nothing is open of it.
pub record AreOpenedFor {F : Type 0} (seen : F → Option FileSeen) (access : Access) (capsule : Place F) (capsule_size : ℕ) (long_term : Place F) (long_term_size : ℕ) : Type 0 where
  pub capsule_is : IsPlaced seen capsule (codes "capsule.vdr") (codes "capsule.left") access capsule_size
  pub long_term_is : IsPlaced seen long_term (codes "longterm.vdr") (codes "longterm.left") access long_term_size

-- Both are opened for the same access.
pub record AreOpened {F : Type 0} (seen : F → Option FileSeen) (capsule : Place F) (capsule_size : ℕ) (long_term : Place F) (long_term_size : ℕ) : Type 0 where
  pub access : Access
  pub opened : AreOpenedFor seen access capsule capsule_size long_term long_term_size
