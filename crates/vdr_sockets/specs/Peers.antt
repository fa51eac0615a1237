-- What is sent to the peers of a link (this project's profile).
use Rattle.std.specs.Prelude.{◌≡◌, ℕ, List, Option, Some, None, ⊤}
use Rattle.std.specs.Io.KnownBytes.{Appends}
use Rattle.vdr_sockets.specs.declared.client.Client.{Client}

-- All the bytes were sent, in their order, to the peer that asks, or it was hung up on. Nothing is sent where none asks.
abbrev pub SendsAll : {P : Type 0} → (P → Option (List ℕ)) → Option (Client P) → Option (Client P) → List ℕ → Type 0
SendsAll sent None new bytes = new ≡ None
SendsAll sent (Some client) None bytes = ⊤
SendsAll sent (Some client) (Some now) bytes = Appends (sent client.peer) (sent now.peer) bytes
