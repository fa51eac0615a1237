-- Sockets as they tell of themselves, and what goes over them (this project's profile).
use Rattle.std.specs.Prelude.{◌≡◌, ℕ, List, [], ◌∷◌, ◌++◌, Option, Some, None, ⊤}
use Rattle.vdr_outside.specs.Takes.{Standing}
use Rattle.vdr_sockets.specs.declared.udp.Came.{Came}
use Rattle.vdr_sockets.specs.declared.udp.Came.TheVariants as came
use Rattle.vdr_outside.specs.declared.port.Taken.{Taken}
use Rattle.vdr_outside.specs.declared.port.Taken.TheVariants.{Datagram, Quiet, Ended, Failed}

-- A socket that receives datagrams.
pub record SocketSeen : Type 0 where
  pub number : ℕ  -- of the UDP port to which it is bound
  pub received : List (List ℕ)  -- what it gave, the first datagram first

-- The socket tells that it is this one, if it tells anything.
abbrev pub IsSocket : Option SocketSeen → SocketSeen → Type 0
IsSocket None it = ⊤
IsSocket (Some socket) it = socket ≡ it

-- The socket gave this datagram, or none, where it tells that. One that tells nothing never does.
abbrev pub Receives : Option SocketSeen → Option SocketSeen → Option (List ℕ) → Type 0
Receives None new given = new ≡ None
Receives (Some old) new None = new ≡ Some old
Receives (Some old) new (Some bytes) = new ≡ Some (record old { received = old.received ++ bytes ∷ [] })

abbrev pub came_as : Came → List ℕ → Option (List ℕ)
came_as came.Datagram into = Some into
came_as came.Nothing into = None
came_as came.Over into = None

-- Where a port stands that tells no datagram.
abbrev pub untold : ℕ → Standing
untold floor = record { left = None; taken = None; floor = floor }

-- What a take gave of a datagram.
abbrev pub given : Taken → List ℕ → Option (List ℕ)
given (Datagram received utc) into = Some into
given Quiet into = None
given Ended into = None
given Failed into = None

module _ {S : Type 0} (seen : S → Option SocketSeen) where
  -- The socket, if there is one, is bound to the port of this number, where it tells that.
  abbrev pub IsBoundTo : Option S → ℕ → Type 0
  IsBoundTo socket number = (s : S) → socket ≡ Some s → (it : SocketSeen) → seen s ≡ Some it → it.number ≡ number

  -- A socket that was bound for this gave nothing before.
  abbrev pub IsBegun : Option S → (begun : Option SocketSeen) → ℕ → Type 0
  IsBegun None begun number = IsSocket begun (record { number = number; received = [] })
  IsBegun (Some socket) begun number = begun ≡ seen socket

  -- It is bound where it wasn't, or can't be.
  abbrev pub Begins : Option S → Option S → ℕ → Type 0
  Begins None None number = ⊤
  Begins None (Some socket) number = IsSocket (seen socket) (record { number = number; received = [] })
  Begins (Some socket) new number = new ≡ Some socket

  -- The one datagram that the socket gave, if any, is what the take gives.
  abbrev pub Hands : (old new : Option S) → (number : ℕ) → Option (List ℕ) → Type 0
  Hands old None number bytes = bytes ≡ None
  Hands old (Some socket) number bytes = (begun : Option SocketSeen) × IsBegun old begun number × Receives begun (seen socket) bytes

-- Where connections are waited for.
pub record ListenerSeen : Type 0 where
  pub address : List ℕ  -- the four octets of the address on which it listens
  pub number : ℕ  -- of its TCP port

abbrev pub IsListener : Option ListenerSeen → ListenerSeen → Type 0
IsListener None it = ⊤
IsListener (Some listener) it = listener ≡ it

-- This host's own address (RFC 1122: 127.0.0.1), which no other host reaches.
abbrev pub loopback : List ℕ
loopback = 127 ∷ 0 ∷ 0 ∷ 1 ∷ []

-- Whatever listens does so on this host's own address, at the port of this number, where it tells that.
abbrev pub ListensAt : {L : Type 0} → (L → Option ListenerSeen) → Option L → ℕ → Type 0
ListensAt {L = L} seen listener number =
    (l : L) → listener ≡ Some l → (it : ListenerSeen) → seen l ≡ Some it → (it.address ≡ loopback) × (it.number ≡ number)
