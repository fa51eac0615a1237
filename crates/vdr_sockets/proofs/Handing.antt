-- A take that gives no datagram.
use Rattle.std.proofs.Common.{◌≡◌, ℕ, Option, Some, None, subst, sym, refl}
use Rattle.vdr_sockets.specs.Sockets.{Begins, Hands, Receives, SocketSeen}

pub receives_none : (seen : Option SocketSeen) → Receives seen seen None
receives_none None = refl
receives_none (Some socket) = refl

-- Nothing was called.
pub hands_none : {S : Type 0} (seen : S → Option SocketSeen) (socket : Option S) (number : ℕ) → Hands seen socket socket number None
hands_none seen None number = refl
hands_none seen (Some socket) number = (seen socket, refl, receives_none (seen socket))

-- The socket may have been bound.
pub hands_begun : {S : Type 0} (seen : S → Option SocketSeen) (old new : Option S) (number : ℕ) → Begins seen old new number → Hands seen old new number None
hands_begun seen None None number begun = refl
hands_begun seen None (Some socket) number begun = (seen socket, begun, receives_none (seen socket))
hands_begun {S = S} seen (Some socket) new number begun =
    subst (λ (s : Option S). Hands seen (Some socket) s number None) (sym begun) (hands_none seen (Some socket) number)
