-- A machine that waits where its projection sends has no derivation.
use Rattle.std.proofs.Common.{ℕ, List, [], Option, subst}
use Rattle.rs_derive.specs.Data.{Derivation_data}
use Rattle.rs_derive.specs.Derivations.{IsDerivation}
use Rattle.rs_derive.specs.Moves.{Spot, spot, HasMove, Stops, PaysSend, SendsBoth, Guesses, SendsAhead, PaysReceive, ReceivesAhead}
use Rattle.rs_safety.specs.Waiting.{projected_a, waiting_a}

-- at the start A waits, where its projection sends and nothing is owed: there is no move
no_move : (makes : Option ℕ) (results : List Spot) → HasMove waiting_a projected_a (spot 0 [] 0) makes results → ⊥
no_move makes results (Stops sub none above m r) = cc (sub)
no_move makes results (PaysSend q arm place so sub found at serves m r) = cc (sub)
no_move makes results (SendsBoth q arms theirs sub free above m both) = cc (sub)
no_move makes results (Guesses q r arms theirs place z sub free above ne at m rs) = cc (sub)
no_move makes results (SendsAhead q r arms theirs sub free above m rs) = cc (sub)
no_move makes results (PaysReceive q arms place label so arm sub found at of serves m rs) = cc (at)
no_move makes results (ReceivesAhead q r arms theirs sub free above m rs) = cc (above)

pub no_derivation : (d : Derivation_data) → IsDerivation d waiting_a projected_a → ⊥
no_derivation d is =
    let fit = is.each 0 is.first is.stands in
    let P : Spot → Type 0 = λ z. HasMove waiting_a projected_a z fit.makes fit.results in
    no_move fit.makes fit.results (subst P is.starts fit.move)
