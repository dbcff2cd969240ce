-- Two small machines: where the start survives, and where it doesn't.
use Rattle.std.proofs.Common.{inl, inr, ℕ, List, [], ◌∷◌, refl, subst, None, Option}
use Rattle.rs_derive.specs.Moves.{HasMove, Stops, PaysSend, SendsBoth, Guesses, SendsAhead, PaysReceive, ReceivesAhead, Spot}
use Rattle.rs_search.specs.Candidates.{IsCandidate, Start, start_spot}
use Rattle.rs_search.specs.Examples.{ended_machine, waiting}
use Rattle.rs_search.specs.Survives.{Survives, IsSupported}

pub ends_survive : (bound : ℕ) → Survives ended_machine ended_machine bound (start_spot ended_machine ended_machine)
ends_survive bound = record {
  set = start_spot ended_machine ended_machine ∷ [];
  stand = record {
    candidates = λ p m. elim m [ inl e ↦ subst (λ (z : Spot). IsCandidate ended_machine ended_machine bound z) e Start | inr h ↦ absurd h ];
    each = λ p m. elim m [
      | inl e ↦ subst (λ (z : Spot). IsSupported ended_machine ended_machine bound (start_spot ended_machine ended_machine ∷ []) z) e record {
        results = [];
        move = record { makes = None; move = Stops refl refl refl refl refl; short = λ r h. absurd h };
        all = λ r h. absurd h;
      }
      | inr h ↦ absurd h
    ];
  };
  among = inl refl;
}

no_move : (makes : Option ℕ) (rs : List Spot) → HasMove ended_machine waiting (start_spot ended_machine waiting) makes rs → ⊥
no_move makes rs (Stops st pe gt mk re) = cc
no_move makes rs (PaysSend q arm place so st found g sv mk re) = cc
no_move makes rs (SendsBoth q arms theirs st none gt mk both) = cc
no_move makes rs (Guesses q r arms theirs place b st none gt ne g mk re) = cc
no_move makes rs (SendsAhead q r arms theirs st none gt mk re) = cc
no_move makes rs (PaysReceive q arms place label so arm st found g ch sv mk re) = cc
no_move makes rs (ReceivesAhead q r arms theirs st none gt mk re) = cc

pub stuck_dies : (bound : ℕ) → Survives ended_machine waiting bound (start_spot ended_machine waiting) → ⊥
stuck_dies bound s = let k = s.stand.each (start_spot ended_machine waiting) s.among in no_move k.move.makes k.results k.move.move
