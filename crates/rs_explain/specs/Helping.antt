-- Steps: which candidates a greater bound helps, by their numbers among the candidates within that one.
use Rattle.std.specs.Prelude.{◌≡◌, ℕ, Bool, not, ◌&&◌, List, [], ◌∷◌, length, slice_get, slice_index_or, slice_set, Some}
use Rattle.rs_model.specs.Data.{Machine_data}
use Rattle.rs_derive.specs.Moves.{Spot}
use Rattle.rs_graph.specs.Removal.{at}
use Rattle.rs_search.specs.Candidates.{MeetsACut}
use Rattle.rs_explain.specs.Distances.{flag_at}
use Rattle.rs_explain.specs.Walks.{IsHelped}

-- the greater bound helps the spot, and it meets a cut
abbrev pub IsHelpedCut : Machine_data → Machine_data → ℕ → ℕ → Spot → Type 0
IsHelpedCut sub above bound greater p = IsHelped sub above bound greater p × MeetsACut sub above bound p

-- each number of the row gets the one beside it
abbrev pub noted : List ℕ → List ℕ → List ℕ → List ℕ
noted [] beside numbers = numbers
noted (n ∷ row) [] numbers = numbers
noted (n ∷ row) (m ∷ beside) numbers = noted row beside (slice_set numbers n m)

-- what stands at n among these spots stands among those at the number of n
abbrev pub IsNumberOf : List Spot → List Spot → List ℕ → ℕ → Type 0
IsNumberOf spots those numbers n = (x : Spot) → slice_get spots n ≡ Some x → slice_get those (at numbers n) ≡ Some x

-- of each of these spots its number among those
pub record AreNumbersAmong (spots those : List Spot) (numbers : List ℕ) : Type 0 where
  pub size : length numbers ≡ length spots
  pub each : (n : ℕ) → IsNumberOf spots those numbers n

-- the first flag stands at n, and the second doesn't at the number of n
abbrev pub is_on_alone : List Bool → List Bool → List ℕ → ℕ → Bool
is_on_alone ours theirs numbers n = flag_at ours n && not (flag_at theirs (at numbers n))

-- both flags stand at n
abbrev pub is_on_twice : List Bool → List Bool → ℕ → Bool
is_on_twice one other n = flag_at one n && flag_at other n
