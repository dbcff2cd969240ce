-- Steps: what the calls on the table of jobs say.
use Rattle.std.specs.Prelude.{◌≡◌, ◌⊎◌, ℕ, ◌<◌, ◌≤◌, Bool, true, false, List, [], ◌∷◌, length, Option, Some, None}
use mathlib.Core.Option.{some}
use lib.ListN.{get_elem?}
use Rattle.atomic_table.specs.Table.{Me}
use Rattle.atomic_table.specs.Seated.{TableId}
use Rattle.rs_pool.specs.declared.views.JobView.{JobView}
use Rattle.rs_pool.specs.declared.workers.WorkerSeat.{WorkerSeat}
use Rattle.rs_pool.specs.Rule.{amount_in, holding, seeing}

-- a claim: the seat has the job, which its view hasn't counted; or nothing has changed
abbrev pub HasClaimed : {T : Type 0} → (T → Type 0) → ℕ → Me (Option T) JobView → Me (Option T) JobView → Option T → Type 0
HasClaimed Fits r m m' (Some t) = Fits t × (amount_in r m.0.counted ≡ 0) × (m' ≡ (holding r m.0, (r, None) ∷ []))
HasClaimed Fits r m m' None = m' ≡ m

-- a look at the word of ends: whether it is at least the number of roles
abbrev pub HasRead : {T : Type 0} → ℕ → Me (Option T) JobView → Me (Option T) JobView → Bool → Type 0
HasRead n m m' true = (n ≤ m'.0.seen) × (m.0.seen ≤ m'.0.seen) × (m' ≡ (seeing m'.0.seen m.0, m.1))
HasRead n m m' false = (m'.0.seen < n) × (m.0.seen ≤ m'.0.seen) × (m' ≡ (seeing m'.0.seen m.0, m.1))

-- a seat between two claims: it holds nothing, and has n shares
abbrev pub SeatRests : {T : Type 0} → ℕ → Me (Option T) JobView → Type 0
SeatRests shares m = (m.0.held ≡ None) × (m.1 ≡ []) × (m.0.shares ≡ shares)

-- the jobs that were taken out, each once, in role order
pub record AreCollected {T : Type 0} (Fits : ℕ → T → Type 0) (Over : ℕ → T → Type 0) (n : ℕ) (ts : List T) : Type 0 where
  pub count : length ts ≡ n
  pub tasks : (r : ℕ) (t : T) → get_elem? ts r ≡ some t → Fits r t
  pub over : ((r : ℕ) (t : T) → get_elem? ts r ≡ some t → Over 1 t) ⊎ ((r : ℕ) × (t : T) × (get_elem? ts r ≡ some t) × Over 16 t)

-- what the slots hold at the start
pub record AreSeated {T : Type 0} (Fits : ℕ → T → Type 0) (n : ℕ) (xs : List (Option T)) : Type 0 where
  pub count : length xs ≡ n
  pub tasks : (r : ℕ) → r < n → (t : T) × (get_elem? xs r ≡ some (Some t)) × Fits r t

-- a worker's seat before its work
abbrev pub IsSeated : {A : Type 0} → TableId → WorkerSeat A → Type 0
IsSeated table c = (c.seat.table_id ≡ table) × SeatRests 1 c.seat.me

-- a worker's seat after the run: it has read that as much was counted as there are roles
abbrev pub HasFinished : {A : Type 0} → TableId → ℕ → WorkerSeat A → Type 0
HasFinished table n c = (c.seat.table_id ≡ table) × SeatRests 1 c.seat.me × (n ≤ c.seat.me.0.seen)
