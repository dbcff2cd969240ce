-- Steps: what each kind of step on the table of jobs returns.
use Rattle.std.specs.Prelude.{◌≡◌, ◌≢◌, ℕ, ◌≤◌, ◌∷◌, Option, Some}
use Rattle.atomic_table.specs.Table.{Step, Me, rest}
use Rattle.rs_pool.specs.declared.views.JobView.{JobView}
use Rattle.rs_pool.specs.Rule.{amount_in, holding, view_without_job, counting, seeing}

-- a compare_exchange on a role's word: where the word was 0 the seat has that role's job, which its view hasn't counted, and
-- else nothing has changed
abbrev pub ClaimTells : {T : Type 0} → (ℕ → T → Type 0) → Step (Option T) → Me (Option T) JobView → ℕ → Me (Option T) JobView → Type 0
ClaimTells {T} Fits st m found m' =
    (found ≡ 0 → (t : T) × Fits st.word t × (amount_in st.word m.0.counted ≡ 0) × (m' ≡ (holding st.word m.0, (st.word, Some t) ∷ m.1)))
    × (found ≢ 0 → m' ≡ m)

-- a store on a role's word: the job that the seat has goes home
abbrev pub GiveTells : {T : Type 0} → Step (Option T) → Me (Option T) JobView → ℕ → Me (Option T) JobView → Type 0
GiveTells st m stored m' = m' ≡ (view_without_job m.0, rest m.1)

-- a fetch_add on the word of ends: the role of the job that the seat has is counted
abbrev pub CountTells : {T : Type 0} → Step (Option T) → Me (Option T) JobView → ℕ → Me (Option T) JobView → Type 0
CountTells st m found m' = (r : ℕ) → m.0.held ≡ Some r → m' ≡ (counting r st.first m.0, m.1)

-- a load of the word of ends: the number is no less than the one read before
abbrev pub ReadTells : {T : Type 0} → Step (Option T) → Me (Option T) JobView → ℕ → Me (Option T) JobView → Type 0
ReadTells st m found m' = (m.0.seen ≤ found) × (m' ≡ (seeing found m.0, m.1))
