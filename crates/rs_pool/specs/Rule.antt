-- Steps: the rule of the table of jobs: what holds of its words, slots and views between any two steps. It knows of a job two things
-- only: `Fits`, what the job of a role at home is, and `Over`, what the amount that was counted for it says.
use Rattle.std.specs.Prelude.{◌≡◌, ◌≢◌, ◌⊎◌, ℕ, zero, suc, ◌+◌, ◌-◌, ◌<◌, ◌≤◌, ◌==◌, max, if◌then◌else◌, List, [], ◌∷◌, ◌++◌, length, sum_by, slice_index, Option, Some, None}
use Rattle.rs_model.specs.declared.limits.TheConstants.{MOST_ROLES}
use mathlib.Core.Option.{some}
use mathlib.Core.Option as maybe
use lib.ListN.{get_elem?}
use Rattle.atomic_table.specs.Table.{State}
use Rattle.rs_pool.specs.declared.views.Count.{Count}
use Rattle.rs_pool.specs.declared.views.JobView.{JobView}

-- what a view counted for role r
abbrev pub amount_in : ℕ → List Count → ℕ
amount_in r [] = 0
amount_in r (c ∷ cs) = (if r == c.role then c.amount else 0) + amount_in r cs

-- all that a view counted
abbrev pub count_of_view : JobView → ℕ
count_of_view d = sum_by (λ c. c.amount) d.counted

-- the sum over the first n roles
abbrev pub sum_over_roles : (ℕ → ℕ) → ℕ → ℕ
sum_over_roles f zero = 0
sum_over_roles f (suc n) = f n + sum_over_roles f n

-- what is counted for a role: nothing as long as it goes on, 1 where it has ended, and 16 where it has stopped
abbrev pub IsAmount : ℕ → Type 0
IsAmount a = (a ≡ 0) ⊎ ((a ≡ 1) ⊎ (a ≡ 16))

-- what is known of one role's place on the table of jobs: its word, its slot, the view that holds its job, the view that counted it,
-- and the amount that was counted
pub record Facts (T : Type 0) : Type 0 where
  pub word : ℕ
  pub slot : maybe.Option (maybe.Option (Option T))
  pub holder : Option ℕ
  pub counter : ℕ
  pub amount : ℕ

-- the word is 1 where a view holds the job; at home it is 0, and 2 once the role was counted
abbrev pub word_of : Option ℕ → ℕ → ℕ
word_of (Some j) a = 1
word_of None zero = 0
word_of None (suc a) = 2

-- where a job is: one that no view holds is in its slot; one that is held and was counted is held by the view that counted it
pub record JobIsPlaced {T : Type 0} (Fits : T → Type 0) (Over : ℕ → T → Type 0) (f : Facts T) : Type 0 where
  pub word_is : f.word ≡ word_of f.holder f.amount
  pub amount_is : IsAmount f.amount
  pub home : f.holder ≡ None → (t : T) × (f.slot ≡ some (some (Some t))) × Fits t × Over f.amount t
  pub own : (j : ℕ) → f.holder ≡ Some j → f.amount ≢ 0 → f.counter ≡ j

-- each job that is held is held by its holder's view, and by no other; such a view has a share
pub record Held (n : ℕ) (holder : ℕ → Option ℕ) (views : List JobView) : Type 0 where
  pub each : (r j : ℕ) → r < n → holder r ≡ Some j → (d : JobView) × (get_elem? views j ≡ some d) × (d.held ≡ Some r)
  pub only : (j : ℕ) (d : JobView) (r : ℕ) → get_elem? views j ≡ some d → d.held ≡ Some r → (r < n) × (holder r ≡ Some j) × (0 < d.shares)

-- each role that is counted was counted by its counter's view, and by no other
pub record RolesAreCounted (n : ℕ) (counter amount : ℕ → ℕ) (views : List JobView) : Type 0 where
  pub each : (r : ℕ) → r < n → amount r ≢ 0 → (d : JobView) × (get_elem? views (counter r) ≡ some d) × (amount_in r d.counted ≡ amount r)
  pub only : (j : ℕ) (d : JobView) (r : ℕ) → get_elem? views j ≡ some d → amount_in r d.counted ≢ 0 → (r < n) × (counter r ≡ j) × (amount_in r d.counted ≡ amount r)

-- the facts of role r's place
abbrev pub facts : {T : Type 0} → List ℕ → List (maybe.Option (Option T)) → (ℕ → Option ℕ) → (ℕ → ℕ) → (ℕ → ℕ) → ℕ → Facts T
facts words homes holder counter amount r = record { word = slice_index words r; slot = get_elem? homes r; holder = holder r; counter = counter r; amount = amount r }

-- the places of all roles
abbrev pub JobsArePlaced : {T : Type 0} → (ℕ → T → Type 0) → (ℕ → T → Type 0) → ℕ → List ℕ → List (maybe.Option (Option T)) → (ℕ → Option ℕ) → (ℕ → ℕ) → (ℕ → ℕ) → Type 0
JobsArePlaced Fits Over n words homes holder counter amount = (r : ℕ) → r < n → JobIsPlaced (Fits r) Over (facts words homes holder counter amount r)

-- the word of ends is the sum of what was counted, and no view has read a greater number in it
pub record EndsWord (n word : ℕ) (amount : ℕ → ℕ) (views : List JobView) : Type 0 where
  pub roles : word ≡ sum_over_roles amount n
  pub counted : word ≡ sum_by count_of_view views
  pub seen : (j : ℕ) (d : JobView) → get_elem? views j ≡ some d → d.seen ≤ word

-- the rule for n roles: a word and a slot for each role, and the word of ends. All views together have a fixed number of
-- shares, so a view that has them all is the only one that can hold a job
pub record PoolShows {T : Type 0} (Fits : ℕ → T → Type 0) (Over : ℕ → T → Type 0) (n shares : ℕ) (s : State (Option T) JobView) : Type 0 where
  pub holder : ℕ → Option ℕ
  pub counter : ℕ → ℕ
  pub amount : ℕ → ℕ
  pub bounded : n ≤ MOST_ROLES
  pub words_are : length s.words ≡ suc n
  pub homes_are : length s.homes ≡ n
  pub held : Held n holder s.views
  pub counts : RolesAreCounted n counter amount s.views
  pub places : JobsArePlaced Fits Over n s.words s.homes holder counter amount
  pub ends : EndsWord n (slice_index s.words n) amount s.views
  pub shared : sum_by (λ d. d.shares) s.views ≡ shares

-- a view that holds role r's job now
abbrev pub holding : ℕ → JobView → JobView
holding r d = record { held = Some r; counted = d.counted; seen = d.seen; shares = d.shares }

-- the view that has given its job home
abbrev pub view_without_job : JobView → JobView
view_without_job d = record { held = None; counted = d.counted; seen = d.seen; shares = d.shares }

-- the view that has counted role r
abbrev pub counting : ℕ → ℕ → JobView → JobView
counting r a d = record { held = d.held; counted = record { role = r; amount = a } ∷ d.counted; seen = d.seen; shares = d.shares }

-- the view that has read the word of ends
abbrev pub seeing : ℕ → JobView → JobView
seeing k d = record { held = d.held; counted = d.counted; seen = k; shares = d.shares }

-- the view that has given a share to a new view
abbrev pub view_behind_share : JobView → JobView
view_behind_share d = record { held = d.held; counted = d.counted; seen = d.seen; shares = d.shares - 1 }

-- the new view, with its one share
abbrev pub view_with_one_share : JobView → JobView
view_with_one_share d = record { held = None; counted = []; seen = 0; shares = 1 }

-- a view that has taken in what another counted, read and shared
abbrev pub sum_of_views : JobView → JobView → JobView
sum_of_views d e = record { held = d.held; counted = d.counted ++ e.counted; seen = max d.seen e.seen; shares = d.shares + e.shares }

-- the other, of which nothing is left
abbrev pub view_of_nothing : JobView
view_of_nothing = record { held = None; counted = []; seen = 0; shares = 0 }

-- the view at the start, with all shares
abbrev pub view_at_start : ℕ → JobView
view_at_start shares = record { held = None; counted = []; seen = 0; shares = shares }
