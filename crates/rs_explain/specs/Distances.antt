-- Steps: how many steps each node inside is from an end, where edges between nodes inside are walked.
use Rattle.std.specs.Prelude.{◌≡◌, ℕ, suc, ◌<◌, ◌≤◌, Bool, true, false, List, [], ◌∷◌, ◌++◌, length, slice_get, slice_index_or, slice_set, Option, Some, None}
use Rattle.rs_graph.specs.Lists.{Among}
use Rattle.rs_graph.specs.Order.{Once}
use Rattle.rs_graph.specs.Removal.{Leads}

-- the flag of the node
abbrev pub flag_at : List Bool → ℕ → Bool
flag_at flags n = slice_index_or flags n false

-- the distance of the node, where it has one
abbrev pub far_at : List (Option ℕ) → ℕ → Option ℕ
far_at far n = slice_index_or far n None

-- the node has a distance of at most so many
abbrev pub IsNear : List (Option ℕ) → ℕ → ℕ → Type 0
IsNear far n most = (d : ℕ) × (far_at far n ≡ Some d) × (d ≤ most)

-- each node inside from which an edge leads to r has a distance of at most one more
abbrev pub IsTold : List (List (List ℕ)) → List Bool → List (Option ℕ) → ℕ → Type 0
IsTold outs inside far r = (n place d : ℕ) → flag_at inside n ≡ true → Leads outs n place r → far_at far r ≡ Some d → IsNear far n (suc d)

-- distances of nodes inside: 0 at the ends, else one more than that of a node to which an edge leads
pub record AreSteps (outs : List (List (List ℕ))) (inside ends : List Bool) (far : List (Option ℕ)) : Type 0 where
  pub size : length far ≡ length outs
  pub lie : (n d : ℕ) → far_at far n ≡ Some d → flag_at inside n ≡ true
  pub begin : (n : ℕ) → flag_at ends n ≡ true → far_at far n ≡ Some 0
  pub only : (n : ℕ) → far_at far n ≡ Some 0 → flag_at ends n ≡ true
  pub tight : (n d : ℕ) → far_at far n ≡ Some (suc d) → (place r : ℕ) × Leads outs n place r × (far_at far r ≡ Some d)

-- all distances, the least that there are
pub record AreDistances (outs : List (List (List ℕ))) (inside ends : List Bool) (far : List (Option ℕ)) : Type 0 where
  pub steps : AreSteps outs inside ends far
  pub told : (r : ℕ) → IsTold outs inside far r

-- the nodes that have a distance, each once and in the order of these
pub record AreQueued (far : List (Option ℕ)) (queue : List ℕ) : Type 0 where
  pub once : Once queue
  pub within : (i n : ℕ) → slice_get queue i ≡ Some n → n < length far
  pub known : (i n : ℕ) → slice_get queue i ≡ Some n → (d : ℕ) × (far_at far n ≡ Some d) × (d ≤ i)
  pub listed : (n d : ℕ) → far_at far n ≡ Some d → Among queue n
  pub order : (i j n m d e : ℕ) → i ≤ j → slice_get queue i ≡ Some n → slice_get queue j ≡ Some m → far_at far n ≡ Some d → far_at far m ≡ Some e → d ≤ e

-- the first so many nodes of the queue were told, and no node is more than a step farther than the next of them
pub record AreSpread (outs : List (List (List ℕ))) (inside ends : List Bool) (far : List (Option ℕ)) (queue : List ℕ) (count : ℕ) : Type 0 where
  pub steps : AreSteps outs inside ends far
  pub queued : AreQueued far queue
  pub told : (i r : ℕ) → i < count → slice_get queue i ≡ Some r → IsTold outs inside far r
  pub near : (n m d e : ℕ) → slice_get queue count ≡ Some n → far_at far n ≡ Some d → far_at far m ≡ Some e → e ≤ suc d

-- the source of an edge is noted with that distance, where it lies inside and has none
pub data IsNoted (inside : List Bool) (n d : ℕ) (far : List (Option ℕ)) (queue : List ℕ) (far' : List (Option ℕ)) (queue' : List ℕ) : Type 0 where
  Outside : flag_at inside n ≡ false → far' ≡ far → queue' ≡ queue → IsNoted inside n d far queue far' queue'
  Known : (e : ℕ) → far_at far n ≡ Some e → far' ≡ far → queue' ≡ queue → IsNoted inside n d far queue far' queue'
  New : flag_at inside n ≡ true → far_at far n ≡ None → far' ≡ slice_set far n (Some d) → queue' ≡ queue ++ n ∷ [] → IsNoted inside n d far queue far' queue'

-- of the first so many nodes the ends have the distance 0, and no others have one
pub record AreEnds (ends : List Bool) (far : List (Option ℕ)) (queue : List ℕ) (count : ℕ) : Type 0 where
  pub size : length far ≡ length ends
  pub once : Once queue
  pub to : (i n : ℕ) → slice_get queue i ≡ Some n → (n < count) × (flag_at ends n ≡ true) × (far_at far n ≡ Some 0)
  pub from : (n : ℕ) → n < count → flag_at ends n ≡ true → Among queue n
  pub only : (n d : ℕ) → far_at far n ≡ Some d → (d ≡ 0) × Among queue n

-- the next of them: where it is an end it has the distance 0
pub data IsBegun (ends : List Bool) (n : ℕ) (far : List (Option ℕ)) (queue : List ℕ) (far' : List (Option ℕ)) (queue' : List ℕ) : Type 0 where
  Passes : flag_at ends n ≡ false → far' ≡ far → queue' ≡ queue → IsBegun ends n far queue far' queue'
  Begins : flag_at ends n ≡ true → far' ≡ slice_set far n (Some 0) → queue' ≡ queue ++ n ∷ [] → IsBegun ends n far queue far' queue'
