-- Steps: spots that are numbered in order of first sight, and what they lead to.
use Rattle.std.specs.Prelude.{◌≡◌, ℕ, ◌<◌, ◌≤◌, ◌+◌, ◌^◌, List, [], ◌∷◌, ◌++◌, length, map, slice_get, slice_index_or, Some}
use Rattle.rs_derive.specs.Targets.{target_spot}
use Rattle.rs_derive.specs.Data.{DNode_data}
use Rattle.rs_derive.specs.Derivations.{spot_of}
use Rattle.rs_derive.specs.Moves.{Spot}
use Rattle.rs_derive.specs.Within.{IsPlaceWithin}
use Rattle.rs_derive.specs.declared.targets.EdgeTarget.{EdgeTarget}
use Rattle.rs_graph.specs.Naming.{Adds, AreNamed, IsNamed}
use Rattle.rs_search.specs.Buckets.{bucket_of_spot, codes_of}
pub use Rattle.rs_search.specs.Spots.{SpotTable_data, nexts_of_nodes, ranks_of, spots_of}
use Rattle.rs_search.specs.declared.found.Nexts.{Nexts}
use Rattle.rs_search.specs.declared.found.Nexts.TheVariants.{One, Several}
use Rattle.rs_search.specs.declared.table.Entry.{Entry}
use Rattle.rs_model.specs.Chains.{AllAreChained}

-- the codes that are filed
abbrev pub codes_in : List Entry → List ℕ
codes_in entries = map (λ (e : Entry). e.code) entries

-- the links of the chains
abbrev pub links_of : List Entry → List ℕ
links_of entries = map (λ (e : Entry). e.link) entries

-- each node is found by the code of what it owes, and n have their nexts
pub record IsTable (nodes : List DNode_data) (heads : List ℕ) (entries : List Entry) (known : ℕ) : Type 0 where
  pub within : known ≤ length nodes
  pub coded : codes_in entries ≡ codes_of (spots_of nodes)
  pub some : 0 < length heads
  pub bounded : length heads < 2 ^ 32
  pub chained : AllAreChained (bucket_of_spot (length heads)) (spots_of nodes) heads (links_of entries)

-- n buckets may be made
pub record IsBucketCount (size : ℕ) : Type 0 where
  pub some : 0 < size
  pub bounded : size < 2 ^ 32

-- what is filed of the node goes before the head of its bucket
pub record GoesBefore (heads : List ℕ) (bucket : ℕ) (node : DNode_data) (entry : Entry) : Type 0 where
  pub within : bucket < length heads
  pub its : bucket ≡ bucket_of_spot (length heads) (spot_of node)
  pub link : entry.link ≡ slice_index_or heads bucket 0

-- the node was added, and filed in one of n buckets
pub record IsFiled (nodes new : List DNode_data) (entries entries' : List Entry) (heads : List ℕ) (size : ℕ) (node : DNode_data) (entry : Entry) : Type 0 where
  pub nodes_are : new ≡ nodes ++ node ∷ []
  pub codes : codes_in entries' ≡ codes_in entries ++ entry.code ∷ []
  pub chained : AllAreChained (bucket_of_spot size) (spots_of new) heads (links_of entries')

-- nothing was added
pub record StaysFiled (nodes new : List DNode_data) (heads heads' : List ℕ) (entries entries' : List Entry) : Type 0 where
  pub nodes_stay : new ≡ nodes
  pub heads_stay : heads' ≡ heads
  pub entries_stay : entries' ≡ entries

-- the spot k is there, among no more than the limit, which a number can say
pub record StandsWithin (spots : List Spot) (k limit : ℕ) : Type 0 where
  pub limit_fits : limit + 1 < 2 ^ 32
  pub bounded : length spots ≤ limit
  pub present : k < length spots

-- an act that the target takes out of what the spot k owes is there
abbrev pub IsWithinAt : List Spot → ℕ → EdgeTarget → Type 0
IsWithinAt spots k target = (p : Spot) → slice_get spots k ≡ Some p → IsPlaceWithin (length p.pending) target.change

-- the spot of the target from spot k was named: the table had it, or it is now at the end
abbrev pub AddsAt : List Spot → ℕ → EdgeTarget → List Spot → Type 0
AddsAt old k target new = (p : Spot) → slice_get old k ≡ Some p → Adds old (target_spot p.pending target) new

-- the spot of the target from spot k was named by this number
abbrev pub IsNamedAt : List Spot → ℕ → EdgeTarget → List Spot → ℕ → Type 0
IsNamedAt old k target new n = (p : Spot) → slice_get old k ≡ Some p → IsNamed old (target_spot p.pending target) new n

-- the new row names what the old row names, and then the spots to which the spot k leads
abbrev pub NamesMore : (Spot → List Spot) → List Spot → ℕ → List Spot → List ℕ → List ℕ → Type 0
NamesMore more old k new row row' = (p : Spot) → slice_get old k ≡ Some p → (first named : List Spot) → AreNamed first named old row → AreNamed first (named ++ more p) new row'

-- the numbers of what a spot leads to
abbrev pub numbers_of : Nexts → List ℕ
numbers_of (One n) = n ∷ []
numbers_of (Several row) = row
