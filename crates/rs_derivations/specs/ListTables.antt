-- Steps: how the number of a list of acts is found: along the chain that begins at the head of the list's bucket.
use Rattle.std.specs.Prelude.{◌≡◌, ℕ, suc, ◌+◌, ◌*◌, ◌<◌, ◌%◌, List, length, map, slice_get, Some}
use Rattle.rs_model.specs.Chains.{AllAreChained, bucket_on}
use Rattle.rs_model.specs.declared.machines.Act.{Act}
use Rattle.rs_model.specs.declared.machines.Act.TheVariants.{Puts, Takes}
use Rattle.rs_derivations.specs.PendingLists.{number_from}
use Rattle.rs_derivations.specs.declared.lists.TheConstants.{BUCKETS}

-- a number for an act
abbrev pub act_code : Act → ℕ
act_code (Puts peer label sort) = label.0 * 16 + peer.0
act_code (Takes peer label sort) = label.0 * 16 + peer.0

-- the bucket of a list
abbrev pub bucket_of : List Act → ℕ
bucket_of acts = bucket_on BUCKETS 0 (map act_code acts)

-- the same among so many
abbrev pub bucket_among : ℕ → List Act → ℕ
bucket_among buckets acts = bucket_of acts % buckets

-- each list has the number of its place: none of them stands twice
abbrev pub AreNumbered : List (List Act) → Type 0
AreNumbered lists = (p : ℕ) (acts : List Act) → slice_get lists p ≡ Some acts → number_from 1 lists acts ≡ suc p

-- there are buckets, every list is chained by its bucket, and none stands twice
pub record AreFiled (lists : List (List Act)) (heads links : List ℕ) : Type 0 where
  pub some : 0 < length heads
  pub chained : AllAreChained (bucket_among (length heads)) lists heads links
  pub numbered : AreNumbered lists
