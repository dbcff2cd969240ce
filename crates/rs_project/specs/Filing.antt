-- Steps: how the number of a front is found again: along the chain of numbers that begins at the head of the front's bucket.
use Rattle.std.specs.Prelude.{◌≡◌, ℕ, suc, ◌<◌, ◌≤◌, false, List, [], ◌∷◌, length, Option, None, Some, slice_get, slice_index_or, slice_set}
use Rattle.rs_model.specs.declared.limits.TheConstants.{MOST_STATES}
use Rattle.rs_model.specs.Chains.{AreChained, bucket_on}
use Rattle.rs_project.specs.Data.{Front_data}
use Rattle.rs_project.specs.declared.filing.Filing.{Filing}
use Rattle.rs_project.specs.declared.filing.Filing.TheVariants.{Lone, Shared}
use Rattle.rs_project.specs.declared.filing.TheConstants.{BUCKETS}

-- the bucket of a front: that of its talks
abbrev pub bucket_of_front : Front_data → ℕ
bucket_of_front front = bucket_on BUCKETS 0 front.talks

-- what a role may meet first where it is this talk alone
abbrev pub lone_front : ℕ → Front_data
lone_front talk = record { talks = talk ∷ []; ends = false }

-- the front isn't that of one talk alone
abbrev pub IsShared : Front_data → Type 0
IsShared front = (talk : ℕ) → front ≡ lone_front talk → ⊥

-- the front isn't that of one talk alone, and this is its bucket
pub record IsInBucket (bucket : ℕ) (front : Front_data) : Type 0 where
  pub is : bucket ≡ bucket_of_front front
  pub within : bucket < BUCKETS
  pub shared : IsShared front

-- the front is filed under this
abbrev pub IsFiledUnder : Filing → Front_data → Type 0
IsFiledUnder (Lone talk) front = front ≡ lone_front talk
IsFiledUnder (Shared bucket) front = IsInBucket bucket front

-- there are n buckets, and each front that isn't that of one talk alone is chained by its bucket
pub record FrontsAreFiled (fronts : List Front_data) (heads links : List ℕ) : Type 0 where
  pub buckets : length heads ≡ BUCKETS
  pub chained : AreChained bucket_of_front IsShared fronts heads links

-- the number of the front of each talk alone is filed at the talk, as one more than it is; 0 if there is none
pub record AreLone (fronts : List Front_data) (numbers : List ℕ) : Type 0 where
  pub right : (talk n : ℕ) → slice_index_or numbers talk 0 ≡ suc n → slice_get fronts n ≡ Some (lone_front talk)
  pub whole : (talk n : ℕ) → slice_get fronts n ≡ Some (lone_front talk) → slice_index_or numbers talk 0 ≡ 0 → ⊥

-- the numbers, with that of the talk where there is one
abbrev pub with_number : Option ℕ → ℕ → List ℕ → List ℕ
with_number None number numbers = numbers
with_number (Some talk) number numbers = slice_set numbers talk number

-- the fronts are filed, and there are at most 1,024
pub record FrontsAreKept (fronts : List Front_data) (heads links numbers : List ℕ) : Type 0 where
  pub filed : FrontsAreFiled fronts heads links
  pub lone : AreLone fronts numbers
  pub bounded : length fronts ≤ MOST_STATES
