-- Steps: how the place of a name is found: along the chain of places that begins at the head of the name's bucket.
use Rattle.std.specs.Prelude.{◌≡◌, ℕ, ◌+◌, ◌-◌, ◌*◌, ◌/◌, ◌%◌, ◌^◌, ◌<◌, List, length, slice_index, nat_lt, ◌==◌, if◌then◌else◌}
use Rattle.rs_model.specs.Chains.{AreChained}
use Rattle.rs_text.specs.declared.tables.TheConstants.{BUCKETS, SPREAD}
use Rattle.rs_text.specs.Eights.{half_at, word_at}

-- the word of a name: its last eight bytes. Of fewer than eight the first and the last four, and of fewer than four the
-- first, the middle and the last one
abbrev pub last_word : List ℕ → ℕ
last_word name =
    if length name == 0 then 0
    else if nat_lt (length name) 4 then (slice_index name 0 * 256 + slice_index name (length name / 2)) * 256 + slice_index name (length name - 1)
    else if nat_lt (length name) 8 then half_at name 0 * 2 ^ 32 + half_at name (length name - 4)
    else word_at name (length name - 8)

-- the bucket of a name: the top eight bits of a product of its word
abbrev pub bucket_of : List ℕ → ℕ
bucket_of name = last_word name * SPREAD % 2 ^ 64 / 2 ^ 56

-- every name has to be found
abbrev pub IsAnyName : List ℕ → Type 0
IsAnyName name = Unit {0}

-- there are so many buckets, and every name is chained by its bucket
pub record AreFiled (names : List (List ℕ)) (heads links : List ℕ) : Type 0 where
  pub buckets : length heads ≡ BUCKETS
  pub chained : AreChained bucket_of IsAnyName names heads links

-- the names are filed, where there are buckets
abbrev pub AreFiledIn : List ℕ → List (List ℕ) → List ℕ → Type 0
AreFiledIn heads names links = 0 < length heads → AreFiled names heads links
