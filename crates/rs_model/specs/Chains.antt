-- Steps: how an item is found again by its bucket: along a chain of places. Each stands in it as one more than it is; 0 ends a chain.
use Rattle.std.specs.Prelude.{◌≡◌, ℕ, suc, ◌+◌, ◌*◌, ◌%◌, ◌≤◌, List, [], ◌∷◌, length, Some, slice_get, slice_index_or}

-- the bucket of numbers, one of so many, where those before lead to bucket `seen`
abbrev pub bucket_on : ℕ → ℕ → List ℕ → ℕ
bucket_on buckets seen [] = seen
bucket_on buckets seen (n ∷ ns) = bucket_on buckets ((seen * 31 + n) % buckets) ns

-- the place stands in the chain that begins there
pub data IsChained (links : List ℕ) : ℕ → ℕ → Type 0 where
  First : (n : ℕ) → IsChained links (suc n) n
  Later : (m next n : ℕ) → slice_get links m ≡ Some next → IsChained links next n → IsChained links (suc m) n

-- the place of each item that has to be found stands in the chain that begins at the head of the item's bucket, and chains fall
pub record AreChained {X : Type 0} (bucket : X → ℕ) (IsSought : X → Type 0) (items : List X) (heads links : List ℕ) : Type 0 where
  pub size : length links ≡ length items
  pub within : (b : ℕ) → slice_index_or heads b 0 ≤ length items
  pub falls : (m next : ℕ) → slice_get links m ≡ Some next → next ≤ m
  pub filed : (n : ℕ) (x : X) → slice_get items n ≡ Some x → IsSought x → IsChained links (slice_index_or heads (bucket x) 0) n

-- the same where all items have to be found
abbrev pub AllAreChained : {X : Type 0} → (bucket : X → ℕ) → List X → List ℕ → List ℕ → Type 0
AllAreChained bucket items heads links = AreChained bucket (λ x. Unit {0}) items heads links
