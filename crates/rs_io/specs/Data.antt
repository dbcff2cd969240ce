-- Public: what contracts see of sources and sinks.
use Rattle.std.specs.Prelude.{ℕ, List}

-- a source over bytes in memory
pub record MemSource_data : Type 0 where
  pub left : List ℕ  -- the bytes still to give
  pub piece : ℕ  -- the most bytes that one call gives
  pub failing : List ℕ  -- the numbers of the calls that fail, from 1
  pub calls : ℕ  -- the calls so far
  pub faults : ℕ  -- the faults so far

-- a sink that keeps bytes in memory
pub record MemSink_data : Type 0 where
  pub written : List ℕ  -- the bytes taken so far
  pub room : ℕ  -- the most bytes that it takes in all
  pub piece : ℕ  -- the most bytes that one call takes
  pub failing : List ℕ  -- the numbers of the calls that fail, from 1
  pub calls : ℕ  -- the calls so far
  pub faults : ℕ  -- the faults so far

-- a reader or writer of std, with the faults so far
pub record Std_data (I : Type 0) : Type 0 where
  pub inner : I
  pub faults : ℕ
