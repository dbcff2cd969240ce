-- Public: what contracts see of a call: its words, and what it finds and leaves of its source and its sink.
use Rattle.std.specs.Prelude.{ℕ, List, Option}
use Rattle.rs_io.specs.Faults.{Rose}

-- the source of a call
pub record CallInput (S : Type 0) : Type 1 where
  pub left : Option (List ℕ)  -- what it has left before the call, where it tells that
  pub later : Option (List ℕ)  -- what it has left behind the call
  pub rose : Type 0  -- its faults rose, or can't be counted further
  pub source : S  -- the source before the call
  pub behind : S  -- the source behind the call

-- the sink of a call
pub record CallOutput (K : Type 0) : Type 1 where
  pub written : Option (List ℕ)  -- what it has taken before the call, where it tells that
  pub later : Option (List ℕ)  -- what it has taken behind the call
  pub rose : Type 0  -- its faults rose, or can't be counted further
  pub sink : K  -- the sink before the call
  pub behind : K  -- the sink behind the call

-- a call
pub record Call (S K : Type 0) : Type 1 where
  pub words : List (List ℕ)
  pub input : CallInput S
  pub output : CallOutput K

-- a source before and behind a call, by what its trait tells: the bytes left, the faults, and that their count is at its last value
abbrev pub input_of : {S : Type 0} → (left : S → Option (List ℕ)) (faults : S → ℕ) (last : S → Type 0) (source behind : S) → CallInput S
input_of left faults last source behind = record {
  left = left source;
  later = left behind;
  rose = Rose (faults source) (faults behind) (last behind);
  source = source;
  behind = behind;
}

-- a sink before and behind a call, by what its trait tells: the bytes taken, the faults, and that their count is at its last value
abbrev pub output_of : {K : Type 0} → (written : K → Option (List ℕ)) (faults : K → ℕ) (last : K → Type 0) (sink behind : K) → CallOutput K
output_of written faults last sink behind = record {
  written = written sink;
  later = written behind;
  rose = Rose (faults sink) (faults behind) (last behind);
  sink = sink;
  behind = behind;
}

-- the call with these words
abbrev pub call_of : {S K : Type 0} → List (List ℕ) → CallInput S → CallOutput K → Call S K
call_of words input output = record { words = words; input = input; output = output }
