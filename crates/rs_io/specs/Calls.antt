-- Public: what a call changes in a source and a sink in memory.
use Rattle.std.specs.Prelude.{ℕ, List, Bool, if◌then◌else◌}
use Rattle.rs_io.specs.Data.{MemSource_data, MemSink_data}
use Rattle.rs_io.specs.Faults.{one_count_more}

-- the faults behind a call
abbrev pub faults_behind : (failed : Bool) → (faults : ℕ) → ℕ
faults_behind failed faults = if failed then one_count_more faults else faults

-- the source behind a call, with the bytes that are left
abbrev pub source_behind : (failed : Bool) → (left : List ℕ) → MemSource_data → MemSource_data
source_behind failed left s = record s { left = left; calls = one_count_more s.calls; faults = faults_behind failed s.faults }

-- the sink behind a call, with the bytes that are written
abbrev pub sink_behind : (failed : Bool) → (written : List ℕ) → MemSink_data → MemSink_data
sink_behind failed written s = record s { written = written; calls = one_count_more s.calls; faults = faults_behind failed s.faults }
