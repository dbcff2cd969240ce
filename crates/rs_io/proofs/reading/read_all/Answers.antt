use Rattle.std.proofs.Common.{rules, arith, ◌≡◌, ◌+◌, ◌-◌, ◌≤◌, ◌++◌, length, take}
use Rattle.std.proofs.KnownBytes.{Consumes-trans}
use Rattle.rs_io.proofs.Pieces.{length_more}
use Rattle.rs_io.proofs.reading.read_all.Goals as goal

pub returns-then-count-limit-clause-taken : goal.returns-then-count-limit-clause-taken
returns-then-count-limit-clause-taken g c =
    let count = c.in-Ok-read.count in
    let all = c.loop-count.all.items in
    let bound = c.in-Ok-read.ensures.bound.0 in
    let asked : length c.read.new.into ≤ c.args.limit - c.loop-count.all.len + 1 = search rules in (
      all ++ take count c.read.new.into,
      Consumes-trans _ _ _ _ _ c.loop-count.invariant.2 c.in-Ok-read.ensures.bytes.0,
      omega (arith, asked, bound, length_more all c.read.new.into count bound, c.loop-count.all.ok.0),
    )

pub returns-then-is_err-clause-taken : goal.returns-then-is_err-clause-taken
returns-then-is_err-clause-taken g c =
    let count = c.in-Ok-read.count in
    let all = c.loop-count.all.items in
    let bound = c.in-Ok-read.ensures.bound.0 in (
      all ++ take count c.read.new.into,
      Consumes-trans _ _ _ _ _ c.loop-count.invariant.2 c.in-Ok-read.ensures.bytes.0,
      omega (arith, bound, length_more all c.read.new.into count bound, c.loop-count.all.ok.0),
    )

pub loop-count-preserved : goal.loop-count-preserved
loop-count-preserved g c =
    let count = c.in-Ok-read.count in
    let all = c.loop-count.all.items in
    let items : c.extend_from_slice.new.self.items ≡ all ++ take count c.read.new.into = search rules in (
      search rules,
      search rules,
      rw items (Consumes-trans _ _ _ _ _ c.loop-count.invariant.2 c.in-Ok-read.ensures.bytes.0),
      search rules,
    )
