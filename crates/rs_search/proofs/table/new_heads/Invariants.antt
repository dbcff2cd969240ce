use Rattle.std.proofs.Common.{◌≡◌, length, take}
use Rattle.rs_search.specs.Buckets.{bucket_of_spot}
use Rattle.rs_model.specs.Chains.{AllAreChained}
use Rattle.rs_search.specs.Table.{codes_in, links_of, spots_of}
use Rattle.rs_search.proofs.table.new_heads.Given as goal

abbrev pub invariant-loop-number : goal.invariant-loop-number
invariant-loop-number l = (codes_in l.entries.items ≡ codes_in l.fn.entries.items) × (length l.heads.items ≡ l.buckets)
    × AllAreChained (bucket_of_spot l.buckets) (take l.number (spots_of l.nodes)) l.heads.items (take l.number (links_of l.entries.items))
