use Rattle.std.proofs.Common.{rules, arith, ◌+◌, ap, map}
use Rattle.rs_derivations.proofs.Filing.{none_filed}
use Rattle.rs_derivations.proofs.lists.ListTable.new.Goals as goal

pub invariant_of-result : goal.invariant_of-result
invariant_of-result c =
    none_filed _ c.in_ok-heads.heads.items c.new-2.result.items (c.min-buckets.result + 1) (ap (map (λ x. x.now)) c.new.ensures.items) (search (rules, c.in_ok-heads.ensures.items)) (omega arith)
    c.new-2.ensures.items
