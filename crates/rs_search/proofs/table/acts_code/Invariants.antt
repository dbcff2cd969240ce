use Rattle.std.proofs.Common.{◌≡◌, drop}
use Rattle.rs_search.specs.Buckets.{acts_code}
use Rattle.rs_search.proofs.table.acts_code.Given as goal

abbrev pub invariant-loop-act : goal.invariant-loop-act
invariant-loop-act l = acts_code l.code (drop l.act-index l.acts) ≡ acts_code l.before l.acts
