use Rattle.std.proofs.Common.{◌≡◌, ◌<◌, drop, map}
use Rattle.rs_model.specs.Chains.{bucket_on}
use Rattle.rs_derivations.specs.ListTables.{act_code}
use Rattle.rs_derivations.specs.declared.lists.TheConstants.{BUCKETS}
use Rattle.rs_derivations.proofs.lists.bucket_of.Given as goal

abbrev pub invariant-loop-act : goal.invariant-loop-act
invariant-loop-act l = record {
  same : bucket_on BUCKETS l.bucket (map act_code (drop l.act-index l.acts)) ≡ bucket_on BUCKETS 0 (map act_code l.acts);
  within : l.bucket < BUCKETS;
}
