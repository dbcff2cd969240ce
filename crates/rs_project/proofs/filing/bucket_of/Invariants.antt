use Rattle.std.proofs.Common.{◌≡◌, ◌<◌, drop}
use Rattle.rs_model.specs.Chains.{bucket_on}
use Rattle.rs_project.specs.declared.filing.TheConstants.{BUCKETS}
use Rattle.rs_project.proofs.filing.bucket_of.Given as goal

abbrev pub invariant-loop-talk : goal.invariant-loop-talk
invariant-loop-talk l = record {
  same : bucket_on BUCKETS l.bucket (drop l.talk-index l.talks) ≡ bucket_on BUCKETS 0 l.talks;
  within : l.bucket < BUCKETS;
}
