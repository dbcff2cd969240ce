use Rattle.std.proofs.Common.{◌≡◌, List, Bool, true}
use Rattle.rs_model.specs.declared.graph.Role.{Role}
use Rattle.rs_project.specs.Awaited.{HasNoUnreached}
use Rattle.rs_project.specs.Marks.{AreLeft, AreMarked, HaveNodeSizes, count_of_lowered}
use Rattle.rs_project.proofs.surveying.await_all.Given as goal

abbrev pub invariant-loop-by_all : goal.invariant-loop-by_all
invariant-loop-by_all l = record {
  sizes : HaveNodeSizes l.protocol l.awaited l.passing l.ends;
  marked : (role : Role) (involved : List Bool) → AreMarked l.protocol role 0 involved l.fn.awaited l.fn.passing l.fn.ends → AreMarked l.protocol role 0 involved l.awaited l.passing l.ends;
  left : AreLeft 0 l.left.first l.left.end l.awaited;
  rounds : l.by_all ≡ true → (role : Role) → HasNoUnreached l.protocol role l.fn.awaited → HasNoUnreached l.protocol role l.awaited;
}

abbrev pub decreases-loop-by_all : goal.decreases-loop-by_all
decreases-loop-by_all l = count_of_lowered l.awaited
