use Rattle.rs_tool.proofs.Complete.{complete}
use Rattle.rs_tool.proofs.DemoComplete.{complete_demo}
use Rattle.rs_tool.proofs.DemoHeadline.{demos_are_safe_and_never_full}
use Rattle.rs_tool.proofs.ItsSession.{has_its_session}
use Rattle.rs_tool.proofs.Headline.{drawn_runs_are_safe, explained_is_fine, fine_is_safe, improved_is_safe, migrated_is_safe, pipeline_is_safe, runs_are_safe, verified_is_safe}
use Rattle.rs_tool.proofs.Hopeless.{hopeless_is_told}
use Rattle.rs_tool.proofs.calls.command.Goals as goal

pub returns-clause-ends : goal.returns-clause-ends
returns-clause-ends g c = c.carry_out.ensures

pub returns-clause-headline : goal.returns-clause-headline
returns-clause-headline g c = fine_is_safe _ _ c.carry_out.ensures

pub returns-clause-explained : goal.returns-clause-explained
returns-clause-explained g c = explained_is_fine _ _ c.carry_out.ensures

pub returns-clause-hopeless : goal.returns-clause-hopeless
returns-clause-hopeless g c = hopeless_is_told _ _ c.carry_out.ensures

pub returns-clause-verified : goal.returns-clause-verified
returns-clause-verified g c = verified_is_safe _ _ c.carry_out.ensures

pub returns-clause-migrated : goal.returns-clause-migrated
returns-clause-migrated g c = migrated_is_safe _ _ c.carry_out.ensures

pub returns-clause-improved : goal.returns-clause-improved
returns-clause-improved g c = improved_is_safe _ _ c.carry_out.ensures

pub returns-clause-run : goal.returns-clause-run
returns-clause-run g c = runs_are_safe _ _ c.carry_out.ensures

pub returns-clause-drawn : goal.returns-clause-drawn
returns-clause-drawn g c = drawn_runs_are_safe _ _ c.carry_out.ensures

pub returns-clause-demo : goal.returns-clause-demo
returns-clause-demo g c = demos_are_safe_and_never_full _ _ c.carry_out.ensures

pub returns-clause-pipeline : goal.returns-clause-pipeline
returns-clause-pipeline g c = pipeline_is_safe _ _ c.carry_out.ensures

pub returns-clause-complete : goal.returns-clause-complete
returns-clause-complete g c = (complete _ _ c.carry_out.ensures, complete_demo _ _ c.carry_out.ensures)

pub returns-clause-closed : goal.returns-clause-closed
returns-clause-closed g c = has_its_session _ _ c.carry_out.ensures
