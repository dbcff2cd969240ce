use Rattle.rs_tool.proofs.Answering.{ends_delivered, memory_delivered}
use Rattle.rs_tool.proofs.Complete.{complete}
use Rattle.rs_tool.proofs.DemoComplete.{complete_demo}
use Rattle.rs_tool.proofs.DemoHeadline.{demos_are_safe_and_never_full}
use Rattle.rs_tool.proofs.ItsSession.{has_its_session}
use Rattle.rs_tool.proofs.Headline.{drawn_runs_are_safe, explained_is_fine, fine_is_safe, improved_is_safe, migrated_is_safe, pipeline_is_safe, runs_are_safe, verified_is_safe}
use Rattle.rs_tool.proofs.Hopeless.{hopeless_is_told}
use Rattle.rs_tool.proofs.calls.command_serial.Goals as goal

pub returns-in-Some-clause-ends : goal.returns-in-Some-clause-ends
returns-in-Some-clause-ends g c =
    let alone = rw c.in-Some.is at c.answer_alone.ensures in
    let ends = ends_delivered _ _ _ _ _ alone.0 c.deliver.ensures in
    (ends, λ asks. memory_delivered c.in-Some.given _ c.deliver.result (alone.1 asks) c.deliver.ensures)

pub returns-in-Some-clause-headline : goal.returns-in-Some-clause-headline
returns-in-Some-clause-headline g c =
    let alone = rw c.in-Some.is at c.answer_alone.ensures in
    let ends = ends_delivered _ _ _ _ _ alone.0 c.deliver.ensures in
    fine_is_safe _ _ ends

pub returns-in-Some-clause-explained : goal.returns-in-Some-clause-explained
returns-in-Some-clause-explained g c =
    let alone = rw c.in-Some.is at c.answer_alone.ensures in
    let ends = ends_delivered _ _ _ _ _ alone.0 c.deliver.ensures in
    explained_is_fine _ _ ends

pub returns-in-Some-clause-hopeless : goal.returns-in-Some-clause-hopeless
returns-in-Some-clause-hopeless g c =
    let alone = rw c.in-Some.is at c.answer_alone.ensures in
    let ends = ends_delivered _ _ _ _ _ alone.0 c.deliver.ensures in
    hopeless_is_told _ _ ends

pub returns-in-Some-clause-verified : goal.returns-in-Some-clause-verified
returns-in-Some-clause-verified g c =
    let alone = rw c.in-Some.is at c.answer_alone.ensures in
    let ends = ends_delivered _ _ _ _ _ alone.0 c.deliver.ensures in
    verified_is_safe _ _ ends

pub returns-in-Some-clause-migrated : goal.returns-in-Some-clause-migrated
returns-in-Some-clause-migrated g c =
    let alone = rw c.in-Some.is at c.answer_alone.ensures in
    let ends = ends_delivered _ _ _ _ _ alone.0 c.deliver.ensures in
    migrated_is_safe _ _ ends

pub returns-in-Some-clause-improved : goal.returns-in-Some-clause-improved
returns-in-Some-clause-improved g c =
    let alone = rw c.in-Some.is at c.answer_alone.ensures in
    let ends = ends_delivered _ _ _ _ _ alone.0 c.deliver.ensures in
    improved_is_safe _ _ ends

pub returns-in-Some-clause-run : goal.returns-in-Some-clause-run
returns-in-Some-clause-run g c =
    let alone = rw c.in-Some.is at c.answer_alone.ensures in
    let ends = ends_delivered _ _ _ _ _ alone.0 c.deliver.ensures in
    runs_are_safe _ _ ends

pub returns-in-Some-clause-drawn : goal.returns-in-Some-clause-drawn
returns-in-Some-clause-drawn g c =
    let alone = rw c.in-Some.is at c.answer_alone.ensures in
    let ends = ends_delivered _ _ _ _ _ alone.0 c.deliver.ensures in
    drawn_runs_are_safe _ _ ends

pub returns-in-Some-clause-demo : goal.returns-in-Some-clause-demo
returns-in-Some-clause-demo g c =
    let alone = rw c.in-Some.is at c.answer_alone.ensures in
    let ends = ends_delivered _ _ _ _ _ alone.0 c.deliver.ensures in
    demos_are_safe_and_never_full _ _ ends

pub returns-in-Some-clause-pipeline : goal.returns-in-Some-clause-pipeline
returns-in-Some-clause-pipeline g c =
    let alone = rw c.in-Some.is at c.answer_alone.ensures in
    let ends = ends_delivered _ _ _ _ _ alone.0 c.deliver.ensures in
    pipeline_is_safe _ _ ends

pub returns-in-Some-clause-complete : goal.returns-in-Some-clause-complete
returns-in-Some-clause-complete g c =
    let alone = rw c.in-Some.is at c.answer_alone.ensures in
    let ends = ends_delivered _ _ _ _ _ alone.0 c.deliver.ensures in
    (complete _ _ ends, complete_demo _ _ ends)

pub returns-in-Some-clause-closed : goal.returns-in-Some-clause-closed
returns-in-Some-clause-closed g c =
    let alone = rw c.in-Some.is at c.answer_alone.ensures in
    let ends = ends_delivered _ _ _ _ _ alone.0 c.deliver.ensures in
    has_its_session _ _ ends
