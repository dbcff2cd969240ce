use Rattle.std.proofs.Common.{rules, length, drop}
use Rattle.rs_project.proofs.Awaiting.{none_unreached}
use Rattle.rs_project.proofs.Lists.{at_short, written_over}
use Rattle.rs_project.proofs.Surveys.{marked_none, marked_survey}
use Rattle.rs_project.proofs.surveying.survey_of.Goals as goal

pub mark_nodes-marked-requires-clause-begun : goal.mark_nodes-marked-requires-clause-begun
mark_nodes-marked-requires-clause-begun c =
    let pr = c.args.protocol.now in
    marked_none pr c.args.role c.as_mut_slice.result.now c.as_mut_slice-2.result.now c.as_mut_slice-3.result.now c.as_mut_slice-4.result.now c.len-count.result
    (search (rules, c.as_mut_slice.ensures.value, c.in_ok-involved.ensures.items))
    (search (rules, c.as_mut_slice-2.ensures.value, c.in_ok-awaited.ensures.items))
    (search (rules, c.as_mut_slice-3.ensures.value, c.in_ok-passing.ensures.items))
    (search rules)
    (λ n i. at_short pr.nodes n _ i.talks)

pub invariant_of-result : goal.invariant_of-result
invariant_of-result c =
    let pr = c.args.protocol.now in
    let new = c.mark_nodes-marked.new in
    let ei = written_over c.in_ok-involved.involved.len new.involved (drop (length new.involved) c.in_ok-involved.involved.items) (search rules) in
    let ea = written_over c.in_ok-awaited.awaited.len new.awaited (drop (length new.awaited) c.in_ok-awaited.awaited.items) (search rules) in
    let ep = written_over c.in_ok-passing.passing.len new.passing (drop (length new.passing) c.in_ok-passing.passing.items) (search rules) in
    let ee = written_over c.in_ok-run_ends.run_ends.len new.ends (drop (length new.ends) c.in_ok-run_ends.run_ends.items) (search rules) in
    let m = c.mark_nodes-marked.ensures in
    rw (ei, ea, ep, ee) record {
      well_formed = c.requires.well_formed;
      bounded = c.requires.bounded;
      survey = marked_survey pr c.args.role new.involved new.awaited new.passing new.ends m.involved_size m.sizes.awaited_size m.sizes.passing_size m.settled m.marked;
      runs = m.marked.runs;
    }

pub returns-clause-rounds : goal.returns-clause-rounds
returns-clause-rounds c = λ none.
    let pr = c.args.protocol.now in
    let role = c.args.role in
    let new = c.mark_nodes-marked.new in
    let m = c.mark_nodes-marked.ensures in
    none_unreached pr role record { protocol = pr; role = role; involved = new.involved; awaited = new.awaited; passing = new.passing; run_ends = new.ends }
    (marked_survey pr role new.involved new.awaited new.passing new.ends m.involved_size m.sizes.awaited_size m.sizes.passing_size m.settled m.marked)
    (m.rounds none)
