use Rattle.rs_explain.proofs.Existing.{canonical_helps, cut_from_start}
use Rattle.rs_explain.proofs.Firsts.{one_cut_walk, steps_helped}
use Rattle.rs_search.specs.Candidates.{start_spot}
use Rattle.rs_explain.proofs.laws.one_cut_walk_where_a_greater_bound_helps.Goals as goal

pub returns-clause-some : goal.returns-clause-some
returns-clause-some c = cut_from_start

pub returns-clause-one : goal.returns-clause-one
returns-clause-one c = λ sub above bound greater steps others. one_cut_walk sub above bound greater (start_spot sub above) steps others

pub returns-clause-mends : goal.returns-clause-mends
returns-clause-mends c = λ sub above bound greater steps i s f e.
    let h = steps_helped sub above bound greater (start_spot sub above) steps f.is.helped i s e in (h.dies, h.survives)

pub returns-clause-helps : goal.returns-clause-helps
returns-clause-helps c = canonical_helps
