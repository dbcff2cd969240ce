use Rattle.rs_improve.proofs.laws.what_only_sends_is_not_swapped.Goals as goal

pub returns : goal.returns
returns c = λ machine none state s. none s.0.state s.0.from s.0.takes s.1.stands
