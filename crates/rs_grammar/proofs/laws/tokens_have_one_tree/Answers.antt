use Rattle.rs_grammar.proofs.Exact.{tokens_have_one_tree}
use Rattle.rs_grammar.proofs.laws.tokens_have_one_tree.Goals as goal

pub returns : goal.returns
returns c = tokens_have_one_tree
