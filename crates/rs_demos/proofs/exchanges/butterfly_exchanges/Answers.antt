use Rattle.std.proofs.Common.{◌≡◌, ◌≤◌, List, length, sym, subst, arith}
use Rattle.std.proofs.lemmas.Grind.{common_steps}
use Rattle.rs_demos.proofs.Few.{few_in_butterfly}
use Rattle.rs_demos.specs.Sessions.{Exchange, butterfly_exchanges}
use Rattle.rs_demos.proofs.exchanges.butterfly_exchanges.Goals as goal

pub returns-clause-bounded : goal.returns-clause-bounded
returns-clause-bounded c =
    let e : c.push_butterfly_round-4.new.exchanges.items ≡ butterfly_exchanges c.args.roles = grind (arith, common_steps) in
    subst (λ (xs : List Exchange). length xs ≤ 256) (sym e) (few_in_butterfly c.args.roles c.requires)
