use Rattle.std.proofs.Common.{sym, ap, subst}
use Rattle.rs_model.specs.Data.{Machine_data}
use Rattle.rs_model.specs.declared.graph.Role.{Role}
use Rattle.rs_search.specs.Canonical.{IsCanonical}
use Rattle.rs_search.proofs.itself.search_itself.Goals as goal

pub returns : goal.returns
returns c =
    subst (λ (q : Role). IsCanonical c.args.machine.now c.args.machine.now c.args.bound (record { role = q; bound = c.args.bound; nodes = c.in_ok-nodes.nodes.items }))
    (sym (ap (λ (m : Machine_data). m.role) c.machine.view_is))
    (c.in_ok-nodes.ensures c.args.bound c.requires.some)
