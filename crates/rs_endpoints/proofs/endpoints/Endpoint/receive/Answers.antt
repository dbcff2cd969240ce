use Rattle.std.proofs.Common.{rules}
use Rattle.rs_endpoints.proofs.Received.{fetched, within}
use Rattle.rs_endpoints.proofs.Spent.{spent}
use Rattle.rs_endpoints.proofs.endpoints.Endpoint.receive.Goals as goal

pub bounds-arms-arm : goal.bounds-arms-arm
bounds-arms-arm c = within _ _ _ _ _ _ _ c.receiving_arms.ensures c.in-Got.ensures.told

pub returns-in-Got : goal.returns-in-Got
returns-in-Got c = record {
  told = fetched _ _ c.in-Some-Receiving.receiving c.in-Got.arm c.in-Got.value c.in-Got.stage _ _ _ _ (search rules) c.receiving_arms.ensures c.in-Got.ensures.told (search rules) (search rules);
}

pub returns-in-Empty : goal.returns-in-Empty
returns-in-Empty c = record {
  told = (
    c.in-Some-Receiving.receiving,
    c.in-Empty.stage,
    c.in-Empty.seen,
    search rules,
    search rules,
    search rules,
    λ gone. spent c.args.self.now _ _ _ _ _ _ _ (search rules) c.receiving_arms.ensures c.in-Empty.ensures.told c.role.ensures (c.is_gone-is_gone.ensures gone),
  );
}
