use Rattle.std.proofs.Common.{◌≡◌, All}
use Rattle.rs_endpoints.proofs.sharing.Shared.new.Given as goal

abbrev pub invariant-loop : goal.invariant-loop
invariant-loop l = All (λ key. key ≡ l.session-inside.rings) l.lockers.items
