use Rattle.rs_held.proofs.Copying.{is_full}
use Rattle.rs_held.proofs.endpoints.see_room.Goals as goal

pub returns-in-Full-clause-none : goal.returns-in-Full-clause-none
returns-in-Full-clause-none c = λ v alone. (c.in-Some.place, v, c.in-Some.ensures.some, is_full _ c.in-Some.place _ v alone _ c.in-Full.ensures.told)
