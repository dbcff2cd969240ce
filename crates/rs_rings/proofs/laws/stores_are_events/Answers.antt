use Rattle.rs_rings.proofs.Shown.{loads_head, loads_tail, stores_head, stores_tail, splits_off, joins_in}
use Rattle.rs_rings.proofs.laws.stores_are_events.Goals as goal

pub returns-clause-tail : goal.returns-clause-tail
returns-clause-tail g = λ key s t c p q x before after shown pair stores. stores_tail key s t c before after shown p q pair x stores

pub returns-clause-head : goal.returns-clause-head
returns-clause-head g = λ key s t c p q x before after shown pair stores. stores_head key s t c before after shown p q pair x stores

pub returns-clause-loaded_head : goal.returns-clause-loaded_head
returns-clause-loaded_head g = λ key s t c p q before after shown pair loads. loads_head key s t c before after shown p q pair loads

pub returns-clause-loaded_tail : goal.returns-clause-loaded_tail
returns-clause-loaded_tail g = λ key s t c p q before after shown pair loads. loads_tail key s t c before after shown p q pair loads

pub returns-clause-split : goal.returns-clause-split
returns-clause-split g = λ key s t c r before after shown splits. splits_off key s t c before after shown r splits

pub returns-clause-joined : goal.returns-clause-joined
returns-clause-joined g = λ key s t c before after shown joins. joins_in key s t c before after shown joins
