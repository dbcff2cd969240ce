use Rattle.std.proofs.Common.{refl}
use Rattle.rs_rings.proofs.SixKinds.{head_loaded, head_looked_at, tail_stored, tail_loaded, head_stored}
use Rattle.rs_rings.proofs.laws.steps_are_of_six_kinds.Goals as goal

pub returns-clause-head_loaded : goal.returns-clause-head_loaded
returns-clause-head_loaded c = λ key s t p q call m n step e told. head_loaded key s t call p q m n step e told

pub returns-clause-head_looked_at : goal.returns-clause-head_looked_at
returns-clause-head_looked_at c = λ key s t p q call m n step e told. head_looked_at key s t call p q m n step e told

pub returns-clause-tail_stored : goal.returns-clause-tail_stored
returns-clause-tail_stored c = λ key s t p q call m n step new sh th e told. tail_stored key s t call p q m n step new sh th e told

pub returns-clause-tail_loaded : goal.returns-clause-tail_loaded
returns-clause-tail_loaded c = λ key s t p q call m n step e told. tail_loaded key s t call p q m n step e told

pub returns-clause-head_stored : goal.returns-clause-head_stored
returns-clause-head_stored c = λ key s t p q call m n step new sh th e told. head_stored key s t call p q m n step new sh th e told

pub returns-clause-split : goal.returns-clause-split
returns-clause-split c = λ s seat v r at says. record { seat = seat; view = v; present = at; speaks = says; words = refl; views = refl }

pub returns-clause-joined : goal.returns-clause-joined
returns-clause-joined c = λ s seat other v w at too apart. record { seat = seat; view = v; other = other; taken = w; present = at; too = too; apart = apart; words = refl; views = refl }
