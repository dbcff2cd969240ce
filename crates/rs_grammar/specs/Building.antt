-- Public: what is made of tokens, beyond the grammar.
use Rattle.std.specs.Prelude.{ℕ, List, [], ◌∷◌, Result, Ok, Err}
use Rattle.rs_grammar.specs.Trees.{Event}
use Rattle.rs_text.specs.declared.faults.TextKind.{TextKind}
use Rattle.rs_text.specs.Signs.{Sign}

-- what an action makes of a value, with its token and the one after it; or the fault that it finds
abbrev pub Building : Type 0 → Type 0
Building S = (action : ℕ) → (t next : Sign) → S → Result S TextKind

-- the first of these tokens, or else the one after them
abbrev pub next_among : List Event → (next : Sign) → Sign
next_among [] next = next
next_among (e ∷ es) next = e.sign

-- a value is handed on; a fault ends it
abbrev pub on_ok : {S : Type 0} → Result S TextKind → (S → Result S TextKind) → Result S TextKind
on_ok (Ok s) go = go s
on_ok (Err k) go = Err k

-- what all actions in order make of a value; next is the token after them
abbrev pub built : {S : Type 0} → Building S → List Event → (next : Sign) → S → Result S TextKind
built take [] next s = Ok s
built take (e ∷ es) next s = on_ok (take e.action e.sign (next_among es next) s) (λ d. built take es next d)
