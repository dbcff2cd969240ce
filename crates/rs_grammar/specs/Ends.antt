-- Steps: no reader takes the end of the text.
use Rattle.std.proofs.Common.{◌≡◌, ℕ, List, [], ◌∷◌, Bool, true, false, Option, Some, None, Ok, refl}
use Rattle.rs_grammar.specs.declared.classes.Class.{Class}
use Rattle.rs_grammar.specs.declared.classes.Class.TheVariants as class
use Rattle.rs_grammar.specs.declared.symbols.Symbol.{Symbol}
use Rattle.rs_grammar.specs.declared.symbols.Symbol.TheVariants.{Terminal, Part}
use Rattle.rs_grammar.specs.Building.{Building}
use Rattle.rs_grammar.specs.Classes.{accepts}
use Rattle.rs_grammar.specs.Grammar.{Grammar, Way, part_at}
use Rattle.rs_grammar.specs.Steps.{Reader, Step, way_by, step_by, step, on_step, automaton}
use Rattle.rs_text.specs.Readings.{StopsAtEnd}
use Rattle.rs_text.specs.Signs.{Sign, finish}

-- no class has this token
abbrev pub IsNever : Sign → Type 0
IsNever t = (c : Class) → accepts c t ≡ false

-- the end of the text is of no class
pub never_end : IsNever finish
never_end class.Sort = refl
never_end _ = refl

no_way : (t : Sign) → IsNever t → (ws : List Way) → way_by ws t ≡ None
no_way t n [] = refl
no_way t n (w ∷ ws) = rw (n w.first) (no_way t n ws)

none_by : (b : Bool) (xs : List Symbol) (o : Option Way) (later : Option Step) → o ≡ None → later ≡ None → step_by o b xs later ≡ None
none_by true xs o later h k = rw (h, k) refl
none_by false xs o later h k = rw h refl

-- it is taken nowhere
pub no_step : (g : Grammar) (xs : List Symbol) (t : Sign) → IsNever t → step g xs t ≡ None
no_step g [] t n = refl
no_step g (Terminal c w a ∷ xs) t n = rw (n c) refl
no_step g (Part m ∷ xs) t n = none_by (part_at g m).optional xs (way_by (part_at g m).ways t) (step g xs t) (no_way t n (part_at g m).ways) (no_step g xs t n)

ends_so : {S : Type 0} (g : Grammar) (take : Building S) (o : Option Step) (at : ℕ) (n : Sign) (r d : Reader S) → o ≡ None → on_step g take o finish at n r ≡ Ok d → ⊥
ends_so g take None at n r d e h = absurd (cc h)
ends_so g take (Some m) at n r d e h = absurd (cc e)

same_end : {S : Type 0} (g : Grammar) (take : Building S) (o : Option Step) (at : ℕ) (n k : Sign) (r : Reader S) → o ≡ None → on_step g take o finish at n r ≡ on_step g take o finish at k r
same_end g take None at n k r e = refl
same_end g take (Some m) at n k r e = absurd (cc e)

-- the end is never taken, and nothing after it counts
pub at_end_stops : {S : Type 0} (g : Grammar) (take : Building S) → StopsAtEnd (automaton g take)
at_end_stops g take = record {
  never = λ at n r d h. ends_so g take (step g r.place finish) at n.sign r d (no_step g r.place finish never_end) h;
  same = λ at n k r. same_end g take (step g r.place finish) at n.sign k.sign r (no_step g r.place finish never_end);
}
