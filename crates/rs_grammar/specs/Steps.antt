-- Public: how the reader goes on, token by token.
use Rattle.std.specs.Prelude.{ℕ, ◌++◌, List, [], ◌∷◌, Bool, true, false, ◌&&◌, if◌then◌else◌, Option, Some, None, Result, Ok, Err}
use Rattle.rs_grammar.specs.declared.symbols.Symbol.{Symbol}
use Rattle.rs_grammar.specs.declared.symbols.Symbol.TheVariants.{Terminal, Part}
use Rattle.rs_grammar.specs.Building.{Building}
use Rattle.rs_grammar.specs.Classes.{accepts}
use Rattle.rs_grammar.specs.Grammar.{Grammar, Way, part_at}
use Rattle.rs_grammar.specs.Places.{can_end, wanted_at}
use Rattle.rs_text.specs.declared.faults.TextFault.{TextFault}
use Rattle.rs_text.specs.declared.faults.TextKind.{TextKind}
use Rattle.rs_text.specs.Readings.{Automaton, expected, fault}
use Rattle.rs_text.specs.Signs.{Sign, broken}

-- a token's action, and where it leads
pub record Step : Type 0 where
  pub action : ℕ
  pub place : List Symbol

-- the first way that begins with the token
abbrev pub way_by : List Way → Sign → Option Way
way_by [] t = None
way_by (w ∷ ws) t = if accepts w.first t then Some w else way_by ws t

-- a way, or else the part is missing
abbrev pub step_by : Option Way → Bool → List Symbol → Option Step → Option Step
step_by (Some w) optional xs later = Some (record { action = w.action; place = w.rest ++ xs })
step_by None optional xs later = if optional then later else None

-- where a token leads
abbrev pub step : Grammar → List Symbol → Sign → Option Step
step g [] t = None
step g (Terminal c w a ∷ xs) t = if accepts c t then Some (record { action = a; place = xs }) else None
step g (Part n ∷ xs) t = step_by (way_by (part_at g n).ways t) (part_at g n).optional xs (step g xs t)

-- the token isn't faulty, and isn't taken
abbrev pub is_left : Sign → Option Step → Bool
is_left (broken k) o = false
is_left t None = true
is_left t (Some m) = false

-- the place before this token: if all that is still to be read is optional, and the token doesn't begin it, the reading is done
abbrev pub settled : Grammar → List Symbol → Sign → List Symbol
settled g [] next = []
settled g (x ∷ xs) next = if can_end g (x ∷ xs) && is_left next (step g (x ∷ xs) next) then [] else x ∷ xs

-- nothing is left to be read
abbrev pub is_done : List Symbol → Bool
is_done [] = true
is_done (x ∷ xs) = false

-- a reader: its place, and what it has made
pub record Reader (S : Type 0) : Type 0 where
  pub place : List Symbol
  pub value : S

-- a fault is put at the offset of its token
abbrev pub placed : {S : Type 0} → Result S TextKind → (at : ℕ) → Result S TextFault
placed (Ok s) at = Ok s
placed (Err k) at = fault k at

-- the value goes on at a place before this token
abbrev pub go_on : {S : Type 0} → Grammar → List Symbol → (next : Sign) → Result S TextFault → Result (Reader S) TextFault
go_on g d next (Ok s) = Ok (record { place = settled g d next; value = s })
go_on g d next (Err f) = Err f

-- a step is made, or something else is wanted
abbrev pub on_step : {S : Type 0} → Grammar → Building S → Option Step → (t : Sign) → (at : ℕ) → (next : Sign) → Reader S → Result (Reader S) TextFault
on_step g take None t at next r = expected (wanted_at g r.place) at
on_step g take (Some m) t at next r = go_on g m.place next (placed (take m.action t next r.value) at)

-- the reader of any grammar with any building: the one automaton
abbrev pub automaton : {S : Type 0} → Grammar → Building S → Automaton (Reader S)
automaton g take = record { feed = λ t at next r. on_step g take (step g r.place t) t at next.sign r; is_read = λ r. is_done r.place }
