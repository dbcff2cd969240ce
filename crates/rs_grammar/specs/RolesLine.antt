-- Steps: an example of a grammar, "roles" ROLE { "," ROLE } "protocol", whose value is the number of its roles.
use Rattle.std.specs.Prelude.{ℕ, ◌+◌, [], ◌∷◌, nat_le, ◌==◌, if◌then◌else◌, false, Some, Ok, Err}
use Rattle.rs_grammar.specs.declared.classes.Class.TheVariants as class
use Rattle.rs_grammar.specs.declared.classes.Keyword.TheVariants as keyword
use Rattle.rs_grammar.specs.declared.symbols.Symbol.TheVariants.{Terminal, Part}
use Rattle.rs_grammar.specs.Building as building
use Rattle.rs_grammar.specs.Grammar as grammar
use Rattle.rs_grammar.specs.Grammar.{Grammar}
use Rattle.rs_model.specs.declared.limits.TheConstants.{MOST_ROLES}
use Rattle.rs_text.specs.declared.faults.TextKind.TheVariants as kind
use Rattle.rs_text.specs.declared.faults.Wanted.TheVariants as wanted

-- 0: "roles", a role, and what may follow it
abbrev pub line_part : grammar.Part
line_part = record { wanted = Some wanted.Roles; optional = false; follow = []; ways = record { first = class.Keyword keyword.Roles; action = 0; rest = Terminal class.Role wanted.Role 1 ∷ Part 1 ∷ [] } ∷ [] }

-- 1: "," and a further role; or "protocol"
abbrev pub more_part : grammar.Part
more_part = record {
  wanted = Some wanted.CommaOrProtocol;
  optional = false;
  follow = [];
  ways = record { first = class.Comma; action = 0; rest = Terminal class.Role wanted.Role 1 ∷ Part 1 ∷ [] } ∷ record { first = class.Keyword keyword.Protocol; action = 0; rest = [] } ∷ [];
}

-- the parts, each at its number
abbrev pub roles_line : Grammar
roles_line = line_part ∷ more_part ∷ []

-- the action 1 counts a role, 16 at most
abbrev pub counting : building.Building ℕ
counting action t next n = if action == 1 then (if nat_le MOST_ROLES n then Err kind.TooManyRoles else Ok (n + 1)) else Ok n
