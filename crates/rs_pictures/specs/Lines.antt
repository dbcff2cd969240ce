-- Public: the lines of a sequence diagram, in the syntax of Mermaid.
use Rattle.std.specs.Prelude.{ℕ, zero, suc, ◌-◌, List, [], ◌++◌, codes, Option}
use Rattle.std.specs.Fmt.{decimal}
use Rattle.std.specs.List.{flat_map}
use Rattle.rs_model.specs.declared.graph.Role.{Role}
use Rattle.rs_model.specs.declared.values.Sort.{Sort}
use Rattle.rs_text.specs.Shown.{shown_text}

-- what a line says
pub data Says : Type 0 where
  -- the sender sends the receiver a message with this label and sort
  message : (sender receiver : Role) → (label : List ℕ) → (sort : Option Sort) → Says
  -- a choice begins: its first alternative, by the label
  first_case : (label : List ℕ) → Says
  -- the next alternative, by the label
  next_case : (label : List ℕ) → Says
  -- a loop of this name begins
  begins_loop : (name : List ℕ) → Says
  -- the loop of this name goes round once more
  goes_back : (name : List ℕ) → Says
  -- all roles end
  all_end : Says
  -- the innermost choice or loop is closed
  closes : Says

-- a line, and how many choices and loops are open round it, with one more for the diagram
pub record Line : Type 0 where
  pub depth : ℕ
  pub says : Says

-- the line at that depth
abbrev pub at : ℕ → Says → Line
at depth says = record { depth = depth; says = says }

-- the participant of a role: `R` and the role's number. No such word is one of Mermaid, whatever the role's name is
abbrev pub participant : ℕ → List ℕ
participant n = codes "R" ++ decimal n

-- a note over the participants of so many roles, before its words
abbrev pub note_text : (roles : ℕ) → List ℕ
note_text roles = codes "Note over R0," ++ participant (roles - 1) ++ codes ": "

-- what is written for what a line says, where there are so many roles
abbrev pub says_text : (roles : ℕ) → Says → List ℕ
says_text roles (message s r label sort) = participant s.0 ++ codes "->>" ++ participant r.0 ++ codes ": " ++ label ++ codes "(" ++ shown_text sort ++ codes ")"
says_text roles (first_case label) = codes "alt " ++ label
says_text roles (next_case label) = codes "else " ++ label
says_text roles (begins_loop name) = codes "loop " ++ name
says_text roles (goes_back name) = note_text roles ++ codes "back to " ++ name
says_text roles all_end = note_text roles ++ codes "end"
says_text roles closes = codes "end"

-- four spaces for each level
abbrev pub indent : ℕ → List ℕ
indent zero = []
indent (suc depth) = indent depth ++ codes "    "

-- a line with its end
abbrev pub line_text : (roles : ℕ) → Line → List ℕ
line_text roles line = indent line.depth ++ says_text roles line.says ++ codes "\n"

-- lines, one below the other
abbrev pub lines_text : (roles : ℕ) → List Line → List ℕ
lines_text roles lines = flat_map (line_text roles) lines
