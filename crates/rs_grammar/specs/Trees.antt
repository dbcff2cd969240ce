-- Public: which tokens a grammar derives.
use Rattle.std.specs.Prelude.{ℕ, ◌≡◌, ◌++◌, List, [], ◌∷◌, map, true}
use Rattle.rs_grammar.specs.declared.symbols.Symbol.{Symbol}
use Rattle.rs_grammar.specs.declared.symbols.Symbol.TheVariants.{Terminal, Part}
use Rattle.rs_grammar.specs.Classes.{accepts}
use Rattle.rs_grammar.specs.Grammar.{Grammar, Way, part_at, IsOneOf}
use Rattle.rs_text.specs.Signs.{Sign}

-- a token with the number of its action, which says where in the grammar the token occurs
pub record Event : Type 0 where
  pub action : ℕ
  pub sign : Sign

-- derivation trees, one after the other: a token, an optional part that is missing, or a part that goes one of its ways from its
-- first token on
pub data Trees : Type 0 where
  none : Trees
  leaf : (event : Event) → (later : Trees) → Trees
  missing : (later : Trees) → Trees
  node : (way : Way) → (sign : Sign) → (inner : Trees) → (later : Trees) → Trees

-- the trees are trees of these symbols, one for each
abbrev pub AreOf : Grammar → List Symbol → Trees → Type 0
AreOf g [] none = Unit {0}
AreOf g (Terminal c w a ∷ xs) (leaf e later) = (accepts c e.sign ≡ true) × (e.action ≡ a) × AreOf g xs later
AreOf g (Part n ∷ xs) (missing later) = ((part_at g n).optional ≡ true) × AreOf g xs later
AreOf g (Part n ∷ xs) (node way t inner later) = IsOneOf way (part_at g n).ways × (accepts way.first t ≡ true) × AreOf g way.rest inner × AreOf g xs later
AreOf g _ _ = ⊥

-- the first token of a way
abbrev pub first_of : Way → Sign → Event
first_of way t = record { action = way.action; sign = t }

-- the tokens of trees, with their actions
abbrev pub events_of : Trees → List Event
events_of none = []
events_of (leaf e later) = e ∷ events_of later
events_of (missing later) = events_of later
events_of (node way t inner later) = first_of way t ∷ (events_of inner ++ events_of later)

-- without their actions
abbrev pub signs_in : List Event → List Sign
signs_in events = map (λ e. e.sign) events

-- the tokens are a sentence of these symbols, with these trees
abbrev pub SpellsAs : Grammar → List Symbol → List Sign → Trees → Type 0
SpellsAs g xs signs trees = AreOf g xs trees × (signs ≡ signs_in (events_of trees))

-- the tokens are a sentence of these symbols
abbrev pub Spells : Grammar → List Symbol → List Sign → Type 0
Spells g xs signs = (trees : Trees) × SpellsAs g xs signs trees

-- the tokens begin a sentence of these symbols
abbrev pub Begins : Grammar → List Symbol → List Sign → Type 0
Begins g xs signs = (rest : List Sign) × Spells g xs (signs ++ rest)
