-- Public: the tests of a grammar, which compute.
use Rattle.std.specs.Prelude.{ℕ, zero, suc, List, [], ◌∷◌, length, Bool, true, false, ◌&&◌, ◌||◌, not, if◌then◌else◌}
use Rattle.std.specs.List.{list_all, list_any}
use Rattle.rs_grammar.specs.declared.classes.Class.{Class}
use Rattle.rs_grammar.specs.declared.symbols.Symbol.{Symbol}
use Rattle.rs_grammar.specs.declared.symbols.Symbol.TheVariants.{Terminal, Part}
use Rattle.rs_grammar.specs.Classes.{accepts, samples}
use Rattle.rs_grammar.specs.Grammar as grammar
use Rattle.rs_grammar.specs.Grammar.{Grammar, Way, part_at}
use Rattle.rs_grammar.specs.Places.{can_end}
use Rattle.rs_text.specs.Signs.{Sign}

-- the classes that a token belongs to
abbrev pub Accepted : Type 0
Accepted = Class → Bool

-- those of this token
abbrev pub accepted_by : Sign → Accepted
accepted_by t c = accepts c t

-- a way begins with the token
abbrev pub goes : List Way → Accepted → Bool
goes ws t = list_any (λ w. t w.first) ws

-- one way at most begins with it
abbrev pub goes_once : List Way → Accepted → Bool
goes_once [] t = true
goes_once (w ∷ ws) t = if t w.first then not (goes ws t) else goes_once ws t

-- these symbols can begin with it
abbrev pub can_begin : Grammar → List Symbol → Accepted → Bool
can_begin g [] t = false
can_begin g (Terminal c w a ∷ xs) t = t c
can_begin g (Part n ∷ xs) t = goes (part_at g n).ways t || ((part_at g n).optional && can_begin g xs t)

-- it may follow the part
abbrev pub may_follow : grammar.Part → Accepted → Bool
may_follow p t = list_any t p.follow

-- these symbols are the end of a way of p: what can follow each part among them may follow it by its row
abbrev pub follows : Grammar → grammar.Part → List Symbol → Accepted → Bool
follows g p [] t = true
follows g p (Terminal c w a ∷ xs) t = follows g p xs t
follows g p (Part n ∷ xs) t = (not (can_begin g xs t || (can_end g xs && may_follow p t)) || may_follow (part_at g n) t) && follows g p xs t

-- the token decides which way the part goes, and whether it is missing
abbrev pub decides : Grammar → grammar.Part → Accepted → Bool
decides g p t = goes_once p.ways t && (not (p.optional && goes p.ways t && may_follow p t) && list_all (λ w. follows g p w.rest t) p.ways)

-- one token decides, everywhere
abbrev pub is_decided : Grammar → Bool
is_decided g = list_all (λ t. list_all (λ p. decides g p (accepted_by t)) g) samples

-- a class has a token
abbrev pub is_met : Class → Bool
is_met c = list_any (λ t. accepts c t) samples

-- the symbol derives something, by trees of at most this height
abbrev pub ends : Grammar → (height : ℕ) → Symbol → Bool
ends g height (Terminal c w a) = is_met c
ends g zero (Part n) = false
ends g (suc k) (Part n) = (part_at g n).optional || list_any (λ w. is_met w.first && list_all (ends g k) w.rest) (part_at g n).ways

-- all symbols of all ways derive something
abbrev pub all_end : Grammar → Bool
all_end g = list_all (λ p. list_all (λ w. list_all (ends g (length g)) w.rest) p.ways) g

-- the whole derives something, and isn't optional
abbrev pub begins_well : Grammar → Bool
begins_well g = ends g (length g) (Part 0) && not (part_at g 0).optional

-- the grammar can be read token by token
abbrev pub is_readable : Grammar → Bool
is_readable g = is_decided g && (all_end g && begins_well g)
