-- The example of the definitions: its text is cut into the tokens of its tree; and what no bytes lack.
use Rattle.std.proofs.Common.{◌≡◌, inl, List, [], ◌∷◌, ◌++◌, take, refl, arith}
use Rattle.rs_text.specs.Lexing.{next_lexeme}
use Rattle.rs_text.specs.Signs.{Sign, finish}
use Rattle.rs_text.specs.declared.faults.TextKind.TheVariants as kind
use Rattle.rs_text.specs.declared.faults.Wanted.TheVariants as wanted
use Rattle.rs_text.proofs.Cutting.{cut, cut_are_lexed}
use Rattle.rs_text.proofs.Judging.{one_least}
use Rattle.rs_text.proofs.Nexts.{lexed_are}
use Rattle.rs_bodies.specs.Cuts.{in_opening, at_roles}
use Rattle.rs_bodies.specs.Openings.{Opening, of_roles, opening_signs}
use Rattle.rs_bodies.specs.Spells.{Tree, tree_signs}
use Rattle.rs_bodies.specs.Trees.{Body, body_signs}
use Rattle.rs_bodies.specs.declared.dialects.Dialect.TheVariants.{Talks}
use Rattle.rs_global.specs.Examples.{text, tree}
use Rattle.rs_global.specs.Faults.{FirstFault}
use Rattle.rs_global.specs.Kinds.{graph_of, names_of}
use Rattle.rs_global.specs.Spells.{SpellsProtocol}

pub spelt : SpellsProtocol text 0 (names_of tree) (graph_of tree) 51
spelt = record {
  tree = tree;
  lexemes = take 25 (cut 26 text 0);
  behind = next_lexeme text 51;
  others = [];
  tokens = lexed_are text (cut 26 text 0) 0 (cut_are_lexed 26 text 0 refl);
  spelt = refl;
  settled = λ k. absurd (cc k);
  fits = record { opening = (refl, omega arith); body = refl };
  names_are = refl;
  meaning_is = refl;
  goes_on = refl;
}

opening_no_end : (o : Opening Talks) (b : Body Talks) (rest : List Sign) → opening_signs Talks o ++ body_signs Talks b ≡ finish ∷ rest → ⊥
opening_no_end (of_roles x y xs) b rest h = cc

no_begin : (tree : Tree Talks) (rest : List Sign) → tree_signs Talks tree ≡ finish ∷ rest → ⊥
no_begin tree rest h = opening_no_end tree.opening tree.body rest h

pub lacks : FirstFault [] 0 (kind.Expected wanted.Roles) 0
lacks = record {
  before = [];
  token = next_lexeme [] 0;
  others = [];
  lexed = cut_are_lexed 1 [] 0 refl;
  stands = refl;
  fault = inl (wanted.Roles, refl, record { whole = tt; place = in_opening at_roles; stands = refl; within = tt; wants = refl; stops = λ b. no_begin b.0 b.1 b.2 });
  clear = tt;
  least = λ k f. one_least k;
}
