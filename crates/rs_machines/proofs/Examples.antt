-- The example of the definitions: its text is cut into the tokens of its tree; and what no bytes lack.
use Rattle.std.proofs.Common.{◌≡◌, inl, List, [], ◌∷◌, ◌++◌, take, refl}
use Rattle.rs_model.specs.Data.{Names_data}
use Rattle.rs_text.specs.Lexing.{next_lexeme}
use Rattle.rs_text.specs.Signs.{Sign, finish}
use Rattle.rs_text.specs.declared.faults.TextKind.TheVariants as kind
use Rattle.rs_text.specs.declared.faults.Wanted.TheVariants as wanted
use Rattle.rs_text.proofs.Cutting.{cut, cut_are_lexed}
use Rattle.rs_text.proofs.Judging.{one_least}
use Rattle.rs_text.proofs.Nexts.{lexed_are}
use Rattle.rs_bodies.specs.Cuts.{in_opening, at_machine}
use Rattle.rs_bodies.specs.Openings.{Opening, of_role, opening_signs}
use Rattle.rs_bodies.specs.Spells.{Tree, tree_signs}
use Rattle.rs_bodies.specs.Trees.{Body, body_signs}
use Rattle.rs_bodies.specs.declared.dialects.Dialect.TheVariants.{Acts}
use Rattle.rs_machines.specs.Examples.{text, old, tree}
use Rattle.rs_machines.specs.Faults.{FirstFault}
use Rattle.rs_machines.specs.Kinds.{names_of}
use Rattle.rs_machines.specs.Machines.{machine_of_tree}
use Rattle.rs_machines.specs.Spells.{SpellsMachine}

pub spelt : SpellsMachine text 0 old (names_of old tree) (machine_of_tree old tree) 41
spelt = record {
  tree = tree;
  lexemes = take 22 (cut 23 text 0);
  behind = next_lexeme text 41;
  others = [];
  tokens = lexed_are text (cut 23 text 0) 0 (cut_are_lexed 23 text 0 refl);
  spelt = refl;
  settled = λ k. absurd (cc k);
  fits = record { opening = refl; body = refl };
  names_are = refl;
  meaning_is = refl;
  goes_on = refl;
}

opening_no_end : (o : Opening Acts) (b : Body Acts) (rest : List Sign) → opening_signs Acts o ++ body_signs Acts b ≡ finish ∷ rest → ⊥
opening_no_end (of_role r) b rest h = cc

no_begin : (tree : Tree Acts) (rest : List Sign) → tree_signs Acts tree ≡ finish ∷ rest → ⊥
no_begin tree rest h = opening_no_end tree.opening tree.body rest h

pub lacks : (old : Names_data) → FirstFault old [] 0 (kind.Expected wanted.PartOrEnd) 0
lacks before = record {
  before = [];
  token = next_lexeme [] 0;
  others = [];
  lexed = cut_are_lexed 1 [] 0 refl;
  stands = refl;
  fault = inl (wanted.PartOrEnd, refl, record { whole = tt; place = in_opening at_machine; stands = refl; within = tt; wants = refl; stops = λ b. no_begin b.0 b.1 b.2 });
  clear = tt;
  least = λ k f. one_least k;
}
