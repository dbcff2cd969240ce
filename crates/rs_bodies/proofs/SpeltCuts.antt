-- A place behind a whole part is a tree.
use Rattle.std.proofs.Common.{◌≡◌, ◌∷◌, ◌++◌, refl, ap}
use Rattle.rs_text.specs.declared.faults.Wanted.TheVariants as wanted
use Rattle.rs_bodies.specs.declared.dialects.Dialect.{Dialect}
use Rattle.rs_text.specs.Signs.{rec_word, plain, dot}
use Rattle.rs_text.specs.Arms.{arm_signs}
use Rattle.rs_bodies.specs.Trees.{Body, ends, again, binds, acts, offers, body_signs, ends_by_name}
use Rattle.rs_bodies.specs.Spells.{Tree, tree_signs}
use Rattle.rs_bodies.specs.Cuts.{Cut, at_body, behind_end, behind_name, behind_rec, behind_rec_name, in_binds, in_arm, in_acts, in_offers, behind_brace, PartCut, in_body, cut_signs, part_cut_signs}
use Rattle.rs_bodies.specs.Cuts.{wanted_at, in_turn, in_opening}
use Rattle.rs_bodies.proofs.FaultPlaces.{place_wants, is_named, is_named_of}
use Rattle.rs_bodies.proofs.OneFault.{lone_no_part, turn_no_part, opening_no_part, no_part_in}
use Rattle.rs_bodies.specs.Dialects.{turn_signs, lone_signs}
use Rattle.rs_bodies.specs.Openings.{opening_signs}

abbrev Whole : (dia : Dialect) → Cut dia → Type 0
Whole dia c = (b : Body dia) × (body_signs dia b ≡ cut_signs dia c) × (ends_by_name dia b ≡ is_named dia c)

whole : (dia : Dialect) (c : Cut dia) → wanted_at dia c wanted.PartOrEnd ≡ wanted.PartOrEnd → Whole dia c
whole dia at_body h = cc
whole dia behind_end h = (ends, refl, refl)
whole dia (behind_name n) h = (again n, refl, refl)
whole dia behind_rec h = cc
whole dia (behind_rec_name n) h = cc
whole dia (in_binds n b) h = let z = whole dia b h in (binds n z.0, ap (λ o. rec_word ∷ plain n ∷ dot ∷ o) z.1, z.2)
whole dia (in_turn x y) h = absurd (turn_no_part dia y h)
whole dia (in_arm x y arm) h = absurd (lone_no_part dia arm h)
whole dia (in_acts x y l s b) h = let z = whole dia b h in (acts x y l s z.0, ap (λ o. plain x ∷ (turn_signs dia y ++ (lone_signs dia ++ (arm_signs l s ++ o)))) z.1, z.2)
whole dia (in_offers x y arms) h = absurd (no_part_in dia arms h)
whole dia (behind_brace x y arms) h = (offers x y arms, refl, refl)

-- what stands before a place behind the part is a tree's
pub whole_tree : (dia : Dialect) (c : PartCut dia) → place_wants dia c ≡ wanted.PartOrEnd → (t : Tree dia) × (tree_signs dia t ≡ part_cut_signs dia c) × (ends_by_name dia t.body ≡ is_named_of dia c)
whole_tree dia (in_body x body) h = let z = whole dia body h in (record { opening = x; body = z.0 }, ap (λ o. opening_signs dia x ++ o) z.1, z.2)
whole_tree dia (in_opening o) h = absurd (opening_no_part dia o h)
