-- Protocols that have no projection onto a role.
use Rattle.std.proofs.Common.{◌≡◌, ◌≢◌, [], ◌∷◌, refl, ap, arith}
use Rattle.rs_model.specs.declared.graph.Role.{Role}
use Rattle.rs_project.specs.Data.{Projection_data}
use Rattle.rs_project.specs.Graph.{LeadsTo, Involves, PassesBy}
use Rattle.rs_project.specs.Projection.{IsProjection}
use Rattle.rs_safety.specs.Examples.{a, b, c, to, not_told, left_waiting}
use Rattle.rs_safety.proofs.Members.{no_member}
use Rattle.rs_safety.proofs.Walks.{step_of, not_empty, involves_receiver, involves_neither, idle_end}
use Rattle.rs_safety.proofs.Fronts.{meets_itself, ends_itself, meets_on, ends_on}

a_c : a ≢ c
a_c e = let n : 0 ≡ 2 = ap (λ (z : Role). z.0) e in absurd (omega (arith, n))

b_c : b ≢ c
b_c e = let n : 1 ≡ 2 = ap (λ (z : Role). z.0) e in absurd (omega (arith, n))

-- the choice that C isn't told of
abbrev told : LeadsTo not_told 0 0 1
told = record { sender = a; receiver = b; arms = to 0 1 ∷ to 1 2 ∷ []; arm = to 0 1; talks = refl; stands = refl; leads = refl }

abbrev untold : LeadsTo not_told 0 1 2
untold = record { sender = a; receiver = b; arms = to 0 1 ∷ to 1 2 ∷ []; arm = to 1 2; talks = refl; stands = refl; leads = refl }

not_told_1 : Involves not_told c 1
not_told_1 = involves_receiver not_told c 1 a (to 2 2 ∷ []) refl

not_told_passes : PassesBy not_told c 0
not_told_passes = record {
  uninvolved = involves_neither not_told c 0 a b (to 0 1 ∷ to 1 2 ∷ []) refl a_c b_c;
  awaited = λ idle. idle 1 (step_of 0 0 ∷ [], (1, refl, told, refl)) not_told_1;
}

-- the first set would have a talk, and be empty
pub not_told_shown : (pj : Projection_data) → IsProjection not_told c pj → ⊥
not_told_shown pj ip =
    let talk = meets_on not_told c 0 0 1 1 not_told_passes told (meets_itself not_told c 1 not_told_1) in
    let end = ends_on not_told c 0 1 2 not_told_passes untold (ends_itself not_told c 2 (idle_end not_told c 2 (λ x y arms t. cc (t)))) in
    no_member ip.first.members 1 (ip.first.ends.1 end) ((ip.first.talks 1).1 talk)

-- the cycle on which C is left waiting
abbrev again : LeadsTo left_waiting 0 0 0
again = record { sender = a; receiver = b; arms = to 0 0 ∷ to 1 1 ∷ []; arm = to 0 0; talks = refl; stands = refl; leads = refl }

abbrev at_last : LeadsTo left_waiting 0 1 1
at_last = record { sender = a; receiver = b; arms = to 0 0 ∷ to 1 1 ∷ []; arm = to 1 1; talks = refl; stands = refl; leads = refl }

waiting_passes : PassesBy left_waiting c 0
waiting_passes = record {
  uninvolved = involves_neither left_waiting c 0 a b (to 0 0 ∷ to 1 1 ∷ []) refl a_c b_c;
  awaited = λ idle. idle 1 (step_of 0 1 ∷ [], (1, refl, at_last, refl)) (involves_receiver left_waiting c 1 a (to 2 2 ∷ []) refl);
}

pub left_waiting_shown : (pj : Projection_data) → IsProjection left_waiting c pj → ⊥
left_waiting_shown pj ip = ip.none_unreached 0 record {
  reached = ([], refl);
  steps = step_of 0 0 ∷ [];
  some = not_empty [] (step_of 0 0);
  cycle = (0, refl, again, refl);
  around = (waiting_passes, tt);
}
