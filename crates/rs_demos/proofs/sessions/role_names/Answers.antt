use Rattle.std.proofs.Common.{◌<◌, ℕ, List, [], ◌∷◌, ◌++◌, map, refl, ap, arith, ◌∙◌}
use Rattle.rs_demos.proofs.Ranges.{one_more}
use Rattle.rs_demos.specs.Sessions.{demo_role_name}
use Rattle.rs_demos.proofs.sessions.role_names.Goals as goal

pub loop-role-preserved : goal.loop-role-preserved
loop-role-preserved c =
    let lt : c.loop-role.role < c.args.roles = omega arith in
    one_more (λ (xs : List ℕ). map demo_role_name xs) (λ (i : ℕ). demo_role_name i ∷ []) (λ i xs. refl) c.loop-role.role c.args.roles c.loop-role.names.items c.push.new.self.items lt
    (c.in_ok-push.ensures.items ∙ ap (λ (z : List ℕ). c.loop-role.names.items ++ (z ∷ [])) c.in_ok-role_name.ensures) c.loop-role.invariant
