use Rattle.std.proofs.Common.{◌≡◌, ◌<◌, ◌++◌, inl, inr, ℕ, Bool, not, if◌then◌else◌, List, [], ◌∷◌, map, Option, Some, None, refl, sym, ap, ◌∙◌, arith}
use Rattle.std.proofs.lemmas.Bool.Decides.{eqb_tells}
use Rattle.rs_demos.proofs.Ranges.{one_more}
use Rattle.rs_demos.specs.Sessions.{ring_machine, machine_with_line}
use Rattle.rs_model.specs.Data.{Machine_data}
use Rattle.rs_model.specs.declared.demos.Demo.TheVariants as demo
use Rattle.rs_demos.proofs.sessions.ring_machines.Goals as goal

-- all roles but the first have a line
has_own : (n i : ℕ) → 0 < i → machine_with_line demo.Ring (ring_machine n i) ≡ Some (ring_machine n i)
has_own n i later = elim (eqb_tells i 0) [
  | inl t ↦ absurd (let none = t.1 in omega (arith, none, later))
  | inr t ↦ ap (λ (b : Bool). if not b then Some (ring_machine n i) else None) t.0
]

pub loop-role-preserved : goal.loop-role-preserved
loop-role-preserved c =
    let lt : c.loop-role.role < c.args.roles = omega arith in
    let own = ap (λ (m : Machine_data). Some m) c.in_ok-ring_machine.ensures ∙ sym (has_own c.args.roles c.loop-role.role c.loop-role.invariant.0) in (
      omega arith,
      one_more (λ (xs : List ℕ). map (machine_with_line demo.Ring) (map (ring_machine c.args.roles) xs)) (λ (i : ℕ). machine_with_line demo.Ring (ring_machine c.args.roles i) ∷ []) (λ i xs. refl)
          c.loop-role.role c.args.roles c.loop-role.machines.items c.push-in-loop-role.new.self.items lt
          (c.in_ok-push-2.ensures.items ∙ ap (λ (z : Option Machine_data). c.loop-role.machines.items ++ (z ∷ [])) own) c.loop-role.invariant.1,
    )
