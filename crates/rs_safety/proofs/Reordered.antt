-- Sessions whose machines have derivations against their projections are safe, and each role's walk is recorded.
use Rattle.std.proofs.Common.{◌≡◌, ℕ, zero, suc, ◌+◌, ◌<◌, ◌≤◌, List, [], ◌∷◌, Some, slice_get, length, sym, arith, get_or}
use Rattle.std.proofs.lemmas.Option.{slice_get-get_or, none-some}
use Rattle.rs_model.specs.Data.{Machine_data, Protocol_data}
use Rattle.rs_core.specs.Safety.{IsSafe}
use Rattle.rs_core.proofs.Stands.{peered}
use Rattle.rs_project.specs.Data.{Projection_data}
use Rattle.rs_derive.specs.Data.{Derivation_data}
use Rattle.rs_derive.specs.Derivations.{IsDerivation, Remembers}
use Rattle.rs_safety.proofs.Walks.{numbered}
use Rattle.rs_safety.proofs.Grow.{Follower}
use Rattle.rs_safety.proofs.Built.{Parts, safe_of_parts}
use Rattle.rs_safety.proofs.Sessions.{no_machine, no_projection}
use Rattle.rs_safety.specs.Sessions.{IsDerivedSession}
use Rattle.rs_safety.proofs.Derived.{derived}

-- what stands for a derivation at a place that has none
pub no_derivation : Derivation_data
no_derivation = record { role = numbered 0; bound = 0; nodes = [] }

abbrev pub machine_of : List Machine_data → ℕ → Machine_data
machine_of ms p = get_or ms p no_machine

abbrev pub projection_of : List Projection_data → ℕ → Projection_data
projection_of pjs p = get_or pjs p no_projection

abbrev pub derivation_of : List Derivation_data → ℕ → Derivation_data
derivation_of ds p = get_or ds p no_derivation

-- the derivation of role p
pub derived_at : (pr : Protocol_data) (pjs : List Projection_data) (ms : List Machine_data) (ds : List Derivation_data)
    → IsDerivedSession pr pjs ms ds → (p : ℕ) → p < length ms
    → IsDerivation (derivation_of ds p) (machine_of ms p) (projection_of pjs p).machine
    × Remembers (derivation_of ds p) (machine_of ms p) (projection_of pjs p).machine
derived_at pr pjs ms ds s p hp =
    let hm : slice_get ms p ≡ Some (machine_of ms p) = slice_get-get_or ms p no_machine hp in
    let hj : slice_get pjs p ≡ Some (projection_of pjs p) = slice_get-get_or pjs p no_projection (omega (arith, s.projected.many, s.a_machine_each)) in
    let hd : slice_get ds p ≡ Some (derivation_of ds p) = slice_get-get_or ds p no_derivation (omega (arith, s.derived.many)) in
    s.derived.each p (machine_of ms p) (projection_of pjs p) (derivation_of ds p) hm hj hd

-- no derivation's bound is above their sum
pub sum_of_bounds : List Derivation_data → ℕ
sum_of_bounds [] = 0
sum_of_bounds (d ∷ ds) = d.bound + sum_of_bounds ds

pub at_most : (ds : List Derivation_data) (p : ℕ) (d : Derivation_data) → slice_get ds p ≡ Some d → d.bound ≤ sum_of_bounds ds
unfolding sum_of_bounds
at_most [] p d h = absurd (none-some d h)
at_most (x ∷ ds) zero d h = let e : x.bound ≡ d.bound = cc (h) in omega arith
at_most (x ∷ ds) (suc p) d h = let k = at_most ds p d h in omega arith

-- who follows within a bound follows within a greater one
unfoldable pub widen : (m a : Machine_data) (f : ℕ → ℕ) (b c : ℕ) → b ≤ c → Follower m a f b → Follower m a f c
widen m a f b c h fl = record {
  F = fl.F;
  start = fl.start;
  gives = fl.gives;
  takes = fl.takes;
  ends = fl.ends;
  trace = fl.trace;
  short = λ eaten done owed t w. (let k : length owed ≤ b = fl.short eaten done owed t w in omega arith);
}

unfoldable pub parts : (pr : Protocol_data) (pjs : List Projection_data) (ms : List Machine_data) (ds : List Derivation_data)
    → IsDerivedSession pr pjs ms ds → (f : ℕ → ℕ → ℕ) → Parts pr ms f (sum_of_bounds ds)
parts pr pjs ms ds s f = record {
  fits = s.well_formed;
  roles = sym s.a_machine_each;
  machine = machine_of ms;
  stands = λ p hp. slice_get-get_or ms p no_machine (omega (arith, s.a_machine_each));
  projection = projection_of pjs;
  projected = λ p hp. s.projected.each p (projection_of pjs p) (slice_get-get_or pjs p no_projection (omega (arith, s.projected.many)));
  follower = λ p hp.
      let hm : slice_get ms p ≡ Some (machine_of ms p) = slice_get-get_or ms p no_machine (omega (arith, s.a_machine_each)) in
      let hd : slice_get ds p ≡ Some (derivation_of ds p) = slice_get-get_or ds p no_derivation (omega (arith, s.a_machine_each, s.derived.many)) in
      widen (machine_of ms p) (projection_of pjs p).machine (f p) (derivation_of ds p).bound (sum_of_bounds ds) (at_most ds p (derivation_of ds p) hd)
      (derived (derivation_of ds p) (machine_of ms p) (projection_of pjs p).machine (length ms) (f p) (s.machines_fit.fits p (machine_of ms p) hm)
      (derived_at pr pjs ms ds s p (omega (arith, s.a_machine_each))).0);
}

-- such machines are safe
pub safe : (pr : Protocol_data) (pjs : List Projection_data) (ms : List Machine_data) (ds : List Derivation_data) → IsDerivedSession pr pjs ms ds → IsSafe ms
safe pr pjs ms ds s = safe_of_parts pr ms (sum_of_bounds ds) (peered ms s.machines_fit) (parts pr pjs ms ds s)
