-- Endpoints that are begun.
use Rattle.std.proofs.Common.{◌≡◌, ℕ, zero, suc, ◌<◌, arith, get_or, option_map, All, List, [], ◌∷◌, ◌++◌, Option, Some, length, map, reverse, slice_get, sym, ap, ◌∙◌, subst, refl}
use Rattle.std.proofs.lemmas.List.{reverse-append, length-map}
use Rattle.std.proofs.lemmas.Option.{slice_get-map, slice_get_within}
use Rattle.std.proofs.lemmas.List.Elements.{All-append}
use mathlib.Core.List.{append_assoc}
use Rattle.rs_model.specs.Data.{Machine_data}
use Rattle.rs_rings.specs.Passes.{Rings_data}
use Rattle.rs_session.specs.Ends.{AreOf}
use Rattle.rs_session.specs.Stages.{AreFirst, IsOf}
use Rattle.rs_session.specs.declared.stages.Stage.{Stage}
use Rattle.rs_session.proofs.HandedIn.{in_front, map_last}
use Rattle.rs_endpoints.specs.Endpoints.{Endpoint_data, AreBegun, endpoint_at}

only : {A : Type 0} (s x : A) → x ≡ s → All (λ y. y ≡ s) (x ∷ [])
only s x e zero d below = e
only s x e (suc k) d below = absurd (omega arith)

-- all elements are s, and so is one more
pub all_and_one : {A : Type 0} (s x : A) (xs more : List A) → more ≡ xs ++ x ∷ [] → All (λ y. y ≡ s) xs → x ≡ s → All (λ y. y ≡ s) more
all_and_one s x xs more e all one = subst (λ l. All (λ y. y ≡ s) l) (sym e) (All-append (λ y. y ≡ s) xs (x ∷ []) all (only s x one))

pub all_of : (session held : Rings_data) (stages : List Stage) → held ≡ session → AreFirst session stages → AreOf held stages
all_of session held stages same first place stage there =
    let below : place < length session.machines = subst (λ (n : ℕ). place < n) first.count (slice_get_within stages place stage there) in
    let found = first.each place below in
    let both : Some found.0 ≡ Some stage = sym found.1 ∙ there in
    let is : found.0 ≡ stage = cc (both) in
    subst (λ (s : Rings_data). IsOf s stage) (sym same) (subst (λ (s : Stage). IsOf session s) is found.2)

-- one stage more became an endpoint
pub one_more : (session : Rings_data) (all old rest : List Stage) (stage : Stage) (made : List (Option Endpoint_data)) (more : List (Option Endpoint_data))
    → old ≡ rest ++ stage ∷ [] → more ≡ made ++ endpoint_at session stage ∷ [] → map (endpoint_at session) all ≡ map (endpoint_at session) old ++ reverse made
    → map (endpoint_at session) all ≡ map (endpoint_at session) rest ++ reverse more
one_more session all old rest stage made more e f was =
    let at = endpoint_at session in
    let split : map at old ≡ map at rest ++ at stage ∷ [] = ap (map at) e ∙ map_last at rest stage in
    let turned : reverse more ≡ at stage ∷ reverse made = ap reverse f ∙ reverse-append made (at stage ∷ []) in
    was ∙ (ap (λ l. l ++ reverse made) split ∙ (append_assoc (map at rest) (at stage ∷ []) (reverse made) ∙ ap (λ l. map at rest ++ l) (sym turned)))

-- the stages before the last are of the session
pub but_the_last : (session : Rings_data) (old rest : List Stage) (stage : Stage) → old ≡ rest ++ stage ∷ [] → AreOf session old → AreOf session rest
but_the_last session old rest stage e of place it there = of place it (ap (λ (l : List Stage). slice_get l place) e ∙ in_front rest stage it place there)

pub begun : (machines : List Machine_data) (capacity : ℕ) (session held : Rings_data) (stages : List Stage) (endpoints : List (Option Endpoint_data))
    → held ≡ session → session.machines ≡ machines → session.capacity ≡ capacity → AreFirst session stages → endpoints ≡ map (endpoint_at held) stages → AreBegun machines capacity endpoints
begun machines capacity session held stages endpoints same is-machines is-capacity first are =
    let made : endpoints ≡ map (endpoint_at session) stages = are ∙ ap (λ (s : Rings_data). map (endpoint_at s) stages) same in
    record {
      session = session;
      machines_are = is-machines;
      capacity_is = is-capacity;
      count = ap length made ∙ (length-map stages (endpoint_at session) ∙ (first.count ∙ ap length is-machines));
      each = λ r below. (
          let found = first.each r (subst (λ (ms : List Machine_data). r < length ms) (sym is-machines) below) in
          (found.0, ap (λ (l : List (Option Endpoint_data)). slice_get l r) made ∙ (slice_get-map (endpoint_at session) stages r ∙ ap (option_map (endpoint_at session)) found.1), found.2, found.3)
          );
    }
