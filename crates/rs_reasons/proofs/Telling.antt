-- How what is told of a machine is put together.
use Rattle.std.proofs.Common.{◌≡◌, ◌⊎◌, inl, inr, ℕ, zero, suc, ◌+◌, ◌<◌, ◌≤◌, min, List, [], ◌∷◌, ◌++◌, map, drop, length, get_or, if◌then◌else◌, Bool, slice_get, Option, Some, None, refl, sym, ap, ap₂, ◌∙◌, arith, append_assoc}
use Rattle.std.specs.List.{flat_map, list_any}
use Rattle.std.proofs.lemmas.Bool.Decides.{leb_tells}
use Rattle.std.proofs.lemmas.List.{append-nil}
use Rattle.std.proofs.Math.Seq.{drop-cons}
use Rattle.std.proofs.Math.Numerals.{suc-eq-add-one}
use Rattle.rs_derive.specs.Data.{DNode_data, Derivation_data}
use Rattle.std.specs.Prelude.{MatchOption}
use Rattle.rs_model.specs.Data.{Machine_data, Names_data, Protocol_data}
use Rattle.rs_model.specs.declared.graph.Arm.{Arm}
use Rattle.rs_model.specs.declared.graph.Role.{Role}
use Rattle.rs_model.specs.declared.machines.State.{State}
use Rattle.rs_model.specs.declared.machines.State.TheVariants.{Done, Puts, Takes}
use Rattle.rs_places.specs.declared.places.Position.{Position}
use Rattle.rs_partings.specs.Partings.{IsParting, PartNowhere}
use Rattle.rs_partings.specs.declared.searching.Parting.{Parting}
use Rattle.rs_project.specs.Data.{Projection_data}
use Rattle.rs_reasons.specs.Ahead.{Standing_data, furthest, further, standing_of}
use Rattle.rs_reasons.specs.Accepted.{machines_lines, own_lines, unused_arm, unused_arms, unused_lines}
use Rattle.rs_reasons.specs.Flagged.{flagged_arms, flagged_lines, flagged_receive, flagged_state, unless_flagged}
use Rattle.rs_reasons.specs.Marks.{AreUses, StateUse_data, use_of}
use Rattle.rs_reasons.specs.Unprojectable.{IsWhereTheyPart}
use Rattle.rs_reasons.specs.Uses.{arms_taken, is_visited, takes}

-- the rest of a list from a place on
pub drop_at : {A : Type 0} (xs : List A) (i : ℕ) (x d : A) → i < length xs → x ≡ get_or xs i d → drop i xs ≡ x ∷ drop (i + 1) xs
drop_at xs i x d lt e = drop-cons xs i d lt ∙ ap₂ (λ z n. z ∷ drop n xs) (sym e) (suc-eq-add-one i)

pub drop_all : {A : Type 0} (xs : List A) (i : ℕ) → length xs ≤ i → drop i xs ≡ []
drop_all [] zero h = refl
drop_all [] (suc i) h = refl
drop_all (x ∷ xs) zero h = absurd (omega (arith, h))
drop_all (x ∷ xs) (suc i) h = drop_all xs i (omega (arith, h))

-- a place behind the shorter of two lists
behind_one : (a b i : ℕ) → min a b ≤ i → (a ≤ i) ⊎ (b ≤ i)
behind_one a b i h = elim (leb_tells a i) [
  | inl le ↦ inl le.1
  | inr more ↦ (let m = more.1 in inr (omega (arith, h, m)))
]

-- a piece that was written of what is still to be written
pub written : (text more rest all piece : List ℕ) → more ≡ text ++ piece → text ++ (piece ++ rest) ≡ all → more ++ rest ≡ all
written text more rest all piece e h = ap (λ z. z ++ rest) e ∙ append_assoc text piece rest ∙ h

-- ---- the lines by flags

pub arms_step : (names : Names_data) (role : List ℕ) (at : Option Position) (peer : Role) (arms : List Arm) (taken : List Bool) (i : ℕ) (a d : Arm) (flag f : Bool) (text more all : List ℕ)
    → i < length arms → i < length taken → a ≡ get_or arms i d → flag ≡ get_or taken i f → more ≡ text ++ unless_flagged names role at peer a flag
    → text ++ flagged_arms names role at peer (drop i arms) (drop i taken) ≡ all → more ++ flagged_arms names role at peer (drop (i + 1) arms) (drop (i + 1) taken) ≡ all
arms_step names role at peer arms taken i a d flag f text more all la lt ea ef e h =
    written text more (flagged_arms names role at peer (drop (i + 1) arms) (drop (i + 1) taken)) all (unless_flagged names role at peer a flag) e
    (sym (ap₂ (λ (x : List Arm) (y : List Bool). text ++ flagged_arms names role at peer x y) (drop_at arms i a d la ea) (drop_at taken i flag f lt ef)) ∙ h)

pub arms_end : (names : Names_data) (role : List ℕ) (at : Option Position) (peer : Role) (arms : List Arm) (taken : List Bool) (i : ℕ) (text all : List ℕ) → min (length arms) (length taken) ≤ i
    → text ++ flagged_arms names role at peer (drop i arms) (drop i taken) ≡ all → text ≡ all
arms_end names role at peer arms taken i text all past h = sym (append-nil text) ∙ ap (λ z. text ++ z) (sym (none (behind_one (length arms) (length taken) i past))) ∙ h
  where
    no_flags : (xs : List Arm) → flagged_arms names role at peer xs [] ≡ []
    no_flags [] = refl
    no_flags (x ∷ xs) = refl

    none : (length arms ≤ i) ⊎ (length taken ≤ i) → flagged_arms names role at peer (drop i arms) (drop i taken) ≡ []
    none (inl le) = ap (λ z. flagged_arms names role at peer z (drop i taken)) (drop_all arms i le)
    none (inr le) = ap (λ z. flagged_arms names role at peer (drop i arms) z) (drop_all taken i le) ∙ no_flags (drop i arms)

pub lines_step : (names : Names_data) (role : List ℕ) (places : List Position) (states : List State) (uses : List StateUse_data) (i : ℕ) (s d : State) (u v : StateUse_data) (text more all : List ℕ)
    → i < length states → i < length uses → s ≡ get_or states i d → u ≡ get_or uses i v → more ≡ text ++ flagged_state names role (slice_get places i) s u
    → text ++ flagged_lines names role places i (drop i states) (drop i uses) ≡ all → more ++ flagged_lines names role places (i + 1) (drop (i + 1) states) (drop (i + 1) uses) ≡ all
lines_step names role places states uses i s d u v text more all ls lu es eu e h =
    written text more (flagged_lines names role places (i + 1) (drop (i + 1) states) (drop (i + 1) uses)) all (flagged_state names role (slice_get places i) s u) e
    (ap (λ (n : ℕ). text ++ (flagged_state names role (slice_get places i) s u ++ flagged_lines names role places n (drop (i + 1) states) (drop (i + 1) uses))) (sym (suc-eq-add-one i))
    ∙ sym (ap₂ (λ (x : List State) (y : List StateUse_data). text ++ flagged_lines names role places i x y) (drop_at states i s d ls es) (drop_at uses i u v lu eu)) ∙ h)

pub lines_end : (names : Names_data) (role : List ℕ) (places : List Position) (states : List State) (uses : List StateUse_data) (i : ℕ) (text all : List ℕ) → min (length states) (length uses) ≤ i
    → text ++ flagged_lines names role places i (drop i states) (drop i uses) ≡ all → text ≡ all
lines_end names role places states uses i text all past h = sym (append-nil text) ∙ ap (λ z. text ++ z) (sym (none (behind_one (length states) (length uses) i past))) ∙ h
  where
    no_uses : (xs : List State) → flagged_lines names role places i xs [] ≡ []
    no_uses [] = refl
    no_uses (x ∷ xs) = refl

    none : (length states ≤ i) ⊎ (length uses ≤ i) → flagged_lines names role places i (drop i states) (drop i uses) ≡ []
    none (inl le) = ap (λ z. flagged_lines names role places i z (drop i uses)) (drop_all states i le)
    none (inr le) = ap (λ z. flagged_lines names role places i (drop i states) z) (drop_all uses i le) ∙ no_uses (drop i states)

-- ---- the flags tell what is meant

arms_flagged : (names : Names_data) (role : List ℕ) (nodes : List DNode_data) (number : ℕ) (at : Option Position) (peer : Role) (arms : List Arm)
    → flagged_arms names role at peer arms (map (λ (a : Arm). list_any (takes number peer a.label) nodes) arms) ≡ flat_map (unused_arm names role nodes number at peer) arms
arms_flagged names role nodes number at peer [] = refl
arms_flagged names role nodes number at peer (a ∷ arms) = ap (λ z. unused_arm names role nodes number at peer a ++ z) (arms_flagged names role nodes number at peer arms)

receive_flagged : (names : Names_data) (role : List ℕ) (nodes : List DNode_data) (number : ℕ) (at : Option Position) (s : State)
    → flagged_receive names role at s (arms_taken nodes number s) ≡ unused_arms names role nodes number at s
receive_flagged names role nodes number at Done = refl
receive_flagged names role nodes number at (Puts peer arms) = refl
receive_flagged names role nodes number at (Takes peer arms) = arms_flagged names role nodes number at peer arms

-- the uses of the states from a number on
lines_flagged : (names : Names_data) (role : List ℕ) (places : List Position) (nodes : List DNode_data) (n : ℕ) (states : List State) (uses : List StateUse_data) → length uses ≡ length states
    → ((k : ℕ) (s : State) (u : StateUse_data) → slice_get states k ≡ Some s → slice_get uses k ≡ Some u → u ≡ use_of nodes (n + k) s)
    → flagged_lines names role places n states uses ≡ unused_lines names role places nodes n states
lines_flagged names role places nodes n [] uses size h = refl
lines_flagged names role places nodes n (s ∷ states) [] size h = let bad : ⊥ = omega (arith, size) in absurd bad
lines_flagged names role places nodes n (s ∷ states) (u ∷ uses) size h =
    let here : n + 0 ≡ n = omega arith in
    let first : u ≡ use_of nodes n s = h 0 s u refl refl ∙ ap (λ (k : ℕ). use_of nodes k s) here in
    let later = lines_flagged names role places nodes (suc n) states uses (omega (arith, size))
    (λ k t v ht hv. (let on : n + suc k ≡ suc n + k = omega arith in h (suc k) t v ht hv ∙ ap (λ (m : ℕ). use_of nodes m t) on)) in
    ap₂ (λ x y. x ++ y)
    (ap (flagged_state names role (slice_get places n) s) first
    ∙ ap (λ (z : List ℕ). if is_visited nodes n then z else []) (receive_flagged names role nodes n (slice_get places n) s)) later

pub uses_tell : (names : Names_data) (role : List ℕ) (places : List Position) (nodes : List DNode_data) (states : List State) (uses : List StateUse_data) → AreUses nodes states uses
    → flagged_lines names role places 0 states uses ≡ unused_lines names role places nodes 0 states
uses_tell names role places nodes states uses h =
    lines_flagged names role places nodes 0 states uses h.many (λ k s u hs hu. (let on : k ≡ 0 + k = omega arith in h.each k s u hs hu ∙ ap (λ (m : ℕ). use_of nodes m s) on))

-- ---- the roles

pub roles_step : (names : Names_data) (places : List (List Position)) (machines : List (Option Machine_data)) (projections : List Projection_data) (derivations : List Derivation_data) (i : ℕ)
    (m n : Option Machine_data) (j k : Projection_data) (x y : Derivation_data) (text more all : List ℕ)
    → i < length machines → i < length projections → i < length derivations → m ≡ get_or machines i n → j ≡ get_or projections i k → x ≡ get_or derivations i y
    → more ≡ text ++ own_lines names places i m j x
    → text ++ machines_lines names places i (drop i machines) (drop i projections) (drop i derivations) ≡ all
    → more ++ machines_lines names places (i + 1) (drop (i + 1) machines) (drop (i + 1) projections) (drop (i + 1) derivations) ≡ all
roles_step names places machines projections derivations i m n j k x y text more all lm lj ld em ej ed e h =
    written text more (machines_lines names places (i + 1) (drop (i + 1) machines) (drop (i + 1) projections) (drop (i + 1) derivations)) all (own_lines names places i m j x) e
    (ap (λ (r : ℕ). text ++ (own_lines names places i m j x ++ machines_lines names places r (drop (i + 1) machines) (drop (i + 1) projections) (drop (i + 1) derivations))) (sym (suc-eq-add-one i))
    ∙ sym (ap₂ (λ (a : List (Option Machine_data)) (b : List Projection_data). text ++ machines_lines names places i a b (x ∷ drop (i + 1) derivations)) (drop_at machines i m n lm em)
    (drop_at projections i j k lj ej))
    ∙ sym (ap (λ (b : List Derivation_data). text ++ machines_lines names places i (drop i machines) (drop i projections) b) (drop_at derivations i x y ld ed)) ∙ h)

pub roles_end : (names : Names_data) (places : List (List Position)) (machines : List (Option Machine_data)) (projections : List Projection_data) (derivations : List Derivation_data) (i : ℕ)
    (text all : List ℕ) → min (min (length machines) (length projections)) (length derivations) ≤ i
    → text ++ machines_lines names places i (drop i machines) (drop i projections) (drop i derivations) ≡ all → text ≡ all
roles_end names places machines projections derivations i text all past h =
    sym (append-nil text) ∙ ap (λ z. text ++ z) (sym (none (behind_one (min (length machines) (length projections)) (length derivations) i past))) ∙ h
  where
    no_projections : (xs : List (Option Machine_data)) (zs : List Derivation_data) → machines_lines names places i xs [] zs ≡ []
    no_projections [] zs = refl
    no_projections (x ∷ xs) zs = refl

    no_derivations : (xs : List (Option Machine_data)) (ys : List Projection_data) → machines_lines names places i xs ys [] ≡ []
    no_derivations [] ys = refl
    no_derivations (x ∷ xs) [] = refl
    no_derivations (x ∷ xs) (y ∷ ys) = refl

    none : (min (length machines) (length projections) ≤ i) ⊎ (length derivations ≤ i) → machines_lines names places i (drop i machines) (drop i projections) (drop i derivations) ≡ []
    none (inl le) = elim (behind_one (length machines) (length projections) i le) [
      | inl one ↦ ap (λ z. machines_lines names places i z (drop i projections) (drop i derivations)) (drop_all machines i one)
      | inr one ↦ ap (λ z. machines_lines names places i (drop i machines) z (drop i derivations)) (drop_all projections i one) ∙ no_projections (drop i machines) (drop i derivations)
    ]
    none (inr le) = ap (λ z. machines_lines names places i (drop i machines) (drop i projections) z) (drop_all derivations i le) ∙ no_derivations (drop i machines) (drop i projections)

-- ---- the furthest standing

pub furthest_step : (sub above : Machine_data) (best : Standing_data) (nodes : List DNode_data) (i : ℕ) (n d : DNode_data) (all : Standing_data) → i < length nodes → n ≡ get_or nodes i d
    → furthest sub above best (drop i nodes) ≡ all → furthest sub above (further best (standing_of sub above n)) (drop (i + 1) nodes) ≡ all
furthest_step sub above best nodes i n d all lt e h = sym (ap (furthest sub above best) (drop_at nodes i n d lt e)) ∙ h

-- ---- where the ways part

pub where_is : (protocol : Protocol_data) (role : Role) (a : ℕ) (b : Option ℕ) (o : Option Parting) → MatchOption o (PartNowhere protocol role a b) (λ p. IsParting protocol role a b p)
    → IsWhereTheyPart protocol role a b o
where_is protocol role a b None h = h
where_is protocol role a b (Some p) h = h
