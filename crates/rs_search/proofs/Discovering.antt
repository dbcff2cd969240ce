-- All that is reached is discovered, or more than so many are: the discovery, carried out on the definitions.
use Rattle.std.proofs.Common.{◌≡◌, ◌⊎◌, inl, inr, ℕ, ◌<◌, ◌≤◌, List, [], ◌∷◌, ◌++◌, length, refl, subst, arith, ◌+◌, suc, zero, take, take_all, length-append}
use Rattle.std.proofs.lemmas.Bool.{cases_lt}
use Rattle.std.proofs.lemmas.Bool.Decides.{eqb_tells}
use Rattle.rs_graph.proofs.Growth.{at_in, at_within, growing_done, growing_large, growing_on, named_known, named_new, named_none, named_on}
use Rattle.rs_graph.specs.Discovery.{IsDiscovery}
use Rattle.rs_graph.specs.Naming.{AreNamed, Growing, MoreThan}
use Rattle.rs_graph.specs.Lists.{Among}

-- any two are the same or aren't
abbrev pub Tells : Type 0 → Type 0
Tells X = (x y : X) → (x ≡ y) ⊎ (x ≡ y → ⊥)

pub same_number : Tells ℕ
same_number x y = elim (eqb_tells x y) [ inl e ↦ inl e.1 | inr e ↦ inr e.1 ]

pub among_or_not : {X : Type 0} → Tells X → (xs : List X) (x : X) → Among xs x ⊎ (Among xs x → ⊥)
among_or_not same [] x = inr (λ h. h)
among_or_not same (y ∷ xs) x = elim (same y x) [
  | inl e ↦ inl (inl e)
  | inr ne ↦ elim (among_or_not same xs x) [
    | inl m ↦ inl (inr m)
    | inr out ↦ inr (λ h. elim h [ inl e ↦ ne e | inr m ↦ out m ])
  ]
]

-- the first n of these are named
record Named {X : Type 0} (old ys : List X) (i : ℕ) : Type 0 where
  pub new : List X
  pub row : List ℕ
  pub are : AreNamed old (take i ys) new row

named : {X : Type 0} → Tells X → (old ys : List X) (n i : ℕ) → i + n ≡ length ys → Named old ys i → Named old ys (length ys)
named same old ys zero i e a = let k : i ≡ length ys = omega arith in subst (λ (z : ℕ). Named old ys z) k a
named {X = X} same old ys (suc n) i e a =
    let y = at_within ys i (omega arith) in
    elim (among_or_not same a.new y.0) [
      | inl m ↦ (let p = at_in a.new y.0 m in
          named same old ys n (i + 1) (omega arith) record {
            new = a.new;
            row = a.row ++ (p.0 ∷ []);
            are = named_on old ys a.new a.new i y.0 p.0 a.row _ y.1 a.are (named_known a.new y.0 p.0 p.1) refl;
          })
      | inr out ↦ named same old ys n (i + 1) (omega arith) record {
        new = a.new ++ (y.0 ∷ []);
        row = a.row ++ (length a.new ∷ []);
        are = named_on old ys a.new (a.new ++ (y.0 ∷ [])) i y.0 (length a.new) a.row _ y.1 a.are (named_new a.new (a.new ++ (y.0 ∷ [])) y.0 (length a.new) out refl refl) refl;
      }
    ]

-- all that is reached, no more than so many
pub record IsWhole {X : Type 0} (next : X → List X) (start : X) (limit : ℕ) : Type 0 where
  pub found : List X
  pub rows : List (List ℕ)
  pub discovery : IsDiscovery next start found rows
  pub bounded : length found ≤ limit

pub discovered : {X : Type 0} → Tells X → (next : X → List X) (start : X) (limit k : ℕ) (found : List X) (rows : List (List ℕ)) → limit < length rows + k → length found ≤ limit
    → Growing next start found rows
    → IsWhole next start limit ⊎ MoreThan limit next start
discovered same next start limit zero found rows lt few g = let a = g.ahead in let bad : ⊥ = omega arith in absurd bad
discovered {X = X} same next start limit (suc k) found rows lt few g = elim (cases_lt (length rows) (length found)) [
  | inr done ↦ inl record { found = found; rows = rows; discovery = growing_done next start found rows g done; bounded = few }
  | inl h ↦ (
      let x = at_within found (length rows) h in
      let a = named same found (next x.0) (length (next x.0)) 0
      (omega arith) record { new = found; row = []; are = subst (λ (z : List X). AreNamed found z found []) (none (next x.0)) (named_none found) } in
      let all = subst (λ (z : List X). AreNamed found z a.new a.row) (take_all (length (next x.0)) (next x.0) (omega arith)) a.are in
      let l = length-append rows (a.row ∷ []) in
      elim (cases_lt limit (length a.new)) [
        | inl many ↦ inr (growing_large next start found rows x.0 limit a.new g x.1 all.grown many)
        | inr fits ↦ discovered same next start limit k a.new (rows ++ (a.row ∷ [])) (omega arith) fits (growing_on next start found rows x.0 a.new a.row g x.1 all)
      ])
]
  where
    none : {X : Type 0} (ys : List X) → [] ≡ take 0 ys
    none [] = refl
    none (y ∷ ys) = refl
