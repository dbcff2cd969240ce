-- What the derivations of a session stay within: the figures of which the room is made.
use Rattle.std.proofs.Common.{◌≡◌, inl, inr, ℕ, suc, ◌*◌, ◌<◌, ◌≤◌, List, [], ◌∷◌, map, Some, slice_get, length, refl, sym, ◌∙◌, arith, get_or}
use Rattle.std.proofs.lemmas.Option.{slice_get-get_or, slice_get-map, none-some}
use Rattle.rs_derive.specs.Data.{DNode_data, Derivation_data}
use Rattle.rs_derive.specs.Figures.{IsGreatest, greatest}
use Rattle.rs_derive.proofs.Greatest as greatest
use Rattle.rs_safety.specs.Room.{longest, top_rank, lag}

-- at each node no more than so many acts are owed, and the rank is at most that
pub record Limits (d : Derivation_data) (long top : ℕ) : Type 0 where
  pub pending : (i : ℕ) (n : DNode_data) → slice_get d.nodes i ≡ Some n → length n.pending ≤ long
  pub rank : (i : ℕ) (n : DNode_data) → slice_get d.nodes i ≡ Some n → n.rank ≤ top

-- of all roles, what is owed is at most L, and the lag at most B
pub record Bounds (roles : ℕ) (long top : ℕ → ℕ) (L B : ℕ) : Type 0 where
  pub long' : (p : ℕ) → p < roles → long p ≤ L
  pub lag : (p : ℕ) → p < roles → long p * suc (top p) ≤ B

-- a list has one greatest number
pub one_greatest : (xs : List ℕ) (m n : ℕ) → IsGreatest xs m → IsGreatest xs n → m ≡ n
one_greatest [] m n a b = elim a.among [
  | inl x ↦ elim b.among [ inl y ↦ x.1 ∙ sym y.1 | inr y ↦ absurd (none-some n y.1) ]
  | inr x ↦ absurd (none-some m x.1)
]
one_greatest (x ∷ xs) m n a b = elim a.among [
  | inl y ↦ absurd (cc (y.0))
  | inr y ↦ elim b.among [
    | inl z ↦ absurd (cc (z.0))
    | inr z ↦ (let p = b.most y.0 m y.1 in let q = a.most z.0 n z.1 in omega (arith, p, q))
  ]
]

-- what stands at a place of a list has at most the greatest figure
at_most : {A : Type 0} (f : A → ℕ) (xs : List A) (i : ℕ) (x : A) → slice_get xs i ≡ Some x → f x ≤ greatest (map f xs) 0
at_most f xs i x h =
    let g : slice_get (map f xs) i ≡ Some (f x) = rw (slice_get-map f xs i, h) refl in
    (greatest.is (map f xs)).most i (f x) g

pub limits : (d : Derivation_data) → Limits d (longest d) (top_rank d)
limits d = record {
  pending = at_most (λ (n : DNode_data). length n.pending) d.nodes;
  rank = at_most (λ (n : DNode_data). n.rank) d.nodes;
}

pub bounds : (ds : List Derivation_data) (x : Derivation_data) (roles : ℕ) → length ds ≡ roles
    → Bounds roles (λ p. longest (get_or ds p x)) (λ p. top_rank (get_or ds p x)) (greatest (map longest ds) 0) (greatest (map lag ds) 0)
bounds ds x roles many = record {
  long' = λ p hp. at_most longest ds p (get_or ds p x) (slice_get-get_or ds p x (omega (arith, many)));
  lag = λ p hp. at_most lag ds p (get_or ds p x) (slice_get-get_or ds p x (omega (arith, many)));
}
