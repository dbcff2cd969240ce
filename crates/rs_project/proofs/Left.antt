-- Which nodes a sweep leaves.
use Rattle.std.proofs.Common.{◌≡◌, inl, inr, ℕ, ◌+◌, ◌<◌, ◌≤◌, Bool, true, List, length, Some, slice_get, sym, subst, arith}
use Rattle.std.proofs.lemmas.Bool.{cases_lt}
use Rattle.std.proofs.lemmas.Bool.Decides.{eqb_tells}
use Rattle.rs_model.specs.Data.{Protocol_data}
use Rattle.rs_model.specs.declared.graph.Node.{Node}
use Rattle.rs_project.specs.Marks.{AreLeft, HasFlags, IsOn, leads_on}
use Rattle.rs_project.proofs.Flags.{on_decide}

-- none are told of yet
pub none_left : (from first end : ℕ) (flags : List Bool) → length flags ≤ from → end ≤ length flags → AreLeft from first end flags
none_left from first end flags all within = record {
  within = within;
  each = λ n f h off. absurd (let bad : ⊥ = omega (arith, f, h, all) in bad);
}

-- the stretch holds all that is left
pub left_more : (from first end : ℕ) (old new : List Bool) → length new ≡ length old → HasFlags old new → AreLeft from first end old → AreLeft from first end new
left_more from first end old new size has left = record {
  within = (let w = left.within in omega (arith, w, size));
  each = λ n f h off. left.each n f (omega (arith, h, size)) (λ on. off (has n on));
}

-- one more node, which is flagged
pub left_on : (x first end : ℕ) (flags : List Bool) → IsOn flags x → AreLeft (x + 1) first end flags → AreLeft x first end flags
left_on x first end flags on left = record {
  within = left.within;
  each = λ n f h off. elim (eqb_tells n x) [
    | inl p ↦ (let P : ℕ → Type 0 = λ z. IsOn flags z in absurd (off (let e = p.1 in subst P (sym e) on)))
    | inr p ↦ left.each n (past n f p.1) h off
  ];
}
  where
    past : (n : ℕ) → x ≤ n → (n ≡ x → ⊥) → x + 1 ≤ n
    past n f ne = elim (cases_lt x n) [ inl k ↦ omega (arith, k) | inr k ↦ absurd (ne (omega (arith, f, k))) ]

-- one more node, which is now the first
pub left_with : (x first end end' : ℕ) (flags : List Bool) → end ≤ end' → x < end' → end' ≤ length flags → AreLeft (x + 1) first end flags → AreLeft x x end' flags
left_with x first end end' flags le lt within left = record {
  within = within;
  each = λ n f h off. (
    f,
    (elim (cases_lt x n) [
      | inl k ↦ (let e = (left.each n (omega (arith, k)) h off).1 in omega (arith, e, le))
      | inr k ↦ omega (arith, k, lt)
    ]),
  );
}

-- no node before the stretch is left
pub left_all : (x first first' end first_end : ℕ) (old new : List Bool) → length new ≡ length old → HasFlags old new → AreLeft 0 first first_end old → x ≤ first → AreLeft x first' end new → AreLeft 0 first' end new
left_all x first first' end first_end old new size has before le left = record {
  within = left.within;
  each = λ n f h off. elim (cases_lt n x) [
    | inl k ↦ (let e = (before.each n (omega arith) (omega (arith, h, size)) (λ on. off (has n on))).0 in absurd (let bad : ⊥ = omega (arith, e, k, le) in bad))
    | inr k ↦ left.each n (omega (arith, k)) h off
  ];
}

pub on_unless : (flags : List Bool) (n : ℕ) → ((IsOn flags n → ⊥) → ⊥) → IsOn flags n
on_unless flags n h = elim (on_decide flags n) [ inl on ↦ on | inr off ↦ absurd (h off) ]

-- a sweep came to node k, which is flagged now
pub left_flagged : (number k first end : ℕ) (old new : List Bool) → number ≡ k + 1 → length new ≡ length old → HasFlags old new → IsOn new k → AreLeft number first end old → AreLeft k first end new
left_flagged number k first end old new e size has on left =
    let P : ℕ → Type 0 = λ z. AreLeft z first end new in
    left_on k first end new on (subst P e (left_more number first end old new size has left))

-- each node from that number on that leads to a flagged one is flagged
abbrev SettledFrom : Protocol_data → ℕ → List Bool → Type 0
SettledFrom pr from flags = (n : ℕ) (node : Node) → from ≤ n → slice_get pr.nodes n ≡ Some node → leads_on flags node ≡ true → IsOn flags n

-- the sweep came to node k, and changed nothing
pub settled_more : (pr : Protocol_data) (number k : ℕ) (old new : List Bool) → number ≡ k + 1 → new ≡ old
    → ((node : Node) → slice_get pr.nodes k ≡ Some node → leads_on old node ≡ true → IsOn old k) → SettledFrom pr number old → SettledFrom pr k new
settled_more pr number k old new e same here after =
    let P : List Bool → Type 0 = λ z. SettledFrom pr k z in
    subst P (sym same) (λ n node f is leads. elim (cases_lt k n) [
      | inl lt ↦ after n node (omega (arith, lt, e)) is leads
      | inr le ↦ (let q : k ≡ n = omega (arith, f, le) in
          let Q : ℕ → Type 0 = λ z. IsOn old z in
          let R : ℕ → Type 0 = λ z. slice_get pr.nodes z ≡ Some node in
          subst Q q (here node (subst R (sym q) is) leads))
    ])
