-- Spots by their buckets: all of them have to be found.
use Rattle.std.proofs.Common.{◌≡◌, ◌≢◌, inl, inr, ℕ, ◌<◌, ◌+◌, List, [], ◌∷◌, ◌++◌, length, get_or, set, replicate, sym, ap, ◌∙◌, subst, arith, suc, Some, slice_get}
use Rattle.rs_graph.proofs.Growth.{at_in}
use Rattle.rs_graph.specs.Lists.{Among}
use Rattle.rs_model.proofs.Chains as chains
use Rattle.rs_model.specs.Chains.{AllAreChained, IsChained}

-- what stands in a chain after a number that isn't it
pub chained_on : (links : List ℕ) (m next n : ℕ) → IsChained links (suc m) n → slice_get links m ≡ Some next → n ≢ m → IsChained links next n
chained_on links m next n c e ne = elim (chains.chained_on links m next n c e) [ inl q ↦ absurd (ne q) | inr d ↦ d ]

pub chained_none : {X : Type 0} (bucket : X → ℕ) (heads links : List ℕ) (size : ℕ) → heads ≡ replicate size 0 → links ≡ [] → AllAreChained bucket [] heads links
chained_none bucket heads links size eh el = rw (eh, el) (chains.chained_none bucket (λ x. Unit {0}) size)

pub chained_push : {X : Type 0} (bucket : X → ℕ) (found : List X) (heads links heads' links' : List ℕ) (p : X) (b head n : ℕ) → b ≡ bucket p → b < length heads → n ≡ length found
    → head ≡ get_or heads b 0
    → links' ≡ links ++ (head ∷ []) → heads' ≡ set heads b (n + 1) → AllAreChained bucket found heads links → AllAreChained bucket (found ++ (p ∷ [])) heads' links'
chained_push bucket found heads links heads' links' p b head n eb within en eh el es a =
    rw (el, es) (chains.chained_push bucket (λ x. Unit {0}) found heads links p b head (n + 1) eb within (omega arith) eh a)

pub not_chained : {X : Type 0} (bucket : X → ℕ) (found : List X) (heads links : List ℕ) (p : X) (b head : ℕ) → b ≡ bucket p → head ≡ get_or heads b 0 → AllAreChained bucket found heads links
    → ((n : ℕ) → IsChained links head n → slice_get found n ≢ Some p) → Among found p → ⊥
not_chained bucket found heads links p b head eb eh a none m =
    let i = at_in found p m in
    none i.0 (subst (λ (z : ℕ). IsChained links z i.0) (ap (λ (z : ℕ). get_or heads z 0) (sym eb) ∙ sym eh) (a.filed i.0 p i.1 tt)) i.1
