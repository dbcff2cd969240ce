-- Names by their buckets.
use Rattle.std.proofs.Common.{◌≡◌, ◌⊎◌, inl, inr, ℕ, zero, suc, ◌+◌, ◌<◌, ◌≤◌, List, [], ◌∷◌, ◌++◌, length, take, Option, Some, None, MatchOption, slice_get, get_or, set, replicate}
use Rattle.std.proofs.Common.{sym, ap, ◌∙◌, subst, arith}
use Rattle.std.proofs.lemmas.List.{length-set, length-replicate}
use Rattle.std.proofs.lemmas.Option.{none-some, same_Some}
use Rattle.rs_model.specs.Chains.{IsChained}
use Rattle.rs_model.proofs.Chains.{chained_none, chained_on, chained_push, unchained}
use Rattle.rs_text.specs.Names.{place_of}
use Rattle.rs_text.specs.declared.tables.TheConstants.{BUCKETS}
use Rattle.rs_text.specs.Tables.{AreFiled, IsAnyName, bucket_of}
use Rattle.rs_text.proofs.Naming.{place_law, absent_law}

pub none_filed : (names : List (List ℕ)) (heads links : List ℕ) → names ≡ [] → heads ≡ replicate BUCKETS 0 → links ≡ [] → AreFiled names heads links
none_filed names heads links en eh el = rw (en, eh, el) record {
  buckets = length-replicate {A = ℕ} BUCKETS 0;
  chained = chained_none bucket_of IsAnyName BUCKETS;
}

pub filed_on : (names names' : List (List ℕ)) (heads links heads' links' : List ℕ) (name : List ℕ) (b head n : ℕ) → b ≡ bucket_of name → b < BUCKETS → n ≡ length names + 1 → head ≡ get_or heads b 0
    → names' ≡ names ++ (name ∷ []) → links' ≡ links ++ (head ∷ []) → heads' ≡ set heads b n → AreFiled names heads links → AreFiled names' heads' links'
filed_on names names' heads links heads' links' name b head n eb lt en eh ef el es a =
    let size = a.buckets in
    rw (ef, el, es) record {
      buckets = length-set heads b n ∙ a.buckets;
      chained = chained_push bucket_of IsAnyName names heads links name b head n eb (omega arith) (omega arith) eh a.chained;
    }

-- ---- along a chain

-- the places of a chain from its head to `left` were looked at: the last of them at which the word stands was found
pub record Looked (names : List (List ℕ)) (links : List ℕ) (word : List ℕ) (head : ℕ) (found : Option ℕ) (left : ℕ) : Type 0 where
  pub sound : MatchOption found (Unit {0}) (λ p. (slice_get names p ≡ Some word) × (left ≤ p))
  pub whole : (n : ℕ) → IsChained links head n → slice_get names n ≡ Some word → IsChained links left n ⊎ MatchOption found ⊥ (λ p. p ≤ n)

sound_on : (names : List (List ℕ)) (word : List ℕ) (found : Option ℕ) (left next : ℕ) → next ≤ left → MatchOption found (Unit {0}) (λ p. (slice_get names p ≡ Some word) × (left ≤ p))
    → MatchOption found (Unit {0}) (λ p. (slice_get names p ≡ Some word) × (next ≤ p))
sound_on names word None left next less s = tt
sound_on names word (Some p) left next less s = (s.0, omega (arith, less, s.1))

found_below : (names : List (List ℕ)) (word : List ℕ) (found : Option ℕ) (m n : ℕ) → MatchOption found (Unit {0}) (λ p. (slice_get names p ≡ Some word) × (suc m ≤ p))
    → MatchOption found ⊥ (λ p. p ≤ n) → m ≤ n
found_below names word None m n s b = absurd b
found_below names word (Some p) m n s b = omega (arith, s.1, b)

-- the word stands at the next place
pub looked_at : (names : List (List ℕ)) (links : List ℕ) (word : List ℕ) (head : ℕ) (found : Option ℕ) (left m next : ℕ) → left ≡ suc m → slice_get names m ≡ Some word → slice_get links m ≡ Some next
    → next ≤ m
    → Looked names links word head found left → Looked names links word head (Some m) next
looked_at names links word head found left m next el en ek less l = record {
  sound = (en, less);
  whole = λ n c e. elim (l.whole n c e) [
    | inl on ↦ elim (chained_on links m next n (subst (λ (z : ℕ). IsChained links z n) el on) ek) [
      | inl q ↦ inr (omega (arith, q))
      | inr d ↦ inl d
    ]
    | inr below ↦ inr (found_below names word found m n (sound_on names word found left (suc m) (omega (arith, el)) l.sound) below)
  ];
}

-- the least place of the word in the chain, or none
abbrev pub IsLeast : List (List ℕ) → List ℕ → List ℕ → ℕ → Option ℕ → Type 0
IsLeast names links word head found =
    MatchOption found ((n : ℕ) → IsChained links head n → slice_get names n ≡ Some word → ⊥)
    (λ p. (slice_get names p ≡ Some word) × ((n : ℕ) → IsChained links head n → slice_get names n ≡ Some word → p ≤ n))

pub looked_all : (names : List (List ℕ)) (links : List ℕ) (word : List ℕ) (head : ℕ) (found : Option ℕ) (left : ℕ) → left ≡ 0 → Looked names links word head found left
    → IsLeast names links word head found
looked_all names links word head None left z l = λ n c e. elim (l.whole n c e) [ inl d ↦ unchained links left n z d | inr bad ↦ bad ]
looked_all names links word head (Some p) left z l = (l.sound.0, λ n c e. elim (l.whole n c e) [ inl d ↦ absurd (unchained links left n z d) | inr below ↦ below ])

pub least_is : (names : List (List ℕ)) (heads links : List ℕ) (word : List ℕ) (head : ℕ) (found : Option ℕ) → AreFiled names heads links → head ≡ get_or heads (bucket_of word) 0
    → IsLeast names links word head found → found ≡ place_of word names
least_is names heads links word head None filed is least = sym ((absent_law word names).1 (λ k e. least k (subst (λ (z : ℕ). IsChained links z k) (sym is) (filed.chained.filed k word e tt)) e))
least_is names heads links word head (Some p) filed is least = sym ((place_law word names p).1 (record {
  present = least.0;
  first = λ k below e. (let w = least.1 k (subst (λ (z : ℕ). IsChained links z k) (sym is) (filed.chained.filed k word e tt)) e in let bad : ⊥ = omega (arith, w, below) in bad);
}))

pub next_taken : (names : List (List ℕ)) (i k : ℕ) (x : List ℕ) → k ≡ suc i → slice_get names i ≡ Some x → take k names ≡ take i names ++ (x ∷ [])
next_taken names i k x q e = ap (λ (z : ℕ). take z names) q ∙ taken names i e
  where
    taken : (ns : List (List ℕ)) (j : ℕ) → slice_get ns j ≡ Some x → take (suc j) ns ≡ take j ns ++ (x ∷ [])
    taken [] j f = absurd (none-some x f)
    taken (n ∷ ns) zero f = ap (λ z. z ∷ []) (same_Some n x f)
    taken (n ∷ ns) (suc j) f = ap (λ z. n ∷ z) (taken ns j f)
