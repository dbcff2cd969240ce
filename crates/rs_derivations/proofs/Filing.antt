-- Lists by their buckets.
use Rattle.std.proofs.Common.{◌≡◌, ℕ, zero, suc, ◌-◌, ◌<◌, List, [], ◌∷◌, ◌++◌, ◌≤◌, inl, inr, length, map, Bool, true, false, Some, slice_get, slice_index_or, get_or, set, replicate, refl, sym, ap, ◌∙◌, subst, arith}
use Rattle.std.proofs.lemmas.List.{length-set, length-replicate}
use Rattle.rs_model.specs.Chains.{AllAreChained, IsChained}
use Rattle.std.proofs.lemmas.Bool.{false≢true}
use Rattle.std.proofs.lemmas.Option.{same_Some}
use Rattle.rs_graph.proofs.Growth.{reads_at}
use Rattle.rs_model.proofs.Chains.{chained_none, chained_on, chained_push}
use Rattle.rs_derive.proofs.Acts.{acts_are, acts_same}
use Rattle.rs_derive.proofs.Mapped.{map_at}
use Rattle.rs_derive.specs.Targets.{same_acts}
use Rattle.rs_model.specs.declared.machines.Act.{Act}
use Rattle.rs_derivations.specs.ListTables.{AreFiled, bucket_among}
use Rattle.rs_derivations.specs.PendingLists.{is_one_of, list_number, number_from}
use Rattle.rs_derivations.proofs.Listed.{has_place, none_numbered, number_is_from, number_none, numbered_on}

pub none_filed : (lists : List (List Act)) (heads links : List ℕ) (count : ℕ) → lists ≡ [] → heads ≡ replicate count 0 → 0 < count → links ≡ [] → AreFiled lists heads links
none_filed lists heads links count en eh some el =
    let l = length-replicate {A = ℕ} count 0 in
    rw (en, eh, el) record { some = omega arith; chained = chained_none (bucket_among (length (replicate {A = ℕ} count 0))) (λ x. Unit {0}) count; numbered = none_numbered }

pub filed_on : (lists lists' : List (List Act)) (heads links heads' links' : List ℕ) (new : List Act) (b head n : ℕ) → b ≡ bucket_among (length heads) new → b < length heads → n ≡ suc (length lists)
    → head ≡ get_or heads b 0
    → lists' ≡ lists ++ new ∷ [] → links' ≡ links ++ head ∷ [] → heads' ≡ set heads b n → is_one_of lists new ≡ false → AreFiled lists heads links → AreFiled lists' heads' links'
filed_on lists lists' heads links heads' links' new b head n eb lt en eh ef el es absent a =
    let size = length-set heads b n in
    let some = a.some in
    rw (ef, el, es) record {
      some = omega arith;
      chained = subst (λ (z : ℕ). AllAreChained (bucket_among z) (lists ++ new ∷ []) (set heads b n) (links ++ head ∷ [])) (sym size)
          (chained_push (bucket_among (length heads)) (λ x. Unit {0}) lists heads links new b head n eb lt en eh a.chained);
      numbered = numbered_on lists new a.numbered absent;
    }

-- what is found along the chain of a list is its number
none_along : (b : Bool) (lists : List (List Act)) (heads links : List ℕ) (acts : List Act) (head : ℕ) → is_one_of lists acts ≡ b → AreFiled lists heads links → head ≡ get_or heads (bucket_among (length heads) acts) 0
    → ((n : ℕ) → IsChained links head n → slice_get lists n ≡ Some acts → ⊥) → 0 ≡ number_from 1 lists acts
none_along false lists heads links acts head e a eh none = sym (number_none lists 1 acts e)
none_along true lists heads links acts head e a eh none =
    let p = has_place lists 1 acts e in
    absurd (none p.place (subst (λ (z : ℕ). IsChained links z p.place) (sym eh) (a.chained.filed p.place acts p.there tt)) p.there)

pub number_is : (lists : List (List Act)) (heads links : List ℕ) (acts : List Act) (head r : ℕ) → AreFiled lists heads links → 0 < length acts → head ≡ get_or heads (bucket_among (length heads) acts) 0
    → (r ≡ 0 → (n : ℕ) → IsChained links head n → slice_get lists n ≡ Some acts → ⊥) → (0 < r → slice_get lists (r - 1) ≡ Some acts) → r ≡ list_number lists acts
number_is lists heads links acts head zero a some eh none found = none_along (is_one_of lists acts) lists heads links acts head refl a eh (none refl) ∙ sym (number_is_from lists acts some)
number_is lists heads links acts head (suc p) a some eh none found =
    let down : suc p - 1 ≡ p = omega arith in
    sym (a.numbered p acts (subst (λ (z : ℕ). slice_get lists z ≡ Some acts) down (found (omega arith)))) ∙ sym (number_is_from lists acts some)

-- ---- along a chain

pub stands_at : {X : Type 0} (f : X → List Act) (xs : List X) (left : ℕ) (d : X) (acts : List Act) → 0 < left → left ≤ length xs → true ≡ same_acts (f (slice_index_or xs (left - 1) d)) acts
    → slice_get (map f xs) (left - 1) ≡ Some acts
stands_at f xs left d acts some within e =
    let x = slice_index_or xs (left - 1) d in
    map_at f xs (left - 1) x (reads_at xs (left - 1) x d (omega arith) refl) ∙ ap Some (acts_are (f x) acts (sym e))

pub not_at : {X : Type 0} (f : X → List Act) (xs : List X) (left : ℕ) (d : X) (acts : List Act) → 0 < left → left ≤ length xs → false ≡ same_acts (f (slice_index_or xs (left - 1) d)) acts
    → slice_get (map f xs) (left - 1) ≡ Some acts → ⊥
not_at f xs left d acts some within e at =
    let x = slice_index_or xs (left - 1) d in
    let same : f x ≡ acts = same_Some (f x) acts (sym (map_at f xs (left - 1) x (reads_at xs (left - 1) x d (omega arith) refl)) ∙ at) in
    false≢true (e ∙ ap (λ (z : List Act). same_acts z acts) same ∙ acts_same acts)

-- what isn't at the head of the chain stands further on
pub further : (lists : List (List Act)) (links : List ℕ) (left head next : ℕ) (acts : List Act) → 0 < left → slice_get links (left - 1) ≡ Some next → (slice_get lists (left - 1) ≡ Some acts → ⊥)
    → ((n : ℕ) → IsChained links head n → slice_get lists n ≡ Some acts → IsChained links left n)
    → (n : ℕ) → IsChained links head n → slice_get lists n ≡ Some acts → IsChained links next n
further lists links left head next acts some link other chained n c e =
    let up : left ≡ suc (left - 1) = omega arith in
    elim (chained_on links (left - 1) next n (subst (λ (z : ℕ). IsChained links z n) up (chained n c e)) link) [
      | inl q ↦ absurd (other (ap (λ (z : ℕ). slice_get lists z) (sym q) ∙ e))
      | inr d ↦ d
    ]
