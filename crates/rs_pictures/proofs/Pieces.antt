-- One piece more of a text that is put together piece by piece.
use Rattle.std.proofs.Common.{◌≡◌, ℕ, zero, suc, ◌+◌, List, [], ◌∷◌, ◌++◌, ◌||◌, append_assoc, length, codes, drop, map, Some, slice_get, ◌<◌, get_or, slice_index_or, refl, sym, ap, ◌∙◌, arith}
use Rattle.std.specs.List.{list_any}
use Rattle.rs_model.specs.declared.graph.Arm.{Arm}
use Rattle.rs_model.specs.declared.graph.Node.{Node}
use Rattle.rs_model.specs.declared.values.Sort.TheVariants as sort
use Rattle.rs_text.proofs.Basics.{some_is}
use Rattle.rs_bodies.specs.Places.{place_of_node}
use Rattle.rs_bodies.specs.Shapes.{place_leads}
use Rattle.rs_pictures.specs.Lines.{indent}
use Rattle.rs_pictures.specs.Sequences.{participant_text, participants_text}

one_more : (n : ℕ) → n + 1 ≡ suc n
one_more n = omega arith

pub one_level_more : (depth : ℕ) → indent (depth + 1) ≡ indent depth ++ codes "    "
one_level_more depth = ap indent (one_more depth)

leads_all : (k : ℕ) (nodes : List Node) → list_any (λ node. place_leads k (place_of_node node)) nodes ≡ list_any (place_leads k) (map place_of_node nodes)
leads_all k [] = refl
leads_all k (x ∷ nodes) = ap (λ z. place_leads k (place_of_node x) || z) (leads_all k nodes)

pub leads_in : (n k : ℕ) (nodes : List Node) → list_any (λ node. place_leads k (place_of_node node)) (drop n nodes) ≡ list_any (place_leads k) (drop n (map place_of_node nodes))
leads_in zero k nodes = leads_all k nodes
leads_in (suc n) k [] = refl
leads_in (suc n) k (x ∷ nodes) = leads_in n k nodes

pub participants_on : (n k : ℕ) (names : List (List ℕ)) (name : List ℕ) → slice_get names k ≡ Some name
    → participants_text n (drop k names) ≡ participant_text n name ++ participants_text (suc n) (drop (suc k) names)
participants_on n zero [] name e = absurd (cc e)
participants_on n (suc k) [] name e = absurd (cc e)
participants_on n zero (x ∷ names) name e = rw (sym (some_is x name e)) refl
participants_on n (suc k) (x ∷ names) name e = participants_on n k names name e

-- texts one behind the other, grouped in another way
pub three_grouped : (t a b c : List ℕ) → ((t ++ a) ++ b) ++ c ≡ t ++ (a ++ b ++ c)
three_grouped t a b c = simp append_assoc refl

pub four_grouped : (t a b c d : List ℕ) → (((t ++ a) ++ b) ++ c) ++ d ≡ t ++ a ++ (b ++ c ++ d)
four_grouped t a b c d = simp append_assoc refl

-- the only arm
pub only_arm : (arms : List Arm) → length arms ≡ 1 → arms ≡ slice_index_or arms 0 (record { label = record { 0 = 0 }; sort = sort.Unit; next = 0 }) ∷ []
only_arm [] n = absurd (cc n)
only_arm (y ∷ []) n = refl
only_arm (y ∷ z ∷ arms) n = absurd (omega arith)

pub map_length : {A B : Type 0} (f : A → B) (xs : List A) → length (map f xs) ≡ length xs
map_length f [] = refl
map_length f (x ∷ xs) = ap suc (map_length f xs)

got : {A : Type 0} (xs : List A) (k : ℕ) (x : A) → k < length xs → x ≡ get_or xs k x → slice_get xs k ≡ Some x
got [] k x low e = absurd (omega arith)
got (y ∷ xs) zero x low e = ap Some (sym e)
got (y ∷ xs) (suc k) x low e = got xs k x (omega arith) e

pub participants_behind : (k : ℕ) (names : List (List ℕ)) (name old new : List ℕ) → k < length names → name ≡ get_or names k name → new ≡ old ++ participant_text k name
    → new ++ participants_text (k + 1) (drop (k + 1) names) ≡ old ++ participants_text k (drop k names)
participants_behind k names name old new low e h =
    rw (one_more k) (ap (λ z. z ++ participants_text (suc k) (drop (suc k) names)) h ∙ append_assoc old (participant_text k name) (participants_text (suc k) (drop (suc k) names))
    ∙ ap (λ z. old ++ z) (sym (participants_on k k names name (got names k name low e))))
