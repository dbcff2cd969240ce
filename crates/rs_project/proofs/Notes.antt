-- Receives that are noted agree.
use Rattle.std.proofs.Common.{◌≡◌, inl, inr, ℕ, suc, ◌+◌, ◌<◌, Bool, true, false, ◌||◌, ◌==◌, List, [], ◌∷◌, length, get_or, Option, Some, None, MatchOption, slice_get, refl, sym, ap, ◌∙◌, subst}
use Rattle.std.proofs.Common.{arith}
use Rattle.std.specs.List.{list_any}
use Rattle.std.proofs.lemmas.Bool.{cases_lt}
use Rattle.std.proofs.lemmas.Bool.Decides.{eqb_tells}
use Rattle.std.proofs.lemmas.Option.{get_or_from_slice_get, none-some, same_Some}
use Rattle.rs_model.specs.Data.{Protocol_data}
use Rattle.rs_model.specs.Serving.{sort_number}
use Rattle.rs_model.specs.declared.graph.Arm.{Arm}
use Rattle.rs_model.specs.declared.graph.Node.{Node}
use Rattle.rs_model.specs.declared.graph.Node.TheVariants.{Finished, Talk}
use Rattle.rs_model.specs.declared.graph.Role.{Role}
use Rattle.rs_model.specs.declared.values.Sort.{Sort}
use Rattle.rs_project.specs.Clashes.{AgreeBefore, agree_nodes, both_receive, both_send, is_other_sort, same_sorts}
use Rattle.rs_project.specs.Noted.{AllNoted, AreNotedTalks, IsNotedTalk, IsNotedWith, KeepsNotes}
use Rattle.rs_project.proofs.Agreeing.{agree_sound}
use Rattle.rs_project.proofs.Lists.{at_within}

eqb_same : (a b : ℕ) → a ≡ b → (a == b) ≡ true
eqb_same a b e = elim (eqb_tells a b) [ inl q ↦ q.0 | inr q ↦ absurd (q.1 e) ]

same_eqb : (a b : ℕ) → (a == b) ≡ true → a ≡ b
same_eqb a b h = elim (eqb_tells a b) [ inl q ↦ q.1 | inr q ↦ absurd (cc (h, q.0)) ]

not_other : (sorts : List (Option Sort)) (b a : Arm) → IsNotedWith sorts b → IsNotedWith sorts a → is_other_sort b a ≡ false
not_other sorts b a nb na = elim (eqb_tells b.label.0 a.label.0) [
  | inl q ↦ (let P : ℕ → Type 0 = λ z. slice_get sorts z ≡ Some (Some b.sort) in
      let s : b.sort ≡ a.sort = same_Some b.sort a.sort (same_Some (Some b.sort) (Some a.sort) (sym (subst P q.1 nb) ∙ na)) in
      let e = eqb_same (sort_number b.sort) (sort_number a.sort) (ap (λ (z : Sort). sort_number z) s) in
      rw (q.0, e) refl)
  | inr q ↦ rw q.0 refl
]

none_other : (sorts : List (Option Sort)) (theirs : List Arm) (a : Arm) → AllNoted sorts theirs → IsNotedWith sorts a → list_any (λ b. is_other_sort b a) theirs ≡ false
none_other sorts [] a all na = refl
none_other sorts (b ∷ theirs) a all na = rw (not_other sorts b a (all 0 b refl) na) (none_other sorts theirs a (λ place x e. all (suc place) x e) na)

same_noted : (sorts : List (Option Sort)) (theirs arms : List Arm) → AllNoted sorts theirs → AllNoted sorts arms → same_sorts theirs arms ≡ true
same_noted sorts theirs [] all ours = refl
same_noted sorts theirs (a ∷ arms) all ours = rw (none_other sorts theirs a all (ours 0 a refl)) (same_noted sorts theirs arms all (λ place x e. ours (suc place) x e))

or_true : (a b : Bool) → b ≡ true → (a || b) ≡ true
or_true true b e = refl
or_true false b e = e

nodes_agree : (role sender : Role) (sorts : List (Option Sort)) (one other : Node) → IsNotedTalk role sender sorts one → IsNotedTalk role sender sorts other → agree_nodes role one other ≡ true
nodes_agree role sender sorts Finished other a b = absurd a
nodes_agree role sender sorts (Talk s r arms) Finished a b = absurd b
nodes_agree role sender sorts (Talk s r arms) (Talk t q theirs) a b =
    let e : (s.0 == t.0) ≡ true = eqb_same s.0 t.0 (same_eqb s.0 sender.0 a.0 ∙ sym (same_eqb t.0 sender.0 b.0)) in
    let both : both_receive role (Talk s r arms) (Talk t q theirs) ≡ true = rw (a.1, b.1, e, same_noted sorts theirs arms b.2 a.2) refl in
    or_true (both_send role (Talk s r arms) (Talk t q theirs)) (both_receive role (Talk s r arms) (Talk t q theirs)) both

pub still_noted : (role sender : Role) (old new : List (Option Sort)) (node : Node) → KeepsNotes old new → IsNotedTalk role sender old node → IsNotedTalk role sender new node
still_noted role sender old new Finished keeps a = a
still_noted role sender old new (Talk s r arms) keeps a = (a.0, a.1, λ place x e. keeps x.label.0 x.sort (a.2 place x e))

-- one more talk is noted
pub noted_more : (pr : Protocol_data) (role sender : Role) (old new : List (Option Sort)) (talks : List ℕ) (later t : ℕ) (node : Node) → KeepsNotes old new → slice_get talks later ≡ Some t
    → slice_get pr.nodes t ≡ Some node
    → IsNotedTalk role sender new node → AreNotedTalks pr role sender old talks later → AreNotedTalks pr role sender new talks (later + 1)
noted_more pr role sender old new talks later t node keeps et en is all = λ k u m lt ek em. elim (cases_lt k later) [
  | inl below ↦ still_noted role sender old new m keeps (all k u m below ek em)
  | inr above ↦ (let q : later ≡ k = omega (arith, above, lt) in
      let P : ℕ → Type 0 = λ z. slice_get talks z ≡ Some t in
      let eu : t ≡ u = same_Some t u (sym (subst P q et) ∙ ek) in
      let Q : ℕ → Type 0 = λ z. slice_get pr.nodes z ≡ Some node in
      let same : node ≡ m = same_Some node m (sym (subst Q eu en) ∙ em) in
      let R : Node → Type 0 = λ z. IsNotedTalk role sender new z in subst R same is)
]

-- it agrees with those before it
pub noted_agree : (pr : Protocol_data) (role sender : Role) (sorts : List (Option Sort)) (talks : List ℕ) (later : ℕ) → ((k t : ℕ) → slice_get talks k ≡ Some t → t < length pr.nodes)
    → AreNotedTalks pr role sender sorts talks (later + 1) → AgreeBefore pr role talks later later
noted_agree pr role sender sorts talks later within all = λ h lt c d ec ed.
    let one = at_within pr.nodes c (within h c ec) in
    let other = at_within pr.nodes d (within later d ed) in
    agree_sound pr role c d one.0 other.0 one.1 other.1
    (nodes_agree role sender sorts one.0 other.0 (all h c one.0 (omega (arith, lt)) ec one.1) (all later d other.0 (omega arith) ed other.1))

pub noted_some : {X : Type 0} (o : Option X) (P : Type 0) (Q : X → Type 0) (x : X) → o ≡ Some x → MatchOption o P Q → Q x
noted_some (Some y) P Q x e h = subst Q (same_Some y x e) h
noted_some None P Q x e h = absurd (none-some x e)

pub noted_none : {X : Type 0} (o : Option X) (P : Type 0) (Q : X → Type 0) → o ≡ None → MatchOption o P Q → P
noted_none None P Q e h = h
noted_none (Some y) P Q e h = absurd (none-some y (sym e))

-- one more arm is noted
pub arms_more : (old new : List (Option Sort)) (arms : List Arm) (n : ℕ) (d : Arm) → n < length arms → KeepsNotes old new → IsNotedWith new (get_or arms n d)
    → ((place : ℕ) (a : Arm) → place < n → slice_get arms place ≡ Some a → IsNotedWith old a) → (place : ℕ) (a : Arm) → place < n + 1 → slice_get arms place ≡ Some a → IsNotedWith new a
arms_more old new arms n d within keeps is all place a lt e = elim (cases_lt place n) [
  | inl below ↦ keeps a.label.0 a.sort (all place a below e)
  | inr above ↦ (let q : place ≡ n = omega (arith, above, lt) in
      let P : ℕ → Type 0 = λ z. slice_get arms z ≡ Some a in
      let same : get_or arms n d ≡ a = get_or_from_slice_get arms n a d (subst P q e) in
      let R : Arm → Type 0 = λ z. IsNotedWith new z in subst R same is)
]
