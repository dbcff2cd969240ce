-- How the flags of arms are set, arm by arm and node by node.
use Rattle.std.proofs.Common.{◌≡◌, ◌≢◌, ◌⊎◌, inl, inr, ℕ, zero, suc, ◌+◌, ◌<◌, ◌≤◌, List, [], ◌∷◌, ◌++◌, map, take, length, replicate, get_or, Bool, true, false, ◌||◌, ◌&&◌, ◌==◌, slice_get, slice_set, Option, Some, None, refl, sym, ap, ap₂, subst, ◌∙◌, arith, length-append}
use Rattle.std.proofs.lemmas.Bool.{eq-eqb}
use Rattle.std.proofs.lemmas.Bool.Decides.{eqb_tells}
use Rattle.std.proofs.lemmas.List.Folds.{list_any-append}
use Rattle.std.proofs.lemmas.List.{length-set}
use Rattle.std.proofs.lemmas.Option.{slice_get-get_or, slice_get_within, same_Some}
use Rattle.std.specs.List.{list_any}
use Rattle.rs_derive.specs.Data.{DNode_data}
use Rattle.rs_graph.proofs.Growth.{take_on}
use Rattle.rs_model.proofs.Lists.{either_at}
use Rattle.rs_model.specs.declared.graph.Arm.{Arm}
use Rattle.rs_model.specs.declared.graph.Label.{Label}
use Rattle.rs_model.specs.declared.graph.Role.{Role}
use Rattle.rs_model.specs.declared.machines.State.{State}
use Rattle.rs_model.specs.declared.machines.State.TheVariants.{Done, Puts, Takes}
use Rattle.rs_reasons.specs.Marks.{AreUses, StateUse_data, arms_of_receive, marked, marked_by, noted, use_of}
use Rattle.rs_reasons.specs.Uses.{arms_taken, is_label, label_next, takes}

-- no node takes an arm
none_of : (state : ℕ) (peer : Role) (arms : List Arm) → replicate (length arms) false ≡ map (λ (a : Arm). list_any (takes state peer a.label) []) arms
none_of state peer [] = refl
none_of state peer (a ∷ arms) = ap (λ z. false ∷ z) (none_of state peer arms)

pub none_taken : (number : ℕ) (state : State) → replicate (length (arms_of_receive state)) false ≡ arms_taken [] number state
none_taken number Done = refl
none_taken number (Puts peer arms) = refl
none_taken number (Takes peer arms) = none_of number peer arms

-- the flag of one arm more is set
pub marked_next : (label : Label) (arms : List Arm) (taken : List Bool) (i : ℕ) (a : Arm) (flag : Bool) → i < length arms → i < length (marked label (take i arms) taken)
    → flag ≡ get_or (marked label (take i arms) taken) i flag
    → slice_set (marked label (take i arms) taken) i (flag || ((get_or arms i a).label.0 == label.0)) ≡ marked label (take (suc i) arms) taken
marked_next label [] taken i a flag h k e = absurd (omega (arith, h))
marked_next label (x ∷ arms) [] zero a flag h k e = absurd (omega (arith, k))
marked_next label (x ∷ arms) [] (suc i) a flag h k e = absurd (omega (arith, k))
marked_next label (x ∷ arms) (f ∷ taken) zero a flag h k e = ap (λ z. (z || (x.label.0 == label.0)) ∷ taken) e
marked_next label (x ∷ arms) (f ∷ taken) (suc i) a flag h k e =
    ap (λ z. (f || (x.label.0 == label.0)) ∷ z) (marked_next label arms taken i a flag (omega (arith, h)) (omega (arith, k)) e)

-- there is no flag for the arm
pub marked_past : (label : Label) (arms : List Arm) (taken : List Bool) (i : ℕ) → length (marked label (take i arms) taken) ≤ i → marked label (take i arms) taken ≡ marked label (take (suc i) arms) taken
marked_past label [] taken zero h = refl
marked_past label [] taken (suc i) h = refl
marked_past label (x ∷ arms) [] zero h = refl
marked_past label (x ∷ arms) [] (suc i) h = refl
marked_past label (x ∷ arms) (f ∷ taken) zero h = absurd (omega (arith, h))
marked_past label (x ∷ arms) (f ∷ taken) (suc i) h = ap (λ z. (f || (x.label.0 == label.0)) ∷ z) (marked_past label arms taken i (omega (arith, h)))

-- the loop over the arms
pub with_flag : (label : Label) (arms : List Arm) (old items items' : List Bool) (i : ℕ) (a : Arm) (flag is : Bool) → i < length arms → i < length items → flag ≡ get_or items i flag
    → is ≡ ((get_or arms i a).label.0 == label.0) → items ≡ marked label (take i arms) old → items' ≡ slice_set items i (flag || is) → items' ≡ marked label (take (i + 1) arms) old
with_flag label arms old items items' i a flag is h k v e m n =
    let more : i + 1 ≡ suc i = omega arith in
    let k' : i < length (marked label (take i arms) old) = subst (λ (z : List Bool). i < length z) m k in
    let v' : flag ≡ get_or (marked label (take i arms) old) i flag = subst (λ (z : List Bool). flag ≡ get_or z i flag) m v in
    n ∙ ap (λ (z : Bool). slice_set items i (flag || z)) e ∙ ap (λ (z : List Bool). slice_set z i (flag || ((get_or arms i a).label.0 == label.0))) m
    ∙ marked_next label arms old i a flag h k' v' ∙ ap (λ (z : ℕ). marked label (take z arms) old) (sym more)

pub without_flag : (label : Label) (arms : List Arm) (old items items' : List Bool) (i : ℕ) → length items ≤ i → items ≡ marked label (take i arms) old → items' ≡ items
    → items' ≡ marked label (take (i + 1) arms) old
without_flag label arms old items items' i past m n =
    let more : i + 1 ≡ suc i = omega arith in
    n ∙ m ∙ marked_past label arms old i (subst (λ (z : List Bool). length z ≤ i) m past) ∙ ap (λ (z : ℕ). marked label (take z arms) old) (sym more)

-- one node more
any_on : (p : DNode_data → Bool) (nodes : List DNode_data) (n : DNode_data) (b : Bool) → p n ≡ b → list_any p (nodes ++ n ∷ []) ≡ (list_any p nodes || b)
any_on p nodes n true e = list_any-append p nodes (n ∷ []) ∙ ap (λ z. list_any p nodes || (z || false)) e
any_on p nodes n false e = list_any-append p nodes (n ∷ []) ∙ ap (λ z. list_any p nodes || (z || false)) e

-- a test that fails at the node
any_kept : (p : DNode_data → Bool) (nodes : List DNode_data) (n : DNode_data) → p n ≡ false → list_any p (nodes ++ n ∷ []) ≡ list_any p nodes
any_kept p nodes n e = any_on p nodes n false e ∙ or_false (list_any p nodes)
  where
    or_false : (b : Bool) → (b || false) ≡ b
    or_false true = refl
    or_false false = refl

-- a test that the node passes
any_told : (p : DNode_data → Bool) (nodes : List DNode_data) (n : DNode_data) → p n ≡ true → list_any p (nodes ++ n ∷ []) ≡ true
any_told p nodes n e = any_on p nodes n true e ∙ or_true (list_any p nodes)
  where
    or_true : (b : Bool) → (b || true) ≡ true
    or_true true = refl
    or_true false = refl

-- ---- the uses of all states

-- the node stands at another state
elsewhere : (peer : Role) (state : ℕ) (label : Label) (n : DNode_data) → (n.state == state) ≡ false → takes state peer label n ≡ false
elsewhere peer state label n e = ap (λ (z : Bool). z && is_label (label_next n.pending peer) label) e

flags_elsewhere : (nodes : List DNode_data) (n : DNode_data) (number : ℕ) (peer : Role) (arms : List Arm) → (n.state == number) ≡ false
    → map (λ (a : Arm). list_any (takes number peer a.label) (nodes ++ n ∷ [])) arms ≡ map (λ (a : Arm). list_any (takes number peer a.label) nodes) arms
flags_elsewhere nodes n number peer [] e = refl
flags_elsewhere nodes n number peer (a ∷ arms) e =
    ap₂ (λ (x : Bool) (y : List Bool). x ∷ y) (any_kept (takes number peer a.label) nodes n (elsewhere peer number a.label n e)) (flags_elsewhere nodes n number peer arms e)

use_elsewhere : (nodes : List DNode_data) (n : DNode_data) (number : ℕ) (state : State) → (n.state == number) ≡ false → use_of (nodes ++ n ∷ []) number state ≡ use_of nodes number state
use_elsewhere nodes n number state e =
    ap₂ (λ (x : Bool) (y : List Bool). record { visited = x; taken = y }) (any_kept (λ (m : DNode_data). m.state == number) nodes n e) (of state)
  where
    of : (s : State) → arms_taken (nodes ++ n ∷ []) number s ≡ arms_taken nodes number s
    of Done = refl
    of (Puts peer arms) = refl
    of (Takes peer arms) = flags_elsewhere nodes n number peer arms e

-- the node stands at the state
here : (peer : Role) (state : ℕ) (label : Label) (n : DNode_data) (next : Option Label) → (n.state == state) ≡ true → label_next n.pending peer ≡ next → takes state peer label n ≡ is_label next label
here peer state label n next e f = ap (λ (z : Bool). z && is_label (label_next n.pending peer) label) e ∙ ap (λ (z : Option Label). is_label z label) f

flags_here : (nodes : List DNode_data) (n : DNode_data) (number : ℕ) (peer : Role) (arms : List Arm) (next : Option Label) → (n.state == number) ≡ true → label_next n.pending peer ≡ next
    → marked_by next arms (map (λ (a : Arm). list_any (takes number peer a.label) nodes) arms) ≡ map (λ (a : Arm). list_any (takes number peer a.label) (nodes ++ n ∷ [])) arms
flags_here nodes n number peer [] None e f = refl
flags_here nodes n number peer [] (Some label) e f = refl
flags_here nodes n number peer (a ∷ arms) None e f =
    ap₂ (λ (x : Bool) (y : List Bool). x ∷ y) (sym (any_kept (takes number peer a.label) nodes n (here peer number a.label n None e f))) (flags_here nodes n number peer arms None e f)
flags_here nodes n number peer (a ∷ arms) (Some label) e f =
    ap₂ (λ (x : Bool) (y : List Bool). x ∷ y) (sym (any_on (takes number peer a.label) nodes n (a.label.0 == label.0) (here peer number a.label n (Some label) e f)))
    (flags_here nodes n number peer arms (Some label) e f)

use_here : (nodes : List DNode_data) (n : DNode_data) (number : ℕ) (state : State) → (n.state == number) ≡ true → noted state n.pending (use_of nodes number state) ≡ use_of (nodes ++ n ∷ []) number state
use_here nodes n number Done e = ap (λ (x : Bool). record { visited = x; taken = [] }) (sym (any_told (λ (m : DNode_data). m.state == number) nodes n e))
use_here nodes n number (Puts peer arms) e = ap (λ (x : Bool). record { visited = x; taken = [] }) (sym (any_told (λ (m : DNode_data). m.state == number) nodes n e))
use_here nodes n number (Takes peer arms) e =
    ap₂ (λ (x : Bool) (y : List Bool). record { visited = x; taken = y }) (sym (any_told (λ (m : DNode_data). m.state == number) nodes n e))
    (flags_here nodes n number peer arms (label_next n.pending peer) e refl)

-- what stands at a place of a list of which one place was set
set_or_kept : {A : Type 0} (xs : List A) (k : ℕ) (y : A) (i : ℕ) (x : A) → slice_get (slice_set xs k y) i ≡ Some x → ((k ≡ i) × (y ≡ x)) ⊎ ((k ≢ i) × (slice_get xs i ≡ Some x))
set_or_kept [] k y i x e = absurd (cc e)
set_or_kept (z ∷ xs) zero y zero x e = inl (refl, same_Some y x e)
set_or_kept (z ∷ xs) zero y (suc i) x e = inr ((λ h. omega (arith, h)), e)
set_or_kept (z ∷ xs) (suc k) y zero x e = inr ((λ h. omega (arith, h)), e)
set_or_kept (z ∷ xs) (suc k) y (suc i) x e = elim (set_or_kept xs k y i x e) [
  | inl new ↦ (let same = new.0 in inl (omega (arith, same), new.1))
  | inr old ↦ inr ((λ h. (let same : k ≡ i = omega (arith, h) in old.0 same)), old.1)
]

-- two numbers that differ
pub differ : (a b : ℕ) → a ≢ b → (a == b) ≡ false
differ a b h = elim (eqb_tells a b) [
  | inl same ↦ absurd (h same.1)
  | inr other ↦ other.0
]

-- one state more, at which no node stands yet
pub one_state_more : (states : List State) (uses : List StateUse_data) (i : ℕ) (s : State) (u : StateUse_data) → i < length states → s ≡ get_or states i s → ((number : ℕ) → u ≡ use_of [] number s)
    → AreUses [] (take i states) uses → AreUses [] (take (i + 1) states) (uses ++ u ∷ [])
one_state_more states uses i s u lt e is h =
    let at : slice_get states i ≡ Some s = slice_get-get_or states i s lt ∙ ap Some (sym e) in
    let on = take_on states i s at in
    let many = h.many in
    let sizes = length-append uses (u ∷ []) in
    let sizes' = length-append (take i states) (s ∷ []) in
    let go : AreUses [] (take i states ++ s ∷ []) (uses ++ u ∷ []) = record {
      many = omega (arith, sizes, sizes', many);
      each = λ number state v hs hu. elim (either_at (take i states) s number state hs) [
        | inl before ↦ elim (either_at uses u number v hu) [
          | inl old ↦ h.each number state v before old
          | inr new ↦ (let w = slice_get_within (take i states) number state before in let a = new.0 in let bad : ⊥ = omega (arith, w, a, many) in absurd bad)
        ]
        | inr last ↦ elim (either_at uses u number v hu) [
          | inl old ↦ (let w = slice_get_within uses number v old in let a = last.0 in let bad : ⊥ = omega (arith, w, a, many) in absurd bad)
          | inr new ↦ sym new.1 ∙ is number ∙ ap (use_of [] number) last.1
        ]
      ];
    } in
    subst (λ (z : List State). AreUses [] z (uses ++ u ∷ [])) (sym on) go

-- one node more, at this state
pub one_node_more : (nodes : List DNode_data) (states : List State) (uses : List StateUse_data) (n : DNode_data) (s : State) (u v : StateUse_data) → n.state < length states → length uses ≡ length states
    → s ≡ get_or states n.state s → u ≡ get_or uses n.state u → v ≡ noted s n.pending u
    → AreUses nodes states uses → AreUses (nodes ++ n ∷ []) states (slice_set uses n.state v)
one_node_more nodes states uses n s u v lt size es eu ev h =
    let there : slice_get states n.state ≡ Some s = slice_get-get_or states n.state s lt ∙ ap Some (sym es) in
    let used : slice_get uses n.state ≡ Some u = slice_get-get_or uses n.state u (omega (arith, lt, size)) ∙ ap Some (sym eu) in
    let was : u ≡ use_of nodes n.state s = h.each n.state s u there used in
    record {
      many = length-set uses n.state v ∙ h.many;
      each = λ number state w hs hw. elim (set_or_kept uses n.state v number w hw) [
        | inl new ↦ (
            let at : slice_get states n.state ≡ Some state = ap (slice_get states) new.0 ∙ hs in
            let same : s ≡ state = same_Some s state (sym there ∙ at) in
            sym new.1 ∙ ev ∙ ap (noted s n.pending) was ∙ use_here nodes n n.state s (eq-eqb n.state n.state refl) ∙ ap₂ (use_of (nodes ++ n ∷ [])) new.0 same)
        | inr old ↦ h.each number state w hs old.1 ∙ sym (use_elsewhere nodes n number state (differ n.state number old.0))
      ];
    }

-- one node more, at no state
pub no_node_more : (nodes : List DNode_data) (states : List State) (uses : List StateUse_data) (n : DNode_data) → length states ≤ n.state → AreUses nodes states uses → AreUses (nodes ++ n ∷ []) states uses
no_node_more nodes states uses n past h = record {
  many = h.many;
  each = λ number state u hs hu.
      (let w = slice_get_within states number state hs in
      h.each number state u hs hu ∙ sym (use_elsewhere nodes n number state (differ n.state number (λ same. omega (arith, same, w, past)))));
}

-- the first nodes, with the next of them
pub next_taken : (nodes : List DNode_data) (i : ℕ) (n : DNode_data) → i < length nodes → n ≡ get_or nodes i n → take i nodes ++ n ∷ [] ≡ take (i + 1) nodes
next_taken nodes i n lt e = sym (take_on nodes i n (slice_get-get_or nodes i n lt ∙ ap Some (sym e)))
