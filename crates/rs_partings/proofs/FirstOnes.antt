-- The first parting that flags tell is the first one.
use Rattle.std.proofs.Common.{◌≡◌, ◌⊎◌, inl, inr, ℕ, zero, suc, ◌+◌, ◌≤◌, Bool, true, false, not, ◌&&◌, if◌then◌else◌, List, [], ◌∷◌, get_or, Option, Some, None, MatchOption, slice_get}
use Rattle.std.proofs.Common.{refl, sym, ◌∙◌, subst, arith}
use Rattle.rs_model.specs.declared.graph.Arm.{Arm}
use Rattle.rs_model.specs.declared.graph.Node.{Node}
use Rattle.rs_project.specs.Marks.{IsOn, arms_of_node}
use Rattle.rs_partings.specs.Partings.{IsFirstOf, IsNoLater}
use Rattle.rs_partings.specs.Searching.{arm_toward, parting_with, parting_by, or_later, parting_of_arms, parting_of_node, parting_of_nodes}
use Rattle.rs_partings.specs.declared.searching.Parting.{Parting}

-- the arm at that place leads to a flagged node
pub record ArmOn (flags : List Bool) (arms : List Arm) (place : ℕ) : Type 0 where
  pub arm : Arm
  pub stands : slice_get arms place ≡ Some arm
  pub on : IsOn flags arm.next

next_on : (flags : List Bool) (a : Arm) (arms : List Arm) (i : ℕ) → ArmOn flags arms i → ArmOn flags (a ∷ arms) (suc i)
next_on flags a arms i h = record { arm = h.arm; stands = h.stands; on = h.on }

rest_on : (flags : List Bool) (a : Arm) (arms : List Arm) (i : ℕ) → ArmOn flags (a ∷ arms) (suc i) → ArmOn flags arms i
rest_on flags a arms i h = record { arm = h.arm; stands = h.stands; on = h.on }

first_on : (flags : List Bool) (a : Arm) (arms : List Arm) → ArmOn flags (a ∷ arms) zero → IsOn flags a.next
first_on flags a arms h = let e : h.arm ≡ a = cc (h.stands) in subst (λ (z : Arm). IsOn flags z.next) e h.on

none_on : (flags : List Bool) (i : ℕ) → ArmOn flags [] i → ⊥
none_on flags i h = let e = h.stands in cc (e)

-- the arm at that place leads to a node that is flagged in the first list alone
pub record ArmOnly (ones others : List Bool) (arms : List Arm) (place : ℕ) : Type 0 where
  pub arm : Arm
  pub stands : slice_get arms place ≡ Some arm
  pub on : IsOn ones arm.next
  pub off : IsOn others arm.next → ⊥

next_only : (ones others : List Bool) (a : Arm) (arms : List Arm) (i : ℕ) → ArmOnly ones others arms i → ArmOnly ones others (a ∷ arms) (suc i)
next_only ones others a arms i h = record { arm = h.arm; stands = h.stands; on = h.on; off = h.off }

rest_only : (ones others : List Bool) (a : Arm) (arms : List Arm) (i : ℕ) → ArmOnly ones others (a ∷ arms) (suc i) → ArmOnly ones others arms i
rest_only ones others a arms i h = record { arm = h.arm; stands = h.stands; on = h.on; off = h.off }

-- the node is flagged in the first list alone
abbrev OnOnly : List Bool → List Bool → ℕ → Type 0
OnOnly ones others n = IsOn ones n × (IsOn others n → ⊥)

first_only : (ones others : List Bool) (a : Arm) (arms : List Arm) → ArmOnly ones others (a ∷ arms) zero → OnOnly ones others a.next
first_only ones others a arms h = let e : h.arm ≡ a = cc (h.stands) in subst (λ (z : Arm). OnOnly ones others z.next) e (h.on, h.off)

no_only : (ones others : List Bool) (i : ℕ) → ArmOnly ones others [] i → ⊥
no_only ones others i h = let e = h.stands in cc (e)

-- ---- the first arm toward a flagged node

-- no arm leads to a flagged node
abbrev NoneOn : List Bool → List Arm → Type 0
NoneOn flags arms = (j : ℕ) → ArmOn flags arms j → ⊥

-- the place is that of the first one, where the first arm has the place k
record IsFirstOn (flags : List Bool) (k : ℕ) (arms : List Arm) (place : ℕ) : Type 0 where
  pub i : ℕ
  pub is : place ≡ k + i
  pub on : ArmOn flags arms i
  pub first : (j : ℕ) → ArmOn flags arms j → i ≤ j

none_later : (flags : List Bool) (a : Arm) (arms : List Arm) → (IsOn flags a.next → ⊥) → NoneOn flags arms → NoneOn flags (a ∷ arms)
none_later flags a arms here none zero h = here (first_on flags a arms h)
none_later flags a arms here none (suc j) h = none j (rest_on flags a arms j h)

first_later : (flags : List Bool) (k : ℕ) (a : Arm) (arms : List Arm) (place : ℕ) → (IsOn flags a.next → ⊥) → (f : IsFirstOn flags (k + 1) arms place)
    → (j : ℕ) → ArmOn flags (a ∷ arms) j → suc f.i ≤ j
first_later flags k a arms place here f zero h = absurd (here (first_on flags a arms h))
first_later flags k a arms place here f (suc j) h = let l = f.first j (rest_on flags a arms j h) in omega (arith, l)

toward_later : (flags : List Bool) (k : ℕ) (a : Arm) (arms : List Arm) (o : Option ℕ) → (IsOn flags a.next → ⊥)
    → MatchOption o (NoneOn flags arms) (λ place. IsFirstOn flags (k + 1) arms place) → MatchOption o (NoneOn flags (a ∷ arms)) (λ place. IsFirstOn flags k (a ∷ arms) place)
toward_later flags k a arms None here none = λ j h. none_later flags a arms here none j h
toward_later flags k a arms (Some place) here f = record {
  i = suc f.i;
  is = (let e = f.is in omega (arith, e));
  on = next_on flags a arms f.i f.on;
  first = λ j h. first_later flags k a arms place here f j h;
}

toward_here : (flags : List Bool) (k : ℕ) (a : Arm) (arms : List Arm) → IsOn flags a.next → IsFirstOn flags k (a ∷ arms) k
toward_here flags k a arms on = record {
  i = zero;
  is = omega arith;
  on = record { arm = a; stands = refl; on = on };
  first = λ j h. omega arith;
}

toward_found : (flags : List Bool) (k : ℕ) (arms : List Arm) → MatchOption (arm_toward flags k arms) (NoneOn flags arms) (λ place. IsFirstOn flags k arms place)
toward_found flags k [] = λ j h. none_on flags j h
toward_found flags k (a ∷ arms) = go (get_or flags a.next false) refl (toward_found flags (k + 1) arms)
  where
    go : (c : Bool) → get_or flags a.next false ≡ c → MatchOption (arm_toward flags (k + 1) arms) (NoneOn flags arms) (λ place. IsFirstOn flags (k + 1) arms place)
        → MatchOption (if c then Some k else arm_toward flags (k + 1) arms) (NoneOn flags (a ∷ arms)) (λ place. IsFirstOn flags k (a ∷ arms) place)
    go false f rest = toward_later flags k a arms (arm_toward flags (k + 1) arms) (λ on. cc (on, f)) rest
    go true f rest = toward_here flags k a arms f

-- ---- the first of two

-- it is the first of these, where there is one
abbrev pub FirstIn : (ℕ → ℕ → ℕ → Type 0) → Option Parting → Type 0
FirstIn Parts o = MatchOption o ((talk one other : ℕ) → Parts talk one other → ⊥) (λ p. IsFirstOf Parts p)

or_first : (Here Later Both : ℕ → ℕ → ℕ → Type 0) (o later : Option Parting) → FirstIn Here o → FirstIn Later later
    → ((t i j : ℕ) → Both t i j → Here t i j ⊎ Later t i j) → ((t i j : ℕ) → Here t i j → Both t i j) → ((t i j : ℕ) → Later t i j → Both t i j)
    → ((p : Parting) (t i j : ℕ) → Here p.talk p.one p.other → Later t i j → IsNoLater p t i j)
    → FirstIn Both (or_later o later)
or_first Here Later Both None None none later split left right before = λ t i j b. elim (split t i j b) [ inl h ↦ none t i j h | inr h ↦ later t i j h ]
or_first Here Later Both None (Some p) none later split left right before = record {
  parts = right p.talk p.one p.other later.parts;
  first = λ t i j b. elim (split t i j b) [ inl h ↦ absurd (none t i j h) | inr h ↦ later.first t i j h ];
}
or_first Here Later Both (Some p) l here later split left right before = record {
  parts = left p.talk p.one p.other here.parts;
  first = λ t i j b. elim (split t i j b) [ inl h ↦ here.first t i j h | inr h ↦ before p t i j here.parts h ];
}

pub first_as : (Parts Those : ℕ → ℕ → ℕ → Type 0) (o : Option Parting) → ((t i j : ℕ) → Parts t i j → Those t i j) → ((t i j : ℕ) → Those t i j → Parts t i j) → FirstIn Parts o → FirstIn Those o
first_as Parts Those None to from none = λ t i j h. none t i j (from t i j h)
first_as Parts Those (Some p) to from f = record { parts = to p.talk p.one p.other f.parts; first = λ t i j h. f.first t i j (from t i j h) }

-- ---- the partings at one arm, at arms and at nodes

record AtArm (ones others : List Bool) (talk : ℕ) (all : List Arm) (k : ℕ) (a : Arm) (t i j : ℕ) : Type 0 where
  pub talk_is : t ≡ talk
  pub one_is : i ≡ k
  pub on : OnOnly ones others a.next
  pub other : ArmOn others all j

record AtArms (ones others : List Bool) (talk : ℕ) (all : List Arm) (k : ℕ) (arms : List Arm) (t i j : ℕ) : Type 0 where
  pub talk_is : t ≡ talk
  pub m : ℕ
  pub one_is : i ≡ k + m
  pub on : ArmOnly ones others arms m
  pub other : ArmOn others all j

arm_first : (ones others : List Bool) (talk : ℕ) (all : List Arm) (k : ℕ) (a : Arm) → FirstIn (AtArm ones others talk all k a) (parting_by ones others talk all k a)
arm_first ones others talk all k a = go (get_or ones a.next false) refl (get_or others a.next false) refl (arm_toward others 0 all) (toward_found others 0 all)
  where
    go : (b : Bool) → get_or ones a.next false ≡ b → (c : Bool) → get_or others a.next false ≡ c
        → (o : Option ℕ) → MatchOption o (NoneOn others all) (λ place. IsFirstOn others 0 all place)
        → FirstIn (AtArm ones others talk all k a) (if b && not c then parting_with talk k o else None)
    go false e c d o found = λ t i j h. (let on = h.on.0 in cc (on, e))
    go true e true d o found = λ t i j h. h.on.1 d
    go true e false d None none = λ t i j h. none j h.other
    go true e false d (Some place) f = record {
      parts = record {
        talk_is = refl;
        one_is = refl;
        on = (e, λ on. cc (on, d));
        other = subst (λ (z : ℕ). ArmOn others all z) (let q = f.is in let w : f.i ≡ place = omega (arith, q) in w) f.on;
      };
      first = λ t i j h. inr (sym h.talk_is, inr (sym h.one_is, (let l = f.first j h.other in let q = f.is in omega (arith, l, q))));
    }

arms_first : (ones others : List Bool) (talk : ℕ) (all : List Arm) (k : ℕ) (arms : List Arm) → FirstIn (AtArms ones others talk all k arms) (parting_of_arms ones others talk all k arms)
arms_first ones others talk all k [] = λ t i j h. no_only ones others h.m h.on
arms_first ones others talk all k (a ∷ arms) =
    or_first (AtArm ones others talk all k a) (AtArms ones others talk all (k + 1) arms) (AtArms ones others talk all k (a ∷ arms))
    (parting_by ones others talk all k a) (parting_of_arms ones others talk all (k + 1) arms)
    (arm_first ones others talk all k a) (arms_first ones others talk all (k + 1) arms)
    (λ t i j b. split t i j b.m b)
    (λ t i j h. record {
      talk_is = h.talk_is;
      m = zero;
      one_is = (let e = h.one_is in omega (arith, e));
      on = record { arm = a; stands = refl; on = h.on.0; off = h.on.1 };
      other = h.other;
    })
    (λ t i j h. record {
      talk_is = h.talk_is;
      m = suc h.m;
      one_is = (let e = h.one_is in omega (arith, e));
      on = next_only ones others a arms h.m h.on;
      other = h.other;
    })
    (λ p t i j h l. inr (h.talk_is ∙ sym l.talk_is, inl (let x = h.one_is in let y = l.one_is in omega (arith, x, y))))
  where
    split : (t i j m : ℕ) → (b : AtArms ones others talk all k (a ∷ arms) t i j) → AtArm ones others talk all k a t i j ⊎ AtArms ones others talk all (k + 1) arms t i j
    split t i j m b = by b.m b.one_is b.on
      where
        by : (m : ℕ) → i ≡ k + m → ArmOnly ones others (a ∷ arms) m → AtArm ones others talk all k a t i j ⊎ AtArms ones others talk all (k + 1) arms t i j
        by zero e on = inl record { talk_is = b.talk_is; one_is = omega (arith, e); on = first_only ones others a arms on; other = b.other }
        by (suc m) e on = inr record { talk_is = b.talk_is; m = m; one_is = omega (arith, e); on = rest_only ones others a arms m on; other = b.other }

-- the flagged node has two arms that part
pub record AtNode (here ones others : List Bool) (n : ℕ) (node : Node) (t i j : ℕ) : Type 0 where
  pub talk_is : t ≡ n
  pub flagged : IsOn here n
  pub one : ArmOnly ones others (arms_of_node node) i
  pub other : ArmOn others (arms_of_node node) j

pub record AtNodes (here ones others : List Bool) (n : ℕ) (nodes : List Node) (t i j : ℕ) : Type 0 where
  pub m : ℕ
  pub node : Node
  pub stands : slice_get nodes m ≡ Some node
  pub at : AtNode here ones others (n + m) node t i j

node_first : (here ones others : List Bool) (n : ℕ) (node : Node) → FirstIn (AtNode here ones others n node) (parting_of_node here ones others n node)
node_first here ones others n node = go (get_or here n false) refl
  where
    go : (b : Bool) → get_or here n false ≡ b → FirstIn (AtNode here ones others n node) (if b then parting_of_arms ones others n (arms_of_node node) 0 (arms_of_node node) else None)
    go false e = λ t i j h. (let on = h.flagged in cc (on, e))
    go true e = first_as (AtArms ones others n (arms_of_node node) 0 (arms_of_node node)) (AtNode here ones others n node) (parting_of_arms ones others n (arms_of_node node) 0 (arms_of_node node))
        (λ t i j h. record {
          talk_is = h.talk_is;
          flagged = e;
          one = subst (λ (z : ℕ). ArmOnly ones others (arms_of_node node) z) (let q = h.one_is in let w : h.m ≡ i = omega (arith, q) in w) h.on;
          other = h.other;
        })
        (λ t i j h. record { talk_is = h.talk_is; m = i; one_is = omega arith; on = h.one; other = h.other })
        (arms_first ones others n (arms_of_node node) 0 (arms_of_node node))

pub nodes_first : (here ones others : List Bool) (n : ℕ) (nodes : List Node) → FirstIn (AtNodes here ones others n nodes) (parting_of_nodes here ones others n nodes)
nodes_first here ones others n [] = λ t i j h. (let e = h.stands in cc (e))
nodes_first here ones others n (node ∷ nodes) =
    or_first (AtNode here ones others n node) (AtNodes here ones others (n + 1) nodes) (AtNodes here ones others n (node ∷ nodes))
    (parting_of_node here ones others n node) (parting_of_nodes here ones others (n + 1) nodes)
    (node_first here ones others n node) (nodes_first here ones others (n + 1) nodes)
    (λ t i j b. split t i j b.m b.node b.stands b.at)
    (λ t i j h. record {
      m = zero;
      node = node;
      stands = refl;
      at = subst (λ (z : ℕ). AtNode here ones others z node t i j) (let q : n ≡ n + zero = omega arith in q) h;
    })
    (λ t i j h. record {
      m = suc h.m;
      node = h.node;
      stands = h.stands;
      at = subst (λ (z : ℕ). AtNode here ones others z h.node t i j) (let q : (n + 1) + h.m ≡ n + suc h.m = omega arith in q) h.at;
    })
    (λ p t i j h l. inl (let x = h.talk_is in let y = l.at.talk_is in omega (arith, x, y)))
  where
    split : (t i j m : ℕ) (x : Node) → slice_get (node ∷ nodes) m ≡ Some x → AtNode here ones others (n + m) x t i j
        → AtNode here ones others n node t i j ⊎ AtNodes here ones others (n + 1) nodes t i j
    split t i j zero x e at =
        let q : x ≡ node = cc (e) in
        let w : n + zero ≡ n = omega arith in
        inl (subst (λ (z : Node). AtNode here ones others n z t i j) q (subst (λ (z : ℕ). AtNode here ones others z x t i j) w at))
    split t i j (suc m) x e at = inr record {
      m = m;
      node = x;
      stands = e;
      at = subst (λ (z : ℕ). AtNode here ones others z x t i j) (let q : n + suc m ≡ (n + 1) + m = omega arith in q) at;
    }
