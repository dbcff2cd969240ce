-- Of a guess two of whose arms survive no derivation remembers what is owed: the machine can send to that peer after
-- neither, since each would want another label, and so it goes on for ever without.
use Rattle.std.proofs.Common.{◌≡◌, ◌≢◌, inl, inr, ℕ, ◌+◌, ◌<◌, ◌≤◌, true, not, List, [], ◌∷◌, ◌++◌, length, map, refl, sym, ap, ◌∙◌, subst, arith, zero, suc, Some, None, Option, slice_get}
use Rattle.std.proofs.Common.{length-append, eqb}
use Rattle.std.proofs.lemmas.Bool.{cases_lt, eq-eqb, false≢true}
use Rattle.std.proofs.lemmas.Option.{same_Some}
use Rattle.rs_model.specs.Data.{Machine_data}
use Rattle.rs_model.specs.declared.graph.Arm.{Arm}
use Rattle.rs_model.specs.declared.graph.Label.{Label}
use Rattle.rs_model.specs.declared.graph.Role.{Role}
use Rattle.rs_model.specs.declared.machines.Act.{Act}
use Rattle.rs_model.specs.declared.machines.Act.TheVariants as act
use Rattle.rs_model.specs.declared.machines.State.{State}
use Rattle.rs_model.specs.declared.machines.State.TheVariants.{Puts, Takes}
use Rattle.rs_model.specs.declared.values.Sort.{Sort}
use Rattle.rs_prefix.proofs.Right.{one}
use Rattle.rs_prefix.specs.Earliest.{IsAbsent, IsFound, IsFreeTo, may_overtake, without}
use Rattle.rs_prefix.specs.declared.earliest.Found.TheVariants.{At, Absent}
use Rattle.rs_prefix.specs.declared.earliest.ActKind.{ActKind}
use Rattle.rs_prefix.specs.declared.earliest.ActKind.TheVariants.{Send, Receive}
use Rattle.rs_derive.specs.Data.{DNode_data, Derivation_data}
use Rattle.rs_derive.specs.Derivations.{IsDerivation, IsProper, KeepsItsHead, Remembers, spot_of}
use Rattle.rs_derive.specs.Moves.{Both, HasMove, Stops, PaysSend, SendsBoth, Guesses, SendsAhead, PaysReceive, ReceivesAhead, Spot, arm_of, owing_receive, owing_send, spot}
use Rattle.rs_graph.proofs.Growth.{at_in, at_short}
use Rattle.rs_graph.specs.Lists.{Among}
use Rattle.rs_search.proofs.Surviving.{result_named}
use Rattle.rs_search.proofs.Verdicts.{candidate_short}
use Rattle.rs_search.specs.Survives.{IsSupported, Survives}

-- what is owed before one act, and after it

get_front : (xs ys : List Act) (i : ℕ) → i < length xs → slice_get (xs ++ ys) i ≡ slice_get xs i
get_front [] ys i h = let bad : ⊥ = omega arith in absurd bad
get_front (x ∷ xs) ys zero h = refl
get_front (x ∷ xs) ys (suc i) h = get_front xs ys i (omega arith)

get_here : (xs : List Act) (y : Act) (ys : List Act) → slice_get (xs ++ y ∷ ys) (length xs) ≡ Some y
get_here [] y ys = refl
get_here (x ∷ xs) y ys = get_here xs y ys

not_none : (xs : List Act) (y : Act) (ys : List Act) → (xs ++ y ∷ ys) ≡ [] → ⊥
not_none [] y ys e = cc
not_none (x ∷ xs) y ys e = cc

without_later : (x : Act) (xs : List Act) (i : ℕ) → without (x ∷ xs) (suc i) ≡ x ∷ without xs i
without_later x xs i = let e : suc i + 1 ≡ suc (i + 1) = omega arith in rw e refl

record Front (front : List Act) (place : ℕ) : Type 0 where
  pub rest : List Act
  pub fewer : length rest < length front
  pub are : (later : List Act) → without (front ++ later) place ≡ rest ++ later

front_without : (front : List Act) (place : ℕ) → place < length front → Front front place
front_without [] place h = let bad : ⊥ = omega arith in absurd bad
front_without (x ∷ front) zero h = record { rest = front; fewer = omega arith; are = λ later. refl }
front_without (x ∷ front) (suc place) h = let k = front_without front place (omega arith) in
    record { rest = x ∷ k.rest; fewer = (let l = k.fewer in omega arith); are = λ later. without_later x (front ++ later) place ∙ ap (λ (z : List Act). x ∷ z) (k.are later) }

behind_without : (front : List Act) (y : Act) (ys : List Act) (place : ℕ) → length front < place → (more : List Act) × (without (front ++ y ∷ ys) place ≡ front ++ y ∷ more)
behind_without [] y ys zero h = let bad : ⊥ = omega arith in absurd bad
behind_without [] y ys (suc place) h = (without ys place, without_later y ys place)
behind_without (x ∷ front) y ys zero h = let bad : ⊥ = omega arith in absurd bad
behind_without (x ∷ front) y ys (suc place) h = let k = behind_without front y ys place (omega arith) in
    (k.0, without_later x (front ++ y ∷ ys) place ∙ ap (λ (z : List Act). x ∷ z) k.1)

found_front : (front later : List Act) (kind : ActKind) (q : Role) (place : ℕ) → place < length front → IsFound (front ++ later) kind q place → IsFound front kind q place
found_front front later kind q place h f = record {
  act = f.act;
  stands = sym (get_front front later place h) ∙ f.stands;
  same = f.same;
  free = λ i a lt e. f.free i a lt (get_front front later i (omega arith) ∙ e);
}

free_front : (front later : List Act) (kind : ActKind) (q : Role) (place : ℕ) → length front ≤ place → IsFreeTo (front ++ later) kind q place → IsAbsent front kind q
free_front front later kind q place le f i a e = let s = at_short front i a e in f i a (omega arith) (get_front front later i s ∙ e)

absent_front : (front later : List Act) (kind : ActKind) (q : Role) → IsAbsent (front ++ later) kind q → IsAbsent front kind q
absent_front front later kind q f i a e = f i a (get_front front later i (at_short front i a e) ∙ e)

-- what a move does while a send is owed after other acts
data Goes (sub : Machine_data) (p : Spot) (front : List Act) (peer : Role) (label : Label) (sort : Sort) (makes : Option ℕ) (results : List Spot) : Type 0 where
  -- the machine stays where it is, and owes one act more
  Stays : (res : Spot) (more : List Act) → Among results res → res.state ≡ p.state → res.pending ≡ front ++ act.Puts peer label sort ∷ more → length p.pending < length res.pending → makes ≡ None
      → Goes sub p front peer label sort makes results
  -- it sends what is owed before
  Pays : (q : Role) (arm : Arm) (place : ℕ) (res : Spot) → slice_get sub.states p.state ≡ Some (Puts q (arm ∷ [])) → place < length front → IsFound front Send q place
      → Among results res → res.state ≡ arm.next → res.pending ≡ without p.pending place → Goes sub p front peer label sort makes results
  -- it receives what is owed before
  Gets : (q : Role) (arms : List Arm) (arm : Arm) (place : ℕ) (l : Label) (so : Sort) (res : Spot) → slice_get sub.states p.state ≡ Some (Takes q arms) → place < length front
      → IsFound front Receive q place
      → slice_get front place ≡ Some (act.Takes q l so) → arm_of arms l ≡ Some arm
      → Among results res → res.state ≡ arm.next → res.pending ≡ without p.pending place → Goes sub p front peer label sort makes results
  -- it sends to another
  Passes : (q : Role) (arm : Arm) (later : List Arm) (res : Spot) (more : List Act) → slice_get sub.states p.state ≡ Some (Puts q (arm ∷ later)) → IsAbsent front Send q
      → may_overtake Send q (act.Puts peer label sort) ≡ true
      → Among results res → res.state ≡ arm.next → res.pending ≡ front ++ act.Puts peer label sort ∷ more → makes ≢ Some 0 → Goes sub p front peer label sort makes results
  -- it makes the send itself
  Makes : (arm : Arm) → slice_get sub.states p.state ≡ Some (Puts peer (arm ∷ [])) → IsAbsent front Send peer → arm.label ≡ label → Goes sub p front peer label sort makes results

one_of : (x : Spot) (rs : List Spot) → rs ≡ x ∷ [] → Among rs x
one_of x rs e = subst (λ (z : List Spot). Among z x) (sym e) (inl refl)

push_more : (front : List Act) (x : Act) (more : List Act) (y : Act) → (front ++ x ∷ more) ++ (y ∷ []) ≡ front ++ x ∷ (more ++ (y ∷ []))
push_more [] x more y = refl
push_more (z ∷ front) x more y = ap (λ (w : List Act). z ∷ w) (push_more front x more y)

push_longer : (xs : List Act) (y : Act) → length xs < length (xs ++ (y ∷ []))
push_longer xs y = let k = length-append xs (y ∷ []) in omega arith

goes_pays : (sub : Machine_data) (p : Spot) (front : List Act) (peer : Role) (label : Label) (sort : Sort) (more : List Act) → p.pending ≡ front ++ act.Puts peer label sort ∷ more
    → (makes : Option ℕ) (results : List Spot) (q : Role) (arm : Arm) (place : ℕ) (so : Sort) → slice_get sub.states p.state ≡ Some (Puts q (arm ∷ [])) → IsFound p.pending Send q place
    → slice_get p.pending place ≡ Some (act.Puts q arm.label so) → makes ≡ Some place → results ≡ spot arm.next (without p.pending place) p.above ∷ [] → Goes sub p front peer label sort makes results
goes_pays sub p front peer label sort more e makes results q arm place so st found at mk re = elim (cases_lt place (length front)) [
  | inl lt ↦ Pays q arm place res st lt (found_front front behind Send q place lt found') (one_of res results re) refl refl
  | inr ge ↦ elim (cases_lt (length front) place) [
    | inl gt ↦ (let k = behind_without front (act.Puts peer label sort) more place gt in
        Passes q arm [] res k.0 st (free_front front behind Send q place ge found'.free) (found'.free (length front) (act.Puts peer label sort) gt (get_here front (act.Puts peer label sort) more))
        (one_of res results re) refl (ap (λ (z : List Act). without z place) e ∙ k.1) (λ z. let n : place ≡ 0 = same_Some place 0 (sym mk ∙ z) in let bad : ⊥ = omega arith in bad))
    | inr le ↦ (let n : place ≡ length front = omega arith in
        let there : slice_get (front ++ behind) (length front) ≡ Some (act.Puts q arm.label so)
        = ap (λ (z : ℕ). slice_get (front ++ behind) z) (sym n) ∙ ap (λ (z : List Act). slice_get z place) (sym e) ∙ at in
        let same : act.Puts peer label sort ≡ act.Puts q arm.label so = same_Some (act.Puts peer label sort) (act.Puts q arm.label so) (sym (get_here front (act.Puts peer label sort) more) ∙ there) in
        let role : peer ≡ q = cc in
        let name : label ≡ arm.label = cc in
        Makes arm (subst (λ (z : Role). slice_get sub.states p.state ≡ Some (Puts z (arm ∷ []))) (sym role) st)
        (subst (λ (z : Role). IsAbsent front Send z) (sym role) (free_front front behind Send q place ge found'.free)) (sym name))
  ]
]
  where
    behind : List Act
    behind = act.Puts peer label sort ∷ more

    res : Spot
    res = spot arm.next (without p.pending place) p.above

    found' : IsFound (front ++ behind) Send q place
    found' = subst (λ (z : List Act). IsFound z Send q place) e found

goes_gets : (sub : Machine_data) (p : Spot) (front : List Act) (peer : Role) (label : Label) (sort : Sort) (more : List Act) → p.pending ≡ front ++ act.Puts peer label sort ∷ more
    → (makes : Option ℕ) (results : List Spot) (q : Role) (arms : List Arm) (place : ℕ) (l : Label) (so : Sort) (arm : Arm) → slice_get sub.states p.state ≡ Some (Takes q arms)
    → IsFound p.pending Receive q place
    → slice_get p.pending place ≡ Some (act.Takes q l so) → arm_of arms l ≡ Some arm → results ≡ spot arm.next (without p.pending place) p.above ∷ [] → Goes sub p front peer label sort makes results
goes_gets sub p front peer label sort more e makes results q arms place l so arm st found at ch re = elim (cases_lt place (length front)) [
  | inl lt ↦ Gets q arms arm place l so (spot arm.next (without p.pending place) p.above) st lt (found_front front behind Receive q place lt found')
      (sym (get_front front behind place lt) ∙ ap (λ (z : List Act). slice_get z place) (sym e) ∙ at) ch
      (one_of (spot arm.next (without p.pending place) p.above) results re) refl refl
  | inr ge ↦ elim (cases_lt (length front) place) [
    | inl gt ↦ absurd (false≢true (found'.free (length front) (act.Puts peer label sort) gt (get_here front (act.Puts peer label sort) more)))
    | inr le ↦ (let n : place ≡ length front = omega arith in
        let there : slice_get (front ++ behind) (length front) ≡ Some (act.Takes q l so)
        = ap (λ (z : ℕ). slice_get (front ++ behind) z) (sym n) ∙ ap (λ (z : List Act). slice_get z place) (sym e) ∙ at in
        let same : act.Puts peer label sort ≡ act.Takes q l so = same_Some (act.Puts peer label sort) (act.Takes q l so) (sym (get_here front (act.Puts peer label sort) more) ∙ there) in
        absurd cc)
  ]
]
  where
    behind : List Act
    behind = act.Puts peer label sort ∷ more

    found' : IsFound (front ++ behind) Receive q place
    found' = subst (λ (z : List Act). IsFound z Receive q place) e found

goes_both : (sub : Machine_data) (p : Spot) (front : List Act) (peer : Role) (label : Label) (sort : Sort) (more : List Act) → p.pending ≡ front ++ act.Puts peer label sort ∷ more
    → (makes : Option ℕ) (results : List Spot) (q : Role) (arms theirs : List Arm) → slice_get sub.states p.state ≡ Some (Puts q arms) → arms ≢ [] → IsAbsent p.pending Send q → makes ≡ None
    → Both theirs p.pending arms results → Goes sub p front peer label sort makes results
goes_both sub p front peer label sort more e makes results q [] theirs st some none mk both = absurd (some refl)
goes_both sub p front peer label sort more e makes [] q (a ∷ later) theirs st some none mk both = absurd both
goes_both sub p front peer label sort more e makes (res ∷ rs) q (a ∷ later) theirs st some none mk both =
    let none' : IsAbsent (front ++ act.Puts peer label sort ∷ more) Send q = subst (λ (z : List Act). IsAbsent z Send q) e none in
    Passes q a later res more st (absent_front front (act.Puts peer label sort ∷ more) Send q none') (none' (length front) (act.Puts peer label sort) (get_here front (act.Puts peer label sort) more))
    (inl refl) (ap (λ (z : Spot). z.state) both.0.3) (ap (λ (z : Spot). z.pending) both.0.3 ∙ e) (λ z. let bad : None ≡ Some 0 = sym mk ∙ z in cc)

goes_ahead : (sub : Machine_data) (p : Spot) (front : List Act) (peer : Role) (label : Label) (sort : Sort) (more : List Act) → p.pending ≡ front ++ act.Puts peer label sort ∷ more
    → (makes : Option ℕ) (results : List Spot) (r : Role) (theirs : List Arm) → theirs ≢ [] → makes ≡ None
    → results ≡ map (λ b. owing_receive p r b) theirs → Goes sub p front peer label sort makes results
goes_ahead sub p front peer label sort more e makes results r [] some mk re = absurd (some refl)
goes_ahead sub p front peer label sort more e makes results r (b ∷ theirs) some mk re =
    Stays (owing_receive p r b) (more ++ (act.Takes r b.label b.sort ∷ [])) (subst (λ (z : List Spot). Among z (owing_receive p r b)) (sym re) (inl refl)) refl
    (ap (λ (z : List Act). z ++ (act.Takes r b.label b.sort ∷ [])) e ∙ push_more front (act.Puts peer label sort) more (act.Takes r b.label b.sort))
    (push_longer p.pending (act.Takes r b.label b.sort)) mk

goes : (sub above : Machine_data) → IsProper sub → IsProper above → (p : Spot) (front : List Act) (peer : Role) (label : Label) (sort : Sort) (more : List Act)
    → p.pending ≡ front ++ act.Puts peer label sort ∷ more
    → (makes : Option ℕ) (results : List Spot) → HasMove sub above p makes results → Goes sub p front peer label sort makes results
goes sub above ws wa p front peer label sort more e makes results (Stops st pe gt mk re) = absurd (not_none front (act.Puts peer label sort) more (sym e ∙ pe))
goes sub above ws wa p front peer label sort more e makes results (PaysSend q arm place so st found at sv mk re) =
    goes_pays sub p front peer label sort more e makes results q arm place so st found at mk re
goes sub above ws wa p front peer label sort more e makes results (SendsBoth q arms theirs st none gt mk both) =
    goes_both sub p front peer label sort more e makes results q arms theirs st (ws.1.puts p.state q arms st).some none mk both
goes sub above ws wa p front peer label sort more e makes results (Guesses q r arms theirs place b st none gt ne g mk re) =
    Stays (owing_send p r b) (more ++ (act.Puts r b.label b.sort ∷ [])) (one_of (owing_send p r b) results re) refl
    (ap (λ (z : List Act). z ++ (act.Puts r b.label b.sort ∷ [])) e ∙ push_more front (act.Puts peer label sort) more (act.Puts r b.label b.sort))
    (push_longer p.pending (act.Puts r b.label b.sort)) mk
goes sub above ws wa p front peer label sort more e makes results (SendsAhead q r arms theirs st none gt mk re) =
    goes_ahead sub p front peer label sort more e makes results r theirs (wa.1.takes p.above r theirs gt).some mk re
goes sub above ws wa p front peer label sort more e makes results (PaysReceive q arms place l so arm st found at ch sv mk re) =
    goes_gets sub p front peer label sort more e makes results q arms place l so arm st found at ch re
goes sub above ws wa p front peer label sort more e makes results (ReceivesAhead q r arms theirs st none gt mk re) =
    absurd (false≢true (none (length front) (act.Puts peer label sort) (ap (λ (z : List Act). slice_get z (length front)) e ∙ get_here front (act.Puts peer label sort) more)))

-- twins: a node of the derivation and a survivor, both at one state of the machine, that owe the same acts up to a send to
-- one peer, with different labels; bounds on how many acts stand before it, on the rank, and on what may still be owed
record Twins (sub above : Machine_data) (bound : ℕ) (d : Derivation_data) (fronts ranks owes : ℕ) : Type 0 where
  pub at : ℕ
  pub node : DNode_data
  pub stands : slice_get d.nodes at ≡ Some node
  pub other : Spot
  pub survives : Survives sub above bound other
  pub state : other.state ≡ node.state
  pub front : List Act
  pub peer : Role
  pub label : Label
  pub label' : Label
  pub sort : Sort
  pub sort' : Sort
  pub more : List Act
  pub more' : List Act
  pub mine : node.pending ≡ front ++ act.Puts peer label sort ∷ more
  pub theirs : other.pending ≡ front ++ act.Puts peer label' sort' ∷ more'
  pub apart : label ≡ label' → ⊥
  pub bounded : length front < fronts
  pub low : node.rank < ranks
  pub room : bound < length other.pending + owes

-- twins go on to others
data OnTwins (sub above : Machine_data) (bound : ℕ) (d : Derivation_data) (fronts ranks owes : ℕ) : Type 0 where
  Fewer : (r o : ℕ) → Twins sub above bound d fronts r o → OnTwins sub above bound d fronts ranks owes
  Lower : (o : ℕ) → Twins sub above bound d (suc fronts) ranks o → OnTwins sub above bound d fronts ranks owes
  Longer : Twins sub above bound d (suc fronts) (suc ranks) owes → OnTwins sub above bound d fronts ranks owes

-- a node that stands at a result of the move of another
pub record Onto (d : Derivation_data) (n : DNode_data) (r : Spot) : Type 0 where
  pub place : ℕ
  pub number : ℕ
  pub node : DNode_data
  pub named : slice_get n.next place ≡ Some number
  pub stands : slice_get d.nodes number ≡ Some node
  pub at : spot_of node ≡ r

pub onto : (sub above : Machine_data) (d : Derivation_data) (v : IsDerivation d sub above) (i : ℕ) (n : DNode_data) (e : slice_get d.nodes i ≡ Some n) (r : Spot) → Among (v.each i n e).results r
    → Onto d n r
onto sub above d v i n e r m =
    let k = result_named d.nodes n.next (v.each i n e).results (v.each i n e).named r m in
    let p = at_in n.next k.0 k.1 in
    record { place = p.0; number = k.0; node = k.2.0; named = p.1; stands = k.2.1; at = k.2.2 }

-- such a node has a lesser rank where the head is kept
pub falls_onto : (sub above : Machine_data) (d : Derivation_data) (v : IsDerivation d sub above) → Remembers d sub above
    → (i : ℕ) (n : DNode_data) (e : slice_get d.nodes i ≡ Some n) (makes : Option ℕ) (results : List Spot)
    → HasMove sub above (spot_of n) makes results → KeepsItsHead n.pending makes → (r : Spot) (o : Onto d n r) → o.node.rank < n.rank
falls_onto sub above d v rem i n e makes results move keeps r o = rem.falls i n makes results e move keeps o.place o.number o.node o.named o.stands

-- the move of the node, and that of the survivor

abbrev Mine : (sub above : Machine_data) (bound : ℕ) (d : Derivation_data) → IsDerivation d sub above → (fronts ranks owes : ℕ) → Twins sub above bound d fronts ranks owes → Type 0
Mine sub above bound d v fronts ranks owes t = Goes sub (spot_of t.node) t.front t.peer t.label t.sort (v.each t.at t.node t.stands).makes (v.each t.at t.node t.stands).results

abbrev support : (sub above : Machine_data) (bound : ℕ) (d : Derivation_data) (fronts ranks owes : ℕ) (t : Twins sub above bound d fronts ranks owes)
    → IsSupported sub above bound t.survives.set t.other
support sub above bound d fronts ranks owes t = t.survives.stand.each t.other t.survives.among

abbrev Theirs : (sub above : Machine_data) (bound : ℕ) (d : Derivation_data) (fronts ranks owes : ℕ) → Twins sub above bound d fronts ranks owes → Type 0
Theirs sub above bound d fronts ranks owes t =
    Goes sub t.other t.front t.peer t.label' t.sort' (support sub above bound d fronts ranks owes t).move.makes (support sub above bound d fronts ranks owes t).results

survives_on : (sub above : Machine_data) (bound : ℕ) (d : Derivation_data) (fronts ranks owes : ℕ) (t : Twins sub above bound d fronts ranks owes) (r : Spot)
    → Among (support sub above bound d fronts ranks owes t).results r → Survives sub above bound r
survives_on sub above bound d fronts ranks owes t r m = record { set = t.survives.set; stand = t.survives.stand; among = (support sub above bound d fronts ranks owes t).all r m }

mine_keeps : (sub above : Machine_data) (bound : ℕ) (d : Derivation_data) (v : IsDerivation d sub above) → Remembers d sub above
    → (fronts ranks owes : ℕ) (t : Twins sub above bound d fronts (suc ranks) owes)
    → (v.each t.at t.node t.stands).makes ≢ Some 0 → (r : Spot) (o : Onto d t.node r) → o.node.rank < ranks
mine_keeps sub above bound d v rem fronts ranks owes t other r o =
    let f = v.each t.at t.node t.stands in
    let l = falls_onto sub above d v rem t.at t.node t.stands f.makes f.results f.move
    (record { owes = λ e. not_none t.front (act.Puts t.peer t.label t.sort) t.more (sym t.mine ∙ e); other = other }) r o in
    let b = t.low in omega arith

-- the node stays at its state, or the survivor does

i_stay : (sub above : Machine_data) (bound : ℕ) (d : Derivation_data) (v : IsDerivation d sub above) → Remembers d sub above
    → (fronts ranks owes : ℕ) (t : Twins sub above bound d (suc fronts) (suc ranks) (suc owes))
    → (res : Spot) (more : List Act) → Among (v.each t.at t.node t.stands).results res → res.state ≡ t.node.state → res.pending ≡ t.front ++ act.Puts t.peer t.label t.sort ∷ more
    → (v.each t.at t.node t.stands).makes ≡ None
    → OnTwins sub above bound d fronts ranks owes
i_stay sub above bound d v rem fronts ranks owes t res more m ss ps mk =
    let o = onto sub above d v t.at t.node t.stands res m in
    Lower (suc owes) record {
      at = o.number;
      node = o.node;
      stands = o.stands;
      other = t.other;
      survives = t.survives;
      state = t.state ∙ sym ss ∙ sym (ap (λ (z : Spot). z.state) o.at);
      front = t.front;
      peer = t.peer;
      label = t.label;
      label' = t.label';
      sort = t.sort;
      sort' = t.sort';
      more = more;
      more' = t.more';
      mine = ap (λ (z : Spot). z.pending) o.at ∙ ps;
      theirs = t.theirs;
      apart = t.apart;
      bounded = t.bounded;
      low = mine_keeps sub above bound d v rem (suc fronts) ranks (suc owes) t (λ z. let bad : None ≡ Some 0 = sym mk ∙ z in cc) res o;
      room = t.room;
    }

they_stay : (sub above : Machine_data) (bound : ℕ) (d : Derivation_data) (fronts ranks owes : ℕ) (t : Twins sub above bound d (suc fronts) (suc ranks) (suc owes))
    → (res : Spot) (more : List Act) → Among (support sub above bound d (suc fronts) (suc ranks) (suc owes) t).results res → res.state ≡ t.other.state
    → res.pending ≡ t.front ++ act.Puts t.peer t.label' t.sort' ∷ more
    → length t.other.pending < length res.pending → OnTwins sub above bound d fronts ranks owes
they_stay sub above bound d fronts ranks owes t res more m ss ps lt = Longer record {
  at = t.at;
  node = t.node;
  stands = t.stands;
  other = res;
  survives = survives_on sub above bound d (suc fronts) (suc ranks) (suc owes) t res m;
  state = ss ∙ t.state;
  front = t.front;
  peer = t.peer;
  label = t.label;
  label' = t.label';
  sort = t.sort;
  sort' = t.sort';
  more = t.more;
  more' = more;
  mine = t.mine;
  theirs = ps;
  apart = t.apart;
  bounded = t.bounded;
  low = t.low;
  room = (let a = t.room in omega arith);
}

-- both make what is owed before
both_make : (sub above : Machine_data) (bound : ℕ) (d : Derivation_data) (v : IsDerivation d sub above) → (fronts ranks owes : ℕ) (t : Twins sub above bound d (suc fronts) (suc ranks) (suc owes))
    → (place : ℕ) (res res' : Spot) → place < length t.front → Among (v.each t.at t.node t.stands).results res → Among (support sub above bound d (suc fronts) (suc ranks) (suc owes) t).results res'
    → res'.state ≡ res.state
    → res.pending ≡ without t.node.pending place → res'.pending ≡ without t.other.pending place → OnTwins sub above bound d fronts ranks owes
both_make sub above bound d v fronts ranks owes t place res res' lt m m' ss ps ps' =
    let o = onto sub above d v t.at t.node t.stands res m in
    let f = front_without t.front place lt in
    Fewer (suc o.node.rank) (suc bound) record {
      at = o.number;
      node = o.node;
      stands = o.stands;
      other = res';
      survives = survives_on sub above bound d (suc fronts) (suc ranks) (suc owes) t res' m';
      state = ss ∙ sym (ap (λ (z : Spot). z.state) o.at);
      front = f.rest;
      peer = t.peer;
      label = t.label;
      label' = t.label';
      sort = t.sort;
      sort' = t.sort';
      more = t.more;
      more' = t.more';
      mine = ap (λ (z : Spot). z.pending) o.at ∙ ps ∙ ap (λ (z : List Act). without z place) t.mine ∙ f.are (act.Puts t.peer t.label t.sort ∷ t.more);
      theirs = ps' ∙ ap (λ (z : List Act). without z place) t.theirs ∙ f.are (act.Puts t.peer t.label' t.sort' ∷ t.more');
      apart = t.apart;
      bounded = (let a = f.fewer in let b = t.bounded in omega arith);
      low = omega arith;
      room = omega arith;
    }

-- both send to another
both_pass : (sub above : Machine_data) (bound : ℕ) (d : Derivation_data) (v : IsDerivation d sub above) → Remembers d sub above
    → (fronts ranks owes : ℕ) (t : Twins sub above bound d (suc fronts) (suc ranks) (suc owes))
    → (res res' : Spot) (more more' : List Act) → Among (v.each t.at t.node t.stands).results res → Among (support sub above bound d (suc fronts) (suc ranks) (suc owes) t).results res'
    → res'.state ≡ res.state
    → res.pending ≡ t.front ++ act.Puts t.peer t.label t.sort ∷ more → res'.pending ≡ t.front ++ act.Puts t.peer t.label' t.sort' ∷ more' → (v.each t.at t.node t.stands).makes ≢ Some 0
    → OnTwins sub above bound d fronts ranks owes
both_pass sub above bound d v rem fronts ranks owes t res res' more more' m m' ss ps ps' other =
    let o = onto sub above d v t.at t.node t.stands res m in
    Lower (suc bound) record {
      at = o.number;
      node = o.node;
      stands = o.stands;
      other = res';
      survives = survives_on sub above bound d (suc fronts) (suc ranks) (suc owes) t res' m';
      state = ss ∙ sym (ap (λ (z : Spot). z.state) o.at);
      front = t.front;
      peer = t.peer;
      label = t.label;
      label' = t.label';
      sort = t.sort;
      sort' = t.sort';
      more = more;
      more' = more';
      mine = ap (λ (z : Spot). z.pending) o.at ∙ ps;
      theirs = ps';
      apart = t.apart;
      bounded = t.bounded;
      low = mine_keeps sub above bound d v rem (suc fronts) ranks (suc owes) t other res o;
      room = omega arith;
    }

one_place : (front : List Act) (kind : ActKind) (q : Role) (a b : ℕ) → IsFound front kind q a → IsFound front kind q b → a ≡ b
one_place front kind q a b f g = let e : At a ≡ At b = one front kind q (At a) (At b) f g in cc

found_or_absent : (front : List Act) (q : Role) (a : ℕ) → IsFound front Send q a → IsAbsent front Send q → ⊥
found_or_absent front q a f g = let e : At a ≡ Absent = one front Send q (At a) Absent f g in cc

not_to_itself : (q : Role) (l : Label) (s : Sort) → may_overtake Send q (act.Puts q l s) ≡ true → ⊥
not_to_itself q l s e = let k : eqb q.0 q.0 ≡ true = eq-eqb q.0 q.0 refl in false≢true (sym (ap not k) ∙ e)

same_arm : (arms : List Arm) (k l : Label) (a b : Arm) → k ≡ l → arm_of arms k ≡ Some a → arm_of arms l ≡ Some b → a ≡ b
same_arm arms k l a b e f g = same_Some a b (sym f ∙ ap (λ (z : Label). arm_of arms z) e ∙ g)

go_on : (sub above : Machine_data) (bound : ℕ) (d : Derivation_data) (v : IsDerivation d sub above) → Remembers d sub above
    → (fronts ranks owes : ℕ) (t : Twins sub above bound d (suc fronts) (suc ranks) (suc owes))
    → Mine sub above bound d v (suc fronts) (suc ranks) (suc owes) t → Theirs sub above bound d (suc fronts) (suc ranks) (suc owes) t → OnTwins sub above bound d fronts ranks owes
go_on sub above bound d v rem fronts ranks owes t mine theirs = pair mine theirs
  where
    same : (s s' : State) → slice_get sub.states t.node.state ≡ Some s → slice_get sub.states t.other.state ≡ Some s' → s ≡ s'
    same s s' st st' = same_Some s s' (sym st ∙ ap (λ (z : ℕ). slice_get sub.states z) (sym t.state) ∙ st')

    sends_and_takes : (q q' : Role) (arms arms' : List Arm) → slice_get sub.states t.node.state ≡ Some (Puts q arms) → slice_get sub.states t.other.state ≡ Some (Takes q' arms') → ⊥
    sends_and_takes q q' arms arms' st st' = let e : Puts q arms ≡ Takes q' arms' = same (Puts q arms) (Takes q' arms') st st' in cc

    takes_and_sends : (q q' : Role) (arms arms' : List Arm) → slice_get sub.states t.node.state ≡ Some (Takes q arms) → slice_get sub.states t.other.state ≡ Some (Puts q' arms') → ⊥
    takes_and_sends q q' arms arms' st st' = let e : Takes q arms ≡ Puts q' arms' = same (Takes q arms) (Puts q' arms') st st' in cc

    one_peer : (q q' : Role) (arms arms' : List Arm) → slice_get sub.states t.node.state ≡ Some (Puts q arms) → slice_get sub.states t.other.state ≡ Some (Puts q' arms') → q ≡ q'
    one_peer q q' arms arms' st st' = let e : Puts q arms ≡ Puts q' arms' = same (Puts q arms) (Puts q' arms') st st' in cc

    one_arm_shown : (q q' : Role) (arm arm' : Arm) (later later' : List Arm) → slice_get sub.states t.node.state ≡ Some (Puts q (arm ∷ later))
        → slice_get sub.states t.other.state ≡ Some (Puts q' (arm' ∷ later')) → arm ≡ arm'
    one_arm_shown q q' arm arm' later later' st st' = let e : Puts q (arm ∷ later) ≡ Puts q' (arm' ∷ later') = same (Puts q (arm ∷ later)) (Puts q' (arm' ∷ later')) st st' in cc

    one_receive : (q q' : Role) (arms arms' : List Arm) → slice_get sub.states t.node.state ≡ Some (Takes q arms) → slice_get sub.states t.other.state ≡ Some (Takes q' arms')
        → (q ≡ q') × (arms ≡ arms')
    one_receive q q' arms arms' st st' = let e : Takes q arms ≡ Takes q' arms' = same (Takes q arms) (Takes q' arms') st st' in (cc, cc)

    pair : Mine sub above bound d v (suc fronts) (suc ranks) (suc owes) t → Theirs sub above bound d (suc fronts) (suc ranks) (suc owes) t → OnTwins sub above bound d fronts ranks owes
    pair (Stays res more m ss ps lt mk) g = i_stay sub above bound d v rem fronts ranks owes t res more m ss ps mk
    pair (Pays q arm place res st lt fo m ss ps) (Stays res' more m' ss' ps' lt' mk) = they_stay sub above bound d fronts ranks owes t res' more m' ss' ps' lt'
    pair (Gets q arms arm place l so res st lt fo at ch m ss ps) (Stays res' more m' ss' ps' lt' mk) = they_stay sub above bound d fronts ranks owes t res' more m' ss' ps' lt'
    pair (Passes q arm later res more st ab ov m ss ps mk) (Stays res' more' m' ss' ps' lt' mk') = they_stay sub above bound d fronts ranks owes t res' more' m' ss' ps' lt'
    pair (Makes arm st ab le) (Stays res' more m' ss' ps' lt' mk) = they_stay sub above bound d fronts ranks owes t res' more m' ss' ps' lt'
    pair (Pays q arm place res st lt fo m ss ps) (Pays q' arm' place' res' st' lt' fo' m' ss' ps') =
        (let role = one_peer q q' (arm ∷ []) (arm' ∷ []) st st' in
        let a = one_arm_shown q q' arm arm' [] [] st st' in
        let e : place' ≡ place = one_place t.front Send q place' place (subst (λ (z : Role). IsFound t.front Send z place') (sym role) fo') fo in
        both_make sub above bound d v fronts ranks owes t place res res' lt m m' (ss' ∙ ap (λ (z : Arm). z.next) (sym a) ∙ sym ss) ps (ps' ∙ ap (λ (z : ℕ). without t.other.pending z) e))
    pair (Pays q arm place res st lt fo m ss ps) (Gets q' arms arm' place' l so res' st' lt' fo' at ch m' ss' ps') = absurd (sends_and_takes q q' (arm ∷ []) arms st st')
    pair (Pays q arm place res st lt fo m ss ps) (Passes q' arm' later res' more st' ab ov m' ss' ps' mk) =
        absurd (found_or_absent t.front q place fo (subst (λ (z : Role). IsAbsent t.front Send z) (sym (one_peer q q' (arm ∷ []) (arm' ∷ later) st st')) ab))
    pair (Pays q arm place res st lt fo m ss ps) (Makes arm' st' ab le) =
        absurd (found_or_absent t.front q place fo (subst (λ (z : Role). IsAbsent t.front Send z) (sym (one_peer q t.peer (arm ∷ []) (arm' ∷ []) st st')) ab))
    pair (Gets q arms arm place l so res st lt fo at ch m ss ps) (Pays q' arm' place' res' st' lt' fo' m' ss' ps') = absurd (takes_and_sends q q' arms (arm' ∷ []) st st')
    pair (Gets q arms arm place l so res st lt fo at ch m ss ps) (Gets q' arms' arm' place' l' so' res' st' lt' fo' at' ch' m' ss' ps') =
        (let role = one_receive q q' arms arms' st st' in
        let e : place' ≡ place = one_place t.front Receive q place' place (subst (λ (z : Role). IsFound t.front Receive z place') (sym role.0) fo') fo in
        let acts : act.Takes q l so ≡ act.Takes q' l' so' = same_Some (act.Takes q l so) (act.Takes q' l' so') (sym at ∙ ap (λ (z : ℕ). slice_get t.front z) (sym e) ∙ at') in
        let name : l' ≡ l = cc in
        let a : arm' ≡ arm = same_arm arms l' l arm' arm name (subst (λ (z : List Arm). arm_of z l' ≡ Some arm') (sym role.1) ch') ch in
        both_make sub above bound d v fronts ranks owes t place res res' lt m m' (ss' ∙ ap (λ (z : Arm). z.next) a ∙ sym ss) ps (ps' ∙ ap (λ (z : ℕ). without t.other.pending z) e))
    pair (Gets q arms arm place l so res st lt fo at ch m ss ps) (Passes q' arm' later res' more st' ab ov m' ss' ps' mk) = absurd (takes_and_sends q q' arms (arm' ∷ later) st st')
    pair (Gets q arms arm place l so res st lt fo at ch m ss ps) (Makes arm' st' ab le) = absurd (takes_and_sends q t.peer arms (arm' ∷ []) st st')
    pair (Passes q arm later res more st ab ov m ss ps mk) (Pays q' arm' place' res' st' lt' fo' m' ss' ps') =
        absurd (found_or_absent t.front q place' (subst (λ (z : Role). IsFound t.front Send z place') (sym (one_peer q q' (arm ∷ later) (arm' ∷ []) st st')) fo') ab)
    pair (Passes q arm later res more st ab ov m ss ps mk) (Gets q' arms arm' place' l so res' st' lt' fo' at ch m' ss' ps') = absurd (sends_and_takes q q' (arm ∷ later) arms st st')
    pair (Passes q arm later res more st ab ov m ss ps mk) (Passes q' arm' later' res' more' st' ab' ov' m' ss' ps' mk') =
        both_pass sub above bound d v rem fronts ranks owes t res res' more more' m m' (ss' ∙ ap (λ (z : Arm). z.next) (sym (one_arm_shown q q' arm arm' later later' st st')) ∙ sym ss) ps ps' mk
    pair (Passes q arm later res more st ab ov m ss ps mk) (Makes arm' st' ab' le) =
        absurd (not_to_itself t.peer t.label t.sort (subst (λ (z : Role). may_overtake Send z (act.Puts t.peer t.label t.sort) ≡ true) (one_peer q t.peer (arm ∷ later) (arm' ∷ []) st st') ov))
    pair (Makes arm st ab le) (Pays q' arm' place' res' st' lt' fo' m' ss' ps') =
        absurd (found_or_absent t.front t.peer place' (subst (λ (z : Role). IsFound t.front Send z place') (sym (one_peer t.peer q' (arm ∷ []) (arm' ∷ []) st st')) fo') ab)
    pair (Makes arm st ab le) (Gets q' arms arm' place' l so res' st' lt' fo' at ch m' ss' ps') = absurd (sends_and_takes t.peer q' (arm ∷ []) arms st st')
    pair (Makes arm st ab le) (Passes q' arm' later' res' more' st' ab' ov' m' ss' ps' mk') =
        absurd (not_to_itself t.peer t.label' t.sort'
        (subst (λ (z : Role). may_overtake Send z (act.Puts t.peer t.label' t.sort') ≡ true) (sym (one_peer t.peer q' (arm ∷ []) (arm' ∷ later') st st')) ov'))
    pair (Makes arm st ab le) (Makes arm' st' ab' le') = absurd (t.apart (sym le ∙ ap (λ (z : Arm). z.label) (one_arm_shown t.peer t.peer arm arm' [] [] st st') ∙ le'))

-- so there are none

abbrev None_of : (sub above : Machine_data) (bound : ℕ) (d : Derivation_data) → ℕ → ℕ → ℕ → Type 0
None_of sub above bound d fronts ranks owes = Twins sub above bound d fronts ranks owes → ⊥

by_owed : (sub above : Machine_data) (bound : ℕ) (d : Derivation_data) → IsProper sub → IsProper above → (v : IsDerivation d sub above) → Remembers d sub above → (fronts ranks : ℕ)
    → ((r o : ℕ) → None_of sub above bound d fronts r o) → ((o : ℕ) → None_of sub above bound d (suc fronts) ranks o) → (owes : ℕ) → None_of sub above bound d (suc fronts) (suc ranks) owes
by_owed sub above bound d ws wa v rem fronts ranks fewer lower zero t =
    let c = candidate_short sub above bound t.other (t.survives.stand.candidates t.other t.survives.among) in let a = t.room in let bad : ⊥ = omega arith in bad
by_owed sub above bound d ws wa v rem fronts ranks fewer lower (suc owes) t =
    on (λ u. by_owed sub above bound d ws wa v rem fronts ranks fewer lower owes u) (go_on sub above bound d v rem fronts ranks owes t mine theirs)
  where
    mine : Mine sub above bound d v (suc fronts) (suc ranks) (suc owes) t
    mine = let f = v.each t.at t.node t.stands in goes sub above ws wa (spot_of t.node) t.front t.peer t.label t.sort t.more t.mine f.makes f.results f.move

    theirs : Theirs sub above bound d (suc fronts) (suc ranks) (suc owes) t
    theirs = let g = support sub above bound d (suc fronts) (suc ranks) (suc owes) t in goes sub above ws wa t.other t.front t.peer t.label' t.sort' t.more' t.theirs g.move.makes g.results g.move.move

    on : None_of sub above bound d (suc fronts) (suc ranks) owes → OnTwins sub above bound d fronts ranks owes → ⊥
    on longer (Fewer r o u) = fewer r o u
    on longer (Lower o u) = lower o u
    on longer (Longer u) = longer u

by_rank : (sub above : Machine_data) (bound : ℕ) (d : Derivation_data) → IsProper sub → IsProper above → (v : IsDerivation d sub above) → Remembers d sub above → (fronts : ℕ)
    → ((r o : ℕ) → None_of sub above bound d fronts r o) → (ranks owes : ℕ) → None_of sub above bound d (suc fronts) ranks owes
by_rank sub above bound d ws wa v rem fronts fewer zero owes t = let a = t.low in let bad : ⊥ = omega arith in bad
by_rank sub above bound d ws wa v rem fronts fewer (suc ranks) owes t =
    by_owed sub above bound d ws wa v rem fronts ranks fewer (λ o u. by_rank sub above bound d ws wa v rem fronts fewer ranks o u) owes t

no_twins : (sub above : Machine_data) (bound : ℕ) (d : Derivation_data) → IsProper sub → IsProper above → (v : IsDerivation d sub above) → Remembers d sub above → (fronts ranks owes : ℕ)
    → None_of sub above bound d fronts ranks owes
no_twins sub above bound d ws wa v rem zero ranks owes t = let a = t.bounded in let bad : ⊥ = omega arith in bad
no_twins sub above bound d ws wa v rem (suc fronts) ranks owes t = by_rank sub above bound d ws wa v rem fronts (λ r o u. no_twins sub above bound d ws wa v rem fronts r o u) ranks owes t

-- a node of a derivation that remembers has sent by one arm, and what is after another arm doesn't survive
pub one_arm : (sub above : Machine_data) (bound : ℕ) (d : Derivation_data) → IsProper sub → IsProper above → IsDerivation d sub above → Remembers d sub above → (i : ℕ) (n : DNode_data)
    → slice_get d.nodes i ≡ Some n
    → (p : Spot) (peer : Role) (a b : Arm) → spot_of n ≡ owing_send p peer a → Survives sub above bound (owing_send p peer b) → (a.label ≡ b.label → ⊥) → ⊥
one_arm sub above bound d ws wa v rem i n e p peer a b at sv apart = no_twins sub above bound d ws wa v rem (suc (length p.pending)) (suc n.rank) (suc bound) record {
  at = i;
  node = n;
  stands = e;
  other = owing_send p peer b;
  survives = sv;
  state = sym (ap (λ (z : Spot). z.state) at);
  front = p.pending;
  peer = peer;
  label = a.label;
  label' = b.label;
  sort = a.sort;
  sort' = b.sort;
  more = [];
  more' = [];
  mine = ap (λ (z : Spot). z.pending) at;
  theirs = refl;
  apart = apart;
  bounded = omega arith;
  low = omega arith;
  room = omega arith;
}
