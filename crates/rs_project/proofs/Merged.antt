-- The choices of several talks.
use Rattle.std.proofs.Common.{◌≡◌, inl, inr, ℕ, zero, suc, ◌+◌, Bool, true, false, List, [], ◌∷◌, ◌++◌, map, drop, Option, Some, slice_get, refl, sym, ap, ◌∙◌, subst, arith, if◌then◌else◌, ◌==◌, ◌||◌}
use Rattle.std.proofs.Common.{append_assoc}
use Rattle.std.specs.List.{flat_map, list_any}
use Rattle.std.proofs.lemmas.Bool.Decides.{eqb_tells}
use Rattle.rs_model.specs.Data.{Protocol_data}
use Rattle.rs_model.specs.declared.graph.Arm.{Arm}
use Rattle.rs_model.specs.declared.graph.Label.{Label}
use Rattle.rs_model.specs.declared.graph.Node.{Node}
use Rattle.rs_model.specs.declared.graph.Node.TheVariants.{Finished, Talk}
use Rattle.rs_project.specs.Marks.{arms_of_node, labelled_nexts, labelled_nexts_of}
use Rattle.rs_project.specs.Projection.{LabelChoice, choice_of, choices_of, first_choices, merged_choices}

append_nothing : {A : Type 0} (xs : List A) → xs ++ [] ≡ xs
append_nothing [] = refl
append_nothing (x ∷ xs) = ap (λ z. x ∷ z) (append_nothing xs)

first_append : (xs ys earlier : List LabelChoice) → first_choices (xs ++ ys) earlier ≡ first_choices xs earlier ++ first_choices ys (earlier ++ first_choices xs earlier)
first_append [] ys earlier = ap (λ z. first_choices ys z) (sym (append_nothing earlier))
first_append (c ∷ cs) ys earlier = go (list_any (λ b. b.label.0 == c.label.0) earlier) (first_append cs ys earlier) (first_append cs ys (earlier ++ (c ∷ [])))
  where
    go : (b : Bool) → first_choices (cs ++ ys) earlier ≡ first_choices cs earlier ++ first_choices ys (earlier ++ first_choices cs earlier)
        → first_choices (cs ++ ys) (earlier ++ (c ∷ [])) ≡ first_choices cs (earlier ++ (c ∷ [])) ++ first_choices ys ((earlier ++ (c ∷ [])) ++ first_choices cs (earlier ++ (c ∷ [])))
        → (if b then first_choices (cs ++ ys) earlier else c ∷ first_choices (cs ++ ys) (earlier ++ (c ∷ [])))
        ≡ (if b then first_choices cs earlier else c ∷ first_choices cs (earlier ++ (c ∷ [])))
        ++ first_choices ys (earlier ++ (if b then first_choices cs earlier else c ∷ first_choices cs (earlier ++ (c ∷ []))))
    go true skip keep = skip
    go false skip keep =
        let rest = first_choices cs (earlier ++ (c ∷ [])) in
        let e : (earlier ++ (c ∷ [])) ++ rest ≡ earlier ++ (c ∷ rest) = append_assoc earlier (c ∷ []) rest in
        let P : List LabelChoice → Type 0 = λ z. c ∷ first_choices (cs ++ ys) (earlier ++ (c ∷ [])) ≡ c ∷ (rest ++ first_choices ys z) in
        subst P e (ap (λ z. c ∷ z) keep)

-- what was added is what the first choices add
pub first_on : (xs ys acc new : List LabelChoice) → new ≡ acc ++ first_choices xs acc → acc ++ first_choices (xs ++ ys) acc ≡ new ++ first_choices ys new
first_on xs ys acc new e =
    let P : List LabelChoice → Type 0 = λ z. acc ++ first_choices (xs ++ ys) acc ≡ z ++ first_choices ys z in
    subst P (sym e) (ap (λ z. acc ++ z) (first_append xs ys acc) ∙ sym (append_assoc acc (first_choices xs acc) (first_choices ys (acc ++ first_choices xs acc))))

pub labels_any : (label : Label) (arms : List Arm) → list_any (λ b. b.label.0 == label.0) (map choice_of arms) ≡ list_any (λ a. a.label.0 == label.0) arms
labels_any label [] = refl
labels_any label (a ∷ arms) = ap (λ z. (a.label.0 == label.0) || z) (labels_any label arms)

arms_suc : (arms : List Arm) (i : ℕ) (a : Arm) (acc new total : List LabelChoice) → slice_get arms i ≡ Some a → new ≡ acc ++ first_choices (choice_of a ∷ []) acc
    → acc ++ first_choices (map choice_of (drop i arms)) acc ≡ total → new ++ first_choices (map choice_of (drop (suc i) arms)) new ≡ total
arms_suc [] i a acc new total is e h = absurd (cc (is))
arms_suc (x ∷ arms) zero a acc new total is e h =
    let s : x ≡ a = cc (is) in
    let P : Arm → Type 0 = λ z. new ≡ acc ++ first_choices (choice_of z ∷ []) acc in
    sym (first_on (choice_of x ∷ []) (map choice_of arms) acc new (subst P (sym s) e)) ∙ h
arms_suc (x ∷ arms) (suc i) a acc new total is e h = arms_suc arms i a acc new total is e h

pub arms_on : (arms : List Arm) (i : ℕ) (a : Arm) (acc new total : List LabelChoice) → slice_get arms i ≡ Some a → new ≡ acc ++ first_choices (choice_of a ∷ []) acc
    → acc ++ first_choices (map choice_of (drop i arms)) acc ≡ total → new ++ first_choices (map choice_of (drop (i + 1) arms)) new ≡ total
arms_on arms i a acc new total is e h =
    let q : suc i ≡ i + 1 = omega arith in
    let P : ℕ → Type 0 = λ z. new ++ first_choices (map choice_of (drop z arms)) new ≡ total in
    subst P q (arms_suc arms i a acc new total is e h)

choices_suc : (pr : Protocol_data) (talks : List ℕ) (i n : ℕ) (node : Node) (acc new total : List LabelChoice) → slice_get talks i ≡ Some n → slice_get pr.nodes n ≡ Some node
    → new ≡ acc ++ first_choices (choices_of (Some node)) acc
    → acc ++ first_choices (flat_map (λ k. choices_of (slice_get pr.nodes k)) (drop i talks)) acc ≡ total
    → new ++ first_choices (flat_map (λ k. choices_of (slice_get pr.nodes k)) (drop (suc i) talks)) new ≡ total
choices_suc pr [] i n node acc new total is at e h = absurd (cc (is))
choices_suc pr (x ∷ talks) zero n node acc new total is at e h =
    let s : x ≡ n = cc (is) in
    let P : Option Node → Type 0 = λ z. new ≡ acc ++ first_choices (choices_of z) acc in
    let Q : ℕ → Type 0 = λ z. new ≡ acc ++ first_choices (choices_of (slice_get pr.nodes z)) acc in
    sym (first_on (choices_of (slice_get pr.nodes x)) (flat_map (λ k. choices_of (slice_get pr.nodes k)) talks) acc new (subst Q (sym s) (subst P (sym at) e))) ∙ h
choices_suc pr (x ∷ talks) (suc i) n node acc new total is at e h = choices_suc pr talks i n node acc new total is at e h

pub choices_on : (pr : Protocol_data) (talks : List ℕ) (i n : ℕ) (node : Node) (acc new total : List LabelChoice) → slice_get talks i ≡ Some n → slice_get pr.nodes n ≡ Some node
    → new ≡ acc ++ first_choices (choices_of (Some node)) acc
    → acc ++ first_choices (flat_map (λ k. choices_of (slice_get pr.nodes k)) (drop i talks)) acc ≡ total
    → new ++ first_choices (flat_map (λ k. choices_of (slice_get pr.nodes k)) (drop (i + 1) talks)) new ≡ total
choices_on pr talks i n node acc new total is at e h =
    let q : suc i ≡ i + 1 = omega arith in
    let P : ℕ → Type 0 = λ z. new ++ first_choices (flat_map (λ k. choices_of (slice_get pr.nodes k)) (drop z talks)) new ≡ total in
    subst P q (choices_suc pr talks i n node acc new total is at e h)

starts_suc : (pr : Protocol_data) (label : Label) (talks : List ℕ) (i n : ℕ) (node : Node) (acc new total : List ℕ) → slice_get talks i ≡ Some n → slice_get pr.nodes n ≡ Some node
    → new ≡ acc ++ labelled_nexts_of label (Some node)
    → acc ++ flat_map (λ k. labelled_nexts_of label (slice_get pr.nodes k)) (drop i talks) ≡ total
    → new ++ flat_map (λ k. labelled_nexts_of label (slice_get pr.nodes k)) (drop (suc i) talks) ≡ total
starts_suc pr label [] i n node acc new total is at e h = absurd (cc (is))
starts_suc pr label (x ∷ talks) zero n node acc new total is at e h =
    let s : x ≡ n = cc (is) in
    let rest = flat_map (λ k. labelled_nexts_of label (slice_get pr.nodes k)) talks in
    let P : Option Node → Type 0 = λ z. new ≡ acc ++ labelled_nexts_of label z in
    let Q : ℕ → Type 0 = λ z. new ≡ acc ++ labelled_nexts_of label (slice_get pr.nodes z) in
    let e' = subst Q (sym s) (subst P (sym at) e) in
    ap (λ z. z ++ rest) e' ∙ append_assoc acc (labelled_nexts_of label (slice_get pr.nodes x)) rest ∙ h
starts_suc pr label (x ∷ talks) (suc i) n node acc new total is at e h = starts_suc pr label talks i n node acc new total is at e h

pub starts_on : (pr : Protocol_data) (label : Label) (talks : List ℕ) (i n : ℕ) (node : Node) (acc new total : List ℕ) → slice_get talks i ≡ Some n → slice_get pr.nodes n ≡ Some node
    → new ≡ acc ++ labelled_nexts_of label (Some node)
    → acc ++ flat_map (λ k. labelled_nexts_of label (slice_get pr.nodes k)) (drop i talks) ≡ total
    → new ++ flat_map (λ k. labelled_nexts_of label (slice_get pr.nodes k)) (drop (i + 1) talks) ≡ total
starts_on pr label talks i n node acc new total is at e h =
    let q : suc i ≡ i + 1 = omega arith in
    let P : ℕ → Type 0 = λ z. new ++ flat_map (λ k. labelled_nexts_of label (slice_get pr.nodes k)) (drop z talks) ≡ total in
    subst P q (starts_suc pr label talks i n node acc new total is at e h)

-- the label stands at no choice, or at one
pub any_labelled : (label : Label) (arms seen : List Arm) (b c : Bool) → seen ≡ arms → b ≡ list_any (λ a. a.label.0 == label.0) seen → b ≡ c
    → list_any (λ a. a.label.0 == label.0) (map choice_of arms) ≡ c
any_labelled label arms seen b c s e k =
    let P : List Arm → Type 0 = λ z. b ≡ list_any (λ a. a.label.0 == label.0) z in
    labels_any label arms ∙ sym (subst P s e) ∙ k

pub add_known : (a : Arm) (acc : List LabelChoice) → list_any (λ b. b.label.0 == a.label.0) acc ≡ true → acc ≡ acc ++ first_choices (choice_of a ∷ []) acc
add_known a acc e =
    let P : Bool → Type 0 = λ z. acc ≡ acc ++ (if z then [] else choice_of a ∷ []) in
    subst P (sym e) (sym (append_nothing acc))

pub add_new : (a : Arm) (acc new : List LabelChoice) → list_any (λ b. b.label.0 == a.label.0) acc ≡ false → new ≡ acc ++ (choice_of a ∷ []) → new ≡ acc ++ first_choices (choice_of a ∷ []) acc
add_new a acc new e n =
    let P : Bool → Type 0 = λ z. new ≡ acc ++ (if z then [] else choice_of a ∷ []) in
    subst P (sym e) n

pub map_last : (arms : List Arm) (a : Arm) → map choice_of (arms ++ (a ∷ [])) ≡ map choice_of arms ++ (choice_of a ∷ [])
map_last [] a = refl
map_last (x ∷ arms) a = ap (λ z. choice_of x ∷ z) (map_last arms a)

-- ---- talks with one choice

-- the talk has this choice alone, which was known
pub led_choices : (a : Arm) (c : LabelChoice) (node : Node) → arms_of_node node ≡ a ∷ [] → (a.label.0 == c.label.0) ≡ true → c ∷ [] ≡ (c ∷ []) ++ first_choices (choices_of (Some node)) (c ∷ [])
led_choices a c Finished is same = absurd (cc (is))
led_choices a c (Talk sender receiver arms) is same =
    let e : (c.label.0 == a.label.0) ≡ true = elim (eqb_tells c.label.0 a.label.0) [
      | inl p ↦ p.0
      | inr p ↦ elim (eqb_tells a.label.0 c.label.0) [ inl q ↦ absurd (p.1 (sym q.1)) | inr q ↦ absurd (cc (same, q.0)) ]
    ] in
    let P : List Arm → Type 0 = λ z. c ∷ [] ≡ (c ∷ []) ++ first_choices (map choice_of z) (c ∷ []) in
    let Q : Bool → Type 0 = λ z. c ∷ [] ≡ (c ∷ []) ++ (if (z || false) then [] else choice_of a ∷ []) in
    subst P (sym is) (subst Q (sym e) refl)

-- it leads on by the label
pub led_starts : (a : Arm) (label : Label) (node : Node) (old new : List ℕ) → arms_of_node node ≡ a ∷ [] → (a.label.0 == label.0) ≡ true → new ≡ old ++ (a.next ∷ [])
    → new ≡ old ++ labelled_nexts_of label (Some node)
led_starts a label Finished old new is same e = absurd (cc (is))
led_starts a label (Talk sender receiver arms) old new is same e =
    let P : List Arm → Type 0 = λ z. new ≡ old ++ labelled_nexts label z in
    let Q : Bool → Type 0 = λ z. new ≡ old ++ (if z then a.next ∷ [] else []) in
    subst P (sym is) (subst Q (sym same) e)

-- the first talk has the choice, and none has another one
pub one_merged : (pr : Protocol_data) (talks : List ℕ) (t : ℕ) (node : Node) (a : Arm) → slice_get talks 0 ≡ Some t → slice_get pr.nodes t ≡ Some node → arms_of_node node ≡ a ∷ []
    → choice_of a ∷ [] ≡ (choice_of a ∷ []) ++ first_choices (flat_map (λ k. choices_of (slice_get pr.nodes k)) talks) (choice_of a ∷ [])
    → choice_of a ∷ [] ≡ merged_choices pr talks
one_merged pr [] t node a is at has h = absurd (cc (is))
one_merged pr (x ∷ talks) t node a is at has h =
    let s : x ≡ t = cc (is) in
    let c = choice_of a in
    let rest = flat_map (λ k. choices_of (slice_get pr.nodes k)) talks in
    let here : choices_of (slice_get pr.nodes x) ≡ c ∷ [] = ap (λ (z : ℕ). choices_of (slice_get pr.nodes z)) s ∙ ap (λ (z : Option Node). choices_of z) at ∙ first_choice node has in
    let e : (c.label.0 == c.label.0) ≡ true = elim (eqb_tells c.label.0 c.label.0) [ inl p ↦ p.0 | inr p ↦ absurd (p.1 refl) ] in
    let P : List LabelChoice → Type 0 = λ z. c ∷ [] ≡ (c ∷ []) ++ first_choices (z ++ rest) (c ∷ []) in
    let Q : Bool → Type 0 = λ z. c ∷ [] ≡ (c ∷ []) ++ (if (z || false) then first_choices rest (c ∷ []) else c ∷ first_choices rest ((c ∷ []) ++ (c ∷ []))) in
    let R : List LabelChoice → Type 0 = λ z. c ∷ [] ≡ first_choices (z ++ rest) [] in
    subst R (sym here) (subst Q e (subst P here h))
  where
    first_choice : (n : Node) → arms_of_node n ≡ a ∷ [] → choices_of (Some n) ≡ choice_of a ∷ []
    first_choice Finished k = absurd (cc (k))
    first_choice (Talk sender receiver arms) k = ap (λ (z : List Arm). map choice_of z) k
