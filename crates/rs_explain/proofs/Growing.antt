-- A round by which the machine owes more, and of which it needs one act alone, can be repeated: then there is no derivation of whatever bound.
use Rattle.std.proofs.Common.{◌≡◌, ◌⊎◌, inl, inr, ℕ, zero, suc, ◌+◌, ◌-◌, ◌<◌, ◌≤◌, Bool, true, false, List, [], ◌∷◌, ◌++◌, length, map, take, drop, slice_get, Option, Some, None, refl, sym, ap, subst, ◌∙◌, arith, ◌==◌, ◌&&◌, ◌||◌, not, if◌then◌else◌, nat_lt, length-append}
use Rattle.std.specs.List.{list_all, list_any}
use Rattle.std.proofs.lemmas.Bool.{and_parts, false≢true, eqb-true, ltb-true}
use Rattle.std.proofs.lemmas.Bool.Decides.{eqb_tells}
use Rattle.std.proofs.lemmas.Option.{none-some, same_Some}
use Rattle.rs_model.specs.Data.{Machine_data}
use Rattle.rs_model.specs.declared.graph.Arm.{Arm}
use Rattle.rs_model.specs.declared.graph.Role.{Role}
use Rattle.rs_model.specs.declared.machines.Act.{Act}
use Rattle.rs_model.specs.declared.machines.Act.TheVariants as act
use Rattle.rs_model.specs.declared.machines.State.{State}
use Rattle.rs_model.specs.declared.machines.State.TheVariants.{Puts, Takes}
use Rattle.rs_prefix.specs.Earliest.{IsAbsent, IsFound, has, may_overtake, without}
use Rattle.rs_prefix.specs.declared.earliest.ActKind.{ActKind}
use Rattle.rs_prefix.specs.declared.earliest.ActKind.TheVariants.{Send, Receive}
use Rattle.rs_prefix.proofs.Right.{others}
use Rattle.rs_derive.proofs.Acts.{act_is, act_same, acts_are}
use Rattle.rs_derive.proofs.Rows.{Is, ruled}
use Rattle.rs_derive.proofs.Ruled.{Row, Stopping, PayingSend, SendingBoth, Guessing, SendingAhead, PayingReceive, ReceivingAhead, applies}
use Rattle.rs_derive.specs.Data.{DNode_data, Derivation_data}
use Rattle.rs_derive.specs.Derivations.{IsDerivation, NameResults, spot_of}
use Rattle.rs_derive.specs.Due.{Chosen, both_at, nexts_by}
use Rattle.rs_derive.specs.Moves.{HasMove, Spot, arm_of, owing_receive, owing_send, spot}
use Rattle.rs_derive.specs.Rules.{arms_at, arms_of}
use Rattle.rs_derive.specs.Targets.{same_act}
use Rattle.rs_derive.specs.declared.rules.Rule.{Rule}
use Rattle.rs_derive.specs.declared.rules.Rule.TheVariants as rule
use Rattle.rs_graph.proofs.Growth.{at_in, at_within, has_push, in_at}
use Rattle.rs_graph.specs.Lists.{Among}
use Rattle.rs_search.specs.Candidates.{start_spot}
use Rattle.rs_explain.proofs.Firsts.{leads_move}
use Rattle.rs_explain.proofs.Forced.{forced}
use Rattle.rs_explain.specs.Forcing.{guesses_among, guesses_between, is_forced, is_guess}
use Rattle.rs_explain.specs.Growth.{alike_from, begins_with, is_alike, grows_for_ever, grows_from, is_further, is_known, is_repeatable, needs_only, overtakes, round_start, spot_after}
use Rattle.rs_explain.specs.Walks.{IsWalk, LeadsBy, WalkStep_data, end_of}

-- ---- how often an act is owed

abbrev bit : Bool → ℕ
bit true = 1
bit false = 0

abbrev tally : Act → List Act → ℕ
tally b [] = 0
tally b (a ∷ xs) = bit (same_act a b) + tally b xs

tally_push : (b a : Act) (xs : List Act) → tally b (xs ++ a ∷ []) ≡ tally b xs + bit (same_act a b)
tally_push b a [] = omega arith
tally_push b a (x ∷ xs) = let k = tally_push b a xs in omega arith

tally_among : (b : Act) (xs : List Act) → 0 < tally b xs → Among xs b
tally_among b [] h = absurd (omega arith)
tally_among b (a ∷ xs) h = by (same_act a b) refl (λ k. tally_among b xs k)
  where
    by : (t : Bool) → same_act a b ≡ t → (0 < tally b xs → Among xs b) → Among (a ∷ xs) b
    by true e on = inl (act_is a b e)
    by false e on = inr (on (let k : 0 < bit false + tally b xs = subst (λ (t : Bool). 0 < bit t + tally b xs) e h in omega (arith, k)))

among_tally : (b : Act) (xs : List Act) → Among xs b → 0 < tally b xs
among_tally b [] h = absurd h
among_tally b (a ∷ xs) (inl e) = let s : same_act a b ≡ true = subst (λ (z : Act). same_act z b ≡ true) (sym e) (act_same b) in rw s (omega arith)
among_tally b (a ∷ xs) (inr h) = let k = among_tally b xs h in omega arith

tally_without : (b : Act) (xs : List Act) (i : ℕ) → slice_get xs i ≡ Some b → tally b xs ≡ suc (tally b (without xs i))
tally_without b [] i e = absurd (none-some b e)
tally_without b (x ∷ xs) zero e = let s : same_act x b ≡ true = subst (λ (z : Act). same_act z b ≡ true) (sym (same_Some x b e)) (act_same b) in rw s (omega arith)
tally_without b (x ∷ xs) (suc i) e = let k = tally_without b xs i e in let z : suc i + 1 ≡ suc (i + 1) = omega arith in rw z (omega arith)

length_without : (xs : List Act) (i : ℕ) (a : Act) → slice_get xs i ≡ Some a → length xs ≡ suc (length (without xs i))
length_without [] i a e = absurd (none-some a e)
length_without (x ∷ xs) zero a e = refl
length_without (x ∷ xs) (suc i) a e = let k = length_without xs i a e in let z : suc i + 1 ≡ suc (i + 1) = omega arith in rw z (omega arith)

among_without : (xs : List Act) (i : ℕ) (a : Act) → Among (without xs i) a → Among xs a
among_without [] zero a h = h
among_without [] (suc i) a h = let z : suc i + 1 ≡ suc (i + 1) = omega arith in subst (λ (n : ℕ). Among (drop {A = Act} n []) a) z h
among_without (x ∷ xs) zero a h = inr h
among_without (x ∷ xs) (suc i) a h =
    let z : suc i + 1 ≡ suc (i + 1) = omega arith in
    elim (subst (λ (n : ℕ). Among (x ∷ take i xs ++ drop n (x ∷ xs)) a) z h) [ inl e ↦ inl e | inr m ↦ inr (among_without xs i a m) ]

-- ---- what is owed at a repetition

-- as much more is owed, and the act as often at least
record Longer (b : Act) (more : ℕ) (x y : List Act) : Type 0 where
  size : length y ≡ more + length x
  often : tally b x ≤ tally b y

-- the spot of a repetition
record Repeats (b : Act) (more : ℕ) (y : List Act) (p q : Spot) : Type 0 where
  state : q.state ≡ p.state
  above : q.above ≡ p.above
  longer : Longer b more p.pending q.pending
  from : (a : Act) → Among q.pending a → Among y a ⊎ Among p.pending a

-- of these spots each repeats those
abbrev AllRepeat : Act → ℕ → List Act → List (List Spot) → List (List Spot) → Type 0
AllRepeat b more y [] [] = Unit {0}
AllRepeat b more y [] (e ∷ es) = ⊥
AllRepeat b more y (d ∷ ds) [] = ⊥
AllRepeat b more y (d ∷ ds) (e ∷ es) = ((p q : Spot) → Is d p → Is e q → Repeats b more y p q) × AllRepeat b more y ds es

picked : (b : Act) (more : ℕ) (y : List Act) (ds es : List (List Spot)) (rs ss : List Spot) (p : Spot) → AllRepeat b more y ds es → Chosen ds rs → Chosen es ss → Among rs p
    → (q : Spot) × Among ss q × Repeats b more y p q
picked b more y [] es [] ss p w h k m = absurd m
picked b more y [] es (r ∷ rs) ss p w h k m = absurd h
picked b more y (d ∷ ds) [] rs ss p w h k m = absurd w
picked b more y (d ∷ ds) (e ∷ es) [] ss p w h k m = absurd h
picked b more y (d ∷ ds) (e ∷ es) (r ∷ rs) [] p w h k m = absurd k
picked b more y (d ∷ ds) (e ∷ es) (r ∷ rs) (s ∷ ss) p w h k (inl q) = (s, inl refl, subst (λ (z : Spot). Repeats b more y z s) q (w.0 r s h.0 k.0))
picked b more y (d ∷ ds) (e ∷ es) (r ∷ rs) (s ∷ ss) p w h k (inr m) = let t = picked b more y ds es rs ss p w.1 h.1 k.1 m in (t.0, inr t.1, t.2)

only : (r x : Spot) → Is (r ∷ []) x → x ≡ r
only r x (zero, e) = sym (same_Some r x e)
only r x (suc i, e) = absurd (none-some x e)

single : (b : Act) (more : ℕ) (y : List Act) (r s : Spot) → Repeats b more y r s → (p q : Spot) → Is (r ∷ []) p → Is (s ∷ []) q → Repeats b more y p q
single b more y r s w p q h k = subst (λ (z : Spot). Repeats b more y z q) (sym (only r p h)) (subst (λ (z : Spot). Repeats b more y r z) (sym (only s q k)) w)

kept : (b : Act) (more : ℕ) (x y : List Act) (s t : ℕ) → Longer b more x y → Repeats b more y (spot s x t) (spot s y t)
kept b more x y s t l = record { state = refl; above = refl; longer = l; from = λ a m. inl m }

pushed : (b : Act) (more : ℕ) (x y : List Act) (s t : ℕ) (a : Act) → Longer b more x y → Repeats b more y (spot s (x ++ a ∷ []) t) (spot s (y ++ a ∷ []) t)
pushed b more x y s t a l = record {
  state = refl;
  above = refl;
  longer = record {
    size = (let e = l.size in let i = length-append x (a ∷ []) in let j = length-append y (a ∷ []) in omega arith);
    often = (let e = l.often in let i = tally_push b a x in let j = tally_push b a y in omega arith);
  };
  from = λ c m. elim (has_push y a c m) [ inl k ↦ inl k | inr e ↦ inr (subst (λ (z : Act). Among (x ++ a ∷ []) z) e (in_last x a)) ];
}
  where
    in_last : (xs : List Act) (c : Act) → Among (xs ++ c ∷ []) c
    in_last [] c = inl refl
    in_last (x ∷ xs) c = inr (in_last xs c)

paid : (b : Act) (more : ℕ) (x y : List Act) (s t i j : ℕ) → slice_get x i ≡ Some b → slice_get y j ≡ Some b → Longer b more x y
    → Repeats b more y (spot s (without x i) t) (spot s (without y j) t)
paid b more x y s t i j e f l = record {
  state = refl;
  above = refl;
  longer = record {
    size = (let z = l.size in let m = length_without x i b e in let n = length_without y j b f in omega arith);
    often = (let z = l.often in let m = tally_without b x i e in let n = tally_without b y j f in omega arith);
  };
  from = λ c m. inl (among_without y j c m);
}

-- ---- the same rule applies

-- it makes the act b in both cases, or no act
data Twins (b : Act) (x y : List Act) : Rule → Rule → Type 0 where
  BothPay : (a : Arm) (i j : ℕ) → slice_get x i ≡ Some b → slice_get y j ≡ Some b → Twins b x y (rule.Pays i a) (rule.Pays j a)
  BothSend : Twins b x y rule.SendsBoth rule.SendsBoth
  BothGuess : (r : Role) → Twins b x y (rule.Guesses r) (rule.Guesses r)
  BothFollow : (r : Role) → Twins b x y (rule.Follows r) (rule.Follows r)
  BothStop : Twins b x y rule.Stops rule.Stops

-- at a state of the machine, where x is owed and where y is: each act is b or needn't be there, and b is owed where it has to
record Needs (b : Act) (s : State) (x y : List Act) : Type 0 where
  ours : (a : Act) → Among x a → (a ≡ b) ⊎ (overtakes (Some s) a ≡ true)
  theirs : (a : Act) → Among y a → (a ≡ b) ⊎ (overtakes (Some s) a ≡ true)
  owed : (overtakes (Some s) b ≡ true) ⊎ Among x b
  often : tally b x ≤ tally b y

there : (b : Act) (s : State) (x y : List Act) → Needs b s x y → Among x b → Among y b
there b s x y n m = let k = among_tally b x m in let o = n.often in tally_among b y (omega arith)

-- what is found is b
found_is : (b : Act) (kind : ActKind) (q : Role) (xs : List Act) (i : ℕ) (c : Act) → ((a : Act) → Among xs a → (a ≡ b) ⊎ (may_overtake kind q a ≡ true)) → IsFound xs kind q i → slice_get xs i ≡ Some c → c ≡ b
found_is b kind q xs i c all found e = elim (all c (in_at xs i c e)) [
  | inl same ↦ same
  | inr free ↦ (
      let h : has kind q c ≡ true = ap (λ (z : Act). has kind q z) (same_Some c found.act (sym e ∙ found.stands)) ∙ found.same in
      absurd (false≢true (sym (others kind q c free) ∙ h)))
]

-- b is found, and may be overtaken, or not
not_free : (b : Act) (kind : ActKind) (q : Role) (xs : List Act) (i : ℕ) → IsFound xs kind q i → slice_get xs i ≡ Some b → may_overtake kind q b ≡ true → ⊥
not_free b kind q xs i found e free =
    let h : has kind q b ≡ true = ap (λ (z : Act). has kind q z) (same_Some b found.act (sym e ∙ found.stands)) ∙ found.same in
    false≢true (sym (others kind q b free) ∙ h)

absent_free : (b : Act) (kind : ActKind) (q : Role) (xs : List Act) → IsAbsent xs kind q → Among xs b → may_overtake kind q b ≡ true
absent_free b kind q xs none m = let i = at_in xs b m in none i.0 b i.1

is_b : (b : Act) (kind : ActKind) (q : Role) (xs : List Act) (i : ℕ) (c : Act) → ((a : Act) → Among xs a → (a ≡ b) ⊎ (may_overtake kind q a ≡ true)) → IsFound xs kind q i → slice_get xs i ≡ Some c
    → slice_get xs i ≡ Some b
is_b b kind q xs i c all found e = e ∙ ap Some (found_is b kind q xs i c all found e)

-- the machine needs b in the first case, and nothing in the second
needs_first : (b : Act) (kind : ActKind) (q : Role) (x y : List Act) (i : ℕ) → tally b x ≤ tally b y → IsFound x kind q i → slice_get x i ≡ Some b → IsAbsent y kind q → ⊥
needs_first b kind q x y i often found e none =
    let k = among_tally b x (in_at x i b e) in
    not_free b kind q x i found e (absent_free b kind q y none (tally_among b y (omega arith)))

-- where it needs nothing in the first case it needs nothing in the second
absent_too : (b : Act) (kind : ActKind) (q : Role) (x y : List Act) → ((a : Act) → Among y a → (a ≡ b) ⊎ (may_overtake kind q a ≡ true)) → (may_overtake kind q b ≡ true) ⊎ Among x b
    → IsAbsent x kind q → IsAbsent y kind q
absent_too b kind q x y theirs owed none i a e = elim (theirs a (in_at y i a e)) [
  | inl same ↦ subst (λ (z : Act). may_overtake kind q z ≡ true) (sym same) (elim owed [ inl free ↦ free | inr m ↦ absent_free b kind q x none m ])
  | inr free ↦ free
]

-- a spot has one rule
one_rule : (y : List Act) (s : State) (t : Option State) (r r' : Rule) → Row y s t r → Row y s t r' → r ≡ r'
one_rule y s t r r' h k = same_Some r r' (sym (applies y s t r h) ∙ applies y s t r' k)

twins : (b : Act) (x y : List Act) (s : State) (t : Option State) (r r' : Rule) → Needs b s x y → Row x s t r → Row y s t r' → Twins b x y r r'
twins b x y _ _ _ _ n (Stopping e) (Stopping f) = BothStop
twins b x y _ _ _ _ n (PayingSend q a i so t found at sv) (PayingSend _ _ j so' _ found' at' sv') = BothPay a i j (is_b b Send q x i _ n.ours found at) (is_b b Send q y j _ n.theirs found' at')
twins b x y _ _ _ _ n (PayingSend q a i so _ found at sv) (SendingBoth _ _ theirs none all) = absurd (needs_first b Send q x y i n.often found (is_b b Send q x i _ n.ours found at) none)
twins b x y _ _ _ _ n (PayingSend q a i so _ found at sv) (Guessing _ r _ theirs none ne) = absurd (needs_first b Send q x y i n.often found (is_b b Send q x i _ n.ours found at) none)
twins b x y _ _ _ _ n (PayingSend q a i so _ found at sv) (SendingAhead _ r _ theirs none) = absurd (needs_first b Send q x y i n.often found (is_b b Send q x i _ n.ours found at) none)
twins b x y _ _ _ r' n (SendingBoth q arms theirs none all) row =
    let k = one_rule y (Puts q arms) (Some (Puts q theirs)) rule.SendsBoth r' (SendingBoth q arms theirs (absent_too b Send q x y n.theirs n.owed none) all) row in
    subst (λ (z : Rule). Twins b x y rule.SendsBoth z) k BothSend
twins b x y _ _ _ r' n (Guessing q r arms theirs none ne) row =
    let k = one_rule y (Puts q arms) (Some (Puts r theirs)) (rule.Guesses r) r' (Guessing q r arms theirs (absent_too b Send q x y n.theirs n.owed none) ne) row in
    subst (λ (z : Rule). Twins b x y (rule.Guesses r) z) k (BothGuess r)
twins b x y _ _ _ r' n (SendingAhead q r arms theirs none) row =
    let k = one_rule y (Puts q arms) (Some (Takes r theirs)) (rule.Follows r) r' (SendingAhead q r arms theirs (absent_too b Send q x y n.theirs n.owed none)) row in
    subst (λ (z : Rule). Twins b x y (rule.Follows r) z) k (BothFollow r)
twins b x y _ _ _ _ n (PayingReceive q arms i l so a t found at arm sv) (PayingReceive _ _ j k so' c _ found' at' arm' sv') = both found at arm found' at' arm'
  where
    both : IsFound x Receive q i → slice_get x i ≡ Some (act.Takes q l so) → arm_of arms l ≡ Some a → IsFound y Receive q j → slice_get y j ≡ Some (act.Takes q k so') → arm_of arms k ≡ Some c
        → Twins b x y (rule.Pays i a) (rule.Pays j c)
    both f e g f' e' g' =
        let one : act.Takes q l so ≡ b = found_is b Receive q x i (act.Takes q l so) n.ours f e in
        let two : act.Takes q k so' ≡ b = found_is b Receive q y j (act.Takes q k so') n.theirs f' e' in
        let label : l ≡ k = cc (one, two) in
        let same : a ≡ c = same_Some a c (sym g ∙ ap (arm_of arms) label ∙ g') in
        subst (λ (z : Arm). Twins b x y (rule.Pays i a) (rule.Pays j z)) same (BothPay a i j (e ∙ ap Some one) (e' ∙ ap Some two))
twins b x y _ _ _ _ n (PayingReceive q arms i l so a _ found at arm sv) (ReceivingAhead _ r _ theirs none) =
    absurd (needs_first b Receive q x y i n.often found (is_b b Receive q x i _ n.ours found at) none)
twins b x y _ _ _ r' n (ReceivingAhead q r arms theirs none) row =
    let k = one_rule y (Takes q arms) (Some (Takes r theirs)) (rule.Follows r) r' (ReceivingAhead q r arms theirs (absent_too b Receive q x y n.theirs n.owed none)) row in
    subst (λ (z : Rule). Twins b x y (rule.Follows r) z) k (BothFollow r)

-- ---- a move of a repetition

repeat_both : (b : Act) (more : ℕ) (x y : List Act) (theirs arms : List Arm) → Longer b more x y
    → AllRepeat b more y (map (λ a. both_at x a (arm_of theirs a.label)) arms) (map (λ a. both_at y a (arm_of theirs a.label)) arms)
repeat_both b more x y theirs [] l = tt
repeat_both b more x y theirs (a ∷ arms) l = (by (arm_of theirs a.label), repeat_both b more x y theirs arms l)
  where
    by : (o : Option Arm) → (p q : Spot) → Is (both_at x a o) p → Is (both_at y a o) q → Repeats b more y p q
    by None p q h k = absurd (none-some p h.1)
    by (Some c) p q h k = single b more y (spot a.next x c.next) (spot a.next y c.next) (kept b more x y a.next c.next l) p q h k

repeat_follow : (b : Act) (more : ℕ) (x y : List Act) (s t : ℕ) (r : Role) (theirs : List Arm) → Longer b more x y
    → AllRepeat b more y (map (λ c. owing_receive (spot s x t) r c ∷ []) theirs) (map (λ c. owing_receive (spot s y t) r c ∷ []) theirs)
repeat_follow b more x y s t r [] l = tt
repeat_follow b more x y s t r (c ∷ theirs) l =
    (single b more y (owing_receive (spot s x t) r c) (owing_receive (spot s y t) r c) (pushed b more x y s c.next (act.Takes r c.label c.sort) l), repeat_follow b more x y s t r theirs l)

repeat_guess : (b : Act) (more : ℕ) (x y : List Act) (s t : ℕ) (r : Role) (theirs : List Arm) → not (length theirs == 1) ≡ false → Longer b more x y
    → AllRepeat b more y (map (λ c. owing_send (spot s x t) r c) theirs ∷ []) (map (λ c. owing_send (spot s y t) r c) theirs ∷ [])
repeat_guess b more x y s t r theirs e l = elim (eqb_tells (length theirs) 1) [
  | inl one ↦ (alone theirs one.1, tt)
  | inr other ↦ absurd (false≢true (sym e ∙ ap not other.0))
]
  where
    alone : (those : List Arm) → length those ≡ 1 → (p q : Spot) → Is (map (λ c. owing_send (spot s x t) r c) those) p → Is (map (λ c. owing_send (spot s y t) r c) those) q → Repeats b more y p q
    alone [] n = absurd (omega arith)
    alone (c ∷ []) n = single b more y (owing_send (spot s x t) r c) (owing_send (spot s y t) r c) (pushed b more x y s c.next (act.Puts r c.label c.sort) l)
    alone (c ∷ d ∷ those) n = absurd (omega arith)

repeat_by : (b : Act) (more : ℕ) (x y : List Act) (s t : ℕ) (arms theirs : List Arm) (r r' : Rule) → Twins b x y r r' → guesses_among theirs (Some r) ≡ false → Longer b more x y
    → AllRepeat b more y (nexts_by (spot s x t) arms theirs r) (nexts_by (spot s y t) arms theirs r')
repeat_by b more x y s t arms theirs _ _ (BothPay a i j e f) g l = (single b more y (spot a.next (without x i) t) (spot a.next (without y j) t) (paid b more x y a.next t i j e f l), tt)
repeat_by b more x y s t arms theirs _ _ BothSend g l = repeat_both b more x y theirs arms l
repeat_by b more x y s t arms theirs _ _ (BothGuess r) g l = repeat_guess b more x y s t r theirs g l
repeat_by b more x y s t arms theirs _ _ (BothFollow r) g l = repeat_follow b more x y s t r theirs l
repeat_by b more x y s t arms theirs _ _ BothStop g l = tt

quiet_alone : (pending : List Act) (s : State) (r : Rule) → Row pending s None r → guesses_among [] (Some r) ≡ false
quiet_alone pending _ _ (PayingSend q a i sort _ found at sv) = refl
quiet_alone pending _ _ (PayingReceive q arms i l sort a _ found at arm sv) = refl

-- the spot guesses nothing where its rule is this
calm : (pending : List Act) (so to : Option State) (s : State) (r : Rule) → so ≡ Some s → Row pending s to r → guesses_between pending so to ≡ false → guesses_among (arms_of to) (Some r) ≡ false
calm pending so None s r e row g = quiet_alone pending s r row
calm pending so (Some t) s r e row g =
    sym (ap (guesses_among (arms_at t)) (applies pending s (Some t) r row)) ∙ subst (λ (o : Option State). guesses_between pending o (Some t) ≡ false) e g

repeat_move : (sub above : Machine_data) (b : Act) (more : ℕ) (s t : ℕ) (x y : List Act) (state : State) (makes makes' : Option ℕ) (rs ss : List Spot) (p : Spot)
    → slice_get sub.states s ≡ Some state → Needs b state x y → Longer b more x y → is_guess sub above (spot s x t) ≡ false
    → HasMove sub above (spot s x t) makes rs → HasMove sub above (spot s y t) makes' ss → Among rs p → (q : Spot) × Among ss q × Repeats b more y p q
repeat_move sub above b more s t x y state makes makes' rs ss p e n l g h k m =
    let to : Option State = slice_get above.states t in
    let one = ruled sub above (spot s x t) makes rs h in
    let two = ruled sub above (spot s y t) makes' ss k in
    let a : one.state ≡ state = same_Some one.state state (sym one.stands ∙ e) in
    let c : two.state ≡ state = same_Some two.state state (sym two.stands ∙ e) in
    let row : Row x state to one.rule = subst (λ (z : State). Row x z to one.rule) a one.row in
    let row' : Row y state to two.rule = subst (λ (z : State). Row y z to two.rule) c two.row in
    let tw = twins b x y state to one.rule two.rule n row row' in
    let quiet = calm x (slice_get sub.states s) to state one.rule e row g in
    picked b more y (nexts_by (spot s x t) (arms_at state) (arms_of to) one.rule) (nexts_by (spot s y t) (arms_at state) (arms_of to) two.rule) rs ss p
    (repeat_by b more x y s t (arms_at state) (arms_of to) one.rule two.rule tw quiet l)
    (subst (λ (z : State). Chosen (nexts_by (spot s x t) (arms_at z) (arms_of to) one.rule) rs) a one.picks)
    (subst (λ (z : State). Chosen (nexts_by (spot s y t) (arms_at z) (arms_of to) two.rule) ss) c two.picks) m

-- ---- a round of a repetition

-- the tests

pub all_at : {X : Type 0} (f : X → Bool) (xs : List X) → list_all f xs ≡ true → (x : X) → Among xs x → f x ≡ true
all_at f [] e x m = absurd m
all_at f (y ∷ xs) e x (inl q) = subst (λ z. f z ≡ true) q (and_parts (f y) (list_all f xs) e).0
all_at f (y ∷ xs) e x (inr m) = all_at f xs (and_parts (f y) (list_all f xs) e).1 x m

either : (a b : Bool) → (a || b) ≡ true → (a ≡ true) ⊎ (b ≡ true)
either true b e = inl refl
either false b e = inr e

pub any_at : {X : Type 0} (f : X → Bool) (xs : List X) → list_any f xs ≡ true → (x : X) × Among xs x × (f x ≡ true)
any_at f [] e = absurd (false≢true e)
any_at f (y ∷ xs) e = elim (either (f y) (list_any f xs) e) [ inl h ↦ (y, inl refl, h) | inr h ↦ (let k = any_at f xs h in (k.0, inr k.1, k.2)) ]

-- each act is b, or one of these
abbrev AreKnown : Act → List Act → List Act → Type 0
AreKnown b acts x = (a : Act) → Among x a → (a ≡ b) ⊎ Among acts a

known : (b : Act) (acts x : List Act) → list_all (is_known b acts) x ≡ true → AreKnown b acts x
known b acts x e a m = elim (either (same_act a b) (list_any (λ c. same_act a c) acts) (all_at (is_known b acts) x e a m)) [
  | inl h ↦ inl (act_is a b h)
  | inr h ↦ (let k = any_at (λ (c : Act). same_act a c) acts h in inr (subst (λ (z : Act). Among acts z) (sym (act_is a k.0 k.2)) k.1))
]

-- of the known acts the machine needs b alone
unneeded : (b : Act) (acts : List Act) (so : Option State) (x : List Act) → list_all (λ a. same_act a b || overtakes so a) acts ≡ true → AreKnown b acts x
    → (a : Act) → Among x a → (a ≡ b) ⊎ (overtakes so a ≡ true)
unneeded b acts so x e k a m = elim (k a m) [
  | inl same ↦ inl same
  | inr h ↦ elim (either (same_act a b) (overtakes so a) (all_at (λ (c : Act). same_act c b || overtakes so c) acts e a h)) [ inl q ↦ inl (act_is a b q) | inr q ↦ inr q ]
]

owing : (b : Act) (so : Option State) (x : List Act) → (overtakes so b || list_any (λ a. same_act b a) x) ≡ true → (overtakes so b ≡ true) ⊎ Among x b
owing b so x e = elim (either (overtakes so b) (list_any (λ (a : Act). same_act b a) x) e) [
  | inl h ↦ inl h
  | inr h ↦ (let k = any_at (λ (a : Act). same_act b a) x h in inr (subst (λ (z : Act). Among x z) (sym (act_is b k.0 k.2)) k.1))
]

-- a node of the derivation at a spot with these acts owed
record NodeAt (d : Derivation_data) (s : ℕ) (y : List Act) (t : ℕ) : Type 0 where
  number : ℕ
  node : DNode_data
  stands : slice_get d.nodes number ≡ Some node
  is : spot_of node ≡ spot s y t

named : (nodes : List DNode_data) (js : List ℕ) (rs : List Spot) (r : Spot) → NameResults nodes js rs → Among rs r → (j : ℕ) × (m : DNode_data) × (slice_get nodes j ≡ Some m) × (spot_of m ≡ r)
named nodes js [] r h m = absurd m
named nodes [] (x ∷ rs) r h m = absurd h
named nodes (j ∷ js) (x ∷ rs) r h (inl e) = (j, h.0.0, h.0.1, h.0.2 ∙ e)
named nodes (j ∷ js) (x ∷ rs) r h (inr m) = named nodes js rs r h.1 m

-- what holds at a spot of a repetition: the derivation has a node there, where more is owed than at the spot, and all of it is known
record Stands (sub above : Machine_data) (d : Derivation_data) (b : Act) (acts : List Act) (more : ℕ) (p : Spot) : Type 0 where
  owed : List Act
  node : NodeAt d p.state owed p.above
  longer : Longer b more p.pending owed
  ours : AreKnown b acts p.pending
  theirs : AreKnown b acts owed

no_guess : (g c : Bool) → (not g && c) ≡ true → (g ≡ false) × (c ≡ true)
no_guess false c e = (refl, e)
no_guess true c e = absurd (false≢true e)

same_spot_is : (q : Spot) (s t : ℕ) → q.state ≡ s → q.above ≡ t → q ≡ spot s q.pending t
same_spot_is q s t e f = rw (sym e, sym f) refl

step_on : (sub above : Machine_data) (d : Derivation_data) → IsDerivation d sub above → (bound : ℕ) (b : Act) (acts : List Act) (more : ℕ) (p : Spot) (place : ℕ) (q : Spot) → Stands sub above d b acts more p
    → LeadsBy sub above bound p place q → is_guess sub above p ≡ false → needs_only b acts (slice_get sub.states p.state) p.pending ≡ true → list_all (is_known b acts) q.pending ≡ true
    → Stands sub above d b acts more q
step_on sub above d v bound b acts more p place q w leads g needs k =
    let n = w.node in
    let fit = v.each n.number n.node n.stands in
    let m = leads_move sub above bound p place q leads in
    let move : HasMove sub above (spot p.state w.owed p.above) fit.makes fit.results = subst (λ (z : Spot). HasMove sub above z fit.makes fit.results) n.is fit.move in
    let first = ruled sub above p m.1.makes m.0 m.1.move in
    let parts = and_parts (list_all (λ (a : Act). same_act a b || overtakes (slice_get sub.states p.state) a) acts)
    (overtakes (slice_get sub.states p.state) b || list_any (λ (a : Act). same_act b a) p.pending) needs in
    let ready : Needs b first.state p.pending w.owed = record {
      ours = subst (λ (o : Option State). (a : Act) → Among p.pending a → (a ≡ b) ⊎ (overtakes o a ≡ true)) first.stands (unneeded b acts (slice_get sub.states p.state) p.pending parts.0 w.ours);
      theirs = subst (λ (o : Option State). (a : Act) → Among w.owed a → (a ≡ b) ⊎ (overtakes o a ≡ true)) first.stands (unneeded b acts (slice_get sub.states p.state) w.owed parts.0 w.theirs);
      owed = subst (λ (o : Option State). (overtakes o b ≡ true) ⊎ Among p.pending b) first.stands (owing b (slice_get sub.states p.state) p.pending parts.1);
      often = w.longer.often;
    } in
    let on = repeat_move sub above b more p.state p.above p.pending w.owed first.state m.1.makes fit.makes m.0 fit.results q first.stands ready w.longer g m.1.move move m.2 in
    let next = named d.nodes n.node.next fit.results on.0 fit.named on.1 in
    let rep = on.2 in
    let ks = known b acts q.pending k in
    record {
      owed = on.0.pending;
      node = record { number = next.0; node = next.1; stands = next.2; is = next.3 ∙ same_spot_is on.0 q.state q.above rep.state rep.above };
      longer = rep.longer;
      ours = ks;
      theirs = λ a h. elim (rep.from a h) [ inl x ↦ w.theirs a x | inr x ↦ ks a x ];
    }

walk_on : (sub above : Machine_data) (d : Derivation_data) → IsDerivation d sub above → (bound : ℕ) (b : Act) (acts : List Act) (more : ℕ) (p : Spot) (steps : List WalkStep_data)
    → Stands sub above d b acts more p → IsWalk sub above bound p steps → is_forced sub above p steps ≡ true → is_repeatable sub b acts p.state p.pending steps ≡ true → Stands sub above d b acts more (end_of p steps)
walk_on sub above d v bound b acts more p [] w l f r = w
walk_on sub above d v bound b acts more p (s ∷ later) w l f r =
    let g = no_guess (is_guess sub above p) (is_forced sub above s.spot later) f in
    let h = and_parts (needs_only b acts (slice_get sub.states p.state) p.pending && list_all (is_known b acts) s.spot.pending) (is_repeatable sub b acts s.spot.state s.spot.pending later) r in
    let k = and_parts (needs_only b acts (slice_get sub.states p.state) p.pending) (list_all (is_known b acts) s.spot.pending) h.0 in
    walk_on sub above d v bound b acts more s.spot later (step_on sub above d v bound b acts more p s.place s.spot w l.0 g.0 k.0 k.1) l.1 g.1 h.1

-- ---- round and round

-- the round begins at p and ends at q, where the same acts are owed and others behind them
record IsRoundOf (p q : Spot) : Type 0 where
  state : p.state ≡ q.state
  above : p.above ≡ q.above
  longer : length p.pending < length q.pending
  first : p.pending ≡ take (length p.pending) q.pending

round_of : (p q : Spot) → is_further p q ≡ true → IsRoundOf p q
round_of p q e =
    let a = and_parts (p.state == q.state) ((p.above == q.above) && (nat_lt (length p.pending) (length q.pending) && begins_with q.pending p.pending)) e in
    let b = and_parts (p.above == q.above) (nat_lt (length p.pending) (length q.pending) && begins_with q.pending p.pending) a.1 in
    let c = and_parts (nat_lt (length p.pending) (length q.pending)) (begins_with q.pending p.pending) b.1 in
    record {
      state = eqb-true p.state q.state a.0;
      above = eqb-true p.above q.above b.0;
      longer = ltb-true (length p.pending) (length q.pending) c.0;
      first = acts_are p.pending (take (length p.pending) q.pending) c.1;
    }

taken_among : (n : ℕ) (xs : List Act) (a : Act) → Among (take n xs) a → Among xs a
taken_among zero xs a h = absurd h
taken_among (suc n) [] a h = absurd h
taken_among (suc n) (x ∷ xs) a (inl e) = inl e
taken_among (suc n) (x ∷ xs) a (inr h) = inr (taken_among n xs a h)

tally_taken : (b : Act) (n : ℕ) (xs : List Act) → tally b (take n xs) ≤ tally b xs
tally_taken b zero xs = omega arith
tally_taken b (suc n) [] = omega arith
tally_taken b (suc n) (x ∷ xs) = let k = tally_taken b n xs in omega arith

-- at the end of the round it stands as at its beginning, with more owed
around : (sub above : Machine_data) (d : Derivation_data) (b : Act) (p q : Spot) (more : ℕ) → IsRoundOf p q → Stands sub above d b q.pending 0 p → Stands sub above d b q.pending more q
    → (most : ℕ) × (more < most) × Stands sub above d b q.pending most p
around sub above d b p q more r begin w = (
  more + length q.pending - length p.pending,
  (let k = r.longer in omega arith),
  record {
    owed = w.owed;
    node = record { number = w.node.number; node = w.node.node; stands = w.node.stands; is = w.node.is ∙ same };
    longer = record {
      size = (let k = r.longer in let z = w.longer.size in omega arith);
      often = (let k : tally b p.pending ≤ tally b q.pending = subst (λ (z : List Act). tally b z ≤ tally b q.pending) (sym r.first) (tally_taken b (length p.pending) q.pending) in let z = w.longer.often in omega arith);
    };
    ours = begin.ours;
    theirs = w.theirs;
  },
)
  where
    same : spot q.state w.owed q.above ≡ spot p.state w.owed p.above
    same = rw (r.state, r.above) refl

again : (sub above : Machine_data) (d : Derivation_data) → IsDerivation d sub above → (bound : ℕ) (b : Act) (p q : Spot) (steps : List WalkStep_data) → IsRoundOf p q → end_of p steps ≡ q
    → IsWalk sub above bound p steps → is_forced sub above p steps ≡ true → is_repeatable sub b q.pending p.state p.pending steps ≡ true → Stands sub above d b q.pending 0 p
    → (n : ℕ) → (more : ℕ) × (n ≤ more) × Stands sub above d b q.pending more p
again sub above d v bound b p q steps r e l f k begin zero = (0, (omega arith), begin)
again sub above d v bound b p q steps r e l f k begin (suc n) =
    let w = again sub above d v bound b p q steps r e l f k begin n in
    let on = walk_on sub above d v bound b q.pending w.0 p steps w.2 l f k in
    let a = around sub above d b p q w.0 r begin (subst (λ (z : Spot). Stands sub above d b q.pending w.0 z) e on) in
    (a.0, (let x = w.1 in let y = a.1 in omega arith), a.2)

-- no bound is enough
no_bound : (sub above : Machine_data) (d : Derivation_data) → IsDerivation d sub above → (bound : ℕ) (b : Act) (p q : Spot) (steps : List WalkStep_data) → IsRoundOf p q → end_of p steps ≡ q
    → IsWalk sub above bound p steps → is_forced sub above p steps ≡ true → is_repeatable sub b q.pending p.state p.pending steps ≡ true → NodeAt d p.state p.pending p.above → ⊥
no_bound sub above d v bound b p q steps r e l f k node =
    let begin : Stands sub above d b q.pending 0 p = record {
      owed = p.pending;
      node = node;
      longer = record { size = omega arith; often = omega arith };
      ours = λ a m. inr (taken_among (length p.pending) q.pending a (subst (λ (z : List Act). Among z a) r.first m));
      theirs = λ a m. inr (taken_among (length p.pending) q.pending a (subst (λ (z : List Act). Among z a) r.first m));
    } in
    let w = again sub above d v bound b p q steps r e l f k begin (suc d.bound) in
    let s = w.2 in
    let fit = v.each s.node.number s.node.node s.node.stands in
    let short : length s.owed ≤ d.bound = subst (λ (z : List Act). length z ≤ d.bound) (ap (λ (z : Spot). z.pending) s.node.is) fit.short in
    let size = s.longer.size in
    let far = w.1 in
    omega arith

-- ---- the walk to the round

after_on : (p : Spot) (s : WalkStep_data) (later : List WalkStep_data) (n : ℕ) → n ≤ length later → spot_after p (s ∷ later) (suc n) ≡ spot_after s.spot later n
after_on p s later zero h = refl
after_on p s later (suc n) h = let x = at_within later n (omega arith) in rw x.1 refl

after_all : (p : Spot) (steps : List WalkStep_data) → spot_after p steps (length steps) ≡ end_of p steps
after_all p [] = refl
after_all p (s ∷ later) = after_on p s later (length later) (omega arith) ∙ after_all s.spot later

-- the rest of a walk, and a node where it begins
record Rest (sub above : Machine_data) (d : Derivation_data) (bound : ℕ) (p q : Spot) (steps : List WalkStep_data) : Type 0 where
  node : NodeAt d p.state p.pending p.above
  walk : IsWalk sub above bound p steps
  is_so : is_forced sub above p steps ≡ true
  ends : end_of p steps ≡ q

rest : (sub above : Machine_data) (d : Derivation_data) → IsDerivation d sub above → (bound : ℕ) (p : Spot) (steps : List WalkStep_data) (n : ℕ) → n ≤ length steps → NodeAt d p.state p.pending p.above
    → IsWalk sub above bound p steps → is_forced sub above p steps ≡ true → Rest sub above d bound (spot_after p steps n) (end_of p steps) (drop n steps)
rest sub above d v bound p steps zero h node w f = record { node = node; walk = w; is_so = f; ends = refl }
rest sub above d v bound p [] (suc n) h node w f = absurd (omega arith)
rest sub above d v bound p (s ∷ later) (suc n) h node w f =
    let g = no_guess (is_guess sub above p) (is_forced sub above s.spot later) f in
    let one = forced sub above bound p (s ∷ later) w f in
    let fit = v.each node.number node.node node.stands in
    let m = one.0 fit.makes fit.results (subst (λ (z : Spot). HasMove sub above z fit.makes fit.results) node.is fit.move) in
    let next = named d.nodes node.node.next fit.results s.spot fit.named m in
    let on = rest sub above d v bound s.spot later n (omega arith) (record { number = next.0; node = next.1; stands = next.2; is = next.3 }) w.1 g.1 in
    subst (λ (z : Spot). Rest sub above d bound z (end_of s.spot later) (drop n later)) (sym (after_on p s later n (omega arith))) on

started : (p q : Spot) (steps : List WalkStep_data) (n k : ℕ) → round_start p steps n ≡ Some k → (k < n) × (is_further (spot_after p steps k) (spot_after p steps (length steps)) ≡ true)
started p q steps zero k e = absurd (none-some k e)
started p q steps (suc n) k e = by (is_further (spot_after p steps n) (spot_after p steps (length steps))) refl (λ h. started p q steps n k h)
  where
    by : (t : Bool) → is_further (spot_after p steps n) (spot_after p steps (length steps)) ≡ t → (round_start p steps n ≡ Some k → (k < n) × (is_further (spot_after p steps k) (spot_after p steps (length steps)) ≡ true))
        → (k < suc n) × (is_further (spot_after p steps k) (spot_after p steps (length steps)) ≡ true)
    by true h on =
        let same : n ≡ k = same_Some n k (sym (ap (λ (t : Bool). if t then Some n else round_start p steps n) h) ∙ e) in
        ((omega arith), subst (λ (z : ℕ). is_further (spot_after p steps z) (spot_after p steps (length steps)) ≡ true) same h)
    by false h on = let k' = on (sym (ap (λ (t : Bool). if t then Some n else round_start p steps n) h) ∙ e) in ((let x = k'.0 in omega arith), k'.1)

-- whether a round begins at the spot before
pub round_at : (p : Spot) (steps : List WalkStep_data) (count : ℕ) (b : Bool) → 0 < count → is_further (spot_after p steps (count - 1)) (spot_after p steps (length steps)) ≡ b
    → round_start p steps count ≡ (if b then Some (count - 1) else round_start p steps (count - 1))
round_at p steps zero b h e = absurd (omega arith)
round_at p steps (suc n) b h e =
    let k : suc n - 1 ≡ n = omega arith in
    let f : is_further (spot_after p steps n) (spot_after p steps (length steps)) ≡ b = subst (λ (z : ℕ). is_further (spot_after p steps z) (spot_after p steps (length steps)) ≡ b) k e in
    rw (k, f) refl

pub endless : (sub above : Machine_data) (bound : ℕ) (steps : List WalkStep_data) (d : Derivation_data) → IsWalk sub above bound (start_spot sub above) steps
    → is_forced sub above (start_spot sub above) steps ≡ true → grows_for_ever sub (start_spot sub above) steps ≡ true → IsDerivation d sub above → ⊥
endless sub above bound steps d w f g v = by (round_start p steps (length steps)) refl g
  where
    p : Spot
    p = start_spot sub above

    by : (o : Option ℕ) → round_start p steps (length steps) ≡ o → grows_from sub p steps (spot_after p steps (length steps)).pending o ≡ true → ⊥
    by None e h = false≢true h
    by (Some n) e h =
        let s = started p p steps (length steps) n e in
        let q = spot_after p steps (length steps) in
        let any = any_at (λ (b : Act). is_repeatable sub b q.pending (spot_after p steps n).state (spot_after p steps n).pending (drop n steps)) q.pending h in
        let r = rest sub above d v bound p steps n (let k = s.0 in omega arith) (record { number = 0; node = v.first; stands = v.stands; is = v.starts }) w f in
        no_bound sub above d v bound any.0 (spot_after p steps n) q (drop n steps) (round_of (spot_after p steps n) q s.1) (r.ends ∙ sym (after_all p steps)) r.walk r.is_so any.2 r.node

-- whether it is alike at the place before
pub alike_at : (p : Spot) (steps : List WalkStep_data) (size more count : ℕ) (b : Bool) → 0 < count → is_alike p steps size more (count - 1) ≡ b
    → alike_from p steps size more count ≡ (if b then alike_from p steps size more (count - 1) else count)
alike_at p steps size more zero b h e = absurd (omega arith)
alike_at p steps size more (suc n) b h e =
    let k : suc n - 1 ≡ n = omega arith in
    let f : is_alike p steps size more n ≡ b = subst (λ (z : ℕ). is_alike p steps size more z ≡ b) k e in
    rw (k, f) refl

pub alike_none : (p : Spot) (steps : List WalkStep_data) (size more count : ℕ) → count ≤ 0 → 0 ≡ alike_from p steps size more count
alike_none p steps size more zero h = refl
alike_none p steps size more (suc n) h = absurd (omega arith)
