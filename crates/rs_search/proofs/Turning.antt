-- The turn that the code makes is the one that is due.
use Rattle.std.proofs.Common.{◌≡◌, inl, inr, ℕ, ◌<◌, ◌≤◌, ◌+◌, Bool, true, false, List, [], ◌∷◌, ◌++◌, length, map, refl, sym, ap, ◌∙◌, subst, arith, suc, zero, None, Option, Some, slice_get, get_or}
use Rattle.std.proofs.Common.{take, ◌^◌, length-append, if◌then◌else◌, eqb, nat_lt, nat_le, ◌&&◌}
use Rattle.std.proofs.lemmas.Bool.{cases_lt, lt-ltb, le-ltb, le-leb, lt-leb}
use Rattle.std.proofs.lemmas.List.{length-map}
use Rattle.rs_model.specs.declared.graph.Arm.{Arm}
use Rattle.rs_model.specs.declared.graph.Role.{Role}
use Rattle.rs_model.specs.declared.machines.State.{State}
use Rattle.rs_model.specs.Data.{Machine_data}
use Rattle.rs_prefix.specs.Earliest.{without}
use Rattle.rs_derive.specs.Due.{both_at, due_at, due_by, nexts_by}
use Rattle.rs_derive.specs.Moves.{Spot, arm_of, owing_receive, owing_send, spot}
use Rattle.rs_derive.specs.Rules.{keeps_head}
use Rattle.rs_derive.specs.declared.rules.Rule.{Rule}
use Rattle.rs_derive.specs.declared.rules.Rule.TheVariants.{Stops, Pays, SendsBoth, Guesses, Follows}
use Rattle.rs_graph.specs.Lists.{Among, concat}
use Rattle.rs_graph.proofs.Buckets.{got}
use Rattle.rs_graph.proofs.Growth.{take_on}
use Rattle.rs_search.specs.Turns.{Turn_data, turn_with_cut, cuts, may_choose, no_turn, owes_more, turn_by_code, turn_of, turn_within}
use Rattle.rs_search.specs.declared.turns.SpotMoves.{SpotMoves}
use Rattle.rs_search.proofs.Choices.{append_nil, among_nil, both_level, follow_level, guess_level, without_length}

pub choose_is : (p : Spot) (arms theirs : List Arm) (rule : Rule) → may_choose arms theirs rule ≡ eqb (length (nexts_by p arms theirs rule)) 1
choose_is p arms theirs Stops = refl
choose_is p arms theirs (Pays place a) = refl
choose_is p arms theirs SendsBoth = ap (λ (n : ℕ). eqb n 1) (sym (length-map arms (λ a. both_at p.pending a (arm_of theirs a.label))))
choose_is p arms theirs (Guesses r) = refl
choose_is p arms theirs (Follows r) = ap (λ (n : ℕ). eqb n 1) (sym (length-map theirs (λ b. owing_receive p r b ∷ [])))

-- where all spots owe as much
level_more : (bound owes : ℕ) (spots : List Spot) → ((r : Spot) → Among spots r → length r.pending ≡ owes) → bound < owes → owes_more bound spots ≡ nat_lt 0 (length spots)
level_more bound owes [] h lt = refl
level_more bound owes (s ∷ spots) h lt =
    let k : nat_lt bound (length s.pending) ≡ true = lt-ltb bound (length s.pending) (let e = h s (inl refl) in omega arith) in
    let z : nat_lt 0 (length (s ∷ spots)) ≡ true = lt-ltb 0 (length (s ∷ spots)) (omega arith) in
    rw (k, z) refl

level_less : (bound owes : ℕ) (spots : List Spot) → ((r : Spot) → Among spots r → length r.pending ≡ owes) → owes ≤ bound → owes_more bound spots ≡ false
level_less bound owes [] h le = refl
level_less bound owes (s ∷ spots) h le =
    let k : nat_lt bound (length s.pending) ≡ false = le-ltb bound (length s.pending) (let e = h s (inl refl) in omega arith) in
    rw (k, level_less bound owes spots (λ r m. h r (inr m)) le) refl

-- where all owe one act more
pushed : (bound count more : ℕ) (spots : List Spot) → ((r : Spot) → Among spots r → length r.pending ≡ suc count) → length spots ≡ more → owes_more bound spots ≡ (nat_le bound count && nat_lt 0 more)
pushed bound count more spots h e = elim (cases_lt count bound) [
  | inl a ↦ (let k : nat_le bound count ≡ false = lt-leb bound count a in rw k (level_less bound (suc count) spots h (omega arith)))
  | inr a ↦ (let k : nat_le bound count ≡ true = le-leb bound count a in rw k (level_more bound (suc count) spots h (omega arith) ∙ ap (λ (n : ℕ). nat_lt 0 n) e))
]

follow_length : (p : Spot) (q : Role) (theirs : List Arm) → concat (map (λ b. owing_receive p q b ∷ []) theirs) ≡ map (λ b. owing_receive p q b) theirs
follow_length p q [] = refl
follow_length p q (b ∷ theirs) = ap (λ (z : List Spot). owing_receive p q b ∷ z) (follow_length p q theirs)

pub followed_is : (p : Spot) (q : Role) (theirs : List Arm) → concat (map (λ b. owing_receive p q b ∷ []) theirs) ≡ map (λ b. owing_receive p q b) theirs
followed_is p q theirs = follow_length p q theirs

pub guessed_is : (p : Spot) (q : Role) (theirs : List Arm) → map (λ b. owing_send p q b) theirs ++ [] ≡ map (λ b. owing_send p q b) theirs
guessed_is p q theirs = append_nil (map (λ b. owing_send p q b) theirs)

pub cut_is : (bound : ℕ) (p : Spot) (arms theirs : List Arm) (rule : Rule) → length p.pending ≤ bound → owes_more bound (concat (nexts_by p arms theirs rule)) ≡ cuts bound p.pending theirs rule
cut_is bound p arms theirs Stops h = refl
cut_is bound p arms theirs (Pays place a) h =
    level_less bound (length (without p.pending place)) (spot a.next (without p.pending place) p.above ∷ [])
    (λ r m. (elim m [ inl e ↦ ap (λ (z : Spot). length z.pending) (sym e) | inr k ↦ absurd k ]))
    (let k = without_length p.pending place in omega arith)
cut_is bound p arms theirs SendsBoth h = level_less bound (length p.pending) _ (both_level theirs p.pending arms) h
cut_is bound p arms theirs (Guesses q) h =
    pushed bound (length p.pending) (length theirs) (map (λ b. owing_send p q b) theirs ++ [])
    (λ r m. guess_level p q theirs r (among_nil (map (λ b. owing_send p q b) theirs) r m))
    (ap (λ (z : List Spot). length z) (guessed_is p q theirs) ∙ length-map theirs (λ b. owing_send p q b))
cut_is bound p arms theirs (Follows q) h =
    pushed bound (length p.pending) (length theirs) (concat (map (λ b. owing_receive p q b ∷ []) theirs)) (follow_level p q theirs)
    (ap (λ (z : List Spot). length z) (follow_length p q theirs) ∙ length-map theirs (λ b. owing_receive p q b))

pub turn_cut : (bound : ℕ) (p : Spot) (arms theirs : List Arm) (rule : Rule) → length p.pending ≤ bound → cuts bound p.pending theirs rule ≡ true
    → no_turn true ≡ turn_with_cut bound (turn_of (Some (due_by p arms theirs rule)))
turn_cut bound p arms theirs rule h e =
    subst (λ (b : Bool). no_turn true ≡ (if b then no_turn true else turn_of (Some (due_by p arms theirs rule)))) (sym (cut_is bound p arms theirs rule h ∙ e)) refl

pub turn_kept : (bound : ℕ) (p : Spot) (arms theirs : List Arm) (rule : Rule) (t : Turn_data) → length p.pending ≤ bound → cuts bound p.pending theirs rule ≡ false
    → t.cut ≡ false → t.any ≡ may_choose arms theirs rule → t.keeps ≡ keeps_head p.pending rule → t.spots ≡ concat (nexts_by p arms theirs rule)
    → t ≡ turn_with_cut bound (turn_of (Some (due_by p arms theirs rule)))
turn_kept bound p arms theirs rule t h e c a k s =
    subst (λ (b : Bool). t ≡ (if b then no_turn true else turn_of (Some (due_by p arms theirs rule)))) (sym (cut_is bound p arms theirs rule h ∙ e))
    (same t (turn_of (Some (due_by p arms theirs rule))) c (a ∙ choose_is p arms theirs rule) k s)
  where
    same : (t u : Turn_data) → t.cut ≡ u.cut → t.any ≡ u.any → t.keeps ≡ u.keeps → t.spots ≡ u.spots → t ≡ u
    same t u c a k s = rw (c, a, k, s) refl

-- loops over arms

pub arm_at : (xs : List Arm) (i : ℕ) (d : Arm) → i < length xs → slice_get xs i ≡ Some (get_or xs i d)
arm_at [] i d h = let bad : ⊥ = omega arith in absurd bad
arm_at (x ∷ xs) zero d h = refl
arm_at (x ∷ xs) (suc i) d h = arm_at xs i d (omega arith)

pub label_at : (xs : List Arm) (i : ℕ) (d a : Arm) → (get_or xs i d).label.0 < 2 ^ 16 → slice_get xs i ≡ Some a → a.label.0 < 2 ^ 16
label_at xs i d a h g = subst (λ (z : Arm). z.label.0 < 2 ^ 16) (got xs i a d g) h

map_push : (f : Arm → Spot) (xs : List Arm) (x : Arm) → map f (xs ++ x ∷ []) ≡ map f xs ++ f x ∷ []
map_push f [] x = refl
map_push f (y ∷ xs) x = ap (λ (z : List Spot). f y ∷ z) (map_push f xs x)

pub map_step : (f : Arm → Spot) (xs : List Arm) (i : ℕ) (a : Arm) (spots new : List Spot) (r : Spot) → slice_get xs i ≡ Some a → spots ≡ map f (take i xs) → r ≡ f a → new ≡ spots ++ r ∷ []
    → new ≡ map f (take (i + 1) xs)
map_step f xs i a spots new r g e er en =
    en ∙ ap (λ (z : List Spot). z ++ r ∷ []) e ∙ ap (λ (z : Spot). map f (take i xs) ++ z ∷ []) er ∙ sym (map_push f (take i xs) a) ∙ ap (map f) (sym (take_on xs i a g))

pub push_length : (spots new : List Spot) (r : Spot) (i : ℕ) → new ≡ spots ++ r ∷ [] → length spots ≤ i → length new ≤ i + 1
push_length spots new r i e h = let l = length-append spots (r ∷ []) in let n : length new ≡ length (spots ++ r ∷ []) = ap (λ (z : List Spot). length z) e in omega arith

pub told_none : (p : Spot) (arms theirs : List Arm) (t : SpotMoves) (cut : Bool) → (t.cut ≡ cut) × (t.any ≡ true) × (t.keeps ≡ false) × (t.rule ≡ None) → turn_by_code p arms theirs t ≡ no_turn cut
told_none p arms theirs t cut h = rw (h.0, h.1, h.2, h.3) refl

-- the turn that is due at the states where the spot stands
pub turn_there : (sub above : Machine_data) (bound : ℕ) (p : Spot) (state there : State) → slice_get sub.states p.state ≡ Some state → slice_get above.states p.above ≡ Some there
    → turn_with_cut bound (turn_of (due_at p (Some state) (Some there))) ≡ turn_within sub above bound p
turn_there sub above bound p state there es et =
    ap (λ (z : Option State). turn_with_cut bound (turn_of (due_at p z (Some there)))) (sym es)
    ∙ ap (λ (z : Option State). turn_with_cut bound (turn_of (due_at p (slice_get sub.states p.state) z))) (sym et)
