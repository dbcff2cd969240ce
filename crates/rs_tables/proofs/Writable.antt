-- What is spelt can be printed.
use Rattle.std.proofs.Common.{◌≡◌, ◌⊎◌, inl, inr, ℕ, suc, ◌<◌, ◌≤◌, List, [], ◌∷◌, ◌++◌, codes, length, map, Bool, true, false, ◌||◌, eqb, cond, Option, Some, None, refl, sym, ap, ◌∙◌, subst, arith}
use Rattle.std.proofs.lemmas.Bool.{eqb-true}
use Rattle.std.proofs.lemmas.List.{length-map}
use Rattle.std.proofs.lemmas.List.Elements.{All-append, All-cons, All-head, All-tail}
use Rattle.std.proofs.lemmas.Map.Keys.{IsDistinct-cons}
use Rattle.std.proofs.lemmas.Map.Steps.{length-le_from_distinct_below}
use Rattle.std.specs.List.{All, flat_map, list_all, list_any, IsDistinct, AllByRecursion}
use Rattle.std.specs.Set.{distinct_count, unique_keys}
use Rattle.rs_model.specs.Data.{Names_data}
use Rattle.rs_model.specs.declared.graph.Arm.{Arm}
use Rattle.rs_model.specs.declared.graph.Role.{Role}
use Rattle.rs_model.specs.declared.limits.TheConstants.{MOST_NUMBER}
use Rattle.rs_bodies.specs.declared.dialects.Mark.{Mark}
use Rattle.rs_bodies.specs.declared.dialects.Mark.TheVariants as mark
use Rattle.rs_bodies.specs.Dialects.{mark_sign}
use Rattle.rs_text.specs.Arms.{sort_signs}
use Rattle.rs_text.specs.Lexemes.{Lexeme, signs_of, is_last}
use Rattle.rs_text.specs.Names.{is_among, place_of, number_or}
use Rattle.rs_text.specs.Signs.{Sign, plain, number, word_sign, comma, open_brace, close_brace, open_paren, close_paren}
use Rattle.rs_text.specs.Tokens.{AreTokens, IsToken}
use Rattle.rs_text.proofs.Basics.{both}
use Rattle.rs_text.proofs.Gaps.{true_or_false}
use Rattle.rs_text.proofs.Naming.{not_among}
use Rattle.rs_text.proofs.Numbers.{place_below}
use Rattle.rs_tables.specs.Machines.{labels_of_arms, labels_of_row, labels_of_rows, peers_of_row, peers_of_rows, arm_of_tree, state_of_row, machine_of_table, names_of}
use Rattle.rs_text.specs.KnownNames.{role_named}
use Rattle.rs_bodies.specs.Dialects.{state_by_mark}
use Rattle.rs_tables.specs.Printable.{IsArmTabled, IsChoiceTabled, IsStateTabled, arms_of, IsTabled}
use Rattle.rs_tables.specs.Spells.{Fits}
use Rattle.rs_tables.specs.Trees.{ArmTree, RowTree, end_row, choice_row, TableTree, arm_signs, later_arm_signs, arms_signs, row_signs, rows_signs, table_signs}
use Rattle.rs_tables.proofs.Standings.{grown_known as known_grown, Known, known_parts}

-- ---- the numbers of tokens are small, and so those of the tree

abbrev SignSmall : Sign → Type 0
SignSmall (number n) = n ≤ MOST_NUMBER
SignSmall _ = Unit {0}

abbrev SignsSmall : List Sign → Type 0
SignsSmall [] = Unit {0}
SignsSmall (t ∷ ts) = SignSmall t × SignsSmall ts

abbrev ArmsSmall : List ArmTree → Type 0
ArmsSmall [] = Unit {0}
ArmsSmall (a ∷ arms) = (a.next ≤ MOST_NUMBER) × ArmsSmall arms

abbrev RowSmall : RowTree → Type 0
RowSmall end_row = Unit {0}
RowSmall (choice_row p m x xs) = ArmsSmall (x ∷ xs)

abbrev pub RowsSmall : List RowTree → Type 0
RowsSmall [] = Unit {0}
RowsSmall (r ∷ rs) = RowSmall r × RowsSmall rs

head_small : (t : Sign) (ts : List Sign) → SignsSmall (t ∷ ts) → SignSmall t
head_small t ts h = h.0

tail_small : (t : Sign) (ts : List Sign) → SignsSmall (t ∷ ts) → SignsSmall ts
tail_small t ts h = h.1

parts_small : (xs ys : List Sign) → SignsSmall (xs ++ ys) → SignsSmall xs × SignsSmall ys
parts_small [] ys h = (tt, h)
parts_small (x ∷ xs) ys h = let k = parts_small xs ys (tail_small x (xs ++ ys) h) in ((head_small x (xs ++ ys) h, k.0), k.1)

token_small : (t : Sign) (text behind : List ℕ) → IsToken t text behind → SignSmall t
token_small (number n) text behind h = subst (λ (z : ℕ). z ≤ MOST_NUMBER) (sym h.2) h.1
token_small _ text behind h = tt

some_left : (xs : List Lexeme) (l : Lexeme) (ls : List Lexeme) → xs ++ l ∷ ls ≡ [] → ⊥
some_left [] l ls h = cc h
some_left (x ∷ xs) l ls h = cc h

tokens_small : (bytes : List ℕ) (xs : List Lexeme) (at : ℕ) (l : Lexeme) (ls : List Lexeme) → AreTokens bytes at (xs ++ l ∷ ls) → SignsSmall (signs_of xs)
tokens_small bytes [] at l ls h = tt
tokens_small bytes (x ∷ xs) at l ls h = elim (true_or_false (is_last x.sign)) [
  | inl e ↦ absurd (some_left xs l ls (h.1 e))
  | inr e ↦ (token_small x.sign h.0.text h.0.behind h.0.token, tokens_small bytes xs x.until l ls (h.2 e))
]

arm_small : (a : ArmTree) → SignsSmall (arm_signs a) → a.next ≤ MOST_NUMBER
arm_small a h =
    let k = parts_small (sort_signs a.sort) (close_paren ∷ number a.next ∷ [])
    (tail_small open_paren (sort_signs a.sort ++ close_paren ∷ number a.next ∷ []) (tail_small (word_sign a.label) (open_paren ∷ (sort_signs a.sort ++ close_paren ∷ number a.next ∷ [])) h)) in
    head_small (number a.next) [] (tail_small close_paren (number a.next ∷ []) k.1)

later_small : (arms : List ArmTree) → SignsSmall (flat_map later_arm_signs arms) → ArmsSmall arms
later_small [] h = tt
later_small (a ∷ arms) h =
    let k = parts_small (arm_signs a) (flat_map later_arm_signs arms) (tail_small comma (arm_signs a ++ flat_map later_arm_signs arms) h) in (arm_small a k.0, later_small arms k.1)

arms_small : (x : ArmTree) (xs : List ArmTree) → SignsSmall (arms_signs x xs) → ArmsSmall (x ∷ xs)
arms_small x xs h = let k = parts_small (arm_signs x) (flat_map later_arm_signs xs) h in (arm_small x k.0, later_small xs k.1)

row_small : (n : ℕ) (r : RowTree) → SignsSmall (row_signs n r) → RowSmall r
row_small n end_row h = tt
row_small n (choice_row p m x xs) h =
    let more : List Sign = arms_signs x xs ++ close_brace ∷ [] in
    arms_small x xs (parts_small (arms_signs x xs) (close_brace ∷ [])
    (tail_small open_brace more (tail_small (mark_sign m) (open_brace ∷ more) (tail_small (plain p) (mark_sign m ∷ open_brace ∷ more) (tail_small (number n) (plain p ∷ mark_sign m ∷ open_brace ∷ more) h))))).0

rows_small : (n : ℕ) (rs : List RowTree) → SignsSmall (rows_signs n rs) → RowsSmall rs
rows_small n [] h = tt
rows_small n (r ∷ rs) h = let k = parts_small (row_signs n r) (rows_signs (suc n) rs) h in (row_small n r k.0, rows_small (suc n) rs k.1)

behind_head : (a b c : Sign) (xs ys : List Sign) → SignsSmall (a ∷ b ∷ c ∷ (xs ++ ys)) → SignsSmall xs
behind_head a b c xs ys h = (parts_small xs ys (tail_small c (xs ++ ys) (tail_small b (c ∷ (xs ++ ys)) (tail_small a (b ∷ c ∷ (xs ++ ys)) h)))).0

table_small : (t : TableTree) (signs : List Sign) → signs ≡ table_signs t → SignsSmall signs → RowsSmall t.rows
table_small t signs e h = rows_small 0 t.rows (behind_head (plain (codes "table")) (plain t.role) open_brace (rows_signs 0 t.rows) (close_brace ∷ []) (subst SignsSmall e h))

pub tree_small : (bytes : List ℕ) (at : ℕ) (xs : List Lexeme) (l : Lexeme) (ls : List Lexeme) (t : TableTree) → AreTokens bytes at (xs ++ l ∷ ls) → signs_of xs ≡ table_signs t → RowsSmall t.rows
tree_small bytes at xs l ls t tokens e = table_small t (signs_of xs) e (tokens_small bytes xs at l ls tokens)

-- ---- places

below_by : (names : List (List ℕ)) (x : List ℕ) (o : Option ℕ) → place_of x names ≡ o → is_among x names ≡ true → number_or (place_of x names) < length names
below_by names x None e h = absurd (cc (sym h ∙ not_among names x 0 e))
below_by names x (Some n) e h = subst (λ (z : Option ℕ). number_or z < length names) (sym e) (place_below names x n e)

-- the place of a name that is there is one
below : (names : List (List ℕ)) (x : List ℕ) → is_among x names ≡ true → number_or (place_of x names) < length names
below names x h = below_by names x (place_of x names) refl h

-- ---- arms and rows

nothing : {A : Type 0} (P : A → Type 0) → All P []
nothing P = λ k d h. absurd (omega arith)

arms_tabled : (names : Names_data) (arms : List ArmTree) → Known names.labels (labels_of_arms arms) → ArmsSmall arms → All (IsArmTabled names) (map (arm_of_tree names) arms)
arms_tabled names [] h s = nothing (IsArmTabled names)
arms_tabled names (a ∷ arms) h s =
    let k = both (is_among a.label names.labels) (list_all (λ x. is_among x names.labels) (labels_of_arms arms)) h in
    All-cons (IsArmTabled names) (arm_of_tree names a) (map (arm_of_tree names) arms) (record { label = below names.labels a.label k.0; next = s.0 }) (arms_tabled names arms k.1 s.1)

state_tabled : (names : Names_data) (m : Mark) (p : Role) (arms : List Arm) → IsChoiceTabled names p arms → IsStateTabled names (state_by_mark m p arms)
state_tabled names mark.Puts p arms h = h
state_tabled names mark.Takes p arms h = h

row_tabled : (names : Names_data) (r : RowTree) → Known names.roles (peers_of_row r) → Known names.labels (labels_of_row r) → RowSmall r → IsStateTabled names (state_of_row names r)
row_tabled names end_row p l s = tt
row_tabled names (choice_row peer m x xs) p l s = state_tabled names m (role_named names peer) (map (arm_of_tree names) (x ∷ xs)) (record {
  has_name = below names.roles peer (both (is_among peer names.roles) true p).0;
  some = omega arith;
  each = arms_tabled names (x ∷ xs) l s;
})

rows_tabled : (names : Names_data) (rs : List RowTree) → Known names.roles (peers_of_rows rs) → Known names.labels (labels_of_rows rs) → RowsSmall rs
    → All (IsStateTabled names) (map (state_of_row names) rs)
rows_tabled names [] p l s = nothing (IsStateTabled names)
rows_tabled names (r ∷ rs) p l s =
    let j = known_parts names.roles (peers_of_row r) (peers_of_rows rs) p in
    let k = known_parts names.labels (labels_of_row r) (labels_of_rows rs) l in
    All-cons (IsStateTabled names) (state_of_row names r) (map (state_of_row names) rs) (row_tabled names r j.0 k.0 s.0) (rows_tabled names rs j.1 k.1 s.1)

-- ---- few labels

abbrev IsBelow : ℕ → Arm → Type 0
IsBelow n a = a.label.0 < n

arms_below : (names : Names_data) (arms : List ArmTree) → Known names.labels (labels_of_arms arms) → All (IsBelow (length names.labels)) (map (arm_of_tree names) arms)
arms_below names [] h = nothing (IsBelow (length names.labels))
arms_below names (a ∷ arms) h =
    let k = both (is_among a.label names.labels) (list_all (λ x. is_among x names.labels) (labels_of_arms arms)) h in
    All-cons (IsBelow (length names.labels)) (arm_of_tree names a) (map (arm_of_tree names) arms) (below names.labels a.label k.0) (arms_below names arms k.1)

arms_marked : (m : Mark) (p : Role) (arms : List Arm) → arms_of (state_by_mark m p arms) ≡ arms
arms_marked mark.Puts p arms = refl
arms_marked mark.Takes p arms = refl

row_below : (names : Names_data) (r : RowTree) → Known names.labels (labels_of_row r) → All (IsBelow (length names.labels)) (arms_of (state_of_row names r))
row_below names end_row h = nothing (IsBelow (length names.labels))
row_below names (choice_row p m x xs) h =
    subst (λ (z : List Arm). All (IsBelow (length names.labels)) z) (sym (arms_marked m (role_named names p) (map (arm_of_tree names) (x ∷ xs)))) (arms_below names (x ∷ xs) h)

rows_below : (names : Names_data) (rs : List RowTree) → Known names.labels (labels_of_rows rs) → All (IsBelow (length names.labels)) (flat_map arms_of (map (state_of_row names) rs))
rows_below names [] h = nothing (IsBelow (length names.labels))
rows_below names (r ∷ rs) h =
    let k = known_parts names.labels (labels_of_row r) (labels_of_rows rs) h in
    All-append (IsBelow (length names.labels)) (arms_of (state_of_row names r)) (flat_map arms_of (map (state_of_row names) rs)) (row_below names r k.0) (rows_below names rs k.1)

or_both : (a b : Bool) → (a || b) ≡ false → (a ≡ false) × (b ≡ false)
or_both true b h = absurd (cc h)
or_both false b h = (refl, h)

or_first : (a b : Bool) → (a || b) ≡ true → (a ≡ true) ⊎ (b ≡ true)
or_first true b h = inl refl
or_first false b h = inr h

same_by : (b c : Bool) (xs : List ℕ) (x q : ℕ) → list_any (eqb x) xs ≡ b → eqb q x ≡ c → list_any (eqb q) (unique_keys eqb xs) ≡ list_any (eqb q) xs
    → list_any (eqb q) (cond b (unique_keys eqb xs) (x ∷ unique_keys eqb xs)) ≡ (c || list_any (eqb q) xs)
same_by true true xs x q m t r = r ∙ ap (λ z. list_any (eqb z) xs) (eqb-true q x t) ∙ m
same_by true false xs x q m t r = r
same_by false c xs x q m t r = ap (λ z. z || list_any (eqb q) (unique_keys eqb xs)) t ∙ ap (λ z. c || z) r

absent_apart : (x : ℕ) (ys : List ℕ) → list_any (eqb x) ys ≡ false → AllByRecursion (λ y. eqb x y ≡ false) ys
absent_apart x [] h = tt
absent_apart x (y ∷ ys) h = let k = or_both (eqb x y) (list_any (eqb x) ys) h in (k.0, absent_apart x ys k.1)

unique_same : (xs : List ℕ) (q : ℕ) → list_any (eqb q) (unique_keys eqb xs) ≡ list_any (eqb q) xs
unique_same [] q = refl
unique_same (x ∷ xs) q = same_by (list_any (eqb x) xs) (eqb q x) xs x q refl refl (unique_same xs q)

distinct_none : IsDistinct eqb []
unfolding IsDistinct
distinct_none = tt

distinct_by : (b : Bool) (xs : List ℕ) (x : ℕ) → list_any (eqb x) xs ≡ b → IsDistinct eqb (unique_keys eqb xs) → IsDistinct eqb (cond b (unique_keys eqb xs) (x ∷ unique_keys eqb xs))
distinct_by true xs x m h = h
distinct_by false xs x m h = IsDistinct-cons eqb x (unique_keys eqb xs) (absent_apart x (unique_keys eqb xs) (unique_same xs x ∙ m)) h

unique_distinct : (xs : List ℕ) → IsDistinct eqb (unique_keys eqb xs)
unique_distinct [] = distinct_none
unique_distinct (x ∷ xs) = distinct_by (list_any (eqb x) xs) xs x refl (unique_distinct xs)

-- numbers below n, each counted once, are n at most
few_below : (xs : List ℕ) (n : ℕ) → ((q : ℕ) → list_any (eqb q) xs ≡ true → q < n) → distinct_count eqb xs ≤ n
few_below xs n h = length-le_from_distinct_below (unique_keys eqb xs) n (unique_distinct xs) (λ q e. h q (sym (unique_same xs q) ∙ e))

label_there : (arms : List Arm) (n q : ℕ) → All (IsBelow n) arms → list_any (eqb q) (map (λ (a : Arm). a.label.0) arms) ≡ true → q < n
label_there [] n q h e = absurd (cc e)
label_there (a ∷ arms) n q h e = elim (or_first (eqb q a.label.0) (list_any (eqb q) (map (λ (a : Arm). a.label.0) arms)) e) [
  | inl k ↦ subst (λ (z : ℕ). z < n) (sym (eqb-true q a.label.0 k)) (All-head (IsBelow n) a arms h)
  | inr k ↦ label_there arms n q (All-tail (IsBelow n) a arms h) k
]

-- ---- the whole

pub tabled : (old : Names_data) (t : TableTree) → Fits old t → RowsSmall t.rows → IsTabled (names_of old t) (machine_of_table (names_of old t) t)
tabled old t f s =
    let names : Names_data = names_of old t in
    let arms : List Arm = flat_map arms_of (map (state_of_row names) t.rows) in
    let k = both (is_among t.role old.roles) (list_all (λ x. is_among x old.roles) (peers_of_rows t.rows)) f.roles in
    let known : Known names.labels (labels_of_rows t.rows) = known_grown (labels_of_rows t.rows) old.labels in
    let all_below = rows_below names t.rows known in
    let few = few_below (map (λ (a : Arm). a.label.0) arms) (length names.labels) (λ q e. label_there arms (length names.labels) q all_below e) in
    let most = f.labels in
    let size = length-map t.rows (state_of_row names) in
    let some = f.formed in
    let all = f.rows in
    record {
      start = refl;
      some = omega arith;
      bounded = omega arith;
      role = below old.roles t.role k.0;
      states = rows_tabled names t.rows k.1 known s;
      few_labels = omega arith;
    }
