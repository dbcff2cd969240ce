-- Names and limits before a place: a token keeps them exactly where it breaks no rule.
use Rattle.std.proofs.Common.{◌≡◌, inl, inr, ℕ, zero, suc, ◌<◌, ◌≤◌, List, [], ◌∷◌, ◌++◌, length, Bool, true, false, ◌&&◌, nat_le, if◌then◌else◌, Option, Some, None, refl, sym, ap, ◌∙◌, subst, append-nil}
use Rattle.std.proofs.Common.{length-append, arith}
use Rattle.std.proofs.lemmas.Bool.{leb-true, leb-false, le-leb, lt-leb}
use Rattle.std.proofs.lemmas.List.Elements.{All-cons, All-head, All-nil, All-tail}
use Rattle.std.specs.List.{All, list_all}
use Rattle.std.proofs.lemmas.List.Folds.{list_all-append}
use Rattle.rs_model.specs.Data.{Names_data}
use Rattle.rs_model.specs.declared.limits.TheConstants.{MOST_BOUND, MOST_LABELS, MOST_CANDIDATES}
use Rattle.rs_text.specs.declared.faults.TextKind.{TextKind}
use Rattle.rs_text.specs.declared.faults.TextKind.TheVariants as kind
use Rattle.rs_text.specs.Names.{names_with, is_among}
use Rattle.rs_text.specs.Signs.{Sign}
use Rattle.rs_text.proofs.Basics.{both}
use Rattle.rs_text.proofs.Naming.{grown_append}
use Rattle.rs_derivations.specs.Cuts.{Cut, at_begin}
use Rattle.rs_derivations.specs.Faults.{fault_of_peer, fault_of}
use Rattle.rs_text.specs.NameFaults.{fault_of_role}
use Rattle.rs_text.specs.KnownNames.{AreKnown}
use Rattle.rs_derivations.specs.Trees.{ActTree}
use Rattle.rs_derivations.proofs.Changes.{up_to, ordinals_of, labels_in, roles_in, ordinals_in, count_in, Adds, Change}

abbrev pub is_few : ℕ → Bool
is_few n = nat_le n MOST_BOUND

abbrev pub AreFew : List ℕ → Type 0
AreFew ns = list_all is_few ns ≡ true

-- what stands before the place keeps the rules
pub record FitsSo (old : Names_data) (c : Cut) : Type 0 where
  pub roles : AreKnown old (roles_in c)
  pub labels : length (names_with old.labels (labels_in c)) ≤ MOST_LABELS
  pub acts : AreFew (ordinals_in c)
  pub count : count_in c ≤ MOST_CANDIDATES

pub fits_first : (old : Names_data) → length old.labels ≤ MOST_LABELS → FitsSo old at_begin
fits_first old h = record { roles = refl; labels = h; acts = refl; count = omega arith }

-- ---- lists

pub all_both : {A : Type 0} (p : A → Bool) (xs ys : List A) → list_all p xs ≡ true → list_all p ys ≡ true → list_all p (xs ++ ys) ≡ true
all_both p xs ys h k = list_all-append p xs ys ∙ ap (λ z. z && list_all p ys) h ∙ k

pub all_parts : {A : Type 0} (p : A → Bool) (xs ys : List A) → list_all p (xs ++ ys) ≡ true → (list_all p xs ≡ true) × (list_all p ys ≡ true)
all_parts p xs ys h = both (list_all p xs) (list_all p ys) (sym (list_all-append p xs ys) ∙ h)

abbrev is_known : Names_data → List ℕ → Bool
is_known old x = is_among x old.roles

known_one : (old : Names_data) (x : List ℕ) → is_among x old.roles ≡ true → AreKnown old (x ∷ [])
known_one old x h = ap (λ z. z && true) h

one_known : (old : Names_data) (x : List ℕ) → AreKnown old (x ∷ []) → is_among x old.roles ≡ true
one_known old x h = (both (is_among x old.roles) true h).0

with_one : (b : Bool) (names : List (List ℕ)) (x : List ℕ) → length names ≤ length (if b then names else names ++ x ∷ [])
with_one true names x = omega arith
with_one false names x = let e = length-append names (x ∷ []) in omega arith

grown_longer : (xs names : List (List ℕ)) → length names ≤ length (names_with names xs)
grown_longer [] names = omega arith
grown_longer (x ∷ xs) names =
    let a = with_one (is_among x names) names x in
    let b = grown_longer xs (if is_among x names then names else names ++ x ∷ []) in
    omega arith

-- ---- one rule each

role_known : (b : Bool) → (if b then None else Some kind.UnknownRole) ≡ None → b ≡ true
role_known true h = refl
role_known false h = absurd (cc h)

role_clear : (old : Names_data) (x : List ℕ) → is_among x old.roles ≡ true → fault_of_role old (Some x) ≡ None
role_clear old x h = ap (λ z. if z then None else Some kind.UnknownRole) h

peer_room : (n : ℕ) (b : Bool) → nat_le MOST_BOUND n ≡ b → (if b then Some kind.TooManyActs else None) ≡ None → is_few (suc n) ≡ true
peer_room n true e h = absurd (cc h)
peer_room n false e h = let room = leb-false MOST_BOUND n e in le-leb (suc n) MOST_BOUND (omega arith)

peer_fits : (b : Bool) (n : ℕ) → (if b then (if nat_le MOST_BOUND n then Some kind.TooManyActs else None) else Some kind.UnknownRole) ≡ None → (b ≡ true) × (is_few (suc n) ≡ true)
peer_fits true n h = (refl, peer_room n (nat_le MOST_BOUND n) refl h)
peer_fits false n h = absurd (cc h)

few_one : (n : ℕ) → is_few n ≡ true → AreFew (n ∷ [])
few_one n h = ap (λ z. z && true) h

one_few : (n : ℕ) → AreFew (n ∷ []) → is_few n ≡ true
one_few n h = (both (is_few n) true h).0

peer_clear : (old : Names_data) (x : List ℕ) (n : ℕ) → is_among x old.roles ≡ true → is_few (suc n) ≡ true → fault_of_peer old n (Some x) ≡ None
peer_clear old x n h k =
    let room = leb-true (suc n) MOST_BOUND k in
    let few : n < MOST_BOUND = omega arith in
    ap (λ z. if z then (if nat_le MOST_BOUND n then Some kind.TooManyActs else None) else Some kind.UnknownRole) h
    ∙ ap (λ z. if z then Some kind.TooManyActs else None) (lt-leb MOST_BOUND n few)

abbrev label_fault : Bool → ℕ → Option TextKind
label_fault b n = if b then None else if nat_le MOST_LABELS n then Some kind.TooManyLabels else None

no_room : (n : ℕ) (b : Bool) → nat_le MOST_LABELS n ≡ b → (if b then Some kind.TooManyLabels else None) ≡ None → n < MOST_LABELS
no_room n true e h = absurd (cc h)
no_room n false e h = leb-false MOST_LABELS n e

label_fits : (b : Bool) (names : List (List ℕ)) (x : List ℕ) → length names ≤ MOST_LABELS → label_fault b (length names) ≡ None → length (if b then names else names ++ x ∷ []) ≤ MOST_LABELS
label_fits true names x h f = h
label_fits false names x h f =
    let room = no_room (length names) (nat_le MOST_LABELS (length names)) refl f in
    let e = length-append names (x ∷ []) in
    omega arith

label_clear : (b : Bool) (names : List (List ℕ)) (x : List ℕ) → length (if b then names else names ++ x ∷ []) ≤ MOST_LABELS → label_fault b (length names) ≡ None
label_clear true names x h = refl
label_clear false names x h =
    let e = length-append names (x ∷ []) in
    let room : length names < MOST_LABELS = omega arith in
    ap (λ z. if z then Some kind.TooManyLabels else None) (lt-leb MOST_LABELS (length names) room)

node_room : (n : ℕ) (b : Bool) → nat_le MOST_CANDIDATES n ≡ b → (if b then Some kind.TooManyNodes else None) ≡ None → n < MOST_CANDIDATES
node_room n true e h = absurd (cc h)
node_room n false e h = leb-false MOST_CANDIDATES n e

-- ---- lists of acts

few_length : (n : ℕ) → AreFew (up_to n) → n ≤ MOST_BOUND
few_length zero h = omega arith
few_length (suc n) h = leb-true (suc n) MOST_BOUND (one_few (suc n) (all_parts is_few (up_to n) (suc n ∷ []) h).1)

length_few : (n : ℕ) → n ≤ MOST_BOUND → AreFew (up_to n)
length_few zero h = refl
length_few (suc n) h = all_both is_few (up_to n) (suc n ∷ []) (length_few n (omega arith)) (few_one (suc n) (le-leb (suc n) MOST_BOUND h))

abbrev pub IsShort : List ActTree → Type 0
IsShort acts = length acts ≤ MOST_BOUND

-- no act stands after 64 of its list exactly where no list has more
pub few_lists : (lists : List (List ActTree)) → AreFew (ordinals_of lists) → All IsShort lists
few_lists [] h = All-nil IsShort
few_lists (acts ∷ more) h =
    let k = all_parts is_few (up_to (length acts)) (ordinals_of more) h in
    All-cons IsShort acts more (few_length (length acts) k.0) (few_lists more k.1)

pub lists_few : (lists : List (List ActTree)) → All IsShort lists → AreFew (ordinals_of lists)
lists_few [] h = refl
lists_few (acts ∷ more) h =
    all_both is_few (up_to (length acts)) (ordinals_of more) (length_few (length acts) (All-head IsShort acts more h)) (lists_few more (All-tail IsShort acts more h))

-- ---- a token that breaks no rule

same_roles : (old : Names_data) (c d : Cut) (ls : List (List ℕ)) (os : List ℕ) (n : ℕ) → Adds c d [] ls os n → AreKnown old (roles_in c) → AreKnown old (roles_in d)
same_roles old c d ls os n a h = subst (AreKnown old) (sym (a.roles_are ∙ append-nil (roles_in c))) h

same_labels : (old : Names_data) (c d : Cut) (rs : List (List ℕ)) (os : List ℕ) (n : ℕ) → Adds c d rs [] os n → length (names_with old.labels (labels_in c)) ≤ MOST_LABELS
    → length (names_with old.labels (labels_in d)) ≤ MOST_LABELS
same_labels old c d rs os n a h = subst (λ (z : List (List ℕ)). length (names_with old.labels z) ≤ MOST_LABELS) (sym (a.labels_are ∙ append-nil (labels_in c))) h

same_acts : (c d : Cut) (rs ls : List (List ℕ)) (n : ℕ) → Adds c d rs ls [] n → AreFew (ordinals_in c) → AreFew (ordinals_in d)
same_acts c d rs ls n a h = subst AreFew (sym (a.ordinals_are ∙ append-nil (ordinals_in c))) h

same_count : (c d : Cut) (rs ls : List (List ℕ)) (os : List ℕ) → Adds c d rs ls os 0 → count_in c ≤ MOST_CANDIDATES → count_in d ≤ MOST_CANDIDATES
same_count c d rs ls os a h = let e = a.count_is in omega arith

more_roles : (old : Names_data) (c d : Cut) (x : List ℕ) (ls : List (List ℕ)) (os : List ℕ) (n : ℕ) → Adds c d (x ∷ []) ls os n → AreKnown old (roles_in c) → is_among x old.roles ≡ true
    → AreKnown old (roles_in d)
more_roles old c d x ls os n a h k = subst (AreKnown old) (sym a.roles_are) (all_both (is_known old) (roles_in c) (x ∷ []) h (known_one old x k))

more_labels : (old : Names_data) (c d : Cut) (rs : List (List ℕ)) (x : List ℕ) (os : List ℕ) (n : ℕ) → Adds c d rs (x ∷ []) os n
    → names_with old.labels (labels_in d) ≡ names_with (names_with old.labels (labels_in c)) (x ∷ [])
more_labels old c d rs x os n a = ap (names_with old.labels) a.labels_are ∙ grown_append (labels_in c) (x ∷ []) old.labels

pub fits_on : (old : Names_data) (c : Cut) (t : Sign) (d : Cut) → Change old c t d → fault_of old c t ≡ None → FitsSo old c → FitsSo old d
fits_on old c t d change clear f = elim change [
  | inl a ↦ record {
    roles = same_roles old c d [] [] 0 a.adds f.roles;
    labels = same_labels old c d [] [] 0 a.adds f.labels;
    acts = same_acts c d [] [] 0 a.adds f.acts;
    count = same_count c d [] [] [] a.adds f.count;
  }
  | inr (inl a) ↦ record {
    roles = more_roles old c d a.name [] [] 0 a.adds f.roles (role_known (is_among a.name old.roles) (sym a.fault ∙ clear));
    labels = same_labels old c d (a.name ∷ []) [] 0 a.adds f.labels;
    acts = same_acts c d (a.name ∷ []) [] 0 a.adds f.acts;
    count = same_count c d (a.name ∷ []) [] [] a.adds f.count;
  }
  | inr (inr (inl a)) ↦ (
      let k = peer_fits (is_among a.name old.roles) a.count (sym a.fault ∙ clear) in
      record {
        roles = more_roles old c d a.name [] (suc a.count ∷ []) 0 a.adds f.roles k.0;
        labels = same_labels old c d (a.name ∷ []) (suc a.count ∷ []) 0 a.adds f.labels;
        acts = subst AreFew (sym a.adds.ordinals_are) (all_both is_few (ordinals_in c) (suc a.count ∷ []) f.acts (few_one (suc a.count) k.1));
        count = same_count c d (a.name ∷ []) [] (suc a.count ∷ []) a.adds f.count;
      }
      )
  | inr (inr (inr (inl a))) ↦ record {
    roles = same_roles old c d (a.name ∷ []) [] 0 a.adds f.roles;
    labels = subst (λ (z : List (List ℕ)). length z ≤ MOST_LABELS) (sym (more_labels old c d [] a.name [] 0 a.adds))
        (label_fits (is_among a.name (names_with old.labels (labels_in c))) (names_with old.labels (labels_in c)) a.name f.labels (sym a.fault ∙ clear));
    acts = same_acts c d [] (a.name ∷ []) 0 a.adds f.acts;
    count = same_count c d [] (a.name ∷ []) [] a.adds f.count;
  }
  | inr (inr (inr (inr a))) ↦ record {
    roles = same_roles old c d [] [] 1 a.adds f.roles;
    labels = same_labels old c d [] [] 1 a.adds f.labels;
    acts = same_acts c d [] [] 1 a.adds f.acts;
    count = (let room = node_room (count_in c) (nat_le MOST_CANDIDATES (count_in c)) refl (sym a.fault ∙ clear) in let e = a.adds.count_is in omega arith);
  }
]

-- ---- and the other way round

back_roles : (old : Names_data) (c d : Cut) (rs ls : List (List ℕ)) (os : List ℕ) (n : ℕ) → Adds c d rs ls os n → AreKnown old (roles_in d) → AreKnown old (roles_in c)
back_roles old c d rs ls os n a h = (all_parts (is_known old) (roles_in c) rs (subst (AreKnown old) a.roles_are h)).0

back_labels : (old : Names_data) (c d : Cut) (rs ls : List (List ℕ)) (os : List ℕ) (n : ℕ) → Adds c d rs ls os n → length (names_with old.labels (labels_in d)) ≤ MOST_LABELS
    → length (names_with old.labels (labels_in c)) ≤ MOST_LABELS
back_labels old c d rs ls os n a h =
    let e : names_with old.labels (labels_in d) ≡ names_with (names_with old.labels (labels_in c)) ls = ap (names_with old.labels) a.labels_are ∙ grown_append (labels_in c) ls old.labels in
    let k : length (names_with (names_with old.labels (labels_in c)) ls) ≤ MOST_LABELS = subst (λ (z : List (List ℕ)). length z ≤ MOST_LABELS) e h in
    let l = grown_longer ls (names_with old.labels (labels_in c)) in
    omega arith

back_acts : (c d : Cut) (rs ls : List (List ℕ)) (os : List ℕ) (n : ℕ) → Adds c d rs ls os n → AreFew (ordinals_in d) → AreFew (ordinals_in c)
back_acts c d rs ls os n a h = (all_parts is_few (ordinals_in c) os (subst AreFew a.ordinals_are h)).0

back_count : (c d : Cut) (rs ls : List (List ℕ)) (os : List ℕ) (n : ℕ) → Adds c d rs ls os n → count_in d ≤ MOST_CANDIDATES → count_in c ≤ MOST_CANDIDATES
back_count c d rs ls os n a h = let e = a.count_is in omega arith

fits_adds : (old : Names_data) (c d : Cut) (rs ls : List (List ℕ)) (os : List ℕ) (n : ℕ) → Adds c d rs ls os n → FitsSo old d → FitsSo old c
fits_adds old c d rs ls os n a f = record {
  roles = back_roles old c d rs ls os n a f.roles;
  labels = back_labels old c d rs ls os n a f.labels;
  acts = back_acts c d rs ls os n a f.acts;
  count = back_count c d rs ls os n a f.count;
}

added_known : (old : Names_data) (c d : Cut) (x : List ℕ) (ls : List (List ℕ)) (os : List ℕ) (n : ℕ) → Adds c d (x ∷ []) ls os n → AreKnown old (roles_in d) → is_among x old.roles ≡ true
added_known old c d x ls os n a h = one_known old x (all_parts (is_known old) (roles_in c) (x ∷ []) (subst (AreKnown old) a.roles_are h)).1

added_few : (c d : Cut) (rs ls : List (List ℕ)) (k n : ℕ) → Adds c d rs ls (k ∷ []) n → AreFew (ordinals_in d) → is_few k ≡ true
added_few c d rs ls k n a h = one_few k (all_parts is_few (ordinals_in c) (k ∷ []) (subst AreFew a.ordinals_are h)).1

pub fits_back : (old : Names_data) (c : Cut) (t : Sign) (d : Cut) → Change old c t d → FitsSo old d → FitsSo old c × (fault_of old c t ≡ None)
fits_back old c t d change f = elim change [
  | inl a ↦ (fits_adds old c d [] [] [] 0 a.adds f, a.clear)
  | inr (inl a) ↦ (fits_adds old c d (a.name ∷ []) [] [] 0 a.adds f, a.fault ∙ role_clear old a.name (added_known old c d a.name [] [] 0 a.adds f.roles))
  | inr (inr (inl a)) ↦ (
    fits_adds old c d (a.name ∷ []) [] (suc a.count ∷ []) 0 a.adds f,
    a.fault
        ∙ peer_clear old a.name a.count (added_known old c d a.name [] (suc a.count ∷ []) 0 a.adds f.roles) (added_few c d (a.name ∷ []) [] (suc a.count) 0 a.adds f.acts),
  )
  | inr (inr (inr (inl a))) ↦ (
    fits_adds old c d [] (a.name ∷ []) [] 0 a.adds f,
    a.fault
        ∙ label_clear (is_among a.name (names_with old.labels (labels_in c))) (names_with old.labels (labels_in c)) a.name
        (subst (λ (z : List (List ℕ)). length z ≤ MOST_LABELS) (more_labels old c d [] a.name [] 0 a.adds) f.labels),
  )
  | inr (inr (inr (inr a))) ↦ (
    fits_adds old c d [] [] [] 1 a.adds f,
    (let e = a.adds.count_is in let k = f.count in let room : count_in c < MOST_CANDIDATES = omega arith in a.fault
        ∙ ap (λ z. if z then Some kind.TooManyNodes else None) (lt-leb MOST_CANDIDATES (count_in c) room)),
  )
]
