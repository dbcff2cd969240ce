-- Names and limits before a place: a token keeps them exactly where it breaks no rule.
use Rattle.std.proofs.Common.{◌≡◌, inl, inr, ℕ, ◌<◌, ◌≤◌, List, [], ◌∷◌, ◌++◌, length, Bool, true, false, ◌&&◌, nat_le, if◌then◌else◌, Option, Some, None, refl, sym, ap, ◌∙◌, subst, append-nil}
use Rattle.std.proofs.Common.{length-append, arith}
use Rattle.std.proofs.lemmas.Bool.{leb-false, lt-leb}
use Rattle.std.specs.List.{list_all}
use Rattle.std.proofs.lemmas.List.Folds.{list_all-append}
use Rattle.rs_model.specs.Data.{Names_data}
use Rattle.rs_model.specs.declared.limits.TheConstants.{MOST_LABELS, MOST_STATES}
use Rattle.rs_text.specs.declared.faults.TextKind.{TextKind}
use Rattle.rs_text.specs.declared.faults.TextKind.TheVariants as kind
use Rattle.rs_text.specs.Names.{names_with, is_among}
use Rattle.rs_text.specs.Signs.{Sign}
use Rattle.rs_text.proofs.Basics.{both}
use Rattle.rs_text.proofs.Naming.{grown_append}
use Rattle.rs_tables.specs.Cuts.{Cut, at_begin}
use Rattle.rs_tables.specs.Faults.{fault_of}
use Rattle.rs_text.specs.NameFaults.{fault_of_role}
use Rattle.rs_text.specs.KnownNames.{AreKnown}
use Rattle.rs_tables.proofs.Changes.{labels_in, roles_in, count_in, Adds, Change}

-- what stands before the place keeps the rules
pub record FitsSo (old : Names_data) (c : Cut) : Type 0 where
  pub roles : AreKnown old (roles_in c)
  pub labels : length (names_with old.labels (labels_in c)) ≤ MOST_LABELS
  pub count : count_in c ≤ MOST_STATES

pub fits_first : (old : Names_data) → length old.labels ≤ MOST_LABELS → FitsSo old at_begin
fits_first old h = record { roles = refl; labels = h; count = omega arith }

-- ---- lists

abbrev all_known : Names_data → List (List ℕ) → Bool
all_known old xs = list_all (λ x. is_among x old.roles) xs

known_both : (old : Names_data) (xs ys : List (List ℕ)) → AreKnown old xs → AreKnown old ys → AreKnown old (xs ++ ys)
known_both old xs ys h k = list_all-append (λ x. is_among x old.roles) xs ys ∙ ap (λ z. z && all_known old ys) h ∙ k

known_parts : (old : Names_data) (xs ys : List (List ℕ)) → AreKnown old (xs ++ ys) → AreKnown old xs × AreKnown old ys
known_parts old xs ys h = both (all_known old xs) (all_known old ys) (sym (list_all-append (λ x. is_among x old.roles) xs ys) ∙ h)

known_one : (old : Names_data) (x : List ℕ) → is_among x old.roles ≡ true → AreKnown old (x ∷ [])
known_one old x h = ap (λ z. z && true) h

one_known : (old : Names_data) (x : List ℕ) → AreKnown old (x ∷ []) → is_among x old.roles ≡ true
one_known old x h = (both (is_among x old.roles) true h).0

with_one : (b : Bool) (names : List (List ℕ)) (x : List ℕ) → length names ≤ length (if b then names else names ++ x ∷ [])
with_one true names x = omega arith
with_one false names x = let e = length-append names (x ∷ []) in omega arith

grown_longer : (xs names : List (List ℕ)) → length names ≤ length (names_with names xs)
grown_longer [] names = omega arith
grown_longer (x ∷ xs) names =
    let a = with_one (is_among x names) names x in
    let b = grown_longer xs (if is_among x names then names else names ++ x ∷ []) in
    omega arith

-- ---- one rule each

role_known : (b : Bool) → (if b then None else Some kind.UnknownRole) ≡ None → b ≡ true
role_known true h = refl
role_known false h = absurd (cc h)

role_clear : (old : Names_data) (x : List ℕ) → is_among x old.roles ≡ true → fault_of_role old (Some x) ≡ None
role_clear old x h = ap (λ z. if z then None else Some kind.UnknownRole) h

abbrev label_fault : Bool → ℕ → Option TextKind
label_fault b n = if b then None else if nat_le MOST_LABELS n then Some kind.TooManyLabels else None

no_room : (n : ℕ) (b : Bool) → nat_le MOST_LABELS n ≡ b → (if b then Some kind.TooManyLabels else None) ≡ None → n < MOST_LABELS
no_room n true e h = absurd (cc h)
no_room n false e h = leb-false MOST_LABELS n e

label_fits : (b : Bool) (names : List (List ℕ)) (x : List ℕ) → length names ≤ MOST_LABELS → label_fault b (length names) ≡ None → length (if b then names else names ++ x ∷ []) ≤ MOST_LABELS
label_fits true names x h f = h
label_fits false names x h f =
    let room = no_room (length names) (nat_le MOST_LABELS (length names)) refl f in
    let e = length-append names (x ∷ []) in
    omega arith

label_clear : (b : Bool) (names : List (List ℕ)) (x : List ℕ) → length (if b then names else names ++ x ∷ []) ≤ MOST_LABELS → label_fault b (length names) ≡ None
label_clear true names x h = refl
label_clear false names x h =
    let e = length-append names (x ∷ []) in
    let room : length names < MOST_LABELS = omega arith in
    ap (λ z. if z then Some kind.TooManyLabels else None) (lt-leb MOST_LABELS (length names) room)

row_room : (n : ℕ) (b : Bool) → nat_le MOST_STATES n ≡ b → (if b then Some kind.TooManyNodes else None) ≡ None → n < MOST_STATES
row_room n true e h = absurd (cc h)
row_room n false e h = leb-false MOST_STATES n e

-- ---- a token that breaks no rule

same_roles : (old : Names_data) (c d : Cut) (ls : List (List ℕ)) (n : ℕ) → Adds c d [] ls n → AreKnown old (roles_in c) → AreKnown old (roles_in d)
same_roles old c d ls n a h = subst (AreKnown old) (sym (a.roles_are ∙ append-nil (roles_in c))) h

same_labels : (old : Names_data) (c d : Cut) (rs : List (List ℕ)) (n : ℕ) → Adds c d rs [] n → length (names_with old.labels (labels_in c)) ≤ MOST_LABELS
    → length (names_with old.labels (labels_in d)) ≤ MOST_LABELS
same_labels old c d rs n a h = subst (λ (z : List (List ℕ)). length (names_with old.labels z) ≤ MOST_LABELS) (sym (a.labels_are ∙ append-nil (labels_in c))) h

same_count : (c d : Cut) (rs ls : List (List ℕ)) → Adds c d rs ls 0 → count_in c ≤ MOST_STATES → count_in d ≤ MOST_STATES
same_count c d rs ls a h = let e = a.count_is in omega arith

more_labels : (old : Names_data) (c d : Cut) (rs : List (List ℕ)) (x : List ℕ) (n : ℕ) → Adds c d rs (x ∷ []) n
    → names_with old.labels (labels_in d) ≡ names_with (names_with old.labels (labels_in c)) (x ∷ [])
more_labels old c d rs x n a = ap (names_with old.labels) a.labels_are ∙ grown_append (labels_in c) (x ∷ []) old.labels

pub fits_on : (old : Names_data) (c : Cut) (t : Sign) (d : Cut) → Change old c t d → fault_of old c t ≡ None → FitsSo old c → FitsSo old d
fits_on old c t d change clear f = elim change [
  | inl a ↦ record { roles = same_roles old c d [] 0 a.adds f.roles; labels = same_labels old c d [] 0 a.adds f.labels; count = same_count c d [] [] a.adds f.count }
  | inr (inl a) ↦ record {
    roles = subst (AreKnown old) (sym a.adds.roles_are) (known_both old (roles_in c) (a.name ∷ []) f.roles (known_one old a.name (role_known (is_among a.name old.roles) (sym a.fault ∙ clear))));
    labels = same_labels old c d (a.name ∷ []) 0 a.adds f.labels;
    count = same_count c d (a.name ∷ []) [] a.adds f.count;
  }
  | inr (inr (inl a)) ↦ record {
    roles = same_roles old c d (a.name ∷ []) 0 a.adds f.roles;
    labels = subst (λ (z : List (List ℕ)). length z ≤ MOST_LABELS) (sym (more_labels old c d [] a.name 0 a.adds))
        (label_fits (is_among a.name (names_with old.labels (labels_in c))) (names_with old.labels (labels_in c)) a.name f.labels (sym a.fault ∙ clear));
    count = same_count c d [] (a.name ∷ []) a.adds f.count;
  }
  | inr (inr (inr a)) ↦ record {
    roles = same_roles old c d [] 1 a.adds f.roles;
    labels = same_labels old c d [] 1 a.adds f.labels;
    count = (let room = row_room (count_in c) (nat_le MOST_STATES (count_in c)) refl (sym a.fault ∙ clear) in let e = a.adds.count_is in omega arith);
  }
]

-- ---- and the other way round

back_roles : (old : Names_data) (c d : Cut) (rs ls : List (List ℕ)) (n : ℕ) → Adds c d rs ls n → AreKnown old (roles_in d) → AreKnown old (roles_in c)
back_roles old c d rs ls n a h = (known_parts old (roles_in c) rs (subst (AreKnown old) a.roles_are h)).0

back_labels : (old : Names_data) (c d : Cut) (rs ls : List (List ℕ)) (n : ℕ) → Adds c d rs ls n → length (names_with old.labels (labels_in d)) ≤ MOST_LABELS
    → length (names_with old.labels (labels_in c)) ≤ MOST_LABELS
back_labels old c d rs ls n a h =
    let e : names_with old.labels (labels_in d) ≡ names_with (names_with old.labels (labels_in c)) ls = ap (names_with old.labels) a.labels_are ∙ grown_append (labels_in c) ls old.labels in
    let k : length (names_with (names_with old.labels (labels_in c)) ls) ≤ MOST_LABELS = subst (λ (z : List (List ℕ)). length z ≤ MOST_LABELS) e h in
    let l = grown_longer ls (names_with old.labels (labels_in c)) in
    omega arith

back_count : (c d : Cut) (rs ls : List (List ℕ)) (n : ℕ) → Adds c d rs ls n → count_in d ≤ MOST_STATES → count_in c ≤ MOST_STATES
back_count c d rs ls n a h = let e = a.count_is in omega arith

fits_adds : (old : Names_data) (c d : Cut) (rs ls : List (List ℕ)) (n : ℕ) → Adds c d rs ls n → FitsSo old d → FitsSo old c
fits_adds old c d rs ls n a f = record { roles = back_roles old c d rs ls n a f.roles; labels = back_labels old c d rs ls n a f.labels; count = back_count c d rs ls n a f.count }

pub fits_back : (old : Names_data) (c : Cut) (t : Sign) (d : Cut) → Change old c t d → FitsSo old d → FitsSo old c × (fault_of old c t ≡ None)
fits_back old c t d change f = elim change [
  | inl a ↦ (fits_adds old c d [] [] 0 a.adds f, a.clear)
  | inr (inl a) ↦ (
    fits_adds old c d (a.name ∷ []) [] 0 a.adds f,
    a.fault
        ∙ role_clear old a.name (one_known old a.name (known_parts old (roles_in c) (a.name ∷ []) (subst (AreKnown old) a.adds.roles_are f.roles)).1),
  )
  | inr (inr (inl a)) ↦ (
    fits_adds old c d [] (a.name ∷ []) 0 a.adds f,
    a.fault
        ∙ label_clear (is_among a.name (names_with old.labels (labels_in c))) (names_with old.labels (labels_in c)) a.name
        (subst (λ (z : List (List ℕ)). length z ≤ MOST_LABELS) (more_labels old c d [] a.name 0 a.adds) f.labels),
  )
  | inr (inr (inr a)) ↦ (
    fits_adds old c d [] [] 1 a.adds f,
    (let e = a.adds.count_is in let k = f.count in let room : count_in c < MOST_STATES = omega arith in a.fault
        ∙ ap (λ z. if z then Some kind.TooManyNodes else None) (lt-leb MOST_STATES (count_in c) room)),
  )
]
