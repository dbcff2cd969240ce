-- What is known of a body that fits: its names are bound and guarded, and it has few heads and labels; and which of its heads
-- have a rec in front.
use Rattle.std.proofs.Common.{◌≡◌, ℕ, suc, ◌+◌, ◌<◌, ◌≤◌, List, [], ◌∷◌, ◌++◌, length, Bool, true, false, if◌then◌else◌, ◌==◌, ◌||◌, nat_lt, Option, Some, None, refl, sym, ap, ◌∙◌, ◌≢◌, subst, inl}
use Rattle.std.proofs.Common.{inr, arith, length-append}
use Rattle.std.proofs.lemmas.Bool.{eq-eqb, lt-ltb, le-ltb, ltb-true}
use Rattle.std.proofs.lemmas.Bool.Decides.{eqb_tells}
use Rattle.std.specs.Str.{bytes_eq}
use Rattle.rs_text.specs.Names.{BoundNames, nearest_binding, names_with, is_among, number_or}
use Rattle.rs_text.proofs.Basics.{both, some_is}
use Rattle.rs_text.proofs.Gaps.{true_or_false}
use Rattle.rs_text.proofs.Naming.{grown_append}
use Rattle.rs_bodies.specs.declared.dialects.Dialect.{Dialect}
use Rattle.rs_bodies.specs.declared.dialects.Dialect.TheVariants.{Talks, Acts}
use Rattle.rs_bodies.specs.Dialects.{BehindRole, sends_to, with_mark, most}
use Rattle.rs_bodies.specs.Trees.{Body, ends, again, binds, acts, offers, Branches, one, more}
use Rattle.rs_bodies.specs.Graph.{labels_of, labels_of_arms, acts_in, acts_in_arms, first_of}
use Rattle.rs_bodies.specs.Fits.{is_guarded, head_fits, body_fits, arms_fit}
use Rattle.rs_bodies.specs.Scenes.{Scene, with_label, in_act, in_braces, in_rec, behind}

-- ---- names are bound and guarded

-- names are bound and guarded
abbrev mutual
  pub Named : (dia : Dialect) → Body dia → BoundNames → ℕ → Type 0
  Named dia ends bound count = Unit {0}
  Named dia (again x) bound count = is_guarded (nearest_binding x bound) count ≡ true
  Named dia (binds x b) bound count = Named dia b ((x, count) ∷ bound) count
  Named dia (acts s r l sort b) bound count = Named dia b bound (suc count)
  Named dia (offers s r arms) bound count = NamedArms dia arms bound (suc count)

  pub NamedArms : (dia : Dialect) → Branches dia → BoundNames → ℕ → Type 0
  NamedArms dia (one l sort b) bound count = Named dia b bound count
  NamedArms dia (more l sort b arms) bound count = Named dia b bound count × NamedArms dia arms bound (count + acts_in dia b)

mutual
  pub fits_named : (dia : Dialect) (b : Body dia) (s : Scene) → body_fits dia b s ≡ true → Named dia b s.bound s.acts
  fits_named dia ends s h = tt
  fits_named dia (again x) s h = h
  fits_named dia (binds x b) s h = fits_named dia b (in_rec x s) (both _ _ h).1
  fits_named dia (acts x y l sort b) s h = fits_named dia b (with_label l (in_act s)) (both _ _ h).1
  fits_named dia (offers x y arms) s h = fits_named_arms dia arms (in_braces s) (both _ _ h).1

  pub fits_named_arms : (dia : Dialect) (arms : Branches dia) (s : Scene) → arms_fit dia arms s ≡ true → NamedArms dia arms s.bound s.acts
  fits_named_arms dia (one l sort b) s h = fits_named dia b (with_label l s) (both _ _ h).1
  fits_named_arms dia (more l sort b arms) s h = (fits_named dia b (with_label l s) (both _ _ (both _ _ h).0).1, fits_named_arms dia arms (behind dia b (with_label l s)) (both _ _ h).1)

-- ---- a rec stands right in front of a head

-- whether a rec stands in front of head v, where `here` says so of the head that comes next
abbrev mutual
  pub rec_at : (dia : Dialect) → Body dia → (here : Bool) → (k v : ℕ) → Bool
  rec_at dia ends here k v = false
  rec_at dia (again x) here k v = false
  rec_at dia (binds x b) here k v = rec_at dia b true k v
  rec_at dia (acts s r l sort b) here k v = if v == k then here else rec_at dia b false (suc k) v
  rec_at dia (offers s r arms) here k v = if v == k then here else recs_at dia arms (suc k) v

  pub recs_at : (dia : Dialect) → Branches dia → (k v : ℕ) → Bool
  recs_at dia (one l sort b) k v = rec_at dia b false k v
  recs_at dia (more l sort b arms) k v = if nat_lt v (k + acts_in dia b) then rec_at dia b false k v else recs_at dia arms (k + acts_in dia b) v

abbrev mutual
  pub Recs : (dia : Dialect) → (ℕ → Bool) → Body dia → (here : Bool) → ℕ → Type 0
  Recs dia back ends here k = Unit {0}
  Recs dia back (again x) here k = Unit {0}
  Recs dia back (binds x b) here k = Recs dia back b true k
  Recs dia back (acts s r l sort b) here k = (back k ≡ true → here ≡ true) × Recs dia back b false (suc k)
  Recs dia back (offers s r arms) here k = (back k ≡ true → here ≡ true) × RecsArms dia back arms (suc k)

  pub RecsArms : (dia : Dialect) → (ℕ → Bool) → Branches dia → ℕ → Type 0
  RecsArms dia back (one l sort b) k = Recs dia back b false k
  RecsArms dia back (more l sort b arms) k = Recs dia back b false k × RecsArms dia back arms (k + acts_in dia b)

pub at_self : (k : ℕ) (a b : Bool) → (if k == k then a else b) ≡ a
at_self k a b = rw (eq-eqb k k refl) refl

pub at_later : (v k : ℕ) (a b : Bool) → k < v → (if v == k then a else b) ≡ b
at_later v k a b lt = elim (eqb_tells v k) [
  | inl e ↦ let same : v ≡ k = e.1 in absurd (omega arith)
  | inr e ↦ rw e.0 refl
]

pub in_first : (v n : ℕ) (a b : Bool) → v < n → (if nat_lt v n then a else b) ≡ a
in_first v n a b lt = rw (lt-ltb v n lt) refl

pub in_rest : (v n : ℕ) (a b : Bool) → n ≤ v → (if nat_lt v n then a else b) ≡ b
in_rest v n a b le = rw (le-ltb v n le) refl

mutual
  pub recs_stand : (dia : Dialect) (back : ℕ → Bool) (t : Body dia) (here : Bool) (k : ℕ) → ((v : ℕ) → back v ≡ true → k ≤ v → v < k + acts_in dia t → rec_at dia t here k v ≡ true)
      → Recs dia back t here k
  recs_stand dia back ends here k f = tt
  recs_stand dia back (again x) here k f = tt
  recs_stand dia back (binds x b) here k f = recs_stand dia back b true k f
  recs_stand dia back (acts s r l sort b) here k f = (
    (λ h. sym (at_self k here (rec_at dia b false (suc k) k)) ∙ f k h (omega arith) (omega arith)),
    recs_stand dia back b false (suc k) (λ v h le lt. sym (at_later v k here (rec_at dia b false (suc k) v) (omega arith)) ∙ f v h (omega arith) (omega arith)),
  )
  recs_stand dia back (offers s r arms) here k f = (
    (λ h. sym (at_self k here (recs_at dia arms (suc k) k)) ∙ f k h (omega arith) (omega arith)),
    recs_stand_in dia back arms (suc k) (λ v h le lt. sym (at_later v k here (recs_at dia arms (suc k) v) (omega arith)) ∙ f v h (omega arith) (omega arith)),
  )

  pub recs_stand_in : (dia : Dialect) (back : ℕ → Bool) (arms : Branches dia) (k : ℕ) → ((v : ℕ) → back v ≡ true → k ≤ v → v < k + acts_in_arms dia arms → recs_at dia arms k v ≡ true)
      → RecsArms dia back arms k
  recs_stand_in dia back (one l sort b) k f = recs_stand dia back b false k f
  recs_stand_in dia back (more l sort b arms) k f = (
    recs_stand dia back b false k (λ v h le lt. sym (in_first v (k + acts_in dia b) (rec_at dia b false k v) (recs_at dia arms (k + acts_in dia b) v) lt) ∙ f v h le (omega arith)),
    recs_stand_in dia back arms (k + acts_in dia b)
        (λ v h le lt. sym (in_rest v (k + acts_in dia b) (rec_at dia b false k v) (recs_at dia arms (k + acts_in dia b) v) le) ∙ f v h (omega arith) (omega arith)),
  )

-- ---- where names lead

-- the names that lead to the head n or before it lead to good ones
abbrev pub NamesGood : (ℕ → Bool) → BoundNames → ℕ → Type 0
NamesGood good bound n = (x : List ℕ) (v : ℕ) → nearest_binding x bound ≡ Some v → v ≤ n → good v ≡ true

pub later_name : {P : Type 0} (c : Bool) (j v n : ℕ) (found : Option ℕ) → (if c then Some j else found) ≡ Some v → n < j → v ≤ n → (found ≡ Some v → P) → P
later_name true j v n found e lt le f = let same : j ≡ v = some_is j v e in absurd (omega arith)
later_name false j v n found e lt le f = f e

pub same_name : {P : Type 0} (c : Bool) (j v : ℕ) (found : Option ℕ) → (if c then Some j else found) ≡ Some v → (j ≡ v → P) → (found ≡ Some v → P) → P
same_name true j v found e f g = f (some_is j v e)
same_name false j v found e f g = g e

pub name_good : (good : ℕ → Bool) (x : List ℕ) (bound : BoundNames) (n j : ℕ) (found : Option ℕ) → nearest_binding x bound ≡ found → is_guarded found j ≡ true → NamesGood good bound n
    → number_or found ≤ n
    → good (number_or found) ≡ true
name_good good x bound n j None e g names le = absurd (cc g)
name_good good x bound n j (Some v) e g names le = names x v e le

pub lead_good : (dia : Dialect) (good : ℕ → Bool) (b : Body dia) (bound : BoundNames) (n j last : ℕ) → Named dia b bound j → NamesGood good bound n → n < j → n < last → first_of dia b bound j last ≤ n
    → good (first_of dia b bound j last) ≡ true
lead_good dia good ends bound n j last named names lt end le = absurd (omega arith)
lead_good dia good (again x) bound n j last named names lt end le = name_good good x bound n j (nearest_binding x bound) refl named names le
lead_good dia good (binds x b) bound n j last named names lt end le =
    lead_good dia good b ((x, j) ∷ bound) n j last named (λ y v e i. later_name (bytes_eq x y) j v n (nearest_binding y bound) e lt i (λ f. names y v f i)) lt end le
lead_good dia good (acts s r l sort b) bound n j last named names lt end le = absurd (omega arith)
lead_good dia good (offers s r arms) bound n j last named names lt end le = absurd (omega arith)

-- behind head k the names that lead to k do so by a rec in front of it
pub good_behind : (good : ℕ → Bool) (bound : BoundNames) (here : Bool) (k : ℕ) → ((x : List ℕ) (v : ℕ) → nearest_binding x bound ≡ Some v → v < k → good v ≡ true)
    → ((x : List ℕ) (v : ℕ) → nearest_binding x bound ≡ Some v → v ≡ k → here ≡ true) → (here ≡ true → good k ≡ true) → NamesGood good bound k
good_behind good bound here k before at g x v e le = elim (eqb_tells v k) [
  | inl same ↦ ap good same.1 ∙ g (at x v e same.1)
  | inr other ↦ (let ne : v ≢ k = other.1 in before x v e (omega arith))
]

abbrev pub Leads : (ℕ → Bool) → Option ℕ → ℕ → Type 0
Leads back None count = ⊥
Leads back (Some m) count = (m < count) × (back m ≡ true)

-- names are bound, guarded, and where they lead is gone back to
abbrev mutual
  pub Fine : (dia : Dialect) → (ℕ → Bool) → Body dia → BoundNames → ℕ → Type 0
  Fine dia back ends bound count = Unit {0}
  Fine dia back (again x) bound count = Leads back (nearest_binding x bound) count
  Fine dia back (binds x b) bound count = Fine dia back b ((x, count) ∷ bound) count
  Fine dia back (acts s r l sort b) bound count = Fine dia back b bound (suc count)
  Fine dia back (offers s r arms) bound count = FineArms dia back arms bound (suc count)

  pub FineArms : (dia : Dialect) → (ℕ → Bool) → Branches dia → BoundNames → ℕ → Type 0
  FineArms dia back (one l sort b) bound count = Fine dia back b bound count
  FineArms dia back (more l sort b arms) bound count = Fine dia back b bound count × FineArms dia back arms bound (count + acts_in dia b)

-- ---- what fits has few heads and labels

pub few_labels : (ls : List (List ℕ)) (l : List ℕ) → length ls ≤ 256 → (is_among l ls || nat_lt (length ls) 256) ≡ true → length (names_with ls (l ∷ [])) ≤ 256
few_labels ls l few h = elim (true_or_false (is_among l ls)) [
  | inl e ↦ rw e few
  | inr e ↦ (let g : length ls < 256 = ltb-true (length ls) 256 (rw e at h) in let k : length (ls ++ l ∷ []) ≡ length ls + 1 = length-append ls (l ∷ []) in rw e (omega arith))
]

mutual
  pub fits_labels : (dia : Dialect) (t : Body dia) (s : Scene) → body_fits dia t s ≡ true → length s.labels ≤ 256 → length (names_with s.labels (labels_of dia t)) ≤ 256
  fits_labels dia ends s h few = few
  fits_labels dia (again x) s h few = few
  fits_labels dia (binds x b) s h few = fits_labels dia b (in_rec x s) (both _ _ h).1 few
  fits_labels dia (acts x y l sort b) s h few = fits_labels dia b (with_label l (in_act s)) (both _ _ h).1 (few_labels s.labels l few (both _ _ (both _ _ h).0).1)
  fits_labels dia (offers x y arms) s h few = arms_labels dia arms (in_braces s) (both _ _ h).1 few

  arms_labels : (dia : Dialect) (arms : Branches dia) (s : Scene) → arms_fit dia arms s ≡ true → length s.labels ≤ 256 → length (names_with s.labels (labels_of_arms dia arms)) ≤ 256
  arms_labels dia (one l sort b) s h few = fits_labels dia b (with_label l s) (both _ _ h).1 (few_labels s.labels l few (both _ _ h).0)
  arms_labels dia (more l sort b arms) s h few =
      let p = both _ _ (both _ _ h).0 in
      subst (λ (z : List (List ℕ)). length z ≤ 256) (sym (grown_append (labels_of dia b) (labels_of_arms dia arms) (names_with s.labels (l ∷ []))))
      (arms_labels dia arms (behind dia b (with_label l s)) (both _ _ h).1 (fits_labels dia b (with_label l s) p.1 (few_labels s.labels l few p.0)))

-- there is room for one more
head_room : (dia : Dialect) (t : BehindRole dia) (x : List ℕ) (s : Scene) → head_fits dia x t s ≡ true → s.acts < most dia
head_room Talks (sends_to y) x s h = ltb-true s.acts 1024 (both _ _ (both _ _ h).0).1
head_room Acts (with_mark m) x s h = ltb-true s.acts 256 (both _ _ h).1

mutual
  pub fits_heads : (dia : Dialect) (t : Body dia) (s : Scene) → body_fits dia t s ≡ true → s.acts ≤ most dia → s.acts + acts_in dia t ≤ most dia
  fits_heads dia ends s h few = omega arith
  fits_heads dia (again x) s h few = omega arith
  fits_heads dia (binds x b) s h few = fits_heads dia b (in_rec x s) (both _ _ h).1 few
  fits_heads dia (acts x y l sort b) s h few =
      let small : s.acts < most dia = head_room dia y x s (both _ _ (both _ _ h).0).0 in
      let i : suc s.acts + acts_in dia b ≤ most dia = fits_heads dia b (with_label l (in_act s)) (both _ _ h).1 (omega arith) in omega arith
  fits_heads dia (offers x y arms) s h few =
      let small : s.acts < most dia = head_room dia y x s (both _ _ (both _ _ h).0).0 in
      let i : suc s.acts + acts_in_arms dia arms ≤ most dia = arms_heads dia arms (in_braces s) (both _ _ h).1 (omega arith) in omega arith

  arms_heads : (dia : Dialect) (arms : Branches dia) (s : Scene) → arms_fit dia arms s ≡ true → s.acts ≤ most dia → s.acts + acts_in_arms dia arms ≤ most dia
  arms_heads dia (one l sort b) s h few = fits_heads dia b (with_label l s) (both _ _ h).1 few
  arms_heads dia (more l sort b arms) s h few =
      let first = fits_heads dia b (with_label l s) (both _ _ (both _ _ h).0).1 few in
      let i : (s.acts + acts_in dia b) + acts_in_arms dia arms ≤ most dia = arms_heads dia arms (behind dia b (with_label l s)) (both _ _ h).1 first in omega arith
