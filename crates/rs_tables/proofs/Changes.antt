-- What a token adds to the names and the rows before a place, and the rule that it may break there.
use Rattle.std.proofs.Common.{◌≡◌, ◌⊎◌, inl, inr, ℕ, suc, ◌+◌, List, [], ◌∷◌, ◌++◌, codes, length, Bool, true, false, ◌&&◌, ◌==◌, nat_le, if◌then◌else◌, Option, Some, None, IfSome, refl, sym, ap}
use Rattle.std.proofs.Common.{◌∙◌, append_assoc, append-nil, length-append, arith}
use Rattle.std.proofs.lemmas.Grind.{flat_map-append}
use Rattle.std.proofs.lemmas.List.{map-append}
use Rattle.std.specs.Option.{option_map}
use Rattle.rs_model.specs.Data.{Names_data}
use Rattle.rs_model.specs.declared.limits.TheConstants.{MOST_STATES}
use Rattle.rs_model.specs.declared.values.Sort.{Sort}
use Rattle.rs_bodies.specs.declared.dialects.Mark.{Mark}
use Rattle.rs_text.specs.ArmCuts.{ArmCut, at_label, behind_label, behind_paren, behind_sort, behind_head}
use Rattle.rs_text.specs.declared.faults.TextKind.TheVariants as kind
use Rattle.rs_text.specs.Names.{names_with}
use Rattle.rs_text.specs.Seen.{plain_text, word_text, sort_named}
use Rattle.rs_text.specs.Signs.{Sign}
use Rattle.rs_tables.specs.Cuts.{RowCut, at_number, behind_number, behind_peer, behind_mark, in_arm, behind_arm, Cut, at_begin, at_role, at_brace, in_rows, at_end}
use Rattle.rs_tables.specs.Machines.{labels_of_arms, labels_of_row, labels_of_rows, peers_of_row, peers_of_rows}
use Rattle.rs_tables.specs.Faults.{fault_of_row, fault_of}
use Rattle.rs_text.specs.TokenTests.{number_value}
use Rattle.rs_text.specs.NameFaults.{fault_of_role, fault_of_label}
use Rattle.rs_tables.specs.Feeding.{mark_of, is_some_of}
use Rattle.rs_text.specs.TokenTests.{is_end, is_comma, is_open_brace, is_close_brace, is_keyword}
use Rattle.rs_tables.specs.Trees.{ArmTree, RowTree, end_row, choice_row}
use Rattle.rs_tables.proofs.Grows.{is_open_paren, is_close_paren, Grown, stays, ends, closes, arm_tree, table_tree, armed, number_step, row_step, mark_step, label_step, sorted_step, sort_step, next_step}
use Rattle.rs_tables.proofs.Grows.{arm_grows, row_grows, grown_to, role_step, grows}

-- ---- names and rows before a place

abbrev pub labels_before : List ArmTree → ArmCut → List (List ℕ)
labels_before arms at_label = labels_of_arms arms
labels_before arms (behind_label l) = labels_of_arms arms ++ l ∷ []
labels_before arms (behind_paren l) = labels_of_arms arms ++ l ∷ []
labels_before arms (behind_sort l q) = labels_of_arms arms ++ l ∷ []
labels_before arms (behind_head l q) = labels_of_arms arms ++ l ∷ []

abbrev pub labels_at : RowCut → List (List ℕ)
labels_at at_number = []
labels_at behind_number = []
labels_at (behind_peer p) = []
labels_at (behind_mark p m) = []
labels_at (in_arm p m arms a) = labels_before arms a
labels_at (behind_arm p m x xs) = labels_of_arms (x ∷ xs)

abbrev pub labels_in : Cut → List (List ℕ)
labels_in (in_rows x rs p) = labels_of_rows rs ++ labels_at p
labels_in (at_end t) = labels_of_rows t.rows
labels_in _ = []

abbrev pub peers_at : RowCut → List (List ℕ)
peers_at at_number = []
peers_at behind_number = []
peers_at (behind_peer p) = p ∷ []
peers_at (behind_mark p m) = p ∷ []
peers_at (in_arm p m arms a) = p ∷ []
peers_at (behind_arm p m x xs) = p ∷ []

abbrev pub roles_in : Cut → List (List ℕ)
roles_in at_begin = []
roles_in at_role = []
roles_in (at_brace x) = x ∷ []
roles_in (in_rows x rs p) = x ∷ (peers_of_rows rs ++ peers_at p)
roles_in (at_end t) = t.role ∷ peers_of_rows t.rows

-- rows whose number was read
abbrev pub count_at : ℕ → RowCut → ℕ
count_at n at_number = n
count_at n _ = suc n

abbrev pub count_in : Cut → ℕ
count_in (in_rows x rs p) = count_at (length rs) p
count_in (at_end t) = length t.rows
count_in _ = 0

-- ---- what a token adds

pub record Adds (c d : Cut) (roles labels : List (List ℕ)) (rows : ℕ) : Type 0 where
  pub roles_are : roles_in d ≡ roles_in c ++ roles
  pub labels_are : labels_in d ≡ labels_in c ++ labels
  pub count_is : count_in d ≡ count_in c + rows

pub record AddsNothing (old : Names_data) (c : Cut) (t : Sign) (d : Cut) : Type 0 where
  pub clear : fault_of old c t ≡ None
  pub adds : Adds c d [] [] 0

pub record AddsRole (old : Names_data) (c : Cut) (t : Sign) (d : Cut) : Type 0 where
  pub name : List ℕ
  pub fault : fault_of old c t ≡ fault_of_role old (Some name)
  pub adds : Adds c d (name ∷ []) [] 0

pub record AddsLabel (old : Names_data) (c : Cut) (t : Sign) (d : Cut) : Type 0 where
  pub name : List ℕ
  pub fault : fault_of old c t ≡ fault_of_label (names_with old.labels (labels_in c)) (Some name)
  pub adds : Adds c d [] (name ∷ []) 0

pub record AddsRow (old : Names_data) (c : Cut) (t : Sign) (d : Cut) : Type 0 where
  pub fault : fault_of old c t ≡ (if nat_le MOST_STATES (count_in c) then Some kind.TooManyNodes else None)
  pub adds : Adds c d [] [] 1

abbrev pub Change : Names_data → Cut → Sign → Cut → Type 0
Change old c t d = AddsNothing old c t d ⊎ (AddsRole old c t d ⊎ (AddsLabel old c t d ⊎ AddsRow old c t d))

adds_nothing : (c d : Cut) → roles_in d ≡ roles_in c → labels_in d ≡ labels_in c → count_in d ≡ count_in c → Adds c d [] [] 0
adds_nothing c d r l n = record { roles_are = r ∙ sym (append-nil (roles_in c)); labels_are = l ∙ sym (append-nil (labels_in c)); count_is = omega arith }

same : (old : Names_data) (c : Cut) (t : Sign) (d : Cut) → fault_of old c t ≡ None → roles_in d ≡ roles_in c → labels_in d ≡ labels_in c → count_in d ≡ count_in c → Change old c t d
same old c t d f r l n = inl (record { clear = f; adds = adds_nothing c d r l n })

-- ---- by places

if_change : {A : Type 0} (b : Bool) (g : A) (P : A → Type 0) → (b ≡ true → P g) → IfSome (if b then Some g else None) P
if_change true g P h = h refl
if_change false g P h = tt

either_change : (b c : Bool) (g h : Grown) (P : Grown → Type 0) → P g → P h → IfSome (if b then Some g else if c then Some h else None) P
either_change true c g h P f k = f
either_change false true g h P f k = k
either_change false false g h P f k = tt

mapped : {A B : Type 0} (f : A → B) (P : B → Type 0) (o : Option A) → IfSome o (λ g. P (f g)) → IfSome (option_map f o) P
mapped f P None h = tt
mapped f P (Some g) h = h

-- the change to the place that is grown to
abbrev To : Names_data → List ℕ → List RowTree → RowCut → Sign → Grown → Type 0
To old x rs p t g = Change old (in_rows x rs p) t (grown_to x rs g)

row_labels : (rs : List RowTree) (r : RowTree) → labels_of_rows (rs ++ r ∷ []) ++ [] ≡ labels_of_rows rs ++ labels_of_row r
row_labels rs r = append-nil (labels_of_rows (rs ++ r ∷ [])) ∙ flat_map-append labels_of_row rs (r ∷ []) ∙ ap (λ z. labels_of_rows rs ++ z) (append-nil (labels_of_row r))

row_peers : (rs : List RowTree) (r : RowTree) → peers_of_rows (rs ++ r ∷ []) ++ [] ≡ peers_of_rows rs ++ peers_of_row r
row_peers rs r = append-nil (peers_of_rows (rs ++ r ∷ [])) ∙ flat_map-append peers_of_row rs (r ∷ []) ∙ ap (λ z. peers_of_rows rs ++ z) (append-nil (peers_of_row r))

row_ends : (old : Names_data) (x : List ℕ) (rs : List RowTree) (p : RowCut) (r : RowTree) (t : Sign) → fault_of old (in_rows x rs p) t ≡ None → peers_at p ≡ peers_of_row r
    → labels_at p ≡ labels_of_row r → count_at (length rs) p ≡ suc (length rs) → To old x rs p t (ends r)
row_ends old x rs p r t f e l k = same old (in_rows x rs p) t (in_rows x (rs ++ r ∷ []) at_number) f
    (ap (λ z. x ∷ z) (row_peers rs r ∙ ap (λ z. peers_of_rows rs ++ z) (sym e)))
    (row_labels rs r ∙ ap (λ z. labels_of_rows rs ++ z) (sym l))
    (length-append rs (r ∷ []) ∙ omega arith ∙ sym k)

row_kept : (old : Names_data) (x : List ℕ) (rs : List RowTree) (p q : RowCut) (t : Sign) → fault_of old (in_rows x rs p) t ≡ None → peers_at q ≡ peers_at p → labels_at q ≡ labels_at p
    → count_at (length rs) q ≡ count_at (length rs) p → To old x rs p t (stays q)
row_kept old x rs p q t f e l k = same old (in_rows x rs p) t (in_rows x rs q) f (ap (λ z. x ∷ (peers_of_rows rs ++ z)) e) (ap (λ z. labels_of_rows rs ++ z) l) k

count_fault : (count n : ℕ) → (n == count) ≡ true → fault_of_row count (Some n) ≡ (if nat_le MOST_STATES count then Some kind.TooManyNodes else None)
count_fault count n h = ap (λ z. if z then (if nat_le MOST_STATES count then Some kind.TooManyNodes else None) else None) h

numbers_change : (old : Names_data) (x : List ℕ) (rs : List RowTree) (t : Sign) (o : Option ℕ) → number_value t ≡ o → IfSome (number_step rs o (is_close_brace t)) (To old x rs at_number t)
numbers_change old x rs t (Some n) e = if_change (n == length rs) (stays behind_number) _ (λ h. inr (inr (inr (record {
  fault = ap (λ z. fault_of_row (length rs) z) e ∙ count_fault (length rs) n h;
  adds = record { roles_are = sym (append-nil (x ∷ (peers_of_rows rs ++ []))); labels_are = sym (append-nil (labels_of_rows rs ++ [])); count_is = omega arith };
}))))
numbers_change old x rs t None e =
    if_change (is_close_brace t && is_some_of rs) closes _ (λ h. same old (in_rows x rs at_number) t (at_end (table_tree x rs)) (ap (λ z. fault_of_row (length rs) z) e)
    (ap (λ z. x ∷ z) (sym (append-nil (peers_of_rows rs)))) (sym (append-nil (labels_of_rows rs))) refl)

peers_more : (x : List ℕ) (rs : List RowTree) (w : List ℕ) → x ∷ (peers_of_rows rs ++ w ∷ []) ≡ (x ∷ (peers_of_rows rs ++ [])) ++ w ∷ []
peers_more x rs w = ap (λ z. x ∷ (z ++ w ∷ [])) (sym (append-nil (peers_of_rows rs)))

peers_change : (old : Names_data) (x : List ℕ) (rs : List RowTree) (t : Sign) (o : Option (List ℕ)) → plain_text t ≡ o → IfSome (row_step o (is_end t)) (To old x rs behind_number t)
peers_change old x rs t (Some w) e =
    inr (inl (record { name = w; fault = ap (fault_of_role old) e; adds = record { roles_are = peers_more x rs w; labels_are = sym (append-nil (labels_of_rows rs ++ [])); count_is = omega arith } }))
peers_change old x rs t None e = if_change (is_end t) (ends end_row) _ (λ h. row_ends old x rs behind_number end_row t (ap (fault_of_role old) e) refl refl refl)

marks_change : (old : Names_data) (x : List ℕ) (rs : List RowTree) (p : List ℕ) (t : Sign) (o : Option Mark) → IfSome (mark_step p o) (To old x rs (behind_peer p) t)
marks_change old x rs p t None = tt
marks_change old x rs p t (Some m) = row_kept old x rs (behind_peer p) (behind_mark p m) t refl refl refl refl

labels_change : (old : Names_data) (x : List ℕ) (rs : List RowTree) (p : List ℕ) (m : Mark) (arms : List ArmTree) (t : Sign) (o : Option (List ℕ)) → word_text t ≡ o
    → IfSome (label_step p m arms o) (To old x rs (in_arm p m arms at_label) t)
labels_change old x rs p m arms t None e = tt
labels_change old x rs p m arms t (Some l) e = inr (inr (inl (record {
  name = l;
  fault = ap (λ z. fault_of_label (names_with old.labels (labels_of_rows rs ++ labels_of_arms arms)) z) e;
  adds = record {
    roles_are = sym (append-nil (x ∷ (peers_of_rows rs ++ p ∷ [])));
    labels_are = sym (append_assoc (labels_of_rows rs) (labels_of_arms arms) (l ∷ []));
    count_is = omega arith;
  };
})))

sorted_change : (old : Names_data) (x : List ℕ) (rs : List RowTree) (p : List ℕ) (m : Mark) (arms : List ArmTree) (l : List ℕ) (t : Sign) (o : Option Sort)
    → IfSome (sorted_step p m arms l o) (To old x rs (in_arm p m arms (behind_paren l)) t)
sorted_change old x rs p m arms l t None = tt
sorted_change old x rs p m arms l t (Some q) = row_kept old x rs (in_arm p m arms (behind_paren l)) (in_arm p m arms (behind_sort l q)) t refl refl refl refl

sorts_change : (old : Names_data) (x : List ℕ) (rs : List RowTree) (p : List ℕ) (m : Mark) (arms : List ArmTree) (l : List ℕ) (t : Sign) (o : Option (List ℕ)) (c : Bool)
    → IfSome (sort_step p m arms l o c) (To old x rs (in_arm p m arms (behind_paren l)) t)
sorts_change old x rs p m arms l t (Some w) c = sorted_change old x rs p m arms l t (sort_named w)
sorts_change old x rs p m arms l t None c =
    if_change c (stays (in_arm p m arms (behind_head l None))) _ (λ h. row_kept old x rs (in_arm p m arms (behind_paren l)) (in_arm p m arms (behind_head l None)) t refl refl refl refl)

armed_peers : (p : List ℕ) (m : Mark) (arms : List ArmTree) (a : ArmTree) → peers_at (armed p m arms a) ≡ p ∷ []
armed_peers p m [] a = refl
armed_peers p m (y ∷ ys) a = refl

armed_labels : (p : List ℕ) (m : Mark) (arms : List ArmTree) (a : ArmTree) → labels_at (armed p m arms a) ≡ labels_of_arms arms ++ a.label ∷ []
armed_labels p m [] a = refl
armed_labels p m (y ∷ ys) a = ap (λ z. y.label ∷ z) (map-append (λ (a : ArmTree). a.label) ys (a ∷ []))

armed_count : (n : ℕ) (p : List ℕ) (m : Mark) (arms : List ArmTree) (a : ArmTree) → count_at n (armed p m arms a) ≡ suc n
armed_count n p m [] a = refl
armed_count n p m (y ∷ ys) a = refl

nexts_change : (old : Names_data) (x : List ℕ) (rs : List RowTree) (p : List ℕ) (m : Mark) (arms : List ArmTree) (l : List ℕ) (q : Option Sort) (t : Sign) (o : Option ℕ)
    → IfSome (next_step p m arms l q o) (To old x rs (in_arm p m arms (behind_head l q)) t)
nexts_change old x rs p m arms l q t None = tt
nexts_change old x rs p m arms l q t (Some n) =
    row_kept old x rs (in_arm p m arms (behind_head l q)) (armed p m arms (arm_tree l q n)) t refl (armed_peers p m arms (arm_tree l q n)) (armed_labels p m arms (arm_tree l q n))
    (armed_count (length rs) p m arms (arm_tree l q n))

arm_change : (old : Names_data) (x : List ℕ) (rs : List RowTree) (p : List ℕ) (m : Mark) (arms : List ArmTree) (a : ArmCut) (t : Sign)
    → IfSome (arm_grows p m arms a t) (To old x rs (in_arm p m arms a) t)
arm_change old x rs p m arms at_label t = labels_change old x rs p m arms t (word_text t) refl
arm_change old x rs p m arms (behind_label l) t =
    if_change (is_open_paren t) (stays (in_arm p m arms (behind_paren l))) _
    (λ h. row_kept old x rs (in_arm p m arms (behind_label l)) (in_arm p m arms (behind_paren l)) t refl refl refl refl)
arm_change old x rs p m arms (behind_paren l) t = sorts_change old x rs p m arms l t (plain_text t) (is_close_paren t)
arm_change old x rs p m arms (behind_sort l q) t =
    if_change (is_close_paren t) (stays (in_arm p m arms (behind_head l (Some q)))) _
    (λ h. row_kept old x rs (in_arm p m arms (behind_sort l q)) (in_arm p m arms (behind_head l (Some q))) t refl refl refl refl)
arm_change old x rs p m arms (behind_head l q) t = nexts_change old x rs p m arms l q t (number_value t)

row_change : (old : Names_data) (x : List ℕ) (rs : List RowTree) (p : RowCut) (t : Sign) → IfSome (row_grows rs p t) (To old x rs p t)
row_change old x rs at_number t = numbers_change old x rs t (number_value t) refl
row_change old x rs behind_number t = peers_change old x rs t (plain_text t) refl
row_change old x rs (behind_peer p) t = marks_change old x rs p t (mark_of t)
row_change old x rs (behind_mark p m) t =
    if_change (is_open_brace t) (stays (in_arm p m [] at_label)) _ (λ h. row_kept old x rs (behind_mark p m) (in_arm p m [] at_label) t refl refl refl refl)
row_change old x rs (in_arm p m arms a) t = arm_change old x rs p m arms a t
row_change old x rs (behind_arm p m y ys) t =
    either_change (is_comma t) (is_close_brace t) (stays (in_arm p m (y ∷ ys) at_label)) (ends (choice_row p m y ys)) _
    (row_kept old x rs (behind_arm p m y ys) (in_arm p m (y ∷ ys) at_label) t refl refl refl refl) (row_ends old x rs (behind_arm p m y ys) (choice_row p m y ys) t refl refl refl refl)

role_change : (old : Names_data) (t : Sign) (o : Option (List ℕ)) → plain_text t ≡ o → IfSome (role_step o) (Change old at_role t)
role_change old t None e = tt
role_change old t (Some w) e = inr (inl (record { name = w; fault = ap (fault_of_role old) e; adds = record { roles_are = refl; labels_are = refl; count_is = refl } }))

-- where a place goes on by a token, that adds to the names or rows what it is
pub change : (old : Names_data) (c : Cut) (t : Sign) → IfSome (grows c t) (Change old c t)
change old at_begin t = if_change (is_keyword (codes "table") t) at_role _ (λ h. same old at_begin t at_role refl refl refl refl)
change old at_role t = role_change old t (plain_text t) refl
change old (at_brace x) t = if_change (is_open_brace t) (in_rows x [] at_number) _ (λ h. same old (at_brace x) t (in_rows x [] at_number) refl refl refl refl)
change old (in_rows x rs p) t = mapped (grown_to x rs) (Change old (in_rows x rs p) t) (row_grows rs p t) (row_change old x rs p t)
change old (at_end d) t = tt
