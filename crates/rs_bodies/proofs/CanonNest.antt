-- The canonical form nests no deeper than a body that spells it, and has names and limits as it has.
use Rattle.std.proofs.Common.{◌≡◌, ℕ, suc, ◌+◌, ◌^◌, ◌<◌, ◌≤◌, List, [], ◌∷◌, ◌++◌, length, Bool, true, false, ◌&&◌, ◌||◌, nat_lt, Option, Some, None, refl, sym, ap, ◌∙◌, subst, arith}
use Rattle.std.proofs.lemmas.Bool.{ltb-true, lt-ltb}
use Rattle.rs_model.specs.declared.values.Sort.{Sort}
use Rattle.rs_text.proofs.Basics.{two_true, both}
use Rattle.rs_text.proofs.Naming.{grown_append}
use Rattle.rs_bodies.proofs.ShapeGoes.{deeper_within}
use Rattle.rs_text.specs.Names.{BoundNames, nearest_binding, number_or, names_with, is_among}
use Rattle.rs_bodies.specs.declared.dialects.Dialect.{Dialect}
use Rattle.rs_bodies.specs.declared.dialects.Dialect.TheVariants.{Talks, Acts}
use Rattle.rs_bodies.specs.Dialects.{BehindRole, sends_to, with_mark, most}
use Rattle.rs_bodies.specs.Fits.{is_guarded, has_room_for, head_fits, body_fits, arms_fit}
use Rattle.rs_bodies.specs.Graph.{labels_of, labels_of_arms, acts_in}
use Rattle.rs_bodies.specs.Places.{name_of_place}
use Rattle.rs_bodies.specs.Scenes.{Scene, with_label, in_act, in_braces, behind}
use Rattle.rs_bodies.specs.Trees.{Body, ends, again, binds, acts, offers, Branches, one, more}
use Rattle.rs_bodies.proofs.BackFlags.{goes_back}
use Rattle.rs_bodies.proofs.CanonForms.{Writing, role_as, label_as, turn_as, sort_as, canon, canon_arms, HasRole, HasTurn, HasNames, HasNamesArms}
use Rattle.rs_bodies.proofs.CanonSame.{Inv, InvAll, inv_rec, inv_head, inv_all, canon_acts}
use Rattle.rs_bodies.proofs.Fitting.{Recs, RecsArms, Leads, Fine, FineArms}
use Rattle.rs_bodies.proofs.NamesLead.{Low, low_rec, low_up}
use Rattle.rs_bodies.proofs.Wrapped.{scene, offered, opened_for, wrapped_fits, wrapped_labels, offered_labels}
use Rattle.rs_bodies.specs.Shapes.{deeper}

-- ---- nesting, names and limits of the canonical form

-- the roles that are written are known
abbrev pub RolesKnown : Writing → List (List ℕ) → Type 0
RolesKnown w roles = (s : List ℕ) → HasRole w s → is_among (role_as w s) roles ≡ true

-- labels that are read lead to labels that are written, with room for each
pub record Carries (P : List ℕ → Type 0) (R : List (List ℕ) → List (List ℕ) → Type 0) (w : Writing) : Type 0 where
  pub room : (l : List ℕ) (ls labels : List (List ℕ)) → P l → R ls labels → (is_among l ls || nat_lt (length ls) 256) ≡ true → (is_among (label_as w l) labels || nat_lt (length labels) 256) ≡ true
  pub grows : (l : List ℕ) (ls labels : List (List ℕ)) → P l → R ls labels → R (names_with ls (l ∷ [])) (names_with labels (label_as w l ∷ []))

mutual
  pub carried : {dia : Dialect} (P : List ℕ → Type 0) (R : List (List ℕ) → List (List ℕ) → Type 0) (w : Writing) (b : Body dia) (bound : BoundNames) (k : ℕ) (ls labels : List (List ℕ)) → Carries P R w
      → HasNames w P b → R ls labels → R (names_with ls (labels_of dia b)) (names_with labels (labels_of dia (canon w b bound k)))
  carried P R w ends bound k ls labels c has r = r
  carried P R w (again x) bound k ls labels c has r = r
  carried P R w (binds x b) bound k ls labels c has r = carried P R w b ((x, k) ∷ bound) k ls labels c has r
  carried {dia} P R w (acts s t l sort b) bound k ls labels c has r =
      subst (λ (z : List (List ℕ)). R (names_with ls (l ∷ labels_of dia b)) (names_with labels z))
      (sym (wrapped_labels (goes_back w.places k) k (acts (role_as w s) (turn_as w t) (label_as w l) (sort_as sort) (canon w b bound (suc k)))))
      (carried P R w b bound (suc k) (names_with ls (l ∷ [])) (names_with labels (label_as w l ∷ [])) c has.2 (c.grows l ls labels has.1 r))
  carried {dia} P R w (offers s t arms) bound k ls labels c has r =
      subst (λ (z : List (List ℕ)). R (names_with ls (labels_of_arms dia arms)) (names_with labels z))
      (sym (wrapped_labels (goes_back w.places k) k (offered (role_as w s) (turn_as w t) (canon_arms w arms bound (suc k)))
      ∙ offered_labels (role_as w s) (turn_as w t) (canon_arms w arms bound (suc k))))
      (arms_carried P R w arms bound (suc k) ls labels c has.1 r)

  pub arms_carried : {dia : Dialect} (P : List ℕ → Type 0) (R : List (List ℕ) → List (List ℕ) → Type 0) (w : Writing) (arms : Branches dia) (bound : BoundNames) (k : ℕ) (ls labels : List (List ℕ))
      → Carries P R w → HasNamesArms w P arms → R ls labels → R (names_with ls (labels_of_arms dia arms)) (names_with labels (labels_of_arms dia (canon_arms w arms bound k)))
  arms_carried P R w (one l sort b) bound k ls labels c has r = carried P R w b bound k (names_with ls (l ∷ [])) (names_with labels (label_as w l ∷ [])) c has.1 (c.grows l ls labels has.0 r)
  arms_carried {dia} P R w (more l sort b arms) bound k ls labels c has r =
      let j : ℕ = k + acts_in dia b in
      let first : List (List ℕ) = labels_of dia (canon w b bound k) in
      let rest : List (List ℕ) = labels_of_arms dia (canon_arms w arms bound j) in
      let old : List (List ℕ) = names_with ls (l ∷ []) in
      let new : List (List ℕ) = names_with labels (label_as w l ∷ []) in
      subst (λ (z : List (List ℕ)). R z (names_with new (first ++ rest))) (sym (grown_append (labels_of dia b) (labels_of_arms dia arms) old))
      (subst (λ (z : List (List ℕ)). R (names_with (names_with old (labels_of dia b)) (labels_of_arms dia arms)) z) (sym (grown_append first rest new))
      (arms_carried P R w arms bound j (names_with old (labels_of dia b)) (names_with new first) c has.2 (carried P R w b bound k old new c has.1 (c.grows l ls labels has.0 r))))

head_small : (dia : Dialect) (p : List ℕ) (t : BehindRole dia) (s : Scene) → head_fits dia p t s ≡ true → s.acts < most dia
head_small Talks p (sends_to r) s h = ltb-true s.acts 1024 (both (is_among p s.roles) (nat_lt s.acts 1024) (both (is_among p s.roles && nat_lt s.acts 1024) (is_among r s.roles) h).0).1
head_small Acts p (with_mark m) s h = ltb-true s.acts 256 (both (is_among p s.roles) (nat_lt s.acts 256) h).1

head_fit : (dia : Dialect) (w : Writing) (p : List ℕ) (t : BehindRole dia) (s : Scene) → RolesKnown w s.roles → HasRole w p × HasTurn w t → s.acts < most dia
    → head_fits dia (role_as w p) (turn_as w t) s ≡ true
head_fit Talks w p (sends_to r) s known has small =
    two_true (is_among (role_as w p) s.roles && nat_lt s.acts 1024) (is_among (role_as w r) s.roles)
    (two_true (is_among (role_as w p) s.roles) (nat_lt s.acts 1024) (known p has.0) (lt-ltb s.acts 1024 small)) (known r has.1)
head_fit Acts w p (with_mark m) s known has small = two_true (is_among (role_as w p) s.roles) (nat_lt s.acts 256) (known p has.0) (lt-ltb s.acts 256 small)

small_number : (dia : Dialect) (k : ℕ) → k < most dia → k < 2 ^ 64
small_number Talks k h = omega arith
small_number Acts k h = omega arith

acts_fit : {dia : Dialect} (x : List ℕ) (y : BehindRole dia) (l : List ℕ) (sort : Option Sort) (c : Body dia) (s : Scene) → head_fits dia x y s ≡ true → has_room_for l s ≡ true
    → body_fits dia c (with_label l (in_act s)) ≡ true → body_fits dia (acts x y l sort c) s ≡ true
acts_fit {dia} x y l sort c s a room h =
    two_true (head_fits dia x y s && has_room_for l s) (body_fits dia c (with_label l (in_act s))) (two_true (head_fits dia x y s) (has_room_for l s) a room) h

offers_fit : {dia : Dialect} (x : List ℕ) (y : BehindRole dia) (c : Branches dia) (s : Scene) → head_fits dia x y s ≡ true → s.depth < 200 → arms_fit dia c (in_braces s) ≡ true
    → body_fits dia (offers x y c) s ≡ true
offers_fit {dia} x y c s a low h =
    two_true (head_fits dia x y s && nat_lt s.depth 200) (arms_fit dia c (in_braces s)) (two_true (head_fits dia x y s) (nat_lt s.depth 200) a (lt-ltb s.depth 200 low)) h

name_fits : (back : ℕ → Bool) (bound named : BoundNames) (k : ℕ) (x : List ℕ) (found : Option ℕ) → nearest_binding x bound ≡ found → Leads back found k → Inv back bound named k
    → is_guarded (nearest_binding (name_of_place (number_or found)) named) k ≡ true
name_fits back bound named k x None e h inv = absurd h
name_fits back bound named k x (Some m) e h inv = rw (inv x m e h.1 h.0) (lt-ltb m k h.0)

mutual
  pub canon_fits : {dia : Dialect} (P : List ℕ → Type 0) (R : List (List ℕ) → List (List ℕ) → Type 0) (w : Writing) (t : Body dia) (bound named : BoundNames) (here : Bool) (k d inner : ℕ)
      (roles known ls labels : List (List ℕ)) → RolesKnown w known → Carries P R w → R ls labels → HasNames w P t → d ≤ 200 → inner ≤ d → (here ≡ true → inner < d)
      → body_fits dia t (scene roles bound d k ls) ≡ true → Recs dia (goes_back w.places) t here k → Fine dia (goes_back w.places) t bound k → Inv (goes_back w.places) bound named k → Low bound k
      → body_fits dia (canon w t bound k) (scene known named inner k labels) ≡ true
  canon_fits P R w ends bound named here k d inner roles known ls labels rs cs rel has du le lt h recs fine inv low = refl
  canon_fits P R w (again x) bound named here k d inner roles known ls labels rs cs rel has du le lt h recs fine inv low =
      name_fits (goes_back w.places) bound named k x (nearest_binding x bound) refl fine inv
  canon_fits {dia} P R w (binds x b) bound named here k d inner roles known ls labels rs cs rel has du le lt h recs fine inv low =
      let p = both (nat_lt d 200) (body_fits dia b (scene roles ((x, k) ∷ bound) (suc d) k ls)) h in
      let below : d < 200 = ltb-true d 200 p.0 in
      canon_fits P R w b ((x, k) ∷ bound) named true k (suc d) inner roles known ls labels rs cs rel has (omega arith) (omega arith) (λ e. omega arith) p.1 recs fine
      (inv_rec (goes_back w.places) bound named k x inv) (low_rec bound k x low)
  canon_fits {dia} P R w (acts x y l sort b) bound named here k d inner roles known ls labels rs cs rel has du le lt h recs fine inv low =
      let c : Bool = goes_back w.places k in
      let form : Body dia = canon w b bound (suc k) in
      let old : Scene = scene roles bound d k ls in
      let new : Scene = scene known (opened_for c k named) (deeper c inner) k labels in
      let p = both (head_fits dia x y old && has_room_for l old) (body_fits dia b (with_label l (in_act old))) h in
      let q = both (head_fits dia x y old) (has_room_for l old) p.0 in
      let small : k < most dia = head_small dia x y old q.0 in
      wrapped_fits c k (acts (role_as w x) (turn_as w y) (label_as w l) (sort_as sort) form) known named inner labels (λ e. let i = lt (recs.0 e) in omega arith)
      (acts_fit (role_as w x) (turn_as w y) (label_as w l) (sort_as sort) form new (head_fit dia w x y new rs has.0 small) (cs.room l ls labels has.1 rel q.1)
      (canon_fits P R w b bound (opened_for c k named) false (suc k) d (deeper c inner) roles known (names_with ls (l ∷ [])) (names_with labels (label_as w l ∷ [])) rs cs
      (cs.grows l ls labels has.1 rel) has.2 du (deeper_within c here inner d recs.0 le lt) (λ e. absurd (cc e)) p.1 recs.1 fine
      (inv_head (goes_back w.places) bound named k c (small_number dia k small) refl inv) (low_up bound k (suc k) (omega arith) low)))
  canon_fits {dia} P R w (offers x y (one l sort b)) bound named here k d inner roles known ls labels rs cs rel has du le lt h recs fine inv low =
      let c : Bool = goes_back w.places k in
      let form : Body dia = canon w b bound (suc k) in
      let old : Scene = scene roles bound d k ls in
      let new : Scene = scene known (opened_for c k named) (deeper c inner) k labels in
      let p = both (head_fits dia x y old && nat_lt d 200) (arms_fit dia (one l sort b) (in_braces old)) h in
      let q = both (head_fits dia x y old) (nat_lt d 200) p.0 in
      let small : k < most dia = head_small dia x y old q.0 in
      let below : d < 200 = ltb-true d 200 q.1 in
      let inside = both (has_room_for l (in_braces old)) (body_fits dia b (with_label l (in_braces old))) p.1 in
      let depth : deeper c inner ≤ d = deeper_within c here inner d recs.0 le lt in
      wrapped_fits c k (acts (role_as w x) (turn_as w y) (label_as w l) (sort_as sort) form) known named inner labels (λ e. let i = lt (recs.0 e) in omega arith)
      (acts_fit (role_as w x) (turn_as w y) (label_as w l) (sort_as sort) form new (head_fit dia w x y new rs has.0 small) (cs.room l ls labels has.1.0 rel inside.0)
      (canon_fits P R w b bound (opened_for c k named) false (suc k) (suc d) (deeper c inner) roles known (names_with ls (l ∷ [])) (names_with labels (label_as w l ∷ [])) rs cs
      (cs.grows l ls labels has.1.0 rel) has.1.1 (omega arith) (omega arith) (λ e. absurd (cc e)) inside.1 recs.1 fine
      (inv_head (goes_back w.places) bound named k c (small_number dia k small) refl inv) (low_up bound k (suc k) (omega arith) low)))
  canon_fits {dia} P R w (offers x y (more l sort b arms)) bound named here k d inner roles known ls labels rs cs rel has du le lt h recs fine inv low =
      let c : Bool = goes_back w.places k in
      let ours : Branches dia = more l sort b arms in
      let form : Branches dia = canon_arms w ours bound (suc k) in
      let old : Scene = scene roles bound d k ls in
      let new : Scene = scene known (opened_for c k named) (deeper c inner) k labels in
      let p = both (head_fits dia x y old && nat_lt d 200) (arms_fit dia ours (in_braces old)) h in
      let q = both (head_fits dia x y old) (nat_lt d 200) p.0 in
      let small : k < most dia = head_small dia x y old q.0 in
      let below : d < 200 = ltb-true d 200 q.1 in
      let depth : deeper c inner ≤ d = deeper_within c here inner d recs.0 le lt in
      wrapped_fits c k (offers (role_as w x) (turn_as w y) form) known named inner labels (λ e. let i = lt (recs.0 e) in omega arith)
      (offers_fit (role_as w x) (turn_as w y) form new (head_fit dia w x y new rs has.0 small) (omega arith)
      (canon_arms_fit P R w (more l sort b arms) bound (opened_for c k named) (suc k) (suc d) (suc (deeper c inner)) roles known ls labels rs cs rel has.1 (omega arith) (omega arith) p.1 recs.1 fine
      (inv_all (goes_back w.places) bound (opened_for c k named) k low (inv_head (goes_back w.places) bound named k c (small_number dia k small) refl inv)) (low_up bound k (suc k) (omega arith) low)))

  canon_arms_fit : {dia : Dialect} (P : List ℕ → Type 0) (R : List (List ℕ) → List (List ℕ) → Type 0) (w : Writing) (arms : Branches dia) (bound named : BoundNames) (k d inner : ℕ)
      (roles known ls labels : List (List ℕ)) → RolesKnown w known → Carries P R w → R ls labels → HasNamesArms w P arms → d ≤ 200 → inner ≤ d → arms_fit dia arms (scene roles bound d k ls) ≡ true
      → RecsArms dia (goes_back w.places) arms k → FineArms dia (goes_back w.places) arms bound k → InvAll (goes_back w.places) bound named → Low bound k
      → arms_fit dia (canon_arms w arms bound k) (scene known named inner k labels) ≡ true
  canon_arms_fit {dia} P R w (one l sort b) bound named k d inner roles known ls labels rs cs rel has du le h recs fine inv low =
      let old : Scene = scene roles bound d k ls in
      let new : Scene = scene known named inner k labels in
      let p = both (has_room_for l old) (body_fits dia b (with_label l old)) h in
      two_true (has_room_for (label_as w l) new) (body_fits dia (canon w b bound k) (with_label (label_as w l) new)) (cs.room l ls labels has.0 rel p.0)
      (canon_fits P R w b bound named false k d inner roles known (names_with ls (l ∷ [])) (names_with labels (label_as w l ∷ [])) rs cs (cs.grows l ls labels has.0 rel) has.1 du le
      (λ e. absurd (cc e)) p.1 recs fine (λ x m e bk lt. inv x m e bk) low)
  canon_arms_fit {dia} P R w (more l sort b arms) bound named k d inner roles known ls labels rs cs rel has du le h recs fine inv low =
      let form : Body dia = canon w b bound k in
      let j : ℕ = k + acts_in dia b in
      let rest : Branches dia = canon_arms w arms bound j in
      let old : Scene = scene roles bound d k ls in
      let new : Scene = scene known named inner k labels in
      let read : List (List ℕ) = names_with ls (l ∷ []) in
      let all : List (List ℕ) = names_with labels (label_as w l ∷ []) in
      let next : R read all = cs.grows l ls labels has.0 rel in
      let p = both (has_room_for l old && body_fits dia b (with_label l old)) (arms_fit dia arms (behind dia b (with_label l old))) h in
      let q = both (has_room_for l old) (body_fits dia b (with_label l old)) p.0 in
      let step : k + acts_in dia b ≡ k + acts_in dia form = ap (λ z. k + z) (sym (canon_acts w b bound k)) in
      two_true (has_room_for (label_as w l) new && body_fits dia form (with_label (label_as w l) new)) (arms_fit dia rest (behind dia form (with_label (label_as w l) new)))
      (two_true (has_room_for (label_as w l) new) (body_fits dia form (with_label (label_as w l) new)) (cs.room l ls labels has.0 rel q.0)
      (canon_fits P R w b bound named false k d inner roles known read all rs cs next has.1 du le (λ e. absurd (cc e)) q.1 recs.0 fine.0 (λ x m e bk lt. inv x m e bk) low))
      (subst (λ (z : ℕ). arms_fit dia rest (scene known named inner z (names_with all (labels_of dia form))) ≡ true) step
      (canon_arms_fit P R w arms bound named j d inner roles known (names_with read (labels_of dia b)) (names_with all (labels_of dia form)) rs cs
      (carried P R w b bound k read all cs has.1 next) has.2 du le p.1 recs.1 fine.1 inv (low_up bound k j (omega arith) low)))
