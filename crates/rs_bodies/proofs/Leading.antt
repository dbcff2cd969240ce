-- What a text spells leads to its own places.
use Rattle.std.proofs.Common.{◌≡◌, ◌≢◌, ℕ, zero, suc, ◌+◌, ◌<◌, ◌≤◌, List, [], ◌∷◌, ◌++◌, length, Bool, true, false, ◌&&◌, nat_lt, Option, Some, None, slice_get, refl, sym, ap, ◌∙◌, subst, arith}
use Rattle.std.proofs.lemmas.Bool.{ltb-true}
use Rattle.rs_model.specs.Data.{Names_data}
use Rattle.rs_model.specs.declared.graph.Arm.{Arm}
use Rattle.rs_text.specs.Names.{place_of, is_among, BoundNames, nearest_binding, number_or}
use Rattle.rs_text.proofs.Naming.{not_among}
use Rattle.rs_text.proofs.Basics.{both, or_first, or_end}
use Rattle.rs_text.proofs.Numbers.{place_below}
use Rattle.rs_bodies.specs.Data.{Point_data, Spelling_data}
use Rattle.rs_bodies.specs.Dialects.{BehindRole, sends_to, with_mark, most}
use Rattle.rs_bodies.specs.Fits.{is_guarded, has_room_for, head_fits, body_fits, arms_fit}
use Rattle.rs_bodies.specs.Graph.{acts_in, acts_in_arms, has_end, has_end_arms, Numbering, first_of, arm_spelt, arms_of}
use Rattle.rs_bodies.specs.Leads.{KnowsRoles, LeadsInside, PointLeads, ends_in, places_in}
use Rattle.rs_bodies.specs.Openings.{roles_in}
use Rattle.rs_bodies.specs.Points.{head_of, point_of, points_of}
use Rattle.rs_bodies.proofs.ArmPoints.{points_of_arms}
use Rattle.rs_bodies.proofs.Heads.{heads_length}
use Rattle.rs_bodies.specs.Scenes.{Scene, with_label, in_act, in_braces, in_rec, behind, first_scene}
use Rattle.rs_bodies.specs.Spells.{Fits, Tree, names_of, numbering}
use Rattle.rs_bodies.specs.Spellings.{Spells, spelling_of}
use Rattle.rs_bodies.specs.Trees.{Body, ends, again, binds, acts, offers, Branches, one, more}
use Rattle.rs_bodies.specs.declared.dialects.Dialect.{Dialect}
use Rattle.rs_bodies.specs.declared.dialects.Dialect.TheVariants.{Talks, Acts}

-- each arm leads to one of so many places
abbrev LeadOn : ℕ → List Arm → Type 0
LeadOn places arms = (i : ℕ) (a : Arm) → slice_get arms i ≡ Some a → a.next < places

none_leads : (places : ℕ) → LeadOn places []
none_leads places i a e = absurd (cc e)

arm_leads : (places : ℕ) (x : Arm) (arms : List Arm) → x.next < places → LeadOn places arms → LeadOn places (x ∷ arms)
arm_leads places x arms h k zero a e = let same : x ≡ a = cc in subst (λ (z : Arm). z.next < places) same h
arm_leads places x arms h k (suc i) a e = k i a e

-- all points lead on
abbrev AllLead : (roles places : ℕ) → List Point_data → Type 0
AllLead roles places [] = Unit {0}
AllLead roles places (p ∷ points) = PointLeads roles places p × AllLead roles places points

all_append : (xs ys : List Point_data) (roles places : ℕ) → AllLead roles places xs → AllLead roles places ys → AllLead roles places (xs ++ ys)
all_append [] ys roles places h k = k
all_append (x ∷ xs) ys roles places h k = (h.0, all_append xs ys roles places h.1 k)

all_at : (points : List Point_data) (roles places n : ℕ) (p : Point_data) → AllLead roles places points → slice_get points n ≡ Some p → PointLeads roles places p
all_at [] roles places n p h e = absurd (cc e)
all_at (x ∷ points) roles places zero p h e = let same : x ≡ p = cc in subst (λ (z : Point_data). PointLeads roles places z) same h.0
all_at (x ∷ points) roles places (suc n) p h e = all_at points roles places n p h.1 e

-- a name that is there has a place below the count of names
pub known_by : (found : Option ℕ) (name : List ℕ) (names : List (List ℕ)) → place_of name names ≡ found → is_among name names ≡ true → number_or found < length names
known_by None name names e h = absurd (cc (sym h ∙ not_among names name 0 e))
known_by (Some k) name names e h = place_below names name k e

known_in : (name : List ℕ) (names roles : List (List ℕ)) → roles ≡ names → is_among name roles ≡ true → number_or (place_of name names) < length names
known_in name names roles r h = known_by (place_of name names) name names refl (ap (λ z. is_among name z) (sym r) ∙ h)

head_known : (d : Dialect) (m : Numbering) (p : List ℕ) (t : BehindRole d) (s : Scene) → s.roles ≡ m.names.roles → head_fits d p t s ≡ true → KnowsRoles (length m.names.roles) (head_of d m p t)
head_known Talks m p (sends_to r) s e h =
    let f = both (is_among p s.roles && nat_lt s.acts (most Talks)) (is_among r s.roles) h in
    let g = both (is_among p s.roles) (nat_lt s.acts (most Talks)) f.0 in
    (known_in p m.names.roles s.roles e g.0, known_in r m.names.roles s.roles e f.1)
head_known Acts m p (with_mark y) s e h =
    let g = both (is_among p s.roles) (nat_lt s.acts (most Acts)) h in
    known_in p m.names.roles s.roles e g.0

-- ---- where a body begins

guard_below : (found : Option ℕ) (count : ℕ) → is_guarded found count ≡ true → number_or found < count
guard_below None count h = absurd (cc h)
guard_below (Some k) count h = ltb-true k count h

first_leads : (d : Dialect) (b : Body d) (s : Scene) (last places : ℕ) → body_fits d b s ≡ true → (has_end d b ≡ true → last < places) → s.acts + acts_in d b ≤ last → last ≤ places
    → first_of d b s.bound s.acts last < places
first_leads d ends s last places fits h n k = h refl
first_leads d (again name) s last places fits h n k = let g : number_or (nearest_binding name s.bound) < s.acts = guard_below (nearest_binding name s.bound) s.acts fits in omega arith
first_leads d (binds name body) s last places fits h n k = first_leads d body (in_rec name s) last places (both _ (body_fits d body (in_rec name s)) fits).1 h n k
first_leads d (acts p t l sort body) s last places fits h n k = omega arith
first_leads d (offers p t arms) s last places fits h n k = omega arith

arms_lead : (d : Dialect) (m : Numbering) (arms : Branches d) (s : Scene) (places : ℕ) → arms_fit d arms s ≡ true → (has_end_arms d arms ≡ true → m.last < places)
    → s.acts + acts_in_arms d arms ≤ m.last → m.last ≤ places → LeadOn places (arms_of d m arms s.bound s.acts)
arms_lead d m (one l sort body) s places fits h n k =
    arm_leads places (arm_spelt m l sort (first_of d body s.bound s.acts m.last)) []
    (first_leads d body (with_label l s) m.last places (both (has_room_for l s) (body_fits d body (with_label l s)) fits).1 h n k) (none_leads places)
arms_lead d m (more l sort body arms) s places fits h n k =
    let f = both (has_room_for l s && body_fits d body (with_label l s)) (arms_fit d arms (behind d body (with_label l s))) fits in
    let g = both (has_room_for l s) (body_fits d body (with_label l s)) f.0 in
    arm_leads places (arm_spelt m l sort (first_of d body s.bound s.acts m.last)) (arms_of d m arms s.bound (s.acts + acts_in d body))
    (first_leads d body (with_label l s) m.last places g.1 (λ e. h (or_first (has_end d body) (has_end_arms d arms) e)) (omega arith) k)
    (arms_lead d m arms (behind d body (with_label l s)) places f.1 (λ e. h (or_end (has_end d body) (has_end_arms d arms) e)) (omega arith) k)

some_arms : (d : Dialect) (m : Numbering) (arms : Branches d) (bound : BoundNames) (count : ℕ) → arms_of d m arms bound count ≢ []
some_arms d m (one l sort body) bound count e = absurd (cc e)
some_arms d m (more l sort body arms) bound count e = absurd (cc e)

one_arm : (x : Arm) → (x ∷ []) ≢ []
one_arm x e = absurd (cc e)

-- ---- all heads of a body

mutual
  points_lead : (d : Dialect) (b : Body d) (m : Numbering) (s : Scene) (places : ℕ) → s.roles ≡ m.names.roles → body_fits d b s ≡ true → (has_end d b ≡ true → m.last < places)
      → s.acts + acts_in d b ≤ m.last → m.last ≤ places → AllLead (length m.names.roles) places (points_of d m b s.bound s.acts)
  points_lead d ends m s places r fits h n k = tt
  points_lead d (again name) m s places r fits h n k = tt
  points_lead d (binds name body) m s places r fits h n k = points_lead d body m (in_rec name s) places r (both _ (body_fits d body (in_rec name s)) fits).1 h n k
  points_lead d (acts p t l sort body) m s places r fits h n k =
      let f = both (head_fits d p t s && has_room_for l s) (body_fits d body (with_label l (in_act s))) fits in
      let g = both (head_fits d p t s) (has_room_for l s) f.0 in
      let arm : Arm = arm_spelt m l sort (first_of d body s.bound (suc s.acts) m.last) in (
        record {
          known = head_known d m p t s r g.0;
          some = one_arm arm;
          nexts = arm_leads places arm [] (first_leads d body (with_label l (in_act s)) m.last places f.1 h (omega arith) k) (none_leads places);
        },
        points_lead d body m (with_label l (in_act s)) places r f.1 h (omega arith) k,
      )
  points_lead d (offers p t arms) m s places r fits h n k =
      let f = both _ (arms_fit d arms (in_braces s)) fits in
      let g = both (head_fits d p t s) _ f.0 in (
        record {
          known = head_known d m p t s r g.0;
          some = some_arms d m arms s.bound (suc s.acts);
          nexts = arms_lead d m arms (in_braces s) places f.1 h (omega arith) k;
        },
        arm_points_lead d arms m (in_braces s) places r f.1 h (omega arith) k,
      )

  arm_points_lead : (d : Dialect) (arms : Branches d) (m : Numbering) (s : Scene) (places : ℕ) → s.roles ≡ m.names.roles → arms_fit d arms s ≡ true → (has_end_arms d arms ≡ true → m.last < places)
      → s.acts + acts_in_arms d arms ≤ m.last → m.last ≤ places → AllLead (length m.names.roles) places (points_of_arms d m arms s.bound s.acts)
  arm_points_lead d (one l sort body) m s places r fits h n k = points_lead d body m (with_label l s) places r (both (has_room_for l s) (body_fits d body (with_label l s)) fits).1 h n k
  arm_points_lead d (more l sort body arms) m s places r fits h n k =
      let f = both (has_room_for l s && body_fits d body (with_label l s)) (arms_fit d arms (behind d body (with_label l s))) fits in
      let g = both (has_room_for l s) (body_fits d body (with_label l s)) f.0 in
      all_append (points_of d m body s.bound s.acts) (points_of_arms d m arms s.bound (s.acts + acts_in d body)) (length m.names.roles) places
      (points_lead d body m (with_label l s) places r g.1 (λ e. h (or_first (has_end d body) (has_end_arms d arms) e)) (omega arith) k)
      (arm_points_lead d arms m (behind d body (with_label l s)) places r f.1 (λ e. h (or_end (has_end d body) (has_end_arms d arms) e)) (omega arith) k)

-- ---- whole parts

one_more : (c : Bool) (last : ℕ) → c ≡ true → last < last + ends_in c
one_more true last h = omega arith
one_more false last h = absurd (cc h)

tree_leads : (d : Dialect) (old : Names_data) (t : Tree d) → Fits d old t → LeadsInside (length (names_of d old t).roles) (spelling_of d old t)
tree_leads d old t fits =
    let m : Numbering = numbering d old t in
    let roles : List (List ℕ) = roles_in d old t.opening in
    let start : Scene = first_scene roles old.labels in
    let places : ℕ = places_in (spelling_of d old t) in
    let size : places ≡ acts_in d t.body + ends_in (has_end d t.body) = ap (λ z. z + ends_in (has_end d t.body)) (heads_length d (point_of d m) m t.body [] 0) in
    let more : has_end d t.body ≡ true → acts_in d t.body < places = λ e. subst (λ (z : ℕ). acts_in d t.body < z) (sym size) (one_more (has_end d t.body) (acts_in d t.body) e) in
    let within : acts_in d t.body ≤ places = omega arith in
    let all : AllLead (length roles) places (points_of d m t.body [] 0) = points_lead d t.body m start places refl fits.body more (omega arith) within in
    record {
      start = first_leads d t.body start (acts_in d t.body) places fits.body more (omega arith) within;
      points = λ n p e. all_at (points_of d m t.body [] 0) (length roles) places n p all e;
    }

pub leads_inside : (d : Dialect) (bytes : List ℕ) (at : ℕ) (old new : Names_data) (spelling : Spelling_data) (until : ℕ) → Spells d bytes at old new spelling until
    → LeadsInside (length new.roles) spelling
leads_inside d bytes at old new spelling until s =
    subst (λ (z : Names_data). LeadsInside (length z.roles) spelling) (sym s.names_are)
    (subst (λ (z : Spelling_data). LeadsInside (length (names_of d old s.tree).roles) z) (sym s.meaning_is) (tree_leads d old s.tree s.fits))
