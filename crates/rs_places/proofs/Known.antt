-- The words of the heads of a body that fits are names of roles.
use Rattle.std.proofs.Common.{◌≡◌, ℕ, suc, ◌+◌, List, ◌∷◌, Bool, true, false, ◌&&◌, nat_lt, Some, slice_get, refl, subst}
use Rattle.std.specs.List.{All}
use Rattle.std.proofs.lemmas.List.Elements.{All-nil, All-cons, All-append, All-get_or}
use Rattle.std.proofs.lemmas.Option.{get_or_from_slice_get, slice_get_within}
use Rattle.rs_model.specs.declared.graph.Arm.{Arm}
use Rattle.rs_model.specs.declared.limits.TheConstants.{MOST_ACTS, MOST_TALKS, MOST_NESTING}
use Rattle.rs_text.specs.Names.{BoundNames, is_among}
use Rattle.rs_bodies.specs.declared.dialects.Dialect.{Dialect}
use Rattle.rs_bodies.specs.declared.dialects.Dialect.TheVariants.{Talks, Acts}
use Rattle.rs_bodies.specs.Dialects.{BehindRole, sends_to, with_mark}
use Rattle.rs_bodies.specs.Fits.{head_fits, body_fits, arms_fit, has_room_for}
use Rattle.rs_bodies.specs.Graph.{acts_in, heads_of, heads_in, Numbering}
use Rattle.rs_bodies.specs.Scenes.{Scene, with_label, in_act, in_braces, in_rec, behind}
use Rattle.rs_bodies.specs.Trees.{Body, ends, again, binds, acts, offers, Branches, one, more}

-- the words of a head, with its arms
pub record HeadWords (d : Dialect) : Type 0 where
  pub first : List ℕ
  pub turn : BehindRole d
  pub arms : List Arm

-- those of this head
abbrev pub words_made : (d : Dialect) → List ℕ → BehindRole d → List Arm → HeadWords d
words_made d p t arms = record { first = p; turn = t; arms = arms }

-- they are names of these roles
abbrev pub AreRoles : (d : Dialect) → List (List ℕ) → List ℕ → BehindRole d → Type 0
AreRoles Talks roles p (sends_to r) = (is_among p roles ≡ true) × (is_among r roles ≡ true)
AreRoles Acts roles p (with_mark m) = is_among p roles ≡ true

-- so are those of this head
abbrev pub HasRoles : (d : Dialect) → List (List ℕ) → HeadWords d → Type 0
HasRoles d roles h = AreRoles d roles h.first h.turn

both : (a b : Bool) → (a && b) ≡ true → (a ≡ true) × (b ≡ true)
both true b h = (refl, h)
both false b h = absurd (cc h)

all_three : (a b c : Bool) → (a && b && c) ≡ true → (a ≡ true) × (b ≡ true) × (c ≡ true)
all_three true true c h = (refl, refl, h)
all_three true false c h = absurd (cc h)
all_three false b c h = absurd (cc h)

head_roles : (d : Dialect) (p : List ℕ) (t : BehindRole d) (s : Scene) → head_fits d p t s ≡ true → AreRoles d s.roles p t
head_roles Talks p (sends_to r) s h = let a = all_three (is_among p s.roles) (nat_lt s.acts MOST_TALKS) (is_among r s.roles) h in (a.0, a.2)
head_roles Acts p (with_mark m) s h = (both (is_among p s.roles) (nat_lt s.acts MOST_ACTS) h).0

mutual
  pub body_roles : (d : Dialect) (b : Body d) (s : Scene) (n : Numbering) (bound : BoundNames) (k : ℕ) → body_fits d b s ≡ true → All (HasRoles d s.roles) (heads_of d (words_made d) n b bound k)
  body_roles d ends s n bound k h = All-nil (HasRoles d s.roles)
  body_roles d (again name) s n bound k h = All-nil (HasRoles d s.roles)
  body_roles d (binds name b) s n bound k h = body_roles d b (in_rec name s) n ((name, k) ∷ bound) k (both (nat_lt s.depth MOST_NESTING) (body_fits d b (in_rec name s)) h).1
  body_roles d (acts p t l sort b) s n bound k h =
      let a = all_three (head_fits d p t s) (has_room_for l s) (body_fits d b (with_label l (in_act s))) h in
      All-cons (HasRoles d s.roles) _ (heads_of d (words_made d) n b bound (suc k)) (head_roles d p t s a.0) (body_roles d b (with_label l (in_act s)) n bound (suc k) a.2)
  body_roles d (offers p t arms) s n bound k h =
      let a = all_three (head_fits d p t s) (nat_lt s.depth MOST_NESTING) (arms_fit d arms (in_braces s)) h in
      All-cons (HasRoles d s.roles) _ (heads_in d (words_made d) n arms bound (suc k)) (head_roles d p t s a.0) (arms_roles d arms (in_braces s) n bound (suc k) a.2)

  arms_roles : (d : Dialect) (arms : Branches d) (s : Scene) (n : Numbering) (bound : BoundNames) (k : ℕ) → arms_fit d arms s ≡ true → All (HasRoles d s.roles) (heads_in d (words_made d) n arms bound k)
  arms_roles d (one l sort b) s n bound k h = body_roles d b (with_label l s) n bound k (both (has_room_for l s) (body_fits d b (with_label l s)) h).1
  arms_roles d (more l sort b arms) s n bound k h =
      let a = all_three (has_room_for l s) (body_fits d b (with_label l s)) (arms_fit d arms (behind d b (with_label l s))) h in
      All-append (HasRoles d s.roles) (heads_of d (words_made d) n b bound k) (heads_in d (words_made d) n arms bound (k + acts_in d b)) (body_roles d b (with_label l s) n bound k a.1)
      (arms_roles d arms (behind d b (with_label l s)) n bound (k + acts_in d b) a.2)

-- what is known of all is known of each
pub all_at : {A : Type 0} (P : A → Type 0) (xs : List A) (k : ℕ) (x : A) → All P xs → slice_get xs k ≡ Some x → P x
all_at P xs k x h e = subst P (get_or_from_slice_get xs k x x e) (All-get_or P xs k x (slice_get_within xs k x e) h)
