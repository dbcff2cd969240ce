-- Headline: the names and limits of a body.
use Rattle.std.specs.Prelude.{ℕ, List, length, true, false, Bool, ◌&&◌, ◌||◌, nat_lt, Option, Some, None}
use Rattle.rs_model.specs.declared.limits.TheConstants.{MOST_ACTS, MOST_LABELS, MOST_NESTING, MOST_TALKS}
use Rattle.rs_text.specs.Names.{nearest_binding, is_among}
use Rattle.rs_bodies.specs.declared.dialects.Dialect.{Dialect}
use Rattle.rs_bodies.specs.declared.dialects.Dialect.TheVariants.{Talks, Acts}
use Rattle.rs_bodies.specs.Dialects.{BehindRole, sends_to, with_mark}
use Rattle.rs_bodies.specs.Scenes.{Scene, with_label, in_act, in_braces, in_rec, behind}
use Rattle.rs_bodies.specs.Trees.{Body, ends, again, binds, acts, offers, Branches, one, more}

-- a recursion name is bound, and a head stands between its rec and itself
abbrev pub is_guarded : Option ℕ → ℕ → Bool
is_guarded None count = false
is_guarded (Some k) count = nat_lt k count

-- the label is known, or there are fewer than the limit
abbrev pub has_room_for : List ℕ → Scene → Bool
has_room_for label s = is_among label s.labels || nat_lt (length s.labels) MOST_LABELS

-- the roles of a head are known, and there is room for it
abbrev pub head_fits : (d : Dialect) → List ℕ → BehindRole d → Scene → Bool
head_fits Talks p (sends_to r) s = is_among p s.roles && nat_lt s.acts MOST_TALKS && is_among r s.roles
head_fits Acts p (with_mark m) s = is_among p s.roles && nat_lt s.acts MOST_ACTS

-- each role is known, each recursion name bound and guarded, and each rec, brace, head and label within its limit
abbrev mutual
  pub body_fits : (d : Dialect) → Body d → Scene → Bool
  body_fits d ends s = true
  body_fits d (again name) s = is_guarded (nearest_binding name s.bound) s.acts
  body_fits d (binds name body) s = nat_lt s.depth MOST_NESTING && body_fits d body (in_rec name s)
  body_fits d (acts p t l sort body) s = head_fits d p t s && has_room_for l s && body_fits d body (with_label l (in_act s))
  body_fits d (offers p t arms) s = head_fits d p t s && nat_lt s.depth MOST_NESTING && arms_fit d arms (in_braces s)

  pub arms_fit : (d : Dialect) → Branches d → Scene → Bool
  arms_fit d (one l sort body) s = has_room_for l s && body_fits d body (with_label l s)
  arms_fit d (more l sort body arms) s = has_room_for l s && body_fits d body (with_label l s) && arms_fit d arms (behind d body (with_label l s))
