-- Steps: the walk over the places of a graph in order of text, which tells whether some body spells them.
use Rattle.std.specs.Prelude.{◌≡◌, ◌<◌, ◌≤◌, ◌+◌, ℕ, zero, suc, ◌-◌, get_or, set, List, [], ◌∷◌, length, drop, Option, Some, None, Bool, true, false, not, ◌==◌, ◌&&◌, if◌then◌else◌, nat_lt, nat_le}
use Rattle.std.specs.Prelude.{slice_get}
use Rattle.std.specs.List.{list_any}
use Rattle.rs_model.specs.declared.graph.Arm.{Arm}
use Rattle.rs_model.specs.declared.limits.TheConstants.{MOST_LABELS, MOST_NESTING, MOST_TALKS}
use Rattle.rs_bodies.specs.declared.dialects.Dialect.{Dialect}
use Rattle.rs_bodies.specs.declared.dialects.Dialect.TheVariants.{Talks, Acts}
use Rattle.rs_bodies.specs.declared.dialects.Head.{Head}
use Rattle.rs_bodies.specs.declared.dialects.Head.TheVariants as head
use Rattle.rs_bodies.specs.declared.places.Place.{Place}
use Rattle.rs_bodies.specs.declared.places.Place.TheVariants as place
use Rattle.rs_bodies.specs.declared.shapes.Trail.{Trail}
use Rattle.rs_bodies.specs.declared.shapes.HeadsMet.{HeadsMet}
use Rattle.rs_bodies.specs.Data.{Point_data}
use Rattle.rs_bodies.specs.Dialects.{most}

-- the arm leads to place k
abbrev pub leads_to : ℕ → Arm → Bool
leads_to k a = a.next == k

-- an arm of the place leads to place k
abbrev pub place_leads : ℕ → Place → Bool
place_leads k place.End = false
place_leads k (place.Point p) = list_any (leads_to k) p.arms

-- an arm of place `from` or of a later one leads to place k
abbrev pub leads_from : List Place → (from k : ℕ) → Bool
leads_from places from k = list_any (place_leads k) (drop from places)

-- the place is an end
abbrev pub is_end : Place → Bool
is_end place.End = true
is_end (place.Point p) = false

-- an end is there
abbrev pub is_end_at : Option Place → Bool
is_end_at None = false
is_end_at (Some x) = is_end x

-- whether the last place is an end
abbrev pub ends_last : List Place → Bool
ends_last places = is_end_at (slice_get places (length places - 1))

-- the number of the end, which is the count of heads
abbrev pub number_of_end : List Place → ℕ
number_of_end places = if ends_last places then length places - 1 else length places

-- a label that is known, or the next new one
abbrev pub walk_behind_label : ℕ → HeadsMet → Option HeadsMet
walk_behind_label l w = if nat_lt l w.labels then Some w else if l == w.labels && nat_lt l MOST_LABELS then Some (record w { labels = suc w.labels }) else None

-- an arm leads to the end
abbrev pub to_end : ℕ → ℕ → HeadsMet → Option HeadsMet
to_end last next w = if next == last then Some (record w { ended = true }) else None

-- an arm leads back to a head before `from`, to the next new head, or to the end
abbrev pub walk_behind_next : (visit : ℕ → HeadsMet → Option HeadsMet) → (last from next : ℕ) → HeadsMet → Option HeadsMet
walk_behind_next visit last from next w = if nat_lt next from then Some w else if next == w.count && nat_lt next last then visit next w else to_end last next w

-- the walk goes on where it hasn't failed
abbrev pub or_none : (HeadsMet → Option HeadsMet) → Option HeadsMet → Option HeadsMet
or_none f None = None
or_none f (Some w) = f w

-- the arms of a head, one after the other
abbrev pub walk_behind_arms : (visit : ℕ → HeadsMet → Option HeadsMet) → (last from : ℕ) → List Arm → HeadsMet → Option HeadsMet
walk_behind_arms visit last from [] w = Some w
walk_behind_arms visit last from (a ∷ arms) w = or_none (λ v. or_none (walk_behind_arms visit last from arms) (walk_behind_next visit last from a.next v)) (walk_behind_label a.label.0 w)

-- no later arm leads back to the head
abbrev pub walk_where_closed : List Place → ℕ → HeadsMet → Option HeadsMet
walk_where_closed places n w = if leads_from places w.count n then None else Some w

-- the nesting, one deeper where that is so
abbrev pub deeper : Bool → ℕ → ℕ
deeper true depth = suc depth
deeper false depth = depth

-- there are two arms or more
abbrev pub are_more : List Arm → Bool
are_more [] = false
are_more (a ∷ []) = false
are_more (a ∷ b ∷ arms) = true

-- there are no arms
abbrev pub is_none : List Arm → Bool
is_none [] = true
is_none (a ∷ arms) = false

-- the nesting within a head: a rec where it is gone back to, and braces round more than one arm
abbrev pub nesting_within : List Place → (depth n : ℕ) → List Arm → ℕ
nesting_within places depth n arms = deeper (are_more arms) (deeper (leads_from places n n) depth)

-- a head of the dialect, whose roles are below the count
abbrev pub is_known : Dialect → (roles : ℕ) → Head → Bool
is_known Talks roles (head.Talk s r) = nat_lt s.0 roles && nat_lt r.0 roles
is_known Talks roles (head.Act p m) = false
is_known Acts roles (head.Talk s r) = false
is_known Acts roles (head.Act p m) = nat_lt p.0 roles

-- the roles of a head are there, its nesting is within the limit, and it has arms
abbrev pub is_fit : Dialect → (roles nesting : ℕ) → Point_data → Bool
is_fit dia roles nesting p = is_known dia roles p.head && nat_le nesting MOST_NESTING && not (is_none p.arms)

-- one head more was met
abbrev pub one_head_more : HeadsMet → HeadsMet
one_head_more w = record w { count = suc w.count }

-- what is walked: places, and how many roles there are
pub record Outline : Type 0 where
  pub roles : ℕ
  pub places : List Place

-- a head that a text can have, and what stands behind its arms
abbrev pub walk_behind_place : (visit : ℕ → ℕ → HeadsMet → Option HeadsMet) → Dialect → Outline → (depth n : ℕ) → HeadsMet → Option Place → Option HeadsMet
walk_behind_place visit dia o depth n w None = None
walk_behind_place visit dia o depth n w (Some place.End) = None
walk_behind_place visit dia o depth n w (Some (place.Point p)) =
    if is_fit dia o.roles (nesting_within o.places depth n p.arms) p then or_none (walk_where_closed o.places n)
    (walk_behind_arms (visit (nesting_within o.places depth n p.arms)) (number_of_end o.places) (suc n) p.arms (one_head_more w)) else None

-- head n and what stands behind its arms
abbrev pub walk_behind_head : (fuel : ℕ) → Dialect → Outline → (depth n : ℕ) → HeadsMet → Option HeadsMet
walk_behind_head zero dia o depth n w = None
walk_behind_head (suc fuel) dia o depth n w = walk_behind_place (λ inner next v. walk_behind_head fuel dia o inner next v) dia o depth n w (slice_get o.places n)

-- both are true, or neither is
abbrev pub same_bool : Bool → Bool → Bool
same_bool true b = b
same_bool false b = not b

-- all heads were met, and an end where there is one
abbrev pub is_whole : List Place → Option HeadsMet → Bool
is_whole places None = false
is_whole places (Some w) = w.count == number_of_end places && same_bool w.ended (ends_last places)

-- nothing was met yet, and so many labels are known
abbrev pub start_of_walk : ℕ → HeadsMet
start_of_walk labels = record { count = 0; labels = labels; ended = false }

-- the walk from the place `start` on
abbrev pub walk_from : Dialect → Outline → (start labels : ℕ) → Option HeadsMet
walk_from dia o start labels = walk_behind_next (walk_behind_head (suc (number_of_end o.places)) dia o 0) (number_of_end o.places) 0 start (start_of_walk labels)

-- whether there are few heads, and the walk meets them all
abbrev pub is_walked : Dialect → Outline → (start labels : ℕ) → Bool
is_walked dia o start labels = nat_le (number_of_end o.places) (most dia) && is_whole o.places (walk_from dia o start labels)

-- one more than the number of the last place that leads to place k, or 0 where none does
abbrev pub reach_of : List ℕ → ℕ → ℕ
reach_of reaches k = get_or reaches k 0

-- the reaches of places, behind the arms of place n
abbrev pub reaches_behind_arms : (n : ℕ) → List Arm → List ℕ → List ℕ
reaches_behind_arms n [] reaches = reaches
reaches_behind_arms n (a ∷ arms) reaches = reaches_behind_arms n arms (set reaches a.next (suc n))

-- the reaches behind place n
abbrev pub reaches_behind_place : (n : ℕ) → Place → List ℕ → List ℕ
reaches_behind_place n place.End reaches = reaches
reaches_behind_place n (place.Point p) reaches = reaches_behind_arms n p.arms reaches

-- the reaches behind place n, where there is one
abbrev pub there_reached : (n : ℕ) → Option Place → List ℕ → List ℕ
there_reached n None reaches = reaches
there_reached n (Some x) reaches = reaches_behind_place n x reaches

-- the reaches behind these places, which are numbered from n on
abbrev pub reaches_behind_places : (n : ℕ) → List Place → List ℕ → List ℕ
reaches_behind_places n [] reaches = reaches
reaches_behind_places n (x ∷ places) reaches = reaches_behind_places (suc n) places (reaches_behind_place n x reaches)

-- an arm of place `from` or of a later one leads to place k where its reach is greater
abbrev pub AreReaches : List Place → List ℕ → Type 0
AreReaches places reaches = (from k : ℕ) → k < length reaches → leads_from places from k ≡ nat_lt from (reach_of reaches k)

-- what a walk goes by fits the places
pub record IsTrailOf (places : List Place) (trail : Trail) : Type 0 where
  pub bounded : length places ≤ MOST_TALKS + 1
  pub last : trail.last ≡ number_of_end places
  pub room : length trail.reaches ≡ MOST_TALKS + 1
  pub reaches : AreReaches places trail.reaches

-- the places, with the roles that a walk goes by
abbrev pub outline : List Place → Trail → Outline
outline places trail = record { roles = trail.roles; places = places }
