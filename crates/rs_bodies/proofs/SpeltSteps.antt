-- What the tokens of a body lead the reader to: where the body fits to this state and no other, else to a fault.
use Rattle.std.proofs.Common.{◌≡◌, ℕ, suc, ◌+◌, List, [], ◌∷◌, ◌++◌, length, Option, Some, None, refl, sym, ap, ◌∙◌, subst, arith, length-append, slice_get}
use Rattle.std.proofs.lemmas.Option.{slice_get_read}
use Rattle.std.proofs.Math.Seq.{get_or-append_seam, set-append_seam}
use Rattle.rs_model.specs.declared.graph.Label.{Label}
use Rattle.rs_model.specs.declared.values.Sort.{Sort}
use Rattle.rs_bodies.specs.declared.dialects.Dialect.{Dialect}
use Rattle.rs_bodies.specs.declared.dialects.Head.{Head}
use Rattle.rs_bodies.specs.declared.reading.Link.TheVariants as link
use Rattle.rs_bodies.specs.declared.reading.Mode.TheVariants as mode
use Rattle.rs_bodies.specs.declared.drafts.DraftArm.{DraftArm}
use Rattle.rs_text.specs.Names.{place_of, names_with, BoundNames, nearest_binding, number_or}
use Rattle.rs_text.specs.Signs.{Sign, dot, open_paren, close_paren}
use Rattle.rs_text.proofs.Naming.{grown_stays}
use Rattle.rs_text.specs.Arms.{sort_signs, arm_signs, sort_or_unit}
use Rattle.rs_bodies.specs.Data.{Reader_data, Draft_data}
use Rattle.rs_bodies.specs.Drafts.{with_arm}
use Rattle.rs_bodies.specs.Trees.{Body, ends, again, binds, acts, offers, Branches, one, more}
use Rattle.rs_bodies.specs.Graph.{acts_in, Numbering, label_by_name}
use Rattle.rs_bodies.specs.Points.{head_of}
use Rattle.rs_bodies.specs.Fits.{has_room_for}
use Rattle.rs_bodies.specs.Feeding.{feeding}
use Rattle.rs_text.proofs.Leading.{Hangs, Exact}
use Rattle.rs_text.specs.Messages.{label_of_number}
use Rattle.rs_text.specs.declared.messages.MessagePlace.TheVariants as place
use Rattle.rs_bodies.proofs.FaultRuns.{label_leads, dot_leads}
use Rattle.rs_bodies.proofs.FaultPlaces.{scene_of}

-- ---- acts that are still read, by the tree

abbrev pub target : (dia : Dialect) → Body dia → BoundNames → ℕ → Option ℕ
target dia ends bound count = None
target dia (again x) bound count = Some (number_or (nearest_binding x bound))
target dia (binds x body) bound count = target dia body ((x, count) ∷ bound) count
target dia (acts x y l s body) bound count = Some count
target dia (offers x y arms) bound count = Some count

abbrev pub arm_to : Numbering → List ℕ → Option Sort → Option ℕ → DraftArm
arm_to n l s to = record { label = label_by_name n l; sort = sort_or_unit s; next = to }

abbrev pub arms_to : (dia : Dialect) → Numbering → Branches dia → BoundNames → ℕ → List DraftArm
arms_to dia n (one l s body) bound count = arm_to n l s (target dia body bound count) ∷ []
arms_to dia n (more l s body arms) bound count = arm_to n l s (target dia body bound count) ∷ arms_to dia n arms bound (count + acts_in dia body)

abbrev pub draft : Head → List DraftArm → Draft_data
draft h arms = record { head = h; arms = arms }

abbrev mutual
  pub drafts_of : (dia : Dialect) → Numbering → Body dia → BoundNames → ℕ → List Draft_data
  drafts_of dia n ends bound count = []
  drafts_of dia n (again x) bound count = []
  drafts_of dia n (binds x body) bound count = drafts_of dia n body ((x, count) ∷ bound) count
  drafts_of dia n (acts x y l s body) bound count = draft (head_of dia n x y) (arm_to n l s (target dia body bound (suc count)) ∷ []) ∷ drafts_of dia n body bound (suc count)
  drafts_of dia n (offers x y arms) bound count = draft (head_of dia n x y) (arms_to dia n arms bound (suc count)) ∷ drafts_in dia n arms bound (suc count)

  pub drafts_in : (dia : Dialect) → Numbering → Branches dia → BoundNames → ℕ → List Draft_data
  drafts_in dia n (one l s body) bound count = drafts_of dia n body bound count
  drafts_in dia n (more l s body arms) bound count = drafts_of dia n body bound count ++ drafts_in dia n arms bound (count + acts_in dia body)

abbrev pub with_all : Draft_data → List DraftArm → Draft_data
with_all d arms = draft d.head (d.arms ++ arms)

get_seam : (xs : List Draft_data) (d : Draft_data) (ys : List Draft_data) → slice_get (xs ++ d ∷ ys) (length xs) ≡ Some d
get_seam xs d ys =
    slice_get_read (xs ++ d ∷ ys) (length (xs ++ d ∷ ys)) (length xs) d refl (let e : length (xs ++ d ∷ ys) ≡ length xs + length (d ∷ ys) = length-append xs (d ∷ ys) in omega arith)
    (sym (get_or-append_seam xs d ys d))

mid_seam : (xs : List Draft_data) (d : Draft_data) (ys : List Draft_data) (arm : DraftArm)
    → with_arm arm (slice_get (xs ++ d ∷ ys) (length xs)) (xs ++ d ∷ ys) (length xs) ≡ xs ++ with_all d (arm ∷ []) ∷ ys
mid_seam xs d ys arm = ap (λ z. with_arm arm z (xs ++ d ∷ ys) (length xs)) (get_seam xs d ys) ∙ set-append_seam xs d ys (with_all d (arm ∷ []))

pub mid_arm : (xs : List Draft_data) (d : Draft_data) (ys : List Draft_data) (arm : DraftArm) (k : ℕ) → length xs ≡ k
    → with_arm arm (slice_get (xs ++ d ∷ ys) k) (xs ++ d ∷ ys) k ≡ xs ++ with_all d (arm ∷ []) ∷ ys
mid_arm xs d ys arm k e = subst (λ (z : ℕ). with_arm arm (slice_get (xs ++ d ∷ ys) z) (xs ++ d ∷ ys) z ≡ xs ++ with_all d (arm ∷ []) ∷ ys) e (mid_seam xs d ys arm)

-- ---- arms

-- names that have a place have the same place among these
abbrev pub Stays : List (List ℕ) → List (List ℕ) → Type 0
Stays names all = (name : List ℕ) (k : ℕ) → place_of name names ≡ Some k → place_of name all ≡ Some k

pub stays_before : (names more all : List (List ℕ)) → Stays (names_with names more) all → Stays names all
stays_before names later all h = λ name k e. h name k (grown_stays later names name k e)

abbrev pub numbered : List (List ℕ) → List (List ℕ) → ℕ → Numbering
numbered roles labels last = record { names = record { roles = roles; labels = labels }; last = last }

label_is : (roles all : List (List ℕ)) (last : ℕ) (l : List ℕ) (k : ℕ) → place_of l all ≡ Some k → label_by_name (numbered roles all last) l ≡ label_of_number k
label_is roles all last l k e = ap (λ z. label_of_number (number_or z)) e

abbrev pub at_arm : Reader_data → List ℕ → Numbering → ℕ → Option Sort → Reader_data
at_arm r l n act s = record r { labels = names_with r.labels (l ∷ []); mode = mode.Body (link.OfArm act (label_by_name n l) (sort_or_unit s)) }

pub arm_exact : (dia : Dialect) (l : List ℕ) (s : Option Sort) (act : ℕ) (r : Reader_data) (roles all : List (List ℕ)) (last : ℕ) (ts : List Sign) (u : Sign) (N : Type 0) (Q : Reader_data → Type 0)
    → Stays (names_with r.labels (l ∷ [])) all
    → Hangs (has_room_for l (scene_of r)) N (Exact (feeding dia) ts u N Q (at_arm r l (numbered roles all last) act s))
    → Exact (feeding dia) (arm_signs l s ++ ts) u N Q (record r { mode = mode.InMessage act place.Label })
arm_exact dia l s act r roles all last ts u N Q stays h =
    λ a f n. label_leads dia (λ k. N) l act a _ r (λ d. Exact (feeding dia) (open_paren ∷ ((sort_signs s ++ close_paren ∷ dot ∷ []) ++ ts)) u N Q d) h.0
    (λ room k e. dot_leads dia (λ k. N) s act (label_of_number k) (record r { labels = names_with r.labels (l ∷ []) }) ts u Q
    (subst (λ (z : Label). Exact (feeding dia) ts u N Q (record r { labels = names_with r.labels (l ∷ []); mode = mode.Body (link.OfArm act z (sort_or_unit s)) }))
    (label_is roles all last l k (stays l k e)) (h.1 room)))
