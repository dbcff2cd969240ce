-- A protocol that a text spells has arms at each talk, knows its roles, and leads to its own nodes.
use Rattle.std.proofs.Common.{◌≡◌, ℕ, zero, suc, ◌+◌, ◌<◌, ◌≤◌, List, [], ◌∷◌, ◌++◌, length, map, Bool, true, false, Some, slice_get, inl, inr, refl, ap, ◌∙◌, subst, arith, length-append}
use Rattle.std.proofs.lemmas.List.{length-map}
use Rattle.rs_model.specs.Data.{Names_data, Protocol_data}
use Rattle.rs_model.specs.declared.graph.Arm.{Arm}
use Rattle.rs_model.specs.declared.graph.Node.TheVariants as node
use Rattle.rs_model.specs.declared.graph.Role.{Role}
use Rattle.rs_bodies.specs.Data.{Point_data, Spelling_data}
use Rattle.rs_bodies.specs.Leads.{KnowsRoles, LeadsInside, PointLeads, ends_in, places_in}
use Rattle.rs_bodies.specs.declared.dialects.Dialect.TheVariants.{Talks}
use Rattle.rs_bodies.specs.declared.dialects.Head.{Head}
use Rattle.rs_bodies.specs.declared.dialects.Head.TheVariants as head
use Rattle.rs_bodies.specs.Spellings.{spelling_of}
use Rattle.rs_bodies.proofs.GraphLaws.{part_made, part_spelt}
use Rattle.rs_bodies.proofs.Leading.{leads_inside}
use Rattle.rs_global.specs.Graph.{no_names, finish_of}
use Rattle.rs_global.specs.Parts.{graph_spelt, node_of_point, node_of_head}
use Rattle.rs_global.specs.Kinds.{protocols}
use Rattle.rs_global.specs.Spells.{SpellsProtocol}
use Rattle.rs_global.proofs.Places.{is_kind}
use Rattle.rs_wellformed.specs.Faults as wellformed
use Rattle.rs_wellformed.specs.declared.checks.WfFault.{WfFault}
use Rattle.rs_wellformed.specs.declared.checks.WfFault.TheVariants as wf
use Rattle.rs_wellformed.proofs.Faults.{blamed}
use Rattle.rs_answers.specs.SpeltFaults.{IsFaultOfSpeltProtocol}

-- the point of a talk among the nodes that points stand for
pub record IsPointOf (points : List Point_data) (n : ℕ) (sender receiver : Role) (arms : List Arm) : Type 0 where
  pub point : Point_data
  pub stands : slice_get points n ≡ Some point
  pub heads : point.head ≡ head.Talk sender receiver
  pub offers : point.arms ≡ arms

head_is : (h : Head) (xs arms : List Arm) (s r : Role) → node_of_head h xs ≡ node.Talk s r arms → (h ≡ head.Talk s r) × (xs ≡ arms)
head_is (head.Talk a b) xs arms s r e = (cc e, cc e)
head_is (head.Act p m) xs arms s r e = absurd (cc e)

point_of : (points : List Point_data) (ended : Bool) (n : ℕ) (s r : Role) (arms : List Arm) → slice_get (map node_of_point points ++ finish_of ended) n ≡ Some (node.Talk s r arms)
    → IsPointOf points n s r arms
point_of [] true zero s r arms e = absurd (cc e)
point_of [] true (suc n) s r arms e = absurd (cc e)
point_of [] false n s r arms e = absurd (cc e)
point_of (p ∷ points) ended zero s r arms e =
    let same : node_of_head p.head p.arms ≡ node.Talk s r arms = cc e in
    let parts = head_is p.head p.arms arms s r same in
    record { point = p; stands = refl; heads = parts.0; offers = parts.1 }
point_of (p ∷ points) ended (suc n) s r arms e =
    let k = point_of points ended n s r arms e in
    record { point = k.point; stands = k.stands; heads = k.heads; offers = k.offers }

ends_are : (ended : Bool) → length (finish_of ended) ≡ ends_in ended
ends_are true = refl
ends_are false = refl

-- the nodes are as many as the places
nodes_are : (roles : ℕ) (s : Spelling_data) → length (graph_spelt roles s).nodes ≡ places_in s
nodes_are roles s =
    length-append (map node_of_point s.points) (finish_of s.ended)
    ∙ ap (λ z. z + length (finish_of s.ended)) (length-map s.points node_of_point)
    ∙ ap (λ z. length s.points + z) (ends_are s.ended)

known_of : (h : Head) (a b : Role) (roles : ℕ) → h ≡ head.Talk a b → KnowsRoles roles h → (a.0 < roles) × (b.0 < roles)
known_of h a b roles e k = subst (λ (z : Head). KnowsRoles roles z) e k

-- what leads inside has no such fault
of_graph : (roles : ℕ) (s : Spelling_data) (f : WfFault) → LeadsInside roles s → wellformed.Blames (graph_spelt roles s) f → IsFaultOfSpeltProtocol f
of_graph roles s (wf.SelfTalk n) g b = tt
of_graph roles s (wf.TooManyArms n) g b = tt
of_graph roles s (wf.TwiceLabel n label) g b = tt
of_graph roles s (wf.NoArms n) g b =
    let k = point_of s.points s.ended n b.0 b.1 [] b.2 in
    (g.points n k.point k.stands).some k.offers
of_graph roles s (wf.BadNext n) g b = elim b [
  | inl x ↦ (let start : s.start < places_in s = g.start in let all : length (graph_spelt roles s).nodes ≡ places_in s = nodes_are roles s in let out : length
      (graph_spelt roles s).nodes ≤ s.start = x.1 in absurd (omega arith))
  | inr x ↦ (
      let k = point_of s.points s.ended n x.0 x.1 x.2 x.3 in
      let leads : PointLeads roles (places_in s) k.point = g.points n k.point k.stands in
      let known : (x.0.0 < roles) × (x.1.0 < roles) = known_of k.point.head x.0 x.1 roles k.heads leads.known in
      elim x.4 [
        | inl out ↦ (
            let inside : out.arm.next < places_in s = leads.nexts out.place out.arm (ap (λ z. slice_get z out.place) k.offers ∙ out.stands) in
            let all : length (graph_spelt roles s).nodes ≡ places_in s = nodes_are roles s in
            let outside : length (graph_spelt roles s).nodes ≤ out.arm.next = out.out in
            absurd (omega arith))
        | inr unknown ↦ elim unknown [
          | inl h ↦ (let lower : x.0.0 < roles = known.0 in let upper : roles ≤ x.0.0 = h in absurd (omega arith))
          | inr h ↦ (let lower : x.1.0 < roles = known.1 in let upper : roles ≤ x.1.0 = h in absurd (omega arith))
        ]
      ])
]

pub faults_of_spelt : (bytes : List ℕ) (at : ℕ) (names : Names_data) (protocol : Protocol_data) (until : ℕ) (fault : WfFault) → SpellsProtocol bytes at names protocol until
    → wellformed.first_fault protocol ≡ Some fault → IsFaultOfSpeltProtocol fault
faults_of_spelt bytes at names protocol until fault s e =
    let spelling : Spelling_data = spelling_of Talks no_names s.tree in
    let inside : LeadsInside (length names.roles) spelling = leads_inside Talks bytes at no_names names spelling until (part_spelt protocols bytes at no_names names protocol until s) in
    let is : protocol ≡ graph_spelt (length names.roles) spelling = part_made protocols is_kind.made bytes at no_names names protocol until s in
    of_graph (length names.roles) spelling fault inside (subst (λ (z : Protocol_data). wellformed.Blames z fault) is (blamed protocol fault e))
