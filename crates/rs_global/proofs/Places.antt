-- A protocol by its places: protocols are a kind of graph, and what stands at a number.
use Rattle.std.proofs.Common.{◌≡◌, ℕ, List, [], ◌++◌, length, map, Bool, true, false, Some, option_map, refl, sym, ap, ◌∙◌, slice_get}
use Rattle.std.proofs.lemmas.Option.{slice_get-map}
use Rattle.rs_model.specs.Data.{Protocol_data}
use Rattle.rs_model.specs.declared.graph.Arm.{Arm}
use Rattle.rs_model.specs.declared.graph.Node.{Node}
use Rattle.rs_model.specs.declared.graph.Node.TheVariants.{Finished, Talk}
use Rattle.rs_model.specs.declared.graph.Role.{Role}
use Rattle.rs_text.proofs.Basics.{all_again, found_again}
use Rattle.rs_bodies.specs.Canonical.{IsSpelt}
use Rattle.rs_bodies.specs.Dialects.{BehindRole, sends_to}
use Rattle.rs_bodies.specs.declared.dialects.Dialect.TheVariants.{Talks}
use Rattle.rs_bodies.specs.declared.dialects.Head.{Head}
use Rattle.rs_bodies.specs.declared.dialects.Head.TheVariants as head
use Rattle.rs_bodies.specs.declared.places.Place.{Place}
use Rattle.rs_bodies.specs.declared.places.Place.TheVariants as place
use Rattle.rs_bodies.specs.Graph.{acts_in, first_of, has_end, Numbering}
use Rattle.rs_bodies.specs.Openings.{roles_in}
use Rattle.rs_bodies.specs.Places.{choice, end_of, place_of_node, places_of_protocol}
use Rattle.rs_bodies.specs.Points.{point_of}
use Rattle.rs_bodies.specs.Spells.{numbering}
use Rattle.rs_bodies.proofs.GraphLaws.{IsMade}
use Rattle.rs_bodies.proofs.GraphsAgain as graphs
use Rattle.rs_bodies.proofs.GraphsAgain.{IsKind, heads_placed}
use Rattle.rs_bodies.proofs.Heads.{heads_mapped}
use Rattle.rs_bodies.proofs.PlacesIn.{point_at}
use Rattle.rs_global.specs.Canonical.{IsTextShaped}
use Rattle.rs_global.specs.Graph.{no_names, finish_of, talk_of_turn}
use Rattle.rs_global.specs.Parts.{node_of_point}
use Rattle.rs_global.specs.Kinds.{protocols}

-- ---- what stands at a number

abbrev pub points : List Node → List Place
points nodes = map place_of_node nodes

pub stands : (nodes : List Node) (n : ℕ) (node : Node) → slice_get nodes n ≡ Some node → slice_get (points nodes) n ≡ Some (place_of_node node)
stands nodes n node e = slice_get-map place_of_node nodes n ∙ ap (option_map place_of_node) e

abbrev node_back : Place → Node
node_back place.End = Finished
node_back (place.Point p) = node_of_point p

back_again : (node : Node) → node_back (place_of_node node) ≡ node
back_again Finished = refl
back_again (Talk s r arms) = refl

same_nodes : (xs ys : List Node) → points xs ≡ points ys → xs ≡ ys
same_nodes xs ys h = sym (all_again place_of_node node_back back_again xs) ∙ ap (map node_back) h ∙ all_again place_of_node node_back back_again ys

-- the node of a place
stands_as : (nodes : List Node) (n : ℕ) (x : Place) → slice_get (points nodes) n ≡ Some x → (slice_get nodes n ≡ Some (node_back x)) × (x ≡ place_of_node (node_back x))
stands_as nodes n x e = found_again place_of_node node_back back_again nodes n x e

pub record IsTalk (p : Protocol_data) (n : ℕ) (h : Head) (arms : List Arm) : Type 0 where
  pub sender : Role
  pub receiver : Role
  pub head_is : h ≡ head.Talk sender receiver
  pub talks : slice_get p.nodes n ≡ Some (Talk sender receiver arms)

pub is_talk : (p : Protocol_data) (n : ℕ) (h : Head) (arms : List Arm) → slice_get (points p.nodes) n ≡ Some (choice h arms) → IsTalk p n h arms
is_talk p n (head.Talk s r) arms e = record { sender = s; receiver = r; head_is = refl; talks = (stands_as p.nodes n (choice (head.Talk s r) arms) e).0 }
is_talk p n (head.Act q m) arms e = absurd (cc ((stands_as p.nodes n (choice (head.Act q m) arms) e).1))

-- ---- a kind of graph

talk_is : (m : Numbering) (s : List ℕ) (t : BehindRole Talks) (arms : List Arm) → node_of_point (point_of Talks m s t arms) ≡ talk_of_turn m s t arms
talk_is m s (sends_to r) arms = refl

talk_place : (m : Numbering) (s : List ℕ) (t : BehindRole Talks) (arms : List Arm) → place_of_node (talk_of_turn m s t arms) ≡ point_at Talks m s t arms
talk_place m s (sends_to r) arms = refl

end_is : (c : Bool) → points (finish_of c) ≡ end_of c
end_is true = refl
end_is false = refl

abbrev protocol : ℕ → List Node → ℕ → Protocol_data
protocol roles nodes root = record { roles = roles; nodes = nodes; root = root }

-- the talks of a tree are the nodes of its heads
is_made : IsMade protocols
is_made old t =
    let n : Numbering = numbering Talks old t in
    let nodes : List Node → Protocol_data = λ z. protocol (length (roles_in Talks old t.opening)) (z ++ finish_of (has_end Talks t.body)) (first_of Talks t.body [] 0 (acts_in Talks t.body)) in
    ap nodes (sym (heads_mapped Talks node_of_point (point_of Talks n) (talk_of_turn n) (talk_is n) n t.body [] 0))

pub is_kind : IsKind protocols
is_kind = record {
  made = is_made;
  places = λ old t. heads_placed Talks talk_of_turn place_of_node finish_of talk_place end_is (numbering Talks old t) t.body (has_end Talks t.body);
  root = λ old t. refl;
  own = λ old t. refl;
  one = λ x y e f g. ap (λ z. protocol z x.nodes x.root) e ∙ ap (λ z. protocol y.roles z x.root) (same_nodes x.nodes y.nodes f) ∙ ap (λ z. protocol y.roles y.nodes z) g;
}

-- a text of the protocol spells its places
unfoldable pub spelt : (p : Protocol_data) → IsTextShaped p → IsSpelt Talks (places_of_protocol p) p.root
spelt p s = graphs.spelt protocols is_kind s.bytes s.at no_names s.names p s.until s.spells
