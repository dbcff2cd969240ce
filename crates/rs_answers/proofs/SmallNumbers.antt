-- No number of a canonical derivation of machines with few states is above 4,294,967,295.
use Rattle.std.proofs.Common.{◌≡◌, inl, inr, ℕ, zero, suc, ◌+◌, ◌<◌, ◌≤◌, List, [], ◌∷◌, length, map, Some, slice_get, refl, sym, ap, ◌∙◌, subst, arith}
use Rattle.std.proofs.lemmas.Bool.Decides.{leb_tells}
use Rattle.std.proofs.lemmas.List.{length-map}
use Rattle.std.proofs.lemmas.Option.{none-some, same_Some, slice_get_within}
use Rattle.rs_derivations.specs.Numbers.{AreSmall, HasSmallNumbers}
use Rattle.rs_derive.proofs.Mapped.{map_at, map_of}
use Rattle.rs_derive.specs.Data.{DNode_data, Derivation_data}
use Rattle.rs_derive.specs.Derivations.{IsDerivation, spot_of}
use Rattle.rs_derive.specs.Moves.{Spot}
use Rattle.rs_graph.proofs.Growth.{at_in, in_at, no_more}
use Rattle.rs_graph.specs.Lists.{Among, ArePlacesOf}
use Rattle.rs_graph.specs.Order.{Once}
use Rattle.rs_graph.specs.Walks.{Walk, Further}
use Rattle.rs_model.specs.Data.{Machine_data}
use Rattle.rs_model.specs.declared.limits.TheConstants.{MOST_NUMBER}
use Rattle.rs_search.proofs.Determined.{few_nodes}
use Rattle.rs_search.specs.Canonical.{IsCanonical, KeepsHead}
use Rattle.rs_answers.proofs.Printables.{all_of}

-- a number and all below it
abbrev down : ℕ → List ℕ
down zero = 0 ∷ []
down (suc n) = suc n ∷ down n

down_length : (n : ℕ) → length (down n) ≡ suc n
down_length zero = refl
down_length (suc n) = ap suc (down_length n)

down_at : (n i x : ℕ) → slice_get (down n) i ≡ Some x → x + i ≡ n
down_at zero zero x e = let same : 0 ≡ x = same_Some 0 x e in omega (arith, same)
down_at zero (suc i) x e = absurd (none-some x e)
down_at (suc n) zero x e = let same : suc n ≡ x = same_Some (suc n) x e in omega (arith, same)
down_at (suc n) (suc i) x e = let on = down_at n i x e in omega (arith, on)

down_once : (n : ℕ) → Once (down n)
down_once n i j x e g = let a = down_at n i x e in let b = down_at n j x g in omega (arith, a, b)

-- what is named stands there
named_there : (found : List Spot) (js : List ℕ) (rs : List Spot) (j : ℕ) → ArePlacesOf found js rs → Among js j → (r : Spot) × (slice_get found j ≡ Some r)
named_there found [] rs j h m = absurd m
named_there found (k ∷ js) [] j h m = absurd h
named_there found (k ∷ js) (r ∷ rs) j h (inl e) = (r, subst (λ (z : ℕ). slice_get found z ≡ Some r) e h.0)
named_there found (k ∷ js) (r ∷ rs) j h (inr m) = named_there found js rs j h.1 m

module _ (sub above : Machine_data) (bound : ℕ) (d : Derivation_data) (found : IsCanonical sub above bound d) where
  -- a next is a node
  next_there : (i : ℕ) (n : DNode_data) (j : ℕ) → slice_get d.nodes i ≡ Some n → Among n.next j → (m : DNode_data) × (slice_get d.nodes j ≡ Some m)
  next_there i n j at among =
      let follows = found.canonical.each i n at in
      let r = named_there (map (λ (m : DNode_data). spot_of m) d.nodes) n.next follows.results j follows.names among in
      let m = map_of (λ (m : DNode_data). spot_of m) d.nodes j r.0 r.1 in
      (m.0, m.1)

  abbrev ranks : List ℕ
  ranks = map (λ (m : DNode_data). m.rank) d.nodes

  its_rank : (rank i : ℕ) (n : DNode_data) → slice_get d.nodes i ≡ Some n → n.rank ≡ rank → Among ranks rank
  its_rank rank i n at is = in_at ranks i rank (map_at (λ (m : DNode_data). m.rank) d.nodes i n at ∙ ap Some is)

  -- the ranks along an edge fall by one at most where a walk goes on from it
  by_walk : (steps i : ℕ) (n : DNode_data) → slice_get d.nodes i ≡ Some n → n.rank ≡ suc steps → (end : ℕ) → Walk (KeepsHead sub above d.nodes) i (suc steps) end
      → (j : ℕ) × (m : DNode_data) × (slice_get d.nodes j ≡ Some m) × (m.rank ≡ steps)
  by_walk steps i n at is end (Further _ j _ _ e w) =
      let is_node : e.node ≡ n = same_Some e.node n (sym e.stands ∙ at) in
      let m = next_there i n j at (subst (λ (z : DNode_data). Among z.next j) is_node e.leads) in
      let mine = found.ranks i n at in
      let theirs = found.ranks j m.0 m.1 in
      let least : steps ≤ m.0.rank = theirs.most steps end w in
      let most : suc m.0.rank ≤ n.rank = mine.most (suc m.0.rank) theirs.end (Further i j theirs.end m.0.rank e theirs.walk) in
      (j, m.0, m.1, omega (arith, least, most, is))

  -- a number up to a rank is the rank of a node
  all_ranks : (rank i : ℕ) (n : DNode_data) → slice_get d.nodes i ≡ Some n → n.rank ≡ rank → (v : ℕ) → v ≤ rank → Among ranks v
  all_ranks zero i n at is v le = let same : 0 ≡ v = omega (arith, le) in subst (Among ranks) same (its_rank zero i n at is)
  all_ranks (suc steps) i n at is v le = elim (leb_tells v steps) [
    | inl t ↦
        let mine = found.ranks i n at in
        let next = by_walk steps i n at is mine.end (subst (λ (z : ℕ). Walk (KeepsHead sub above d.nodes) i z mine.end) is mine.walk) in
        all_ranks steps next.0 next.1 next.2 next.3 v t.1
    | inr t ↦
        let low = t.1 in
        let same : suc steps ≡ v = omega (arith, le, low) in
        subst (Among ranks) same (its_rank (suc steps) i n at is)
  ]

  few_ranks : (i : ℕ) (n : DNode_data) → slice_get d.nodes i ≡ Some n → n.rank < length d.nodes
  few_ranks i n at =
      let many = no_more (down n.rank) ranks (down_once n.rank) (λ v m. (let a = at_in (down n.rank) v m in
      let low = down_at n.rank a.0 v a.1 in all_ranks n.rank i n at refl v (omega (arith, low)))) in
      omega (arith, many, down_length n.rank, length-map d.nodes (λ (m : DNode_data). m.rank))

  pub small_numbers : IsDerivation d sub above → length sub.states ≤ MOST_NUMBER → length above.states ≤ MOST_NUMBER → AreSmall d
  small_numbers is few fewer =
      let nodes = few_nodes sub above bound d found in
      all_of HasSmallNumbers d.nodes (λ n m. (
      let at = at_in d.nodes n m in
      let fits = is.each at.0 n at.1 in
      let rank = few_ranks at.0 n at.1 in
      record {
        state = (let lt = fits.state in omega (arith, lt, few));
        above = (let lt = fits.present in omega (arith, lt, fewer));
        rank = omega (arith, rank, nodes);
        next = all_of (λ (k : ℕ). k ≤ MOST_NUMBER) n.next (λ k among. (
            let there = next_there at.0 n k at.1 among in
            let lt = slice_get_within d.nodes k there.0 there.1 in
            omega (arith, lt, nodes)));
      }))
