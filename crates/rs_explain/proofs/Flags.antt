-- Flags of the candidates: which don't survive, which are dead ends, and which meet a cut.
use Rattle.std.proofs.Common.{◌≡◌, inl, inr, ℕ, ◌<◌, ◌+◌, Bool, true, false, List, [], ◌∷◌, ◌++◌, length, map, slice_get, Some, refl, sym, ap, subst, ◌∙◌, arith, ◌==◌, ◌&&◌, length-append}
use Rattle.std.proofs.lemmas.Bool.{and_from, and_parts, cases_lt, eq-eqb, eqb-true, false≢true}
use Rattle.std.proofs.lemmas.Option.{same_Some}
use Rattle.rs_model.specs.Data.{Machine_data}
use Rattle.rs_derive.specs.Derivations.{IsProper}
use Rattle.rs_derive.specs.Moves.{Spot}
use Rattle.rs_graph.proofs.Buckets.{got}
use Rattle.rs_graph.proofs.Growth.{at_in, at_short, at_within, no_more, push_at, push_new}
use Rattle.rs_graph.proofs.Removed.{upto, upto_has, upto_length}
use Rattle.rs_graph.proofs.Kept.{Pictures}
use Rattle.rs_graph.specs.Built.{IsBuilt}
use Rattle.rs_graph.specs.Discovery.{IsDiscovery}
use Rattle.rs_graph.specs.Graphs.{Graph_data}
use Rattle.rs_graph.specs.Removal.{IsRemoval, at}
use Rattle.rs_graph.specs.Removal as removal
use Rattle.rs_search.proofs.Choices.{moves_at}
use Rattle.rs_search.proofs.Staying.{IsWithin, stays_within}
use Rattle.rs_search.proofs.Verdicts.{dies, pictures, survives, to_candidate}
use Rattle.rs_search.specs.Candidates.{IsCandidate, MeetsACut, start_spot}
use Rattle.rs_search.specs.Found.{AreFoundCandidates}
use Rattle.rs_search.specs.Survives.{Survives}
use Rattle.rs_search.specs.Turns.{is_any, nexts_within}
use Rattle.rs_search.specs.declared.found.Candidates.{Candidates}
use Rattle.rs_explain.proofs.Blocking.{no_move}
use Rattle.rs_explain.proofs.Firsts.{cut_dead, dead_has_no_moves, no_moves_dead}
use Rattle.rs_explain.proofs.Existing.{order_dies}
use Rattle.rs_explain.proofs.Nearest.{ends_at}
use Rattle.rs_explain.specs.Deaths.{AreInOrder}
use Rattle.rs_explain.specs.Distances.{flag_at}
use Rattle.rs_explain.specs.Explanations.{EndsBy}
use Rattle.rs_explain.specs.OnWay.{AreFlagged, AreFlags, IsLostGraph, ending_at, has_cut_at, is_cut_ending}
use Rattle.rs_explain.specs.Walks.{Dies, IsDeadEnd}
use Rattle.rs_explain.specs.declared.explaining.Ending.{Ending}
use Rattle.rs_explain.specs.declared.explaining.Ending.TheVariants as ending

-- flags, one by one

pub flags_none : (f : ℕ → Bool) (flags : List Bool) → flags ≡ [] → AreFlags f 0 flags
flags_none f flags e = rw e record { size = refl; each = λ n lt. (let bad : ⊥ = omega arith in absurd bad) }

flag_kept : (flags : List Bool) (b : Bool) (n : ℕ) → n < length flags → flag_at (flags ++ b ∷ []) n ≡ flag_at flags n
flag_kept flags b n lt = let k = at_within flags n lt in got (flags ++ b ∷ []) n k.0 false (push_at flags b n k.0 k.1) ∙ sym (got flags n k.0 false k.1)

flag_new : (flags : List Bool) (b : Bool) (n : ℕ) → length flags ≡ n → flag_at (flags ++ b ∷ []) n ≡ b
flag_new flags b n e = got (flags ++ b ∷ []) n b false (subst (λ (z : ℕ). slice_get (flags ++ b ∷ []) z ≡ Some b) e (push_new flags b))

pub flags_on : (f : ℕ → Bool) (count : ℕ) (flags flags' : List Bool) (b : Bool) → AreFlags f count flags → b ≡ f count → flags' ≡ flags ++ b ∷ [] → AreFlags f (count + 1) flags'
flags_on f count flags flags' b h eb e = rw e record {
  size = (let l = length-append flags (b ∷ []) in let s = h.size in omega arith);
  each = λ n lt. elim (cases_lt n count) [
    | inl a ↦ flag_kept flags b n (let s = h.size in omega arith) ∙ h.each n a
    | inr a ↦ (let same : count ≡ n = omega arith in flag_new flags b n (let s = h.size in omega arith) ∙ eb ∙ ap f same)
  ];
}

-- what they flag

pub gone_flagged : (sub above : Machine_data) (bound : ℕ) (found : List Spot) (rows : List (List ℕ)) (anys : List Bool) (g : Graph_data) (current order : List ℕ) (gone : List Bool)
    → IsDiscovery (nexts_within sub above bound) (start_spot sub above) found rows → anys ≡ map (is_any sub above bound) found → IsBuilt anys rows (length rows) g → IsRemoval g.outs current order
    → AreFlags (λ n. at current n == removal.moves_at g.outs n) (length g.outs) gone → AreFlagged (Dies sub above bound) found gone
gone_flagged sub above bound found rows anys g current order gone d ea b rem h = record {
  size = h.size ∙ pic.size;
  yes = λ n x f e. dies sub above bound found g current order pic rem n x f
      (let k = eqb-true (at current n) (removal.moves_at g.outs n) (sym (h.each n (here n x f)) ∙ e) in omega arith);
  all = λ n x f dx. h.each n (here n x f) ∙ eq-eqb (at current n) (removal.moves_at g.outs n) (elim (cases_lt (at current n) (removal.moves_at g.outs n)) [
    | inl lt ↦ absurd (dx (survives sub above bound found rows g current order d pic rem n x f lt))
    | inr le ↦ (let w = rem.within n in omega arith)
  ]);
}
  where
    pic : Pictures (moves_at sub above bound) found g.outs
    pic = pictures sub above bound found rows anys g d ea b

    here : (n : ℕ) (x : Spot) → slice_get found n ≡ Some x → n < length g.outs
    here n x f = let k = at_short found n x f in let s = pic.size in omega arith

-- those that aren't flagged survive
gone_alive : (sub above : Machine_data) (bound : ℕ) (found : List Spot) (rows : List (List ℕ)) (anys : List Bool) (g : Graph_data) (current order : List ℕ) (gone : List Bool)
    → IsDiscovery (nexts_within sub above bound) (start_spot sub above) found rows → anys ≡ map (is_any sub above bound) found → IsBuilt anys rows (length rows) g → IsRemoval g.outs current order
    → AreFlags (λ n. at current n == removal.moves_at g.outs n) (length g.outs) gone → (n : ℕ) (x : Spot) → slice_get found n ≡ Some x → flag_at gone n ≡ false → Survives sub above bound x
gone_alive sub above bound found rows anys g current order gone d ea b rem h n x f e = elim (cases_lt (at current n) (removal.moves_at g.outs n)) [
  | inl lt ↦ survives sub above bound found rows g current order d pic rem n x f lt
  | inr le ↦ (let w = rem.within n in
      absurd (false≢true (sym e ∙ h.each n (let k = at_short found n x f in let s = pic.size in omega arith) ∙ eq-eqb (at current n) (removal.moves_at g.outs n) (omega arith))))
]
  where
    pic : Pictures (moves_at sub above bound) found g.outs
    pic = pictures sub above bound found rows anys g d ea b

-- the nodes without moves are those of the dead ends
moveless_dead : (sub above : Machine_data) (bound : ℕ) (found : List Spot) (rows : List (List ℕ)) (anys : List Bool) (g : Graph_data)
    → IsDiscovery (nexts_within sub above bound) (start_spot sub above) found rows → anys ≡ map (is_any sub above bound) found → IsBuilt anys rows (length rows) g
    → (n : ℕ) (x : Spot) → slice_get found n ≡ Some x → removal.moves_at g.outs n ≡ 0 → IsDeadEnd sub above bound x
moveless_dead sub above bound found rows anys g d ea b n x f e =
    no_moves_dead sub above bound x (sym ((pictures sub above bound found rows anys g d ea b).count n x f) ∙ e)

dead_moveless : (sub above : Machine_data) (bound : ℕ) (found : List Spot) (rows : List (List ℕ)) (anys : List Bool) (g : Graph_data)
    → IsDiscovery (nexts_within sub above bound) (start_spot sub above) found rows → anys ≡ map (is_any sub above bound) found → IsBuilt anys rows (length rows) g
    → (n : ℕ) (x : Spot) → slice_get found n ≡ Some x → IsDeadEnd sub above bound x → removal.moves_at g.outs n ≡ 0
dead_moveless sub above bound found rows anys g d ea b n x f e = (pictures sub above bound found rows anys g d ea b).count n x f ∙ dead_has_no_moves sub above bound x e

-- cuts

-- of a spot: it has no move, and would be a cut
cut_is : (sub above : Machine_data) (bound : ℕ) (p : Spot) (e : Ending) → EndsBy sub above bound p e → is_cut_ending e ≡ true → MeetsACut sub above bound p
cut_is sub above bound p (ending.Blocked o) h e = absurd (false≢true e)
cut_is sub above bound p ending.Cut h e = h

is_cut : (sub above : Machine_data) (bound : ℕ) (p : Spot) (e : Ending) → EndsBy sub above bound p e → MeetsACut sub above bound p → is_cut_ending e ≡ true
is_cut sub above bound p (ending.Blocked o) h c = absurd (no_move sub above p o h c.makes c.results c.move)
is_cut sub above bound p ending.Cut h c = refl

-- the flags of the first so many candidates
pub record AreCuts (sub above : Machine_data) (outs : List (List (List ℕ))) (found : List Spot) (count : ℕ) (flags : List Bool) : Type 0 where
  pub size : length flags ≡ count
  pub each : (n : ℕ) (x : Spot) → n < count → slice_get found n ≡ Some x → flag_at flags n ≡ (removal.moves_at outs n == 0 && has_cut_at sub above x)

pub cuts_none : (sub above : Machine_data) (outs : List (List (List ℕ))) (found : List Spot) (flags : List Bool) → flags ≡ [] → AreCuts sub above outs found 0 flags
cuts_none sub above outs found flags e = rw e record { size = refl; each = λ n x lt f. (let bad : ⊥ = omega arith in absurd bad) }

pub cuts_on : (sub above : Machine_data) (outs : List (List (List ℕ))) (found : List Spot) (count : ℕ) (flags flags' : List Bool) (p : Spot) (b : Bool) → AreCuts sub above outs found count flags
    → slice_get found count ≡ Some p → b ≡ (removal.moves_at outs count == 0 && has_cut_at sub above p) → flags' ≡ flags ++ b ∷ [] → AreCuts sub above outs found (count + 1) flags'
cuts_on sub above outs found count flags flags' p b h f eb e = rw e record {
  size = (let l = length-append flags (b ∷ []) in let s = h.size in omega arith);
  each = λ n x lt g. elim (cases_lt n count) [
    | inl a ↦ flag_kept flags b n (let s = h.size in omega arith) ∙ h.each n x a g
    | inr a ↦ (let same : count ≡ n = omega arith in
        let same_p : p ≡ x = same_Some p x (sym f ∙ ap (λ (z : ℕ). slice_get found z) same ∙ g) in
        flag_new flags b n (let s = h.size in omega arith) ∙ eb ∙ ap (λ (z : ℕ). removal.moves_at outs z == 0 && has_cut_at sub above p) same
        ∙ ap (λ (z : Spot). removal.moves_at outs n == 0 && has_cut_at sub above z) same_p)
  ];
}

pub cut_flagged : (sub above : Machine_data) (bound : ℕ) (found : List Spot) (rows : List (List ℕ)) (anys : List Bool) (g : Graph_data) (ends : List Bool) → IsProper sub → IsProper above
    → IsDiscovery (nexts_within sub above bound) (start_spot sub above) found rows → anys ≡ map (is_any sub above bound) found → IsBuilt anys rows (length rows) g
    → AreCuts sub above g.outs found (length found) ends → AreFlagged (MeetsACut sub above bound) found ends
cut_flagged sub above bound found rows anys g ends ws wa d ea b h = record {
  size = h.size;
  yes = λ n x f e. (
      let k = and_parts (removal.moves_at g.outs n == 0) (has_cut_at sub above x) (sym (h.each n x (at_short found n x f) f) ∙ e) in
      let dead = moveless_dead sub above bound found rows anys g d ea b n x f (eqb-true (removal.moves_at g.outs n) 0 k.0) in
      cut_is sub above bound x (ending_at sub above x) (ends_at sub above bound x ws wa (candidate n x f) dead) k.1);
  all = λ n x f c. (
      let dead = cut_dead sub above bound x c in
      h.each n x (at_short found n x f) f ∙ and_from (removal.moves_at g.outs n == 0) (has_cut_at sub above x)
      (eq-eqb (removal.moves_at g.outs n) 0 (dead_moveless sub above bound found rows anys g d ea b n x f dead))
      (is_cut sub above bound x (ending_at sub above x) (ends_at sub above bound x ws wa (candidate n x f) dead) c));
}
  where
    candidate : (n : ℕ) (x : Spot) → slice_get found n ≡ Some x → IsCandidate sub above bound x
    candidate n x f = to_candidate sub above bound x (d.reached n x f)

-- the spot of a number stands at states of both machines
pub number_within : (sub above : Machine_data) (bound : ℕ) (found : List Spot) (rows : List (List ℕ)) → IsProper sub → IsProper above
    → IsDiscovery (nexts_within sub above bound) (start_spot sub above) found rows → (n : ℕ) (x : Spot) → slice_get found n ≡ Some x → IsWithin sub above x
number_within sub above bound found rows ws wa d n x f = stays_within sub above bound ws wa x (to_candidate sub above bound x (d.reached n x f))

pub lost_is : (sub above : Machine_data) (bound : ℕ) (found : Candidates) (anys : List Bool) (rows : List (List ℕ)) (g : Graph_data) (current current' order : List ℕ) (gone : List Bool)
    → AreFoundCandidates sub above bound found → anys ≡ found.anys.items → rows ≡ found.table.rows → current ≡ current' → IsBuilt anys rows (length rows) g → IsRemoval g.outs current' order
    → AreFlags (λ n. at current n == removal.moves_at g.outs n) (length g.outs) gone → IsLostGraph sub above bound found g gone
lost_is sub above bound found anys rows g current current' order gone f ea er ec b rem h =
    let b' : IsBuilt found.anys.items found.table.rows (length found.table.rows) g =
    subst (λ (z : List (List ℕ)). IsBuilt found.anys.items z (length z) g) er (subst (λ (z : List Bool). IsBuilt z rows (length rows) g) ea b) in
    record {
      built = b';
      dead = gone_flagged sub above bound found.table.spots found.table.rows found.anys.items g current order gone f.discovery f.noted.anys b'
          (subst (λ (z : List ℕ). IsRemoval g.outs z order) (sym ec) rem) h;
      alive = gone_alive sub above bound found.table.spots found.table.rows found.anys.items g current order gone f.discovery f.noted.anys b'
          (subst (λ (z : List ℕ). IsRemoval g.outs z order) (sym ec) rem) h;
    }

-- the order of the removal is one in which each dies within as many moves as nodes stand before it
pub in_order : (sub above : Machine_data) (bound : ℕ) (found : Candidates) (anys : List Bool) (rows : List (List ℕ)) (g : Graph_data) (current order : List ℕ)
    → AreFoundCandidates sub above bound found → anys ≡ found.anys.items → rows ≡ found.table.rows → IsBuilt anys rows (length rows) g → IsRemoval g.outs current order
    → AreInOrder sub above bound found.table.spots order
in_order sub above bound found anys rows g current order f ea er b rem = record {
  few = (let n = no_more order (upto 0 g.outs) rem.once (λ x h. let k = at_in order x h in upto_has 0 g.outs x (omega arith) (let w = (rem.gone k.0 x k.1).0 in omega arith)) in
      let l = upto_length 0 g.outs in let s = pic.size in omega arith);
  within = λ i n o. (let w = (rem.gone i n o).0 in let s = pic.size in omega arith);
  dies = λ i n x o e. order_dies sub above bound found.table.spots g.outs current order pic rem i i n x (omega arith) o e;
  all = λ n x e d. rem.listed n (let k = at_short found.table.spots n x e in let s = pic.size in omega arith) (elim (cases_lt (at current n) (removal.moves_at g.outs n)) [
    | inl lt ↦ absurd (d (survives sub above bound found.table.spots found.table.rows g current order f.discovery pic rem n x e lt))
    | inr le ↦ (let w = rem.within n in omega arith)
  ]);
}
  where
    pic : Pictures (moves_at sub above bound) found.table.spots g.outs
    pic = pictures sub above bound found.table.spots found.table.rows found.anys.items g f.discovery f.noted.anys
        (subst (λ (z : List (List ℕ)). IsBuilt found.anys.items z (length z) g) er (subst (λ (z : List Bool). IsBuilt z rows (length rows) g) ea b))
