-- A greater bound: it keeps the candidates and the survivors, and adds none where no candidate meets a cut.
use Rattle.std.proofs.Common.{◌≢◌, ◌↔◌, inl, inr, ℕ, ◌≤◌, Bool, false, List, length, refl, arith, suc, Option}
use Rattle.std.proofs.lemmas.Bool.{cases_lt, false≢true}
use Rattle.rs_model.specs.declared.limits.TheConstants.{MOST_CANDIDATES}
use Rattle.rs_model.specs.Data.{Machine_data}
use Rattle.rs_derive.proofs.Rows.{complete}
use Rattle.rs_derive.specs.Data.{Derivation_data}
use Rattle.rs_derive.specs.Derivations.{IsDerivation, IsProper}
use Rattle.rs_derive.specs.Moves.{HasMove, Spot}
use Rattle.rs_graph.specs.Lists.{Among}
use Rattle.rs_search.proofs.Accepted.{derives}
use Rattle.rs_search.proofs.Choices.{chosen_among, simple}
use Rattle.rs_search.proofs.Deciding.{decided}
use Rattle.rs_search.proofs.Surviving.{derived_survives}
use Rattle.rs_search.proofs.Verdicts.{candidate_short}
use Rattle.rs_search.specs.Candidates.{AreMoreThan, IsCandidate, MoveWithin, Start, Onward, start_spot}
use Rattle.rs_search.specs.Canonical.{IsNotFound, SearchRefuses, SomeCut}
use Rattle.rs_search.specs.Survives.{Survives}
use Rattle.rs_search.specs.declared.faults.SearchFault.{SearchFault}
use Rattle.rs_search.specs.declared.faults.SearchFault.TheVariants.{NotFound, Forgets, TooLarge, NoMemory}

-- a result owes at most one act more
one_more : (sub above : Machine_data) (p : Spot) (makes : Option ℕ) (rs : List Spot) → HasMove sub above p makes rs → (r : Spot) → Among rs r → length r.pending ≤ suc (length p.pending)
one_more sub above p makes rs m r a =
    let t = complete sub above p makes rs m in
    let s = simple sub above p t.d t.due_is in
    let e = s.level.all r (chosen_among t.d.nexts rs t.picks r a) in let f = s.level.bounded in omega arith

-- to a greater bound

pub move_up : (sub above : Machine_data) (bound more : ℕ) → bound ≤ more → (p : Spot) (rs : List Spot) → MoveWithin sub above bound p rs → MoveWithin sub above more p rs
move_up sub above bound more le p rs m = record { makes = m.makes; move = m.move; short = λ r a. (let s = m.short r a in omega arith) }

pub candidate_up : (sub above : Machine_data) (bound more : ℕ) → bound ≤ more → (p : Spot) → IsCandidate sub above bound p → IsCandidate sub above more p
candidate_up sub above bound more le _ Start = Start
candidate_up sub above bound more le _ (Onward p rs r c m k) = Onward p rs r (candidate_up sub above bound more le p c) (move_up sub above bound more le p rs m) k

pub survives_up : (sub above : Machine_data) (bound more : ℕ) → bound ≤ more → (p : Spot) → Survives sub above bound p → Survives sub above more p
survives_up sub above bound more le p s = record {
  set = s.set;
  stand = record {
    candidates = λ q a. candidate_up sub above bound more le q (s.stand.candidates q a);
    each = λ q a. (let g = s.stand.each q a in record { results = g.results; move = move_up sub above bound more le q g.results g.move; all = g.all });
  };
  among = s.among;
}

pub more_up : (sub above : Machine_data) (bound more limit : ℕ) → bound ≤ more → AreMoreThan sub above bound limit → AreMoreThan sub above more limit
more_up sub above bound more limit le m = record { spots = m.spots; each = λ p a. candidate_up sub above bound more le p (m.each p a); once = m.once; many = m.many }

-- from a greater bound back, where no candidate meets a cut

move_down : (sub above : Machine_data) (bound : ℕ) → (SomeCut sub above bound → ⊥) → (p : Spot) → IsCandidate sub above bound p → (makes : Option ℕ) (rs : List Spot) → HasMove sub above p makes rs
    → (r : Spot) → Among rs r → length r.pending ≤ bound
move_down sub above bound never p c makes rs m r a = elim (cases_lt bound (length r.pending)) [
  | inr le ↦ le
  | inl lt ↦ (let s = candidate_short sub above bound p c in let o = one_more sub above p makes rs m r a in
      absurd (never record { spot = p; candidate = c; cut = record { full = omega arith; makes = makes; results = rs; move = m; result = r; among = a; longer = lt } }))
]

pub candidate_down : (sub above : Machine_data) (bound more : ℕ) → (SomeCut sub above bound → ⊥) → (p : Spot) → IsCandidate sub above more p → IsCandidate sub above bound p
candidate_down sub above bound more never _ Start = Start
candidate_down sub above bound more never _ (Onward p rs r c m k) =
    let c' = candidate_down sub above bound more never p c in
    Onward p rs r c' (record { makes = m.makes; move = m.move; short = move_down sub above bound never p c' m.makes rs m.move }) k

survives_down : (sub above : Machine_data) (bound more : ℕ) → (SomeCut sub above bound → ⊥) → (p : Spot) → Survives sub above more p → Survives sub above bound p
survives_down sub above bound more never p s = record {
  set = s.set;
  stand = record {
    candidates = down;
    each = λ q a. (let g = s.stand.each q a in record {
      results = g.results;
      move = record { makes = g.move.makes; move = g.move.move; short = move_down sub above bound never q (down q a) g.move.makes g.results g.move.move };
      all = g.all;
    });
  };
  among = s.among;
}
  where
    down : (q : Spot) → Among s.set q → IsCandidate sub above bound q
    down q a = candidate_down sub above bound more never q (s.stand.candidates q a)

uncut : (sub above : Machine_data) (bound : ℕ) → IsNotFound sub above bound false → SomeCut sub above bound → ⊥
uncut sub above bound n c = false≢true (n.cuts.1 c)

-- where no candidate meets a cut a greater bound changes nothing
pub same_candidates : (sub above : Machine_data) (bound more : ℕ) → (SomeCut sub above bound → ⊥) → bound ≤ more → (p : Spot) → IsCandidate sub above more p ↔ IsCandidate sub above bound p
same_candidates sub above bound more never le p = ((λ c. candidate_down sub above bound more never p c), (λ c. candidate_up sub above bound more le p c))

pub same_survivors : (sub above : Machine_data) (bound more : ℕ) → (SomeCut sub above bound → ⊥) → bound ≤ more → (p : Spot) → Survives sub above more p ↔ Survives sub above bound p
same_survivors sub above bound more never le p = ((λ s. survives_down sub above bound more never p s), (λ s. survives_up sub above bound more le p s))

pub not_found_on : (sub above : Machine_data) (bound more : ℕ) → bound ≤ more → IsNotFound sub above bound false → IsNotFound sub above more false
not_found_on sub above bound more le n = record {
  bounded = λ m. n.bounded (record { spots = m.spots; each = λ p a. candidate_down sub above bound more (uncut sub above bound n) p (m.each p a); once = m.once; many = m.many });
  dies = λ s. n.dies (survives_down sub above bound more (uncut sub above bound n) (start_spot sub above) s);
  cuts = (
    (λ e. absurd (false≢true e)),
    (λ c. (let d = candidate_down sub above bound more (uncut sub above bound n) c.spot c.candidate in
        let s = move_down sub above bound (uncut sub above bound n) c.spot d c.cut.makes c.cut.results c.cut.move c.cut.result c.cut.among in
        let l = c.cut.longer in let bad : ⊥ = omega arith in absurd bad)),
  );
}

-- no derivation is missed

pub none_within : (sub above : Machine_data) (bound : ℕ) (cut : Bool) (d : Derivation_data) → IsNotFound sub above bound cut → IsDerivation d sub above → d.bound ≤ bound → ⊥
none_within sub above bound cut d n v le = n.dies (derived_survives sub above bound d v le)

pub none_at_all : (sub above : Machine_data) (bound : ℕ) (d : Derivation_data) → IsNotFound sub above bound false → IsDerivation d sub above → ⊥
none_at_all sub above bound d n v = elim (cases_lt d.bound bound) [
  | inl lt ↦ none_within sub above bound false d n v (omega arith)
  | inr le ↦ none_within sub above d.bound false d (not_found_on sub above bound d.bound le n) v (omega arith)
]

-- where there is none, and there aren't too many candidates, the search says so
pub none_is_not_found : (sub above : Machine_data) (bound : ℕ) → IsProper sub → IsProper above → (AreMoreThan sub above bound MOST_CANDIDATES → ⊥)
    → ((d : Derivation_data) → IsDerivation d sub above → d.bound ≤ bound → ⊥)
    → (cut : Bool) × IsNotFound sub above bound cut
none_is_not_found sub above bound ws wa few none = elim (decided sub above bound ws wa) [
  | inl f ↦ (let q = f.1.canonical.bound' in absurd (none f.0 (derives sub above bound f.0 ws wa f.1.canonical) (omega arith)))
  | inr r ↦ by r.0 r.1 r.2
]
  where
    by : (fault : SearchFault) → fault ≢ NoMemory → SearchRefuses sub above bound fault → (cut : Bool) × IsNotFound sub above bound cut
    by (NotFound cut) ne r = (cut, r)
    by (Forgets node) ne r = (let q = r.canonical.bound' in absurd (none r.derivation (derives sub above bound r.derivation ws wa r.canonical) (omega arith)))
    by TooLarge ne r = absurd (few r)
    by NoMemory ne r = absurd (ne refl)
