-- The least bound within which the search finds a derivation.
use Rattle.std.proofs.Common.{◌≡◌, ◌≤◌, ℕ, length, map, get_or, inl, inr, ap, arith}
use Rattle.std.proofs.lemmas.Option.{slice_get-get_or}
use Rattle.rs_derive.proofs.Greatest as greatest
use Rattle.rs_derive.proofs.Mapped.{map_of}
use Rattle.rs_derive.specs.Data.{DNode_data, Derivation_data}
use Rattle.rs_derive.specs.Derivations.{IsProper}
use Rattle.rs_model.specs.Data.{Machine_data}
use Rattle.rs_model.specs.declared.limits.TheConstants.{MOST_BOUND, MOST_CANDIDATES}
use Rattle.rs_safety.proofs.Limits.{limits}
use Rattle.rs_safety.specs.Figures.{OwesFew}
use Rattle.rs_safety.specs.Room.{longest}
use Rattle.rs_search.proofs.Accepted.{derives, remembers}
use Rattle.rs_search.proofs.Determined.{one_answer}
use Rattle.rs_search.proofs.Remembering.{canonical_up, followed_is_found}
use Rattle.rs_search.proofs.Uncut.{more_up}
use Rattle.rs_search.specs.Canonical.{IsCanonical}

-- no node owes more than the bound
within : (sub above : Machine_data) (bound : ℕ) (d : Derivation_data) → IsProper sub → IsProper above → IsCanonical sub above bound d → longest d ≤ bound
within sub above bound d ws wa c = elim (greatest.is (map (λ (n : DNode_data). length n.pending) d.nodes)).among [
  | inl none ↦ (let z = none.1 in omega (arith, z))
  | inr some ↦ (
      let m = map_of (λ (n : DNode_data). length n.pending) d.nodes some.0 (longest d) some.1 in
      let short = ((derives sub above bound d ws wa c.canonical).each some.0 m.0 m.1).short in
      let same = c.canonical.bound' in
      let is = m.2 in
      omega (arith, short, same, is))
]

-- no node owes more than a derivation may be bounded by
pub owes_few : (sub above : Machine_data) (d : Derivation_data) → IsProper sub → IsProper above → IsCanonical sub above MOST_BOUND d → OwesFew d
owes_few sub above d ws wa c k n known =
    let at = slice_get-get_or d.nodes k n known in
    let short = ((derives sub above MOST_BOUND d ws wa c.canonical).each k (get_or d.nodes k n) at).short in
    let same = c.canonical.bound' in
    omega (arith, short, same)

pub enough : (sub above : Machine_data) (d : Derivation_data) → IsProper sub → IsProper above → IsCanonical sub above MOST_BOUND d → (e : Derivation_data) × IsCanonical sub above (longest d) e
enough sub above d ws wa c =
    let der = derives sub above MOST_BOUND d ws wa c.canonical in
    let falls = remembers sub above MOST_BOUND d c in
    (followed_is_found sub above (longest d) ws wa).1 record {
      bounded = λ many. c.bounded (more_up sub above (longest d) MOST_BOUND MOST_CANDIDATES (within sub above MOST_BOUND d ws wa c) many);
      follows = record {
        derivation = record { role = d.role; bound = longest d; nodes = d.nodes };
        is_derivation = record {
          first = der.first;
          stands = der.stands;
          starts = der.starts;
          each = λ i n is. (let f = der.each i n is in record {
            state = f.state;
            present = f.present;
            short = (limits d).pending i n is;
            makes = f.makes;
            results = f.results;
            move = f.move;
            named = f.named;
          });
        };
        remembers = record { falls = falls.falls };
        within = omega arith;
      };
    }

pub least : (sub above : Machine_data) (bound : ℕ) (d e : Derivation_data) → IsProper sub → IsProper above → IsCanonical sub above MOST_BOUND d → bound ≤ MOST_BOUND
    → IsCanonical sub above bound e → longest d ≤ bound
least sub above bound d e ws wa c le k =
    let up = canonical_up sub above bound MOST_BOUND e ws wa le c.bounded k in
    let same = one_answer sub above MOST_BOUND d _ c up in
    let long : longest d ≡ longest e = ap (λ (z : Derivation_data). longest z) same in
    let few = within sub above bound e ws wa k in
    omega (arith, long, few)
