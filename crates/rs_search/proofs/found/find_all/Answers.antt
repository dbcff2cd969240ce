use Rattle.std.proofs.Common.{arith, ◌≡◌, ◌∷◌, [], ◌∙◌, ap, refl}
use Rattle.rs_derive.specs.Moves.{spot}
use Rattle.rs_model.specs.Data.{Machine_data}
use Rattle.rs_graph.proofs.Growth.{growing_begin}
use Rattle.rs_search.specs.Candidates.{start_spot}
use Rattle.rs_search.specs.Turns.{nexts_within}
use Rattle.rs_search.proofs.found.find_all.Goals as goal

pub loop-alloc-init : goal.loop-alloc-init
loop-alloc-init c =
    let e : c.in_ok-new.field-0.spots ≡ start_spot c.args.sub.now c.args.above.now ∷ [] = c.in_ok-new.ensures.spots
    ∙ ap (λ (m : Machine_data). spot m.start [] c.above.inside.start ∷ []) c.sub.view_is ∙ ap (λ (m : Machine_data). spot c.args.sub.now.start [] m.start ∷ []) c.above.view_is in (
      record {
        growing = rw (c.in_ok-new.ensures.rows, e) (growing_begin (nexts_within c.args.sub.now c.args.above.now c.args.bound) (start_spot c.args.sub.now c.args.above.now));
        noted = record {
          short = λ n. rw c.in_ok-new.ensures.rows (omega arith);
          anys = rw c.in_ok-new.ensures.rows c.in_ok-with_capacity.ensures.items;
          keeps = rw c.in_ok-new.ensures.rows c.in_ok-with_capacity-2.ensures.items;
          cut = rw c.in_ok-new.ensures.rows refl;
          choosing = rw c.in_ok-new.ensures.rows refl;
        };
      },
      rw e c.requires.some,
    )

pub visit_next-requires-clause-next : goal.visit_next-requires-clause-next
visit_next-requires-clause-next c = record { limit_fits = c.requires.limit; bounded = c.loop-alloc.invariant.1; present = grind arith }
