use Rattle.std.proofs.Common.{arith, ◌≡◌, ℕ, List, [], ◌∷◌, ◌++◌, ◌+◌, ◌<◌, length, slice_get, Some, sym, ◌∙◌, subst, ap, length-append, Bool, ◌&&◌, not, eqb, IfSome}
use Rattle.std.proofs.lemmas.Option.{same_Some}
use Rattle.rs_derive.specs.Data.{DNode_data}
use Rattle.rs_derive.specs.Derivations.{spot_of}
use Rattle.rs_derive.specs.Moves.{Spot}
use Rattle.rs_derive.specs.Rules.{RuleFits, arms_at}
use Rattle.rs_graph.proofs.Growth.{growing_on, growing_large, map_next, any_next}
use Rattle.rs_graph.specs.Naming.{AreNamed, Grown}
use Rattle.rs_search.specs.Candidates.{start_spot}
use Rattle.rs_search.specs.Table.{StandsWithin, numbers_of}
use Rattle.rs_search.specs.Turns.{Turn_data, has_choice, is_any, is_choosing, is_cut, is_keeping, nexts_within, spots_by, turn_by_code, turn_within}
use Rattle.rs_search.proofs.Staying.{stays_within}
use Rattle.rs_search.proofs.Turning.{turn_there}
use Rattle.rs_search.proofs.Verdicts.{candidate_short, names_length, rows_short, to_candidate}
use Rattle.rs_search.proofs.found.visit_next.Goals as goal

pub returns-clause-found : goal.returns-clause-found
returns-clause-found c =
    let i = c.requires.found in
    let sub = c.args.sub.now in
    let above = c.args.above.now in
    let bound = c.args.bound in
    let p = spot_of c.node-node.result.now in
    let spots = c.args.found.now.table.spots in
    let rows = c.args.found.now.table.rows in
    let new = c.name_all.new.table.spots in
    let row = numbers_of c.in-Ok.nexts in
    let es : c.spread.new.self.spots ≡ spots = c.spread.ensures.spots in
    let hk : slice_get spots c.known-k.result ≡ Some p = subst (λ (z : List Spot). slice_get z c.known-k.result ≡ Some p) es c.node-node.ensures in
    let h : slice_get spots (length rows) ≡ Some p = subst (λ (z : ℕ). slice_get spots z ≡ Some p) (c.known-k.ensures.count ∙ ap (λ (z : List (List ℕ)). length z) c.spread.ensures.rows) hk in
    let t : turn_by_code p (arms_at c.state_of-state.result.now) (arms_at c.state_of-there.result.now) c.turn_at-turn.result ≡ turn_within sub above bound p = c.turn_at-turn.ensures.turn
    ∙ turn_there sub above bound p c.state_of-state.result.now c.state_of-there.result.now
    (subst (λ (z : DNode_data). slice_get sub.states z.state ≡ Some c.state_of-state.result.now) c.node.view_is c.state_of-state.ensures.state)
    (subst (λ (z : DNode_data). slice_get above.states z.above ≡ Some c.state_of-there.result.now) c.node.view_is c.state_of-there.ensures.state) in
    let n : AreNamed spots (nexts_within sub above bound p) new row = subst (λ (z : List Spot). AreNamed spots z new row) (ap (λ (u : Turn_data). u.spots) t)
    (subst (λ (z : List Spot). AreNamed z (spots_by p (arms_at c.state_of-state.result.now) (arms_at c.state_of-there.result.now) c.turn_at-turn.result.rule) new row) es
    (c.in-Ok.ensures.named p c.node-node.ensures)) in
    let gr = n.grown in
    let many : c.count_of.result ≡ length (nexts_within sub above bound p) = c.count_of.ensures ∙ names_length new row (nexts_within sub above bound p) n.names in
    let chooses : c.has_choice.result ≡ has_choice (turn_within sub above bound p) =
    c.has_choice.ensures ∙ ap (λ (b : Bool). b && not (eqb c.count_of.result 1)) (ap (λ (u : Turn_data). u.any) t) ∙ ap (λ (w : ℕ). (turn_within sub above bound p).any && not (eqb w 1)) many in
    let ep : c.push_row.new.self.spots ≡ new = c.push_row.ensures.spots in
    let er : c.push_row.new.self.rows ≡ rows ++ row ∷ []
    = c.push_row.ensures.rows ∙ ap (λ (z : List ℕ). c.name_all.new.table.rows ++ z ∷ []) c.row_of.ensures
    ∙ ap (λ (z : List (List ℕ)). z ++ row ∷ []) (c.name_all.ensures.rows ∙ c.spread.ensures.rows) in
    let m : length (rows ++ row ∷ []) ≡ length rows + 1 = (let l = length-append rows (row ∷ []) in omega arith) in
    rw (ep, er) record {
      growing = growing_on (nexts_within sub above bound) (start_spot sub above) spots rows p new row i.growing h n;
      noted = record {
        short = rows_short rows row 65536 c.in-Ok.ensures.short i.noted.short;
        anys = map_next (is_any sub above bound) spots new (length rows)
            (length (rows ++ row ∷ [])) p c.args.found.now.anys.items c.push.new.self.items c.turn_at-turn.result.any gr.kept h m i.noted.anys
            (ap (λ (u : Turn_data). u.any) t) c.in_ok-push.ensures.items;
        keeps = map_next (is_keeping sub above bound) spots new (length rows)
            (length (rows ++ row ∷ [])) p c.args.found.now.keeps.items c.push-2.new.self.items c.turn_at-turn.result.keeps gr.kept h m i.noted.keeps
            (ap (λ (u : Turn_data). u.keeps) t) c.in_ok-push-2.ensures.items;
        cut = any_next (is_cut sub above bound) spots new (length rows) (length (rows ++ row ∷ [])) p c.args.found.now.cut c.turn_at-turn.result.cut c.either-found.result gr.kept h m i.noted.cut
            (ap (λ (u : Turn_data). u.cut) t) c.either-found.ensures;
        choosing = any_next (is_choosing sub above bound) spots new (length rows)
            (length (rows ++ row ∷ [])) p c.args.found.now.choosing c.has_choice.result c.either-found-2.result gr.kept h m i.noted.choosing chooses c.either-found-2.ensures;
      };
    }

pub returns-in-Err-clause-limit : goal.returns-in-Err-clause-limit
returns-in-Err-clause-limit c =
    let p = spot_of c.node-node.result.now in
    let spots = c.args.found.now.table.spots in
    let rows = c.args.found.now.table.rows in
    let new = c.name_all.new.table.spots in
    let es : c.spread.new.self.spots ≡ spots = c.spread.ensures.spots in
    let hk : slice_get spots c.known-k.result ≡ Some p = subst (λ (z : List Spot). slice_get z c.known-k.result ≡ Some p) es c.node-node.ensures in
    let h : slice_get spots (length rows) ≡ Some p = subst (λ (z : ℕ). slice_get spots z ≡ Some p) (c.known-k.ensures.count ∙ ap (λ (z : List (List ℕ)). length z) c.spread.ensures.rows) hk in
    let t : turn_by_code p (arms_at c.state_of-state.result.now) (arms_at c.state_of-there.result.now) c.turn_at-turn.result ≡ turn_within c.args.sub.now c.args.above.now c.args.bound p
    = c.turn_at-turn.ensures.turn
    ∙ turn_there c.args.sub.now c.args.above.now c.args.bound p c.state_of-state.result.now c.state_of-there.result.now
    (subst (λ (z : DNode_data). slice_get c.args.sub.now.states z.state ≡ Some c.state_of-state.result.now) c.node.view_is c.state_of-state.ensures.state)
    (subst (λ (z : DNode_data). slice_get c.args.above.now.states z.above ≡ Some c.state_of-there.result.now) c.node.view_is c.state_of-there.ensures.state) in
    let gr : Grown spots (nexts_within c.args.sub.now c.args.above.now c.args.bound p) new = subst (λ (z : List Spot). Grown spots z new) (ap (λ (u : Turn_data). u.spots) t)
    (subst (λ (z : List Spot). Grown z (spots_by p (arms_at c.state_of-state.result.now) (arms_at c.state_of-there.result.now) c.turn_at-turn.result.rule) new) es
    (c.in-Err.ensures.grown p c.node-node.ensures)) in
    λ e. growing_large (nexts_within c.args.sub.now c.args.above.now c.args.bound) (start_spot c.args.sub.now c.args.above.now) spots rows p c.args.limit new c.requires.found.growing h gr
    (c.in-Err.ensures.limit e)

pub turn_at-turn-requires : goal.turn_at-turn-requires
turn_at-turn-requires c =
    let p = spot_of c.node-node.result.now in
    let short = candidate_short c.args.sub.now c.args.above.now c.args.bound p
    (to_candidate c.args.sub.now c.args.above.now c.args.bound p
    (c.requires.found.growing.reached c.known-k.result p (subst (λ (z : List Spot). slice_get z c.known-k.result ≡ Some p) c.spread.ensures.spots c.node-node.ensures))) in record { short = short }

pub name_all-requires-clause-within : goal.name_all-requires-clause-within
name_all-requires-clause-within c =
    let k : c.known-k.result ≡ length c.args.found.now.table.rows = c.known-k.ensures.count ∙ ap (λ (z : List (List ℕ)). length z) c.spread.ensures.rows in
    subst (λ (z : List Spot). StandsWithin z c.known-k.result c.args.limit) (sym c.spread.ensures.spots)
    (subst (λ (z : ℕ). StandsWithin c.args.found.now.table.spots z c.args.limit) (sym k) c.requires.next)

pub name_all-requires-clause-once : goal.name_all-requires-clause-once
name_all-requires-clause-once c = record { ours = c.state_of-state.ensures.once; theirs_too = c.state_of-there.ensures.once }

pub name_all-requires-clause-fits : goal.name_all-requires-clause-fits
name_all-requires-clause-fits c = λ p e.
    let q : spot_of c.node-node.result.now ≡ p = same_Some (spot_of c.node-node.result.now) p (sym c.node-node.ensures ∙ e) in
    subst (λ (z : Spot). IfSome c.turn_at-turn.result.rule (λ r. RuleFits z.pending (arms_at c.state_of-state.result.now) (arms_at c.state_of-there.result.now) r)) q c.turn_at-turn.ensures.fits

pub state_of-state-requires-clause-state : goal.state_of-state-requires-clause-state
state_of-state-requires-clause-state c =
    let p = spot_of c.node-node.result.now in
    subst (λ (z : DNode_data). z.state < length c.args.sub.now.states) (sym c.node.view_is)
    (stays_within c.args.sub.now c.args.above.now c.args.bound c.requires.ours c.requires.theirs p
    (to_candidate c.args.sub.now c.args.above.now c.args.bound p
    (c.requires.found.growing.reached c.known-k.result p (subst (λ (z : List Spot). slice_get z c.known-k.result ≡ Some p) c.spread.ensures.spots c.node-node.ensures)))).state

pub state_of-there-requires-clause-state : goal.state_of-there-requires-clause-state
state_of-there-requires-clause-state c =
    let p = spot_of c.node-node.result.now in
    subst (λ (z : DNode_data). z.above < length c.args.above.now.states) (sym c.node.view_is)
    (stays_within c.args.sub.now c.args.above.now c.args.bound c.requires.ours c.requires.theirs p
    (to_candidate c.args.sub.now c.args.above.now c.args.bound p
    (c.requires.found.growing.reached c.known-k.result p (subst (λ (z : List Spot). slice_get z c.known-k.result ≡ Some p) c.spread.ensures.spots c.node-node.ensures)))).present
