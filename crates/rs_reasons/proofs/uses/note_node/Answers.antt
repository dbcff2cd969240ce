use Rattle.std.proofs.Common.{◌++◌, ◌∷◌, [], subst, slice_set}
use Rattle.rs_derive.specs.Data.{DNode_data}
use Rattle.rs_reasons.specs.Marks.{AreUses}
use Rattle.rs_reasons.proofs.Marking.{one_node_more, no_node_more}
use Rattle.rs_reasons.proofs.uses.note_node.Goals as goal

pub returns-then-place-states : goal.returns-then-place-states
returns-then-place-states c = λ nodes h.
    subst (λ (n : DNode_data). AreUses (nodes ++ n ∷ []) c.args.states.now (slice_set c.args.uses.now.items c.node.inside.state c.note.new.self)) c.node.view_is
    (one_node_more nodes c.args.states.now c.args.uses.now.items _ c.index-states-place.result c.index_mut.result.now c.note.new.self c.if-place-states.true c.requires c.index-states-place.is
    c.index_mut.ensures.value c.note.ensures h)

pub returns-else-place-states : goal.returns-else-place-states
returns-else-place-states c = λ nodes h.
    subst (λ (n : DNode_data). AreUses (nodes ++ n ∷ []) c.args.states.now c.args.uses.now.items) c.node.view_is
    (no_node_more nodes c.args.states.now c.args.uses.now.items _ c.if-place-states.false h)
