use Rattle.std.proofs.Common.{ℕ, ◌+◌, ◌-◌, ◌%◌, ◌++◌, List, ap, ◌∙◌, append_assoc}
use Rattle.std.specs.Mem.Slots.{slots_items}
use Rattle.rs_rings.specs.Emptied.{loose_in_slots}
use Rattle.rs_rings.specs.declared.loose.Loose.{Loose}
use Rattle.rs_rings.proofs.Emptied.{ring_found}
use Rattle.rs_rings.proofs.emptying.empty_ring.Goals as goal

pub returns-clause-loose : goal.returns-clause-loose
returns-clause-loose c =
    λ left holds. let xs = slots_items c.args.closed.now.slots in let p : ℕ = c.args.sender.0 in let q : ℕ = c.args.receiver.0 in let cap : ℕ = c.args.capacity in let base : ℕ =
    c.args.base in let f : ℕ = c.args.got % cap in
    c.empty_slots-2.ensures.loose ∙ ap (λ (l : List Loose). l ++ loose_in_slots (slots_items c.empty_slots.new.closed.slots) p q base (base + f - base)) c.empty_slots.ensures.loose
    ∙ ap (λ ys. (c.args.loose.now.items ++ loose_in_slots xs p q (base + f) (base + cap - (base + f))) ++ loose_in_slots ys p q base (base + f - base)) c.empty_slots.ensures.slots.items_stay
    ∙ append_assoc c.args.loose.now.items (loose_in_slots xs p q (base + f) (base + cap - (base + f))) (loose_in_slots xs p q base (base + f - base))
    ∙ ap (λ (l : List Loose). c.args.loose.now.items ++ l) (ring_found xs cap base c.args.got left p q c.requires.roomy holds)
