use Rattle.std.proofs.Common.{rules, ◌≡◌, ℕ, ◌*◌, List, None, Option, replicate, length, sym, subst, ap, ◌∙◌}
use Rattle.atomic_table.specs.Table.{opening}
use Rattle.rs_slots.specs.Places.{ring_count}
use Rattle.rs_slots.specs.declared.parcels.Parcel.{Parcel}
use Rattle.rs_rings.specs.declared.views.Key.{Key}
use Rattle.rs_rings.specs.Rule.{RingsShow, first_view}
use Rattle.rs_rings.proofs.Seats.{begins}
use Rattle.rs_rings.proofs.tables.RingTable.begin.Goals as goal

pub vacant-requires : goal.vacant-requires
vacant-requires c =
    let n : ℕ = c.len-roles.result in let key : Key = record { roles = n; capacity = c.args.capacity; machines = c.args.machines } in let count : ℕ = c.slots.result in let words : ℕ =
    c.words.result in
    let laid = c.new-layout.ensures in
    let e : c.as_slice.result.now ≡ replicate words 0 = c.as_slice.ensures.value ∙ c.in_ok-words.ensures.items_if_clones_equal (λ y p. p) in
    let many : length c.args.machines.items ≡ n = search rules in
    subst (λ (ws : List ℕ). RingsShow key (opening ws (replicate {A = Option Parcel} count None) (first_view key))) (sym e)
    (begins key words count c.requires.capacity.0 many c.requires.safe c.requires.well_formed (c.words.ensures ∙ ap (λ (z : ℕ). 2 * ring_count z) laid.0)
    (c.slots.ensures ∙ (λ i. ring_count (laid.0 i) * laid.1 i)))
