use Rattle.std.proofs.Common.{rules, arith, ◌≡◌, ◌<◌, ℕ, List, Option, true, length, sym, ◌∙◌, subst}
use Rattle.std.specs.Mem.Slots.{slots_items}
use Rattle.rs_slots.specs.declared.parcels.Parcel.{Parcel}
use Rattle.rs_rings.specs.Emptied.{AllHold, IsLastView}
use Rattle.rs_rings.specs.Rows.{IsBetweenCalls}
use Rattle.rs_rings.specs.Rule.{machines_in_key}
use Rattle.rs_rings.specs.Told.{IsLegalEnd}
use Rattle.rs_rings.specs.Views.{speaks}
use Rattle.rs_rings.specs.declared.views.View.{View}
use Rattle.rs_rings.proofs.LeftOver.{all_hold}
use Rattle.rs_rings.proofs.Seats.{ends}
use Rattle.rs_rings.proofs.tables.RingTable.close_left.Goals as goal

pub empty_all-requires-clause-holds : goal.empty_all-requires-clause-holds
empty_all-requires-clause-holds c =
    let f = c.close_with-closed.ensures.values.2 in let self = c.args.self in let key = self.board.shared.key in let v : View = c.args.seat.me.0 in let xs =
    slots_items c.close_with-closed.result.slots in
    let all : (r : ℕ) → r < key.roles → speaks r v.parts ≡ true = λ r l. c.requires.all r (subst (λ (n : ℕ). r < n) self.keyed.0 l) in
    let many : c.len.result ≡ length self.machines.items = search rules in
    let roles : key.roles ≡ c.len.result = self.keyed.0 ∙ sym self.machine_count ∙ sym many in
    let sizes : key.capacity ≡ self.capacity = self.keyed.1 ∙ self.sized in
    subst (λ (z : ℕ × ℕ × View). AllHold xs z.0 z.1 z.2) (λ i. (roles i, sizes i, sym c.new-last.ensures.1 i))
    (all_hold key c.args.seat.id v f.0 xs all (λ r l. c.requires.kept.idle r (all r l)) f.1 f.4)

pub empty_all-requires-clause-last : goal.empty_all-requires-clause-last
empty_all-requires-clause-last c = let self = c.args.self in let v : View = c.args.seat.me.0 in
    let many : c.len.result ≡ self.layout.roles = search rules in
    subst (λ (z : View × ℕ). IsLastView z.0 c.args.rows.now.items z.1) (λ i. (sym c.new-last.ensures.1 i, sym many i))
    (record { speaks_for_all = c.requires.all; between = subst (λ (cs : List (ℕ × Option Parcel)). IsBetweenCalls (v, cs) c.args.rows.now.items) c.requires.kept.empty c.requires.kept })

pub empty_all-requires-clause-sizes : goal.empty_all-requires-clause-sizes
empty_all-requires-clause-sizes c = let self = c.args.self in
    let many : c.len.result ≡ self.layout.roles = search rules in
    let low = self.layout.some in let high = self.layout.bounded in let roomy = self.layout.roomy in let small = self.layout.small in let sized = self.sized in
    record { some = omega arith; bounded = omega arith; capacity_fits = search rules }

pub empty_all-requires-clause-slots : goal.empty_all-requires-clause-slots
empty_all-requires-clause-slots c = record { count_is = search rules; full = search rules }

pub returns-clause-ends : goal.returns-clause-ends
returns-clause-ends c = let f = c.close_with-closed.ensures.values.2 in let key = c.args.self.board.shared.key in
    subst (λ (n : ℕ). IsLegalEnd (machines_in_key key) n c.args.seat.me.0) c.args.self.keyed.0
    (ends key c.args.seat.id c.args.seat.me.0 f.0 (λ r l. c.requires.all r (subst (λ (n : ℕ). r < n) c.args.self.keyed.0 l)) f.1)
