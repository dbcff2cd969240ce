use Rattle.std.proofs.Common.{rules, ◌≡◌, ℕ, ◌+◌, ◌-◌, ◌<◌, ◌≤◌, [], ◌∷◌, length, ◌≢◌, Some, None, refl, sym, ap, ◌∙◌, subst, arith}
use Rattle.atomic_table.specs.Table.{rest, step}
use mathlib.Core.Option.{none}
use Rattle.rs_rings.specs.declared.views.Part.{Part}
use Rattle.rs_rings.specs.Acts.{parcels_sent, MayPut}
use Rattle.rs_rings.specs.Places.{slot_place}
use Rattle.rs_rings.specs.Rule.{machines_in_key}
use Rattle.rs_rings.specs.Views.{the_part, view_with_part, part_with_room, gaining}
use Rattle.rs_rings.proofs.Parts.{the_role, speaks_put, the_put_here}
use Rattle.rs_rings.proofs.StepsAsked.{head_asks, store_asks, head_loaded, put_done, after}
use Rattle.rs_rings.proofs.tables.RingTable.put_as.Goals as goal

pub load-taken-requires : goal.load-taken-requires
load-taken-requires g c = let k = c.args.self.now.keyed in (
  search rules,
  search rules,
  head_asks c.args.self.now.board.shared.key g.N.CallName.call c.args.self.now.layout.roles c.args.self.now.layout.capacity c.args.sender.0 c.args.receiver.0 k.0 k.1 c.requires.call.on
      c.requires.pair.differ _ _ _ c.head_word.ensures.value _ c.requires.idle.speaks_for c.requires.pair.receiver c.requires.idle.idle,
)

pub returns-then-sent-taken-clause-done : goal.returns-then-sent-taken-clause-done
returns-then-sent-taken-clause-done g c =
    let k = c.args.self.now.keyed in let p : ℕ = c.args.sender.0 in let q : ℕ = c.args.receiver.0 in let v = c.args.seat.now.me.0 in let a : Part = the_part p v.parts in let r : ℕ =
    c.load-taken.result in
    let t = head_loaded c.args.self.now.board.shared.key g.N.CallName.call c.args.self.now.layout.roles c.args.self.now.layout.capacity p q k.0 k.1 c.requires.call.on c.requires.pair.differ 0 0
    (step 0 0 0 0 none) c.args.seat.now.me c.load-taken.new.seat.me r c.load-taken.ensures.2 in
    let is = c.requires.sent.count in let sent : ℕ = c.args.sent in let cap : ℕ = c.args.self.now.layout.capacity in let r_le : r ≤ length
    (parcels_sent q a.history) = t.1 in let tested : sent - r ≡ cap = c.if-sent-taken.true ∙ sym c.args.self.now.sized in let full : sent ≡ r + cap = omega arith in (
      refl,
      full,
      refl,
      t.0,
      after p (part_with_room q r a) v c.load-taken.new.seat.me c.requires.idle.speaks_for (the_role p v.parts c.requires.idle.speaks_for)
          (t.3 (sym is ∙ full) ∙ (λ i. (view_with_part p (part_with_room q r a) v, c.requires.idle.empty i))),
      t.5,
      t.6,
    )

pub exchange-requires : goal.exchange-requires
exchange-requires g c =
    let k = c.args.self.now.keyed in let p : ℕ = c.args.sender.0 in let q : ℕ = c.args.receiver.0 in let v = c.args.seat.now.me.0 in let a : Part = the_part p v.parts in let r : ℕ =
    c.load-taken.result in
    let t = head_loaded c.args.self.now.board.shared.key g.N.CallName.call c.args.self.now.layout.roles c.args.self.now.layout.capacity p q k.0 k.1 c.requires.call.on c.requires.pair.differ 0 0
    (step 0 0 0 0 none) c.args.seat.now.me c.load-taken.new.seat.me r c.load-taken.ensures.2 in
    let is = c.requires.sent.count in let sent : ℕ = c.args.sent in let cap : ℕ = c.args.self.now.layout.capacity in let tested : sent - r ≢ cap = (λ e. c.if-sent-taken.false
    (e ∙ c.args.self.now.sized)) in
    let more = t.4 (λ e. let e' : sent ≡ r + cap = is ∙ e in tested (omega arith)) in
    let slot : slot_place c.args.self.now.layout.roles cap p q (length (parcels_sent q a.history)) ≡ c.slot.result
    = ap (slot_place c.args.self.now.layout.roles cap p q) (sym is) ∙ sym c.slot.ensures.value in
    (search rules, (None, ap (λ m. m.1) more ∙ (λ i. (slot i, None) ∷ sym (ap (λ m. rest m.1) more) i)))

pub store-requires : goal.store-requires
store-requires g c =
    let k = c.args.self.now.keyed in let p : ℕ = c.args.sender.0 in let q : ℕ = c.args.receiver.0 in let v = c.args.seat.now.me.0 in let a : Part = the_part p v.parts in let r : ℕ =
    c.load-taken.result in
    let t = head_loaded c.args.self.now.board.shared.key g.N.CallName.call c.args.self.now.layout.roles c.args.self.now.layout.capacity p q k.0 k.1 c.requires.call.on c.requires.pair.differ 0 0
    (step 0 0 0 0 none) c.args.seat.now.me c.load-taken.new.seat.me r c.load-taken.ensures.2 in
    let is = c.requires.sent.count in let sent : ℕ = c.args.sent in let cap : ℕ = c.args.self.now.layout.capacity in let tested : sent - r ≢ cap = (λ e. c.if-sent-taken.false
    (e ∙ c.args.self.now.sized)) in let says = c.requires.idle.speaks_for in let role = the_role p v.parts says in
    let more = t.4 (λ e. let e' : sent ≡ r + cap = is ∙ e in tested (omega arith)) in let y : Part = gaining q r a in let here = the_put_here p y v.parts role says in (
      search rules,
      search rules,
      store_asks c.args.self.now.board.shared.key g.N.CallName.call c.args.self.now.layout.roles c.args.self.now.layout.capacity p q k.0 k.1 c.requires.call.on c.requires.pair.differ _ _
          c.tail_word.result c.tail_word.ensures.value c.exchange.new.seat.me (view_with_part p y v) [] sent (sent + 1) c.args.parcel
          (speaks_put p p y v.parts role ∙ says) c.requires.pair.receiver (ap (λ (z : Part). z.middle) here) (is ∙ ap (λ (z : Part). length (parcels_sent q z.history)) (sym here)) refl
          (subst (λ (z : Part). MayPut (machines_in_key c.args.self.now.board.shared.key) p q z.state c.args.parcel g.N.CallName.call.next) (sym here) c.requires.may)
          (c.exchange.ensures.3 ∙ (λ i. ((more i).0, (c.slot.ensures.value i, Some c.args.parcel) ∷ rest (more i).1))
          ∙ (λ i. (view_with_part p y v, (slot_place c.args.self.now.layout.roles cap p q sent, Some c.args.parcel) ∷ c.requires.idle.empty i))),
    )

pub returns-clause-done : goal.returns-clause-done
returns-clause-done g c =
    let k = c.args.self.now.keyed in let p : ℕ = c.args.sender.0 in let q : ℕ = c.args.receiver.0 in let v = c.args.seat.now.me.0 in let a : Part = the_part p v.parts in let r : ℕ =
    c.load-taken.result in
    let t = head_loaded c.args.self.now.board.shared.key g.N.CallName.call c.args.self.now.layout.roles c.args.self.now.layout.capacity p q k.0 k.1 c.requires.call.on c.requires.pair.differ 0 0
    (step 0 0 0 0 none) c.args.seat.now.me c.load-taken.new.seat.me r c.load-taken.ensures.2 in
    let is = c.requires.sent.count in let sent : ℕ = c.args.sent in let cap : ℕ = c.args.self.now.layout.capacity in let tested : sent - r ≢ cap = (λ e. c.if-sent-taken.false
    (e ∙ c.args.self.now.sized)) in let says = c.requires.idle.speaks_for in let role = the_role p v.parts says in
    let room : sent ≢ r + cap = (λ e. tested (omega arith)) in
    let more = t.4 (λ e. room (is ∙ e)) in let y : Part = gaining q r a in
    let pd = put_done c.args.self.now.board.shared.key g.N.CallName.call c.args.self.now.layout.roles c.args.self.now.layout.capacity p q k.0 k.1 c.requires.call.on c.requires.pair.differ 0 0 v y
    c.exchange.new.seat.me c.store.new.seat.me (slot_place c.args.self.now.layout.roles cap p q sent) c.args.parcel says role
    (c.exchange.ensures.3 ∙ (λ i. ((more i).0, (c.slot.ensures.value i, Some c.args.parcel) ∷ rest (more i).1))
    ∙ (λ i. (view_with_part p y v, (slot_place c.args.self.now.layout.roles cap p q sent, Some c.args.parcel) ∷ c.requires.idle.empty i)))
    c.store.ensures.2 in (
      r,
      t.0,
      room,
      pd.0,
      pd.1,
      t.5,
      (let low : r ≤ length (parcels_sent q a.history) = t.1 in let g : r ≤ sent = omega arith in g),
      (let high : length (parcels_sent q a.history) ≤ r + cap = t.2 in let g : sent < r + cap = omega arith in g),
      t.6,
    )
