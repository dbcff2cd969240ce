use Rattle.std.proofs.Common.{rules, ◌+◌, [], refl}
use Rattle.rs_rings.specs.Places.{slot_place}
use Rattle.rs_rings.proofs.StepsAsked.{free_asks, took_done}
use Rattle.rs_rings.proofs.tables.RingTable.give_as.Goals as goal

pub store-requires : goal.store-requires
store-requires g c = let k = c.args.self.now.keyed in (
  search rules,
  search rules,
  free_asks c.args.self.now.board.shared.key g.N.CallName.call c.args.self.now.layout.roles c.args.self.now.layout.capacity c.args.sender.0 c.args.receiver.0 k.0 k.1 c.requires.call.on
      c.requires.pair.differ _ _ c.head_word.result c.head_word.ensures.value c.args.seat.now.me c.args.seat.now.me.0 [] c.args.got (c.args.got + 1) c.args.parcel.now
      c.requires.middle.speaks_for c.requires.pair.sender c.requires.middle.taking_it c.requires.got.count refl c.requires.may (λ i. (c.args.seat.now.me.0, c.requires.middle.holds i)),
)

pub returns-clause-given : goal.returns-clause-given
returns-clause-given g c = let k = c.args.self.now.keyed in
    let t = (took_done c.args.self.now.board.shared.key g.N.CallName.call c.args.self.now.layout.roles c.args.self.now.layout.capacity c.args.sender.0 c.args.receiver.0 k.0 k.1 c.requires.call.on
    c.requires.pair.differ 0 0 c.args.seat.now.me c.store.new.seat.me
    (slot_place c.args.self.now.layout.roles c.args.self.now.layout.capacity c.args.sender.0 c.args.receiver.0 c.args.got) c.args.parcel.now
    c.requires.middle.speaks_for c.requires.middle.taking_it c.requires.middle.holds c.store.ensures.2) in
    record { happened = t.0; loads = t.1.0; after = t.1.1 }
