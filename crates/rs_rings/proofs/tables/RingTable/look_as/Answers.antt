use Rattle.std.proofs.Common.{rules, ◌≡◌, ◌≢◌, ℕ, ◌+◌, ◌<◌, ◌≤◌, ◌∷◌, length, Some, sym, ap, ◌∙◌, subst, arith}
use Rattle.atomic_table.specs.Table.{rest, step}
use mathlib.Core.Option.{none}
use Rattle.rs_rings.specs.declared.views.Part.{Part}
use Rattle.rs_slots.specs.declared.parcels.Parcel.{Parcel}
use Rattle.rs_rings.specs.Acts.{parcels_got}
use Rattle.rs_rings.specs.Places.{slot_place}
use Rattle.rs_rings.specs.Steps.{HasFittingArm}
use Rattle.rs_rings.specs.Views.{the_part, view_with_part, part_with_parcel, taking, KnowsOldest}
use Rattle.rs_rings.proofs.Parts.{the_role}
use Rattle.rs_rings.proofs.StepsAsked.{tail_asks, tail_loaded, after, took, took_some}
use Rattle.rs_rings.proofs.tables.RingTable.look_as.Goals as goal

pub load-seen-requires : goal.load-seen-requires
load-seen-requires g c =
    let k = c.args.self.now.keyed in (
      search rules,
      search rules,
      tail_asks c.args.self.now.board.shared.key g.N.CallName.call c.args.self.now.layout.roles c.args.self.now.layout.capacity c.args.sender.0 c.args.receiver.0 k.0 k.1 c.requires.call.on
          c.requires.pair.differ _ _ _ c.tail_word.ensures.value _ c.requires.idle.speaks_for c.requires.pair.sender c.requires.idle.idle c.requires.stands,
    )

pub returns-then-seen-got-clause-looked : goal.returns-then-seen-got-clause-looked
returns-then-seen-got-clause-looked g c =
    let k = c.args.self.now.keyed in
    let p : ℕ = c.args.sender.0 in
    let q : ℕ = c.args.receiver.0 in
    let v = c.args.seat.now.me.0 in
    let a : Part = the_part q v.parts in
    let r : ℕ = c.load-seen.result in
    let t = tail_loaded c.args.self.now.board.shared.key g.N.CallName.call c.args.self.now.layout.roles c.args.self.now.layout.capacity p q k.0 k.1 c.requires.call.on c.requires.pair.differ 0 0
    (step 0 0 0 0 none) c.args.seat.now.me c.load-seen.new.seat.me r c.load-seen.ensures.2 in
    let is = c.requires.got in
    let says = c.requires.idle.speaks_for in
    let role = the_role q v.parts says in (
      c.if-seen-got.true,
      t.0,
      after q (part_with_parcel p r a) v c.load-seen.new.seat.me says role (t.3 (sym is ∙ sym c.if-seen-got.true) ∙ (λ i. (view_with_part q (part_with_parcel p r a) v, c.requires.idle.empty i))),
      t.5,
      t.6,
    )

pub exchange-requires : goal.exchange-requires
exchange-requires g c =
    let k = c.args.self.now.keyed in
    let p : ℕ = c.args.sender.0 in
    let q : ℕ = c.args.receiver.0 in
    let v = c.args.seat.now.me.0 in
    let a : Part = the_part q v.parts in
    let r : ℕ = c.load-seen.result in
    let t = tail_loaded c.args.self.now.board.shared.key g.N.CallName.call c.args.self.now.layout.roles c.args.self.now.layout.capacity p q k.0 k.1 c.requires.call.on c.requires.pair.differ 0 0
    (step 0 0 0 0 none) c.args.seat.now.me c.load-seen.new.seat.me r c.load-seen.ensures.2 in
    let is = c.requires.got in
    let got : ℕ = c.args.got in
    let cap : ℕ = c.args.self.now.layout.capacity in
    let n : ℕ = c.args.self.now.layout.roles in
    let says = c.requires.idle.speaks_for in
    let role = the_role q v.parts says in
    let more = t.4 (λ e. c.if-seen-got.false (sym (is ∙ e))) in
    let x : Parcel = more.0 in
    let slot : slot_place n cap p q (length (parcels_got p a.history)) ≡ c.slot.result = ap (slot_place n cap p q) (sym is) ∙ sym c.slot.ensures.value in
    let cs = ap (λ m. m.1) more.2 ∙ (λ i. (slot i, Some x) ∷ sym (ap (λ m. rest m.1) more.2) i) in
    (search rules, (Some x, cs))

pub returns-clause-looked : goal.returns-clause-looked
returns-clause-looked g c =
    let k = c.args.self.now.keyed in
    let p : ℕ = c.args.sender.0 in
    let q : ℕ = c.args.receiver.0 in
    let v = c.args.seat.now.me.0 in
    let a : Part = the_part q v.parts in
    let r : ℕ = c.load-seen.result in
    let t = tail_loaded c.args.self.now.board.shared.key g.N.CallName.call c.args.self.now.layout.roles c.args.self.now.layout.capacity p q k.0 k.1 c.requires.call.on c.requires.pair.differ 0 0
    (step 0 0 0 0 none) c.args.seat.now.me c.load-seen.new.seat.me r c.load-seen.ensures.2 in
    let is = c.requires.got in
    let got : ℕ = c.args.got in
    let cap : ℕ = c.args.self.now.layout.capacity in
    let n : ℕ = c.args.self.now.layout.roles in
    let more = t.4 (λ e. c.if-seen-got.false (sym (is ∙ e))) in
    let x : Parcel = more.0 in
    let slot : slot_place n cap p q (length (parcels_got p a.history)) ≡ c.slot.result = ap (slot_place n cap p q) (sym is) ∙ sym c.slot.ensures.value in
    let tk = took c.load-seen.new.seat.me c.exchange.new.seat.me p q r (slot_place n cap p q got) c.slot.result x c.in-Some.parcel c.exchange.result v a
    (more.2 ∙ (λ i. (view_with_part q (taking p x r a) v, (slot_place n cap p q (sym is i), Some x) ∷ c.requires.idle.empty i))) c.exchange.ensures.2 c.exchange.ensures.3 c.in-Some.is in
    let differ : got ≢ r = λ e. c.if-seen-got.false (sym e) in
    let least : length (parcels_got p a.history) ≤ r = t.1 in
    let most : r ≤ length (parcels_got p a.history) + cap = t.2 in (
      differ,
      t.0,
      subst (HasFittingArm g.N.CallName.call.arms) tk.0 more.1,
      tk.1,
      t.5,
      subst (KnowsOldest v p q) tk.0 more.3,
      t.6,
      (let h : got < r = omega arith in h),
      (let h : r ≤ got + cap = omega arith in h),
    )

pub unreachable-unreachable : goal.unreachable-unreachable
unreachable-unreachable g c =
    let k = c.args.self.now.keyed in
    let p : ℕ = c.args.sender.0 in
    let q : ℕ = c.args.receiver.0 in
    let v = c.args.seat.now.me.0 in
    let a : Part = the_part q v.parts in
    let r : ℕ = c.load-seen.result in
    let t = tail_loaded c.args.self.now.board.shared.key g.N.CallName.call c.args.self.now.layout.roles c.args.self.now.layout.capacity p q k.0 k.1 c.requires.call.on c.requires.pair.differ 0 0
    (step 0 0 0 0 none) c.args.seat.now.me c.load-seen.new.seat.me r c.load-seen.ensures.2 in
    let is = c.requires.got in
    let got : ℕ = c.args.got in
    let cap : ℕ = c.args.self.now.layout.capacity in
    let n : ℕ = c.args.self.now.layout.roles in
    let more = t.4 (λ e. c.if-seen-got.false (sym (is ∙ e))) in
    let x : Parcel = more.0 in
    let slot : slot_place n cap p q (length (parcels_got p a.history)) ≡ c.slot.result = ap (slot_place n cap p q) (sym is) ∙ sym c.slot.ensures.value in
    absurd (took_some c.load-seen.new.seat.me (slot_place n cap p q got) c.slot.result x c.exchange.result (view_with_part q (taking p x r a) v)
    (more.2 ∙ (λ i. (view_with_part q (taking p x r a) v, (slot_place n cap p q (sym is i), Some x) ∷ c.requires.idle.empty i))) c.exchange.ensures.2 c.in-None.is)
