use Rattle.std.proofs.Common.{rules, ◌≡◌, ◌≢◌, ℕ, ◌+◌, ◌-◌, ◌<◌, ◌≤◌, length, nat_eq, true, false, true≢false, ⊎_elim, sym, ap, ◌∙◌, arith}
use Rattle.std.proofs.lemmas.Bool.Decides.{eqb_tells}
use Rattle.atomic_table.specs.Table.{step}
use mathlib.Core.Bool.{not}
use mathlib.Core.Option.{none}
use Rattle.rs_rings.specs.declared.views.Part.{Part}
use Rattle.rs_rings.specs.Acts.{parcels_sent}
use Rattle.rs_rings.specs.Views.{the_part, view_with_part, part_with_room}
use Rattle.rs_rings.proofs.Parts.{the_role}
use Rattle.rs_rings.proofs.StepsAsked.{room_asks, head_looked_at, after}
use Rattle.rs_rings.proofs.tables.RingTable.has_room_as.Goals as goal

pub load-taken-requires : goal.load-taken-requires
load-taken-requires g c = let k = c.args.self.now.keyed in (
  search rules,
  search rules,
  room_asks c.args.self.now.board.shared.key g.N.CallName.call c.args.self.now.layout.roles c.args.self.now.layout.capacity c.args.sender.0 c.args.receiver.0 k.0 k.1 c.requires.call
      c.requires.pair.differ _ _ _ c.head_word.ensures.value _ c.requires.idle.speaks_for c.requires.pair.receiver,
)

apart : (x y : ℕ) → not (nat_eq x y) ≡ true → x ≢ y
apart x y e = ⊎_elim (λ (h : (nat_eq x y ≡ true) × (x ≡ y)). absurd (true≢false (sym e ∙ ap not h.0))) (λ (h : (nat_eq x y ≡ false) × (x ≢ y)). h.1) (eqb_tells x y)

equal : (x y : ℕ) → not (nat_eq x y) ≡ false → x ≡ y
equal x y e = ⊎_elim (λ (h : (nat_eq x y ≡ true) × (x ≡ y)). h.1) (λ (h : (nat_eq x y ≡ false) × (x ≢ y)). absurd (true≢false (sym (ap not h.0) ∙ e))) (eqb_tells x y)

pub returns-clause-looked : goal.returns-clause-looked
returns-clause-looked g c =
    let k = c.args.self.now.keyed in let p : ℕ = c.args.sender.0 in let q : ℕ = c.args.receiver.0 in let v = c.args.seat.now.me.0 in let a : Part = the_part p v.parts in let r : ℕ =
    c.load-taken.result in
    let t = head_looked_at c.args.self.now.board.shared.key g.N.CallName.call c.args.self.now.layout.roles c.args.self.now.layout.capacity p q k.0 k.1 c.requires.call c.requires.pair.differ 0 0
    (step 0 0 0 0 none) c.args.seat.now.me c.load-taken.new.seat.me r c.load-taken.ensures.2 in
    let is = c.requires.sent in let sent : ℕ = c.args.sent in let cap : ℕ = c.args.self.now.layout.capacity in
    let sized : cap ≡ c.args.self.now.capacity = c.args.self.now.sized in
    let low : r ≤ length (parcels_sent q a.history) = t.1 in let high : length (parcels_sent q a.history) ≤ r + cap = t.2 in
    record {
      taken = r;
      not_less = t.0;
      not_more = (let h : r ≤ sent = omega arith in h);
      some = λ e. let other : sent - r ≢ c.args.self.now.capacity = apart (sent - r) c.args.self.now.capacity e in
          let other' : sent - r ≢ cap = (λ f. other (f ∙ sized)) in (let h : sent < r + cap = omega arith in h);
      none = λ e. let same : sent - r ≡ c.args.self.now.capacity = equal (sent - r) c.args.self.now.capacity e in
          let same' : sent - r ≡ cap = same ∙ sym sized in (let h : sent ≡ r + cap = omega arith in h);
      after = after p (part_with_room q r a) v c.load-taken.new.seat.me c.requires.idle.speaks_for (the_role p v.parts c.requires.idle.speaks_for)
          (t.3 ∙ (λ i. (view_with_part p (part_with_room q r a) v, c.requires.idle.empty i)));
      knows = t.4;
      read = t.5;
    }
