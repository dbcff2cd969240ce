use Rattle.std.proofs.Common.{◌≡◌, ℕ, suc, ◌+◌, ◌*◌, ◌<◌, ◌≤◌, List, ◌++◌, length, map, Option, inr, sym, ap, ◌∙◌, subst, arith}
use Rattle.std.specs.Prelude.{vec_len, vec_capacity}
use Rattle.std.specs.Mem.Slots.{slots_items, slots_filled}
use Rattle.rs_slots.specs.Places.{ring_count, ring_of}
use Rattle.rs_slots.specs.declared.parcels.Parcel.{Parcel}
use Rattle.rs_rings.specs.Acts.{parcels_got}
use Rattle.rs_rings.specs.Closed.{loose_from, loose_in, sender_of, receiver_of}
use Rattle.rs_rings.specs.Emptied.{RingHolds}
use Rattle.rs_rings.specs.Views.{history_in, parcels_under_way}
use Rattle.rs_rings.specs.declared.loose.Loose.{Loose}
use Rattle.rs_rings.specs.declared.views.View.{View}
use Rattle.rs_rings.proofs.PassRows.{count_is}
use Rattle.rs_rings.proofs.Emptied.{pair_at, base_within, base_next, emptied_to}
use Rattle.rs_rings.proofs.emptying.empty_all.Goals as goal

pub counts-counts-requires-clause-row : goal.counts-counts-requires-clause-row
counts-counts-requires-clause-row c =
    let n : ℕ = c.args.roles in
    let i : ℕ = c.loop-ring.ring in
    let kept = c.requires.last.between in
    let pr = pair_at n i c.requires.sizes.some c.loop-ring-test.true in
    let pair = pr.0 in
    let e = c.ends_of.ensures in
    let q : ℕ = c.ends_of.result.1.0 in
    let high : q < n = subst (λ (z : ℕ). z < n) (sym e.1) pair.receiver in
    let t = kept.rows q (c.requires.last.speaks_for_all q high) in
    (t.0, t.1)

pub empty_ring-requires-clause-range : goal.empty_ring-requires-clause-range
empty_ring-requires-clause-range c =
    let n : ℕ = c.args.roles in
    let cap : ℕ = c.args.capacity in
    let i : ℕ = c.loop-ring.ring in
    let inv = c.loop-ring.invariant in
    let b : ℕ = i * cap in
    let R : ℕ = ring_count n * cap in
    let within : b + cap ≤ R = base_within i (ring_count n) cap c.loop-ring-test.true in
    subst (λ (z : ℕ). b + cap ≤ z) (sym (inv.1 ∙ c.requires.slots.count_is)) within

pub empty_ring-requires-clause-full : goal.empty_ring-requires-clause-full
empty_ring-requires-clause-full c =
    let n : ℕ = c.args.roles in
    let cap : ℕ = c.args.capacity in
    let i : ℕ = c.loop-ring.ring in
    let v : View = c.args.last.now.view in
    let inv = c.loop-ring.invariant in
    let kept = c.requires.last.between in
    let pr = pair_at n i c.requires.sizes.some c.loop-ring-test.true in
    let pair = pr.0 in
    let e = c.ends_of.ensures in
    let b : ℕ = i * cap in
    let R : ℕ = ring_count n * cap in
    let within : b + cap ≤ R = base_within i (ring_count n) cap c.loop-ring-test.true in
    let p : ℕ = c.ends_of.result.0.0 in
    let q : ℕ = c.ends_of.result.1.0 in
    let low : p < n = subst (λ (z : ℕ). z < n) (sym e.0) pair.sender in
    let high : q < n = subst (λ (z : ℕ). z < n) (sym e.1) pair.receiver in
    let t = kept.rows q (c.requires.last.speaks_for_all q high) in
    λ k lo hi. inv.3 k lo (let hi' : k < b + cap = hi in omega arith)

pub empty_ring-requires-clause-room : goal.empty_ring-requires-clause-room
empty_ring-requires-clause-room c =
    let n : ℕ = c.args.roles in
    let cap : ℕ = c.args.capacity in
    let i : ℕ = c.loop-ring.ring in
    let v : View = c.args.last.now.view in
    let inv = c.loop-ring.invariant in
    let kept = c.requires.last.between in
    let pr = pair_at n i c.requires.sizes.some c.loop-ring-test.true in
    let pair = pr.0 in
    let e = c.ends_of.ensures in
    let b : ℕ = i * cap in
    let R : ℕ = ring_count n * cap in
    let within : b + cap ≤ R = base_within i (ring_count n) cap c.loop-ring-test.true in
    let p : ℕ = c.ends_of.result.0.0 in
    let q : ℕ = c.ends_of.result.1.0 in
    let low : p < n = subst (λ (z : ℕ). z < n) (sym e.0) pair.sender in
    let high : q < n = subst (λ (z : ℕ). z < n) (sym e.1) pair.receiver in
    let t = kept.rows q (c.requires.last.speaks_for_all q high) in
    let a : vec_len c.loop-ring.loose ≤ vec_len c.args.loose.now + b = inv.5.longer in
    let r : vec_len c.args.loose.now + R ≤ vec_capacity c.args.loose.now = c.requires.room in
    let z = inv.5.kept in
    omega arith

pub loop-ring-preserved : goal.loop-ring-preserved
loop-ring-preserved c =
    let n : ℕ = c.args.roles in
    let cap : ℕ = c.args.capacity in
    let i : ℕ = c.loop-ring.ring in
    let v : View = c.args.last.now.view in
    let inv = c.loop-ring.invariant in
    let kept = c.requires.last.between in
    let pr = pair_at n i c.requires.sizes.some c.loop-ring-test.true in
    let pair = pr.0 in
    let e = c.ends_of.ensures in
    let b : ℕ = i * cap in
    let R : ℕ = ring_count n * cap in
    let within : b + cap ≤ R = base_within i (ring_count n) cap c.loop-ring-test.true in
    let p : ℕ = c.ends_of.result.0.0 in
    let q : ℕ = c.ends_of.result.1.0 in
    let low : p < n = subst (λ (z : ℕ). z < n) (sym e.0) pair.sender in
    let high : q < n = subst (λ (z : ℕ). z < n) (sym e.1) pair.receiver in
    let t = kept.rows q (c.requires.last.speaks_for_all q high) in
    let u = c.empty_ring.ensures in
    let next : (i + 1) * cap ≡ b + cap = base_next i cap in
    let small : p < 16 = (let l = c.requires.sizes.bounded in omega arith) in
    let k = c.counts-counts.ensures t.0 t.1 in
    let is : c.counts-counts.result.got ≡ length (parcels_got p (history_in v q)) = count_is t.0 t.0.got p c.counts-counts.result.got (length (parcels_got p (history_in v q))) k.2 (t.2.got p small) in
    let left : List Parcel = parcels_under_way v (sender_of n i) (receiver_of n i) in
    let told : RingHolds (slots_items c.args.closed.now.slots) cap (ring_of n (sender_of n i) (receiver_of n i) * cap) (length (parcels_got (sender_of n i) (history_in v (receiver_of n i)))) left
    = c.requires.holds (sender_of n i) (receiver_of n i) pair in
    let got : length (parcels_got (sender_of n i) (history_in v (receiver_of n i))) ≡ c.counts-counts.result.got = sym (is ∙ (λ j. length (parcels_got (e.0 j) (history_in v (e.1 j))))) in
    let base : ring_of n (sender_of n i) (receiver_of n i) * cap ≡ b = ap (λ (z : ℕ). z * cap) pr.1 in
    let holds : RingHolds (slots_items c.loop-ring.closed.slots) cap b c.counts-counts.result.got left =
    subst (λ (xs : List (Option Parcel)). RingHolds xs cap b c.counts-counts.result.got left) (sym inv.0)
    (subst (λ (z : ℕ). RingHolds (slots_items c.args.closed.now.slots) cap z c.counts-counts.result.got left) base
    (subst (λ (z : ℕ). RingHolds (slots_items c.args.closed.now.slots) cap (ring_of n (sender_of n i) (receiver_of n i) * cap) z left) got told)) in
    let more : i + 1 ≡ suc i = omega arith in (
      u.slots.items_stay ∙ inv.0,
      u.slots.count_stays ∙ inv.1,
      (λ k l. emptied_to (slots_filled c.loop-ring.closed.slots) (slots_filled c.empty_ring.new.closed.slots) b cap u.slots.emptied inv.2 k (subst (λ (z : ℕ). k < z) next l)),
      (λ k lo hi. let lo' : b + cap ≤ k = subst (λ (z : ℕ). z ≤ k) next lo in u.slots.emptied.outside k (inr lo') ∙ inv.3 k (let g : b ≤ k = omega arith in g) hi),
      u.loose left holds ∙ ap (λ (l : List Loose). l ++ map (loose_from p q) left) inv.4 ∙ (λ j. loose_in v n i ++ map (loose_from (e.0 j) (e.1 j)) left) ∙ ap (loose_in v n) (sym more),
      record {
        longer = (let a : vec_len c.loop-ring.loose ≤ vec_len c.args.loose.now + b = inv.5.longer in let z = u.room.longer in subst
            (λ (z : ℕ). vec_len c.empty_ring.new.loose ≤ vec_len c.args.loose.now + z) (sym next) (let g : vec_len c.empty_ring.new.loose ≤ vec_len c.args.loose.now + (b + cap) = omega arith in g));
        kept = (let a = inv.5.kept in let z = u.room.kept in omega arith);
      },
    )
