use Rattle.std.proofs.Common.{rules, refl, ℕ, ◌+◌, ◌-◌, ◌≤◌, List, ◌++◌, sym, ap, ◌∙◌, subst, arith, append_assoc, inr, le_refl}
use lib.ListN.{get_elem?}
use Rattle.std.specs.Mem.Slots.{slots_items, slots_filled}
use Rattle.rs_rings.specs.Emptied.{content_of, loose_in_slots, Emptied}
use Rattle.rs_rings.specs.declared.loose.Loose.{Loose}
use Rattle.rs_rings.proofs.Emptied.{emptied_more, found_more}
use Rattle.rs_rings.proofs.emptying.empty_slots.Goals as goal

pub loop-i-preserved : goal.loop-i-preserved
loop-i-preserved c =
    let v = c.loop-i.invariant in let xs = slots_items c.args.closed.now.slots in let p : ℕ = c.args.sender.0 in let q : ℕ = c.args.receiver.0 in let from : ℕ = c.args.from in let i : ℕ =
    c.loop-i.i in let t = c.take-content.ensures in let u = c.put_loose.ensures in
    let full = c.requires.full i v.0 (search rules) in
    let still = v.3.emptied.outside i (inr (le_refl i)) ∙ full in (
      (let le : from ≤ i = v.0 in let g : from ≤ i + 1 = omega arith in g),
      u.items ∙ ap (λ (l : List Loose). l ++ content_of p q c.take-content.result) v.1
          ∙ append_assoc c.args.loose.now.items (loose_in_slots xs p q from (i - from)) (content_of p q c.take-content.result)
          ∙ ap (λ (l : List Loose). c.args.loose.now.items ++ l) (sym (found_more xs p q from i c.take-content.result v.0 (sym (ap (λ l. get_elem? l i) v.3.items_stay) ∙ t.value))),
      record { longer = (let a = v.2.longer in let b = u.length in let le = v.0 in omega arith); kept = (let a = v.2.kept in let b = u.capacity in omega arith) },
      record {
        emptied = subst (λ l. Emptied (slots_filled c.args.closed.now.slots) l from (i + 1)) (sym t.others.1)
            (emptied_more (slots_filled c.args.closed.now.slots) (slots_filled c.loop-i.closed.slots) from i v.0 v.3.emptied still);
        items_stay = t.others.0 ∙ v.3.items_stay;
        count_stays = t.others.2 ∙ v.3.count_stays;
      },
    )

pub loop-i-init : goal.loop-i-init
loop-i-init c = (
  omega arith,
  search rules,
  record { longer = omega arith; kept = omega arith },
  record {
    emptied = record { inside = λ k lo hi. (let bad : ⊥ = omega arith in absurd bad); outside = λ k out. refl };
    items_stay = refl;
    count_stays = refl;
  },
)
