use Rattle.std.proofs.Common.{◌≤◌, inl, inr, ap, refl, arith, length}
use Rattle.std.proofs.lemmas.Bool.Decides.{leb_tells}
use Rattle.rs_reasons.proofs.Marking.{with_flag, without_flag}
use Rattle.rs_reasons.proofs.uses.mark.Goals.{in-Some, in_default}
use Rattle.rs_reasons.proofs.uses.mark.Goals as goal

pub loop-place-preserved : goal.loop-place-preserved
loop-place-preserved c = elim c.match-get_mut.branch [
  | in-Some w ↦
      with_flag c.args.label c.args.arms.now c.args.taken.now.items c.loop-place.taken.items c.match-get_mut.taken.items c.loop-place.place _ w.in-Some.flag.now w.eq.result c.loop-place-test.true
      (omega (arith, w.in-Some.ensures.variant.0 refl, c.loop-place.taken.ok)) w.in-Some.ensures.value w.eq.ensures c.loop-place.invariant (ap (λ v. v.items) w.taken-is)
  | in_default w ↦
      let past : length c.loop-place.taken.items ≤ c.loop-place.place = elim (leb_tells (length c.loop-place.taken.items) c.loop-place.place) [
        | inl le ↦ le.1
        | inr more ↦ (let no = w.in_default.ensures.variant.1 (omega (arith, more.1, c.loop-place.taken.ok)) in absurd (cc no))
      ] in
      without_flag c.args.label c.args.arms.now c.args.taken.now.items c.loop-place.taken.items c.match-get_mut.taken.items c.loop-place.place past
      c.loop-place.invariant (ap (λ v. v.items) w.taken-is)
]
