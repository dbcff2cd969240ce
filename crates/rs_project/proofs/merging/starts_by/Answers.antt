use Rattle.std.proofs.Common.{rules, arith, ◌∙◌, ◌++◌, ◌∷◌, [], ℕ, List, length, length-append, get_or, slice_get, ap}
use Rattle.std.specs.List.{flat_map}
use Rattle.std.proofs.lemmas.Option.{slice_get-get_or}
use Rattle.rs_project.specs.Marks.{labelled_nexts_of}
use Rattle.rs_project.specs.Projection.{choice_of, choices_of, first_choices}
use Rattle.rs_project.proofs.Lists.{read_via}
use Rattle.rs_project.proofs.Merged.{choices_on, led_choices, led_starts, starts_on}
use Rattle.rs_project.proofs.merging.starts_by.Goals as goal

pub loop-talk-preserved : goal.loop-talk-preserved
loop-talk-preserved c =
    let pr = c.args.protocol.now in
    let talks = c.args.talks.now in
    let i = c.loop-talk.talk-index in
    let talk = get_or talks i 0 in
    let node = c.index.result.now in
    let here = choice_of c.args.arm in
    let other = c.in-Some.other in
    let at = slice_get-get_or talks i 0 c.loop-talk-test.true in
    let stands = read_via pr.nodes c.protocol.inside.nodes.items talk node (search rules) (c.requires i 0 c.loop-talk-test.true) c.index.ensures in
    let has = c.in-Some.ensures in
    record {
      starts = starts_on pr c.args.arm.label talks i talk node c.loop-talk.starts.items c.push_reserved.new.self.items
          (flat_map (λ t. labelled_nexts_of c.args.arm.label (slice_get pr.nodes t)) talks) at stands
          (led_starts other c.args.arm.label node c.loop-talk.starts.items c.push_reserved.new.self.items has.0 has.1 c.push_reserved.ensures.items) c.loop-talk.invariant.starts;
      many = (let l = ap (λ (z : List ℕ). length z) c.push_reserved.ensures.items ∙ length-append c.loop-talk.starts.items (other.next ∷ []) in let m = c.loop-talk.invariant.many in omega (arith, l, m));
      room = (let k = c.push_reserved.ensures.capacity in let r = c.loop-talk.invariant.room in omega (arith, k, r));
      choices = choices_on pr talks i talk node (here ∷ []) (here ∷ []) ((here ∷ []) ++ first_choices (flat_map (λ t. choices_of (slice_get pr.nodes t)) talks) (here ∷ [])) at stands
          (led_choices other here node has.0 has.1) c.loop-talk.invariant.choices;
    }
