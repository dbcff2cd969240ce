use Rattle.std.proofs.Common.{rules, arith, ◌<◌, get_or, length}
use Rattle.std.proofs.lemmas.Option.{slice_get-get_or}
use Rattle.rs_project.specs.Projection.{choice_of}
use Rattle.rs_project.specs.Working.{AreLedBy}
use Rattle.rs_project.proofs.Lists.{read_via}
use Rattle.rs_project.proofs.Merged.{one_merged}
use Rattle.rs_project.proofs.merging.one_choice.Goals as goal

pub returns : goal.returns
returns c =
    let pr = c.args.protocol.now in
    let talks = c.args.talks.now in
    let talk = get_or talks 0 0 in
    let node = c.index.result.now in
    let arm = c.in-Some.arm in
    let some : 0 < length talks = (let h = c.in-len1-up.len_at_least in omega (arith, h)) in
    let led : AreLedBy pr talks c.in-Some-2.starts.items (choice_of arm) = search rules in
    record {
      led = led.led;
      alone = one_merged pr talks talk node arm (slice_get-get_or talks 0 0 some)
          (read_via pr.nodes c.protocol.inside.nodes.items talk node (search rules) (c.requires 0 0 some) c.index.ensures) c.in-Some.ensures led.no_more;
    }
