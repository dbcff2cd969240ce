use Rattle.std.proofs.Common.{rules, []}
use Rattle.std.proofs.lemmas.List.{map-set, get_or-map}
use Rattle.rs_places.proofs.finding.push_at.Goals as goal

pub returns : goal.returns
returns c =
    let put = map-set (λ m. m.items) c.args.machines.now.items c.args.role c.push.new.self in
    let got = get_or-map (λ m. m.items) c.args.machines.now.items c.args.role c.index_mut.result.now [] c.requires in
    search (put, got, rules)
