use Rattle.std.proofs.Common.{◌≡◌, ◌+◌, ◌≤◌, ◌++◌, length, codes, ap, ◌∙◌, arith}
use Rattle.rs_model.specs.Data.{Names_data, Protocol_data}
use Rattle.rs_model.specs.declared.limits.TheConstants.{MOST_TALKS}
use Rattle.rs_bodies.specs.declared.dialects.Dialect.TheVariants.{Talks}
use Rattle.rs_bodies.specs.Places.{place_of_node, places_of_protocol}
use Rattle.rs_bodies.proofs.EndsLast.{end_is_last}
use Rattle.rs_bodies.proofs.Few.{spelt_few}
use Rattle.rs_global.proofs.Canonical.{canonical_is_there, spelt_roles}
use Rattle.rs_global.proofs.Places.{spelt}
use Rattle.rs_pictures.proofs.Drawn.{picture_is}
use Rattle.rs_pictures.proofs.Pieces.{map_length}
use Rattle.rs_pictures.proofs.sequences.sequence_picture.Goals as goal

pub draw_place-requires-clause-few : goal.draw_place-requires-clause-few
draw_place-requires-clause-few c =
    let p = c.args.protocol.now in
    let few : length (places_of_protocol p) ≤ MOST_TALKS + 1 = spelt_few Talks (places_of_protocol p) p.root (spelt p c.requires.shaped) in
    let same : length (places_of_protocol p) ≡ length p.nodes = map_length place_of_node p.nodes in
    omega arith

pub draw_place-requires-clause-roles : goal.draw_place-requires-clause-roles
draw_place-requires-clause-roles c =
    let s = c.requires.shaped in
    let roles = spelt_roles s.bytes s.at s.names c.args.protocol.now s.until s.spells in
    let count : c.args.protocol.now.roles ≡ length s.names.roles = roles.count in
    let two : 2 ≤ length s.names.roles = roles.two in
    omega arith

pub draw_place-requires-clause-ends_last : goal.draw_place-requires-clause-ends_last
draw_place-requires-clause-ends_last c =
    let p = c.args.protocol.now in
    end_is_last Talks (places_of_protocol p) p.root (spelt p c.requires.shaped)

pub returns : goal.returns
returns c =
    let p = c.args.protocol.now in
    let tree = canonical_is_there c.args.names.now p c.requires.shaped c.requires.enough.roles c.requires.enough.labels in
    record {
      tree = tree.0;
      canonical = tree.1;
      whole = picture_is c.args.names.now p c.protocol.inside.root c.deref.result.now tree.0 c.push.new.self c.push_participants.new.text c.draw_place.new.text
          (c.in_ok-push.ensures.ok ∙ ap (λ z. z ++ codes "sequenceDiagram\n") c.new-text.ensures) (c.deref.ensures.value ∙ ap (λ (n : Names_data). n.roles) c.names.view_is)
          c.in_ok-push_participants.ensures (ap (λ (q : Protocol_data). q.root) c.protocol.view_is) c.requires.enough.roles c.in_ok-draw_place.ensures tree.1.body;
    }
