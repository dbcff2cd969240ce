use Rattle.std.proofs.Common.{List, ap, ◌∙◌, drop}
use Rattle.std.specs.List.{list_any}
use Rattle.rs_model.specs.Data.{Protocol_data}
use Rattle.rs_model.specs.declared.graph.Node.{Node}
use Rattle.rs_bodies.specs.Places.{place_of_node}
use Rattle.rs_bodies.specs.Shapes.{place_leads}
use Rattle.rs_pictures.proofs.Pieces.{leads_in}
use Rattle.rs_pictures.proofs.sequences.is_gone_back_to.Goals as goal

pub returns : goal.returns
returns c =
    let n = c.args.number in
    c.any_leads.ensures
    ∙ ap (λ z. list_any (λ (node : Node). place_leads n (place_of_node node)) z) (c.split_at.ensures.back ∙ ap (λ (z : List Node). drop n z) (c.deref.ensures.value ∙ ap (λ (p : Protocol_data). p.nodes) c.protocol.view_is))
    ∙ leads_in n n c.args.protocol.now.nodes
