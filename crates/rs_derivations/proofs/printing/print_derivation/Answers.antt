use Rattle.std.proofs.Common.{◌≡◌, ◌++◌, ◌∙◌, ℕ, List, [], codes, map, ap}
use Rattle.rs_derive.specs.Data.{DNode_data, Derivation_data}
use Rattle.rs_model.specs.declared.machines.Act.{Act}
use Rattle.rs_text.specs.NamePlaces.{name_at}
use Rattle.rs_derivations.specs.Canonical.{tree_of_act, tree_of_node}
use Rattle.rs_derivations.specs.PendingLists.{lists_of, with_lists}
use Rattle.rs_derivations.specs.Texts.{first_line_text, lists_text, nodes_text}
use Rattle.rs_derivations.specs.declared.formats.Format.TheVariants.{Two}
use Rattle.rs_derivations.proofs.Joins.{four}
use Rattle.rs_derivations.proofs.printing.print_derivation.Goals as goal

pub returns : goal.returns
returns c =
    let names = c.args.names.now in
    let d = c.args.derivation.now in
    let lines : List (List Act) → List ℕ = λ (lists : List (List Act)). lists_text Two (map (λ acts. map (tree_of_act names) acts) lists) in
    let spots : List (List Act) → List DNode_data → List ℕ = λ lists nodes. nodes_text Two 0 (map (tree_of_node lists) nodes) in
    let head : Derivation_data → List ℕ = λ (x : Derivation_data). first_line_text (name_at names.roles x.role.0) Two x.bound in
    let nodes : c.as_slice-nodes.result.now ≡ d.nodes = c.as_slice-nodes.ensures.value ∙ ap (λ (x : Derivation_data). x.nodes) c.derivation.view_is in
    let lists = c.in_ok-lists.ensures ∙ ap (λ (x : List DNode_data). with_lists [] (map (λ n. n.pending) x)) nodes in
    record {
      canonical = four [] c.push_head.new.text c.push_lists.new.text c.push_nodes.new.text c.push.new.self (head d) (lines (lists_of d)) (spots (lists_of d) d.nodes) (codes "}\n")
          (c.in_ok-push_head.ensures ∙ ap (λ (x : Derivation_data). c.new-text.result ++ head x) c.derivation.view_is ∙ ap (λ z. z ++ head d) c.new-text.ensures)
          (c.in_ok-push_lists.ensures ∙ ap (λ x. c.push_head.new.text ++ lines x) (c.as_slice.ensures ∙ lists))
          (c.in_ok-push_nodes.ensures ∙ ap (λ x. c.push_lists.new.text ++ spots x c.as_slice-nodes.result.now) lists ∙ ap (λ x. c.push_lists.new.text ++ spots (lists_of d) x) nodes)
          c.in_ok-push.ensures.ok;
    }
