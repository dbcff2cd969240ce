use Rattle.std.proofs.Common.{◌≡◌, ◌++◌, ◌∷◌, [], List, length, ap, sym, subst, ◌∙◌, ◌+◌, arith, refl, set}
use Rattle.std.proofs.lemmas.List.{length-map, map_push}
use Rattle.rs_derive.specs.Data.{DNode_data}
use Rattle.rs_derive.specs.Derivations.{spot_of}
use Rattle.rs_derive.specs.Moves.{Spot}
use Rattle.rs_search.specs.Buckets.{bucket_of_spot}
use Rattle.rs_model.specs.Chains.{AllAreChained}
use Rattle.rs_search.specs.Table.{codes_in, links_of, spots_of}
use Rattle.rs_search.specs.declared.table.Entry.{Entry}
use Rattle.rs_search.proofs.Chains.{chained_push}
use Rattle.rs_search.proofs.table.add.Goals as goal

pub returns-clause-filed : goal.returns-clause-filed
returns-clause-filed c =
    let nodes = c.args.nodes.now.items in
    let heads = c.args.index.now.heads.items in
    let entries = c.args.index.now.entries.items in
    let entry = c.args.entry in
    let en : c.push_reserved.new.self.items ≡ nodes ++ c.args.node ∷ [] = c.push_reserved.ensures.items ∙ ap (λ (z : List DNode_data). z ++ c.args.node ∷ []) c.in_ok-reserve.ensures.items in
    let ee : c.push_reserved-2.new.self.items ≡ entries ++ entry ∷ [] = c.push_reserved-2.ensures.items ∙ ap (λ (z : List Entry). z ++ entry ∷ []) c.in_ok-reserve-2.ensures.items in
    let spots : spots_of c.push_reserved.new.self.items ≡ spots_of nodes ++ spot_of c.args.node ∷ [] = ap spots_of en ∙ map_push spot_of nodes c.args.node in
    let links : links_of c.push_reserved-2.new.self.items ≡ links_of entries ++ entry.link ∷ [] = ap links_of ee ∙ map_push (λ (e : Entry). e.link) entries entry in
    let number : c.len-number.result ≡ length (spots_of nodes)
    = (let l = length-map nodes spot_of in let m = ap (λ (z : List DNode_data). length z) c.in_ok-reserve.ensures.items in grind (arith, c.len-number.ensures)) in
    let chained = subst (λ (z : List Spot). AllAreChained (bucket_of_spot (length heads)) z (set heads c.args.bucket (c.len-number.result + 1)) (links_of c.push_reserved-2.new.self.items)) (sym spots)
    (chained_push (bucket_of_spot (length heads)) (spots_of nodes) heads (links_of entries) (set heads c.args.bucket (c.len-number.result + 1)) (links_of c.push_reserved-2.new.self.items)
    (spot_of c.args.node) c.args.bucket entry.link c.len-number.result c.requires.before.its c.requires.before.within number
    c.requires.before.link links refl c.requires.chained) in
    record { nodes_are = en; codes = ap codes_in ee ∙ map_push (λ (e : Entry). e.code) entries entry; chained = chained }
