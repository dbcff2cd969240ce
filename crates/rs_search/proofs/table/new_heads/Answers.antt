use Rattle.std.proofs.Common.{arith, ◌≡◌, ◌<◌, ◌+◌, ◌∙◌, ℕ, List, length, length-set, slice_get, Some, ap, refl, sym}
use Rattle.std.proofs.lemmas.List.{get_or_default, length-map}
use Rattle.rs_derive.specs.Data.{DNode_data}
use Rattle.rs_derive.specs.Derivations.{spot_of}
use Rattle.rs_derive.specs.Moves.{Spot}
use Rattle.rs_graph.proofs.Growth.{reads_at}
use Rattle.rs_search.specs.Buckets.{acts_code, bucket_by, codes_of}
use Rattle.rs_search.specs.Table.{codes_in, spots_of}
use Rattle.rs_search.specs.declared.table.Entry.{Entry}
use Rattle.rs_search.proofs.Filing.{files_one_more, same_codes}
use Rattle.rs_search.proofs.table.new_heads.Goals as goal

pub loop-number-preserved : goal.loop-number-preserved
loop-number-preserved c =
    let i = c.loop-number.invariant in
    let nodes = c.args.nodes.now in
    let entries = c.loop-number.entries.items in
    let heads = c.loop-number.heads.items in
    let n = c.loop-number.number in
    let node = c.index-nodes-number.result in
    let entry = c.index.result.now in
    let bucket = c.bucket_by-bucket.result in
    let link = c.index-link.result.now in
    let new : Entry = record { code = entry.code; link = link } in
    let coded : codes_in entries ≡ codes_of (spots_of nodes) = i.0 ∙ c.requires.coded in
    let short : n < length nodes = (let t = c.loop-number-test.true in omega arith) in
    let long : length entries ≡ length nodes
    = sym (length-map entries (λ (e : Entry). e.code)) ∙ ap (λ (z : List ℕ). length z) coded ∙ length-map (spots_of nodes) (λ (p : Spot). acts_code 0 p.pending) ∙ length-map nodes spot_of in
    let gn : slice_get nodes n ≡ Some node = reads_at nodes n node node short (sym c.index-nodes-number.is) in
    let ge : slice_get entries n ≡ Some entry = reads_at entries n entry entry (omega arith) (sym c.index.ensures) in
    let eb : bucket ≡ bucket_by c.args.buckets entry.code node.state node.above
    = c.bucket_by-bucket.ensures.bucket ∙ ap (λ (z : DNode_data). bucket_by c.args.buckets entry.code z.state z.above) c.node.view_is in
    let lt : bucket < length heads = (let w = c.bucket_by-bucket.ensures.within in let s = i.1 in omega arith) in
    let eh = c.index-link.ensures ∙ get_or_default heads bucket link 0 lt in (
      same_codes entries n entry new c.index.ensures refl ∙ i.0,
      length-set heads bucket (n + 1)
          ∙ i.1,
      files_one_more nodes entries heads c.args.buckets n bucket link node entry new gn ge coded eb lt eh refl i.2,
    )
