use Rattle.std.proofs.Common.{◌≡◌, ◌++◌, ◌∷◌, [], List, ap, refl, ◌∙◌}
use Rattle.rs_model.specs.declared.machines.Act.{Act}
use Rattle.rs_derive.specs.Data.{DNode_data}
use Rattle.rs_derive.specs.Moves.{spot}
use Rattle.rs_search.specs.declared.table.Entry.{Entry}
use Rattle.rs_search.proofs.Filing.{table_begin}
use Rattle.rs_search.proofs.table.SpotTable.new.Goals as goal

pub invariant_of-result : goal.invariant_of-result
invariant_of-result c =
    let node : DNode_data = record { state = c.args.state; pending = c.new.result; above = c.args.above; rank = 0; next = c.new-2.result } in
    let entry : Entry = record { code = 0; link = 0 } in
    let e : c.push-2.new.self.items ≡ entry ∷ [] = c.in_ok-push-2.ensures.items ∙ ap (λ (z : List Entry). z ++ entry ∷ []) c.in_ok-entries.ensures.items in
    let n : c.push.new.self.items ≡ node ∷ [] = c.in_ok-push.ensures.items ∙ ap (λ (z : List DNode_data). z ++ node ∷ []) c.in_ok-nodes.ensures.items in
    rw (n, e) (table_begin c.in_ok-heads.heads.items c.args.buckets c.bucket_by.result node (spot c.args.state [] c.args.above) c.in_ok-heads.ensures c.requires.some c.requires.bounded
    (ap (λ (z : List Act). spot c.args.state z c.args.above) c.new.ensures) refl c.bucket_by.ensures.bucket c.bucket_by.ensures.within)
