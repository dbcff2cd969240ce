use Rattle.std.proofs.Common.{rules, arith, ◌≡◌, ◌+◌, [], ◌∷◌, ◌++◌, length, get_or, take, slice_get, Some, refl, sym, ap, ◌∙◌}
use Rattle.std.proofs.lemmas.List.{get_or_default}
use Rattle.std.proofs.lemmas.Option.{slice_get_read}
use Rattle.rs_text.proofs.Tabling.{filed_on, next_taken, none_filed}
use Rattle.rs_text.proofs.tables.index_of.Goals as goal

pub loop-name-init : goal.loop-name-init
loop-name-init c = none_filed [] c.in_ok-heads.heads.items c.in_ok-links.links.items refl (search (rules, c.in_ok-heads.ensures.items)) c.in_ok-links.ensures.items

pub loop-name-preserved : goal.loop-name-preserved
loop-name-preserved c =
    let filed = c.loop-name.invariant in
    let size = filed.buckets in
    let lt = c.bucket_of-bucket.ensures.within in
    let head : c.index-head.result.now ≡ get_or c.loop-name.heads.items c.bucket_of-bucket.result 0 =
    c.index-head.ensures ∙ get_or_default c.loop-name.heads.items c.bucket_of-bucket.result c.index-head.result.now 0 (omega (arith, size, lt)) in
    let links : c.push.new.self.items ≡ c.loop-name.links.items ++ (c.index-head.result.now ∷ []) = search (rules, c.in_ok-push.ensures.items) in
    let at : slice_get c.args.names.now c.loop-name.name-index ≡ Some c.as_slice.result.now =
    slice_get_read c.args.names.now (length c.args.names.now) c.loop-name.name-index c.name-item.result refl c.loop-name-test.true c.name-item.is ∙ ap Some (sym c.as_slice.ensures) in
    let names : take (c.loop-name.name-index + 1) c.args.names.now ≡ take c.loop-name.name-index c.args.names.now ++ (c.as_slice.result.now ∷ [])
    = next_taken c.args.names.now c.loop-name.name-index (c.loop-name.name-index + 1) c.as_slice.result.now (omega arith) at in
    let count : c.len.result ≡ length (take c.loop-name.name-index c.args.names.now) + 1 = (let s = filed.chained.size in search rules) in
    filed_on (take c.loop-name.name-index c.args.names.now)
    (take (c.loop-name.name-index + 1) c.args.names.now) c.loop-name.heads.items c.loop-name.links.items _ c.push.new.self.items c.as_slice.result.now c.bucket_of-bucket.result
    c.index-head.result.now c.len.result
    c.bucket_of-bucket.ensures.bucket lt count head names links refl filed
