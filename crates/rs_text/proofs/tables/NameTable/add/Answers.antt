use Rattle.std.proofs.Common.{rules, arith, ◌≡◌, ◌<◌, ◌+◌, [], ◌∷◌, ◌++◌, length, get_or, refl, ◌∙◌}
use Rattle.std.proofs.lemmas.List.{get_or_default}
use Rattle.rs_text.specs.Tables.{AreFiled}
use Rattle.rs_text.proofs.Tabling.{filed_on}
use Rattle.rs_text.proofs.tables.NameTable.add.Goals as goal

pub invariant_of-self-2 : goal.invariant_of-self-2
invariant_of-self-2 c _ =
    let some : 0 < length c.self.inside.heads.items = search rules in
    let filed : AreFiled c.self.inside.names.items c.self.inside.heads.items c.self.inside.links.items = c.self.invariant some in
    let size = filed.buckets in
    let lt = c.bucket_of-bucket.ensures.within in
    let count : c.len-place.result + 1 ≡ length c.self.inside.names.items + 1 = search rules in
    let head : c.index.result.now ≡ get_or c.self.inside.heads.items c.bucket_of-bucket.result 0 =
    c.index.ensures ∙ get_or_default c.self.inside.heads.items c.bucket_of-bucket.result c.index.result.now 0 (omega (arith, size, lt)) in
    let links : c.push-2.new.self.items ≡ c.self.inside.links.items ++ (c.index.result.now ∷ []) = search (rules, c.in_ok-reserve.ensures.items) in
    let names : c.push.new.self.items ≡ c.self.inside.names.items ++ (c.args.word.now ∷ []) = search rules in
    filed_on c.self.inside.names.items c.push.new.self.items c.self.inside.heads.items c.self.inside.links.items _ c.push-2.new.self.items c.args.word.now c.bucket_of-bucket.result c.index.result.now
    (c.len-place.result + 1)
    c.bucket_of-bucket.ensures.bucket lt count head names links refl filed
