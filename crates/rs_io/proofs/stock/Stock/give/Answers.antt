use Rattle.std.proofs.Common.{rules, ◌≡◌, ◌≤◌, length, drop, take}
use Rattle.rs_io.proofs.Pieces.{moved_front}
use Rattle.rs_io.proofs.stock.Stock.give.Goals as goal

pub returns-clause-moved : goal.returns-clause-moved
returns-clause-moved c =
    let left = c.split_at.result.1.now in
    let count = c.min-count.result in
    let now_is : c.args.self.now ≡ drop c.self.inside.at c.self.inside.bytes.items = search rules in
    let left_is : left ≡ drop c.self.inside.at c.self.inside.bytes.items = search rules in
    let within : count ≤ length left = search rules in
    let copied : c.copy_from_slice.new.self ≡ take count left = search rules in
    moved_front c.args.self.now left c.copy_from_slice.new.self _ c.self.inside.bytes.items c.self.inside.at count now_is left_is within copied
