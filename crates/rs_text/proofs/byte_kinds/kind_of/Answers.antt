use Rattle.std.proofs.Common.{arith}
use Rattle.rs_text.specs.declared.byte_kinds.ByteKind.TheVariants as kind
use Rattle.rs_text.proofs.KindTable.{kind_read}
use Rattle.rs_text.proofs.byte_kinds.kind_of.Goals as goal

pub returns : goal.returns
returns c = kind_read c.args.byte kind.Letter (omega arith)
