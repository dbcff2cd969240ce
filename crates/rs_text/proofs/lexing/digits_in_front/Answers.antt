use Rattle.rs_text.proofs.Values.{number_is_in_front}
use Rattle.rs_text.proofs.lexing.digits_in_front.Goals as goal

pub loop-place-init : goal.loop-place-init
loop-place-init c = number_is_in_front c.args.bytes.now
