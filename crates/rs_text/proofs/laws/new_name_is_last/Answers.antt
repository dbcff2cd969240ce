use Rattle.rs_text.proofs.Naming.{place_of_new}
use Rattle.rs_text.proofs.laws.new_name_is_last.Goals as goal

pub returns : goal.returns
returns c = λ name names h. place_of_new names name h
