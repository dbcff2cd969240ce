use Rattle.std.proofs.Common.{sym, ◌∙◌, inl}
use Rattle.rumpsteak_c.proofs.Codes.{handed_fine}
use Rattle.rumpsteak_c.proofs.answers.rumpsteak_answer.Goals as goal

pub returns-in-Ok-clause-told : goal.returns-in-Ok-clause-told
returns-in-Ok-clause-told c = (c.copy.result, c.number.ensures, inl (c.in-Ok.told, c.in-Ok.ensures.answer, c.copy.ensures))

pub returns-in-Ok-clause-checked : goal.returns-in-Ok-clause-checked
returns-in-Ok-clause-checked c = λ bound spells zero. c.in-Ok.ensures.checked bound spells (handed_fine c.in-Ok.told c.args.out.now c.copy.new.out c.copy.new.written c.copy.result c.copy.ensures (sym c.number.ensures ∙ zero))

pub returns-in-Ok-clause-explained : goal.returns-in-Ok-clause-explained
returns-in-Ok-clause-explained c = λ bound spells zero. c.in-Ok.ensures.explained bound spells (handed_fine c.in-Ok.told c.args.out.now c.copy.new.out c.copy.new.written c.copy.result c.copy.ensures (sym c.number.ensures ∙ zero))

pub returns-in-Ok-clause-verified : goal.returns-in-Ok-clause-verified
returns-in-Ok-clause-verified c = λ spells zero. c.in-Ok.ensures.verified spells (handed_fine c.in-Ok.told c.args.out.now c.copy.new.out c.copy.new.written c.copy.result c.copy.ensures (sym c.number.ensures ∙ zero))
