use Rattle.std.proofs.Common.{rules, arith, sym, ap, ◌∙◌, eqb-true, eq-eqb}
use Rattle.rs_text.specs.Eights.{word_at}
use Rattle.rs_text.proofs.Eights.{eight_more, eight_all}
use Rattle.rs_text.proofs.names.are_words_equal.Goals as goal

pub loop-left-preserved : goal.loop-left-preserved
loop-left-preserved c =
    let same = sym c.word_at.ensures ∙ c.if-word_at.false ∙ c.word_at-in-loop-left.ensures in
    (omega arith, eight_more c.args.one.now c.args.other.now _ c.loop-left.left (omega arith) c.loop-left.invariant.0 c.requires.size (search rules) (search rules) same c.loop-left.invariant.1)

pub returns : goal.returns
returns c = (
  (λ e. eight_all c.args.one.now c.args.other.now c.loop-left.left c.loop-left-test.false c.requires.many c.requires.size (search rules) (search rules) c.loop-left.invariant.1
      (sym c.word_at-2.ensures ∙ eqb-true c.word_at-2.result c.word_at-3.result e ∙ c.word_at-3.ensures)),
  (λ e. eq-eqb c.word_at-2.result c.word_at-3.result (c.word_at-2.ensures ∙ ap (λ z. word_at z 0) e ∙ sym c.word_at-3.ensures)),
)
