use Rattle.std.proofs.Common.{◌∙◌, ap, option_map}
use Rattle.std.proofs.lemmas.Option.{slice_get-map, slice_get-get_or}
use Rattle.rs_calls.proofs.Splitting.{no_text}
use Rattle.rs_calls.proofs.words.strings.Goals as goal

pub returns-in-None-clause-none : goal.returns-in-None-clause-none
returns-in-None-clause-none c =
    let told = no_text _ _ c.in-None.is c.in_ok-word.ensures.none in
    let here = slice_get-get_or c.args.pieces.now c.loop-piece.piece-index _ c.loop-piece-test.true in
    (c.loop-piece.piece-index, _, slice_get-map (λ x. x.now) c.args.pieces.now c.loop-piece.piece-index ∙ ap (option_map (λ x. x.now)) here, told)
