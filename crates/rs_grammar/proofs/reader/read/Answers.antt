use Rattle.std.proofs.Common.{◌≡◌, ◌∙◌, ap, rules}
use Rattle.rs_grammar.proofs.Exact.{loop_read, loop_stops, start_of}
use Rattle.rs_grammar.proofs.reader.read.Goals as goal

pub returns-clause-ok : goal.returns-clause-ok
returns-clause-ok g c =
    let first : c.new-reader.result ≡ start_of c.args.builder = c.new-reader.ensures ∙ ap (λ z. record { place = z; value = c.args.builder }) c.requires.begin in
    loop_read g.B.Builder.grammar g.B.Builder.building c.args.builder c.new-reader.result c.read_tokens-result.new.reader c.reader.inside.builder c.args.bytes.now c.args.at c.read_tokens-result.result
    g.B.Builder.readable c.requires.at first (search rules) c.read_tokens-result.ensures.ok

pub returns-clause-err : goal.returns-clause-err
returns-clause-err g c =
    let first : c.new-reader.result ≡ start_of c.args.builder = c.new-reader.ensures ∙ ap (λ z. record { place = z; value = c.args.builder }) c.requires.begin in
    loop_stops g.B.Builder.grammar g.B.Builder.building c.args.builder c.new-reader.result c.args.bytes.now c.args.at c.read_tokens-result.result g.B.Builder.readable c.requires.at first
    c.read_tokens-result.ensures.err
