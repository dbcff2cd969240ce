use Rattle.std.proofs.Common.{rules, ◌≡◌, ◌<◌, length, sym, ap, ◌∙◌, subst, arith}
use Rattle.rs_bodies.specs.Printing.{Printer_data, next_printer}
use Rattle.rs_bodies.proofs.BackFlags.{flags_are_back}
use Rattle.rs_bodies.proofs.EndsLast.{end_is_last}
use Rattle.rs_bodies.proofs.Few.{spelt_few}
use Rattle.rs_bodies.proofs.Printed.{Goes, goes_first, goes_on, goes_to, turned_longer}
use Rattle.rs_bodies.proofs.printing.print_body.Goals as goal

pub loop-printer-init : goal.loop-printer-init
loop-printer-init g c =
    let p = g.G.NumberedGraph.places c.args.graph.now in
    let root = g.G.NumberedGraph.root c.args.graph.now in
    subst (λ (d : Printer_data). Goes g.G.NumberedGraph.dialect c.args.names.now p root c.args.text d) (sym (c.new-printer.ensures ∙ (search rules)))
    (goes_first g.G.NumberedGraph.dialect c.args.names.now p root c.in_ok-flags.flags.items c.args.text (flags_are_back p c.in_ok-flags.flags.items (search rules)))

pub loop-printer-preserved : goal.loop-printer-preserved
loop-printer-preserved g c =
    let p = g.G.NumberedGraph.places c.args.graph.now in
    let root = g.G.NumberedGraph.root c.args.graph.now in
    subst (λ (d : Printer_data). Goes g.G.NumberedGraph.dialect c.args.names.now p root c.args.text d) (sym c.in_ok-turn.ensures.state)
    (goes_on g.G.NumberedGraph.dialect c.args.names.now p root c.args.text c.loop-printer.printer (end_is_last g.G.NumberedGraph.dialect p root c.requires) c.loop-printer.invariant)

pub loop-printer-smaller : goal.loop-printer-smaller
loop-printer-smaller g c =
    let p = g.G.NumberedGraph.places c.args.graph.now in
    let more : length c.loop-printer.printer.text < length (next_printer p c.loop-printer.printer).text = turned_longer p c.loop-printer.printer (sym c.is_left.ensures ∙ c.loop-printer-test.true) in
    let same : length c.turn.new.self.text ≡ length (next_printer p c.loop-printer.printer).text = ap (λ (d : Printer_data). length d.text) c.in_ok-turn.ensures.state in
    let small = c.in_ok-turn.ensures.size in
    omega arith

pub returns : goal.returns
returns g c =
    λ body draws. ap (λ (d : Printer_data). d.text) c.printer.view_is
    ∙ goes_to g.G.NumberedGraph.dialect c.args.names.now (g.G.NumberedGraph.places c.args.graph.now)
    (g.G.NumberedGraph.root c.args.graph.now) c.args.text c.loop-printer.printer c.loop-printer.invariant
    (sym c.is_left.ensures ∙ c.loop-printer-test.false) body draws

pub gone_back_to-requires : goal.gone_back_to-requires
gone_back_to-requires g c = spelt_few g.G.NumberedGraph.dialect (g.G.NumberedGraph.places c.args.graph.now) (g.G.NumberedGraph.root c.args.graph.now) c.requires
