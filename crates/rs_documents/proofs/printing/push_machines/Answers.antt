use Rattle.rs_documents.proofs.Lines.{next_behind, own_shown}
use Rattle.rs_documents.proofs.printing.push_machines.Goals as goal

pub push_own-requires-clause-shown : goal.push_own-requires-clause-shown
push_own-requires-clause-shown c = own_shown c.args.names.now c.args.machines.now c.loop-own.own-index c.own-item.result c.loop-own-test.true c.own-item.is c.requires.shown

pub loop-own-preserved : goal.loop-own-preserved
loop-own-preserved c =
    next_behind c.args.names.now c.args.machines.now c.loop-own.own-index c.own-item.result c.args.text.now c.loop-own.text c.push_own.new.text c.loop-own-test.true c.own-item.is
    c.loop-own.invariant c.in_ok-push_own.ensures
